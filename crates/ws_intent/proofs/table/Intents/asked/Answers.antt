use Rattle.std.proofs.Common.{refl, subst, sym}
use Rattle.std.specs.Prelude.{IsSome}
use Rattle.std.proofs.lemmas.Result.{on_ok_weaker}
use Rattle.ws_intent.specs.Rows.{Rows, number_at}
use Rattle.ws_intent.specs.Stands.{StandsFor}
use Rattle.ws_intent.proofs.Changes.{asked_stands}
use Rattle.ws_intent.proofs.table.Intents.asked.Goals as goal

pub add-requires : goal.add-requires
add-requires c = record { above = λ q k. c.requires.above q (subst (λ (r : Rows). IsSome (number_at q r.pending)) c.self.view_is k) }

pub returns-clause-stands : goal.returns-clause-stands
returns-clause-stands c =
    on_ok_weaker c.add.result
    (λ look h e s l is. asked_stands (record { pending = c.self.inside.pending; notices = c.self.inside.notices.entries }) (record { pending = c.add.new.self; notices = c.self.inside.notices.entries }) c.args.intent look refl
    h e (subst (λ (r : Rows). StandsFor r h) (sym c.self.view_is) s) l is)
    c.add.ensures.look
