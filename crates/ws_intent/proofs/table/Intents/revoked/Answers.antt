use Rattle.std.proofs.Common.{refl, subst, sym}
use Rattle.std.proofs.lemmas.Result.{on_ok_weaker}
use Rattle.ws_intent.specs.Rows.{Rows}
use Rattle.ws_intent.specs.Stands.{StandsFor}
use Rattle.ws_intent.proofs.Changes.{revoked_stands}
use Rattle.ws_intent.proofs.table.Intents.revoked.Goals as goal

pub returns-clause-stands : goal.returns-clause-stands
returns-clause-stands c =
    on_ok_weaker c.put.result
    (λ look h e s l is lives. revoked_stands (record { pending = c.self.inside.pending; notices = c.self.inside.notices.entries }) (record { pending = c.self.inside.pending; notices = c.put.new.notices.entries }) c.args.intent c.args.reason refl look
    h e (subst (λ (r : Rows). StandsFor r h) (sym c.self.view_is) s) l is lives)
    c.put.ensures.rows
