use Rattle.std.proofs.Common.{ap, ◌∙◌, find, not}
use Rattle.ws_model.specs.Due.{is_out}
use Rattle.ws_model.specs.declared.work.Work.TheVariants.{Verify}
use Rattle.ws_intent.specs.Index.{has_in}
use Rattle.ws_intent.specs.Rows.{first_numbers}
use Rattle.ws_intent.proofs.Firsts.{firsts_are}
use Rattle.ws_intent.proofs.pending.Pending.first_due.Goals as goal

pub returns-clause-first : goal.returns-clause-first
returns-clause-first c =
    c.first_free.ensures
    ∙ ap (λ xs. find (λ n. not (is_out c.args.held.now (Verify n))) xs)
    (firsts_are c.self.inside.by_number.entries c.self.invariant.rows (has_in c.self.inside.by_pair) c.self.inside.firsts c.self.invariant.tracked
    ∙ ap first_numbers c.self.view_is)
