use Rattle.std.proofs.Common.{ap, sym, ◌∙◌, refl, Some, None}
use Rattle.ws_fate.specs.declared.totals.Standing.TheVariants.{Open, Answered, Ended}
use Rattle.ws_fate.specs.Rows.{standing_at}
use Rattle.ws_ledger.specs.Rows.{Rows}
use Rattle.ws_ledger.proofs.FateOf.{fate_told}
use Rattle.ws_ledger.proofs.whole.Ledger.fate.Goals as goal

pub returns-in-Some-Open : goal.returns-in-Some-Open
returns-in-Some-Open c =
    record {
      stands = λ h since s l k.
          fate_told h since c.args.t c.args.ver c.args.lease c.args.self.now l s k (Some Open)
          (ap (λ (r : Rows). standing_at c.args.ver c.args.lease r.fates) (sym c.self.view_is) ∙ sym c.get.ensures ∙ c.in-Some-Open.is ∙ ap (λ x. Some x) c.in-Some-Open.field-0-is)
          c.open_fate.result c.open_fate.ensures;
    }

pub returns-in-Some-Answered : goal.returns-in-Some-Answered
returns-in-Some-Answered c =
    record {
      stands = λ h since s l k.
          fate_told h since c.args.t c.args.ver c.args.lease c.args.self.now l s k (Some Answered)
          (ap (λ (r : Rows). standing_at c.args.ver c.args.lease r.fates) (sym c.self.view_is) ∙ sym c.get.ensures ∙ c.in-Some-Answered.is ∙ ap (λ x. Some x) c.in-Some-Answered.field-0-is)
          _ refl;
    }

pub returns-in-Some-Ended : goal.returns-in-Some-Ended
returns-in-Some-Ended c =
    record {
      stands = λ h since s l k.
          fate_told h since c.args.t c.args.ver c.args.lease c.args.self.now l s k (Some (Ended c.in-Some-Ended.cause))
          (ap (λ (r : Rows). standing_at c.args.ver c.args.lease r.fates) (sym c.self.view_is) ∙ sym c.get.ensures ∙ c.in-Some-Ended.is ∙ ap (λ x. Some x) c.in-Some-Ended.field-0-is)
          _ refl;
    }

pub returns-in-None : goal.returns-in-None
returns-in-None c =
    record {
      stands = λ h since s l k.
          fate_told h since c.args.t c.args.ver c.args.lease c.args.self.now l s k None
          (ap (λ (r : Rows). standing_at c.args.ver c.args.lease r.fates) (sym c.self.view_is) ∙ sym c.get.ensures ∙ c.in-None.is)
          _ refl;
    }
