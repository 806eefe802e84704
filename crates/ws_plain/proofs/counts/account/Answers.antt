use Rattle.std.proofs.Common.{◌≡◌, refl, ap, ◌∙◌, arith, length}
use Rattle.ws_model.specs.declared.event.Tally.{Tally}
use Rattle.ws_model.specs.declared.fate.Cause.TheVariants.{Expired, Unsubscribed, Replaced, Gone, Spent, Revoked}
use Rattle.ws_model.specs.declared.fate.Fate.TheVariants.{Answered, Ended}
use Rattle.ws_model.specs.Account.{account}
use Rattle.ws_model.specs.Pairs.{pairs}
use Rattle.ws_plain.specs.Past.{past}
use Rattle.ws_plain.proofs.Totals.{account_is, total_is}
use Rattle.ws_plain.proofs.counts.account.Goals as goal

pub returns : goal.returns
returns c =
    let h = past c.args.events.now in
    let t = c.args.t in
    let ps : c.as_slice-pairs.result.now ≡ pairs h = c.as_slice-pairs.ensures.value ∙ c.in_ok-all.ensures in
    let tally = c.tally_in-tally.ensures in
    account_is (account h t) c.len.result c.len-2.result c.len-3.result c.len-4.result c.len-5.result c.len-6.result
    c.total.result c.ended.result c.ended-2.result c.ended-3.result c.ended-4.result c.ended-5.result c.ended-6.result
    (omega (arith, c.len.ensures, c.in_ok-pending.field-0.ok.0, ap length c.in_ok-pending.ensures))
    (omega (arith, c.len-2.ensures, c.in_ok-notices.field-0.ok.0, ap length c.in_ok-notices.ensures))
    (omega (arith, c.len-3.ensures, c.in_ok-live.field-0.ok.0, ap length c.in_ok-live.ensures))
    (omega (arith, c.len-4.ensures, c.in_ok-latest.field-0.ok.0, ap length c.in_ok-latest.ensures))
    (omega (arith, c.len-5.ensures, c.in_ok-fetches.field-0.ok.0, ap length c.in_ok-fetches.ensures))
    (omega (arith, c.len-6.ensures, c.in_ok-owed.field-0.ok.0, ap length c.in_ok-owed.ensures))
    (total_is Answered (λ (k : Tally). k.answered) h t _ _ _ refl ps tally c.total.ensures)
    (total_is (Ended Expired) (λ (k : Tally). k.expired) h t _ _ _ refl ps tally c.ended.ensures)
    (total_is (Ended Unsubscribed) (λ (k : Tally). k.unsubscribed) h t _ _ _ refl ps tally c.ended-2.ensures)
    (total_is (Ended Replaced) (λ (k : Tally). k.replaced) h t _ _ _ refl ps tally c.ended-3.ensures)
    (total_is (Ended Gone) (λ (k : Tally). k.gone) h t _ _ _ refl ps tally c.ended-4.ensures)
    (total_is (Ended Spent) (λ (k : Tally). k.spent) h t _ _ _ refl ps tally c.ended-5.ensures)
    (total_is (Ended Revoked) (λ (k : Tally). k.revoked) h t _ _ _ refl ps tally c.ended-6.ensures)
