use Rattle.std.proofs.Common.{◌≡◌, refl, ◌∙◌}
use Rattle.ws_model.specs.declared.event.Tally.{Tally as TallyFields}
use Rattle.ws_model.specs.declared.fate.Cause.TheVariants.{Expired, Unsubscribed, Replaced, Gone, Spent, Revoked}
use Rattle.ws_model.specs.declared.fate.Fate.TheVariants.{Answered, Ended}
use Rattle.ws_model.specs.Keep.{tally}
use Rattle.ws_model.specs.Pairs.{pairs}
use Rattle.ws_plain.specs.Past.{past}
use Rattle.ws_plain.proofs.Keeping.{fields_of, forgotten_is, tally_is}
use Rattle.ws_plain.proofs.compaction.tally.Goals as goal

pub returns : goal.returns
returns c =
    let h = past c.args.events.now in
    let t = c.args.t in
    let ps : c.as_slice-pairs.result.now ≡ pairs h = c.as_slice-pairs.ensures.value ∙ c.in_ok-all.ensures in
    let before = c.tally_in-before.ensures in
    let found = c.requires in
    tally_is (fields_of (tally h t).what) t c.serial.result c.intent_number.result c.version_number.result c.forgotten.result c.forgotten-2.result
    c.forgotten-3.result c.forgotten-4.result c.forgotten-5.result c.forgotten-6.result c.forgotten-7.result
    refl c.serial.ensures c.intent_number.ensures c.version_number.ensures
    (forgotten_is Answered (λ (k : TallyFields). k.answered) h t _ _ _ _ refl ps before found c.forgotten.ensures)
    (forgotten_is (Ended Expired) (λ (k : TallyFields). k.expired) h t _ _ _ _ refl ps before found c.forgotten-2.ensures)
    (forgotten_is (Ended Unsubscribed) (λ (k : TallyFields). k.unsubscribed) h t _ _ _ _ refl ps before found c.forgotten-3.ensures)
    (forgotten_is (Ended Replaced) (λ (k : TallyFields). k.replaced) h t _ _ _ _ refl ps before found c.forgotten-4.ensures)
    (forgotten_is (Ended Gone) (λ (k : TallyFields). k.gone) h t _ _ _ _ refl ps before found c.forgotten-5.ensures)
    (forgotten_is (Ended Spent) (λ (k : TallyFields). k.spent) h t _ _ _ _ refl ps before found c.forgotten-6.ensures)
    (forgotten_is (Ended Revoked) (λ (k : TallyFields). k.revoked) h t _ _ _ _ refl ps before found c.forgotten-7.ensures)
