use Rattle.std.proofs.Common.{◌≡◌, ◌<◌, suc, subst, ap, sym, ◌∙◌, refl, cond, Some, None, false, List, ℕ, arith, add-one}
use Rattle.std.specs.Prelude.{bytes_eq, nat_le}
use Rattle.std.specs.Option.{option_copied_mut}
use Rattle.std.specs.Map.{keys_of}
use Rattle.ws_topic.specs.ByTopic.{IsAscending, at_topic, by_bytes}
use Rattle.ws_topic.specs.Rows.{after_miss, is_last, missed, missed_once, missed_row}
use Rattle.ws_topic.proofs.Keyed.{ascending, bytes_set, found_at, missed_is, none_row, not_last, nothing, room, rows_change, set_missed}
use Rattle.ws_topic.proofs.fetches.miss_more.Goals as goal
use Rattle.ws_topic.proofs.fetches.miss_more.Goals.{In-Some, In_default}

there : (c : In-Some) → at_topic c.args.topic.now (by_bytes c.args.by_topic.now.entries) ≡ Some c.in-Some.fetch.now
there c = sym (found_at c.args.topic.now c.args.by_topic.now.entries) ∙ sym c.in-Some.ensures.value

more : (c : In-Some) → nat_le 3 (suc c.in-Some.fetch.now.missed) ≡ false
more c = not_last (at_topic c.args.topic.now (by_bytes c.args.by_topic.now.entries)) c.in-Some.fetch.now (there c) c.requires.more

pub overflow_add-fetch : goal.overflow_add-fetch
overflow_add-fetch c =
    let k : c.in-Some.fetch.now.missed < 2 = room c.in-Some.fetch.now.missed (more (goal.at.overflow_add-fetch c).In-Some) in
    omega arith

pub returns-in-Some-clause-entries : goal.returns-in-Some-clause-entries
returns-in-Some-clause-entries c =
    let s = (goal.at.returns-in-Some-clause-entries c).In-Some in
    rw (add-one)
    (ap by_bytes (c.get_mut.follows.holds (missed_once c.in-Some.fetch.now)).0
    ∙ bytes_set c.args.topic.now c.args.by_topic.now.entries (missed_once c.in-Some.fetch.now)
    ∙ set_missed c.args.topic.now (by_bytes c.args.by_topic.now.entries) c.in-Some.fetch.now (there s) (more s))

pub returns-in-Some-clause-rows : goal.returns-in-Some-clause-rows
returns-in-Some-clause-rows c =
    let s = (goal.at.returns-in-Some-clause-rows c).In-Some in
    rw (add-one)
    (λ q. rows_change c.args.topic.now c.args.by_topic.now (c.get_mut.follows.lender (missed_once c.in-Some.fetch.now)) (Some (missed_once c.in-Some.fetch.now))
    ((c.get_mut.follows.holds (missed_once c.in-Some.fetch.now)).3 (rw (← c.in-Some.ensures.value) refl)) q
    ∙ ap (λ o. cond (bytes_eq q c.args.topic.now) o (at_topic q (by_bytes c.args.by_topic.now.entries))) (missed_is (at_topic c.args.topic.now (by_bytes c.args.by_topic.now.entries)) c.in-Some.fetch.now (there s) (more s)))

pub returns-in-Some-clause-ordered : goal.returns-in-Some-clause-ordered
returns-in-Some-clause-ordered c =
    rw (add-one) (ascending (c.get_mut.follows.lender (missed_once c.in-Some.fetch.now)).entries (c.get_mut.follows.holds (missed_once c.in-Some.fetch.now)).4)

none_there : (c : In_default) → at_topic c.args.topic.now (by_bytes c.args.by_topic.now.entries) ≡ None
none_there c = sym (found_at c.args.topic.now c.args.by_topic.now.entries) ∙ sym c.get_mut.ensures.value ∙ ap option_copied_mut (nothing c.get_mut.result c.in_default.not-Some)

pub returns-in_default-clause-entries : goal.returns-in_default-clause-entries
returns-in_default-clause-entries c =
    let s = (goal.at.returns-in_default-clause-entries c).In_default in
    ap (λ m. by_bytes m.entries) c.get_mut.follows.holds-at-none ∙ sym (ap (missed_row c.args.topic.now (by_bytes c.args.by_topic.now.entries)) (none_there s))

pub returns-in_default-clause-rows : goal.returns-in_default-clause-rows
returns-in_default-clause-rows c =
    let s = (goal.at.returns-in_default-clause-rows c).In_default in
    λ q. ap (λ m. at_topic q (by_bytes m.entries)) c.get_mut.follows.holds-at-none
    ∙ none_row c.args.topic.now (by_bytes c.args.by_topic.now.entries) q (none_there s)
    ∙ ap (λ o. cond (bytes_eq q c.args.topic.now) (missed o) (at_topic q (by_bytes c.args.by_topic.now.entries))) (sym (none_there s))

pub returns-in_default-clause-ordered : goal.returns-in_default-clause-ordered
returns-in_default-clause-ordered c = subst (λ m. IsAscending (keys_of (by_bytes m.entries))) (sym c.get_mut.follows.holds-at-none) (ascending c.args.by_topic.now.entries c.get_mut.ensures.ordered)
