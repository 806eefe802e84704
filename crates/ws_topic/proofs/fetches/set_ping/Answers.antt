use Rattle.std.proofs.Common.{◌≡◌, subst, ap, sym, ◌∙◌, refl, cond, Some, None}
use Rattle.std.specs.Prelude.{bytes_eq, option_map}
use Rattle.std.specs.Option.{option_copied_mut}
use Rattle.std.specs.Map.{keys_of}
use Rattle.ws_topic.specs.ByTopic.{IsAscending, at_topic, by_bytes}
use Rattle.ws_topic.specs.Restored.{restored_row, with_ping}
use Rattle.ws_topic.proofs.Keyed.{ascending, bytes_set, found_at, none_row, nothing, rows_change}
use Rattle.ws_topic.proofs.fetches.set_ping.Goals as goal
use Rattle.ws_topic.proofs.fetches.set_ping.Goals.{In-Some, In_default}

there : (c : In-Some) → at_topic c.args.topic.now (by_bytes c.args.by_topic.now.entries) ≡ Some c.in-Some.fetch.now
there c = sym (found_at c.args.topic.now c.args.by_topic.now.entries) ∙ sym c.in-Some.ensures.value

pub returns-in-Some-clause-entries : goal.returns-in-Some-clause-entries
returns-in-Some-clause-entries c =
    let s = (goal.at.returns-in-Some-clause-entries c).In-Some in
    ap by_bytes (c.get_mut.follows.holds (with_ping c.args.ping c.in-Some.fetch.now)).0
    ∙ bytes_set c.args.topic.now c.args.by_topic.now.entries (with_ping c.args.ping c.in-Some.fetch.now)
    ∙ sym (ap (restored_row c.args.topic.now c.args.ping (by_bytes c.args.by_topic.now.entries)) (there s))

pub returns-in-Some-clause-rows : goal.returns-in-Some-clause-rows
returns-in-Some-clause-rows c =
    let s = (goal.at.returns-in-Some-clause-rows c).In-Some in
    λ q. rows_change c.args.topic.now c.args.by_topic.now (c.get_mut.follows.lender (with_ping c.args.ping c.in-Some.fetch.now)) (Some (with_ping c.args.ping c.in-Some.fetch.now))
    ((c.get_mut.follows.holds (with_ping c.args.ping c.in-Some.fetch.now)).3 (rw (← c.in-Some.ensures.value) refl)) q
    ∙ ap (λ o. cond (bytes_eq q c.args.topic.now) (option_map (with_ping c.args.ping) o) (at_topic q (by_bytes c.args.by_topic.now.entries))) (sym (there s))

pub returns-in-Some-clause-ordered : goal.returns-in-Some-clause-ordered
returns-in-Some-clause-ordered c = ascending (c.get_mut.follows.lender (with_ping c.args.ping c.in-Some.fetch.now)).entries (c.get_mut.follows.holds (with_ping c.args.ping c.in-Some.fetch.now)).4

none_there : (c : In_default) → at_topic c.args.topic.now (by_bytes c.args.by_topic.now.entries) ≡ None
none_there c = sym (found_at c.args.topic.now c.args.by_topic.now.entries) ∙ sym c.get_mut.ensures.value ∙ ap option_copied_mut (nothing c.get_mut.result c.in_default.not-Some)

pub returns-in_default-clause-entries : goal.returns-in_default-clause-entries
returns-in_default-clause-entries c =
    let s = (goal.at.returns-in_default-clause-entries c).In_default in
    ap (λ m. by_bytes m.entries) c.get_mut.follows.holds-at-none ∙ sym (ap (restored_row c.args.topic.now c.args.ping (by_bytes c.args.by_topic.now.entries)) (none_there s))

pub returns-in_default-clause-rows : goal.returns-in_default-clause-rows
returns-in_default-clause-rows c =
    let s = (goal.at.returns-in_default-clause-rows c).In_default in
    λ q. ap (λ m. at_topic q (by_bytes m.entries)) c.get_mut.follows.holds-at-none
    ∙ none_row c.args.topic.now (by_bytes c.args.by_topic.now.entries) q (none_there s)
    ∙ ap (λ o. cond (bytes_eq q c.args.topic.now) (option_map (with_ping c.args.ping) o) (at_topic q (by_bytes c.args.by_topic.now.entries))) (sym (none_there s))

pub returns-in_default-clause-ordered : goal.returns-in_default-clause-ordered
returns-in_default-clause-ordered c = subst (λ m. IsAscending (keys_of (by_bytes m.entries))) (sym c.get_mut.follows.holds-at-none) (ascending c.args.by_topic.now.entries c.get_mut.ensures.ordered)
