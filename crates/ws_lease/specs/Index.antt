-- What the index by topics has.
use Rattle.std.specs.Prelude.{◌≡◌, ℕ, Bool, false, List, Option, Some, None, Vec, ◌==◌}
use Rattle.std.specs.Ordering.{nat_cmp}
use Rattle.std.specs.Option.{option_and_then}
use Rattle.std.specs.Cmp.Lexicographic.{slice_cmp}
use Rattle.std.specs.BTreeMap.{BTreeMap, get, get_by}
use Rattle.ws_lease.specs.declared.topic_index.OfTopic.{OfTopic}

-- the number at a callback, among those of one topic
abbrev pub callback_at : List ℕ → OfTopic → Option ℕ
callback_at callback o = get_by (λ k. slice_cmp nat_cmp callback k.items) o.by_callback

-- the end of a number, among those of one topic
abbrev pub end_at : ℕ → OfTopic → Option ℕ
end_at n o = get nat_cmp o.ends n

-- the number at a topic and a callback
abbrev pub pair_at : {Y : Type 0} → BTreeMap (Vec ℕ Y) OfTopic → List ℕ → List ℕ → Option ℕ
pair_at index topic callback = option_and_then (callback_at callback) (get_by (λ k. slice_cmp nat_cmp topic k.items) index)

-- the end of a number, at a topic
abbrev pub topic_end_at : {Y : Type 0} → BTreeMap (Vec ℕ Y) OfTopic → List ℕ → ℕ → Option ℕ
topic_end_at index topic n = option_and_then (end_at n) (get_by (λ k. slice_cmp nat_cmp topic k.items) index)

-- whether it is that number
abbrev pub is_it : Option ℕ → ℕ → Bool
is_it None q = false
is_it (Some n) q = n == q

-- no callback and no number is there
abbrev pub IsWithoutLeases : OfTopic → Type 0
IsWithoutLeases o = ((callback : List ℕ) → callback_at callback o ≡ None) × ((n : ℕ) → end_at n o ≡ None)
