-- The kept versions and the count of their bytes together, after a change.
use Rattle.std.proofs.Common.{◌≡◌, ℕ, ◌+◌, ◌-◌, ◌≤◌, List, refl, ap, sym, ◌∙◌, arith, Option, Some, None}
use Rattle.std.specs.Option.{option_map, unwrap_or}
use Rattle.std.specs.List.{sum_by}
use Rattle.std.specs.List.Sorted.{IsStrictlySortedBy}
use Rattle.std.specs.Map.{keys_of, remove_entry, values_of}
use Rattle.std.specs.BTreeMap.{insert_entry, is_at}
use Rattle.std.specs.Ordering.{nat_cmp}
use Rattle.std.specs.Cmp.{nat_cmp_total}
use Rattle.std.proofs.lemmas.Map.Entries.{sum_by-insert_entry, sum_by-remove_entry}
use Rattle.ws_model.specs.declared.event.Version.{Version}
use Rattle.ws_topic.specs.ByTopic.{IsAscending}
use Rattle.ws_topic.specs.Rows.{number_at, size, size_at, with_row, without}
use Rattle.ws_topic.specs.Stored.{IsStored}

pub stored_more : (old new : List (ℕ × Version)) (latest numbers : List (List ℕ × ℕ)) (c d : ℕ) (v : Version) → IsStored old latest c → number_at v.ver old ≡ None
    → new ≡ with_row v.ver v old → IsStrictlySortedBy nat_cmp (keys_of new) → IsAscending (keys_of numbers) → d ≡ c + size v → IsStored new numbers d
stored_more old new latest numbers c d v s none e ordered up count = record { ordered = ordered; ascending = up; counted = counted }
  where
    counted : d ≡ sum_by size (values_of new)
    counted =
        let a = sum_by-insert_entry size nat_cmp_total old v.ver v s.ordered in
        let b : unwrap_or (option_map size (number_at v.ver old)) 0 ≡ 0 = ap (λ o. unwrap_or (option_map size o) 0) none in
        let f : sum_by size (values_of new) ≡ sum_by size (values_of (insert_entry nat_cmp old v.ver v)) = ap (λ es. sum_by size (values_of es)) e in
        let h : c ≡ sum_by size (values_of old) = s.counted in
        let k : d ≡ c + size v = count in
        omega (arith, a)

size_is : (o : Option Version) → unwrap_or (option_map size o) 0 ≡ size_at o
size_is None = refl
size_is (Some v) = refl

pub size_less : (old : List (ℕ × Version)) (n c : ℕ) → c ≡ sum_by size (values_of old) → sum_by size (values_of (remove_entry (is_at (nat_cmp n)) old)) + size_at (number_at n old) ≡ c
size_less old n c h =
    let a = sum_by-remove_entry size (is_at (nat_cmp n)) old in
    let b : unwrap_or (option_map size (number_at n old)) 0 ≡ size_at (number_at n old) = size_is (number_at n old) in
    omega (arith, a)

pub stored_less : (old new : List (ℕ × Version)) (latest : List (List ℕ × ℕ)) (c n freed : ℕ) → IsStored old latest c → freed ≡ size_at (number_at n old) → new ≡ without n old → IsStrictlySortedBy nat_cmp (keys_of new) → IsStored new latest (c - freed)
stored_less old new latest c n freed s e f ordered = record { ordered = ordered; ascending = s.ascending; counted = counted }
  where
    counted : c - freed ≡ sum_by size (values_of new)
    counted =
        let a : sum_by size (values_of (remove_entry (is_at (nat_cmp n)) old)) + size_at (number_at n old) ≡ c = size_less old n c s.counted in
        let g : sum_by size (values_of new) ≡ sum_by size (values_of (remove_entry (is_at (nat_cmp n)) old)) = ap (λ es. sum_by size (values_of es)) f in
        let k : freed ≡ size_at (number_at n old) = e in
        omega arith
