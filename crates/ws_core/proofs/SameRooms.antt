-- Rooms that are made and given back again.
use Rattle.std.proofs.Common.{◌≡◌, ℕ, Bool, true, false, cond, List, refl, sym, ◌∙◌}
use Rattle.std.specs.Prelude.{None}
use Rattle.std.specs.List.Sorted.{IsStrictlySortedBy}
use Rattle.std.specs.Map.{keys_of}
use Rattle.ws_fate.proofs.SameRows.{ascends, same_pairs}
use Rattle.ws_tries.specs.Rows.{Rows as TryRows, is_listed, pair_order, tries_at}

-- where the listed pairs had none, all is as it was
pub same_rooms :
    (births : List (ℕ × ℕ)) (old made new : TryRows) → IsStrictlySortedBy pair_order (keys_of old) → IsStrictlySortedBy pair_order (keys_of new)
    → ((v n : ℕ) → is_listed v n births ≡ true → tries_at v n old ≡ None)
    → ((v n : ℕ) → is_listed v n births ≡ false → tries_at v n made ≡ tries_at v n old)
    → ((v n : ℕ) → tries_at v n new ≡ cond (is_listed v n births) None (tries_at v n made)) → new ≡ old
same_rooms births old made new s t none others look = same_pairs new old (ascends new t) (ascends old s) (λ n v. look v n ∙ by v n (is_listed v n births) refl)
  where
    by : (v n : ℕ) (b : Bool) → is_listed v n births ≡ b → cond b None (tries_at v n made) ≡ tries_at v n old
    by v n true q = sym (none v n q)
    by v n false q = others v n q
