-- Known bytes over several calls.
use Rattle.std.proofs.Common.{◌≡◌, ℕ, List, [], ◌++◌, sym, ap, ◌∙◌, append_assoc, Option, Some, None}
use Rattle.std.proofs.lemmas.List.{append-nil}
use Rattle.std.proofs.lemmas.Option.{same_Some}
use Rattle.std.specs.Io.KnownBytes.{Consumes, Appends}

pub Appends-then : (a b c : Option (List ℕ)) (xs ys : List ℕ) → Appends a b xs → Appends b c ys → Appends a c (xs ++ ys)
Appends-then None b c xs ys p q = tt
Appends-then (Some u) None c xs ys p q = absurd p
Appends-then (Some u) (Some v) None xs ys p q = absurd q
Appends-then (Some u) (Some v) (Some w) xs ys p q = q ∙ ap (λ z. z ++ ys) p ∙ append_assoc u xs ys

pub Appends-none : (a b : Option (List ℕ)) → b ≡ a → Appends a b []
Appends-none None b e = tt
Appends-none (Some u) None e = cc
Appends-none (Some u) (Some v) e = same_Some _ _ e ∙ sym (append-nil u)

pub Consumes-then : (a b c : Option (List ℕ)) (xs ys : List ℕ) → Consumes a b xs → Consumes b c ys → Consumes a c (xs ++ ys)
Consumes-then None b c xs ys p q = tt
Consumes-then (Some u) None c xs ys p q = absurd p
Consumes-then (Some u) (Some v) None xs ys p q = absurd q
Consumes-then (Some u) (Some v) (Some w) xs ys p q = p ∙ ap (λ z. xs ++ z) q ∙ sym (append_assoc xs ys w)

pub Consumes-none : (a b : Option (List ℕ)) → b ≡ a → Consumes a b []
Consumes-none None b e = tt
Consumes-none (Some u) None e = cc
Consumes-none (Some u) (Some v) e = cc
