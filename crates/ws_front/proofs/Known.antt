-- Known bytes over several calls.
use Rattle.std.proofs.Common.{◌≡◌, ℕ, ◌+◌, ◌-◌, ◌≤◌, List, [], ◌++◌, length, take, drop, sym, ap, ◌∙◌, subst, append_assoc, Option, Some, None, Result, Ok, Err, OnErr}
use Rattle.std.proofs.lemmas.List.{append-nil, take-take}
use Rattle.std.proofs.lemmas.Option.{same_Some}
use Rattle.std.proofs.Math.Seq.{take-add}
use Rattle.std.specs.Io.KnownBytes.{Consumes, Appends, IsAtEnd}
use Rattle.ws_front.specs.Moves.{IsAll}

pub Appends-then : (a b c : Option (List ℕ)) (xs ys : List ℕ) → Appends a b xs → Appends b c ys → Appends a c (xs ++ ys)
Appends-then None b c xs ys p q = tt
Appends-then (Some u) None c xs ys p q = absurd p
Appends-then (Some u) (Some v) None xs ys p q = absurd q
Appends-then (Some u) (Some v) (Some w) xs ys p q = q ∙ ap (λ z. z ++ ys) p ∙ append_assoc u xs ys

pub Appends-none : (a b : Option (List ℕ)) → b ≡ a → Appends a b []
Appends-none None b e = tt
Appends-none (Some u) None e = cc
Appends-none (Some u) (Some v) e = same_Some _ _ e ∙ sym (append-nil u)

pub Consumes-then : (a b c : Option (List ℕ)) (xs ys : List ℕ) → Consumes a b xs → Consumes b c ys → Consumes a c (xs ++ ys)
Consumes-then None b c xs ys p q = tt
Consumes-then (Some u) None c xs ys p q = absurd p
Consumes-then (Some u) (Some v) None xs ys p q = absurd q
Consumes-then (Some u) (Some v) (Some w) xs ys p q = p ∙ ap (λ z. xs ++ z) q ∙ sym (append_assoc xs ys w)

pub Consumes-none : (a b : Option (List ℕ)) → b ≡ a → Consumes a b []
Consumes-none None b e = tt
Consumes-none (Some u) None e = cc
Consumes-none (Some u) (Some v) e = cc

pub always_err : {T E P : Type 0} (r : Result T E) → P → OnErr r P
always_err (Ok x) p = tt
always_err (Err e) p = p

-- the part of the bytes that is given grows
pub given_more : (a b c : Option (List ℕ)) (bytes : List ℕ) (at n : ℕ) → n ≤ length bytes - at → Appends a b (take at bytes) → Appends b c (take n (take (length bytes - at) (drop at bytes))) → Appends a c (take (at + n) bytes)
given_more a b c bytes at n h p q =
    let e : take at bytes ++ take n (take (length bytes - at) (drop at bytes)) ≡ take (at + n) bytes = ap (λ z. take at bytes ++ z) (take-take n (length bytes - at) (drop at bytes) h) ∙ sym (take-add at n bytes) in
    subst (Appends a c) e (Appends-then a b c _ _ p q)

pub Consumes-nothing : (a b : Option (List ℕ)) (n : ℕ) (xs : List ℕ) → n ≡ 0 → Consumes a b (take n xs) → Consumes a b []
Consumes-nothing a b n xs e p = subst (λ (k : ℕ). Consumes a b (take k xs)) e p

-- what was read is all, where nothing is left
pub Consumes-all : (a m : Option (List ℕ)) (bytes : List ℕ) → Consumes a m bytes → IsAtEnd m → IsAll a bytes
Consumes-all None m bytes p e = tt
Consumes-all (Some xs) None bytes p e = absurd p
Consumes-all (Some xs) (Some ys) bytes p e = sym (p ∙ ap (λ (t : List ℕ). bytes ++ t) e ∙ append-nil bytes)
