-- The versions that are owed to some lease are those of the history.
use Rattle.std.proofs.Common.{◌≡◌, ℕ, ◌≤◌, Bool, true, false, cond, ◌&&◌, ◌||◌, List, [], ◌∷◌, refl, ap, sym, ◌∙◌, arith}
use Rattle.std.specs.Prelude.{filter, map, nat_lt, ◌==◌, is_some}
use Rattle.std.specs.List.{list_any}
use Rattle.std.specs.List.Sorted.{IsStrictlySortedBy}
use Rattle.std.specs.Map.{keys_of}
use Rattle.std.proofs.lemmas.Bool.{false≢true, or_left, or_right}
use Rattle.std.proofs.lemmas.Bool.Decides.{nat_tests}
use Rattle.ws_model.specs.declared.event.Event.{Event}
use Rattle.ws_model.specs.Fate.{Pair}
use Rattle.ws_model.specs.Pairs.{owed}
use Rattle.ws_model.specs.Legal.{Legal}
use Rattle.ws_delivery.specs.OwedVersions.{is_owed_version}
use Rattle.ws_delivery.specs.Stands.{StandsFor}
use Rattle.ws_delivery.specs.Table.{Rows, pair_order}
use Rattle.ws_delivery.proofs.Owing.{is_owed_entry, key_of, member_owed, member_rows, same_key}
use Rattle.ws_delivery.proofs.RowsByKey.{ascends}

-- ---- the keys of what is owed

abbrev is_of : ℕ → ℕ × ℕ → Bool
is_of v k = k.1 == v

any_weaker : (p q : ℕ × ℕ → Bool) → ((k : ℕ × ℕ) → p k ≡ true → q k ≡ true) → (ks : List (ℕ × ℕ)) → list_any p ks ≡ true → list_any q ks ≡ true
any_weaker p q f [] k = k
any_weaker p q f (x ∷ ks) k = one (p x) refl k (any_weaker p q f ks)
  where
    one : (b : Bool) → p x ≡ b → (b || list_any p ks) ≡ true → (list_any p ks ≡ true → list_any q ks ≡ true) → (q x || list_any q ks) ≡ true
    one true c m r = or_left (q x) (list_any q ks) (f x c)
    one false c m r = or_right (q x) (list_any q ks) (r m)

alike : (k : ℕ × ℕ) → same_key k k ≡ true
alike k = by k.0 k.1
  where
    by : (n v : ℕ) → same_key (n, v) (n, v) ≡ true
    by n v = grind (arith, nat_tests)

of_alike : (v : ℕ) (k l : ℕ × ℕ) → is_of v k ≡ true → same_key k l ≡ true → is_of v l ≡ true
of_alike v k l a b = by k.0 k.1 l.0 l.1 a b
  where
    by : (n w m u : ℕ) → (w == v) ≡ true → same_key (n, w) (m, u) ≡ true → (u == v) ≡ true
    by n w m u a b = grind (arith, nat_tests)

-- what the keys of one list have, those of another have that has all of these keys
any_among : (v : ℕ) (ks ls : List (ℕ × ℕ)) → ((q : ℕ × ℕ) → list_any (same_key q) ks ≡ true → list_any (same_key q) ls ≡ true) → list_any (is_of v) ks ≡ true → list_any (is_of v) ls ≡ true
any_among v [] ls f k = absurd (false≢true k)
any_among v (x ∷ ks) ls f k = one (is_of v x) refl k (any_among v ks ls (λ q r. f q (or_right (same_key q x) (list_any (same_key q) ks) r)))
  where
    one : (b : Bool) → is_of v x ≡ b → (b || list_any (is_of v) ks) ≡ true → (list_any (is_of v) ks ≡ true → list_any (is_of v) ls ≡ true) → list_any (is_of v) ls ≡ true
    one true c m r = any_weaker (same_key x) (is_of v) (λ l s. of_alike v x l c s) ls (f x (or_left (same_key x x) (list_any (same_key x) ks) (alike x)))
    one false c m r = r m

both_ways : (a b : Bool) → (a ≡ true → b ≡ true) → (b ≡ true → a ≡ true) → a ≡ b
both_ways true b f g = sym (f refl)
both_ways false true f g = g refl
both_ways false false f g = refl

-- ---- by them

in_rows : (t v : ℕ) (rows : Rows) → is_owed_version t v rows ≡ list_any (is_of v) (map (λ e. e.0) (filter (is_owed_entry t) rows))
in_rows t v [] = refl
in_rows t v (e ∷ rows) = one (nat_lt t e.1.exp) (e.0.1 == v) (in_rows t v rows) ∙ into (nat_lt t e.1.exp)
  where
    one : (b c : Bool) → is_owed_version t v rows ≡ list_any (is_of v) (map (λ d. d.0) (filter (is_owed_entry t) rows))
        → ((c && b) || is_owed_version t v rows) ≡ cond b (c || list_any (is_of v) (map (λ d. d.0) (filter (is_owed_entry t) rows))) (list_any (is_of v) (map (λ d. d.0) (filter (is_owed_entry t) rows)))
    one true true r = refl
    one true false r = r
    one false true r = r
    one false false r = r

    into : (b : Bool) → cond b ((e.0.1 == v) || list_any (is_of v) (map (λ d. d.0) (filter (is_owed_entry t) rows))) (list_any (is_of v) (map (λ d. d.0) (filter (is_owed_entry t) rows)))
        ≡ list_any (is_of v) (map (λ d. d.0) (cond b (e ∷ filter (is_owed_entry t) rows) (filter (is_owed_entry t) rows)))
    into true = refl
    into false = refl

in_history : (v : ℕ) (ps : List Pair) → list_any (λ p. p.version.ver == v) ps ≡ list_any (is_of v) (map key_of ps)
in_history v [] = refl
in_history v (p ∷ ps) = ap (λ b. (p.version.ver == v) || b) (in_history v ps)

pub owed_versions_are :
    (h : List Event) (since t : ℕ) (rows : Rows) → IsStrictlySortedBy pair_order (keys_of rows) → Legal h → StandsFor h since rows → since ≤ t
    → (v : ℕ) → is_owed_version t v rows ≡ list_any (λ p. p.version.ver == v) (owed h t)
owed_versions_are h since t rows sorted l s later v =
    in_rows t v rows
    ∙ both_ways (list_any (is_of v) here) (list_any (is_of v) there)
    (any_among v here there (λ q m. sym (same q) ∙ m))
    (any_among v there here (λ q m. same q ∙ m))
    ∙ sym (in_history v (owed h t))
  where
    here : List (ℕ × ℕ)
    here = map (λ e. e.0) (filter (is_owed_entry t) rows)

    there : List (ℕ × ℕ)
    there = map key_of (owed h t)

    same : (q : ℕ × ℕ) → list_any (same_key q) here ≡ list_any (same_key q) there
    same q = member_rows t q.0 q.1 rows (ascends rows sorted) ∙ ap is_some (s.shows t q.1 q.0 later) ∙ member_owed h q.0 q.1 (owed h t)
