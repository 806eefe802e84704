-- How often a pair was tried.
use Rattle.std.proofs.Common.{◌≡◌, ℕ, ◌≤◌, ◌<◌, Bool, true, false, cond, not, ◌&&◌, List, [], ◌∷◌, ◌++◌, refl, ap, sym, ◌∙◌, ◌+◌, suc, subst, arith, length, Some, None, Option}
use Rattle.std.specs.Prelude.{nat_le, is_none, is_some, ◌==◌}
use Rattle.std.specs.List.{AllByRecursion, list_any}
use Rattle.std.proofs.lemmas.Bool.{and_parts, eqb-true, false≢true, false_from_ne_true, not-true, or_from, or_right, leb-false}
use Rattle.std.proofs.lemmas.Bool.Decides.{nat_tests}
use Rattle.std.proofs.lemmas.List.{length-append}
use Rattle.std.proofs.lemmas.Option.{IfSome_then}
use Rattle.std.proofs.lemmas.List.Folds.{list_any-append}
use Rattle.ws_model.specs.declared.event.Event.{Event}
use Rattle.ws_model.specs.declared.event.How.TheVariants.{Done, Gone, Missed}
use Rattle.ws_model.specs.declared.event.What.{What}
use Rattle.ws_model.specs.declared.event.What.TheVariants.{Pushed}
use Rattle.ws_model.specs.declared.event.Intent.{Intent}
use Rattle.ws_model.specs.declared.lease.Lease.{Lease}
use Rattle.ws_model.specs.declared.fate.Cause.TheVariants.{Gone as LeaseGone}
use Rattle.ws_model.specs.Fate.{Pair, fate, is_done, is_miss, is_owed, is_push, misses}
use Rattle.ws_model.specs.History.{has}
use Rattle.ws_model.specs.Leases.{confirmed_intent, end_by, lease_end, live}
use Rattle.ws_model.specs.Legal.{Legal, is_allowed}
use Rattle.ws_model.specs.Moment.{last_time}
use Rattle.ws_model.specs.Pairs.{births, owed, pairs}
use Rattle.ws_model.specs.View.{OwedPush}
use Rattle.ws_laws.proofs.Advance.{is_owed_parts, owed_later_at}
use Rattle.ws_laws.proofs.Counts.{turned_at}
use Rattle.ws_laws.proofs.Ended.{IsToldPair, both_true, one_more, pairs_told}
use Rattle.ws_laws.proofs.Follow.{any_of_filter, some_found}
use Rattle.ws_laws.proofs.Known.{IsKnown, allowed, in_time, pairs_known}
use Rattle.ws_laws.proofs.Paired.{AreUnlike, pairs_apart, same_numbers}
use Rattle.ws_laws.proofs.Step.{IsUntried, births_untried}
use Rattle.ws_laws.proofs.ListLaws.{all_append, all_filter_with, all_weaker, any_then}
use Rattle.ws_tries.specs.declared.room.Try.{Try}
use Rattle.ws_tries.specs.Rows.{is_here, tries_at}
use Rattle.ws_tries.specs.Stands.{AtMostEight, HasPlace, Untried, tried, tries_of}

-- ---- a pair that isn't there wasn't tried

pub here_is : (a b v n : ℕ) → is_here a b v n ≡ true → (a ≡ v) × (b ≡ n)
here_is a b v n k = let p = and_parts (a == v) (b == n) k in (eqb-true a v p.0, eqb-true b n p.1)

-- whether the pair of these numbers is among them
abbrev is_there : ℕ → ℕ → List Pair → Bool
is_there v n ps = list_any (λ p. (p.version.ver == v) && (p.lease.intent.n == n)) ps

not_tried : (h : List Event) (e : Event) (w : What) (t v n : ℕ) → is_allowed w t h ≡ true → is_there v n (pairs h) ≡ false → tried v n e w ≡ []
not_tried h e (Pushed a b how) t v n ok none = one (is_here a b v n) refl
  where
    one : (c : Bool) → is_here a b v n ≡ c → cond {A = List Try} c (record { serial = e.serial; t = e.t; how = how } ∷ []) [] ≡ []
    one true k =
        let same = here_is a b v n k in
        let there : is_there a b (pairs h) ≡ true = any_of_filter (λ p. (p.version.ver == a) && (p.lease.intent.n == b)) (λ p. is_owed (fate h p t)) (pairs h) ok in
        absurd (false≢true (sym none ∙ (λ j. is_there (sym same.0 j) (sym same.1 j) (pairs h)) ∙ there))
    one false k = refl
not_tried h e _ t v n ok none = refl

none_before : (h : List Event) (v n : ℕ) → Legal h → is_there v n (pairs h) ≡ false → tries_of h v n ≡ []
none_before [] v n l none = refl
none_before (e ∷ h) v n l none =
    let born : List Pair = births e.t e.what (confirmed_intent e.what h) (live h e.t) (owed h e.t) in
    let older : is_there v n (pairs h) ≡ false = false_from_ne_true _ (λ y. false≢true (sym none ∙ list_any-append (λ p. (p.version.ver == v) && (p.lease.intent.n == n)) born (pairs h) ∙ or_right _ _ y)) in
    (λ j. none_before h v n l.0 older j ++ not_tried h e e.what e.t v n (allowed h e l.1) older j)

pub untried : Untried
untried h v n l none = none_before h v n l (sym (some_found (λ p. (p.version.ver == v) && (p.lease.intent.n == n)) (pairs h)) ∙ ap is_some none)

-- ---- an owed pair was missed as often as it was tried

-- an event that neither answers a push of the pair nor ends its lease
missed_only : (e : Event) (w : What) (o : Option Intent) (v k : ℕ) (l : Lease) → is_push is_done v l.intent.n w ≡ false → is_none (end_by w o l) ≡ true → k + length (tried v l.intent.n e w) ≡ cond (is_push is_miss v l.intent.n w) (suc k) k
missed_only e (Pushed a b Done) o v k l undone lives = one (a == v) (b == l.intent.n) undone
  where
    one : (c d : Bool) → (c && d && true) ≡ false → k + length (cond {A = List Try} (c && d) (record { serial = e.serial; t = e.t; how = Done } ∷ []) []) ≡ cond (c && d && false) (suc k) k
    one true true u = absurd (false≢true (sym u))
    one true false u = omega arith
    one false true u = omega arith
    one false false u = omega arith
missed_only e (Pushed a b Gone) o v k l undone lives = one (a == v) (b == l.intent.n) lives
  where
    one : (c d : Bool) → is_none (cond d (Some LeaseGone) None) ≡ true → k + length (cond {A = List Try} (c && d) (record { serial = e.serial; t = e.t; how = Gone } ∷ []) []) ≡ cond (c && d && false) (suc k) k
    one c true u = absurd (false≢true u)
    one true false u = omega arith
    one false false u = omega arith
missed_only e (Pushed a b (Missed code)) o v k l undone lives = one (a == v) (b == l.intent.n)
  where
    one : (c d : Bool) → k + length (cond {A = List Try} (c && d) (record { serial = e.serial; t = e.t; how = Missed code } ∷ []) []) ≡ cond (c && d && true) (suc k) k
    one true true = omega arith
    one true false = omega arith
    one false true = omega arith
    one false false = omega arith
missed_only e _ o v k l undone lives = omega arith

-- how an owed pair was tried, where it is owed
abbrev OnlyMissed : List Event → ℕ → Pair → Type 0
OnlyMissed h t p = is_owed (fate h p t) ≡ true → length (tries_of h p.version.ver p.lease.intent.n) ≡ misses h p

turned_round : (a b c d : ℕ) → ((a == b) && (c == d)) ≡ false → ((b == a) && (d == c)) ≡ false
turned_round a b c d k = grind (arith, nat_tests)

apart : (q : Pair) (xs ps : List Pair) → AllByRecursion (λ p. same_numbers q p ≡ false) (xs ++ ps) → is_there q.version.ver q.lease.intent.n ps ≡ false
apart q [] [] a = refl
apart q [] (p ∷ ps) a = or_from _ _ (turned_round q.version.ver p.version.ver q.lease.intent.n p.lease.intent.n a.0) (apart q [] ps a.1)
apart q (x ∷ xs) ps a = apart q xs ps a.1

new_apart : (qs ps : List Pair) → AreUnlike same_numbers (qs ++ ps) → AllByRecursion (λ (q : Pair). is_there q.version.ver q.lease.intent.n ps ≡ false) qs
new_apart [] ps a = tt
new_apart (q ∷ qs) ps a = (apart q qs ps a.0, new_apart qs ps a.1)

new_untried : (e : Event) (h : List Event) (t : ℕ) (p : Pair) → Legal (e ∷ h) → IsUntried e h p → is_there p.version.ver p.lease.intent.n (pairs h) ≡ false → OnlyMissed (e ∷ h) t p
new_untried e h t p l untried none owed =
    let v : ℕ = p.version.ver in
    let n : ℕ = p.lease.intent.n in
    (λ j. length (none_before h v n l.0 none j ++ not_tried h e e.what e.t v n (allowed h e l.1) none j))
    ∙ sym (ap (λ (w : OwedPush). w.tries) untried.owed_push)

still_missed : (e : Event) (h : List Event) (t : ℕ) (p : Pair) → Legal (e ∷ h) → e.t ≤ t → IsKnown h p → IsToldPair h p → OnlyMissed h e.t p → OnlyMissed (e ∷ h) t p
still_missed e h t p l le known told before owed =
    let v : ℕ = p.version.ver in
    let n : ℕ = p.lease.intent.n in
    let o : Option Intent = confirmed_intent e.what h in
    let now : is_owed (fate (e ∷ h) p e.t) ≡ true = (and_parts _ _ (sym (owed_later_at (e ∷ h) p e.t t le) ∙ owed)).0 in
    let was : is_owed (fate h p e.t) ≡ true = was_owed (is_owed (fate h p e.t)) refl now in
    let parts = and_parts _ (is_none (end_by e.what o p.lease)) (sym (is_owed_parts _ _ (end_by e.what o p.lease) _) ∙ ap is_owed (sym (turned_at e h p (in_time h e l.1) known was)) ∙ now) in
    let undone : is_push is_done v n e.what ≡ false = not-true _ (and_parts (not (is_push is_done v n e.what)) _ parts.0).0 in
    length-append (tries_of h v n) (tried v n e e.what)
    ∙ ap (λ k. k + length (tried v n e e.what)) (before was)
    ∙ missed_only e e.what o v (misses h p) p.lease undone parts.1
  where
    was_owed : (b : Bool) → is_owed (fate h p e.t) ≡ b → is_owed (fate (e ∷ h) p e.t) ≡ true → is_owed (fate h p e.t) ≡ true
    was_owed true k now = k
    was_owed false k now = absurd (false≢true (sym k ∙ ap is_owed (sym (one_more e h p e.t e.t l (omega arith) (omega arith) told k)) ∙ now))

only_missed : (h : List Event) (t : ℕ) → Legal h → last_time h ≤ t → AllByRecursion (OnlyMissed h t) (pairs h)
only_missed [] t l le = tt
only_missed (e ∷ h) t l le =
    let before : last_time h ≤ e.t = in_time h e l.1 in
    let born : List Pair = births e.t e.what (confirmed_intent e.what h) (live h e.t) (owed h e.t) in
    all_append (OnlyMissed (e ∷ h) t) born (pairs h)
    (all_weaker (λ p. IsUntried e h p × (is_there p.version.ver p.lease.intent.n (pairs h) ≡ false)) (OnlyMissed (e ∷ h) t) (λ p k. new_untried e h t p l k.0 k.1) born
    (both_true (IsUntried e h) (λ p. is_there p.version.ver p.lease.intent.n (pairs h) ≡ false) born (births_untried e.what e.serial e.t h l.0 before (allowed h e l.1)) (new_apart born (pairs h) (pairs_apart (e ∷ h) l))))
    (all_weaker (λ p. (IsKnown h p × IsToldPair h p) × OnlyMissed h e.t p) (OnlyMissed (e ∷ h) t) (λ p k. still_missed e h t p l (omega arith) k.0.0 k.0.1 k.1) (pairs h)
    (both_true (λ p. IsKnown h p × IsToldPair h p) (OnlyMissed h e.t) (pairs h) (both_true (IsKnown h) (IsToldPair h) (pairs h) (pairs_known h) (pairs_told h l.0)) (only_missed h e.t l.0 before)))

-- ---- how often a pair is tried

few : (h : List Event) (t : ℕ) (p : Pair) → OnlyMissed h t p → is_owed (fate h p t) ≡ true → length (tries_of h p.version.ver p.lease.intent.n) < 8
few h t p missed owed =
    let parts = and_parts (not (has (is_push is_done p.version.ver p.lease.intent.n) h) && not (nat_le 8 (misses h p))) (is_none (lease_end h p.lease t)) (sym (is_owed_parts _ _ (lease_end h p.lease t) _) ∙ owed) in
    let under : misses h p < 8 = leb-false 8 (misses h p) (not-true _ (and_parts (not (has (is_push is_done p.version.ver p.lease.intent.n) h)) _ parts.0).1) in
    subst (λ k. k < 8) (sym (missed owed)) under

owed_few : (h : List Event) (t v n : ℕ) → Legal h → last_time h ≤ t → is_there v n (owed h t) ≡ true → length (tries_of h v n) < 8
owed_few h t v n l le k =
    any_then (λ p. OnlyMissed h t p × (is_owed (fate h p t) ≡ true)) (λ p. (p.version.ver == v) && (p.lease.intent.n == n)) (length (tries_of h v n) < 8)
    (λ p a e. let q = and_parts (p.version.ver == v) (p.lease.intent.n == n) e in
    subst (λ x. length (tries_of h v x) < 8) (eqb-true _ _ q.1) (subst (λ x. length (tries_of h x p.lease.intent.n) < 8) (eqb-true _ _ q.0) (few h t p a.0 a.1)))
    (owed h t) (all_filter_with (OnlyMissed h t) (λ p. is_owed (fate h p t)) (pairs h) (only_missed h t l le)) k

one_try : (h : List Event) (e : Event) (w : What) (v n : ℕ) → Legal h → last_time h ≤ e.t → is_allowed w e.t h ≡ true → length (tries_of h v n) ≤ 8 → length (tries_of h v n) + length (tried v n e w) ≤ 8
one_try h e (Pushed a b how) v n l le ok old = one (is_here a b v n) refl
  where
    one : (c : Bool) → is_here a b v n ≡ c → length (tries_of h v n) + length (cond {A = List Try} c (record { serial = e.serial; t = e.t; how = how } ∷ []) []) ≤ 8
    one true k =
        let same = here_is a b v n k in
        let under : length (tries_of h v n) < 8 = owed_few h e.t v n l le ((λ j. is_there (sym same.0 j) (sym same.1 j) (owed h e.t)) ∙ ok) in
        omega arith
    one false k = omega arith
one_try h e _ v n l le ok old = omega arith

pub at_most_eight : AtMostEight
at_most_eight [] v n l = omega arith
at_most_eight (e ∷ h) v n l = subst (λ k. k ≤ 8) (sym (length-append (tries_of h v n) (tried v n e e.what))) (one_try h e e.what v n l.0 (in_time h e l.1) (allowed h e l.1) (at_most_eight h v n l.0))

pub has_place : HasPlace
has_place h e v n how rows l is stands =
    let under : length (tries_of h v n) < 8 = owed_few h e.t v n l.0 (in_time h e l.1) (subst (λ w. is_allowed w e.t h ≡ true) is (allowed h e l.1)) in
    IfSome_then (tries_at v n rows) (stands v n) (λ tries k. subst (λ x. length x < 8) (sym k) under)
