-- One pass over the renewals finds the leases that a compaction keeps.
use Rattle.std.proofs.Common.{◌≡◌, ℕ, ◌≤◌, Bool, true, false, cond, ◌&&◌, ◌||◌, List, [], ◌∷◌, ◌++◌, refl, ap, sym, ◌∙◌, subst, arith}
use Rattle.std.specs.Prelude.{Option, Some, None, is_none, find, filter, map, nat_lt, reverse, ◌==◌}
use Rattle.std.specs.List.{AllByRecursion, list_any}
use Rattle.std.specs.Option.{option_map}
use Rattle.std.proofs.Math.Bool.{and-false, and_comm}
use Rattle.std.proofs.lemmas.Bool.{and_parts}
use Rattle.std.proofs.lemmas.Bool.Decides.{nat_tests}
use Rattle.std.proofs.lemmas.List.{reverse-append}
use Rattle.std.proofs.lemmas.List.Folds.{list_any-append}
use Rattle.ws_model.specs.declared.event.Event.{Event}
use Rattle.ws_model.specs.declared.event.Intent.{Intent}
use Rattle.ws_model.specs.declared.event.What.{What}
use Rattle.ws_model.specs.declared.event.What.TheVariants.{Asked}
use Rattle.ws_model.specs.declared.lease.Lease.{Lease}
use Rattle.ws_model.specs.Fate.{Pair, fate, is_owed}
use Rattle.ws_model.specs.Intents.{asked, intents_of, same_pair}
use Rattle.ws_model.specs.Keep.{member, replaced_by, with_replaced}
use Rattle.ws_model.specs.Leases.{confirmed_intent, lease_end, lease_of, leases, live}
use Rattle.ws_model.specs.Legal.{Legal, is_sound, number_limit}
use Rattle.ws_model.specs.Moment.{last_time}
use Rattle.ws_model.specs.Pairs.{owed, pairs}
use Rattle.ws_model.specs.Revocation.{is_lease_of, live_lease_of}
use Rattle.ws_laws.proofs.Ended.{IsToldPair, both_true, pairs_told}
use Rattle.ws_laws.proofs.Known.{in_time, sound}
use Rattle.ws_laws.proofs.ListLaws.{all_append, all_filter, all_filter_with, all_find, all_from, all_weaker}
use Rattle.ws_laws.proofs.Notices.{leases_asked}
use Rattle.ws_laws.proofs.Paired.{owed_lives}
use Rattle.ws_compaction.proofs.Replaced.{added, any-map}
use Rattle.ws_lease.proofs.SortedEntries.{any_filter}
use Rattle.ws_lease.proofs.Standing.{pair_turned}
use Rattle.ws_core_tables.specs.Stands.{is_number}
use Rattle.ws_core_tables.proofs.Confirmation.{pair_by_number}
use Rattle.ws_core_tables.proofs.Renewal.{find_same}
use Rattle.ws_kept.specs.declared.renewal.Renewal.{Renewal}
use Rattle.ws_kept.specs.Finding.{with_old_ones, with_one}
use Rattle.ws_kept.specs.Stands.{renewals, replaces, with_old}
use Rattle.ws_kept.proofs.Once.{IsSingle, Lives, all_live, goes_is_went, legal_behind, single}
use Rattle.ws_kept.proofs.WentOver.{went}

-- ---- numbers of leases

sound_number : (i : Intent) (b c d f g : Bool) → (nat_lt i.n number_limit && b && c && d && f && g) ≡ true → nat_lt i.n number_limit ≡ true
sound_number i b c d f g k =
    (and_parts (nat_lt i.n number_limit) b
    (and_parts (nat_lt i.n number_limit && b) c
    (and_parts (nat_lt i.n number_limit && b && c) d
    (and_parts (nat_lt i.n number_limit && b && c && d) f
    (and_parts (nat_lt i.n number_limit && b && c && d && f) g k).0).0).0).0).0

asked_below : (w : What) (s : ℕ) → is_sound s w ≡ true → AllByRecursion (λ (i : Intent). nat_lt i.n number_limit ≡ true) (intents_of w)
asked_below (Asked i) s k = (sound_number i _ _ _ _ _ k, tt)
asked_below _ s k = tt

all_below : (h : List Event) → Legal h → AllByRecursion (λ (i : Intent). nat_lt i.n number_limit ≡ true) (asked h)
all_below [] l = tt
all_below (e ∷ h) l = all_append (λ (i : Intent). nat_lt i.n number_limit ≡ true) (intents_of e.what) (asked h) (asked_below e.what e.serial (sound h e l.1)) (all_below h l.0)

leases_below : (h : List Event) → Legal h → AllByRecursion (λ (x : Lease). nat_lt x.intent.n number_limit ≡ true) (leases h)
leases_below h l =
    all_weaker (λ (x : Lease). find (λ i. i.n == x.intent.n) (asked h) ≡ Some x.intent) (λ x. nat_lt x.intent.n number_limit ≡ true)
    (λ x k. (all_find (λ (i : Intent). nat_lt i.n number_limit ≡ true) (λ i. i.n == x.intent.n) x.intent (asked h) (all_below h l) k).0) (leases h) (leases_asked h l)

-- ---- tests over lists

any_on : {X : Type 0} (P : X → Type 0) (p q : X → Bool) → ((x : X) → P x → p x ≡ q x) → (xs : List X) → AllByRecursion P xs → list_any p xs ≡ list_any q xs
any_on P p q f [] a = refl
any_on P p q f (x ∷ xs) a = (λ i. f x a.0 i || any_on P p q f xs a.1 i)

any_never : {X : Type 0} (xs : List X) → list_any (λ x. false) xs ≡ false
any_never [] = refl
any_never (x ∷ xs) = any_never xs

any_and : {X : Type 0} (b : Bool) (q : X → Bool) (xs : List X) → list_any (λ x. b && q x) xs ≡ (b && list_any q xs)
any_and true q xs = refl
any_and false q xs = any_never xs

-- ---- what one renewal adds

-- the lease that the new one replaces: that of the owed pairs of its topic and callback
module _ (g : List Event) (t : ℕ) (x : Lease) (l : Legal g) (le : last_time g ≤ t) where
  abbrev of_pair : Option Lease
  of_pair = find (λ (m : Lease). same_pair x.intent m.intent) (live g t)

  by_pair : live_lease_of g t x.intent.topic x.intent.callback ≡ of_pair
  by_pair = find_same (is_lease_of x.intent.topic x.intent.callback) (λ m. same_pair x.intent m.intent) (live g t) (all_from (λ m. is_lease_of x.intent.topic x.intent.callback m ≡ same_pair x.intent m.intent) (pair_turned x.intent) (live g t))

  abbrev IsOfNumber : Pair → Type 0
  IsOfNumber p = same_pair x.intent p.lease.intent ≡ is_number (option_map (λ (m : Lease). m.intent.n) of_pair) p.lease.intent.n

  of_number : AllByRecursion IsOfNumber (owed g t)
  of_number =
      all_weaker (λ p. IsToldPair g p × (is_owed (fate g p t) ≡ true)) IsOfNumber
      (λ p a. pair_by_number g t x.intent p.lease.intent.n p.lease l le (owed_lives g t p a.0 a.1) ∙ ap (λ o. is_number (option_map (λ (m : Lease). m.intent.n) o) p.lease.intent.n) by_pair)
      (owed g t) (all_filter_with (IsToldPair g) (λ p. is_owed (fate g p t)) (pairs g) (pairs_told g l))

  module _ (versions : ℕ → Bool) (n : ℕ) where
    abbrev moves : Pair → Bool
    moves p = versions p.version.ver && same_pair x.intent p.lease.intent

    as_any : member n (map (λ (p : Pair). p.lease.intent.n) (filter moves (owed g t))) ≡ list_any (λ p. moves p && (p.lease.intent.n == n)) (owed g t)
    as_any = any-map (λ (p : Pair). p.lease.intent.n) n (filter moves (owed g t)) ∙ any_filter (λ (p : Pair). p.lease.intent.n == n) moves (owed g t)

    never : (a b : Bool) → b ≡ false → (c : Bool) → ((a && b) && c) ≡ false
    never true b k c = ap (λ z. z && c) k
    never false b k c = refl

    pub none_moves : of_pair ≡ None → member n (map (λ (p : Pair). p.lease.intent.n) (filter moves (owed g t))) ≡ false
    none_moves k =
        as_any
        ∙ any_on IsOfNumber (λ p. moves p && (p.lease.intent.n == n)) (λ p. false)
        (λ p a. never (versions p.version.ver) (same_pair x.intent p.lease.intent) (a ∙ ap (λ o. is_number (option_map (λ (m : Lease). m.intent.n) o) p.lease.intent.n) k) (p.lease.intent.n == n)) (owed g t) of_number
        ∙ any_never (owed g t)

    only : (v : Bool) (s : Bool) (m k : ℕ) → s ≡ (m == k) → ((v && s) && (k == n)) ≡ ((m == n) && ((k == m) && (v && s)))
    only v s m k e = grind (arith, nat_tests)

    pub one_moves : (m : Lease) → of_pair ≡ Some m
        → member n (map (λ (p : Pair). p.lease.intent.n) (filter moves (owed g t))) ≡ ((m.intent.n == n) && list_any (λ p. (p.lease.intent.n == m.intent.n) && moves p) (owed g t))
    one_moves m k =
        as_any
        ∙ any_on IsOfNumber (λ p. moves p && (p.lease.intent.n == n)) (λ p. (m.intent.n == n) && ((p.lease.intent.n == m.intent.n) && moves p))
        (λ p a. only (versions p.version.ver) (same_pair x.intent p.lease.intent) m.intent.n p.lease.intent.n (a ∙ ap (λ o. is_number (option_map (λ (z : Lease). z.intent.n) o) p.lease.intent.n) k)) (owed g t) of_number
        ∙ any_and (m.intent.n == n) (λ p. (p.lease.intent.n == m.intent.n) && moves p) (owed g t)

-- ---- one pass

-- what is added behind what is there
pub old_append : (goes : ℕ → Bool) (kept : List ℕ) (rs ss : List Renewal) → with_old_ones goes kept (rs ++ ss) ≡ with_old_ones goes (with_old_ones goes kept ss) rs
old_append goes kept [] ss = refl
old_append goes kept (r ∷ rs) ss = ap (λ ns. with_one goes ns r) (old_append goes kept rs ss)

moved : (c : List Event) (e : Event) (g : List Event) → c ++ e ∷ g ≡ (c ++ e ∷ []) ++ g
moved [] e g = refl
moved (x ∷ c) e g = ap (λ h. x ∷ h) (moved c e g)

member_append : (n : ℕ) (xs ys : List ℕ) → member n (xs ++ ys) ≡ (member n xs || member n ys)
member_append n xs ys = list_any-append (λ m. m == n) xs ys

pub one_member : (goes : ℕ → Bool) (kept : List ℕ) (r : Renewal) (n : ℕ) → member n (with_one goes kept r) ≡ (((member r.lease kept && goes r.replaced.n) && (r.replaced.n == n)) || member n kept)
one_member goes kept r n = by (member r.lease kept && goes r.replaced.n)
  where
    by : (b : Bool) → member n (cond b (r.replaced.n ∷ kept) kept) ≡ ((b && (r.replaced.n == n)) || member n kept)
    by true = refl
    by false = refl

cond_member : (n : ℕ) (b : Bool) (xs : List ℕ) → member n (cond b xs []) ≡ (b && member n xs)
cond_member n true xs = refl
cond_member n false xs = refl

module _ (h : List Event) (t : ℕ) (versions goes : ℕ → Bool) (l : Legal h) (le : last_time h ≤ t) (same : (n : ℕ) → nat_lt n number_limit ≡ true → goes n ≡ went h t versions n) where
  abbrev AreAlike : List ℕ → List ℕ → Type 0
  AreAlike a b = (n : ℕ) → member n a ≡ member n b

  module _ (c : List Event) (e : Event) (g : List Event) (q : h ≡ c ++ e ∷ g) (a b : List ℕ) (alike : AreAlike a b) (n : ℕ) where
    here : Legal (e ∷ g)
    here = legal_behind c (e ∷ g) (subst Legal q l)

    before : last_time g ≤ e.t
    before = in_time g e here.1

    swapped : (p q r s : Bool) → ((p && (q && r)) || s) ≡ (((p && r) && q) || s)
    swapped true q r s = ap (λ z. z || s) (and_comm q r)
    swapped false q r s = refl

    -- where the new lease x replaces one
    replaced : (x : Lease) (ls : List Lease) → lease_of e.what (confirmed_intent e.what g) ≡ x ∷ ls → ls ≡ [] → (o : Option Lease) → find (λ (m : Lease). same_pair x.intent m.intent) (live g e.t) ≡ o
        → member n (replaced_by versions a (owed g e.t) (x ∷ ls) ++ a) ≡ member n (with_old_ones goes b (reverse (with_old x.intent.n o)))
    replaced x ls makes none None f =
        member_append n (replaced_by versions a (owed g e.t) (x ∷ ls)) a
        ∙ ap (λ z. z || member n a) (cond_member n (member x.intent.n a) _ ∙ ap (λ z. member x.intent.n a && z) (none_moves g e.t x here.0 before versions n f) ∙ and-false (member x.intent.n a))
        ∙ alike n
    replaced x ls makes none (Some m) f =
        let found = all_find (λ (z : Lease). Lives g e.t z × (nat_lt z.intent.n number_limit ≡ true)) (λ z. same_pair x.intent z.intent) m (live g e.t)
        (both_true (Lives g e.t) (λ z. nat_lt z.intent.n number_limit ≡ true) (live g e.t) (all_live g e.t here.0) (all_filter (λ (z : Lease). nat_lt z.intent.n number_limit ≡ true) (λ z. is_none (lease_end g z e.t)) (leases g) (leases_below g here.0))) f in
        member_append n (replaced_by versions a (owed g e.t) (x ∷ ls)) a
        ∙ ap (λ z. z || member n a)
        (cond_member n (member x.intent.n a) _
        ∙ ap (λ z. member x.intent.n a && z)
        (one_moves g e.t x here.0 before versions n m f
        ∙ ap (λ z. (m.intent.n == n) && z) (goes_is_went h t versions l le c e g q x m ls makes none found.0.0 found.1 ∙ sym (same m.intent.n found.0.1))))
        ∙ (λ i. (alike x.intent.n i && ((m.intent.n == n) && goes m.intent.n)) || alike n i)
        ∙ swapped (member x.intent.n b) (m.intent.n == n) (goes m.intent.n) (member n b)
        ∙ sym (one_member goes b (record { lease = x.intent.n; replaced = m.intent }) n)

    step : (ls : List Lease) → lease_of e.what (confirmed_intent e.what g) ≡ ls → IsSingle ls → member n (replaced_by versions a (owed g e.t) ls ++ a) ≡ member n (with_old_ones goes b (reverse (replaces (live g e.t) ls)))
    step [] makes s = alike n
    step (x ∷ ls) makes s = replaced x ls makes s (find (λ (m : Lease). same_pair x.intent m.intent) (live g e.t)) refl

    pub one_event : member n (added versions a e g ++ a) ≡ member n (with_old_ones goes b (reverse (replaces (live g e.t) (lease_of e.what (confirmed_intent e.what g)))))
    one_event = step (lease_of e.what (confirmed_intent e.what g)) refl (single e.what (confirmed_intent e.what g))

  pass : (g c : List Event) → h ≡ c ++ g → (a b : List ℕ) → AreAlike a b → AreAlike (with_replaced versions a g) (with_old_ones goes b (reverse (renewals g)))
  pass [] c q a b alike n = alike n
  pass (e ∷ g) c q a b alike n =
      pass g (c ++ e ∷ []) (q ∙ moved c e g) (added versions a e g ++ a) (with_old_ones goes b (reverse (replaces (live g e.t) (lease_of e.what (confirmed_intent e.what g))))) (one_event c e g q a b alike) n
      ∙ ap (member n)
      (sym (ap (with_old_ones goes b) (reverse-append (replaces (live g e.t) (lease_of e.what (confirmed_intent e.what g))) (renewals g))
      ∙ old_append goes b (reverse (renewals g)) (reverse (replaces (live g e.t) (lease_of e.what (confirmed_intent e.what g))))))

  pub passed : (a b : List ℕ) → AreAlike a b → AreAlike (with_replaced versions a h) (with_old_ones goes b (reverse (renewals h)))
  passed a b alike = pass h [] refl a b alike
