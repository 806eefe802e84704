-- What the renewals tell of what was asked for the leases that they replaced.
use Rattle.std.proofs.Common.{◌≡◌, ℕ, ◌≤◌, Bool, true, false, cond, ◌&&◌, ◌||◌, List, [], ◌∷◌, ◌++◌, refl, ap, sym, ◌∙◌, inl, inr}
use Rattle.std.specs.Prelude.{Option, Some, None, find, is_none, is_some, reverse, ◌==◌}
use Rattle.std.specs.List.{AllByRecursion, list_any}
use Rattle.std.specs.Option.{option_map}
use Rattle.std.proofs.Props.{props}
use Rattle.std.proofs.lemmas.Bool.{and_parts, eqb-true, or_cases, or_left, or_right}
use mathlib.Core.Bool.{Bool-set}
use mathlib.Core.Logic.{∥∥₁_elim}
use Rattle.ws_model.specs.declared.event.Event.{Event}
use Rattle.ws_model.specs.declared.event.Intent.{Intent}
use Rattle.ws_model.specs.declared.lease.Lease.{Lease}
use Rattle.ws_model.specs.Intents.{asked, same_pair}
use Rattle.ws_model.specs.Keep.{first_kept, kept_leases, member}
use Rattle.ws_model.specs.Leases.{confirmed_intent, lease_end, lease_of, leases, live, or_else}
use Rattle.ws_model.specs.Legal.{Legal}
use Rattle.ws_model.specs.Moment.{last_intent, last_time}
use Rattle.ws_laws.proofs.Follow.{some_found}
use Rattle.ws_laws.proofs.Known.{allowed}
use Rattle.ws_laws.proofs.ListLaws.{all_append, all_filter, all_find, all_from, all_weaker}
use Rattle.ws_laws.proofs.Notices.{leases_asked}
use Rattle.ws_compaction.proofs.Dropped.{drops_lease_later}
use Rattle.ws_kept.specs.declared.renewal.Renewal.{Renewal}
use Rattle.ws_kept.specs.Part.{IsPart}
use Rattle.ws_kept.specs.Stands.{AreRenewed, renewals, replaces, with_old}
use Rattle.ws_kept.proofs.Lists.{all_reverse}
use Rattle.ws_kept.proofs.Part.{part_all, part_any}
use Rattle.ws_kept.proofs.Replaced.{kept_is}
use Rattle.ws_sift.specs.Sifted.{AreReplaced, replaced_in}
use Rattle.ws_sift.proofs.Asking.{IsAsked, low, still_asked}

-- ---- in parts

-- one renewal more
pub one_more : (kept : List ℕ) (r : Renewal) (rs : List Renewal) (n : ℕ) (o : Option Intent)
    → cond ((r.replaced.n == n) && member n kept) (Some r.replaced) (or_else (replaced_in kept rs n) o) ≡ or_else (replaced_in kept (r ∷ rs) n) o
one_more kept r rs n o = by ((r.replaced.n == n) && member n kept)
  where
    by : (b : Bool) → cond b (Some r.replaced) (or_else (replaced_in kept rs n) o) ≡ or_else (option_map (λ (s : Renewal). s.replaced) (cond b (Some r) (find (λ s. (s.replaced.n == n) && member n kept) rs))) o
    by true = refl
    by false = refl

pub in_parts : (kept : List ℕ) (rs ss : List Renewal) (n : ℕ) → or_else (replaced_in kept rs n) (or_else (replaced_in kept ss n) None) ≡ replaced_in kept (rs ++ ss) n
in_parts kept [] ss n = none_else (replaced_in kept ss n)
  where
    none_else : (o : Option Intent) → or_else o None ≡ o
    none_else None = refl
    none_else (Some i) = refl
in_parts kept (r ∷ rs) ss n = by ((r.replaced.n == n) && member n kept) (in_parts kept rs ss n)
  where
    by : (b : Bool) → or_else (replaced_in kept rs n) (or_else (replaced_in kept ss n) None) ≡ replaced_in kept (rs ++ ss) n
        → or_else (option_map (λ (s : Renewal). s.replaced) (cond b (Some r) (find (λ s. (s.replaced.n == n) && member n kept) rs))) (or_else (replaced_in kept ss n) None)
        ≡ option_map (λ (s : Renewal). s.replaced) (cond b (Some r) (find (λ s. (s.replaced.n == n) && member n kept) (rs ++ ss)))
    by true k = refl
    by false k = k

-- ---- of a history

abbrev OldIsAsked : List Event → Renewal → Type 0
OldIsAsked h r = IsAsked h r.replaced

old_asked : (h : List Event) (n : ℕ) (o : Option Lease) → ((m : Lease) → o ≡ Some m → IsAsked h m.intent) → AllByRecursion (OldIsAsked h) (with_old n o)
old_asked h n None f = tt
old_asked h n (Some m) f = (f m refl, tt)

new_asked : (h : List Event) (t : ℕ) (ls : List Lease) → Legal h → AllByRecursion (OldIsAsked h) (replaces (live h t) ls)
new_asked h t [] l = tt
new_asked h t (x ∷ ls) l =
    old_asked h x.intent.n (find (λ m. same_pair x.intent m.intent) (live h t))
    (λ m k. (all_find (λ (y : Lease). IsAsked h y.intent) (λ y. same_pair x.intent y.intent) m (live h t) (all_filter (λ (y : Lease). IsAsked h y.intent) (λ y. is_none (lease_end h y t)) (leases h) (leases_asked h l)) k).0)

-- what the renewals say was asked for a lease is what the history has by its number
pub renewals_asked : (h : List Event) → Legal h → AllByRecursion (OldIsAsked h) (renewals h)
renewals_asked [] l = tt
renewals_asked (e ∷ h) l =
    all_weaker (OldIsAsked h) (OldIsAsked (e ∷ h)) (λ r k. later r.replaced k) (renewals (e ∷ h))
    (all_append (OldIsAsked h) (replaces (live h e.t) (lease_of e.what (confirmed_intent e.what h))) (renewals h) (new_asked h e.t (lease_of e.what (confirmed_intent e.what h)) l.0) (renewals_asked h l.0))
  where
    later : (i : Intent) → IsAsked h i → IsAsked (e ∷ h) i
    later i k = still_asked e.what e.t h (allowed h e l.1) i.n (all_find (λ (j : Intent). j.n ≤ last_intent h) (λ j. j.n == i.n) i (asked h) (low h) k).0 ∙ k

-- ---- of the kept leases

module _ (h : List Event) (since t : ℕ) (rows : List Renewal) (kept : List ℕ) (l : Legal h) (le : since ≤ t) (later : last_time h ≤ t) (same : (n : ℕ) → member n kept ≡ member n (kept_leases h t)) where
  abbrev IsNeeded : Renewal → Type 0
  IsNeeded r = member r.replaced.n (kept_leases h since) ≡ true

  module _ (n : ℕ) where
    abbrev is_meant : Renewal → Bool
    is_meant r = (r.replaced.n == n) && member n kept

    found_in : IsPart IsNeeded rows (reverse (renewals h)) → (i : Intent) → replaced_in kept rows n ≡ Some i → find (λ j. j.n == n) (asked h) ≡ Some i
    found_in part i k = by (find is_meant rows) refl k
      where
        by : (o : Option Renewal) → find (λ (r : Renewal). (r.replaced.n == n) && member n kept) rows ≡ o → option_map (λ (r : Renewal). r.replaced) o ≡ Some i → find (λ j. j.n == n) (asked h) ≡ Some i
        by None e k = absurd (cc)
        by (Some r) e k =
            let a = all_find (OldIsAsked h) (λ s. (s.replaced.n == n) && member n kept) r rows (part_all (λ s. member s.replaced.n (kept_leases h since) ≡ true) (OldIsAsked h) (all_reverse (OldIsAsked h) (renewals h) (renewals_asked h l)) part) e in
            ap (λ m. find (λ j. j.n == m) (asked h)) (sym (eqb-true r.replaced.n n (and_parts (r.replaced.n == n) (member n kept) a.1).0)) ∙ a.0 ∙ k

    old_needed : member n (kept_leases h t) ≡ true → (r : Renewal) → (r.replaced.n == n) ≡ true → IsNeeded r
    old_needed k r e = drops_lease_later h since t r.replaced.n l le (ap (λ m. member m (kept_leases h t)) (eqb-true r.replaced.n n e) ∙ k)

    meant_too : member n kept ≡ true → (rs : List Renewal) → list_any (λ (r : Renewal). r.replaced.n == n) rs ≡ true → list_any is_meant rs ≡ true
    meant_too k rs a = ap (λ b. list_any (λ (r : Renewal). (r.replaced.n == n) && b) rs) k ∙ only rs ∙ a
      where
        with_true : (b : Bool) → (b && true) ≡ b
        with_true true = refl
        with_true false = refl

        only : (rs : List Renewal) → list_any (λ (r : Renewal). (r.replaced.n == n) && true) rs ≡ list_any (λ (r : Renewal). r.replaced.n == n) rs
        only [] = refl
        only (r ∷ rs) = (λ i. with_true (r.replaced.n == n) i || only rs i)

    is_there : (o : Option Renewal) → is_some o ≡ is_some (option_map (λ (r : Renewal). r.replaced) o)
    is_there None = refl
    is_there (Some r) = refl

    all_in : IsPart IsNeeded rows (reverse (renewals h)) → member n (kept_leases h t) ≡ true → (member n (first_kept h t) || is_some (replaced_in kept rows n)) ≡ true
    all_in part k =
        elim (or_cases (member n (first_kept h t)) (list_any (λ (r : Renewal). r.replaced.n == n) (reverse (renewals h))) (kept_is h t n l later k)) [
          | inl a ↦ or_left (member n (first_kept h t)) _ a
          | inr a ↦
              or_right (member n (first_kept h t)) _
              (sym (is_there (find is_meant rows))
              ∙ some_found is_meant rows
              ∙ meant_too (same n ∙ k) rows
              (part_any IsNeeded (λ (r : Renewal). r.replaced.n == n) (all_from (λ (r : Renewal). (r.replaced.n == n) ≡ true → IsNeeded r) (old_needed k) (reverse (renewals h))) part ∙ a))
        ]

  intent_set : IsSet (Option Intent)
  intent_set = hlevel props

  pub are_replaced : AreRenewed h since rows → AreReplaced h t (replaced_in kept rows)
  are_replaced renewed =
      record {
        found = λ n i k. ∥∥₁_elim renewed (intent_set _ _) (λ part. found_in n part i k);
        all = λ n k. ∥∥₁_elim renewed (Bool-set _ _) (λ part. all_in n part k);
      }

-- what is told in the same way
pub turned : (h : List Event) (t : ℕ) (f g : ℕ → Option Intent) → ((n : ℕ) → g n ≡ f n) → AreReplaced h t f → AreReplaced h t g
turned h t f g same r =
    record {
      found = λ n i k. r.found n i (sym (same n) ∙ k);
      all = λ n k. ap (λ o. member n (first_kept h t) || is_some o) (same n) ∙ r.all n k;
    }
