-- The table at a later moment.
use Rattle.std.proofs.Common.{◌≡◌, ℕ, ◌≤◌, Bool, true, false, cond, ◌&&◌, ◌||◌, List, [], ◌∷◌, refl, ap, sym, ◌∙◌, Option, Some, None, arith}
use Rattle.std.specs.Prelude.{find, filter, nat_lt, ◌==◌}
use Rattle.std.specs.List.{AllByRecursion, list_any}
use Rattle.std.specs.Option.{option_map}
use Rattle.std.proofs.lemmas.Bool.{false≢true}
use Rattle.std.proofs.lemmas.Bool.Decides.{nat_tests}
use Rattle.ws_model.specs.declared.event.Event.{Event}
use Rattle.ws_model.specs.declared.fate.Fate.{Fate}
use Rattle.ws_model.specs.declared.fate.Fate.TheVariants.{Owed, Answered as IsAnswered, Ended as HasEnded}
use Rattle.ws_model.specs.declared.fate.Cause.TheVariants.{Unsubscribed, Replaced, Gone, Spent, Revoked}
use Rattle.ws_model.specs.Account.{account, is_answered, is_ended}
use Rattle.ws_model.specs.Fate.{Pair, fate, is_owed}
use Rattle.ws_model.specs.Leases.{expiry}
use Rattle.ws_model.specs.Legal.{Legal}
use Rattle.ws_model.specs.Moment.{last_time}
use Rattle.ws_model.specs.Pairs.{pairs}
use Rattle.ws_model.specs.Verdict.{fate_of, pair_of}
use Rattle.ws_model.specs.View.{view}
use Rattle.ws_laws.specs.Steps.{expiring}
use Rattle.ws_laws.proofs.Accounts.{expired_later_count, fate_expired, fate_kept, unexpired_later}
use Rattle.ws_laws.proofs.Advance.{owed_later_at}
use Rattle.ws_laws.proofs.ListLaws.{all_filter, all_weaker}
use Rattle.ws_laws.proofs.Paired.{AreUnlike, pairs_apart, same_numbers}
use Rattle.ws_fate.specs.declared.totals.Standing.TheVariants.{Open}
use Rattle.ws_fate.specs.Totals.{of_account, standing}
use Rattle.ws_fate.specs.Stands.{StandsLater, is_owed_at, later, with_expired}

-- it has these numbers
abbrev pub is_it : ℕ → ℕ → Pair → Bool
is_it v n p = (p.version.ver == v) && (p.lease.intent.n == n)

none_any : (q : Pair → Bool) (ps : List Pair) → AllByRecursion (λ p. q p ≡ false) ps → list_any q ps ≡ false
none_any q [] a = refl
none_any q (p ∷ ps) a = rw a.0 (none_any q ps a.1)

-- where pairs differ in their numbers, one of these numbers passes a test exactly where the one that is found does
pub any_found : (v n : ℕ) (q : Pair → Bool) (p : Pair) (ps : List Pair) → AreUnlike same_numbers ps → find (is_it v n) ps ≡ Some p → list_any (is_it v n) (filter q ps) ≡ q p
any_found v n q p [] a e = absurd (grind arith)
any_found v n q p (x ∷ xs) a e = one (is_it v n x) refl e (any_found v n q p xs a.1)
  where
    unlike : (a b c d v n : ℕ) → ((a == v) && (b == n)) ≡ true → ((a == c) && (b == d)) ≡ false → ((c == v) && (d == n)) ≡ false
    unlike a b c d v n k l = grind (arith, nat_tests)

    others : is_it v n x ≡ true → list_any (is_it v n) (filter q xs) ≡ false
    others k =
        none_any (is_it v n) (filter q xs)
        (all_filter (λ y. is_it v n y ≡ false) q xs
        (all_weaker (λ y. same_numbers x y ≡ false) (λ y. is_it v n y ≡ false) (λ y l. unlike x.version.ver x.lease.intent.n y.version.ver y.lease.intent.n v n k l) xs a.0))

    here : is_it v n x ≡ true → (c : Bool) → q x ≡ c → list_any (is_it v n) (cond c (x ∷ filter q xs) (filter q xs)) ≡ c
    here k true l = ap (λ b. b || list_any (is_it v n) (filter q xs)) k
    here k false l = others k

    there : is_it v n x ≡ false → (c : Bool) → list_any (is_it v n) (cond c (x ∷ filter q xs) (filter q xs)) ≡ list_any (is_it v n) (filter q xs)
    there k true = ap (λ b. b || list_any (is_it v n) (filter q xs)) k
    there k false = refl

    one : (b : Bool) → is_it v n x ≡ b → cond b (Some x) (find (is_it v n) xs) ≡ Some p → (find (is_it v n) xs ≡ Some p → list_any (is_it v n) (filter q xs) ≡ q p) → list_any (is_it v n) (filter q (x ∷ xs)) ≡ q p
    one true k r f = let s : x ≡ p = cc in here k (q x) refl ∙ ap q s
    one false k r f = there k (q x) ∙ f r

-- what isn't owed stays
later_ended : (b : Bool) (f : Fate) → is_owed f ≡ false → later b (standing f) ≡ standing f
later_ended b IsAnswered k = refl
later_ended b (Owed m n) k = absurd (false≢true (sym k))
later_ended b (HasEnded c) k = refl

pub open_one : (f : Fate) → is_owed f ≡ true → standing f ≡ Open
open_one IsAnswered k = absurd (false≢true k)
open_one (Owed m n) k = refl
open_one (HasEnded c) k = absurd (false≢true k)

later_at : (h : List Event) (p : Pair) (t u : ℕ) → t ≤ u → later (is_owed (fate h p u)) (standing (fate h p t)) ≡ standing (fate h p u)
later_at h p t u le = by (is_owed (fate h p t)) refl (is_owed (fate h p u)) refl
  where
    by : (b : Bool) → is_owed (fate h p t) ≡ b → (c : Bool) → is_owed (fate h p u) ≡ c → later c (standing (fate h p t)) ≡ standing (fate h p u)
    by false k c l = later_ended c (fate h p t) k ∙ ap standing (sym (fate_kept h p t u le k))
    by true k true l = ap (later true) (open_one (fate h p t) k) ∙ sym (open_one (fate h p u) l)
    by true k false l =
        let expired : nat_lt u (expiry p.lease) ≡ false = ap (λ b. b && nat_lt u (expiry p.lease)) (sym k) ∙ sym (owed_later_at h p t u le) ∙ l in
        ap (later false) (open_one (fate h p t) k) ∙ ap standing (sym (fate_expired h p t u k expired))

shows_later : (h : List Event) (t u : ℕ) → Legal h → t ≤ u → (v n : ℕ) → option_map (later (is_owed_at h u v n)) (option_map standing (fate_of h v n t)) ≡ option_map standing (fate_of h v n u)
shows_later h t u legal le v n = by (pair_of h v n) refl
  where
    by : (o : Option Pair) → pair_of h v n ≡ o → option_map (later (is_owed_at h u v n)) (option_map standing (option_map (λ p. fate h p t) o)) ≡ option_map standing (option_map (λ p. fate h p u) o)
    by None e = refl
    by (Some p) e = ap (λ s. Some s) (ap (λ b. later b (standing (fate h p t))) (any_found v n (λ q. is_owed (fate h q u)) p (pairs h) (pairs_apart h legal) e) ∙ later_at h p t u le)

pub totals_later : (h : List Event) (t u : ℕ) → t ≤ u → with_expired (expiring (view h t) u) (of_account (account h t)) ≡ of_account (account h u)
totals_later h t u le = λ i.
    record {
      answered = sym (unexpired_later is_answered (λ m n. refl) refl (λ c. c.answered) h t u le) i;
      expired = sym (expired_later_count h t u le) i;
      unsubscribed = sym (unexpired_later (is_ended Unsubscribed) (λ m n. refl) refl (λ c. c.unsubscribed) h t u le) i;
      replaced = sym (unexpired_later (is_ended Replaced) (λ m n. refl) refl (λ c. c.replaced) h t u le) i;
      gone = sym (unexpired_later (is_ended Gone) (λ m n. refl) refl (λ c. c.gone) h t u le) i;
      spent = sym (unexpired_later (is_ended Spent) (λ m n. refl) refl (λ c. c.spent) h t u le) i;
      revoked = sym (unexpired_later (is_ended Revoked) (λ m n. refl) refl (λ c. c.revoked) h t u le) i;
    }

pub stands_later : StandsLater
stands_later h t u old new legal le stands goes =
    let begun : last_time h ≤ t = stands.begun in
    record {
      begun = omega arith;
      shows = λ v n. goes.pairs v n ∙ ap (option_map (later (is_owed_at h u v n))) (stands.shows v n) ∙ shows_later h t u legal le v n;
      totals = goes.totals ∙ ap (with_expired (expiring (view h t) u)) stands.totals ∙ totals_later h t u le;
    }
