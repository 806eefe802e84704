-- What became of a pair, by what is kept of it and by the open pairs of the tables.
use Rattle.std.proofs.Common.{◌≡◌, ℕ, ◌≤◌, Bool, true, false, cond, List, refl, ap, sym, ◌∙◌}
use Rattle.std.specs.Prelude.{Option, Some, None, is_some, unwrap_or, nat_le, nat_lt}
use Rattle.std.specs.Option.{option_map}
use Rattle.std.proofs.lemmas.Bool.{false≢true}
use Rattle.ws_model.specs.declared.event.Event.{Event}
use Rattle.ws_model.specs.declared.fate.Cause.{Cause}
use Rattle.ws_model.specs.declared.fate.Cause.TheVariants.{Expired, Unsubscribed, Replaced, Gone, Spent, Revoked}
use Rattle.ws_model.specs.declared.fate.Fate.{Fate}
use Rattle.ws_model.specs.declared.fate.Fate.TheVariants.{Owed, Answered as IsAnswered, Ended as HasEnded}
use Rattle.ws_model.specs.Fate.{Pair, fate, fate_by, is_owed, misses, next}
use Rattle.ws_model.specs.Legal.{Legal}
use Rattle.ws_model.specs.Pairs.{owed, pairs}
use Rattle.ws_model.specs.Verdict.{fate_of, pair_of}
use Rattle.ws_model.specs.View.{owed_push}
use Rattle.ws_laws.proofs.ListLaws.{find-map}
use Rattle.ws_laws.proofs.Paired.{found_kept, pairs_apart, same_numbers}
use Rattle.ws_delivery.specs.declared.open_pair.OpenPair.{OpenPair}
use Rattle.ws_delivery.specs.Table.{Rows as DeliveryRows, fate_at, pair_at, unexpired}
use Rattle.ws_delivery.specs.Stands.{StandsFor as DeliveriesStand, is_pair, shown}
use Rattle.ws_core_tables.proofs.Lookups.{owed_is}
use Rattle.ws_fate.specs.declared.totals.Standing.{Standing}
use Rattle.ws_fate.specs.declared.totals.Standing.TheVariants.{Open, Answered, Ended}
use Rattle.ws_fate.specs.Rows.{standing_at}
use Rattle.ws_fate.specs.Totals.{standing}
use Rattle.ws_fate.proofs.Passing.{any_found, is_it}
use Rattle.ws_ledger.specs.Rows.{Rows}
use Rattle.ws_ledger.specs.Stands.{StandsFor, kept}

-- an open pair as the tables have it, or else expired
abbrev pub open_fate : ℕ → Option OpenPair → Fate
open_fate t o = unwrap_or (option_map (fate_at t) o) (HasEnded Expired)

-- what became of a pair
abbrev pub told : Option Standing → Fate → Option Fate
told None f = None
told (Some Open) f = Some f
told (Some Answered) f = Some IsAnswered
told (Some (Ended c)) f = Some (HasEnded c)

-- ---- an open pair

open_expired : (t : ℕ) (o : Option OpenPair) → is_some (unexpired t o) ≡ false → open_fate t o ≡ HasEnded Expired
open_expired t None k = refl
open_expired t (Some p) k = by (nat_lt t p.exp) refl k
  where
    by : (b : Bool) → nat_lt t p.exp ≡ b → is_some (cond b (Some p) None) ≡ false → open_fate t (Some p) ≡ HasEnded Expired
    by true l k = absurd (false≢true (sym k))
    by false l k = rw l refl

open_owed : (t : ℕ) (o : Option OpenPair) (p : OpenPair) → unexpired t o ≡ Some p → open_fate t o ≡ Owed p.tries p.next
open_owed t None p k = absurd (cc)
open_owed t (Some q) p k = by (nat_lt t q.exp) refl k
  where
    by : (b : Bool) → nat_lt t q.exp ≡ b → cond b (Some q) None ≡ Some p → open_fate t (Some q) ≡ Owed p.tries p.next
    by true l k = let e : q ≡ p = cc in rw l (ap (λ (z : OpenPair). Owed z.tries z.next) e)
    by false l k = absurd (cc)

-- ---- what is owed

owed_by : (d : Bool) (m : ℕ) (c : Option Cause) (n : ℕ) → is_owed (fate_by d m c n) ≡ true → Owed m n ≡ fate_by d m c n
owed_by true m c n k = absurd (false≢true k)
owed_by false m None n k = by (nat_le 8 m) k
  where
    by : (b : Bool) → is_owed (cond b (HasEnded Spent) (Owed m n)) ≡ true → Owed m n ≡ cond b (HasEnded Spent) (Owed m n)
    by true k = absurd (false≢true k)
    by false k = refl
owed_by false m (Some c) n k = by (nat_le 8 m) k
  where
    by : (b : Bool) → is_owed (cond b (HasEnded Spent) (HasEnded c)) ≡ true → Owed m n ≡ cond b (HasEnded Spent) (HasEnded c)
    by true k = absurd (false≢true k)
    by false k = absurd (false≢true k)

module _ (h : List Event) (since t v n : ℕ) (rows : DeliveryRows) (legal : Legal h) (s : DeliveriesStand h since rows) (le : since ≤ t) (p : Pair) (found : pair_of h v n ≡ Some p) where
  owed_now : is_owed (fate h p t) ≡ true → open_fate t (pair_at v n rows) ≡ fate h p t
  owed_now k =
      open_owed t (pair_at v n rows) (shown (owed_push h p))
      (s.shows t v n le
      ∙ ap (option_map shown) (find-map (owed_push h) (is_pair v n) (owed h t))
      ∙ ap (λ o. option_map shown (option_map (owed_push h) o)) (found_kept same_numbers (is_it v n) (λ q. is_owed (fate h q t)) p (pairs h) found k))
      ∙ owed_by _ (misses h p) _ (next h p) k

  expired_now : is_owed (fate h p t) ≡ false → open_fate t (pair_at v n rows) ≡ HasEnded Expired
  expired_now k =
      open_expired t (pair_at v n rows)
      (owed_is h since t v n rows s le ∙ any_found v n (λ q. is_owed (fate h q t)) p (pairs h) (pairs_apart h legal) found ∙ k)

  pub told_of : (f : Fate) → fate h p t ≡ f → told (Some (kept (standing f))) (open_fate t (pair_at v n rows)) ≡ Some f
  told_of IsAnswered e = refl
  told_of (Owed m nx) e = ap (λ x. Some x) (owed_now (ap is_owed e) ∙ e)
  told_of (HasEnded Expired) e = ap (λ x. Some x) (expired_now (ap is_owed e))
  told_of (HasEnded Unsubscribed) e = refl
  told_of (HasEnded Replaced) e = refl
  told_of (HasEnded Gone) e = refl
  told_of (HasEnded Spent) e = refl
  told_of (HasEnded Revoked) e = refl

-- what the ledger tells is the history's
pub fate_is : (h : List Event) (since t v n : ℕ) (rows : Rows) → Legal h → StandsFor h since rows → since ≤ t → told (standing_at v n rows.fates) (open_fate t (pair_at v n rows.tables.deliveries)) ≡ fate_of h v n t
fate_is h since t v n rows legal s le = ap (λ x. told x (open_fate t (pair_at v n rows.tables.deliveries))) (s.shows t v n le) ∙ by (pair_of h v n) refl
  where
    by : (o : Option Pair) → pair_of h v n ≡ o
        → told (option_map kept (option_map standing (option_map (λ p. fate h p t) o))) (open_fate t (pair_at v n rows.tables.deliveries)) ≡ option_map (λ p. fate h p t) o
    by None k = refl
    by (Some p) k = told_of h since t v n rows.tables.deliveries legal s.tables.deliveries le p k (fate h p t) refl

-- where that much is known
pub fate_told :
    (h : List Event) (since t v n : ℕ) (rows : Rows) → Legal h → StandsFor h since rows → since ≤ t
    → (x : Option Standing) → standing_at v n rows.fates ≡ x → (f : Fate) → f ≡ open_fate t (pair_at v n rows.tables.deliveries) → told x f ≡ fate_of h v n t
fate_told h since t v n rows legal s le x e f g = ap (told x) g ∙ ap (λ y. told y (open_fate t (pair_at v n rows.tables.deliveries))) (sym e) ∙ fate_is h since t v n rows legal s le
