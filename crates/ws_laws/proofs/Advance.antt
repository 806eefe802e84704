-- The view at a later moment follows from the view at an earlier one.
use Rattle.std.proofs.Common.{◌≡◌, ℕ, ◌≤◌, Bool, true, false, cond, not, ◌&&◌, List, refl, ap, sym, ◌∙◌, arith}
use Rattle.std.specs.Prelude.{nat_lt, nat_le, is_none, Option, Some, None, map, filter}
use Rattle.std.proofs.lemmas.Bool.Decides.{nat_tests}
use Rattle.ws_model.specs.declared.event.Event.{Event}
use Rattle.ws_model.specs.declared.fate.Cause.{Cause}
use Rattle.ws_model.specs.declared.fate.Cause.TheVariants.{Spent}
use Rattle.ws_model.specs.declared.fate.Fate.TheVariants.{Owed, Ended}
use Rattle.ws_laws.proofs.ListLaws.{filter-filter, filter-map}
use Rattle.ws_model.specs.Fate.{Pair, fate, fate_by, is_owed}
use Rattle.ws_model.specs.Leases.{cause_of, expiry, first_end, lease_end, leases, live}
use Rattle.ws_model.specs.Pairs.{owed, pairs}
use Rattle.ws_model.specs.View.{owed_push}

later_none : (x t u : ℕ) → t ≤ u → is_none (cond (nat_le x u) (Some Cause.Expired) None) ≡ (is_none (cond (nat_le x t) (Some Cause.Expired) None) && nat_lt u x)
later_none x t u h = grind (arith, nat_tests)

pub cause_later : (o : Option (ℕ × Cause)) (x t u : ℕ) → t ≤ u → is_none (cause_of o x u) ≡ (is_none (cause_of o x t) && nat_lt u x)
cause_later None x t u h = later_none x t u h
cause_later (Some e) x t u h = both (nat_lt e.0 x)
  where
    both : (b : Bool) → is_none (cond b (Some e.1) (cond (nat_le x u) (Some Cause.Expired) None)) ≡ (is_none (cond b (Some e.1) (cond (nat_le x t) (Some Cause.Expired) None)) && nat_lt u x)
    both true = refl
    both false = later_none x t u h

pub live_later : (h : List Event) (t u : ℕ) → t ≤ u → live h u ≡ filter (λ l. nat_lt u (expiry l)) (live h t)
live_later h t u le = filter-filter _ _ _ (λ l. cause_later (first_end h l) (expiry l) t u le) (leases h)

-- what is owed, by its parts
pub is_owed_parts : (done : Bool) (m : ℕ) (c : Option Cause) (n : ℕ) → is_owed (fate_by done m c n) ≡ (not done && not (nat_le 8 m) && is_none c)
is_owed_parts true m c n = refl
is_owed_parts false m None n = one (nat_le 8 m)
  where
    one : (b : Bool) → is_owed (cond b (Ended Spent) (Owed m n)) ≡ (not b && true)
    one true = refl
    one false = refl
is_owed_parts false m (Some c) n = one (nat_le 8 m)
  where
    one : (b : Bool) → is_owed (cond b (Ended Spent) (Ended c)) ≡ (not b && false)
    one true = refl
    one false = refl

and_in : (a b c d : Bool) → a ≡ (b && c) → (d && a) ≡ (d && b && c)
and_in a b c true e = e
and_in a b c false e = refl

pub owed_later_at : (h : List Event) (p : Pair) (t u : ℕ) → t ≤ u → is_owed (fate h p u) ≡ (is_owed (fate h p t) && nat_lt u (expiry p.lease))
owed_later_at h p t u le =
    rw (is_owed_parts _ _ (lease_end h p.lease u) _, is_owed_parts _ _ (lease_end h p.lease t) _) (and_in _ _ _ _ (cause_later (first_end h p.lease) (expiry p.lease) t u le))

pub owed_later : (h : List Event) (t u : ℕ) → t ≤ u → owed h u ≡ filter (λ p. nat_lt u (expiry p.lease)) (owed h t)
owed_later h t u le = filter-filter _ _ _ (λ p. owed_later_at h p t u le) (pairs h)

pub owing_later : (h : List Event) (t u : ℕ) → t ≤ u → map (owed_push h) (owed h u) ≡ filter (λ o. nat_lt u (expiry o.lease)) (map (owed_push h) (owed h t))
owing_later h t u le = ap (map (owed_push h)) (owed_later h t u le) ∙ sym (filter-map (owed_push h) (λ o. nat_lt u (expiry o.lease)) (owed h t))
