-- The one pass over renewals: in two parts, and over some of the renewals, by rooms.
use Rattle.std.proofs.Common.{◌≡◌, ℕ, ◌≤◌, Bool, true, false, ◌&&◌, ◌||◌, List, [], ◌∷◌, ◌++◌, refl, ap, sym, ◌∙◌}
use Rattle.std.specs.Prelude.{reverse, ◌==◌}
use Rattle.std.proofs.lemmas.Bool.{and_from, and_parts, or_left, or_right}
use mathlib.Core.Logic.{∥∥₁_map}
use Rattle.ws_model.specs.declared.event.Event.{Event}
use Rattle.ws_model.specs.Keep.{kept_leases, member}
use Rattle.ws_model.specs.Legal.{Legal}
use Rattle.ws_laws.proofs.Known.{itself}
use Rattle.ws_laws.proofs.ListLaws.{all_from}
use Rattle.ws_compaction.proofs.Dropped.{drops_lease_later}
use Rattle.ws_kept.specs.declared.renewal.Renewal.{Renewal}
use Rattle.ws_kept.specs.Finding.{with_old_ones}
use Rattle.ws_kept.specs.Part.{IsPart}
use Rattle.ws_kept.specs.Part.IsPart.{IsEnd, Has, Lacks}
use Rattle.ws_kept.specs.Stands.{AreRenewed, renewals}
use Rattle.ws_kept.proofs.Lists.{both_ways}
use Rattle.ws_kept.proofs.Part.{part_of_fewer}
use Rattle.ws_kept.proofs.Renewed.{old_append, one_member}

-- ---- in two parts

same_walk : (goes : ℕ → Bool) (a b : List ℕ) → ((n : ℕ) → member n a ≡ member n b) → (rs : List Renewal) (n : ℕ) → member n (with_old_ones goes a rs) ≡ member n (with_old_ones goes b rs)
same_walk goes a b alike [] n = alike n
same_walk goes a b alike (r ∷ rs) n =
    one_member goes (with_old_ones goes a rs) r n
    ∙ (λ i. ((same_walk goes a b alike rs r.lease i && goes r.replaced.n) && (r.replaced.n == n)) || same_walk goes a b alike rs n i)
    ∙ sym (one_member goes (with_old_ones goes b rs) r n)

pub in_parts : (goes : ℕ → Bool) (first mid : List ℕ) (looked left : List Renewal) → ((n : ℕ) → member n mid ≡ member n (with_old_ones goes first left)) → (n : ℕ)
    → member n (with_old_ones goes mid looked) ≡ member n (with_old_ones goes first (looked ++ left))
in_parts goes first mid looked left alike n =
    same_walk goes mid (with_old_ones goes first left) alike looked n ∙ sym (ap (member n) (old_append goes first looked left))

-- ---- over some of them

-- The old leases that are found by rooms are among those that are found by pairs, and of the leases that are kept in the end
-- it is the other way round, too.
module _ (goes by_rooms : ℕ → Bool) (Final : ℕ → Type 0) (first : List ℕ) (found : (n : ℕ) → by_rooms n ≡ true → goes n ≡ true) (there : (n : ℕ) → Final n → goes n ≡ true → by_rooms n ≡ true) where
  abbrev IsFinal : List Renewal → Type 0
  IsFinal rs = (n : ℕ) → member n (with_old_ones goes first rs) ≡ true → Final n

  -- the pass only adds
  earlier : (r : Renewal) (rs : List Renewal) → IsFinal (r ∷ rs) → IsFinal rs
  earlier r rs f n k = f n (one_member goes (with_old_ones goes first rs) r n ∙ or_right ((member r.lease (with_old_ones goes first rs) && goes r.replaced.n) && (r.replaced.n == n)) _ k)

  added : (r : Renewal) (rs : List Renewal) → IsFinal (r ∷ rs) → (member r.lease (with_old_ones goes first rs) && goes r.replaced.n) ≡ true → Final r.replaced.n
  added r rs f k = f r.replaced.n (one_member goes (with_old_ones goes first rs) r r.replaced.n ∙ or_left _ _ (and_from _ _ k (itself r.replaced.n)))

  same_step : (r : Renewal) (rs : List Renewal) → IsFinal (r ∷ rs) → (member r.lease (with_old_ones goes first rs) && by_rooms r.replaced.n) ≡ (member r.lease (with_old_ones goes first rs) && goes r.replaced.n)
  same_step r rs f =
      both_ways _ _
      (λ k. let a = and_parts (member r.lease (with_old_ones goes first rs)) (by_rooms r.replaced.n) k in and_from _ _ a.0 (found r.replaced.n a.1))
      (λ k. let a = and_parts (member r.lease (with_old_ones goes first rs)) (goes r.replaced.n) k in and_from _ _ a.0 (there r.replaced.n (added r rs f k) a.1))

  no_step : (r : Renewal) (rs : List Renewal) → (Final r.replaced.n → ⊥) → IsFinal (r ∷ rs) → (member r.lease (with_old_ones goes first rs) && goes r.replaced.n) ≡ false
  no_step r rs free f = by (member r.lease (with_old_ones goes first rs) && goes r.replaced.n) refl
    where
      by : (b : Bool) → (member r.lease (with_old_ones goes first rs) && goes r.replaced.n) ≡ b → b ≡ false
      by true k = absurd (free (added r rs f k))
      by false k = refl

  pub fewer_walked : {part all : List Renewal} → IsPart (λ r. Final r.replaced.n) part all → IsFinal all → (n : ℕ) → member n (with_old_ones by_rooms first part) ≡ member n (with_old_ones goes first all)
  fewer_walked IsEnd f n = refl
  fewer_walked (Has r part all p) f n =
      let same : (m : ℕ) → member m (with_old_ones by_rooms first part) ≡ member m (with_old_ones goes first all) = fewer_walked p (earlier r all f) in
      one_member by_rooms (with_old_ones by_rooms first part) r n
      ∙ (λ i. ((same r.lease i && by_rooms r.replaced.n) && (r.replaced.n == n)) || same n i)
      ∙ ap (λ b. (b && (r.replaced.n == n)) || member n (with_old_ones goes first all)) (same_step r all f)
      ∙ sym (one_member goes (with_old_ones goes first all) r n)
  fewer_walked (Lacks r part all free p) f n =
      fewer_walked p (earlier r all f) n
      ∙ sym (one_member goes (with_old_ones goes first all) r n ∙ ap (λ b. (b && (r.replaced.n == n)) || member n (with_old_ones goes first all)) (no_step r all free f))

-- the renewals at a later moment
pub renewed_at : (h : List Event) (since t : ℕ) (rows : List Renewal) → Legal h → since ≤ t → AreRenewed h since rows → AreRenewed h t rows
renewed_at h since t rows l le renewed =
    ∥∥₁_map renewed
    (part_of_fewer (λ r. member r.replaced.n (kept_leases h since) ≡ true) (λ r. member r.replaced.n (kept_leases h t) ≡ true)
    (all_from (λ r. member r.replaced.n (kept_leases h t) ≡ true → member r.replaced.n (kept_leases h since) ≡ true) (λ r k. drops_lease_later h since t r.replaced.n l le k) (reverse (renewals h))))
