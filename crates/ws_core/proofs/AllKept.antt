-- What is gathered for a compaction is what it keeps.
use Rattle.std.proofs.Common.{◌≡◌, ℕ, ◌≤◌, Bool, true, false, not, ◌&&◌, ◌||◌, List, [], ◌∷◌, ◌++◌, refl, ap, sym, ◌∙◌, subst}
use Rattle.std.specs.Prelude.{filter, reverse, Option, Some, None}
use Rattle.std.specs.List.Sorted.{IsPermutation}
use Rattle.std.specs.Option.{option_map}
use Rattle.std.proofs.lemmas.List.{reverse-append, reverse-reverse}
use Rattle.std.proofs.lemmas.List.Sorted.{IsPermutation-reverse}
use Rattle.ws_model.specs.declared.event.Event.{Event}
use Rattle.ws_model.specs.declared.fate.Cause.TheVariants.{Expired, Unsubscribed, Replaced, Gone, Spent, Revoked}
use Rattle.ws_model.specs.Keep.{keep, keeps, tally}
use Rattle.ws_model.specs.Legal.{Legal}
use Rattle.ws_laws.proofs.ListLaws.{all_from, filter_same}
use Rattle.ws_fate.specs.declared.totals.Standing.{Standing}
use Rattle.ws_fate.specs.declared.totals.Standing.TheVariants.{Open, Answered, Ended}
use Rattle.ws_fate.specs.Stands.{AreShown, without_expiry}
use Rattle.ws_compaction.proofs.Dropped.{drops_lease_later, drops_version_later}
use Rattle.ws_tries.specs.Rows.{Rows as TryRows}
use Rattle.ws_tries.specs.Stands.{HaveRooms, is_any_push}
use Rattle.ws_gather.specs.Gathered.{AreGathered}
use Rattle.ws_gather.proofs.Members.{adds_up, exchanges}
use Rattle.ws_tried.specs.Kept.{is_kept_push}
use Rattle.ws_ledger.specs.Rows.{Rows as LedgerRows}
use Rattle.ws_ledger.specs.Stands.{StandsFor as LedgerStands, kept}

-- ---- what became of each pair

same_standing : (s : Standing) → kept s ≡ without_expiry s
same_standing Open = refl
same_standing Answered = refl
same_standing (Ended Expired) = refl
same_standing (Ended Unsubscribed) = refl
same_standing (Ended Replaced) = refl
same_standing (Ended Gone) = refl
same_standing (Ended Spent) = refl
same_standing (Ended Revoked) = refl

same_one : (o : Option Standing) → option_map kept o ≡ option_map without_expiry o
same_one None = refl
same_one (Some s) = ap (λ s. Some s) (same_standing s)

pub shown : (h : List Event) (since : ℕ) (rows : LedgerRows) → LedgerStands h since rows → AreShown h since rows.fates
shown h since rows s t v n le = s.shows t v n le ∙ same_one _

-- ---- rooms at a later moment

pub rooms_later : (h : List Event) (since t : ℕ) (rows : TryRows) → Legal h → since ≤ t → HaveRooms h since rows → HaveRooms h t rows
rooms_later h since t rows l le rooms v n kept_version kept_lease there = rooms v n (drops_version_later h since t v le kept_version) (drops_lease_later h since t n l le kept_lease) there

-- ---- all that is kept

either : (b k : Bool) → (not b && k || (b && k)) ≡ k
either true k = refl
either false true = refl
either false false = refl

not_both : (b k : Bool) → ((not b && k) && (b && k)) ≡ false
not_both true k = refl
not_both false true = refl
not_both false false = refl

-- the kept events that are no pushes
abbrev is_kept_other : List Event → ℕ → Event → Bool
is_kept_other h t e = not (is_any_push e.what) && keeps h t e e.what

turned : {X : Type 0} (xs : List X) → IsPermutation (reverse xs) xs
turned xs = subst (IsPermutation (reverse xs)) (reverse-reverse xs) (IsPermutation-reverse (reverse xs))

pub together :
    (h : List Event) (t : ℕ) (others pushes gathered : List Event) → Legal h → others ≡ reverse (filter (λ e. not (is_any_push e.what) && keeps h t e e.what) h) → AreGathered h (is_kept_push h t) pushes
    → gathered ≡ others ++ pushes → AreGathered h (λ e. is_kept_other h t e || is_kept_push h t e) gathered
together h t others pushes gathered l are kept same =
    subst (AreGathered h (λ e. is_kept_other h t e || is_kept_push h t e)) (sym same)
    (adds_up h (is_kept_other h t) (is_kept_push h t) others pushes l (all_from (λ e. (is_kept_other h t e && is_kept_push h t e) ≡ false) (λ e. not_both (is_any_push e.what) (keeps h t e e.what)) h)
    (exchanges h (is_kept_other h t) others l (subst (λ xs. IsPermutation xs (filter (is_kept_other h t) h)) (sym are) (turned (filter (is_kept_other h t) h)))) kept)

pub whole :
    (h : List Event) (t : ℕ) (first : Event) (ordered : List Event) → first ≡ tally h t → ordered ≡ reverse (filter (λ e. is_kept_other h t e || is_kept_push h t e) h) → first ∷ ordered ≡ reverse (keep h t)
whole h t first ordered is are =
    (λ j. is j ∷ (are ∙ ap reverse (filter_same (λ e. is_kept_other h t e || is_kept_push h t e) (λ e. keeps h t e e.what) h (all_from (λ e. (is_kept_other h t e || is_kept_push h t e) ≡ keeps h t e e.what) (λ e. either (is_any_push e.what) (keeps h t e e.what)) h))) j)
    ∙ sym (reverse-append (filter (λ e. keeps h t e e.what) h) (tally h t ∷ []))
