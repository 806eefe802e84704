-- The core after its log and its renewals were swept.
use Rattle.std.proofs.Common.{◌≡◌, [], ◌∷◌, ◌++◌, ap, sym, ◌∙◌, subst}
use Rattle.std.specs.Prelude.{Err, Ok, OnErr, OnOk, Result}
use Rattle.std.specs.Result.{IsErr}
use Rattle.std.proofs.lemmas.Bool.{false≢true}
use Rattle.std.proofs.lemmas.List.{append_assoc}
use Rattle.ws_model.specs.declared.event.Event.{Event}
use Rattle.ws_kept.specs.declared.renewal.Renewal.{Renewal}
use Rattle.ws_ledger.specs.Rows.{Rows as LedgerRows}
use Rattle.ws_sweep.specs.Rows.{Rows as SweepRows, members}
use Rattle.ws_tries.specs.Rows.{Rows as TryRows}
use Rattle.ws_core.specs.GivenBack.{IsGone, RoomsAreGone}
use Rattle.ws_core.specs.Passing.{StayGone}
use Rattle.ws_core.specs.Rows.{Rows}

-- a member that is put behind the others
pub pushed : {X : Type 0} (old mid new : SweepRows X) (x : X) → mid.looked ≡ old.looked → mid.left ≡ old.left → new.looked ≡ mid.looked → new.left ≡ mid.left ++ x ∷ [] → members new ≡ members old ++ x ∷ []
pushed old mid new x a b c d = (λ j. (c ∙ a) j ++ (d ∙ ap (λ xs. xs ++ x ∷ []) b) j) ∙ sym (append_assoc old.looked old.left (x ∷ []))

-- rooms that are gone stay so
pub gone_swept : (e : Event) (old last new : Rows) → RoomsAreGone e old last → new.ledger ≡ last.ledger → StayGone last.tries new.tries → RoomsAreGone e old new
gone_swept e old last new gone same_ledger none h since s l le v n of is_gone =
    none v n (gone h since s l le v n of (subst (λ (r : LedgerRows). IsGone (e ∷ h) e.t r.fates n) same_ledger is_gone))

-- where nothing was done but room taken
pub as_before : (old : Rows) {ledger : LedgerRows} {tries : TryRows} (log : SweepRows Event) (renewals : SweepRows Renewal) (held : SweepRows Event) (had : SweepRows Renewal)
    → ledger ≡ old.ledger → tries ≡ old.tries → log.looked ≡ held.looked → log.left ≡ held.left → renewals.looked ≡ had.looked → renewals.left ≡ had.left → members held ≡ old.log → members had ≡ old.renewals
    → record { ledger = ledger; log = members log; renewals = members renewals; tries = tries } ≡ old
as_before old log renewals held had a b c d e f g i = λ j. record { ledger = a j; log = ((λ k. c k ++ d k) ∙ g) j; renewals = ((λ k. e k ++ f k) ∙ i) j; tries = b j }

pub at_error : {X Y : Type 0} (P : Type 0) (r : Result X Y) → P → OnErr r P
at_error P (Ok x) p = tt
at_error P (Err y) p = p

pub not_ok : {X Y : Type 0} (P : Type 0) (r : Result X Y) → IsErr r → OnOk r P
not_ok P (Ok x) e = absurd (false≢true e)
not_ok P (Err y) e = tt
