-- What reading a request piece by piece comes to (own).
use Rattle.std.specs.Prelude.{◌≡◌, ◌≢◌, ℕ, ◌<◌, ◌≤◌, false, if◌then◌else◌, List, [], ◌++◌, length, Option, Some, None, Result, Ok, Err, IsErrOf}
use Rattle.std.specs.Io.KnownBytes.{Consumes, IsAtEnd}
use Rattle.ws_model.specs.Cause.{Rose}
use Rattle.ws_http.specs.declared.fed.Fed.{Fed}
use Rattle.ws_http.specs.declared.fed.Fed.TheVariants.{More, Head}
use Rattle.ws_http.specs.Requests.{Tells, is_final, is_headed, IsRequest}
use Rattle.ws_http.specs.RequestStages.{Reading, Feeds, Stands, verdict}
use Rattle.ws_front.specs.Moves.{IsAll}
use Rattle.ws_front.specs.declared.read.Stop.{Stop}
use Rattle.ws_front.specs.declared.read.Stop.TheVariants as stop

-- a piece was read and fed
pub record FeedsPiece (old new : Reading) (left left' : Option (List ℕ)) (fed : Fed) : Type 0 where
  pub piece : List ℕ
  pub consumed : Consumes left left' piece
  pub some : 0 < length piece
  pub short : length piece ≤ 8192
  pub feeds : Feeds old piece new fed
  pub tells : Tells fed (verdict new)

-- A piece is read, or there is none, or reading failed.
abbrev pub TakesPiece : {E : Type 0} → Reading → Reading → Option (List ℕ) → Option (List ℕ) → Result (Option Fed) E → Type 0
TakesPiece old new left left' (Ok (Some fed)) = FeedsPiece old new left left' fed
TakesPiece old new left left' (Ok None) = (new ≡ old) × Consumes left left' [] × IsAtEnd left
TakesPiece old new left left' (Err e) = (new ≡ old) × Consumes left left' []

-- A reader that was fed these bytes, and isn't done.
pub record IsOpen (r : Reading) (came : List ℕ) : Type 0 where
  pub room : r.room ≡ 16384
  pub going_on : is_final (verdict r) ≡ false
  pub stands : Stands r came

-- Behind the bytes that came, pieces were read up to the one at which the reader said something.
pub record ReadsTo (came : List ℕ) (old new : Reading) (left left' : Option (List ℕ)) (fed : Fed) : Type 0 where
  pub before : List ℕ
  pub piece : List ℕ
  pub consumed : Consumes left left' (before ++ piece)
  pub some : 0 < length piece
  pub short : length piece ≤ 8192
  pub waited : IsRequest 16384 (came ++ before) (verdict old)
  pub judged : IsRequest 16384 (came ++ (before ++ piece)) (verdict new)
  pub stands : Stands new (came ++ (before ++ piece))
  pub going_on : is_final (verdict new) ≡ false → IsOpen new (came ++ (before ++ piece))
  pub tells : Tells fed (verdict new)
  pub says : fed ≢ More
  pub head : fed ≡ Head → is_headed (verdict old) ≡ false

-- Behind the bytes that came, at least so many were read, and the reader said nothing.
pub record ReadsOver (came : List ℕ) (old : Reading) (left left' : Option (List ℕ)) (least : ℕ) : Type 0 where
  pub before : List ℕ
  pub consumed : Consumes left left' before
  pub waited : IsRequest 16384 (came ++ before) (verdict old)
  pub some : least ≤ length before

abbrev pub ReadsOn : List ℕ → Reading → Reading → Option (List ℕ) → Option (List ℕ) → Result Fed Stop → Type 0
ReadsOn came old new left left' (Ok fed) = ReadsTo came old new left left' fed
ReadsOn came old new left left' (Err stop.Empty) = Consumes left left' [] × IsAtEnd left × (is_headed (verdict old) ≡ false)
ReadsOn came old new left left' (Err stop.Cut) = (r : ReadsOver came old left left' (if is_headed (verdict old) then 0 else 1)) × IsAll left r.before
ReadsOn came old new left left' (Err stop.ReadFault) = ReadsOver came old left left' 0
ReadsOn came old new left left' (Err stop.WriteFault) = ⊥

-- the count doesn't fall, and a failure comes only where it rose
pub record HasReadCause {T : Type 0} (reads reads' : ℕ) (result : Result T Stop) : Type 0 where
  pub later : reads ≤ reads'
  pub failed : IsErrOf result stop.ReadFault → Rose reads reads'
