-- A request that comes in pieces: what is said to each piece, by the bytes of all pieces so far.
use Rattle.std.specs.Prelude.{◌≡◌, ℕ, ◌≤◌, true, if◌then◌else◌, List, [], ◌∷◌, ◌++◌, length, take, ⊤}
use Rattle.httparse.specs.Grammar.{EndsInTarget}
use Rattle.ws_http.specs.declared.fed.Fed.{Fed}
use Rattle.ws_http.specs.Requests.{Verdict, unfinished, is_final, said, said_again, IsRequest}
use Rattle.ws_http.specs.RequestStages.{Reading, Feeds, verdict, fresh}

-- a piece, the answer to it, and the reader after it
pub record Step : Type 0 where
  pub piece : List ℕ
  pub answer : Fed
  pub after : Reading

-- the reader was fed these pieces one after another
abbrev pub Fed_with : Reading → List Step → Type 0
Fed_with r [] = ⊤
Fed_with r (s ∷ steps) = Feeds r s.piece s.after s.answer × Fed_with s.after steps

-- After each piece the verdict is that on all bytes so far, and the answer follows from it: More or
-- Head while it isn't final, then Whole or Bad, and from then on the same with no byte used.
abbrev pub AnswersAre : ℕ → List ℕ → Verdict → List Step → Type 0
AnswersAre room bytes v [] = ⊤
AnswersAre room bytes v (s ∷ steps) =
    IsRequest room (bytes ++ s.piece) (verdict s.after)
    × (s.answer ≡ (if is_final v then said_again v else said (length bytes) v (verdict s.after)))
    × AnswersAre room (bytes ++ s.piece) (verdict s.after) steps

-- A verdict that is final stays that on the bytes, whatever comes behind them.
abbrev pub FinalStays : Type 0
FinalStays =
    (room : ℕ) (bytes more : List ℕ) (v : Verdict) → 16384 ≤ room → is_final v ≡ true → IsRequest room bytes v
    → IsRequest room (bytes ++ more) v

-- The bytes of a request have one verdict, but where the first 16,384 of them end inside a target: there a
-- target that can't become text may be refused or waited for.
abbrev pub OneVerdict : Type 0
OneVerdict =
    (room : ℕ) (bytes : List ℕ) (v w : Verdict) → ¬ (EndsInTarget (take 16384 bytes)) → IsRequest room bytes v → IsRequest room bytes w → v ≡ w

-- For every list of pieces the answers are those on the pieces joined.
abbrev pub InAnyPieces : Type 0
InAnyPieces = (room : ℕ) (steps : List Step) → 16384 ≤ room → Fed_with (fresh room) steps → AnswersAre room [] unfinished steps
