-- A response that comes in pieces: what is said to each piece, by the bytes of all pieces so far.
use Rattle.std.specs.Prelude.{◌≡◌, ℕ, true, false, Bool, List, [], ◌∷◌, ◌++◌, length, ⊤}
use Rattle.ws_http.specs.declared.fed.BadWhy.{BadWhy}
use Rattle.ws_http.specs.declared.fed.Fed.{Fed}
use Rattle.ws_http.specs.declared.fed.Need.{Need}
use Rattle.ws_http.specs.declared.reply_stage.ReplyStage.TheVariants as stage
use Rattle.ws_http.specs.Responses.{Verdict, IsResponse, Got, fault_outcome}
use Rattle.ws_http.specs.ResponseStages.{ReplyReading, FeedsReply, Stands, fresh_reply, is_last, is_starved, said, said_again}

-- a piece, with the connection's end behind it or not, the answer to it, and the reader after it
pub record ReplyStep : Type 0 where
  pub piece : List ℕ
  pub ended : Bool
  pub answer : Fed
  pub after : ReplyReading

-- the reader was fed these pieces one after another
abbrev pub FedReply : ReplyReading → List ReplyStep → Type 0
FedReply r [] = ⊤
FedReply r (s ∷ steps) = FeedsReply r s.piece s.ended s.after s.answer × FedReply s.after steps

-- As long as the reader isn't at its last stage, it stands for all bytes so far after each piece, or there
-- was no memory, and the answer follows from that; from then on it stays as it is, and says the same.
abbrev pub RepliesAre : List ℕ → ReplyReading → List ReplyStep → Type 0
RepliesAre came r [] = ⊤
RepliesAre came r (s ∷ steps) =
    (is_last r.stage ≡ true → (s.after ≡ r) × (s.answer ≡ said_again r.stage))
    × (is_last r.stage ≡ false → is_starved s.after.stage ≡ false
    → Stands s.after (came ++ s.piece) s.ended × (s.answer ≡ said (length came) r.stage s.after.stage))
    × RepliesAre (came ++ s.piece) s.after steps

-- for every list of pieces the answers are those on the pieces joined
abbrev pub ReplyInAnyPieces : Type 0
ReplyInAnyPieces = (need : Need) (steps : List ReplyStep) → FedReply (fresh_reply need) steps → RepliesAre [] (fresh_reply need) steps

-- the fault that a reader stands for is the outcome of the bytes
abbrev pub FaultsAreGot : Type 0
FaultsAreGot =
    (r : ReplyReading) (came : List ℕ) (ended : Bool) (reason : BadWhy) → Stands r came ended → r.stage ≡ stage.Bad reason
    → Got r.need came ended (fault_outcome reason)

-- the bytes of a response have one verdict
abbrev pub OneReply : Type 0
OneReply = (need : Need) (bytes : List ℕ) (v w : Verdict) → IsResponse need bytes v → IsResponse need bytes w → v ≡ w
