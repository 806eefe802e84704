-- One piece of a response after another.
use Rattle.std.proofs.Common.{◌≡◌, ℕ, Bool, true, false, List, [], ◌∷◌, ◌++◌, length, refl, sym, ap, ◌∙◌, subst}
use Rattle.std.proofs.lemmas.Bool.{false≢true}
use Rattle.ws_http.specs.declared.fed.BadWhy.{BadWhy}
use Rattle.ws_http.specs.declared.fed.Need.{Need}
use Rattle.ws_http.specs.declared.reply_stage.ReplyStage.{ReplyStage}
use Rattle.ws_http.specs.declared.reply_stage.ReplyStage.TheVariants as stage
use Rattle.ws_http.specs.Responses.{Verdict, unfinished, is_final, closed, bad, fault_outcome, Makes, Got}
use Rattle.ws_http.specs.ResponseStages.{ReplyReading, FeedsReply, Stands, Says, Keeps, fresh_reply, is_last, is_starved}
use Rattle.ws_http.specs.ReplyPieces.{ReplyStep, FedReply, RepliesAre}
use Rattle.ws_http.proofs.ReplyLemmas.{nothing_came}
use Rattle.ws_http.proofs.ReplyStayLemmas.{reply_stays}

pub starved_last : (s : ReplyStage) → is_last s ≡ false → is_starved s ≡ false
starved_last (stage.Head at) e = refl
starved_last (stage.Fixed f total) e = refl
starved_last (stage.Lasting f) e = refl
starved_last (stage.Chunked f p) e = refl
starved_last (stage.Whole f total chunked) e = refl
starved_last (stage.Bad reason) e = refl
starved_last stage.NoMemory e = absurd (false≢true (sym e))

not_ended : (b last : Bool) → (b ≡ true → last ≡ true) → last ≡ false → b ≡ false
not_ended true last closes live = absurd (false≢true (sym live ∙ closes refl))
not_ended false last closes live = refl

-- the reader after a piece stands for the bytes, where it goes on
goes_on : (came : List ℕ) (r : ReplyReading) (s : ReplyStep) (b : Bool) → is_last r.stage ≡ b → (is_last r.stage ≡ false → Stands r came false)
    → FeedsReply r s.piece s.ended s.after s.answer → is_last s.after.stage ≡ false → Stands s.after (came ++ s.piece) false
goes_on came r s true e st f live =
    absurd (false≢true (sym live ∙ ap (λ (x : ReplyReading). is_last x.stage) (f.again e).0 ∙ e))
goes_on came r s false e st f live =
    subst (λ (b : Bool). Stands s.after (came ++ s.piece) b) (not_ended s.ended (is_last s.after.stage) f.closes live)
    (f.stands e (starved_last s.after.stage live) came (st e)).0

pub in_pieces : (came : List ℕ) (r : ReplyReading) (steps : List ReplyStep) → (is_last r.stage ≡ false → Stands r came false)
    → FedReply r steps → RepliesAre came r steps
in_pieces came r [] st f = tt
in_pieces came r (s ∷ steps) st f = (
  f.0.again,
  λ live well. f.0.stands live well came (st live),
  in_pieces (came ++ s.piece) s.after steps (goes_on came r s (is_last r.stage) refl st f.0) f.1,
)

pub from_fresh : (n : Need) → Stands (fresh_reply n) [] false
from_fresh n = record { verdict = unfinished; is = nothing_came n; says = refl; kept = refl }

pub fault_got : (r : ReplyReading) (came : List ℕ) (ended : Bool) (reason : BadWhy) → Stands r came ended → r.stage ≡ stage.Bad reason
    → Got r.need came ended (fault_outcome reason)
fault_got r came ended reason st e =
    let v = closed ended (length came) st.verdict in
    let says : v ≡ bad reason = subst (λ (s : ReplyStage). Says r.need r.bytes r.content s v) e st.says in
    record {
      verdict = st.verdict;
      is = st.is;
      makes = subst (λ (w : Verdict). Makes w (fault_outcome reason)) (sym says) refl;
    }

-- ---- behind a last stage

last_final : (n : Need) (raw body : List ℕ) (s : ReplyStage) (v : Verdict) → is_last s ≡ true → is_starved s ≡ false → Says n raw body s v
    → is_final v ≡ true
last_final n raw body (stage.Head at) v last well says = absurd (false≢true last)
last_final n raw body (stage.Fixed f total) v last well says = absurd (false≢true last)
last_final n raw body (stage.Lasting f) v last well says = absurd (false≢true last)
last_final n raw body (stage.Chunked f p) v last well says = absurd (false≢true last)
last_final n raw body (stage.Whole f total chunked) v last well says = ap is_final says.2
last_final n raw body (stage.Bad reason) v last well says = ap is_final says
last_final n raw body stage.NoMemory v last well says = absurd (false≢true (sym well))

kept_last : (n : Need) (raw body came : List ℕ) (s : ReplyStage) → is_last s ≡ true → Keeps n raw body s came
kept_last n raw body came (stage.Head at) last = absurd (false≢true last)
kept_last n raw body came (stage.Fixed f total) last = absurd (false≢true last)
kept_last n raw body came (stage.Lasting f) last = absurd (false≢true last)
kept_last n raw body came (stage.Chunked f p) last = absurd (false≢true last)
kept_last n raw body came (stage.Whole f total chunked) last = tt
kept_last n raw body came (stage.Bad reason) last = tt
kept_last n raw body came stage.NoMemory last = tt

-- a reader at its last stage stands for all bytes that come behind
pub stands_more : (r : ReplyReading) (came more : List ℕ) → is_last r.stage ≡ true → is_starved r.stage ≡ false → Stands r came false
    → Stands r (came ++ more) false
stands_more r came more last well st = record {
  verdict = st.verdict;
  is = reply_stays r.need came more st.verdict (last_final r.need r.bytes r.content r.stage st.verdict last well st.says) st.is;
  says = st.says;
  kept = kept_last r.need r.bytes r.content (came ++ more) r.stage last;
}
