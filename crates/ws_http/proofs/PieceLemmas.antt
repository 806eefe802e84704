-- One piece after another.
use Rattle.std.proofs.Common.{◌≡◌, ℕ, ◌≤◌, Bool, true, false, cond, List, [], ◌∷◌, ◌++◌, length, refl, sym, ap, ◌∙◌, subst, append_assoc}
use Rattle.std.proofs.lemmas.Bool.{false≢true}
use Rattle.httparse.specs.Grammar.{print_request}
use Rattle.ws_http.specs.declared.stage.Stage.{Stage}
use Rattle.ws_http.specs.declared.stage.Stage.TheVariants as stage
use Rattle.ws_http.specs.Requests.{is_final, said, said_again, IsRequest}
use Rattle.ws_http.specs.RequestStages.{Reading, Feeds, Keeps, SharesHead, Stands, is_last, verdict, fresh}
use Rattle.ws_http.specs.Pieces.{Step, Fed_with, AnswersAre}
use Rattle.ws_http.proofs.ReaderLemmas.{front_more, final_last, fresh_stands}
use Rattle.ws_http.proofs.StayLemmas.{final_stays}

-- a reader that was fed these bytes
pub record Fits (limit : ℕ) (came : List ℕ) (r : Reading) : Type 0 where
  pub room : r.room ≡ limit
  pub standing : is_final (verdict r) ≡ false → Stands r came
  pub closed : is_final (verdict r) ≡ true → IsRequest limit came (verdict r)

module _ (room : ℕ) (least : 16384 ≤ room) where
  going : (bytes : List ℕ) (r : Reading) (s : Step) → Fits room bytes r → Feeds r s.piece s.after s.answer → is_final (verdict r) ≡ false
      → IsRequest room (bytes ++ s.piece) (verdict s.after)
  going bytes r s fits f live =
      subst (λ (k : ℕ). IsRequest k (bytes ++ s.piece) (verdict s.after)) (f.room ∙ fits.room) (f.stands live bytes (fits.standing live)).0.judged

  closed : (bytes : List ℕ) (r : Reading) (s : Step) → Fits room bytes r → Feeds r s.piece s.after s.answer → is_final (verdict r) ≡ true
      → IsRequest room (bytes ++ s.piece) (verdict s.after)
  closed bytes r s fits f done =
      subst (λ (x : Reading). IsRequest room (bytes ++ s.piece) (verdict x)) (sym (f.again done).0)
      (final_stays room bytes s.piece (verdict r) least done (fits.closed done))

  one : (bytes : List ℕ) (r : Reading) (s : Step) (b : Bool) → is_final (verdict r) ≡ b → Fits room bytes r
      → Feeds r s.piece s.after s.answer → IsRequest room (bytes ++ s.piece) (verdict s.after)
  one bytes r s true e fits f = closed bytes r s fits f e
  one bytes r s false e fits f = going bytes r s fits f e

  answered : (bytes : List ℕ) (r : Reading) (s : Step) (b : Bool) → is_final (verdict r) ≡ b → Fits room bytes r
      → Feeds r s.piece s.after s.answer → s.answer ≡ cond b (said_again (verdict r)) (said (length bytes) (verdict r) (verdict s.after))
  answered bytes r s true e fits f = (f.again e).1
  answered bytes r s false e fits f = (f.stands e bytes (fits.standing e)).1

  open_on : (bytes : List ℕ) (r : Reading) (s : Step) (b : Bool) → is_final (verdict r) ≡ b → Fits room bytes r
      → Feeds r s.piece s.after s.answer → is_final (verdict s.after) ≡ false → Stands s.after (bytes ++ s.piece)
  open_on bytes r s true e fits f live =
      absurd (false≢true (sym live ∙ ap (λ (x : Reading). is_final (verdict x)) (f.again e).0 ∙ e))
  open_on bytes r s false e fits f live = (f.stands e bytes (fits.standing e)).0

  pub in_pieces : (bytes : List ℕ) (r : Reading) (steps : List Step) → Fits room bytes r → Fed_with r steps
      → AnswersAre room bytes (verdict r) steps
  in_pieces bytes r [] fits f = tt
  in_pieces bytes r (s ∷ steps) fits f =
      let now = one bytes r s (is_final (verdict r)) refl fits f.0 in
      let next : Fits room (bytes ++ s.piece) s.after = record {
        room = f.0.room ∙ fits.room;
        standing = open_on bytes r s (is_final (verdict r)) refl fits f.0;
        closed = λ _. now;
      } in
      (now, answered bytes r s (is_final (verdict r)) refl fits f.0, in_pieces (bytes ++ s.piece) s.after steps next f.1)

pub from_fresh : (room : ℕ) → Fits room [] (fresh room)
from_fresh room = record { room = refl; standing = λ _. fresh_stands room; closed = λ done. absurd (false≢true done) }

-- ---- behind a last stage

kept_last : (room : ℕ) (raw body more : List ℕ) (s : Stage) → is_last s ≡ true → Keeps room raw body s more
kept_last room raw body more stage.Head last = absurd (cc)
kept_last room raw body more (stage.Fixed head total) last = absurd (cc)
kept_last room raw body more (stage.Chunked head p) last = absurd (cc)
kept_last room raw body more (stage.Whole head total chunked) last = tt
kept_last room raw body more (stage.Bad reason sound) last = tt

shares_more : (raw came more : List ℕ) → SharesHead raw came → SharesHead raw (came ++ more)
shares_more raw came more x =
    let y = front_more 16384 came more in
    record {
      head = x.head;
      kept_rest = x.kept_rest;
      rest = x.rest ++ y.0;
      kept = x.kept;
      reads = (x.reads.0, y.1 ∙ ap (λ (t : List ℕ). t ++ y.0) x.reads.1 ∙ append_assoc (print_request x.head) x.rest y.0);
    }

-- a reader at its last stage stands for all bytes that come behind
pub stands_more : (r : Reading) (came more : List ℕ) → 16384 ≤ r.room → is_last r.stage ≡ true → Stands r came → Stands r (came ++ more)
stands_more r came more least last st = record {
  judged = final_stays r.room came more (verdict r) least (final_last r.stage r.bytes r.content ∙ last) st.judged;
  kept = kept_last r.room r.bytes r.content (came ++ more) r.stage last;
  head = λ sound. shares_more r.bytes came more (st.head sound);
}
