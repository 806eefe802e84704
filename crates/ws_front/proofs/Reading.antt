-- The steps and the exits of reading piece by piece.
use Rattle.std.proofs.Common.{◌≡◌, ◌≢◌, ℕ, ◌-◌, ◌≤◌, ◌<◌, Bool, true, false, List, [], ◌++◌, length, refl, sym, ap, ◌∙◌, subst, append_assoc, append-nil, length-append, arith, Option, Some, None, Result, Ok, Err, IsErrAnd}
use Rattle.std.specs.Prelude.{if◌then◌else◌}
use Rattle.std.specs.Io.KnownBytes.{Consumes, IsAtEnd}
use Rattle.ws_http.specs.declared.fed.Fed.{Fed}
use Rattle.ws_http.specs.declared.fed.Fed.TheVariants.{More, Head}
use Rattle.ws_http.specs.Requests.{Verdict, unfinished, headed, whole, bad, is_final, is_headed, said, IsRequest}
use Rattle.ws_http.specs.RequestStages.{Reading, Stands, fed_count, verdict}
use Rattle.ws_front.specs.Moves.{IsAll}
use Rattle.ws_front.specs.declared.read.Stop.{Stop}
use Rattle.ws_front.specs.declared.read.Stop.TheVariants as stop
use Rattle.ws_front.specs.Reading.{FeedsPiece, IsOpen, ReadsTo, ReadsOver, ReadsOn}
use Rattle.ws_front.proofs.Known.{Consumes-then, Consumes-none, Consumes-all}
use Rattle.ws_http.proofs.ReaderLemmas.{came_count}
use Rattle.ws_front.proofs.Verdicts.{goes_on, is_short}

-- Since the old reader, which was fed the first bytes, all pieces were read, and the reader said nothing; `came` tells
-- whether a byte came before or among them.
pub record SoFar (first : List ℕ) (old now : Reading) (left left' : Option (List ℕ)) (came : Bool) : Type 0 where
  pub before : List ℕ
  pub consumed : Consumes left left' before
  pub stands : Stands now (first ++ before)
  pub room : now.room ≡ 16384
  pub same : verdict now ≡ verdict old
  pub going_on : is_final (verdict old) ≡ false
  pub judged : IsRequest 16384 (first ++ before) (verdict old)
  pub none : came ≡ false → (before ≡ []) × (is_headed (verdict old) ≡ false)
  pub some : came ≡ true → (if is_headed (verdict old) then 0 else 1) ≤ length before

least_by : (b : Bool) → b ≡ true → (if b then 0 else 1) ≤ 0
least_by true e = omega arith
least_by false e = absurd (cc)

least_one : (b : Bool) (n : ℕ) → 0 < n → (if b then 0 else 1) ≤ n
least_one true n h = omega arith
least_one false n h = omega arith

-- a whole head is said only once
said_head : (n : ℕ) (v w o : Verdict) → v ≡ o → Head ≡ said n v w → is_headed o ≡ false
said_head n unfinished headed o e d = sym (ap is_headed e)
said_head n headed headed o e d = absurd (cc)
said_head n (whole k body) headed o e d = absurd (cc)
said_head n (bad reason sound) headed o e d = absurd (cc)
said_head n v unfinished o e d = absurd (cc)
said_head n v (whole k body) o e d = absurd (cc)
said_head n v (bad reason sound) o e d = absurd (cc)

at_end : (a b : Option (List ℕ)) (bytes : List ℕ) → bytes ≡ [] → Consumes a b bytes → IsAtEnd b → IsAtEnd a
at_end None b bytes e p end = tt
at_end (Some xs) None bytes e p end = absurd p
at_end (Some xs) (Some ys) bytes e p end = p ∙ (λ i. e i ++ end i)

judged_at : (r : Reading) (bytes : List ℕ) → r.room ≡ 16384 → Stands r bytes → IsRequest 16384 bytes (verdict r)
judged_at r bytes room st = subst (λ (n : ℕ). IsRequest n bytes (verdict r)) room st.judged

pub started : (first : List ℕ) (old : Reading) (left : Option (List ℕ)) (came : Bool) → IsOpen old first → came ≡ is_headed (verdict old)
    → SoFar first old old left left came
started first old left came o e = record {
  before = [];
  consumed = Consumes-none left left refl;
  stands = subst (λ (t : List ℕ). Stands old t) (sym (append-nil first)) o.stands;
  room = o.room;
  same = refl;
  going_on = o.going_on;
  judged = subst (λ (t : List ℕ). IsRequest 16384 t (verdict old)) (sym (append-nil first)) (judged_at old first o.room o.stands);
  none = λ f. (refl, sym e ∙ f);
  some = λ t. least_by (is_headed (verdict old)) (sym e ∙ t);
}

module _ (first : List ℕ) (old now : Reading) (left left' : Option (List ℕ)) (came : Bool) (s : SoFar first old now left left' came) where
  still : is_final (verdict now) ≡ false
  still = ap is_final s.same ∙ s.going_on

  here : IsRequest 16384 (first ++ s.before) (verdict now)
  here = judged_at now (first ++ s.before) s.room s.stands

  module _ (new : Reading) (left'' : Option (List ℕ)) (fed : Fed) (f : FeedsPiece now new left' left'' fed) where
    room_new : new.room ≡ 16384
    room_new = f.feeds.room ∙ s.room

    joined : (first ++ s.before) ++ f.piece ≡ first ++ (s.before ++ f.piece)
    joined = append_assoc first s.before f.piece

    next_stands : Stands new (first ++ (s.before ++ f.piece))
    next_stands = subst (λ (t : List ℕ). Stands new t) joined (f.feeds.stands still (first ++ s.before) s.stands).0

    next : IsRequest 16384 (first ++ (s.before ++ f.piece)) (verdict new)
    next = judged_at new (first ++ (s.before ++ f.piece)) room_new next_stands

    answered : fed ≡ said (length (first ++ s.before)) (verdict now) (verdict new)
    answered = (f.feeds.stands still (first ++ s.before) s.stands).1

    same_more : fed ≡ More → verdict new ≡ verdict now
    same_more e =
        goes_on (first ++ s.before) f.piece (length (first ++ s.before)) (verdict now) (verdict new) still here
        (subst (λ (t : List ℕ). IsRequest 16384 t (verdict new)) (sym joined) next) (sym e ∙ answered)

    pub goes_on_with : fed ≡ More → SoFar first old new left left'' true
    goes_on_with e =
        let same = same_more e in
        record {
          before = s.before ++ f.piece;
          consumed = Consumes-then left left' left'' s.before f.piece s.consumed f.consumed;
          stands = next_stands;
          room = room_new;
          same = same ∙ s.same;
          going_on = s.going_on;
          judged = subst (λ (v : Verdict). IsRequest 16384 (first ++ (s.before ++ f.piece)) v) (same ∙ s.same) next;
          none = λ t. absurd (cc);
          some = λ t. least_one (is_headed (verdict old)) (length (s.before ++ f.piece)) (omega (arith, f.some, length-append s.before f.piece));
        }

    -- fewer bytes are left of the room
    pub shrinks : fed ≡ More → 16385 - fed_count new < 16385 - fed_count now
    shrinks e =
        let going : is_final (verdict new) ≡ false = ap is_final (same_more e) ∙ still in
        let short : length (first ++ (s.before ++ f.piece)) ≤ 16384 = is_short (first ++ (s.before ++ f.piece)) (verdict new) next going in
        omega (
          arith,
          f.some,
          short,
          came_count new (first ++ (s.before ++ f.piece)) going next_stands,
          came_count now (first ++ s.before) still s.stands,
          ap length joined,
          length-append (first ++ s.before) f.piece,
        )

    head_first : fed ≡ Head → is_headed (verdict old) ≡ false
    head_first e = said_head (length (first ++ s.before)) (verdict now) (verdict new) (verdict old) s.same (sym e ∙ answered)

    pub finds : fed ≢ More → ReadsTo first old new left left'' fed
    finds says = record {
      before = s.before;
      piece = f.piece;
      consumed = Consumes-then left left' left'' s.before f.piece s.consumed f.consumed;
      some = f.some;
      short = f.short;
      waited = s.judged;
      judged = next;
      stands = next_stands;
      going_on = λ going. record { room = room_new; going_on = going; stands = next_stands };
      tells = f.tells;
      says = says;
      head = head_first;
    }

  module _ (left'' : Option (List ℕ)) (e : Consumes left' left'' []) where
    read_all : Consumes left left'' s.before
    read_all = subst (Consumes left left'') (append-nil s.before) (Consumes-then left left' left'' s.before [] s.consumed e)

    pub cuts : came ≡ true → IsAtEnd left' → (r : ReadsOver first old left left'' (if is_headed (verdict old) then 0 else 1)) × IsAll left r.before
    cuts t end = (
      record { before = s.before; consumed = read_all; waited = s.judged; some = s.some t },
      Consumes-all left left' s.before s.consumed end,
    )

    pub fails : ReadsOver first old left left'' 0
    fails = record { before = s.before; consumed = read_all; waited = s.judged; some = omega arith }

    pub finds_none : came ≡ false → IsAtEnd left' → Consumes left left'' [] × IsAtEnd left × (is_headed (verdict old) ≡ false)
    finds_none f end =
        let none = s.none f in (
          subst (Consumes left left'') none.0 read_all,
          at_end left left' s.before none.0 s.consumed end,
          none.1,
        )

-- a read failed
pub reads_err : (first : List ℕ) (old new : Reading) (left left' : Option (List ℕ)) (r : Result Fed Stop) → IsErrAnd r (λ (x : Stop). x ≡ stop.ReadFault)
    → ReadsOver first old left left' 0 → ReadsOn first old new left left' r
reads_err first old new left left' (Ok fed) h q = absurd h
reads_err first old new left left' (Err x) h q = subst (λ (s : Stop). ReadsOn first old new left left' (Err s)) (sym h) q
