-- The exits of reading a request.
use Rattle.std.proofs.Common.{◌≡◌, ◌≢◌, ℕ, ◌≤◌, ◌<◌, Bool, true, false, List, [], ◌++◌, length, take, refl, sym, ap, ◌∙◌, subst, append_assoc, length-append, arith, Option, Some, None, Result, Ok, Err, IsErrAnd}
use Rattle.std.specs.Prelude.{if◌then◌else◌, MatchBool, IsErrOf}
use Rattle.std.proofs.lemmas.Bool.{false≢true}
use Rattle.std.specs.Io.KnownBytes.{Consumes, Appends, IsAtEnd}
use Rattle.httparse.specs.Grammar.{RequestHead, ReadsRequest}
use Rattle.ws_http.specs.declared.fed.Fed.{Fed}
use Rattle.ws_http.specs.declared.fed.Fed.TheVariants.{Head}
use Rattle.ws_http.specs.Requests.{Verdict, unfinished, headed, is_headed, Tells, IsRequest}
use Rattle.ws_http.specs.RequestStages.{Reading, verdict, fresh}
use Rattle.ws_front.specs.declared.message.Message.{Message}
use Rattle.ws_front.specs.declared.message.Message.TheVariants.{Refused}
use Rattle.ws_front.specs.declared.refusal.Refusal.{Refusal}
use Rattle.ws_front.specs.declared.read.Stop.{Stop}
use Rattle.ws_front.specs.declared.read.Stop.TheVariants as stop
use Rattle.ws_front.specs.Moves.{IsAll}
use Rattle.ws_front.specs.Rules.{refused, Says, Rules, Waits, HeadSays, by_head, by_verdict, head_refusal, awaits}
use Rattle.ws_front.specs.Answers.{nothing, interim_line}
use Rattle.ws_front.specs.Reading.{IsOpen, ReadsTo, ReadsOn, HasReadCause}
use Rattle.ws_front.specs.Connection.{AtOnce, IsUnanswered}
use Rattle.ws_front.specs.Requesting.{RulingIs, Requests, GivesLine, HasSaid, Passes, HasSinkCause, HasStopCause}
use Rattle.ws_front.proofs.Known.{Consumes-then, Appends-none}
use Rattle.ws_http.proofs.ReaderLemmas.{fresh_stands}
use Rattle.ws_front.proofs.Verdicts.{reads_more, sound_stays}

-- ---- what is said

-- behind no sound head
rules_unheaded : (hub bytes : List ℕ) (v : Verdict) → IsRequest 16384 bytes v → is_headed v ≡ false
    → Rules hub bytes (record { interim = false; ruling = by_verdict v })
rules_unheaded hub bytes v is e =
    let says : Says = record { interim = false; ruling = by_verdict v } in
    record {
      verdict = v;
      is = is;
      says = subst (λ (b : Bool). MatchBool b (HeadSays hub bytes v says) (says ≡ says)) (sym e) refl;
    }

-- behind a sound head
rules_headed : (hub bytes : List ℕ) (v : Verdict) (h : RequestHead) (rest : List ℕ) (says : Says) → IsRequest 16384 bytes v → is_headed v ≡ true
    → ReadsRequest (take 16384 bytes) h rest → says ≡ by_head (head_refusal hub h) (awaits h) v → Rules hub bytes says
rules_headed hub bytes v h rest says is e reads says_is = record {
  verdict = v;
  is = is;
  says =
      subst (λ (b : Bool). MatchBool b (HeadSays hub bytes v says) (says ≡ record { interim = false; ruling = by_verdict v })) (sym e)
      (h, rest, reads, says_is);
}

-- ---- the first pieces

unfinished_fresh : (old : Reading) → old ≡ fresh 16384 → verdict old ≡ unfinished
unfinished_fresh old e = ap verdict e

waits_first : (hub bytes : List ℕ) (old : Reading) → old ≡ fresh 16384 → IsRequest 16384 bytes (verdict old) → Waits hub bytes false
waits_first hub bytes old e is =
    rules_unheaded hub bytes unfinished (subst (λ (v : Verdict). IsRequest 16384 bytes v) (unfinished_fresh old e) is) refl

pub fresh_open : (old : Reading) → old ≡ fresh 16384 → IsOpen old []
fresh_open old e =
    subst (λ (r : Reading). IsOpen r []) (sym e) (record { room = refl; going_on = refl; stands = fresh_stands 16384 })

all_nothing : (a : Option (List ℕ)) → IsAtEnd a → IsAll a []
all_nothing None e = tt
all_nothing (Some xs) e = sym e

least_first : (b : Bool) (n : ℕ) → b ≡ false → (if b then 0 else 1) ≤ n → 0 < n
least_first false n e h = omega arith
least_first true n e h = absurd (cc)

module _ (hub : List ℕ) (old new : Reading) (left left' written written' : Option (List ℕ)) (fresh_is : old ≡ fresh 16384) (unwritten : written' ≡ written) where
  unanswered : (bytes : List ℕ) → IsRequest 16384 bytes (verdict old) → IsUnanswered hub bytes [] nothing
  unanswered bytes is = record { interim = false; waits = waits_first hub bytes old fresh_is is; line = refl; unheard = refl }

  -- the source ended, or failed, before a head was whole
  pub stops_first : (s : Stop) (v : Verdict) → ReadsOn [] old new left left' (Err s) → Requests hub left left' written written' v (Err s)
  stops_first stop.Empty v r =
      record { bytes = []; out = []; read = r.0; wrote = Appends-none written written' unwritten; is = (refl, refl, all_nothing left r.1) }
  stops_first stop.Cut v r = record {
    bytes = r.0.before;
    out = [];
    read = r.0.consumed;
    wrote = Appends-none written written' unwritten;
    is = (
      unanswered r.0.before r.0.waited,
      least_first (is_headed (verdict old)) (length r.0.before) (ap is_headed (unfinished_fresh old fresh_is)) r.0.some,
      r.1,
    );
  }
  stops_first stop.ReadFault v r = record {
    bytes = r.before;
    out = [];
    read = r.consumed;
    wrote = Appends-none written written' unwritten;
    is = unanswered r.before r.waited;
  }
  stops_first stop.WriteFault v r = absurd r

  module _ (fed : Fed) (r : ReadsTo [] old new left left' fed) where
    at_once_first : AtOnce hub (r.before ++ r.piece) false
    at_once_first = record {
      before = r.before;
      piece = r.piece;
      split = refl;
      some = r.some;
      short = r.short;
      waits = waits_first hub r.before old fresh_is r.waited;
    }

    -- the message is refused, and shows no sound head
    pub refuses_first : (m : Message) → is_headed (verdict new) ≡ false → RulingIs m (verdict new) (by_verdict (verdict new))
        → Requests hub left left' written written' (verdict new) (Ok m)
    refuses_first m e is = record {
      bytes = r.before ++ r.piece;
      out = [];
      read = r.consumed;
      wrote = Appends-none written written' unwritten;
      is = record {
        says = record { interim = false; ruling = by_verdict (verdict new) };
        rules = rules_unheaded hub (r.before ++ r.piece) (verdict new) r.judged e;
        line = refl;
        message_is = is;
        interim = false;
        at_once = at_once_first;
      };
    }

    -- a head stands in what the reader kept, and in what was read
    abbrev pub head_first : is_headed (verdict new) ≡ true → (h : RequestHead) × (rest : List ℕ) × ReadsRequest (take 16384 new.bytes) h rest
    head_first e = let x = r.stands.head e in (x.head, x.kept_rest, x.kept)

    reads_first : (e : is_headed (verdict new) ≡ true) → ReadsRequest (take 16384 (r.before ++ r.piece)) (r.stands.head e).head (r.stands.head e).rest
    reads_first e = (r.stands.head e).reads

    -- its head is refused
    pub head_refused : (refusal : Refusal) → is_headed (verdict new) ≡ true
        → ((h : RequestHead) (rest : List ℕ) → ReadsRequest (take 16384 new.bytes) h rest → Some refusal ≡ head_refusal hub h)
        → Requests hub left left' written written' (verdict new) (Ok (Refused refusal))
    head_refused refusal e why =
        let x = head_first e in
        let says : Says = record { interim = false; ruling = refused refusal } in
        record {
          bytes = r.before ++ r.piece;
          out = [];
          read = r.consumed;
          wrote = Appends-none written written' unwritten;
          is = record {
            says = says;
            rules =
                rules_headed hub (r.before ++ r.piece) (verdict new) x.0 (r.stands.head e).rest says r.judged e (reads_first e)
                (ap (λ (o : Option Refusal). by_head o (awaits x.0) (verdict new)) (why x.0 x.1 x.2));
            line = refl;
            message_is = refl;
            interim = false;
            at_once = at_once_first;
          };
        }

    pub unheaded_said : is_headed (verdict new) ≡ false → fed ≢ Head
    unheaded_said unheaded e =
        let t : verdict new ≡ headed = subst (λ (f : Fed). Tells f (verdict new)) e r.tells in
        false≢true (sym unheaded ∙ ap is_headed t)

    pub said_first : HasSaid new fed
    said_first = record { going_on = λ g. (r.before ++ r.piece, r.going_on g); tells = r.tells; says = r.says }

    -- its head isn't refused
    module _ (e : is_headed (verdict new) ≡ true)
        (why : (h : RequestHead) (rest : List ℕ) → ReadsRequest (take 16384 new.bytes) h rest → None ≡ head_refusal hub h) where
      pub passes_first : Passes hub (r.before ++ r.piece) (awaits (head_first e).0) new
      passes_first =
          let x = head_first e in
          record {
            head = x.0;
            rest = (r.stands.head e).rest;
            reads = reads_first e;
            unrefused = sym (why x.0 x.1 x.2);
            due_is = refl;
            judged = r.judged;
            headed = e;
            going_on = r.going_on;
            at_once = at_once_first;
          }

      -- the interim line wasn't written whole
      pub cut_in_line : (written'' : Option (List ℕ)) (s : Stop) → GivesLine (awaits (head_first e).0) written' written'' (Err s)
          → Requests hub left left' written written'' (verdict new) (Err s)
      cut_in_line written'' stop.WriteFault g =
          let x = head_first e in
          let says : Says = record { interim = awaits x.0; ruling = by_verdict (verdict new) } in
          record {
            bytes = r.before ++ r.piece;
            out = g.1.0;
            read = r.consumed;
            wrote = subst (λ (w : Option (List ℕ)). Appends w written'' g.1.0) unwritten g.1.1;
            is = record {
              says = says;
              rules =
                  rules_headed hub (r.before ++ r.piece) (verdict new) x.0 (r.stands.head e).rest says r.judged e (reads_first e)
                  (ap (λ (o : Option Refusal). by_head o (awaits x.0) (verdict new)) (why x.0 x.1 x.2));
              due = g.0;
              part = g.1.2;
              at_once = at_once_first;
              unheard = refl;
            };
          }
      cut_in_line written'' stop.Empty g = absurd g
      cut_in_line written'' stop.Cut g = absurd g
      cut_in_line written'' stop.ReadFault g = absurd g

-- ---- the body

all_more : (a b : Option (List ℕ)) (xs ys : List ℕ) → Consumes a b xs → IsAll b ys → IsAll a (xs ++ ys)
all_more None b xs ys p e = tt
all_more (Some u) None xs ys p e = absurd p
all_more (Some u) (Some v) xs ys p e = ap (λ (t : List ℕ). xs ++ t) e ∙ sym p

module _ (hub bytes : List ℕ) (due : Bool) (left middle written written' : Option (List ℕ)) (old : Reading)
    (p : Passes hub bytes due old) (read : Consumes left middle bytes) (wrote : Appends written written' (interim_line due)) where
  -- what is said of the bytes, whatever comes behind their head
  says_with : (v : Verdict) → record { interim = due; ruling = by_verdict v } ≡ by_head (head_refusal hub p.head) (awaits p.head) v
  says_with v =
      ap (λ (b : Bool). by_head None b v) p.due_is ∙ sym (ap (λ (o : Option Refusal). by_head o (awaits p.head) v) p.unrefused)

  rules_with : (more : List ℕ) (v : Verdict) → IsRequest 16384 (bytes ++ more) v → is_headed v ≡ true
      → Rules hub (bytes ++ more) (record { interim = due; ruling = by_verdict v })
  rules_with more v is e =
      let x = reads_more bytes more p.head p.rest p.reads in
      rules_headed hub (bytes ++ more) v p.head x.0 (record { interim = due; ruling = by_verdict v }) is e x.1 (says_with v)

  some_bytes : 0 < length bytes
  some_bytes =
      let k : length bytes ≡ length (p.at_once.before ++ p.at_once.piece) = ap length p.at_once.split in
      omega (arith, p.at_once.some, length-append p.at_once.before p.at_once.piece)

  -- the message was whole, or refused, with its head
  pub done_with_head : (m : Message) → RulingIs m (verdict old) (by_verdict (verdict old)) → Requests hub left middle written written' (verdict old) (Ok m)
  done_with_head m is = record {
    bytes = bytes;
    out = interim_line due;
    read = read;
    wrote = wrote;
    is = record {
      says = record { interim = due; ruling = by_verdict (verdict old) };
      rules = rules_headed hub bytes (verdict old) p.head p.rest (record { interim = due; ruling = by_verdict (verdict old) }) p.judged p.headed p.reads (says_with (verdict old));
      line = refl;
      message_is = is;
      interim = false;
      at_once = p.at_once;
    };
  }

  -- else its body is read on
  module _ (is_open : verdict old ≡ headed) (new : Reading) (left' : Option (List ℕ)) where
    judged_old : IsRequest 16384 bytes headed
    judged_old = subst (λ (v : Verdict). IsRequest 16384 bytes v) is_open p.judged

    waits_with : (more : List ℕ) → IsRequest 16384 (bytes ++ more) (verdict old) → Waits hub (bytes ++ more) due
    waits_with more is = rules_with more headed (subst (λ (v : Verdict). IsRequest 16384 (bytes ++ more) v) is_open is) refl

    unanswered_with : (more : List ℕ) → IsRequest 16384 (bytes ++ more) (verdict old) → IsUnanswered hub (bytes ++ more) (interim_line due) nothing
    unanswered_with more is = record { interim = due; waits = waits_with more is; line = refl; unheard = refl }

    -- the source ended, or failed, inside the body
    pub stops_in_body : (s : Stop) (v : Verdict) → ReadsOn bytes old new middle left' (Err s) → Requests hub left left' written written' v (Err s)
    stops_in_body stop.Empty v r = let e : true ≡ false = sym (ap is_headed is_open) ∙ r.2 in absurd (cc)
    stops_in_body stop.Cut v r = record {
      bytes = bytes ++ r.0.before;
      out = interim_line due;
      read = Consumes-then left middle left' bytes r.0.before read r.0.consumed;
      wrote = wrote;
      is = (
        unanswered_with r.0.before r.0.waited,
        omega (arith, some_bytes, length-append bytes r.0.before),
        all_more left middle bytes r.0.before read r.1,
      );
    }
    stops_in_body stop.ReadFault v r = record {
      bytes = bytes ++ r.before;
      out = interim_line due;
      read = Consumes-then left middle left' bytes r.before read r.consumed;
      wrote = wrote;
      is = unanswered_with r.before r.waited;
    }
    stops_in_body stop.WriteFault v r = absurd r

    -- the message is whole, or refused
    pub done_with_body : (fed : Fed) (m : Message) → ReadsTo bytes old new middle left' fed → RulingIs m (verdict new) (by_verdict (verdict new))
        → Requests hub left left' written written' (verdict new) (Ok m)
    done_with_body fed m r is =
        let judged : IsRequest 16384 (bytes ++ (r.before ++ r.piece)) (verdict new) = r.judged in
        record {
          bytes = bytes ++ (r.before ++ r.piece);
          out = interim_line due;
          read = Consumes-then left middle left' bytes (r.before ++ r.piece) read r.consumed;
          wrote = wrote;
          is = record {
            says = record { interim = due; ruling = by_verdict (verdict new) };
            rules = rules_with (r.before ++ r.piece) (verdict new) judged (sound_stays bytes (r.before ++ r.piece) (verdict new) judged_old judged);
            line = refl;
            message_is = is;
            interim = due;
            at_once = record {
              before = bytes ++ r.before;
              piece = r.piece;
              split = sym (append_assoc bytes r.before r.piece);
              some = r.some;
              short = r.short;
              waits = waits_with r.before r.waited;
            };
          };
        }

-- ---- errors handed on

pub request_err : (hub : List ℕ) (left left' written written' : Option (List ℕ)) (v : Verdict) (s : Stop) (r : Result Message Stop)
    → IsErrAnd r (λ (x : Stop). x ≡ s) → Requests hub left left' written written' v (Err s) → Requests hub left left' written written' v r
request_err hub left left' written written' v s (Ok m) h q = absurd h
request_err hub left left' written written' v s (Err x) h q =
    subst (λ (y : Stop). Requests hub left left' written written' v (Err y)) (sym h) q

is_write : (due : Bool) (w w' : Option (List ℕ)) (s : Stop) → GivesLine due w w' (Err s) → s ≡ stop.WriteFault
is_write due w w' stop.WriteFault g = refl
is_write due w w' stop.Empty g = absurd g
is_write due w w' stop.Cut g = absurd g
is_write due w w' stop.ReadFault g = absurd g

pub line_cause : (reads reads' writes writes' : ℕ) (due : Bool) (w w' : Option (List ℕ)) (s : Stop) (r : Result Message Stop)
    → IsErrAnd r (λ (x : Stop). x ≡ s) → GivesLine due w w' (Err s) → reads ≤ reads' → HasSinkCause {T = Unit {0}} writes writes' (Err s)
    → HasStopCause reads reads' writes writes' r
line_cause reads reads' writes writes' due w w' s (Ok m) h g later cause = absurd h
line_cause reads reads' writes writes' due w w' s (Err x) h g later cause =
    let e : x ≡ stop.WriteFault = h ∙ is_write due w w' s g in
    record {
      reads_later = later;
      writes_later = cause.later;
      read = λ k. absurd (cc);
      write = λ k. cause.failed (ap Err (is_write due w w' s g));
    }

pub unwritten : (came : List ℕ) (old new : Reading) (left left' : Option (List ℕ)) (s : Stop) (r : Result Message Stop) → IsErrAnd r (λ (x : Stop). x ≡ s)
    → ReadsOn came old new left left' (Err s) → IsErrOf r stop.WriteFault → ⊥
unwritten came old new left left' s (Ok m) h q k = absurd h
unwritten came old new left left' stop.WriteFault (Err x) h q k = q
unwritten came old new left left' stop.Empty (Err x) h q k = absurd (cc)
unwritten came old new left left' stop.Cut (Err x) h q k = absurd (cc)
unwritten came old new left left' stop.ReadFault (Err x) h q k = absurd (cc)

pub first_cause : (reads reads' writes : ℕ) (old new : Reading) (left left' : Option (List ℕ)) (s : Stop) (r : Result Message Stop)
    → IsErrAnd r (λ (x : Stop). x ≡ s) → HasReadCause {T = Fed} reads reads' (Err s) → ReadsOn [] old new left left' (Err s)
    → HasStopCause reads reads' writes writes r
first_cause reads reads' writes old new left left' s (Ok m) h cause q = absurd h
first_cause reads reads' writes old new left left' s (Err x) h cause q = record {
  reads_later = cause.later;
  writes_later = omega arith;
  read = λ k. let e : x ≡ stop.ReadFault = cc in cause.failed (ap Err (sym h ∙ e));
  write = λ k. absurd (unwritten [] old new left left' s (Err x) h q k);
}

pub body_cause : (reads reads' reads'' writes writes' : ℕ) (r : Result Message Stop) → reads ≤ reads' → HasReadCause reads' reads'' r
    → writes ≤ writes' → (IsErrOf r stop.WriteFault → ⊥) → HasStopCause reads reads'' writes writes' r
body_cause reads reads' reads'' writes writes' r later cause given none = record {
  reads_later = omega (arith, later, cause.later);
  writes_later = given;
  read = λ k small. let rose : reads' < reads'' = cause.failed k small in omega (arith, later);
  write = λ k. absurd (none k);
}
