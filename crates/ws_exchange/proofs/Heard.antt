-- What an answer of the reader of responses says of the bytes.
use Rattle.std.proofs.Common.{◌≡◌, ℕ, Bool, true, false, List, ◌++◌, length, refl, sym, ◌∙◌, ap, subst}
use Rattle.ws_model.specs.Fit.{is_fit, is_fit_reply}
use Rattle.ws_model.specs.declared.reply.Reply.{Reply}
use Rattle.ws_model.specs.declared.work.Outcome.TheVariants as outcome
use Rattle.ws_http.specs.declared.fed.BadWhy.{BadWhy}
use Rattle.ws_http.specs.declared.fed.BadWhy.TheVariants as why
use Rattle.ws_http.specs.declared.fed.Fed.{Fed}
use Rattle.ws_http.specs.declared.fed.Fed.TheVariants as fed
use Rattle.ws_http.specs.declared.fed.Need.{Need}
use Rattle.ws_http.specs.declared.reply_stage.ReplyStage.{ReplyStage}
use Rattle.ws_http.specs.declared.reply_stage.ReplyStage.TheVariants as stage
use Rattle.ws_http.specs.Responses.{Verdict, bad, Got, Makes, is_final, closed, fault_outcome}
use Rattle.ws_http.specs.ResponseStages.{ReplyReading, FeedsReply, Stands, Says, is_last, is_starved, is_whole, said, said_first, untold}
use Rattle.ws_exchange.specs.Ends.{GoesOn, Ends, is_lost, is_late}
use Rattle.ws_exchange.proofs.Uncut.{is_cut, uncut}

-- ---- answers and stages

-- what an answer says of the stage behind it
abbrev Tells : Fed → ReplyStage → Type 0
Tells fed.More s = is_last s ≡ false
Tells fed.Head s = is_last s ≡ false
Tells (fed.Whole used) s = is_whole s ≡ true
Tells (fed.Bad reason) s = s ≡ stage.Bad reason
Tells fed.NoMemory s = is_starved s ≡ true

first_tells : (before : ℕ) (s : ReplyStage) → Tells (said_first before s) s
first_tells before (stage.Head at) = refl
first_tells before (stage.Fixed f total) = refl
first_tells before (stage.Lasting f) = refl
first_tells before (stage.Chunked f p) = refl
first_tells before (stage.Whole f total chunked) = refl
first_tells before (stage.Bad reason) = refl
first_tells before stage.NoMemory = refl

untold_tells : (a : Fed) (s : ReplyStage) → Tells a s → Tells (untold a) s
untold_tells fed.More s t = t
untold_tells fed.Head s t = t
untold_tells (fed.Whole used) s t = t
untold_tells (fed.Bad reason) s t = t
untold_tells fed.NoMemory s t = t

said_tells : (before : ℕ) (old new : ReplyStage) → Tells (said before old new) new
said_tells before (stage.Head at) new = first_tells before new
said_tells before (stage.Fixed f total) new = untold_tells _ new (first_tells before new)
said_tells before (stage.Lasting f) new = untold_tells _ new (first_tells before new)
said_tells before (stage.Chunked f p) new = untold_tells _ new (first_tells before new)
said_tells before (stage.Whole f total chunked) new = untold_tells _ new (first_tells before new)
said_tells before (stage.Bad reason) new = untold_tells _ new (first_tells before new)
said_tells before stage.NoMemory new = untold_tells _ new (first_tells before new)

abbrev is_starving : Fed → Bool
is_starving fed.More = false
is_starving fed.Head = false
is_starving (fed.Whole used) = false
is_starving (fed.Bad reason) = false
is_starving fed.NoMemory = true

abbrev pub is_more : Fed → Bool
is_more fed.More = true
is_more fed.Head = true
is_more (fed.Whole used) = false
is_more (fed.Bad reason) = false
is_more fed.NoMemory = false

more_open : (a : Fed) (s : ReplyStage) → is_more a ≡ true → Tells a s → is_last s ≡ false
more_open fed.More s m t = t
more_open fed.Head s m t = t
more_open (fed.Whole used) s m t = cc
more_open (fed.Bad reason) s m t = cc
more_open fed.NoMemory s m t = cc

more_fed : (a : Fed) → is_more a ≡ true → is_starving a ≡ false
more_fed fed.More m = refl
more_fed fed.Head m = refl
more_fed (fed.Whole used) m = refl
more_fed (fed.Bad reason) m = refl
more_fed fed.NoMemory m = cc

so_false : (b : Bool) → (b ≡ true → ⊥) → b ≡ false
so_false true never = absurd (never refl)
so_false false never = refl

-- ---- verdicts and stages

open_verdict : (need : Need) (raw body : List ℕ) (s : ReplyStage) (v : Verdict) → is_last s ≡ false → Says need raw body s v → is_final v ≡ false
open_verdict need raw body (stage.Head at) v open_yet says = ap is_final says
open_verdict need raw body (stage.Fixed f total) v open_yet says = ap is_final says
open_verdict need raw body (stage.Lasting f) v open_yet says = ap is_final says.2
open_verdict need raw body (stage.Chunked f p) v open_yet says = ap is_final says
open_verdict need raw body (stage.Whole f total chunked) v open_yet says = cc
open_verdict need raw body (stage.Bad reason) v open_yet says = cc
open_verdict need raw body stage.NoMemory v open_yet says = cc

-- a reader that has said nothing final stands for bytes that go on
pub goes_on : (r : ReplyReading) (came : List ℕ) → Stands r came false → is_last r.stage ≡ false → GoesOn r.need came
goes_on r came stands open_yet =
    (stands.verdict, stands.is, open_verdict r.need r.bytes r.content r.stage stands.verdict open_yet stands.says)

fault_fit : (reason : BadWhy) → is_fit (fault_outcome reason) ≡ true
fault_fit why.Head = refl
fault_fit why.Host = refl
fault_fit why.Framing = refl
fault_fit why.TooLong = refl
fault_fit why.Chunk = refl
fault_fit why.Cut = refl

fault_in_time : (reason : BadWhy) → is_late (fault_outcome reason) ≡ false
fault_in_time why.Head = refl
fault_in_time why.Host = refl
fault_in_time why.Framing = refl
fault_in_time why.TooLong = refl
fault_in_time why.Chunk = refl
fault_in_time why.Cut = refl

fault_lost : (ended : Bool) (n : ℕ) (v : Verdict) (reason : BadWhy) → is_cut v ≡ false → closed ended n v ≡ bad reason → ended ≡ false
    → is_lost (fault_outcome reason) ≡ false
fault_lost ended n v why.Head whole_yet is more = refl
fault_lost ended n v why.Host whole_yet is more = refl
fault_lost ended n v why.Framing whole_yet is more = refl
fault_lost ended n v why.TooLong whole_yet is more = refl
fault_lost ended n v why.Chunk whole_yet is more = refl
fault_lost true n v why.Cut whole_yet is more = cc
fault_lost false n v why.Cut whole_yet is more = let e : is_cut v ≡ true = ap is_cut is in cc

makes_fault : (v : Verdict) (reason : BadWhy) → v ≡ bad reason → Makes v (fault_outcome reason)
makes_fault v reason is = subst (λ (w : Verdict). Makes w (fault_outcome reason)) (sym is) refl

-- ---- what a feed says

module _ (old new : ReplyReading) (piece : List ℕ) (ended : Bool) (answer : Fed) (f : FeedsReply old piece ended new answer) (fresh : is_last old.stage ≡ false) where
  behind : is_starving answer ≡ false → (came : List ℕ) → Stands old came false → Stands new (came ++ piece) ended × Tells answer new.stage
  behind fed came stands =
      let starved : is_starved new.stage ≡ false = so_false _ (λ p. let e : true ≡ false = sym (ap is_starving (f.starved p).0) ∙ fed in cc) in
      let both = f.stands fresh starved came stands in
      (both.0, subst (λ (a : Fed). Tells a new.stage) (sym both.1) (said_tells (length came) old.stage new.stage))

  -- more is to come
  pub feed_more : is_more answer ≡ true → (came : List ℕ) → Stands old came false
      → Stands new (came ++ piece) false × (is_last new.stage ≡ false) × (new.need ≡ old.need) × (ended ≡ false) × GoesOn old.need (came ++ piece)
  feed_more more came stands =
      let both = behind (more_fed answer more) came stands in
      let open_yet = more_open answer new.stage more both.1 in
      let going : ended ≡ false = so_false ended (λ p. let e : true ≡ false = sym (f.closes p) ∙ open_yet in cc) in
      let now = subst (λ (b : Bool). Stands new (came ++ piece) b) going both.0 in
      (now, open_yet, f.asked, going, subst (λ (n : Need). GoesOn n (came ++ piece)) f.asked (goes_on new (came ++ piece) now open_yet))

  -- the message is whole
  pub feed_whole : (used : ℕ) → answer ≡ fed.Whole used → (came : List ℕ) → Stands old came false → is_whole new.stage ≡ true
  feed_whole used is came stands = subst (λ (a : Fed). Tells a new.stage) is (behind (ap is_starving is) came stands).1

  pub feed_reply : (used : ℕ) (r : Reply) → answer ≡ fed.Whole used
      → ((bytes : List ℕ) (e : Bool) → Stands new bytes e → Got new.need bytes e (outcome.Reply r)) → is_fit_reply r ≡ true
      → (came : List ℕ) → Stands old came false → Ends old.need (came ++ piece) ended (outcome.Reply r)
  feed_reply used r is got fit came stands =
      let now = (behind (ap is_starving is) came stands).0 in
      record {
        got = subst (λ (n : Need). Got n (came ++ piece) ended (outcome.Reply r)) f.asked (got (came ++ piece) ended now);
        fit = fit;
        in_time = refl;
        lost = λ _. refl;
      }

  -- a fault stands in the bytes, or they ended too early
  pub feed_fault : (reason : BadWhy) → answer ≡ fed.Bad reason → (came : List ℕ) → Stands old came false
      → Ends old.need (came ++ piece) ended (fault_outcome reason)
  feed_fault reason is came stands =
      let both = behind (ap is_starving is) came stands in
      let now = both.0 in
      let at : new.stage ≡ stage.Bad reason = subst (λ (a : Fed). Tells a new.stage) is both.1 in
      let verdict : closed ended (length (came ++ piece)) now.verdict ≡ bad reason =
      subst (λ (s : ReplyStage). Says new.need new.bytes new.content s (closed ended (length (came ++ piece)) now.verdict)) at now.says in
      record {
        got = subst (λ (n : Need). Got n (came ++ piece) ended (fault_outcome reason)) f.asked
            (record { verdict = now.verdict; is = now.is; makes = makes_fault _ reason verdict });
        fit = fault_fit reason;
        in_time = fault_in_time reason;
        lost = fault_lost ended (length (came ++ piece)) now.verdict reason (uncut new.need (came ++ piece) now.verdict now.is) verdict;
      }
