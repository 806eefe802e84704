-- After any number of compactions, what is left goes on as the whole history does.
use Rattle.std.proofs.Common.{◌≡◌, ℕ, ◌≤◌, ◌<◌, true, List, ◌∷◌, refl, ap, sym, ◌∙◌, arith}
use Rattle.std.specs.Prelude.{max}
use Rattle.ws_model.specs.declared.event.Event.{Event}
use Rattle.ws_compaction.proofs.Continued.{follow_timed, numbered_over, step_timed}
use Rattle.ws_compaction.proofs.Lawful.{keep_is_legal}
use Rattle.ws_compaction.proofs.Whole.{keeps_view}
use Rattle.ws_compaction.specs.Compaction.{with_time}
use Rattle.ws_compaction.specs.Shortened.{AnyCompactions, IsAlike, IsShortened}
use Rattle.ws_compaction.specs.Shortened.IsShortened.{Begins, Happens, IsCompacted}
use Rattle.ws_laws.proofs.Follow.{follows}
use Rattle.ws_laws.proofs.Moments.{own_time}
use Rattle.ws_laws.proofs.Views.{advances, steps}
use Rattle.ws_laws.specs.Steps.{IsNewest, advance, may_follow, step}
use Rattle.ws_model.specs.Keep.{keep}
use Rattle.ws_model.specs.Legal.{accepts, time_limit}
use Rattle.ws_model.specs.Moment.{serial, time}
use Rattle.ws_model.specs.View.{View, view}

module _ (e : Event) (whole left : List Event) (m : ℕ) (later : m ≤ e.t) (newest : IsNewest e left) (accepted : accepts left e ≡ true) (before : IsAlike whole left m) where
  same : view left m ≡ with_time (time left) (view whole m)
  same = before.same_view m (omega arith)

  newest_whole : IsNewest e whole
  newest_whole =
      let serials : serial left ≡ serial whole = ap (λ (v : View). v.serial) same in
      let less : serial left < e.serial = newest.serial_new in
      let early : time whole ≤ m = before.whole_early in
      record {
        in_time = omega arith;
        serial_new = omega arith;
        number_new = numbered_over e.what left whole (ap (λ (v : View). v.intent) same) (ap (λ (v : View). v.version) same) newest.number_new;
      }

  now : view left e.t ≡ with_time (time left) (view whole e.t)
  now = before.same_view e.t later

  accepted_whole : accepts whole e ≡ true
  accepted_whole =
      follows whole e before.whole_legal newest_whole
      ∙ sym (follow_timed (time left) (view whole e.t) e)
      ∙ sym (ap (λ v. may_follow v e) now)
      ∙ sym (follows left e before.left_legal newest)
      ∙ accepted

  left_time : time (e ∷ left) ≡ max e.t (time left)
  left_time = ap (λ x. max x (time left)) (own_time e.what e.serial e.t left newest.number_new)

  whole_time : time (e ∷ whole) ≡ max e.t (time whole)
  whole_time = ap (λ x. max x (time whole)) (own_time e.what e.serial e.t whole newest_whole.number_new)

  happened : IsAlike (e ∷ whole) (e ∷ left) e.t
  happened =
      let a : time whole ≤ m = before.whole_early in
      let b : time left ≤ m = before.left_early in
      let x : time (e ∷ whole) ≡ max e.t (time whole) = whole_time in
      let y : time (e ∷ left) ≡ max e.t (time left) = left_time in
      record {
        whole_legal = (before.whole_legal, accepted_whole);
        left_legal = (before.left_legal, accepted);
        whole_early = omega arith;
        left_early = omega arith;
        same_view = λ u le.
            advances (e ∷ left) e.t u le
            ∙ ap (λ v. advance v u) (steps left e (before.left_legal, accepted) newest ∙ ap (λ v. step v e) now ∙ step_timed (time left) (view whole e.t) e)
            ∙ ap (λ v. with_time (max e.t (time left)) (advance v u)) (sym (steps whole e (before.whole_legal, accepted_whole) newest_whole))
            ∙ sym (λ i. with_time (left_time i) (advances (e ∷ whole) e.t u le i));
      }

compacted : (t : ℕ) (whole left : List Event) (m : ℕ) → m ≤ t → t < time_limit → IsAlike whole left m → IsAlike whole (keep left t) t
compacted t whole left m later small before =
    let a : time whole ≤ m = before.whole_early in
    let b : time left ≤ m = before.left_early in
    let kept : view (keep left t) t ≡ with_time t (view left t) = keeps_view left t before.left_legal (omega arith) in
    let at : time (keep left t) ≡ t = ap (λ (v : View). v.time) kept in
    record {
      whole_legal = before.whole_legal;
      left_legal = keep_is_legal left t before.left_legal (omega arith) small;
      whole_early = omega arith;
      left_early = omega arith;
      same_view = λ u le.
          advances (keep left t) t u le
          ∙ ap (λ v. advance v u) kept
          ∙ ap (with_time t) (sym (advances left t u le) ∙ before.same_view u (omega arith))
          ∙ sym (ap (λ s. with_time s (view whole u)) at);
    }

alike : {whole left : List Event} {m : ℕ} → IsShortened whole left m → IsAlike whole left m
alike (Begins h m l le) = record { whole_legal = l; left_legal = l; whole_early = le; left_early = le; same_view = λ u later. refl }
alike (Happens e whole left m later newest accepted before) = happened e whole left m later newest accepted (alike before)
alike (IsCompacted t whole left m later small before) = compacted t whole left m later small (alike before)

pub any_compactions : AnyCompactions
any_compactions whole left m s = alike s
