-- What a compaction keeps goes on as the whole history does.
use Rattle.std.proofs.Common.{◌≡◌, ℕ, ◌≤◌, ◌<◌, true, ◌&&◌, List, [], ◌∷◌, ◌++◌, refl, ap, sym, ◌∙◌, arith}
use Rattle.std.specs.Prelude.{max, nat_lt, nat_le, ◌==◌}
use Rattle.std.specs.List.{AllByRecursion}
use Rattle.std.proofs.lemmas.Bool.{and_parts, eqb-true, false≢true, ltb-true}
use Rattle.ws_model.specs.declared.event.Event.{Event}
use Rattle.ws_model.specs.declared.event.What.{What}
use Rattle.ws_model.specs.declared.event.What.TheVariants.{Asked, Confirmed, Declined, Unheard, Barred, Noticed, Pinged, Fetched, Same, Unfetched, Pushed, Tally, Revoked}
use Rattle.ws_compaction.proofs.Lawful.{keep_is_legal}
use Rattle.ws_compaction.proofs.Whole.{keeps_view}
use Rattle.ws_compaction.specs.Compaction.{CompactionLaw, KeepsAgain, IsLater, IsNumberedAbove, IsSameView, with_time}
use Rattle.ws_laws.proofs.Follow.{follows}
use Rattle.ws_laws.proofs.Known.{allowed, in_time}
use Rattle.ws_laws.proofs.Moments.{last_time_le}
use Rattle.ws_laws.proofs.Views.{advances, steps}
use Rattle.ws_laws.specs.Steps.{IsNewest, IsNewlyNumbered, advance, after, confirmed_in, is_allowed_in, may_follow, step}
use Rattle.ws_model.specs.Keep.{keep}
use Rattle.ws_model.specs.Legal.{Legal, accepts, accepts_what, is_allowed, is_first_tally, is_in_order, is_sound, is_sound_tally, number_limit, time_limit}
use Rattle.ws_model.specs.Moment.{asked_number, fetched_number, intent_number, intent_number_in, last_intent, last_serial, last_time, last_version, serial, serial_in, time, time_in, version_number, version_number_in}
use Rattle.ws_model.specs.View.{View, view}

-- ---- nothing goes by the time of the history

allowed_timed : (w : What) (t s : ℕ) (v : View) → is_allowed_in w t (with_time s v) ≡ is_allowed_in w t v
allowed_timed (Asked i) t s v = refl
allowed_timed (Confirmed n sent) t s v = refl
allowed_timed (Declined n code) t s v = refl
allowed_timed (Unheard n) t s v = refl
allowed_timed (Barred n reason) t s v = refl
allowed_timed (Noticed n heard) t s v = refl
allowed_timed (Pinged topic) t s v = refl
allowed_timed (Fetched x) t s v = refl
allowed_timed (Same topic upto) t s v = refl
allowed_timed (Unfetched topic upto why) t s v = refl
allowed_timed (Pushed x n how) t s v = refl
allowed_timed (Tally c) t s v = refl
allowed_timed (Revoked n reason) t s v = refl

pub follow_timed : (s : ℕ) (v : View) (e : Event) → may_follow (with_time s v) e ≡ may_follow v e
follow_timed s v e = ap (λ b. nat_lt e.serial number_limit && nat_lt e.t time_limit && is_sound e.serial e.what && b) (allowed_timed e.what e.t s v)

after_timed : (s t : ℕ) (w : What) (m : ℕ) (v : View) → after s t w (confirmed_in w (with_time m v)) (with_time m v) ≡ with_time (max t m) (after s t w (confirmed_in w v) v)
after_timed s t (Asked i) m v = refl
after_timed s t (Confirmed n sent) m v = refl
after_timed s t (Declined n code) m v = refl
after_timed s t (Unheard n) m v = refl
after_timed s t (Barred n reason) m v = refl
after_timed s t (Noticed n heard) m v = refl
after_timed s t (Pinged topic) m v = refl
after_timed s t (Fetched x) m v = refl
after_timed s t (Same topic upto) m v = refl
after_timed s t (Unfetched topic upto why) m v = refl
after_timed s t (Pushed x n how) m v = refl
after_timed s t (Tally c) m v = refl
after_timed s t (Revoked n reason) m v = refl

pub step_timed : (m : ℕ) (v : View) (e : Event) → step (with_time m v) e ≡ with_time (max e.t m) (step v e)
step_timed m v e = after_timed e.serial e.t e.what m v

-- ---- an event with a serial of its own is no Tally

positive_first : (e : Event) (g : List Event) (k : ℕ) → is_first_tally e g ≡ true → k < e.serial → ⊥
positive_first e [] k f less = let zero : e.serial ≡ 0 = eqb-true e.serial 0 (and_parts (e.serial == 0) (e.t == 0) f).0 in absurd (omega arith)
positive_first e (x ∷ g) k f less = false≢true f

record IsOwn (e : Event) (w : What) : Type 0 where
  time : time_in e w ≡ e.t
  serial : serial_in e w ≡ e.serial
  intent : intent_number_in w ≡ asked_number w
  version : version_number_in w ≡ fetched_number w

own_of : (w : What) (e : Event) (g : List Event) (k : ℕ) → accepts_what e g w ≡ true → k < e.serial → IsOwn e w
own_of (Tally c) e g k a less = absurd (positive_first e g k (and_parts (is_first_tally e g) (is_sound_tally c) a).0 less)
own_of (Asked i) e g k a less = record { time = refl; serial = refl; intent = refl; version = refl }
own_of (Fetched v) e g k a less = record { time = refl; serial = refl; intent = refl; version = refl }
own_of _ e g k a less = record { time = refl; serial = refl; intent = refl; version = refl }

serial_at : (w : What) (e : Event) (g : List Event) (k : ℕ) → accepts_what e g w ≡ true → k < e.serial → last_serial g < e.serial
serial_at (Tally c) e g k a less = absurd (positive_first e g k (and_parts (is_first_tally e g) (is_sound_tally c) a).0 less)
serial_at w e g k a less =
    let b = and_parts (is_in_order e g) (is_sound e.serial w) (and_parts (is_in_order e g && is_sound e.serial w) (is_allowed w e.t g) a).0 in
    let c = and_parts (nat_lt (last_serial g) e.serial && nat_lt e.serial number_limit && nat_le (last_time g) e.t) (nat_lt e.t time_limit) b.0 in
    let d = and_parts (nat_lt (last_serial g) e.serial && nat_lt e.serial number_limit) (nat_le (last_time g) e.t) c.0 in
    ltb-true _ _ (and_parts (nat_lt (last_serial g) e.serial) (nat_lt e.serial number_limit) d.0).0

-- ---- the greatest numbers of later events over two histories

module _ (b d : List Event) where
  pub serial_over : serial b ≡ serial d → (c : List Event) → serial (c ++ b) ≡ serial (c ++ d)
  serial_over k [] = k
  serial_over k (e ∷ c) = ap (max (serial_in e e.what)) (serial_over k c)

  pub intent_over : intent_number b ≡ intent_number d → (c : List Event) → intent_number (c ++ b) ≡ intent_number (c ++ d)
  intent_over k [] = k
  intent_over k (e ∷ c) = ap (max (intent_number_in e.what)) (intent_over k c)

  pub version_over : version_number b ≡ version_number d → (c : List Event) → version_number (c ++ b) ≡ version_number (c ++ d)
  version_over k [] = k
  version_over k (e ∷ c) = ap (max (version_number_in e.what)) (version_over k c)

  pub time_over : (x : ℕ) → time d ≤ x → (c : List Event) → time (c ++ b) ≤ x → time (c ++ d) ≤ x
  time_over x k [] le = k
  time_over x k (e ∷ c) le = let rest : time (c ++ d) ≤ x = time_over x k c (omega arith) in omega arith

  pub same_time : (x : ℕ) → time b ≤ x → time d ≤ x → (c : List Event) → max x (time (c ++ b)) ≡ max x (time (c ++ d))
  same_time x k m [] = omega arith
  same_time x k m (e ∷ c) = let rest : max x (time (c ++ b)) ≡ max x (time (c ++ d)) = same_time x k m c in omega arith

-- each later event is no later than the last one
times_le : (b : List Event) (x : ℕ) (c : List Event) → last_time (c ++ b) ≤ x → AllByRecursion (λ (e : Event). e.t ≤ x) c
times_le b x [] le = tt
times_le b x (e ∷ c) le = (omega arith, times_le b x c (omega arith))

-- ---- later events that are legal are new

module _ (h : List Event) (t : ℕ) (b : List Event) (early : time b ≤ t) (serials : serial b ≡ serial h) (intents : intent_number b ≡ intent_number h) (versions : version_number b ≡ version_number h) where
  time_le : (c : List Event) → Legal (c ++ b) → AllByRecursion (IsLater h t) c → time (c ++ b) ≤ max t (last_time (c ++ b))
  time_le [] l a = omega arith
  time_le (e ∷ c) l a =
      let rest : time (c ++ b) ≤ max t (last_time (c ++ b)) = time_le c l.0 a.1 in
      let here : time_in e e.what ≡ e.t = (own_of e.what e (c ++ b) (serial h) l.1 a.0.serial_new).time in
      omega arith

  serial_le : (c : List Event) → Legal (c ++ b) → AllByRecursion (IsLater h t) c → serial (c ++ b) ≤ max (serial h) (last_serial (c ++ b))
  serial_le [] l a = omega arith
  serial_le (e ∷ c) l a =
      let rest : serial (c ++ b) ≤ max (serial h) (last_serial (c ++ b)) = serial_le c l.0 a.1 in
      let here : serial_in e e.what ≡ e.serial = (own_of e.what e (c ++ b) (serial h) l.1 a.0.serial_new).serial in
      omega arith

  intent_le : (c : List Event) → Legal (c ++ b) → AllByRecursion (IsLater h t) c → intent_number (c ++ b) ≤ max (intent_number h) (last_intent (c ++ b))
  intent_le [] l a = omega arith
  intent_le (e ∷ c) l a =
      let rest : intent_number (c ++ b) ≤ max (intent_number h) (last_intent (c ++ b)) = intent_le c l.0 a.1 in
      let here : intent_number_in e.what ≡ asked_number e.what = (own_of e.what e (c ++ b) (serial h) l.1 a.0.serial_new).intent in
      omega arith

  version_le : (c : List Event) → Legal (c ++ b) → AllByRecursion (IsLater h t) c → version_number (c ++ b) ≤ max (version_number h) (last_version (c ++ b))
  version_le [] l a = omega arith
  version_le (e ∷ c) l a =
      let rest : version_number (c ++ b) ≤ max (version_number h) (last_version (c ++ b)) = version_le c l.0 a.1 in
      let here : version_number_in e.what ≡ fetched_number e.what = (own_of e.what e (c ++ b) (serial h) l.1 a.0.serial_new).version in
      omega arith

  number_at : (w : What) (e : Event) (c : List Event) → accepts_what e (c ++ b) w ≡ true → is_allowed w e.t (c ++ b) ≡ true → IsNumberedAbove w h → serial h < e.serial
      → intent_number (c ++ b) ≤ max (intent_number h) (last_intent (c ++ b)) → version_number (c ++ b) ≤ max (version_number h) (last_version (c ++ b)) → IsNewlyNumbered w (c ++ b)
  number_at (Asked i) e c a k n s x y = let m : last_intent (c ++ b) < i.n = ltb-true _ _ k in omega arith
  number_at (Fetched v) e c a k n s x y = let m : last_version (c ++ b) < v.ver = ltb-true _ _ k in omega arith
  number_at (Tally f) e c a k n s x y = positive_first e (c ++ b) (serial h) (and_parts (is_first_tally e (c ++ b)) (is_sound_tally f) a).0 s
  number_at _ e c a k n s x y = tt

  pub newest : (e : Event) (c : List Event) → Legal (c ++ b) → accepts (c ++ b) e ≡ true → IsLater h t e → AllByRecursion (IsLater h t) c → IsNewest e (c ++ b)
  newest e c l k n a =
      let times : time (c ++ b) ≤ max t (last_time (c ++ b)) = time_le c l a in
      let serials : serial (c ++ b) ≤ max (serial h) (last_serial (c ++ b)) = serial_le c l a in
      let last : last_time (c ++ b) ≤ e.t = in_time (c ++ b) e k in
      let above : last_serial (c ++ b) < e.serial = serial_at e.what e (c ++ b) (serial h) k n.serial_new in
      let from : t ≤ e.t = n.in_time in
      let more : serial h < e.serial = n.serial_new in
      record {
        in_time = omega arith;
        serial_new = omega arith;
        number_new = number_at e.what e c k (allowed (c ++ b) e k) n.number_new more (intent_le c l a) (version_le c l a);
      }

-- what is new over one history is new over the other
pub numbered_over : (w : What) (f g : List Event) → intent_number f ≡ intent_number g → version_number f ≡ version_number g → IsNewlyNumbered w f → IsNewlyNumbered w g
numbered_over (Asked i) f g x y n = omega arith
numbered_over (Fetched v) f g x y n = omega arith
numbered_over (Tally c) f g x y n = n
numbered_over _ f g x y n = tt

newest_over : (b d : List Event) (e : Event) (c : List Event) → time d ≤ e.t → serial b ≡ serial d → intent_number b ≡ intent_number d → version_number b ≡ version_number d → IsNewest e (c ++ b) → IsNewest e (c ++ d)
newest_over b d e c le s i v n =
    let serials : serial (c ++ b) ≡ serial (c ++ d) = serial_over b d s c in
    let before : time (c ++ b) ≤ e.t = n.in_time in
    let less : serial (c ++ b) < e.serial = n.serial_new in
    record {
      in_time = time_over b d e.t le c before;
      serial_new = omega arith;
      number_new = numbered_over e.what (c ++ b) (c ++ d) (intent_over b d i c) (version_over b d v c) n.number_new;
    }

-- ---- both go on alike

module _ (h : List Event) (t : ℕ) (l : Legal h) (le : time h ≤ t) (small : t < time_limit) where
  abbrev kept : List Event
  kept = keep h t

  same : view kept t ≡ with_time t (view h t)
  same = keeps_view h t l le

  kept_time : time kept ≡ t
  kept_time = ap (λ (v : View). v.time) same

  kept_early : time kept ≤ t
  kept_early = let k : time kept ≡ t = kept_time in omega arith

  kept_serial : serial kept ≡ serial h
  kept_serial = ap (λ (v : View). v.serial) same

  kept_intent : intent_number kept ≡ intent_number h
  kept_intent = ap (λ (v : View). v.intent) same

  kept_version : version_number kept ≡ version_number h
  kept_version = ap (λ (v : View). v.version) same

  record IsAlike (c : List Event) : Type 0 where
    forth : Legal (c ++ h) → Legal (c ++ kept)
    back : Legal (c ++ kept) → Legal (c ++ h)
    views : Legal (c ++ h) → (u : ℕ) → t ≤ u → AllByRecursion (λ (e : Event). e.t ≤ u) c → view (c ++ kept) u ≡ with_time (time (c ++ kept)) (view (c ++ h) u)

  alike_at_first : IsAlike []
  alike_at_first =
      record {
        forth = λ x. keep_is_legal h t l le small;
        back = λ x. l;
        views = λ x u later a. advances kept t u later ∙ ap (λ v. advance v u) same ∙ sym (λ i. with_time (kept_time i) (advances h t u later i));
      }

  module _ (e : Event) (c : List Event) (a : AllByRecursion (IsLater h t) (e ∷ c)) (before : IsAlike c) where
    new_over_h : Legal (e ∷ c ++ h) → IsNewest e (c ++ h)
    new_over_h lh = newest h t h le refl refl refl e c lh.0 lh.1 a.0 a.1

    new_over_kept : IsNewest e (c ++ h) → IsNewest e (c ++ kept)
    new_over_kept n =
        let k : time kept ≡ t = kept_time in
        let from : t ≤ e.t = a.0.in_time in
        newest_over h kept e c (omega arith) (sym kept_serial) (sym kept_intent) (sym kept_version) n

    new_from_kept : Legal (e ∷ c ++ kept) → IsNewest e (c ++ kept)
    new_from_kept lk = newest h t kept kept_early kept_serial kept_intent kept_version e c lk.0 lk.1 a.0 a.1

    new_back : IsNewest e (c ++ kept) → IsNewest e (c ++ h)
    new_back n =
        let from : t ≤ e.t = a.0.in_time in
        newest_over kept h e c (omega arith) kept_serial kept_intent kept_version n

    -- at the moment of the event
    view_before : Legal (c ++ h) → IsNewest e (c ++ h) → view (c ++ kept) e.t ≡ with_time (time (c ++ kept)) (view (c ++ h) e.t)
    view_before lh n =
        let late : last_time (c ++ h) ≤ time (c ++ h) = last_time_le (c ++ h) in
        let now : time (c ++ h) ≤ e.t = n.in_time in
        before.views lh e.t a.0.in_time (times_le h e.t c (omega arith))

    accepted : Legal (c ++ h) → Legal (c ++ kept) → IsNewest e (c ++ h) → IsNewest e (c ++ kept) → accepts (c ++ kept) e ≡ accepts (c ++ h) e
    accepted lh lk nh nk =
        follows (c ++ kept) e lk nk
        ∙ ap (λ v. may_follow v e) (view_before lh nh)
        ∙ follow_timed (time (c ++ kept)) (view (c ++ h) e.t) e
        ∙ sym (follows (c ++ h) e lh nh)

    forth : Legal (e ∷ c ++ h) → Legal (e ∷ c ++ kept)
    forth lh = let n = new_over_h lh in let lk = before.forth lh.0 in (lk, accepted lh.0 lk n (new_over_kept n) ∙ lh.1)

    back : Legal (e ∷ c ++ kept) → Legal (e ∷ c ++ h)
    back lk = let n = new_from_kept lk in let lh = before.back lk.0 in (lh, sym (accepted lh lk.0 (new_back n) n) ∙ lk.1)

    own_time : Legal (e ∷ c ++ h) → time (e ∷ c ++ kept) ≡ max e.t (time (c ++ kept))
    own_time lh = ap (λ x. max x (time (c ++ kept))) (own_of e.what e (c ++ h) (serial h) lh.1 a.0.serial_new).time

    views : Legal (e ∷ c ++ h) → (u : ℕ) → e.t ≤ u → view (e ∷ c ++ kept) u ≡ with_time (time (e ∷ c ++ kept)) (view (e ∷ c ++ h) u)
    views lh u later =
        let n = new_over_h lh in
        let m : ℕ = time (c ++ kept) in
        advances (e ∷ c ++ kept) e.t u later
        ∙ ap (λ v. advance v u) (steps (c ++ kept) e (forth lh) (new_over_kept n) ∙ ap (λ v. step v e) (view_before lh.0 n) ∙ step_timed m (view (c ++ h) e.t) e)
        ∙ ap (λ v. with_time (max e.t m) (advance v u)) (sym (steps (c ++ h) e lh n))
        ∙ sym (λ i. with_time (own_time lh i) (advances (e ∷ c ++ h) e.t u later i))

    alike_after : IsAlike (e ∷ c)
    alike_after = record { forth = forth; back = back; views = λ lh u later b. views lh u b.0 }

  alike : (c : List Event) → AllByRecursion (IsLater h t) c → IsAlike c
  alike [] a = alike_at_first
  alike (e ∷ c) a = alike_after e c a (alike c a.1)

  -- ---- the time of the history

  time_same : (e : Event) (c : List Event) → t ≤ time_in e e.what → time (e ∷ c ++ kept) ≡ time (e ∷ c ++ h)
  time_same e c from = let k : time kept ≡ t = kept_time in same_time kept h (time_in e e.what) (omega arith) (omega arith) c

  same_view : (c : List Event) → AllByRecursion (IsLater h t) c → Legal (c ++ h) → (u : ℕ) → t ≤ u → AllByRecursion (λ (e : Event). e.t ≤ u) c → IsSameView c h t u
  same_view [] a lh u later b = (alike [] a).views lh u later b ∙ ap (λ s. with_time s (view h u)) kept_time
  same_view (e ∷ c) a lh u later b =
      let own : time_in e e.what ≡ e.t = (own_of e.what e (c ++ h) (serial h) lh.1 a.0.serial_new).time in
      let from : t ≤ e.t = a.0.in_time in
      (alike (e ∷ c) a).views lh u later b ∙ ap (λ s. with_time s (view (e ∷ c ++ h) u)) (time_same e c (omega arith))

pub compaction_law : CompactionLaw
compaction_law h c t l le small a = (((alike h t l le small c a).forth, (alike h t l le small c a).back), same_view h t l le small c a)

-- ---- a second compaction

pub keeps_again : KeepsAgain
keeps_again h t u l le later small =
    let same : view (keep h t) t ≡ with_time t (view h t) = keeps_view h t l le in
    let at : time (keep h t) ≡ t = ap (λ (v : View). v.time) same in
    let early : time (keep h t) ≤ u = omega arith in
    let first : Legal (keep h t) = keep_is_legal h t l le (omega arith) in (
      keep_is_legal (keep h t) u first early small,
      keeps_view (keep h t) u first early
          ∙ ap (with_time u) (advances (keep h t) t u later ∙ ap (λ v. advance v u) same)
          ∙ sym (keeps_view h u l (omega arith) ∙ ap (with_time u) (advances h t u later)),
    )
