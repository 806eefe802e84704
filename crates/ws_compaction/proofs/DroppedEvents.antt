-- Of each kind of event: what isn't kept once isn't kept later.
use Rattle.std.proofs.Common.{◌≡◌, ℕ, ◌≤◌, ◌<◌, Bool, true, false, not, ◌&&◌, ◌||◌, List, [], ◌∷◌, ◌++◌, refl, ap, sym, ◌∙◌, subst, arith, inl, inr, Option, Some, None}
use Rattle.std.specs.Prelude.{nat_lt, nat_le, is_some, filter, map, ◌==◌, bytes_eq}
use Rattle.std.specs.List.{list_any}
use Rattle.std.proofs.lemmas.Bool.{and_from, and_parts, eqb-true, false≢true, false_from_ne_true, ltb-true, not-true, or_cases, or_left, or_parts, or_right}
use Rattle.std.proofs.lemmas.List.Folds.{list_any-append}
use Rattle.ws_model.specs.declared.event.Event.{Event}
use Rattle.ws_model.specs.declared.event.Intent.{Intent}
use Rattle.ws_model.specs.declared.event.What.{What}
use Rattle.ws_model.specs.declared.event.What.TheVariants.{Asked, Confirmed, Declined, Unheard, Barred, Noticed, Pinged, Fetched, Same, Unfetched, Pushed, Tally, Revoked}
use Rattle.ws_model.specs.declared.lease.Lease.{Lease}
use Rattle.ws_model.specs.Fate.{fate, is_owed, is_push}
use Rattle.ws_model.specs.History.{has, times}
use Rattle.ws_model.specs.Intents.{asked, intents_of, is_denied, is_noticed, is_owed_notice, is_owed_notice_number, is_pending, is_pending_number, is_settled, is_unheard, notices, pending}
use Rattle.ws_model.specs.Keep.{is_among, keeps, kept_leases, member}
use Rattle.ws_model.specs.Leases.{is_confirmed, leases, live}
use Rattle.ws_model.specs.Legal.{Legal, accepts, accepts_what, is_allowed, is_confirmable, is_first_one, is_in_order, is_on_one, is_sound, number_limit, pending_of, time_limit}
use Rattle.ws_model.specs.Moment.{last_serial, last_time}
use Rattle.ws_model.specs.Pairs.{owed, pairs}
use Rattle.ws_model.specs.Verdict.{is_kept_version}
use Rattle.ws_model.specs.Versions.{Ping, fetches, is_fetched}
use Rattle.ws_model.specs.View.{OwedFetch, owed_fetch}
use Rattle.ws_laws.specs.Steps.{fetches_after, missed_more, unanswered}
use Rattle.ws_laws.proofs.Denied.{live_number_confirmed}
use Rattle.ws_laws.proofs.Follow.{any_map, any_of_filter, some_found}
use Rattle.ws_laws.proofs.Known.{HasBoth, IsKnown, IsOfConfirmed, allowed, itself, leases_confirmed, pairs_known, pushes_known}
use Rattle.ws_laws.proofs.ListLaws.{all_filter, all_filter_with, all_from, any_then}
use Rattle.ws_laws.proofs.Topics.{fetches_step}
use Rattle.ws_compaction.specs.Least.{IsKeptLease}
use Rattle.ws_compaction.specs.Least.IsKeptLease.{IsLive, IsNoticed, IsTakenOver}
use Rattle.ws_compaction.proofs.Lawful.{any_kept}
use Rattle.ws_compaction.proofs.Least.{keeps_least}
use Rattle.ws_compaction.specs.Dropped.{DropsEvent, DropsEventLater}
use Rattle.ws_compaction.proofs.Dropped.{either_more, fewer, has_behind, drops_lease, drops_lease_later, notice_before, taken_owed, drops_version, drops_version_later}

-- ---- later

later_by : (h : List Event) (t u : ℕ) (x : Event) (w : What) → Legal h → t ≤ u → keeps h u x w ≡ true → keeps h t x w ≡ true
later_by h t u x (Asked i) l le k = either_more (is_among (pending h) i.n || is_among (notices h) i.n) (member i.n (kept_leases h u)) _ _ (λ a. a) (drops_lease_later h t u i.n l le) k
later_by h t u x (Confirmed n sent) l le k = drops_lease_later h t u n l le k
later_by h t u x (Revoked n reason) l le k = drops_lease_later h t u n l le k
later_by h t u x (Fetched v) l le k = drops_version_later h t u v.ver le k
later_by h t u x (Pushed v n how) l le k =
    let parts = and_parts (is_kept_version h u v) (member n (kept_leases h u)) k in
    and_from _ _ (drops_version_later h t u v le parts.0) (drops_lease_later h t u n l le parts.1)
later_by h t u x (Declined n code) l le k = k
later_by h t u x (Unheard n) l le k = k
later_by h t u x (Barred n reason) l le k = k
later_by h t u x (Noticed n heard) l le k = k
later_by h t u x (Pinged topic) l le k = k
later_by h t u x (Same topic upto) l le k = k
later_by h t u x (Unfetched topic upto why) l le k = k
later_by h t u x (Tally c) l le k = k

pub drops_event_later : DropsEventLater
drops_event_later h t u x l le k = later_by h t u x x.what l le k

-- ---- what was asked stays asked

abbrev is_asked : ℕ → List Event → Bool
is_asked n h = list_any (λ (i : Intent). i.n == n) (asked h)

asked_behind : (n : ℕ) (c g : List Event) → is_asked n g ≡ true → is_asked n (c ++ g) ≡ true
asked_behind n [] g k = k
asked_behind n (e ∷ c) g k = list_any-append (λ (i : Intent). i.n == n) (intents_of e.what) (asked (c ++ g)) ∙ or_right _ _ (asked_behind n c g k)

legal_behind : (c g : List Event) → Legal (c ++ g) → Legal g
legal_behind [] g l = l
legal_behind (e ∷ c) g l = legal_behind c g l.0

there : (f : Option Intent → Bool) → f None ≡ false → (o : Option Intent) → f o ≡ true → is_some o ≡ true
there f z None k = absurd (false≢true (sym z ∙ k))
there f z (Some i) k = refl

pending_there : (f : Option Intent → Bool) → f None ≡ false → (h : List Event) (n : ℕ) → f (pending_of h n) ≡ true → is_among (pending h) n ≡ true
pending_there f z h n k = sym (some_found (λ (i : Intent). i.n == n) (pending h)) ∙ there f z (pending_of h n) k

pending_asked : (h : List Event) (n : ℕ) → is_among (pending h) n ≡ true → is_asked n h ≡ true
pending_asked h n k = any_of_filter (λ (i : Intent). i.n == n) (is_pending h) (asked h) k

-- ---- intents that are pending or whose notice is owed

number_of : (p : ℕ → Bool) (n : ℕ) (is : List Intent) → is_among (filter (λ i. p i.n) is) n ≡ true → p n ≡ true
number_of p n is k =
    any_then (λ (i : Intent). Unit {0} × (p i.n ≡ true)) (λ i. i.n == n) (p n ≡ true) (λ i x q. subst (λ m. p m ≡ true) (eqb-true i.n n q) x.1)
    (filter (λ i. p i.n) is) (all_filter_with (λ (i : Intent). Unit {0}) (λ i. p i.n) is (all_from (λ (i : Intent). Unit {0}) (λ i. tt) is)) k

among : (p : ℕ → Bool) (n : ℕ) (is : List Intent) → p n ≡ true → list_any (λ (i : Intent). i.n == n) is ≡ true → is_among (filter (λ i. p i.n) is) n ≡ true
among p n is k there = any_kept (λ (i : Intent). p i.n) (λ i. i.n == n) (λ i q. subst (λ m. p m ≡ true) (sym (eqb-true i.n n q)) k) is there

pending_before : (h : List Event) (e : Event) (n : ℕ) → is_asked n h ≡ true → is_among (pending (e ∷ h)) n ≡ true → is_among (pending h) n ≡ true
pending_before h e n there k =
    let parts = and_parts (not (has (is_settled n) (e ∷ h))) (nat_lt (times (is_unheard n) (e ∷ h)) 3) (number_of (is_pending_number (e ∷ h)) n (asked (e ∷ h)) k) in
    let unsettled = not-true (has (is_settled n) (e ∷ h)) parts.0 in
    among (is_pending_number h) n (asked h) (and_from _ _ (ap not (or_parts (is_settled n e.what) (has (is_settled n) h) unsettled).1) (fewer (is_unheard n e.what) (times (is_unheard n) h) parts.1)) there

notices_before : (h : List Event) (e : Event) (n : ℕ) → is_asked n h ≡ true → has (is_denied n) h ≡ true → is_among (notices (e ∷ h)) n ≡ true → is_among (notices h) n ≡ true
notices_before h e n there denied k = among (is_owed_notice_number h) n (asked h) (notice_before h e n denied (number_of (is_owed_notice_number (e ∷ h)) n (asked (e ∷ h)) k)) there

denied_of : (h : List Event) (n : ℕ) → is_among (notices h) n ≡ true → has (is_denied n) h ≡ true
denied_of h n k = (and_parts (has (is_denied n) h) _ (and_parts (has (is_denied n) h && not (has (is_noticed n true) h)) _ (number_of (is_owed_notice_number h) n (asked h) k)).0).0

-- what denies an intent denies a pending one or revokes a kept lease
denied_by : (w : What) (t : ℕ) (h : List Event) (n : ℕ) → Legal h → is_allowed w t h ≡ true → is_denied n w ≡ true → (is_among (pending h) n || is_among (notices h) n || member n (kept_leases h t)) ≡ true
denied_by (Barred m reason) t h n l ok k = or_left _ _ (or_left _ _ (subst (λ x. is_among (pending h) x ≡ true) (eqb-true m n k) (pending_there is_on_one refl h m ok)))
denied_by (Revoked m reason) t h n l ok k = or_right _ _ ((keeps_least h t n l).0 (IsLive n (subst (λ x. list_any (λ (y : Lease). y.intent.n == x) (live h t) ≡ true) (eqb-true m n k) ok)))
denied_by _ t h n l ok k = absurd (false≢true k)

-- a kept lease was confirmed
confirmed_of : (h : List Event) (t : ℕ) {n : ℕ} → IsKeptLease h t n → has (is_confirmed n) h ≡ true
confirmed_of h t (IsLive n k) = live_number_confirmed h t n k
confirmed_of h t (IsNoticed n k s) = any_then (IsOfConfirmed h) (λ x. x.intent.n == n) (has (is_confirmed n) h ≡ true) (λ x c q. subst (λ i. has (is_confirmed i) h ≡ true) (eqb-true x.intent.n n q) c) (leases h) (leases_confirmed h) k
confirmed_of h t (IsTakenOver c e g m n q taken kept) =
    let old : has (is_confirmed n) g ≡ true =
    any_then (IsKnown g) (λ p. p.lease.intent.n == n) (has (is_confirmed n) g ≡ true) (λ p x k. subst (λ i. has (is_confirmed i) g ≡ true) (eqb-true p.lease.intent.n n k) x.confirmed)
    (owed g e.t) (all_filter (IsKnown g) (λ p. is_owed (fate g p e.t)) (pairs g) (pairs_known g)) (taken_owed (is_kept_version h t) e g m n taken) in
    ap (has (is_confirmed n)) q ∙ has_behind (is_confirmed n) c (e ∷ g) (or_right _ _ old)

confirms_one : (w : What) (t : ℕ) (h : List Event) (n : ℕ) → is_allowed w t h ≡ true → is_confirmed n w ≡ true → is_among (pending h) n ≡ true
confirms_one (Confirmed m sent) t h n ok k = subst (λ x. is_among (pending h) x ≡ true) (eqb-true m n k) (pending_there (is_confirmable h sent t) refl h m ok)
confirms_one _ t h n ok k = absurd (false≢true k)

-- ---- a request

request_before : (h : List Event) (e : Event) (n : ℕ) → Legal (e ∷ h) → is_asked n h ≡ true
    → (is_among (pending (e ∷ h)) n || is_among (notices (e ∷ h)) n || member n (kept_leases (e ∷ h) e.t)) ≡ true → (is_among (pending h) n || is_among (notices h) n || member n (kept_leases h e.t)) ≡ true
request_before h e n l there k = elim (or_cases (is_among (pending (e ∷ h)) n || is_among (notices (e ∷ h)) n) (member n (kept_leases (e ∷ h) e.t)) k) [
  | inl a ↦ elim (or_cases (is_among (pending (e ∷ h)) n) (is_among (notices (e ∷ h)) n) a) [
    | inl p ↦ or_left _ _ (or_left _ _ (pending_before h e n there p))
    | inr s ↦ elim (or_cases (is_denied n e.what) (has (is_denied n) h) (denied_of (e ∷ h) n s)) [
      | inl now ↦ denied_by e.what e.t h n l.0 (allowed h e l.1) now
      | inr before ↦ or_left _ _ (or_right _ _ (notices_before h e n there before s))
    ]
  ]
  | inr b ↦ elim (or_cases (is_confirmed n e.what) (has (is_confirmed n) h) (confirmed_of (e ∷ h) e.t ((keeps_least (e ∷ h) e.t n l).1 b))) [
    | inl now ↦ or_left _ _ (or_left _ _ (confirms_one e.what e.t h n (allowed h e l.1) now))
    | inr before ↦ or_right _ _ (drops_lease h e n l before b)
  ]
]

-- ---- pings and missed fetches

module _ (topic : List ℕ) (r : ℕ → Bool) where
  abbrev is_wanted : OwedFetch → Bool
  is_wanted f = bytes_eq f.topic topic && r f.serial

  fetch_after : (w : What) (s : ℕ) (fs : List OwedFetch) → r s ≡ false → list_any is_wanted (fetches_after s w fs) ≡ true → list_any is_wanted fs ≡ true
  fetch_after (Pinged of) s fs other k = elim (or_cases (bytes_eq of topic && r s) (list_any is_wanted (filter (λ f. not (bytes_eq of f.topic)) fs)) k) [
    | inl a ↦ absurd (false≢true (sym other ∙ (and_parts (bytes_eq of topic) (r s) a).1))
    | inr b ↦ any_of_filter is_wanted (λ f. not (bytes_eq of f.topic)) fs b
  ]
  fetch_after (Fetched x) s fs other k = any_of_filter is_wanted (unanswered x.topic x.upto) fs k
  fetch_after (Same of upto) s fs other k = any_of_filter is_wanted (unanswered of upto) fs k
  fetch_after (Unfetched of upto why) s fs other k = sym (any_map is_wanted (missed_more of) fs) ∙ any_of_filter is_wanted (λ f. nat_lt f.missed 3) (map (missed_more of) fs) k
  fetch_after _ s fs other k = k

  fetch_before : (h : List Event) (e : Event) → Legal (e ∷ h) → last_serial h < e.serial → r e.serial ≡ false
      → list_any (λ (p : Ping). bytes_eq p.topic topic && r p.serial) (fetches (e ∷ h)) ≡ true → list_any (λ (p : Ping). bytes_eq p.topic topic && r p.serial) (fetches h) ≡ true
  fetch_before h e l new other k =
      sym (any_map is_wanted (owed_fetch h) (fetches h))
      ∙ fetch_after e.what e.serial (map (owed_fetch h) (fetches h)) other
      (ap (list_any is_wanted) (sym (fetches_step e h l.0 new)) ∙ any_map is_wanted (owed_fetch (e ∷ h)) (fetches (e ∷ h)) ∙ k)

above : (f : Event) (h : List Event) (e : Event) (w : What) → accepts_what e (f ∷ h) w ≡ true → last_serial (f ∷ h) < e.serial
above f h e (Tally c) k = absurd (false≢true k)
above f h e w k =
    let a = and_parts (is_in_order e (f ∷ h) && is_sound e.serial w) (is_allowed w e.t (f ∷ h)) k in
    let b = and_parts (is_in_order e (f ∷ h)) (is_sound e.serial w) a.0 in
    let c = and_parts (nat_lt (last_serial (f ∷ h)) e.serial && nat_lt e.serial number_limit && nat_le (last_time (f ∷ h)) e.t) (nat_lt e.t time_limit) b.0 in
    let d = and_parts (nat_lt (last_serial (f ∷ h)) e.serial && nat_lt e.serial number_limit) (nat_le (last_time (f ∷ h)) e.t) c.0 in
    ltb-true _ _ (and_parts (nat_lt (last_serial (f ∷ h)) e.serial) (nat_lt e.serial number_limit) d.0).0

serial_new : (c g : List Event) (x e : Event) → accepts (c ++ x ∷ g) e ≡ true → last_serial (c ++ x ∷ g) < e.serial
serial_new [] g x e k = above x g e e.what k
serial_new (f ∷ c) g x e k = above f (c ++ x ∷ g) e e.what k

serial_there : (c g : List Event) (x : Event) → x.serial ≤ last_serial (c ++ x ∷ g)
serial_there [] g x = omega arith
serial_there (f ∷ c) g x = let old : x.serial ≤ last_serial (c ++ x ∷ g) = serial_there c g x in omega arith

other_serial : (c g : List Event) (x e : Event) → accepts (c ++ x ∷ g) e ≡ true → (e.serial == x.serial) ≡ false
other_serial c g x e k = false_from_ne_true _ (λ y. let same : e.serial ≡ x.serial = eqb-true _ _ y in let a = serial_new c g x e k in let b = serial_there c g x in absurd (omega arith))

no_lower_serial : (c g : List Event) (x e : Event) → accepts (c ++ x ∷ g) e ≡ true → nat_lt e.serial x.serial ≡ false
no_lower_serial c g x e k = false_from_ne_true _ (λ y. let low : e.serial < x.serial = ltb-true _ _ y in let a = serial_new c g x e k in let b = serial_there c g x in absurd (omega arith))

-- ---- each kind of event

module _ (c g : List Event) (s r : ℕ) (e : Event) where
  abbrev of_kind : What → Event
  of_kind w = record { serial = s; t = r; what = w }

  abbrev with_kind : What → List Event
  with_kind w = c ++ of_kind w ∷ g

  was_allowed : (w : What) → Legal (e ∷ with_kind w) → is_allowed w r g ≡ true
  was_allowed w l = allowed g (of_kind w) (legal_behind c (of_kind w ∷ g) l.0).1

  dropped_by : (w : What) → Legal (e ∷ with_kind w) → keeps (e ∷ with_kind w) e.t (of_kind w) w ≡ true → keeps (with_kind w) e.t (of_kind w) w ≡ true
  dropped_by (Asked i) l k = request_before (with_kind (Asked i)) e i.n l (asked_behind i.n c (of_kind (Asked i) ∷ g) (or_left _ _ (itself i.n))) k
  dropped_by (Confirmed n sent) l k = drops_lease (with_kind (Confirmed n sent)) e n l (has_behind (is_confirmed n) c (of_kind (Confirmed n sent) ∷ g) (or_left _ _ (itself n))) k
  dropped_by (Revoked n reason) l k =
      drops_lease (with_kind (Revoked n reason)) e n l
      (has_behind (is_confirmed n) c (of_kind (Revoked n reason) ∷ g) (or_right false _ (live_number_confirmed g r n (was_allowed (Revoked n reason) l)))) k
  dropped_by (Fetched v) l k = drops_version (with_kind (Fetched v)) e v.ver l (has_behind (is_fetched v.ver) c (of_kind (Fetched v) ∷ g) (or_left _ _ (itself v.ver))) k
  dropped_by (Pushed v n how) l k =
      let w : What = Pushed v n how in
      let one : is_push (λ how. true) v n w ≡ true = and_from ((v == v) && (n == n)) true (and_from _ _ (itself v) (itself n)) refl in
      let both : HasBoth (with_kind w) v n = pushes_known (with_kind w) l.0 (λ how. true) v n (has_behind (is_push (λ how. true) v n) c (of_kind w ∷ g) (or_left _ _ one)) in
      let parts = and_parts (is_kept_version (e ∷ with_kind w) e.t v) (member n (kept_leases (e ∷ with_kind w) e.t)) k in
      and_from _ _ (drops_version (with_kind w) e v l both.fetched parts.0) (drops_lease (with_kind w) e n l both.confirmed parts.1)
  dropped_by (Unheard n) l k =
      let w : What = Unheard n in
      pending_before (with_kind w) e n (asked_behind n c (of_kind w ∷ g) (asked_behind n (of_kind w ∷ []) g (pending_asked g n (pending_there (is_first_one g) refl g n (was_allowed w l))))) k
  dropped_by (Barred n reason) l k =
      let w : What = Barred n reason in
      notices_before (with_kind w) e n (asked_behind n c (of_kind w ∷ g) (asked_behind n (of_kind w ∷ []) g (pending_asked g n (pending_there is_on_one refl g n (was_allowed w l)))))
      (has_behind (is_denied n) c (of_kind w ∷ g) (or_left _ _ (itself n))) k
  dropped_by (Noticed n heard) l k =
      let w : What = Noticed n heard in
      let told : is_among (notices g) n ≡ true = sym (some_found (λ (i : Intent). i.n == n) (notices g)) ∙ was_allowed w l in
      notices_before (with_kind w) e n (asked_behind n c (of_kind w ∷ g) (asked_behind n (of_kind w ∷ []) g (any_of_filter (λ (i : Intent). i.n == n) (is_owed_notice g) (asked g) told)))
      (has_behind (is_denied n) c (of_kind w ∷ g) (or_right false _ (denied_of g n told))) k
  dropped_by (Pinged topic) l k =
      fetch_before topic (λ m. m == s) (with_kind (Pinged topic)) e l (serial_new c g (of_kind (Pinged topic)) e l.1) (other_serial c g (of_kind (Pinged topic)) e l.1) k
  dropped_by (Unfetched topic upto why) l k =
      let w : What = Unfetched topic upto why in
      fetch_before topic (λ m. nat_lt m s) (with_kind w) e l (serial_new c g (of_kind w) e l.1) (no_lower_serial c g (of_kind w) e l.1) k
  dropped_by (Declined n code) l k = k
  dropped_by (Same topic upto) l k = k
  dropped_by (Tally f) l k = k

pub drops_event : DropsEvent
drops_event c g x e l k = dropped_by c g x.serial x.t e x.what l k
