-- What the tables say, and what the history says.
use Rattle.std.proofs.Common.{◌≡◌, ℕ, ◌≤◌, ◌<◌, Bool, true, false, ◌&&◌, List, ◌∷◌, refl, ap, sym, ◌∙◌, subst, arith, Bor}
use Rattle.std.specs.Prelude.{Option, Some, None, IsSome, is_some, find, map, max, nat_lt, nat_le, bytes_eq, ◌==◌}
use Rattle.std.specs.List.{list_any}
use Rattle.std.specs.Option.{option_copied, option_map}
use Rattle.std.proofs.lemmas.Bool.{and_parts, eqb-true, false≢true, leb-true, ltb-true}
use Rattle.ws_model.specs.declared.event.Event.{Event}
use Rattle.ws_model.specs.declared.event.Intent.{Intent}
use Rattle.ws_model.specs.declared.event.Version.{Version}
use Rattle.ws_model.specs.declared.lease.Lease.{Lease}
use Rattle.ws_model.specs.Leases.{live}
use Rattle.ws_lease.specs.Stands.{is_numbered, live_numbered}
use Rattle.ws_model.specs.declared.event.Tally.{Tally as TallyFields}
use Rattle.ws_model.specs.declared.event.What.{What}
use Rattle.ws_model.specs.declared.event.What.TheVariants.{Asked, Confirmed, Declined, Unheard, Barred, Noticed, Pinged, Fetched, Same, Unfetched, Pushed, Tally, Revoked}
use Rattle.ws_model.specs.Intents.{asked, is_pending, notices, pending}
use Rattle.ws_model.specs.Pairs.{owed}
use Rattle.ws_model.specs.Legal.{Legal, is_allowed, is_in_order, number_limit, time_limit, is_confirmable, is_confirmed_in_time, is_first_one, pending_of}
use Rattle.ws_model.specs.Versions.{versions, latest_of}
use Rattle.ws_model.specs.View.{owed_notice, owed_push}
use Rattle.ws_laws.proofs.Follow.{any_map, some_found}
use Rattle.ws_laws.proofs.Known.{allowed, asked_le}
use Rattle.ws_laws.proofs.ListLaws.{all_filter, all_find, all_from, find-map}
use Rattle.ws_model.specs.Moment.{last_intent, last_serial, last_time}
use Rattle.ws_laws.proofs.Step.{named_pending}
use Rattle.ws_laws.specs.Steps.{found}
use Rattle.ws_intent.specs.declared.rows.Waiting.{Waiting}
use Rattle.ws_intent.specs.Rows.{Rows as IntentRows, number_at}
use Rattle.ws_intent.specs.Stands.{StandsFor as IntentsStand, as_notice, as_pending}
use Rattle.ws_topic.specs.Rows.{Rows as TopicRows}
use Rattle.ws_topic.specs.ByTopic.{at_topic}
use Rattle.ws_topic.specs.Stands.{StandsFor as TopicsStand}
use Rattle.ws_delivery.specs.declared.open_pair.OpenPair.{OpenPair}
use Rattle.ws_delivery.specs.Table.{Rows as DeliveryRows, fate_at, owed_at, unexpired}
use Rattle.ws_delivery.specs.Stands.{StandsFor as DeliveriesStand, is_pair, shown}
use Rattle.ws_core_tables.specs.Allowed.{comes_next_as, is_owed_one}

-- ---- intents

intent_shown : (o : Option Waiting) → option_map (λ w. w.intent) o ≡ found (λ w. w.intent) (option_map as_pending o)
intent_shown None = refl
intent_shown (Some w) = refl

-- the pending intent of a number
pub pending_is : (h : List Event) (rows : IntentRows) (n : ℕ) → IntentsStand rows h → option_map (λ w. w.intent) (number_at n rows.pending) ≡ pending_of h n
pending_is h rows n s = intent_shown (number_at n rows.pending) ∙ ap (found (λ w. w.intent)) (s.pending_at n) ∙ named_pending h n

-- its number isn't above those asked
pub pending_below : (h : List Event) (rows : IntentRows) (n : ℕ) → IntentsStand rows h → IsSome (number_at n rows.pending) → n ≤ last_intent h
pending_below h rows n s k = by (number_at n rows.pending) refl k
  where
    by : (o : Option Waiting) → number_at n rows.pending ≡ o → IsSome o → n ≤ last_intent h
    by None e k = absurd (false≢true k)
    by (Some w) e k =
        let q = all_find (λ i. i.n ≤ last_intent h) (λ i. i.n == n) w.intent (pending h) (all_filter (λ i. i.n ≤ last_intent h) (is_pending h) (asked h) (asked_le h)) (sym (pending_is h rows n s) ∙ ap (option_map (λ (w : Waiting). w.intent)) e) in
        let a : w.intent.n ≤ last_intent h = q.0 in
        let b : w.intent.n ≡ n = eqb-true w.intent.n n q.1 in omega arith

-- a new number is above all those asked
pub asked_above : (e : Event) (h : List Event) (i : Intent) → Legal (e ∷ h) → e.what ≡ Asked i → last_intent h < i.n
asked_above e h i l k = ltb-true (last_intent h) i.n (subst (λ (w : What). is_allowed w e.t h ≡ true) k (allowed h e l.1))

-- one that stands there
pub waiting_is : (h : List Event) (rows : IntentRows) (n : ℕ) (w : Waiting) → IntentsStand rows h → Some w ≡ number_at n rows.pending → Some w.intent ≡ pending_of h n
waiting_is h rows n w s k = ap (option_map (λ (w : Waiting). w.intent)) k ∙ pending_is h rows n s

-- it may be confirmed where it is the first of its topic and callback, and the time is right
pub confirmable_of :
    (h : List Event) (sent t : ℕ) (o : Option Intent) (i : Intent) (b : Bool) → Some i ≡ o → true ≡ is_first_one h o
    → b ≡ (nat_le sent t && is_confirmed_in_time sent t i) → b ≡ is_confirmable h sent t o
confirmable_of h sent t o i b k first m =
    subst (λ (o : Option Intent). true ≡ is_first_one h o → b ≡ is_confirmable h sent t o) k
    (λ g. m ∙ ap (λ x. x && nat_le sent t && is_confirmed_in_time sent t i) g) first

pub none_waits : (h : List Event) (rows : IntentRows) (n : ℕ) → IntentsStand rows h → None ≡ number_at n rows.pending → None ≡ pending_of h n
none_waits h rows n s k = ap (option_map (λ (w : Waiting). w.intent)) k ∙ pending_is h rows n s

is_some-map : {X Y : Type 0} (f : X → Y) (o : Option X) → is_some (option_map f o) ≡ is_some o
is_some-map f None = refl
is_some-map f (Some x) = refl

pub is_some-copied : {X : Type 0} (o : Option (Bor X)) → is_some o ≡ is_some (option_copied o)
is_some-copied None = refl
is_some-copied (Some x) = refl

-- whether a notice is owed
pub notice_is : (h : List Event) (rows : IntentRows) (n : ℕ) → IntentsStand rows h → is_some (number_at n rows.notices) ≡ is_some (find (λ i. i.n == n) (notices h))
notice_is h rows n s =
    sym (is_some-map as_notice (number_at n rows.notices))
    ∙ ap is_some (s.notice_at n)
    ∙ ap is_some (find-map (owed_notice h) (λ w. w.intent.n == n) (notices h))
    ∙ is_some-map (owed_notice h) (find (λ i. i.n == n) (notices h))

-- ---- topics

-- whether a topic has a version
pub version_is : (h : List Event) (rows : TopicRows) (topic : List ℕ) → TopicsStand rows h → is_some (at_topic topic rows.latest) ≡ list_any (λ v. bytes_eq v.topic topic) (versions h)
version_is h rows topic s =
    ap is_some (s.latest_at topic)
    ∙ is_some-map (λ (v : Version). v.ver) (latest_of topic h)
    ∙ some_found (λ (v : Version). bytes_eq v.topic topic) (versions h)

-- ---- deliveries

-- whether a pair is owed
pub owed_is : (h : List Event) (since t v n : ℕ) (rows : DeliveryRows) → DeliveriesStand h since rows → since ≤ t → is_some (owed_at t v n rows) ≡ list_any (λ p. (p.version.ver == v) && (p.lease.intent.n == n)) (owed h t)
owed_is h since t v n rows s k =
    ap is_some (s.shows t v n k)
    ∙ is_some-map shown (find (is_pair v n) (map (owed_push h) (owed h t)))
    ∙ some_found (is_pair v n) (map (owed_push h) (owed h t))
    ∙ any_map (is_pair v n) (owed_push h) (owed h t)

-- whether an open pair is owed at t
pub open_owed : (t : ℕ) (o : Option OpenPair) → is_owed_one (option_map (fate_at t) o) ≡ is_some (unexpired t o)
open_owed t None = refl
open_owed t (Some p) = by (nat_lt t p.exp) refl
  where
    by : (b : Bool) → nat_lt t p.exp ≡ b → is_owed_one (Some (fate_at t p)) ≡ is_some (unexpired t (Some p))
    by true k = rw k refl
    by false k = rw k refl

-- ---- the order

-- an event that is no Tally
pub no_tally : (e : Event) (h : List Event) (w : What) → ((c : TallyFields) → w ≡ Tally c → ⊥) → comes_next_as e h w ≡ (is_in_order e h && is_allowed w e.t h)
no_tally e h (Asked i) k = refl
no_tally e h (Confirmed n sent) k = refl
no_tally e h (Declined n code) k = refl
no_tally e h (Unheard n) k = refl
no_tally e h (Barred n reason) k = refl
no_tally e h (Noticed n heard) k = refl
no_tally e h (Pinged topic) k = refl
no_tally e h (Fetched v) k = refl
no_tally e h (Same topic upto) k = refl
no_tally e h (Unfetched topic upto why) k = refl
no_tally e h (Pushed v n how) k = refl
no_tally e h (Tally c) k = absurd (k c refl)
no_tally e h (Revoked n reason) k = refl

-- what is in order isn't before the last time
pub order_in_time : (e : Event) (h : List Event) → is_in_order e h ≡ true → last_time h ≤ e.t
order_in_time e h k = by (nat_lt (last_serial h) e.serial) (nat_lt e.serial number_limit) (nat_lt e.t time_limit) k
  where
    by : (a b d : Bool) → (a && b && nat_le (last_time h) e.t && d) ≡ true → last_time h ≤ e.t
    by a b d k = leb-true _ _ (and_parts (a && b) (nat_le (last_time h) e.t) (and_parts (a && b && nat_le (last_time h) e.t) d k).0).1

pub since_in_time : (since t last : ℕ) → since ≤ max t last → last ≤ t → since ≤ t
since_in_time since t last k l = omega arith

-- a live lease is found by its own number
pub live_number : (h : List Event) (t n : ℕ) (l : Lease) → Some l ≡ live_numbered h t n → l.intent.n ≡ n
live_number h t n l k = eqb-true l.intent.n n (all_find (λ _. Unit {0}) (is_numbered n) l (live h t) (all_from (λ _. Unit {0}) (λ _. tt) (live h t)) (sym k)).1

-- a confirmed intent is pending
pub confirmed_waits : (e : Event) (h : List Event) (rows : IntentRows) (n sent : ℕ) → Legal (e ∷ h) → e.what ≡ Confirmed n sent → IntentsStand rows h → IsSome (number_at n rows.pending)
confirmed_waits e h rows n sent l kind s = by (number_at n rows.pending) (pending_is h rows n s)
  where
    by : (o : Option Waiting) → option_map (λ w. w.intent) o ≡ pending_of h n → IsSome o
    by None k = absurd (false≢true (ap (is_confirmable h sent e.t) k ∙ subst (λ (w : What). is_allowed w e.t h ≡ true) kind (allowed h e l.1)))
    by (Some w) k = refl
