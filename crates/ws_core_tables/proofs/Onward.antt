-- An event that one table alone keeps leaves the others as they are.
use Rattle.std.proofs.Common.{◌≡◌, ℕ, ◌≤◌, true, false, List, ◌∷◌, refl, ap, subst, ◌∙◌, sym}
use Rattle.std.specs.Prelude.{IfSome, ◌==◌}
use Rattle.std.proofs.lemmas.Bool.{eqb-true, false≢true}
use Rattle.std.proofs.lemmas.Option.{IfSome_then}
use Rattle.ws_model.specs.declared.event.Event.{Event}
use Rattle.ws_model.specs.declared.event.Tally.{Tally as TallyFields}
use Rattle.ws_model.specs.declared.event.How.{How}
use Rattle.ws_model.specs.declared.event.Version.{Version}
use Rattle.ws_model.specs.declared.event.What.{What}
use Rattle.ws_model.specs.declared.event.What.TheVariants.{Asked, Confirmed, Declined, Unheard, Barred, Noticed, Pinged, Fetched, Same, Unfetched, Pushed, Tally, Revoked}
use Rattle.ws_model.specs.History.{has}
use Rattle.ws_model.specs.Leases.{confirmed_intent, is_confirmed, lease_of, leases}
use Rattle.ws_model.specs.Legal.{Legal}
use Rattle.ws_model.specs.Versions.{is_fetched}
use Rattle.ws_laws.proofs.Ended.{others, skipped}
use Rattle.ws_laws.proofs.Known.{IsOfConfirmed, has_later, leases_confirmed}
use Rattle.ws_laws.proofs.ListLaws.{all_find}
use Rattle.ws_intent.specs.Rows.{Rows as IntentRows}
use Rattle.ws_intent.specs.Stands.{StandsFor as IntentsStand, is_other as leaves_intents}
use Rattle.ws_intent.proofs.Standing.{others_stand as intents_stand_on}
use Rattle.ws_lease.specs.Table.{Rows as LeaseRows}
use Rattle.ws_lease.specs.Stands.{StandsFor as LeasesStand, touches_leases}
use Rattle.ws_lease.proofs.Standing.{stands_on as leases_stand_on}
use Rattle.ws_lease.proofs.WhichEvents.{others_leave}
use Rattle.ws_topic.specs.Rows.{Rows as TopicRows}
use Rattle.ws_topic.specs.Stands.{StandsFor as TopicsStand, is_other as leaves_topics}
use Rattle.ws_topic.proofs.Changes.{others_stand as topics_stand_on}
use Rattle.ws_delivery.specs.declared.open_pair.OpenPair.{OpenPair}
use Rattle.ws_delivery.specs.Table.{Rows as DeliveryRows, pair_at}
use Rattle.ws_delivery.specs.Stands.{StandsFor as DeliveriesStand, is_quiet}
use Rattle.ws_delivery.proofs.Standing.{stands_on as deliveries_stand_on}
use Rattle.ws_core_tables.specs.declared.numbers.Numbers.{Numbers}
use Rattle.ws_core_tables.specs.Numbers.{numbers_of, with_event}
use Rattle.ws_core_tables.specs.Rows.{Rows}
use Rattle.ws_core_tables.specs.Stands.{AreKept, GoesOn, IsOfHistory, StandsFor, is_of_intents, is_of_topics}

pub numbers_on : (e : Event) (h : List Event) (n m : Numbers) → n ≡ numbers_of h → m ≡ with_event e n → m ≡ numbers_of (e ∷ h)
numbers_on e h n m k l = l ∙ ap (with_event e) k

pub leases_on : (e : Event) (h : List Event) (since : ℕ) (rows : LeaseRows) → touches_leases e.what ≡ false → LeasesStand h since rows → Legal (e ∷ h) → since ≤ e.t → LeasesStand (e ∷ h) e.t rows
leases_on e h since rows kind s l k = leases_stand_on rows h e since s k l (others_leave h e kind)

-- ---- the open pairs

pub of_history_on : (e : Event) (h : List Event) (v n : ℕ) (p : OpenPair) → Legal (e ∷ h) → IsOfHistory h v n p → IsOfHistory (e ∷ h) v n p
of_history_on e h v n p l o =
    let told = all_find (IsOfConfirmed h) (λ x. x.intent.n == n) o.lease (leases h) (leases_confirmed h) o.leased in
    let confirmed = subst (λ m. has (is_confirmed m) h ≡ true) (eqb-true o.lease.intent.n n told.1) told.0 in
    record {
      fetched = has_later e h (is_fetched v) o.fetched;
      lease = o.lease;
      leased = skipped n (lease_of e.what (confirmed_intent e.what h)) (leases h) (others e h l.1 n confirmed) ∙ o.leased;
      end = o.end;
    }

pub pairs_on : (e : Event) (h : List Event) (rows : DeliveryRows) → Legal (e ∷ h) → ((v n : ℕ) → IfSome (pair_at v n rows) (IsOfHistory h v n)) → (v n : ℕ) → IfSome (pair_at v n rows) (IsOfHistory (e ∷ h) v n)
pairs_on e h rows l f v n = IfSome_then (pair_at v n rows) (f v n) (λ p o. of_history_on e h v n p l o)

-- ---- one table

-- what an event of the table of intents leaves
intents_alone : (w : What) → is_of_intents w ≡ true → (touches_leases w ≡ false) × (leaves_topics w ≡ true) × (is_quiet w ≡ true)
intents_alone (Asked i) k = (refl, refl, refl)
intents_alone (Confirmed n sent) k = absurd (false≢true k)
intents_alone (Declined n code) k = (refl, refl, refl)
intents_alone (Unheard n) k = (refl, refl, refl)
intents_alone (Barred n reason) k = (refl, refl, refl)
intents_alone (Noticed n heard) k = (refl, refl, refl)
intents_alone (Pinged topic) k = absurd (false≢true k)
intents_alone (Fetched v) k = absurd (false≢true k)
intents_alone (Same topic upto) k = absurd (false≢true k)
intents_alone (Unfetched topic upto why) k = absurd (false≢true k)
intents_alone (Pushed v n how) k = absurd (false≢true k)
intents_alone (Tally c) k = absurd (false≢true k)
intents_alone (Revoked n reason) k = absurd (false≢true k)

pub by_intents :
    (e : Event) (old : Rows) (intents : IntentRows) (numbers : Numbers) → is_of_intents e.what ≡ true → numbers ≡ with_event e old.numbers
    → ((h : List Event) → IntentsStand old.intents h → Legal (e ∷ h) → IntentsStand intents (e ∷ h))
    → GoesOn e old (record { intents = intents; leases = old.leases; topics = old.topics; deliveries = old.deliveries; numbers = numbers })
by_intents e old intents numbers kind n f h since s l k =
    record {
      intents = f h s.intents l;
      leases = leases_on e h since old.leases (intents_alone e.what kind).0 s.leases l k;
      topics = topics_stand_on old.topics h e s.topics (intents_alone e.what kind).1;
      deliveries = deliveries_stand_on h e since old.deliveries l (intents_alone e.what kind).2 k s.deliveries;
      pairs = pairs_on e h old.deliveries l s.pairs;
      kept = s.kept;
      numbers = numbers_on e h old.numbers numbers s.numbers n;
    }

-- what an event of the table of topics leaves
topics_alone : (w : What) → is_of_topics w ≡ true → (touches_leases w ≡ false) × (leaves_intents w ≡ true) × (is_quiet w ≡ true)
topics_alone (Asked i) k = absurd (false≢true k)
topics_alone (Confirmed n sent) k = absurd (false≢true k)
topics_alone (Declined n code) k = absurd (false≢true k)
topics_alone (Unheard n) k = absurd (false≢true k)
topics_alone (Barred n reason) k = absurd (false≢true k)
topics_alone (Noticed n heard) k = absurd (false≢true k)
topics_alone (Pinged topic) k = (refl, refl, refl)
topics_alone (Fetched v) k = absurd (false≢true k)
topics_alone (Same topic upto) k = (refl, refl, refl)
topics_alone (Unfetched topic upto why) k = (refl, refl, refl)
topics_alone (Pushed v n how) k = absurd (false≢true k)
topics_alone (Tally c) k = absurd (false≢true k)
topics_alone (Revoked n reason) k = absurd (false≢true k)

pub by_topics :
    (e : Event) (old : Rows) (topics : TopicRows) (numbers : Numbers) → is_of_topics e.what ≡ true → numbers ≡ with_event e old.numbers → topics.versions ≡ old.topics.versions
    → ((h : List Event) → TopicsStand old.topics h → Legal (e ∷ h) → TopicsStand topics (e ∷ h))
    → GoesOn e old (record { intents = old.intents; leases = old.leases; topics = topics; deliveries = old.deliveries; numbers = numbers })
by_topics e old topics numbers kind n same f h since s l k =
    record {
      intents = intents_stand_on old.intents h e s.intents (topics_alone e.what kind).1;
      leases = leases_on e h since old.leases (topics_alone e.what kind).0 s.leases l k;
      topics = f h s.topics l;
      deliveries = deliveries_stand_on h e since old.deliveries l (topics_alone e.what kind).2 k s.deliveries;
      pairs = pairs_on e h old.deliveries l s.pairs;
      kept = subst (AreKept old.deliveries) (sym same) s.kept;
      numbers = numbers_on e h old.numbers numbers s.numbers n;
    }

-- what a table shows is what stands inside
pub from_shown : (e : Event) (inside shown new : Rows) → inside ≡ shown → GoesOn e inside new → GoesOn e shown new
from_shown e inside shown new k g = subst (λ (r : Rows). GoesOn e r new) k g

-- ---- a push

-- an event that no table but those of leases and deliveries keeps
pub by_pushes :
    (e : Event) (old : Rows) (leases : LeaseRows) (deliveries : DeliveryRows) (numbers : Numbers) (v n : ℕ) (how : How) → e.what ≡ Pushed v n how → numbers ≡ with_event e old.numbers
    → ((h : List Event) (since : ℕ) → LeasesStand h since old.leases → Legal (e ∷ h) → since ≤ e.t → LeasesStand (e ∷ h) e.t leases)
    → ((h : List Event) (since : ℕ) → DeliveriesStand h since old.deliveries → Legal (e ∷ h) → since ≤ e.t → DeliveriesStand (e ∷ h) e.t deliveries)
    → ((h : List Event) → ((v n : ℕ) → IfSome (pair_at v n old.deliveries) (IsOfHistory h v n)) → (v n : ℕ) → IfSome (pair_at v n deliveries) (IsOfHistory h v n))
    → ((vs : List (ℕ × Version)) → AreKept old.deliveries vs → AreKept deliveries vs)
    → GoesOn e old (record { intents = old.intents; leases = leases; topics = old.topics; deliveries = deliveries; numbers = numbers })
by_pushes e old leases deliveries numbers v n how kind m f g p q h since s l k =
    record {
      intents = intents_stand_on old.intents h e s.intents (subst (λ (w : What). leaves_intents w ≡ true) (sym kind) refl);
      leases = f h since s.leases l k;
      topics = topics_stand_on old.topics h e s.topics (subst (λ (w : What). leaves_topics w ≡ true) (sym kind) refl);
      deliveries = g h since s.deliveries l k;
      pairs = pairs_on e h deliveries l (p h s.pairs);
      kept = q old.topics.versions s.kept;
      numbers = numbers_on e h old.numbers numbers s.numbers m;
    }

-- ---- a revocation

pub by_revocation :
    (e : Event) (old : Rows) (intents : IntentRows) (leases : LeaseRows) (deliveries : DeliveryRows) (numbers : Numbers) (n : ℕ) (reason : List ℕ) → e.what ≡ Revoked n reason → numbers ≡ with_event e old.numbers
    → ((h : List Event) (since : ℕ) → IntentsStand old.intents h → LeasesStand h since old.leases → Legal (e ∷ h) → since ≤ e.t → IntentsStand intents (e ∷ h))
    → ((h : List Event) (since : ℕ) → LeasesStand h since old.leases → Legal (e ∷ h) → since ≤ e.t → LeasesStand (e ∷ h) e.t leases)
    → ((h : List Event) (since : ℕ) → DeliveriesStand h since old.deliveries → Legal (e ∷ h) → since ≤ e.t → DeliveriesStand (e ∷ h) e.t deliveries)
    → ((h : List Event) → ((v n : ℕ) → IfSome (pair_at v n old.deliveries) (IsOfHistory h v n)) → (v n : ℕ) → IfSome (pair_at v n deliveries) (IsOfHistory h v n))
    → ((vs : List (ℕ × Version)) → AreKept old.deliveries vs → AreKept deliveries vs)
    → GoesOn e old (record { intents = intents; leases = leases; topics = old.topics; deliveries = deliveries; numbers = numbers })
by_revocation e old intents leases deliveries numbers n reason kind m i f g p q h since s l k =
    record {
      intents = i h since s.intents s.leases l k;
      leases = f h since s.leases l k;
      topics = topics_stand_on old.topics h e s.topics (subst (λ (w : What). leaves_topics w ≡ true) (sym kind) refl);
      deliveries = g h since s.deliveries l k;
      pairs = pairs_on e h deliveries l (p h s.pairs);
      kept = q old.topics.versions s.kept;
      numbers = numbers_on e h old.numbers numbers s.numbers m;
    }

-- ---- a Tally

pub by_tally : (e : Event) (old : Rows) (numbers : Numbers) (c : TallyFields) → e.what ≡ Tally c → numbers ≡ with_event e old.numbers
    → GoesOn e old (record { intents = old.intents; leases = old.leases; topics = old.topics; deliveries = old.deliveries; numbers = numbers })
by_tally e old numbers c kind m h since s l k =
    record {
      intents = intents_stand_on old.intents h e s.intents (subst (λ (w : What). leaves_intents w ≡ true) (sym kind) refl);
      leases = leases_on e h since old.leases (subst (λ (w : What). touches_leases w ≡ false) (sym kind) refl) s.leases l k;
      topics = topics_stand_on old.topics h e s.topics (subst (λ (w : What). leaves_topics w ≡ true) (sym kind) refl);
      deliveries = deliveries_stand_on h e since old.deliveries l (subst (λ (w : What). is_quiet w ≡ true) (sym kind) refl) k s.deliveries;
      pairs = pairs_on e h old.deliveries l s.pairs;
      kept = s.kept;
      numbers = numbers_on e h old.numbers numbers s.numbers m;
    }

-- ---- a confirmation

pub by_confirmation :
    (e : Event) (old : Rows) (intents : IntentRows) (leases : LeaseRows) (topics : TopicRows) (deliveries : DeliveryRows) (numbers : Numbers) (n sent : ℕ) → e.what ≡ Confirmed n sent
    → numbers ≡ with_event e old.numbers → topics ≡ old.topics
    → ((h : List Event) → IntentsStand old.intents h → Legal (e ∷ h) → IntentsStand intents (e ∷ h))
    → ((h : List Event) (since : ℕ) → StandsFor h since old → Legal (e ∷ h) → since ≤ e.t → LeasesStand (e ∷ h) e.t leases)
    → ((h : List Event) (since : ℕ) → StandsFor h since old → Legal (e ∷ h) → since ≤ e.t → DeliveriesStand (e ∷ h) e.t deliveries)
    → ((h : List Event) (since : ℕ) → StandsFor h since old → Legal (e ∷ h) → since ≤ e.t → (v n : ℕ) → IfSome (pair_at v n deliveries) (IsOfHistory (e ∷ h) v n))
    → ((vs : List (ℕ × Version)) → AreKept old.deliveries vs → AreKept deliveries vs)
    → GoesOn e old (record { intents = intents; leases = leases; topics = topics; deliveries = deliveries; numbers = numbers })
by_confirmation e old intents leases topics deliveries numbers n sent kind m same i f g p q h since s l k =
    record {
      intents = i h s.intents l;
      leases = f h since s l k;
      topics = topics_stand_on topics h e (subst (λ (r : TopicRows). TopicsStand r h) (sym same) s.topics) (subst (λ (w : What). leaves_topics w ≡ true) (sym kind) refl);
      deliveries = g h since s l k;
      pairs = p h since s l k;
      kept = subst (λ (r : TopicRows). AreKept deliveries r.versions) (sym same) (q old.topics.versions s.kept);
      numbers = numbers_on e h old.numbers numbers s.numbers m;
    }
