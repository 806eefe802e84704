-- The kinds of event that make or end pairs, by what the code does to the rows.
use Rattle.std.proofs.Common.{◌≡◌, ℕ, ◌+◌, ◌≤◌, Bool, true, false, cond, ◌&&◌, List, [], ◌∷◌, refl, ap, sym, ◌∙◌, subst, length, arith}
use Rattle.std.specs.Prelude.{bytes_eq, ◌==◌, Option, Some, IfSome, filter}
use Rattle.std.specs.List.{IsDistinct, list_any}
use Rattle.std.specs.Option.{option_map}
use Rattle.std.proofs.lemmas.Bool.{eqb-true}
use Rattle.std.proofs.lemmas.Bool.Decides.{nat_tests}
use Rattle.std.proofs.lemmas.List.{length-map}
use Rattle.ws_model.specs.declared.event.Event.{Event}
use Rattle.ws_model.specs.declared.event.How.{How}
use Rattle.ws_model.specs.declared.event.How.TheVariants.{Done, Gone, Missed}
use Rattle.ws_model.specs.declared.event.Intent.{Intent}
use Rattle.ws_model.specs.declared.event.Version.{Version}
use Rattle.ws_model.specs.declared.event.What.TheVariants.{Confirmed, Fetched, Pushed, Revoked}
use Rattle.ws_model.specs.declared.fate.Cause.{Cause}
use Rattle.ws_model.specs.declared.fate.Cause.TheVariants.{Gone as LeaseGone, Replaced, Revoked as LeaseRevoked, Spent, Unsubscribed}
use Rattle.ws_model.specs.Intents.{pending}
use Rattle.ws_model.specs.Leases.{is_on, live}
use Rattle.ws_model.specs.Legal.{Legal, pending_of}
use Rattle.ws_laws.proofs.ListLaws.{all_find, all_from}
use Rattle.ws_lease.specs.Stands.{AreNumbersOf, EndsLease, is_numbered}
use Rattle.ws_lease.proofs.WhichEvents.{gone_ends, revoked_ends}
use Rattle.ws_delivery.specs.OpenOf.{open_versions}
use Rattle.ws_delivery.specs.Table.{Rows as DeliveryRows, fate_at, owed_at, pair_at}
use Rattle.ws_fate.specs.declared.totals.Standing.{Standing}
use Rattle.ws_fate.specs.declared.totals.Standing.TheVariants.{Open, Answered, Ended}
use Rattle.ws_fate.specs.Rows.{standing_at}
use Rattle.ws_fate.specs.Stands.{is_pair}
use Rattle.ws_core_tables.specs.Stands.{CanFollow as TablesCanFollow, GoesOn as TablesGoOn, IsOfHistory, is_number}
use Rattle.ws_core_tables.proofs.Confirmation.{confirmed_is}
use Rattle.ws_core_tables.proofs.NewLease.{live_told, makes_lease, owed_whole, replaced_whole}
use Rattle.ws_core_tables.proofs.Stepped.{pushes}
use Rattle.ws_ledger.specs.Pairs.{AreApart, is_listed, moved_to, open_pairs_of, with_lease, with_many, with_version}
use Rattle.ws_ledger.specs.Rows.{Rows}
use Rattle.ws_ledger.specs.Spent.{is_last}
use Rattle.ws_ledger.specs.Stands.{CanFollow, GoesOn, StandsFor}
use Rattle.ws_ledger.proofs.Bearing.{AreMoved, fetched_goes, lease_meant, subscribed_goes, unsubscribed_goes}
use Rattle.ws_ledger.proofs.Closing.{AreClosed, done_goes, gone_goes, listed_there, missed_ends, missed_goes, one_there, pushed_there, revoked_goes}
use Rattle.ws_ledger.proofs.OwedPairs.{apart_with, enough_open, listed_open, listed_with, owed_open}

-- the tables can follow, where the ledger can
pub tables_follow : (rows : Rows) (e : Event) → CanFollow rows e → TablesCanFollow rows.tables e
tables_follow rows e f = record { past = f.past; since = f.since; stands = f.stands.tables; legal = f.legal; in_time = f.in_time }

itself : (n : ℕ) → (n == n) ≡ true
itself n = grind (arith, nat_tests)

-- ---- one pair

pub pushed_open : (rows : Rows) (e : Event) (v n : ℕ) (how : How) → CanFollow rows e → e.what ≡ Pushed v n how → (w m : ℕ) → is_listed w m ((v, n) ∷ []) ≡ true → standing_at w m rows.fates ≡ Some Open
pushed_open rows e v n how f kind w m k = owed_open f.past f.since e.t w m rows f.stands f.legal.0 f.in_time (one_there f.past e.t v n (pushed_there e f.past v n how f.legal kind) w m k)

pub pushed_enough : (rows : Rows) (e : Event) (v n : ℕ) (how : How) → CanFollow rows e → e.what ≡ Pushed v n how → 1 ≤ rows.open_pairs
pushed_enough rows e v n how f kind = enough_open f.past f.since e.t rows ((v, n) ∷ []) f.stands f.legal.0 f.in_time (refl, tt) (one_there f.past e.t v n (pushed_there e f.past v n how f.legal kind))

pub done_stands : (e : Event) (v n : ℕ) (old new : Rows) → e.what ≡ Pushed v n Done → TablesGoOn e old.tables new.tables → AreClosed Answered ((v, n) ∷ []) old new → GoesOn e old new
done_stands e v n old new kind tables closed h since s l k = done_goes e h since v n old new s l k kind (tables h since s.tables l k) closed

pub missed_stands :
    (e : Event) (v n code : ℕ) (last : Bool) (old new : Rows) → e.what ≡ Pushed v n (Missed code) → last ≡ is_last (option_map (fate_at e.t) (pair_at v n old.tables.deliveries))
    → TablesGoOn e old.tables new.tables → AreClosed (Ended Spent) (missed_ends last v n) old new → GoesOn e old new
missed_stands e v n code last old new kind is tables closed h since s l k = missed_goes e h since v n code last old new s l k kind is (tables h since s.tables l k) closed

-- ---- the pairs of a lease that ends

-- what is open of it is owed
whole_ended : (e : Event) (h : List Event) (n : ℕ) (cause : Cause) (rows : DeliveryRows) → Legal h → EndsLease e h n cause → ((v m : ℕ) → IfSome (pair_at v m rows) (IsOfHistory h v m)) → (v : ℕ) → owed_at e.t v n rows ≡ pair_at v n rows
whole_ended e h n cause rows l ends f v =
    subst (λ m. owed_at e.t v m rows ≡ pair_at v m rows)
    (eqb-true ends.lease.intent.n n (all_find (λ _. Unit {0}) (is_numbered n) ends.lease (live h e.t) (all_from (λ _. Unit {0}) (λ _. tt) (live h e.t)) ends.lives).1)
    (owed_whole h e.t v ends.lease rows (live_told h e.t (is_numbered n) ends.lease l ends.lives) (f v ends.lease.intent.n))

ended_listed :
    (e : Event) (h : List Event) (since n : ℕ) (cause : Cause) (rows : Rows) → StandsFor h since rows → Legal h → since ≤ e.t → EndsLease e h n cause
    → (v m : ℕ) → is_listed v m (open_pairs_of (Some n) rows.tables.deliveries) ≡ (is_number (Some n) m && list_any (is_pair v m) (pushes h e.t))
ended_listed e h since n cause rows s l k ends = listed_open h since e.t (Some n) rows.tables.deliveries s.tables.deliveries k (whole_ended e h n cause rows.tables.deliveries l ends s.tables.pairs)

-- such pairs stand open, and no more than stand open
pub lease_open :
    (h : List Event) (since t : ℕ) (o : Option ℕ) (ends : List (ℕ × ℕ)) (rows : Rows) → StandsFor h since rows → Legal h → since ≤ t → ((v m : ℕ) → is_listed v m ends ≡ (is_number o m && list_any (is_pair v m) (pushes h t)))
    → (v m : ℕ) → is_listed v m ends ≡ true → standing_at v m rows.fates ≡ Some Open
lease_open h since t o ends rows s l k listed v m q = owed_open h since t v m rows s l k (listed_there h t o ends listed v m q)

pub lease_enough :
    (h : List Event) (since t : ℕ) (o : Option ℕ) (ends : List (ℕ × ℕ)) (rows : Rows) → StandsFor h since rows → Legal h → since ≤ t → AreApart ends → ((v m : ℕ) → is_listed v m ends ≡ (is_number o m && list_any (is_pair v m) (pushes h t))) → length ends ≤ rows.open_pairs
lease_enough h since t o ends rows s l k apart listed = enough_open h since t rows ends s l k apart (listed_there h t o ends listed)

pub gone_listed : (rows : Rows) (e : Event) (v n : ℕ) → e.what ≡ Pushed v n Gone → (h : List Event) (since : ℕ) → StandsFor h since rows → Legal (e ∷ h) → since ≤ e.t → (w m : ℕ) → is_listed w m (open_pairs_of (Some n) rows.tables.deliveries) ≡ (is_number (Some n) m && list_any (is_pair w m) (pushes h e.t))
gone_listed rows e v n kind h since s l k = ended_listed e h since n LeaseGone rows s l.0 k (gone_ends h e v n l kind)

pub revoked_listed : (rows : Rows) (e : Event) (n : ℕ) (reason : List ℕ) → e.what ≡ Revoked n reason → (h : List Event) (since : ℕ) → StandsFor h since rows → Legal (e ∷ h) → since ≤ e.t → (w m : ℕ) → is_listed w m (open_pairs_of (Some n) rows.tables.deliveries) ≡ (is_number (Some n) m && list_any (is_pair w m) (pushes h e.t))
revoked_listed rows e n reason kind h since s l k = ended_listed e h since n LeaseRevoked rows s l.0 k (revoked_ends h e n reason l kind)

pub gone_stands :
    (e : Event) (v n : ℕ) (old new : Rows) → e.what ≡ Pushed v n Gone → AreApart (open_pairs_of (Some n) old.tables.deliveries) → TablesGoOn e old.tables new.tables
    → AreClosed (Ended LeaseGone) (open_pairs_of (Some n) old.tables.deliveries) old new → GoesOn e old new
gone_stands e v n old new kind apart tables closed h since s l k = gone_goes e h since v n (open_pairs_of (Some n) old.tables.deliveries) old new s l k kind apart (gone_listed old e v n kind h since s l k) (tables h since s.tables l k) closed

pub revoked_stands :
    (e : Event) (n : ℕ) (reason : List ℕ) (old new : Rows) → e.what ≡ Revoked n reason → AreApart (open_pairs_of (Some n) old.tables.deliveries) → TablesGoOn e old.tables new.tables
    → AreClosed (Ended LeaseRevoked) (open_pairs_of (Some n) old.tables.deliveries) old new → GoesOn e old new
revoked_stands e n reason old new kind apart tables closed h since s l k = revoked_goes e h since n reason (open_pairs_of (Some n) old.tables.deliveries) old new s l k kind apart (revoked_listed old e n reason kind h since s l k) (tables h since s.tables l k) closed

-- the open versions of a lease that a 410 ends
pub gone_open :
    (rows : Rows) (e : Event) (v n : ℕ) (versions : List ℕ) → CanFollow rows e → e.what ≡ Pushed v n Gone → versions ≡ open_versions n rows.tables.deliveries
    → (w : ℕ) → list_any (λ u. u == w) versions ≡ true → standing_at w n rows.fates ≡ Some Open
gone_open rows e v n versions f kind same w k =
    lease_open f.past f.since e.t (Some n) (open_pairs_of (Some n) rows.tables.deliveries) rows f.stands f.legal.0 f.in_time (gone_listed rows e v n kind f.past f.since f.stands f.legal f.in_time) w n
    (listed_with w n n (open_versions n rows.tables.deliveries) ∙ (λ j. itself n j && list_any (λ u. u == w) (sym same j)) ∙ k)

pub gone_enough :
    (rows : Rows) (e : Event) (v n : ℕ) (versions : List ℕ) → CanFollow rows e → e.what ≡ Pushed v n Gone → versions ≡ open_versions n rows.tables.deliveries → IsDistinct (λ x y. x == y) versions → length versions ≤ rows.open_pairs
gone_enough rows e v n versions f kind same distinct =
    subst (λ k. k ≤ rows.open_pairs) (length-map (open_versions n rows.tables.deliveries) (λ w. (w, n)) ∙ ap length (sym same))
    (lease_enough f.past f.since e.t (Some n) (open_pairs_of (Some n) rows.tables.deliveries) rows f.stands f.legal.0 f.in_time (apart_with n (open_versions n rows.tables.deliveries) (subst (IsDistinct (λ x y. x == y)) same distinct))
    (gone_listed rows e v n kind f.past f.since f.stands f.legal f.in_time))

-- what the rows say, where the versions are ended one after another
pub versions_closed :
    (n : ℕ) (versions : List ℕ) (how : Standing) (old new : Rows) → versions ≡ open_versions n old.tables.deliveries
    → ((v m : ℕ) → standing_at v m new.fates ≡ cond (is_listed v m (with_lease n versions)) (Some how) (standing_at v m old.fates))
    → new.fates.totals ≡ with_many (length versions) how old.fates.totals → new.open_pairs + length versions ≡ old.open_pairs → AreClosed how (open_pairs_of (Some n) old.tables.deliveries) old new
versions_closed n versions how old new same look totals number =
    record {
      look = λ v m. look v m ∙ ap (λ vs. cond (is_listed v m (with_lease n vs)) (Some how) (standing_at v m old.fates)) same;
      totals = totals ∙ ap (λ k. with_many k how old.fates.totals) (ap length same ∙ sym (length-map (open_versions n old.tables.deliveries) (λ w. (w, n))));
      number = ap (λ k. new.open_pairs + k) (length-map (open_versions n old.tables.deliveries) (λ w. (w, n)) ∙ ap length (sym same)) ∙ number;
    }

-- ---- confirmations

pub meant_listed :
    (rows : Rows) (i : Intent) (o : Option ℕ) (h : List Event) (since t : ℕ) → StandsFor h since rows → Legal h → since ≤ t → o ≡ lease_meant h t i
    → (w m : ℕ) → is_listed w m (open_pairs_of o rows.tables.deliveries) ≡ (is_number o m && list_any (is_pair w m) (pushes h t))
meant_listed rows i o h since t s l k is = listed_open h since t o rows.tables.deliveries s.tables.deliveries k (λ v. replaced_whole h t v i o rows.tables.deliveries l is s.tables.pairs)

pub unsubscribed_stands :
    (e : Event) (n sent : ℕ) (i : Intent) (o : Option ℕ) (old new : Rows) → e.what ≡ Confirmed n sent → is_on i.mode ≡ false
    → ((h : List Event) (since : ℕ) → StandsFor h since old → Some i ≡ pending_of h n)
    → ((h : List Event) (since : ℕ) → StandsFor h since old → Legal h → since ≤ e.t → o ≡ lease_meant h e.t i)
    → AreApart (open_pairs_of o old.tables.deliveries) → TablesGoOn e old.tables new.tables → AreClosed (Ended Unsubscribed) (open_pairs_of o old.tables.deliveries) old new → GoesOn e old new
unsubscribed_stands e n sent i o old new kind off waits meant apart tables closed h since s l k =
    unsubscribed_goes e h since n sent i o (open_pairs_of o old.tables.deliveries) old new s l k kind (confirmed_is e h n sent i kind (waits h since s)) off (meant h since s l.0 k) apart
    (meant_listed old i o h since e.t s l.0 k (meant h since s l.0 k)) (tables h since s.tables l k) closed

pub subscribed_stands :
    (e : Event) (n sent : ℕ) (i : Intent) (o : Option ℕ) (old new : Rows) → e.what ≡ Confirmed n sent → is_on i.mode ≡ true → i.n ≡ n
    → ((h : List Event) (since : ℕ) → StandsFor h since old → Some i ≡ pending_of h n)
    → ((h : List Event) (since : ℕ) → StandsFor h since old → Legal h → since ≤ e.t → o ≡ lease_meant h e.t i)
    → AreApart (open_pairs_of o old.tables.deliveries) → TablesGoOn e old.tables new.tables → AreMoved (Ended Replaced) (moved_to n (open_pairs_of o old.tables.deliveries)) (open_pairs_of o old.tables.deliveries) old new → GoesOn e old new
subscribed_stands e n sent i o old new kind on is waits meant apart tables moved h since s l k =
    subscribed_goes e h since (record { intent = i; sent = sent }) o old new s l k (makes_lease e h n sent i kind (waits h since s)) on (meant h since s l.0 k) apart
    (meant_listed old i o h since e.t s l.0 k (meant h since s l.0 k)) (tables h since s.tables l k)
    (subst (λ m. AreMoved (Ended Replaced) (moved_to m (open_pairs_of o old.tables.deliveries)) (open_pairs_of o old.tables.deliveries) old new) (sym is) moved)

-- ---- versions

pub fetched_stands :
    (e : Event) (x : Version) (ns : List ℕ) (old new : Rows) → e.what ≡ Fetched x
    → ((h : List Event) (since : ℕ) → StandsFor h since old → Legal h → since ≤ e.t → AreNumbersOf ns (filter (λ l. bytes_eq l.intent.topic x.topic) (live h e.t)))
    → TablesGoOn e old.tables new.tables → AreMoved Answered (with_version x.ver ns) [] old new → GoesOn e old new
fetched_stands e x ns old new kind numbers tables moved h since s l k = fetched_goes e h since x ns old new s l k kind (numbers h since s l.0 k) (tables h since s.tables l k) moved

-- a pending intent has its own number
pub pending_number : (h : List Event) (n : ℕ) (i : Intent) → Some i ≡ pending_of h n → i.n ≡ n
pending_number h n i k = eqb-true i.n n (all_find (λ _. Unit {0}) (λ i. i.n == n) i (pending h) (all_from (λ _. Unit {0}) (λ _. tt) (pending h)) (sym k)).1
