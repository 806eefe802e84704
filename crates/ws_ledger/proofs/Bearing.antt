-- Events that make pairs: new versions, and subscriptions that take over what is owed; and the end of a subscription.
use Rattle.std.proofs.Common.{◌≡◌, ℕ, ◌≤◌, ◌<◌, ◌+◌, Bool, true, false, cond, ◌&&◌, ◌||◌, List, [], ◌∷◌, refl, ap, sym, ◌∙◌, subst, length, arith}
use Rattle.std.specs.Prelude.{bytes_eq, is_some, nat_le, ◌==◌, Option, Some, None, filter, map}
use Rattle.std.specs.List.{AllByRecursion, list_any}
use Rattle.std.specs.Option.{option_map}
use Rattle.std.proofs.lemmas.Bool.{and_parts, eqb-true, false≢true}
use Rattle.std.proofs.lemmas.Bool.Decides.{nat_tests}
use Rattle.std.proofs.lemmas.List.{length-map}
use Rattle.ws_model.specs.declared.event.Event.{Event}
use Rattle.ws_model.specs.declared.event.Intent.{Intent}
use Rattle.ws_model.specs.declared.event.Mode.{Mode}
use Rattle.ws_model.specs.declared.event.Mode.TheVariants.{Off, On}
use Rattle.ws_model.specs.declared.event.Version.{Version}
use Rattle.ws_model.specs.declared.event.What.TheVariants.{Confirmed, Fetched}
use Rattle.ws_model.specs.declared.fate.Cause.TheVariants.{Replaced, Unsubscribed}
use Rattle.ws_model.specs.declared.lease.Lease.{Lease}
use Rattle.ws_model.specs.Account.{tallies_of}
use Rattle.ws_model.specs.Fate.{Pair, fate}
use Rattle.ws_model.specs.Intents.{same_pair}
use Rattle.ws_model.specs.History.{has}
use Rattle.ws_model.specs.Leases.{confirmed_intent, end_by_mode, is_confirmed, is_on, live}
use Rattle.ws_model.specs.Legal.{Legal}
use Rattle.ws_model.specs.Moment.{last_version}
use Rattle.ws_model.specs.Pairs.{pairs}
use Rattle.ws_model.specs.Revocation.{live_lease_of}
use Rattle.ws_model.specs.View.{OwedPush, view}
use Rattle.ws_laws.specs.Steps.{new_push, new_pushes, owed_afresh, turn}
use Rattle.ws_laws.proofs.Ended.{both_true}
use Rattle.ws_laws.proofs.Follow.{any_map, some_found}
use Rattle.ws_laws.proofs.Known.{IsKnown, fetched_le, in_time, pairs_known}
use Rattle.ws_laws.proofs.ListLaws.{all_weaker, filter_same, map-map}
use Rattle.ws_lease.specs.Stands.{AreNumbersOf, MakesLease, is_numbered}
use Rattle.ws_lease.proofs.Standing.{find_absent, live_apart}
use Rattle.ws_delivery.specs.OpenOf.{open_versions}
use Rattle.ws_delivery.specs.Table.{Rows as DeliveryRows}
use Rattle.ws_fate.specs.declared.totals.Standing.{Standing}
use Rattle.ws_fate.specs.declared.totals.Standing.TheVariants.{Open, Answered, Ended}
use Rattle.ws_fate.specs.Rows.{standing_at}
use Rattle.ws_fate.specs.Stands.{is_pair}
use Rattle.ws_fate.specs.Totals.{standing}
use Rattle.ws_fate.proofs.Passing.{is_it}
use Rattle.ws_core_tables.specs.Births.{AreDistinct}
use Rattle.ws_core_tables.specs.Stands.{StandsFor as TablesStand, is_number}
use Rattle.ws_core_tables.proofs.LeaseCounts.{as_many}
use Rattle.ws_core_tables.proofs.NewLease.{unconfirmed}
use Rattle.ws_core_tables.proofs.NewVersion.{new_above}
use Rattle.ws_core_tables.proofs.Renewal.{by_number, makes, of_found, taken_over}
use Rattle.ws_core_tables.proofs.Stepped.{pushes}
use Rattle.ws_ledger.specs.Pairs.{AreApart, is_listed, moved_to, open_pairs_of, with_lease, with_many, with_version}
use Rattle.ws_ledger.specs.Rows.{Rows}
use Rattle.ws_ledger.specs.Stands.{StandsFor, kept}
use Rattle.ws_ledger.proofs.Closing.{AreClosed, goes_on_closing, listed_there}
use Rattle.ws_ledger.proofs.Ending.{few_tries, goes_on_ending, number_listed}
use Rattle.ws_ledger.proofs.OwedPairs.{listed_lease, listed_with, still_owed, turned_cause}

-- ---- lists

any_never : {X : Type 0} (xs : List X) → list_any (λ x. false) xs ≡ false
any_never [] = refl
any_never (x ∷ xs) = any_never xs

any_and : {X : Type 0} (b : Bool) (p : X → Bool) (xs : List X) → list_any (λ x. b && p x) xs ≡ (b && list_any p xs)
any_and true p xs = refl
any_and false p xs = any_never xs

and_turned : (a b : Bool) → (a && b) ≡ (b && a)
and_turned true true = refl
and_turned true false = refl
and_turned false true = refl
and_turned false false = refl

any_end : {X : Type 0} (p : X → Bool) (b : Bool) (xs : List X) → list_any (λ x. p x && b) xs ≡ (b && list_any p xs)
any_end p b [] = by b
  where
    by : (b : Bool) → false ≡ (b && false)
    by true = refl
    by false = refl
any_end p b (x ∷ xs) = ap (λ c. (p x && b) || c) (any_end p b xs) ∙ by (p x) b (list_any p xs)
  where
    by : (a b c : Bool) → ((a && b) || (b && c)) ≡ (b && (a || c))
    by true true c = refl
    by true false c = refl
    by false true c = refl
    by false false c = refl

-- a pair that the history doesn't have isn't kept
nothing_kept : (h : List Event) (since v n : ℕ) (rows : Rows) → StandsFor h since rows → AllByRecursion (λ p. is_it v n p ≡ false) (pairs h) → standing_at v n rows.fates ≡ None
nothing_kept h since v n rows s a = s.shows since v n (omega arith) ∙ ap (λ o. option_map kept (option_map standing (option_map (λ p. fate h p since) o))) (find_absent (is_it v n) (pairs h) a)

-- ---- a new version

listed_version : (v n u : ℕ) (ns : List ℕ) → is_listed v n (with_version u ns) ≡ ((u == v) && list_any (λ m. m == n) ns)
listed_version v n u ns = any_map (λ p. (p.0 == v) && (p.1 == n)) (λ m. (u, m)) ns ∙ any_and (u == v) (λ m. m == n) ns

pub apart_version : (u : ℕ) (ns : List ℕ) → AreDistinct ns → AreApart (with_version u ns)
apart_version u [] a = tt
apart_version u (n ∷ ns) a = (listed_version u n u ns ∙ ap (λ b. (u == u) && b) a.0 ∙ by (u == u), apart_version u ns a.1)
  where
    by : (b : Bool) → (b && false) ≡ false
    by true = refl
    by false = refl

made_version : (t v n : ℕ) (x : Version) (ns : List ℕ) (ls : List Lease) → AreNumbersOf ns ls → list_any (is_pair v n) (map (λ l. new_push t x l) ls) ≡ is_listed v n (with_version x.ver ns)
made_version t v n x ns ls a = any_map (is_pair v n) (λ l. new_push t x l) ls ∙ any_and (x.ver == v) (is_numbered n) ls ∙ ap (λ b. (x.ver == v) && b) (sym (a.same n)) ∙ sym (listed_version v n x.ver ns)

-- it is above the versions of all pairs
pub new_version : (e : Event) (h : List Event) (since : ℕ) (x : Version) (ns : List ℕ) (rows : Rows) → StandsFor h since rows → Legal (e ∷ h) → e.what ≡ Fetched x → (v n : ℕ) → is_listed v n (with_version x.ver ns) ≡ true → standing_at v n rows.fates ≡ None
new_version e h since x ns rows s l kind v n k =
    nothing_kept h since v n rows s
    (all_weaker (IsKnown h) (λ p. is_it v n p ≡ false)
    (λ p known. other p.version.ver x.ver v (p.lease.intent.n == n) (last_version h) (fetched_le h p.version.ver known.fetched) (new_above e h x l kind) (and_parts (x.ver == v) (list_any (λ m. m == n) ns) (sym (listed_version v n x.ver ns) ∙ k)).0) (pairs h) (pairs_known h))
  where
    apart : (a b c m : ℕ) → a ≤ m → m < b → (b == c) ≡ true → (a == c) ≡ false
    apart a b c m p q r = grind (arith, nat_tests)

    other : (a b c : ℕ) (d : Bool) (m : ℕ) → a ≤ m → m < b → (b == c) ≡ true → ((a == c) && d) ≡ false
    other a b c d m p q r = ap (λ z. z && d) (apart a b c m p q r)

all_open : (t : ℕ) (x : Version) (h : List Event) → AllByRecursion (λ y. standing (turn t (Fetched x) None y) ≡ Open) (pushes h t)
all_open t x h = all_weaker (λ y. nat_le 8 y.tries ≡ false) (λ y. standing (turn t (Fetched x) None y) ≡ Open) (λ y k. still_owed y.tries y.next k) (pushes h t) (few_tries h t)

-- what the rows say after an event that made pairs, and ended others so
pub record AreMoved (how : Standing) (births ends : List (ℕ × ℕ)) (old new : Rows) : Type 0 where
  pub look : (v n : ℕ) → standing_at v n new.fates ≡ cond (is_listed v n births) (Some Open) (cond (is_listed v n ends) (Some how) (standing_at v n old.fates))
  pub totals : new.fates.totals ≡ with_many (length ends) how old.fates.totals
  pub number : new.open_pairs + length ends ≡ old.open_pairs + length births

-- the pairs that it makes are those of the version with the leases of its topic
pub version_made : (e : Event) (h : List Event) (x : Version) (ns : List ℕ) → e.what ≡ Fetched x → AreNumbersOf ns (filter (λ l. bytes_eq l.intent.topic x.topic) (live h e.t)) → (v n : ℕ) → list_any (is_pair v n) (new_pushes e.t e.what (confirmed_intent e.what h) (view h e.t)) ≡ is_listed v n (with_version x.ver ns)
version_made e h x ns kind numbers v n = ap (λ w. list_any (is_pair v n) (new_pushes e.t w (confirmed_intent w h) (view h e.t))) kind ∙ made_version e.t v n x ns (filter (λ l. bytes_eq l.intent.topic x.topic) (live h e.t)) numbers

pub fetched_goes :
    (e : Event) (h : List Event) (since : ℕ) (x : Version) (ns : List ℕ) (old new : Rows) → StandsFor h since old → Legal (e ∷ h) → since ≤ e.t → e.what ≡ Fetched x
    → AreNumbersOf ns (filter (λ l. bytes_eq l.intent.topic x.topic) (live h e.t))
    → TablesStand (e ∷ h) e.t new.tables → AreMoved Answered (with_version x.ver ns) [] old new → StandsFor (e ∷ h) e.t new
fetched_goes e h since x ns old new s l le kind numbers tables moved =
    goes_on_ending e h since Answered [] (with_version x.ver ns) old new s l le (ap tallies_of kind)
    (record {
      tables = tables;
      is_end = tt;
      apart = tt;
      there = λ v n k. absurd (false≢true k);
      turns = all_weaker (λ y. standing (turn e.t (Fetched x) None y) ≡ Open) (λ y. standing (turn e.t e.what (confirmed_intent e.what h) y) ≡ Open) (λ y k. ap (λ w. standing (turn e.t w (confirmed_intent w h) y)) kind ∙ k) (pushes h e.t) (all_open e.t x h);
      made = version_made e h x ns kind numbers;
      made_number =
          ap (λ w. length (new_pushes e.t w (confirmed_intent w h) (view h e.t))) kind
          ∙ length-map (filter (λ l. bytes_eq l.intent.topic x.topic) (live h e.t)) (λ l. new_push e.t x l)
          ∙ sym (as_many (λ l. bytes_eq l.intent.topic x.topic) ns (live h e.t) (live_apart h l.0 e.t) numbers)
          ∙ sym (length-map ns (λ n. (x.ver, n)));
      look = moved.look;
      totals = moved.totals;
      number = moved.number;
    })

-- ---- a confirmation

-- which lease is meant, by its number
abbrev pub lease_meant : List Event → ℕ → Intent → Option ℕ
lease_meant h t i = option_map (λ l. l.intent.n) (live_lease_of h t i.topic i.callback)

confirmed_turns :
    (e : Event) (h : List Event) (n sent : ℕ) (i : Intent) (o : Option ℕ) (ends : List (ℕ × ℕ)) → Legal (e ∷ h) → o ≡ lease_meant h e.t i
    → ((v m : ℕ) → is_listed v m ends ≡ (is_number o m && list_any (is_pair v m) (pushes h e.t)))
    → AllByRecursion (λ x. standing (turn e.t (Confirmed n sent) (Some i) x) ≡ cond (is_listed x.version.ver x.lease.intent.n ends) (Ended (end_by_mode i.mode)) Open) (pushes h e.t)
confirmed_turns e h n sent i o ends l is listed =
    all_weaker (λ x. (nat_le 8 x.tries ≡ false) × ((is_listed x.version.ver x.lease.intent.n ends ≡ is_number o x.lease.intent.n) × (same_pair i x.lease.intent ≡ is_number (lease_meant h e.t i) x.lease.intent.n)))
    (λ x. standing (turn e.t (Confirmed n sent) (Some i) x) ≡ cond (is_listed x.version.ver x.lease.intent.n ends) (Ended (end_by_mode i.mode)) Open)
    (λ x k.
    turned_cause e.t (Confirmed n sent) (Some i) x (end_by_mode i.mode) (same_pair i x.lease.intent) refl refl refl k.0
    ∙ ap (λ b. cond b (Ended (end_by_mode i.mode)) Open) (k.1.1 ∙ ap (λ z. is_number z x.lease.intent.n) (sym is) ∙ sym k.1.0)) (pushes h e.t)
    (both_true (λ x. nat_le 8 x.tries ≡ false) (λ x. (is_listed x.version.ver x.lease.intent.n ends ≡ is_number o x.lease.intent.n) × (same_pair i x.lease.intent ≡ is_number (lease_meant h e.t i) x.lease.intent.n)) (pushes h e.t) (few_tries h e.t)
    (both_true (λ x. is_listed x.version.ver x.lease.intent.n ends ≡ is_number o x.lease.intent.n) (λ x. same_pair i x.lease.intent ≡ is_number (lease_meant h e.t i) x.lease.intent.n) (pushes h e.t) (listed_lease h e.t o ends listed) (by_number h e.t i l.0 (in_time h e l.1))))

by_off : (m : Mode) → is_on m ≡ false → end_by_mode m ≡ Unsubscribed
by_off On k = absurd (false≢true (sym k))
by_off Off k = refl

by_on : (m : Mode) → is_on m ≡ true → end_by_mode m ≡ Replaced
by_on On k = refl
by_on Off k = absurd (false≢true k)

-- the end of a subscription
pub unsubscribed_goes :
    (e : Event) (h : List Event) (since n sent : ℕ) (i : Intent) (o : Option ℕ) (ends : List (ℕ × ℕ)) (old new : Rows) → StandsFor h since old → Legal (e ∷ h) → since ≤ e.t
    → e.what ≡ Confirmed n sent → confirmed_intent e.what h ≡ Some i → is_on i.mode ≡ false → o ≡ lease_meant h e.t i
    → AreApart ends → ((v m : ℕ) → is_listed v m ends ≡ (is_number o m && list_any (is_pair v m) (pushes h e.t)))
    → TablesStand (e ∷ h) e.t new.tables → AreClosed (Ended Unsubscribed) ends old new → StandsFor (e ∷ h) e.t new
unsubscribed_goes e h since n sent i o ends old new s l le kind is off meant apart listed tables closed =
    goes_on_closing e h since (Confirmed n sent) (Some i) (Ended Unsubscribed) ends old new s l le kind is refl none tt apart (listed_there h e.t o ends listed)
    (subst (λ c. AllByRecursion (λ x. standing (turn e.t (Confirmed n sent) (Some i) x) ≡ cond (is_listed x.version.ver x.lease.intent.n ends) (Ended c) Open) (pushes h e.t)) (by_off i.mode off) (confirmed_turns e h n sent i o ends l meant listed))
    tables closed
  where
    made : Lease
    made = record { intent = i; sent = sent }

    none : new_pushes e.t (Confirmed n sent) (Some i) (view h e.t) ≡ []
    none = ap (λ b. owed_afresh e.t (view h e.t).owed (cond b (made ∷ []) [])) off

-- ---- a subscription that takes over

moved_with : (n q : ℕ) (versions : List ℕ) → moved_to n (with_lease q versions) ≡ with_lease n versions
moved_with n q versions = map-map (λ v. (v, q)) (λ p. (p.0, n)) versions

itself : (n : ℕ) → (n == n) ≡ true
itself n = grind (arith, nat_tests)

-- pairs of one lease stay apart with another one
apart_again : (n q : ℕ) (versions : List ℕ) → AreApart (with_lease q versions) → AreApart (with_lease n versions)
apart_again n q [] a = tt
apart_again n q (w ∷ versions) a = (
  listed_with w n n versions ∙ ap (λ b. (n == n) && b) (ap (λ b. b && list_any (λ u. u == w) versions) (sym (itself q)) ∙ sym (listed_with w q q versions) ∙ a.0) ∙ never (n == n),
  apart_again n q versions a.1,
)
  where
    never : (b : Bool) → (b && false) ≡ false
    never true = refl
    never false = refl

pub apart_moved : (n : ℕ) (o : Option ℕ) (rows : DeliveryRows) → AreApart (open_pairs_of o rows) → AreApart (moved_to n (open_pairs_of o rows))
apart_moved n None rows a = tt
apart_moved n (Some q) rows a = subst AreApart (sym (moved_with n q (open_versions q rows))) (apart_again n q (open_versions q rows) a)

-- the versions that are open for the old lease are those that are owed to it
versions_taken :
    (v : ℕ) (o : Option ℕ) (rows : DeliveryRows) (ws : List OwedPush) → ((v m : ℕ) → is_listed v m (open_pairs_of o rows) ≡ (is_number o m && list_any (is_pair v m) ws))
    → list_any (λ p. p.0 == v) (open_pairs_of o rows) ≡ is_some (of_found v o ws)
versions_taken v None rows ws listed = refl
versions_taken v (Some q) rows ws listed =
    any_map (λ p. p.0 == v) (λ w. (w, q)) (open_versions q rows)
    ∙ sym (ap (λ b. b && list_any (λ w. w == v) (open_versions q rows)) (itself q))
    ∙ sym (listed_with v q q (open_versions q rows))
    ∙ listed v q
    ∙ ap (λ b. b && list_any (is_pair v q) ws) (itself q)
    ∙ sym (some_found (is_pair v q) ws)

pub new_lease : (e : Event) (h : List Event) (since : ℕ) (l : Lease) (pairs_moved : List (ℕ × ℕ)) (rows : Rows) → StandsFor h since rows → Legal (e ∷ h) → MakesLease e h l → is_on l.intent.mode ≡ true → (v m : ℕ) → is_listed v m (moved_to l.intent.n pairs_moved) ≡ true → standing_at v m rows.fates ≡ None
new_lease e h since l ps rows s g makes on v m k =
    nothing_kept h since v m rows s
    (all_weaker (IsKnown h) (λ p. is_it v m p ≡ false) (λ p known. by p (p.lease.intent.n == m) refl known) (pairs h) (pairs_known h))
  where
    is : l.intent.n ≡ m
    is = eqb-true l.intent.n m (and_parts (l.intent.n == m) (list_any (λ p. p.0 == v) ps) (sym (any_map (λ p. (p.0 == v) && (p.1 == m)) (λ p. (p.0, l.intent.n)) ps ∙ any_end (λ p. p.0 == v) (l.intent.n == m) ps) ∙ k)).0

    never : (a : Bool) → (a && false) ≡ false
    never true = refl
    never false = refl

    by : (p : Pair) (b : Bool) → (p.lease.intent.n == m) ≡ b → IsKnown h p → is_it v m p ≡ false
    by p true q known = absurd (false≢true (sym (unconfirmed e h l g makes on) ∙ (λ j. has (is_confirmed ((is ∙ sym (eqb-true p.lease.intent.n m q)) j)) h) ∙ known.confirmed))
    by p false q known = ap (λ b. (p.version.ver == v) && b) q ∙ never (p.version.ver == v)

-- the pairs that it makes are those that go over to it
pub lease_made :
    (e : Event) (h : List Event) (l : Lease) (o : Option ℕ) (rows : DeliveryRows) → Legal (e ∷ h) → MakesLease e h l → is_on l.intent.mode ≡ true → o ≡ lease_meant h e.t l.intent
    → ((v m : ℕ) → is_listed v m (open_pairs_of o rows) ≡ (is_number o m && list_any (is_pair v m) (pushes h e.t)))
    → (v n : ℕ) → list_any (is_pair v n) (new_pushes e.t e.what (confirmed_intent e.what h) (view h e.t)) ≡ is_listed v n (moved_to l.intent.n (open_pairs_of o rows))
lease_made e h l o rows g m on meant listed v n =
    ap (list_any (is_pair v n)) (makes e h l m on)
    ∙ any_map (is_pair v n) (λ w. new_push e.t w.version l) (filter (λ w. same_pair l.intent w.lease.intent) ws)
    ∙ any_end (λ w. w.version.ver == v) (l.intent.n == n) (filter (λ w. same_pair l.intent w.lease.intent) ws)
    ∙ ap (λ b. (l.intent.n == n) && b)
    (sym (some_found (λ w. w.version.ver == v) (filter (λ w. same_pair l.intent w.lease.intent) ws))
    ∙ ap is_some (taken_over v l.intent (lease_meant h e.t l.intent) ws of_lease ∙ ap (λ z. of_found v z ws) (sym meant))
    ∙ sym (versions_taken v o rows ws listed))
    ∙ sym (any_end (λ p. p.0 == v) (l.intent.n == n) ends)
    ∙ sym (any_map (λ p. (p.0 == v) && (p.1 == n)) (λ p. (p.0, l.intent.n)) ends)
  where
    ws : List OwedPush
    ws = pushes h e.t

    ends : List (ℕ × ℕ)
    ends = open_pairs_of o rows

    of_lease : AllByRecursion (λ w. same_pair l.intent w.lease.intent ≡ is_number (lease_meant h e.t l.intent) w.lease.intent.n) ws
    of_lease = by_number h e.t l.intent g.0 (in_time h e g.1)

pub subscribed_goes :
    (e : Event) (h : List Event) (since : ℕ) (l : Lease) (o : Option ℕ) (old new : Rows) → StandsFor h since old → Legal (e ∷ h) → since ≤ e.t
    → MakesLease e h l → is_on l.intent.mode ≡ true → o ≡ lease_meant h e.t l.intent
    → AreApart (open_pairs_of o old.tables.deliveries) → ((v m : ℕ) → is_listed v m (open_pairs_of o old.tables.deliveries) ≡ (is_number o m && list_any (is_pair v m) (pushes h e.t)))
    → TablesStand (e ∷ h) e.t new.tables → AreMoved (Ended Replaced) (moved_to l.intent.n (open_pairs_of o old.tables.deliveries)) (open_pairs_of o old.tables.deliveries) old new → StandsFor (e ∷ h) e.t new
subscribed_goes e h since l o old new s g le m on meant apart listed tables moved =
    goes_on_ending e h since (Ended Replaced) ends (moved_to l.intent.n ends) old new s g le (ap tallies_of m.confirms)
    (record {
      tables = tables;
      is_end = tt;
      apart = apart;
      there = listed_there h e.t o ends listed;
      turns =
          all_weaker (λ x. standing (turn e.t (Confirmed l.intent.n l.sent) (Some l.intent) x) ≡ cond (is_listed x.version.ver x.lease.intent.n ends) (Ended (end_by_mode l.intent.mode)) Open) (λ x. standing (turn e.t e.what (confirmed_intent e.what h) x) ≡ cond (is_listed x.version.ver x.lease.intent.n ends) (Ended Replaced) Open)
          (λ x k. (λ j. standing (turn e.t (m.confirms j) (m.asked j) x)) ∙ k ∙ ap (λ c. cond (is_listed x.version.ver x.lease.intent.n ends) (Ended c) Open) (by_on l.intent.mode on)) ws
          (confirmed_turns e h l.intent.n l.sent l.intent o ends g meant listed);
      made = lease_made e h l o old.tables.deliveries g m on meant listed;
      made_number =
          ap length (makes e h l m on)
          ∙ length-map (filter (λ w. same_pair l.intent w.lease.intent) ws) (λ w. new_push e.t w.version l)
          ∙ ap length (filter_same (λ w. same_pair l.intent w.lease.intent) (λ w. is_listed w.version.ver w.lease.intent.n ends) ws
          (all_weaker (λ w. (same_pair l.intent w.lease.intent ≡ is_number (lease_meant h e.t l.intent) w.lease.intent.n) × (is_listed w.version.ver w.lease.intent.n ends ≡ is_number o w.lease.intent.n)) (λ w. same_pair l.intent w.lease.intent ≡ is_listed w.version.ver w.lease.intent.n ends)
          (λ w k. k.0 ∙ ap (λ z. is_number z w.lease.intent.n) (sym meant) ∙ sym k.1) ws
          (both_true (λ w. same_pair l.intent w.lease.intent ≡ is_number (lease_meant h e.t l.intent) w.lease.intent.n) (λ w. is_listed w.version.ver w.lease.intent.n ends ≡ is_number o w.lease.intent.n) ws of_lease (listed_lease h e.t o ends listed))))
          ∙ number_listed h e.t ends g.0 apart (listed_there h e.t o ends listed)
          ∙ sym (length-map ends (λ p. (p.0, l.intent.n)));
      look = moved.look;
      totals = moved.totals;
      number = moved.number;
    })
  where
    ws : List OwedPush
    ws = pushes h e.t

    ends : List (ℕ × ℕ)
    ends = open_pairs_of o old.tables.deliveries

    of_lease : AllByRecursion (λ w. same_pair l.intent w.lease.intent ≡ is_number (lease_meant h e.t l.intent) w.lease.intent.n) ws
    of_lease = by_number h e.t l.intent g.0 (in_time h e g.1)
