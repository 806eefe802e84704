-- A version that is past after an event was so before, or the event touches it.
use Rattle.std.proofs.Common.{◌≡◌, ℕ, suc, ◌+◌, ◌≤◌, Bool, true, false, not, cond, ◌&&◌, ◌||◌, List, [], ◌∷◌, ◌++◌, refl, ap, sym, ◌∙◌, subst, arith}
use Rattle.std.specs.Prelude.{◌==◌, Option, Some, None, bytes_eq, filter, find, is_none, is_some, nat_le}
use Rattle.std.specs.List.{AllByRecursion, list_any}
use Rattle.std.specs.Option.{option_map}
use Rattle.std.proofs.lemmas.Bool.{and_from, and_parts, eqb-true, false≢true, or_left, or_parts}
use Rattle.ws_model.specs.declared.event.Event.{Event}
use Rattle.ws_model.specs.declared.event.How.{How}
use Rattle.ws_model.specs.declared.event.How.TheVariants.{Done, Gone, Missed}
use Rattle.ws_model.specs.declared.event.Intent.{Intent}
use Rattle.ws_model.specs.declared.event.Version.{Version}
use Rattle.ws_model.specs.declared.event.What.{What}
use Rattle.ws_model.specs.declared.event.What.TheVariants.{Confirmed, Fetched, Pushed, Revoked}
use Rattle.ws_model.specs.declared.fate.Cause.TheVariants.{Gone as LeaseGone, Revoked as LeaseRevoked}
use Rattle.ws_model.specs.Fate.{Pair, delay, fate, is_done, is_miss, is_owed, is_push, is_push_of, misses, next}
use Rattle.ws_model.specs.History.{has}
use Rattle.ws_model.specs.Leases.{confirmed_intent, end_by, end_by_intent, end_by_mode, lease_end, live}
use Rattle.ws_model.specs.Legal.{Legal, is_allowed, is_confirmable, pending_of}
use Rattle.ws_model.specs.Pairs.{births, owed, pairs}
use Rattle.ws_model.specs.Revocation.{live_lease_of}
use Rattle.ws_model.specs.Verdict.{pair_of}
use Rattle.ws_model.specs.Versions.{is_version, versions, versions_of}
use Rattle.ws_laws.proofs.Advance.{is_owed_parts}
use Rattle.ws_laws.proofs.Counts.{turned_at}
use Rattle.ws_laws.proofs.Ended.{IsToldPair, both_true, one_more, pairs_told}
use Rattle.ws_laws.proofs.Known.{IsKnown, allowed, in_time, pairs_known}
use Rattle.ws_laws.proofs.ListLaws.{all_find, any_then}
use Rattle.ws_laws.proofs.Paired.{owed_lives, pairs_only}
use Rattle.ws_laws.proofs.Step.{IsUntried, births_untried}
use Rattle.ws_laws.proofs.Topics.{bytes_are}
use Rattle.ws_compaction.proofs.Dropped.{drops_lease_later, drops_version_later}
use Rattle.ws_lease.specs.Stands.{is_numbered}
use Rattle.ws_lease.proofs.SortedEntries.{any_filter}
use Rattle.ws_core_tables.specs.Stands.{is_number}
use Rattle.ws_core_tables.proofs.Confirmation.{confirmed_is, pair_by_number}
use Rattle.ws_fate.specs.declared.totals.Standing.TheVariants.{Open}
use Rattle.ws_fate.specs.Rows.{standing_at}
use Rattle.ws_fate.specs.Totals.{standing}
use Rattle.ws_fate.proofs.Passing.{open_one}
use Rattle.ws_tries.specs.Rows.{Rows as TryRows, is_listed, tries_at}
use Rattle.ws_kept.specs.Finding.{is_latest}
use Rattle.ws_ledger.specs.Stands.{StandsFor as LedgerStands, kept}
use Rattle.ws_core.specs.GivenBack.{former, is_meant, of_lease, touched_by_confirmation, touched_of}
use Rattle.ws_core.specs.Past.{IsPast}
use Rattle.ws_core.specs.Rows.{Rows}
use Rattle.ws_core.specs.Stands.{StandsFor}
use Rattle.ws_core.proofs.GoneLeases.{all_right}
use Rattle.ws_core.proofs.Holding.{Bears}
use Rattle.ws_core.proofs.Past.{stands_open}
use Rattle.ws_core.proofs.Rooms.{owed_pair}

-- ---- the latest version of a topic

-- the latest of these versions
abbrev latest_in : List Version → Version → Bool
latest_in vs u = is_version u.ver (find (λ x. bytes_eq x.topic u.topic) vs)

none_all : {X : Type 0} (q : X → Bool) (xs : List X) → list_any q xs ≡ false → AllByRecursion (λ x. q x ≡ false) xs
none_all q [] k = tt
none_all q (x ∷ xs) k = let p = or_parts (q x) (list_any q xs) k in (p.0, none_all q xs p.1)

-- a version that was the latest of its topic, and isn't with a new one, was the latest of that one's topic
superseded : (h : List Event) (t v : ℕ) (w : Version) (tries : TryRows) → list_any (λ x. x.ver == v) (filter (latest_in (w ∷ versions h)) (w ∷ versions h)) ≡ false → is_latest h v ≡ true
    → is_meant (touched_of h t (Fetched w)) tries v ≡ true
superseded h t v w tries none was =
    any_then (λ u. (latest_in (w ∷ versions h) u && (u.ver == v)) ≡ false) (λ u. latest_in (versions h) u && (u.ver == v)) (is_meant (touched_of h t (Fetched w)) tries v ≡ true)
    (λ u not_now k. by u (and_parts (latest_in (versions h) u) (u.ver == v) k) not_now (bytes_eq w.topic u.topic) refl)
    (versions h)
    (none_all (λ u. latest_in (w ∷ versions h) u && (u.ver == v)) (versions h)
    (or_parts _ _ (sym (any_filter (λ x. x.ver == v) (latest_in (w ∷ versions h)) (w ∷ versions h)) ∙ none)).1)
    (sym (any_filter (λ x. x.ver == v) (latest_in (versions h)) (versions h)) ∙ was)
  where
    found : (u : Version) (o : Option Version) → is_version u.ver o ≡ true → (u.ver == v) ≡ true → is_meant (former o) tries v ≡ true
    found u None k is = absurd (false≢true k)
    found u (Some x) k is = ap (λ n. n == v) (eqb-true x.ver u.ver k) ∙ is

    by : (u : Version) → (latest_in (versions h) u ≡ true) × ((u.ver == v) ≡ true) → (is_version u.ver (cond (bytes_eq w.topic u.topic) (Some w) (find (λ x. bytes_eq x.topic u.topic) (versions h))) && (u.ver == v)) ≡ false
        → (b : Bool) → bytes_eq w.topic u.topic ≡ b → is_meant (touched_of h t (Fetched w)) tries v ≡ true
    by u k not_now true q = found u (find (λ x. bytes_eq x.topic w.topic) (versions h)) (ap (λ topic. is_version u.ver (find (λ x. bytes_eq x.topic topic) (versions h))) (bytes_are w.topic u.topic q) ∙ k.0) k.1
    by u k not_now false q = absurd (false≢true (sym not_now ∙ (λ j. is_version u.ver (cond (q j) (Some w) (find (λ x. bytes_eq x.topic u.topic) (versions h))) && k.1 j) ∙ and_from _ _ k.0 refl))

latest_goes : (h : List Event) (t v : ℕ) (w : What) (tries : TryRows) → list_any (λ x. x.ver == v) (filter (latest_in (versions_of w ++ versions h)) (versions_of w ++ versions h)) ≡ false → is_latest h v ≡ true
    → is_meant (touched_of h t w) tries v ≡ true
latest_goes h t v (Fetched w) tries none was = superseded h t v w tries none was
latest_goes h t v _ tries none was = absurd (false≢true (sym none ∙ was))

-- ---- an owed pair

no_push : (test : How → Bool) (v n : ℕ) (w : What) → is_push (λ how. true) v n w ≡ false → is_push test v n w ≡ false
no_push test v n (Pushed x m how) k = by (x == v) (m == n) (test how) k
  where
    by : (a b c : Bool) → (a && b && true) ≡ false → (a && b && c) ≡ false
    by true true c k = absurd (false≢true (sym k))
    by true false c k = refl
    by false b c k = refl
no_push test v n _ k = refl

-- it is of a push of the pair, or ends its lease, or the pair stays owed
still_owed : (e : Event) (h : List Event) (p : Pair) → Legal (e ∷ h) → IsKnown h p → is_owed (fate h p e.t) ≡ true → is_push (λ how. true) p.version.ver p.lease.intent.n e.what ≡ false → end_by e.what (confirmed_intent e.what h) p.lease ≡ None
    → is_owed (fate (e ∷ h) p e.t) ≡ true
still_owed e h p l known owes push end =
    let v : ℕ = p.version.ver in
    let n : ℕ = p.lease.intent.n in
    let parts = and_parts (not (has (is_push_of is_done p) h) && not (nat_le 8 (misses h p))) (is_none (lease_end h p.lease e.t)) (sym (is_owed_parts _ _ (lease_end h p.lease e.t) _) ∙ owes) in
    let few : not (nat_le 8 (misses h p)) ≡ true = (and_parts (not (has (is_push_of is_done p) h)) _ parts.0).1 in
    ap is_owed (turned_at e h p (in_time h e l.1) known owes)
    ∙ is_owed_parts (is_push is_done v n e.what) (cond (is_push is_miss v n e.what) (suc (misses h p)) (misses h p)) (end_by e.what (confirmed_intent e.what h) p.lease) (cond (is_push is_miss v n e.what) (e.t + delay (suc (misses h p))) (next h p))
    ∙ (λ j. not (no_push is_done v n e.what push j) && not (nat_le 8 (cond (no_push is_miss v n e.what push j) (suc (misses h p)) (misses h p))) && is_none (end j))
    ∙ (λ j. true && few j && true)

-- ---- what an event touches

module _ (e : Event) (h : List Event) (tries : TryRows) (l : Legal (e ∷ h)) (p : Pair) (lives : find (is_numbered p.lease.intent.n) (live h e.t) ≡ Some p.lease) (room : is_some (tries_at p.version.ver p.lease.intent.n tries) ≡ true) where
  abbrev Untouched : What → Type 0
  Untouched w = (is_push (λ how. true) p.version.ver p.lease.intent.n w ≡ false) × (end_by w (confirmed_intent w h) p.lease ≡ None)

  not_version : (x m : ℕ) → (x == p.version.ver) ≡ false → ((x == p.version.ver) && (m == p.lease.intent.n) && true) ≡ false
  not_version x m k = ap (λ b. b && (m == p.lease.intent.n) && true) k

  -- a pair of another lease
  other_lease : (m : ℕ) → is_some (tries_at p.version.ver m tries) ≡ false → (m == p.lease.intent.n) ≡ false
  other_lease m k = by (m == p.lease.intent.n) refl
    where
      by : (b : Bool) → (m == p.lease.intent.n) ≡ b → b ≡ false
      by false q = refl
      by true q = absurd (false≢true (sym k ∙ ap (λ z. is_some (tries_at p.version.ver z tries)) (eqb-true m p.lease.intent.n q) ∙ room))

  not_lease : (a b : Bool) → b ≡ false → (a && b && true) ≡ false
  not_lease true b k = ap (λ c. c && true) k
  not_lease false b k = refl

  not_it : (o : Option ℕ) → is_meant (of_lease o) tries p.version.ver ≡ false → is_number o p.lease.intent.n ≡ false
  not_it None k = refl
  not_it (Some m) k = other_lease m k

  confirmed : (m sent : ℕ) → e.what ≡ Confirmed m sent → is_meant (touched_by_confirmation h e.t (pending_of h m)) tries p.version.ver ≡ false → end_by_intent (confirmed_intent (Confirmed m sent) h) p.lease ≡ None
  confirmed m sent kind k = by (pending_of h m) refl k
    where
      by : (o : Option Intent) → pending_of h m ≡ o → is_meant (touched_by_confirmation h e.t o) tries p.version.ver ≡ false → end_by_intent (confirmed_intent (Confirmed m sent) h) p.lease ≡ None
      by None q k = absurd (false≢true (sym (ap (is_confirmable h sent e.t) q) ∙ subst (λ (w : What). is_allowed w e.t h ≡ true) kind (allowed h e l.1)))
      by (Some i) q k =
          ap (λ o. end_by_intent o p.lease) (sym (ap (λ w. confirmed_intent w h) kind) ∙ confirmed_is e h m sent i kind (sym q))
          ∙ ap (λ b. cond b (Some (end_by_mode i.mode)) None)
          (pair_by_number h e.t i p.lease.intent.n p.lease l.0 (in_time h e l.1) lives ∙ not_it (option_map (λ x. x.intent.n) (live_lease_of h e.t i.topic i.callback)) k)

  untouched : (w : What) → e.what ≡ w → is_meant (touched_of h e.t w) tries p.version.ver ≡ false → Untouched w
  untouched (Pushed x m Done) kind k = (not_version x m k, refl)
  untouched (Pushed x m (Missed code)) kind k = (not_version x m k, refl)
  untouched (Pushed x m Gone) kind k = let other = other_lease m k in (not_lease (x == p.version.ver) (m == p.lease.intent.n) other, ap (λ b. cond b (Some LeaseGone) None) other)
  untouched (Revoked m reason) kind k = (refl, ap (λ b. cond b (Some LeaseRevoked) None) (other_lease m k))
  untouched (Confirmed m sent) kind k = (refl, confirmed m sent kind k)
  untouched _ kind k = (refl, refl)

-- ---- a version that is past

found_kept : {X : Type 0} (test q : X → Bool) (x : X) (xs : List X) → find test xs ≡ Some x → q x ≡ true → list_any test (filter q xs) ≡ true
found_kept test q x [] k pass = cc
found_kept {X} test q x (y ∷ ys) k pass = by (test y) refl k (q y) refl (found_kept test q x ys)
  where
    by : (b : Bool) → test y ≡ b → cond b (Some y) (find test ys) ≡ Some x → (c : Bool) → q y ≡ c → (find test ys ≡ Some x → q x ≡ true → list_any test (filter q ys) ≡ true) → list_any test (cond c (y ∷ filter q ys) (filter q ys)) ≡ true
    by true a k true r f = or_left (test y) _ a
    by true a k false r f = let same : y ≡ x = cc in absurd (false≢true (sym r ∙ ap q same ∙ pass))
    by false a k true r f = ap (λ b. b || list_any test (filter q ys)) a ∙ f k pass
    by false a k false r f = f k pass

-- what only the front has is found there
found_in_front : {X : Type 0} (test : X → Bool) (xs ys : List X) → find test ys ≡ None → find test (xs ++ ys) ≡ find test xs
found_in_front test [] ys none = none
found_in_front {X} test (x ∷ xs) ys none = ap (cond (test x) (Some x)) (found_in_front test xs ys none)

module _ (e : Event) (h : List Event) (since : ℕ) (old mid : Rows) (l : Legal (e ∷ h)) (le : since ≤ e.t) (s : StandsFor h since old) (after : LedgerStands (e ∷ h) e.t mid.ledger) (bears : Bears e h old.tries mid.tries) where
  now : e.t ≤ e.t
  now = omega arith

  -- what is known of a pair of the history before the event
  abbrev Facts : Pair → Type 0
  Facts p = ((IsKnown h p × IsToldPair h p) × (pair_of h p.version.ver p.lease.intent.n ≡ Some p)) × (pair_of (e ∷ h) p.version.ver p.lease.intent.n ≡ Some p)

  facts : AllByRecursion Facts (pairs h)
  facts =
      both_true (λ p. (IsKnown h p × IsToldPair h p) × (pair_of h p.version.ver p.lease.intent.n ≡ Some p)) (λ p. pair_of (e ∷ h) p.version.ver p.lease.intent.n ≡ Some p) (pairs h)
      (both_true (λ p. IsKnown h p × IsToldPair h p) (λ p. pair_of h p.version.ver p.lease.intent.n ≡ Some p) (pairs h) (both_true (IsKnown h) (IsToldPair h) (pairs h) (pairs_known h) (pairs_told h l.0)) (pairs_only h l.0))
      (all_right (λ p. pair_of (e ∷ h) p.version.ver p.lease.intent.n ≡ Some p) (births e.t e.what (confirmed_intent e.what h) (live h e.t) (owed h e.t)) (pairs h) (pairs_only (e ∷ h) l))

  -- an owed pair has a room
  has_room : (p : Pair) → Facts p → is_owed (fate h p e.t) ≡ true → is_some (tries_at p.version.ver p.lease.intent.n mid.tries) ≡ true
  has_room p known owes =
      let v : ℕ = p.version.ver in
      let n : ℕ = p.lease.intent.n in
      let there = owed_pair h e.t v n l.0 (found_kept (λ q. (q.version.ver == v) && (q.lease.intent.n == n)) (λ q. is_owed (fate h q e.t)) p (pairs h) known.0.1 owes) in
      bears.stay v n (s.rooms v n (drops_version_later h since e.t v le there.1.0) (drops_lease_later h since e.t n l.0 le there.1.1) there.0)

  -- a pair that stood open still does, where the event doesn't touch its version
  stays_open : (p : Pair) → Facts p → is_meant (touched_of h e.t e.what) mid.tries p.version.ver ≡ false → standing_at p.version.ver p.lease.intent.n old.ledger.fates ≡ Some Open
      → standing_at p.version.ver p.lease.intent.n mid.ledger.fates ≡ Some Open
  stays_open p known meant was = by (is_owed (fate h p e.t)) refl
    where
      by : (b : Bool) → is_owed (fate h p e.t) ≡ b → standing_at p.version.ver p.lease.intent.n mid.ledger.fates ≡ Some Open
      by true owes =
          let lives = owed_lives h e.t p known.0.0.1 owes in
          let free = untouched e h mid.tries l p lives (has_room p known owes) e.what refl meant in
          stands_open (e ∷ h) e.t e.t mid.ledger p after now known.1 (still_owed e h p l known.0.0.0 owes free.0 free.1)
      by false ended =
          after.shows e.t p.version.ver p.lease.intent.n now
          ∙ ap (λ o. option_map kept (option_map standing (option_map (λ q. fate (e ∷ h) q e.t) o))) known.1
          ∙ ap (λ f. Some (kept (standing f))) (one_more e h p e.t e.t l now now known.0.0.1 ended)
          ∙ sym (s.ledger.shows e.t p.version.ver p.lease.intent.n le ∙ ap (λ o. option_map kept (option_map standing (option_map (λ q. fate h q e.t) o))) known.0.1)
          ∙ was

  open_goes : (v n : ℕ) → is_meant (touched_of h e.t e.what) mid.tries v ≡ false → standing_at v n old.ledger.fates ≡ Some Open → standing_at v n mid.ledger.fates ≡ Some Open
  open_goes v n meant was = by (pair_of h v n) refl
    where
      by : (o : Option Pair) → pair_of h v n ≡ o → standing_at v n mid.ledger.fates ≡ Some Open
      by None q = absurd (none_some (sym (s.ledger.shows e.t v n le ∙ ap (λ o. option_map kept (option_map standing (option_map (λ p. fate h p e.t) o))) q) ∙ was))
        where
          none_some : None ≡ Some Open → ⊥
          none_some k = cc
      by (Some p) q =
          let known = all_find Facts (λ p. (p.version.ver == v) && (p.lease.intent.n == n)) p (pairs h) facts q in
          let same = and_parts (p.version.ver == v) (p.lease.intent.n == n) known.1 in
          let ver : p.version.ver ≡ v = eqb-true p.version.ver v same.0 in
          let lease : p.lease.intent.n ≡ n = eqb-true p.lease.intent.n n same.1 in
          (λ j. standing_at (sym ver j) (sym lease j) mid.ledger.fates)
          ∙ stays_open p known.0 (ap (is_meant (touched_of h e.t e.what) mid.tries) ver ∙ meant) ((λ j. standing_at (ver j) (lease j) old.ledger.fates) ∙ was)

  -- a version that is past was so before, where the event doesn't touch it
  past_before : (v : ℕ) → is_meant (touched_of h e.t e.what) mid.tries v ≡ false → IsPast (e ∷ h) mid.ledger.fates v → IsPast h old.ledger.fates v
  past_before v meant past =
      record {
        low = past.low;
        superseded = by (is_latest h v) refl;
        closed = λ n k. past.closed n (open_goes v n meant k);
      }
    where
      by : (b : Bool) → is_latest h v ≡ b → b ≡ false
      by false q = refl
      by true q = absurd (false≢true (sym meant ∙ latest_goes h e.t v e.what mid.tries past.superseded q))

  -- a pair that the event makes stands open
  born_open : (v n : ℕ) → is_listed v n bears.births ≡ true → standing_at v n mid.ledger.fates ≡ Some Open
  born_open v n listed = by (pair_of (e ∷ h) v n) refl (bears.born.all v n ∙ ap (λ b. b || is_some (pair_of h v n)) listed)
    where
      test : Pair → Bool
      test p = (p.version.ver == v) && (p.lease.intent.n == n)

      new : List Pair
      new = births e.t e.what (confirmed_intent e.what h) (live h e.t) (owed h e.t)

      by : (o : Option Pair) → pair_of (e ∷ h) v n ≡ o → is_some o ≡ true → standing_at v n mid.ledger.fates ≡ Some Open
      by None q k = absurd (false≢true k)
      by (Some p) q k =
          let untried = (all_find (IsUntried e h) test p new (births_untried e.what e.serial e.t h l.0 (in_time h e l.1) (allowed h e l.1)) (sym (found_in_front test new (pairs h) (bears.born.fresh v n listed)) ∙ q)).0 in
          after.shows e.t v n now
          ∙ ap (λ o. option_map kept (option_map standing (option_map (λ p. fate (e ∷ h) p e.t) o))) q
          ∙ ap (λ s. Some (kept s)) (open_one (fate (e ∷ h) p e.t) untried.owed)

  -- where the rooms of past versions that are touched go, and no other pair gets one, past versions have none
  pub past_after :
      (rest : TryRows) → ((v n : ℕ) → is_meant (touched_of h e.t e.what) mid.tries v ≡ true → IsPast (e ∷ h) mid.ledger.fates v → tries_at v n rest ≡ None)
      → ((v n : ℕ) → tries_at v n mid.tries ≡ None → tries_at v n rest ≡ None)
      → (v n : ℕ) → IsPast (e ∷ h) mid.ledger.fates v → tries_at v n rest ≡ None
  past_after rest gone stay v n past = by (is_meant (touched_of h e.t e.what) mid.tries v) refl (is_listed v n bears.births) refl
    where
      by : (b : Bool) → is_meant (touched_of h e.t e.what) mid.tries v ≡ b → (c : Bool) → is_listed v n bears.births ≡ c → tries_at v n rest ≡ None
      by true q c r = gone v n q past
      by false q true r = absurd (past.closed n (born_open v n r))
      by false q false r = stay v n (bears.none v n r (s.past v n (past_before v q past)))
