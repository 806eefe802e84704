-- The intent of due work is in use.
use Rattle.std.proofs.Common.{◌≡◌, ℕ, ◌≤◌, Bool, true, false, cond, not, ◌&&◌, List, [], ◌∷◌, ◌++◌, refl, ap, sym, ◌∙◌, arith}
use Rattle.std.specs.Prelude.{Option, Some, None, IfSome, is_some, find, filter, nat_le, nat_lt, ◌==◌}
use Rattle.std.specs.List.{AllByRecursion, list_any}
use Rattle.std.specs.Option.{option_map, option_or}
use Rattle.std.proofs.lemmas.Bool.{false≢true}
use Rattle.std.proofs.lemmas.Bool.Decides.{nat_tests}
use Rattle.ws_model.specs.declared.event.Event.{Event}
use Rattle.ws_model.specs.declared.event.Intent.{Intent}
use Rattle.ws_model.specs.declared.lease.Lease.{Lease}
use Rattle.ws_model.specs.declared.work.Work.{Work}
use Rattle.ws_model.specs.declared.work.Work.TheVariants.{Verify, Notice, Fetch, Push}
use Rattle.ws_model.specs.Due.{by_next, by_number, by_topic, due, due_fetches, due_notices, due_pairs, due_pushes, due_verifications, in_order, is_behind, is_out, place}
use Rattle.ws_model.specs.Fate.{Pair, fate, is_owed, next}
use Rattle.ws_model.specs.Intents.{is_first, notices, pending}
use Rattle.ws_model.specs.Leases.{expiry, live}
use Rattle.ws_model.specs.Legal.{Legal, pending_of}
use Rattle.ws_model.specs.Moment.{serial, time}
use Rattle.ws_model.specs.Pairs.{owed, pairs}
use Rattle.ws_model.specs.Versions.{Ping, fetches}
use Rattle.ws_laws.proofs.Advance.{live_later}
use Rattle.ws_laws.proofs.Ended.{IsToldPair, is_numbered, pairs_told}
use Rattle.ws_laws.proofs.Follow.{any_of_filter, some_found}
use Rattle.ws_laws.proofs.ListLaws.{all_append, all_filter, all_filter_with, all_from, all_map, all_weaker}
use Rattle.ws_laws.proofs.Paired.{owed_lives}
use Rattle.ws_core_tables.specs.Stands.{first_of}
use Rattle.ws_ledger.specs.InUse.{DueHasIntent, HasIntent, intent_in_use}

-- ---- putting in order keeps what holds of all

all_place : {X : Type 0} (P : X → Type 0) (before : X → X → Bool) (x : X) (ys : List X) → P x → AllByRecursion P ys → AllByRecursion P (place before x ys)
all_place P before x [] k a = (k, tt)
all_place P before x (y ∷ ys) k a = one (before x y) (all_place P before x ys k a.1)
  where
    one : (b : Bool) → AllByRecursion P (place before x ys) → AllByRecursion P (cond b (x ∷ y ∷ ys) (y ∷ place before x ys))
    one true r = (k, a)
    one false r = (a.0, r)

all_in_order : {X : Type 0} (P : X → Type 0) (before : X → X → Bool) (xs : List X) → AllByRecursion P xs → AllByRecursion P (in_order before xs)
all_in_order P before [] a = tt
all_in_order P before (x ∷ xs) a = all_place P before x (in_order before xs) a.0 (all_in_order P before xs a.1)

-- ---- what is found

own_number : (n : ℕ) → (n == n) ≡ true
own_number n = grind (arith, nat_tests)

-- each of some intents is found by its number
found_by_own : (is : List Intent) → AllByRecursion (λ (i : Intent). is_some (find (λ j. j.n == i.n) is) ≡ true) is
found_by_own [] = tt
found_by_own (i ∷ is) = (
  ap (λ b. is_some (cond b (Some i) (find (λ j. j.n == i.n) is))) (own_number i.n),
  all_weaker (λ (x : Intent). is_some (find (λ j. j.n == x.n) is) ≡ true) (λ (x : Intent). is_some (find (λ j. j.n == x.n) (i ∷ is)) ≡ true) (λ x k. still (i.n == x.n) i (find (λ j. j.n == x.n) is) k) is (found_by_own is),
)
  where
    still : (b : Bool) (i : Intent) (o : Option Intent) → is_some o ≡ true → is_some (cond b (Some i) o) ≡ true
    still true i o k = refl
    still false i o k = k

of_first : (a b : Option Intent) → is_some a ≡ true → is_some (option_or a b) ≡ true
of_first None b k = absurd (false≢true k)
of_first (Some i) b k = refl

of_second : (a b : Option Intent) → is_some b ≡ true → is_some (option_or a b) ≡ true
of_second None b k = k
of_second (Some i) b k = refl

intent_of : (o : Option Lease) → is_some o ≡ true → is_some (option_map (λ (l : Lease). l.intent) o) ≡ true
intent_of None k = k
intent_of (Some l) k = refl

module _ (h : List Event) (t : ℕ) (legal : Legal h) (le : time h ≤ t) where
  pending_there : AllByRecursion (λ (i : Intent). is_some (intent_in_use h i.n) ≡ true) (pending h)
  pending_there = all_weaker (λ (i : Intent). is_some (pending_of h i.n) ≡ true) (λ (i : Intent). is_some (intent_in_use h i.n) ≡ true) (λ i k. of_first (pending_of h i.n) _ k) (pending h) (found_by_own (pending h))

  noticed_there : AllByRecursion (λ (i : Intent). is_some (intent_in_use h i.n) ≡ true) (notices h)
  noticed_there =
      all_weaker (λ (i : Intent). is_some (find (λ j. j.n == i.n) (notices h)) ≡ true) (λ (i : Intent). is_some (intent_in_use h i.n) ≡ true)
      (λ i k. of_second (pending_of h i.n) _ (of_first (find (λ j. j.n == i.n) (notices h)) _ k)) (notices h) (found_by_own (notices h))

  leased_there : (n : ℕ) (l : Lease) → find (is_numbered n) (live h t) ≡ Some l → is_some (intent_in_use h n) ≡ true
  leased_there n l k =
      of_second (pending_of h n) _ (of_second (find (λ i. i.n == n) (notices h)) _
      (intent_of (find (is_numbered n) (live h (time h)))
      (some_found (is_numbered n) (live h (time h))
      ∙ any_of_filter (is_numbered n) (λ l. nat_lt t (expiry l)) (live h (time h)) (ap (list_any (is_numbered n)) (sym (live_later h (time h) t le)) ∙ sym (some_found (is_numbered n) (live h t)) ∙ ap is_some k))))

  owed_there : AllByRecursion (λ (p : Pair). is_some (intent_in_use h p.lease.intent.n) ≡ true) (owed h t)
  owed_there =
      all_weaker (λ p. IsToldPair h p × (is_owed (fate h p t) ≡ true)) (λ (p : Pair). is_some (intent_in_use h p.lease.intent.n) ≡ true)
      (λ p k. leased_there p.lease.intent.n p.lease (owed_lives h t p k.0 k.1)) (owed h t)
      (all_filter_with (IsToldPair h) (λ p. is_owed (fate h p t)) (pairs h) (pairs_told h legal))

  all_have : AllByRecursion (HasIntent h) (((due_verifications h ++ due_notices h) ++ due_fetches h) ++ due_pushes h t)
  all_have =
      all_append (HasIntent h) ((due_verifications h ++ due_notices h) ++ due_fetches h) (due_pushes h t)
      (all_append (HasIntent h) (due_verifications h ++ due_notices h) (due_fetches h)
      (all_append (HasIntent h) (due_verifications h) (due_notices h)
      (all_map (HasIntent h) (λ (i : Intent). Verify i.n) (in_order by_number (filter (is_first h) (pending h)))
      (all_in_order (λ (i : Intent). is_some (intent_in_use h i.n) ≡ true) by_number (filter (is_first h) (pending h))
      (all_filter (λ (i : Intent). is_some (intent_in_use h i.n) ≡ true) (is_first h) (pending h) pending_there)))
      (all_map (HasIntent h) (λ (i : Intent). Notice i.n) (in_order by_number (notices h))
      (all_in_order (λ (i : Intent). is_some (intent_in_use h i.n) ≡ true) by_number (notices h) noticed_there)))
      (all_map (HasIntent h) (λ (p : Ping). Fetch p.topic (serial h)) (in_order by_topic (fetches h)) (all_from (λ _. Unit {0}) (λ _. tt) (in_order by_topic (fetches h)))))
      (all_map (HasIntent h) (λ (p : Pair). Push p.version.ver p.lease.intent.n) (in_order (by_next h) (due_pairs h t))
      (all_in_order (λ (p : Pair). is_some (intent_in_use h p.lease.intent.n) ≡ true) (by_next h) (due_pairs h t)
      (all_filter (λ (p : Pair). is_some (intent_in_use h p.lease.intent.n) ≡ true) (λ p. nat_le (next h p) t && not (is_behind (owed h t) p)) (owed h t) owed_there)))

first_has : (h : List Event) (ws : List Work) → AllByRecursion (HasIntent h) ws → IfSome (first_of ws) (HasIntent h)
first_has h [] a = tt
first_has h (w ∷ ws) a = a.0

pub due_has_intent : DueHasIntent
due_has_intent h t held legal le =
    first_has h (due h t held)
    (all_filter (HasIntent h) (λ w. not (is_out held w)) (((due_verifications h ++ due_notices h) ++ due_fetches h) ++ due_pushes h t) (all_have h t legal le))
