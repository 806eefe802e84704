-- Owed pairs of a history: they stand open, and those of a live lease are its open ones.
use Rattle.std.proofs.Common.{◌≡◌, ℕ, suc, ◌+◌, ◌≤◌, Bool, true, false, not, cond, ◌&&◌, ◌||◌, List, [], ◌∷◌, refl, ap, sym, ◌∙◌, length, arith}
use Rattle.std.specs.Prelude.{nat_le, is_some, ◌==◌, Option, Some, None, IfSome, filter, find}
use Rattle.std.specs.List.{AllByRecursion, IsDistinct, list_any}
use Rattle.std.specs.Option.{option_map}
use Rattle.std.proofs.lemmas.Bool.{eqb-true, false≢true}
use Rattle.std.proofs.lemmas.Bool.Decides.{nat_tests}
use Rattle.std.proofs.lemmas.List.{length-map}
use Rattle.ws_model.specs.declared.event.Event.{Event}
use Rattle.ws_model.specs.declared.event.Intent.{Intent}
use Rattle.ws_model.specs.declared.event.What.{What}
use Rattle.ws_model.specs.declared.fate.Cause.{Cause}
use Rattle.ws_model.specs.declared.fate.Cause.TheVariants.{Spent}
use Rattle.ws_model.specs.declared.fate.Fate.TheVariants.{Owed, Ended as HasEnded}
use Rattle.ws_model.specs.Fate.{delay, fate_by, is_done, is_push}
use Rattle.ws_model.specs.Leases.{end_by}
use Rattle.ws_model.specs.Legal.{Legal}
use Rattle.ws_model.specs.Pairs.{owed}
use Rattle.ws_model.specs.View.{OwedPush, owed_push}
use Rattle.ws_laws.specs.Steps.{is_missed, turn}
use Rattle.ws_laws.proofs.Follow.{some_found}
use Rattle.ws_laws.proofs.ListLaws.{all_weaker}
use Rattle.ws_delivery.specs.OpenOf.{open_versions}
use Rattle.ws_delivery.specs.Stands.{StandsFor as DeliveriesStand, shown}
use Rattle.ws_delivery.specs.Table.{Rows as DeliveryRows, owed_at, pair_at}
use Rattle.ws_delivery.proofs.OpenVersions.{member_open}
use Rattle.ws_fate.specs.declared.totals.Standing.TheVariants.{Open, Ended}
use Rattle.ws_fate.specs.Rows.{standing_at}
use Rattle.ws_fate.specs.Stands.{is_pair}
use Rattle.ws_fate.specs.Totals.{standing}
use Rattle.ws_core_tables.specs.Stands.{is_number}
use Rattle.ws_core_tables.proofs.Stepped.{pushes}
use Rattle.ws_ledger.specs.Pairs.{AreApart, is_listed, open_pairs_of, with_lease}
use Rattle.ws_ledger.specs.Rows.{Rows}
use Rattle.ws_ledger.specs.Stands.{StandsFor, kept}
use Rattle.ws_ledger.proofs.Ending.{number_listed}
use Rattle.ws_ledger.proofs.Going.{found_open, parted}

-- ---- each is among them

own : (v n : ℕ) → ((v == v) && (n == n)) ≡ true
own v n = grind (arith, nat_tests)

or_right : (b c : Bool) → c ≡ true → (b || c) ≡ true
or_right true c k = refl
or_right false c k = k

pub all_there : (xs : List OwedPush) → AllByRecursion (λ x. list_any (is_pair x.version.ver x.lease.intent.n) xs ≡ true) xs
all_there [] = tt
all_there (x ∷ xs) = (
  ap (λ b. b || list_any (is_pair x.version.ver x.lease.intent.n) xs) (own x.version.ver x.lease.intent.n),
  all_weaker (λ y. list_any (is_pair y.version.ver y.lease.intent.n) xs ≡ true) (λ y. list_any (is_pair y.version.ver y.lease.intent.n) (x ∷ xs) ≡ true) (λ y k. or_right (is_pair y.version.ver y.lease.intent.n x) _ k) xs (all_there xs),
)

-- ---- they stand open

pub owed_open : (h : List Event) (since t v n : ℕ) (rows : Rows) → StandsFor h since rows → Legal h → since ≤ t → list_any (is_pair v n) (pushes h t) ≡ true → standing_at v n rows.fates ≡ Some Open
owed_open h since t v n rows s l le k = by (find (is_pair v n) (pushes h t)) refl
  where
    by : (o : Option OwedPush) → find (is_pair v n) (pushes h t) ≡ o → standing_at v n rows.fates ≡ Some Open
    by None m = absurd (false≢true (sym (ap is_some m) ∙ some_found (is_pair v n) (pushes h t) ∙ k))
    by (Some x) m = s.shows t v n le ∙ ap (option_map kept) (found_open h t v n x l m)

some_of : (a b c d m : ℕ) → a + b ≡ c → c ≡ d → d ≤ m → a ≤ m
some_of a b c d m p q r = omega arith

-- and are no more than stand open
pub enough_open : (h : List Event) (since t : ℕ) (rows : Rows) (ends : List (ℕ × ℕ)) → StandsFor h since rows → Legal h → since ≤ t → AreApart ends → ((v n : ℕ) → is_listed v n ends ≡ true → list_any (is_pair v n) (pushes h t) ≡ true) → length ends ≤ rows.open_pairs
enough_open h since t rows ends s l le apart there =
    let fewer = some_of (length (filter (λ x. is_listed x.version.ver x.lease.intent.n ends) (pushes h t))) (length (filter (λ x. not (is_listed x.version.ver x.lease.intent.n ends)) (pushes h t))) (length (pushes h t)) (length (owed h t)) rows.open_pairs
    (parted (λ x. is_listed x.version.ver x.lease.intent.n ends) (pushes h t)) (length-map (owed h t) (owed_push h)) (s.enough t le) in
    let same = number_listed h t ends l apart there in
    at_most (length (filter (λ x. is_listed x.version.ver x.lease.intent.n ends) (pushes h t))) (length ends) rows.open_pairs same fewer
  where
    at_most : (a b m : ℕ) → a ≡ b → a ≤ m → b ≤ m
    at_most a b m p q = omega arith

-- ---- those of a lease

pub listed_with : (v m n : ℕ) (versions : List ℕ) → is_listed v m (with_lease n versions) ≡ ((n == m) && list_any (λ w. w == v) versions)
listed_with v m n [] = by (n == m)
  where
    by : (b : Bool) → false ≡ (b && false)
    by true = refl
    by false = refl
listed_with v m n (w ∷ versions) = ap (λ b. ((w == v) && (n == m)) || b) (listed_with v m n versions) ∙ by (w == v) (n == m) (list_any (λ w. w == v) versions)
  where
    by : (a b c : Bool) → ((a && b) || (b && c)) ≡ (b && (a || c))
    by true true c = refl
    by true false c = refl
    by false true c = refl
    by false false c = refl

pub apart_with : (n : ℕ) (versions : List ℕ) → IsDistinct (λ x y. x == y) versions → AreApart (with_lease n versions)
unfolding IsDistinct
apart_with n [] d = tt
apart_with n (w ∷ versions) d = (listed_with w n n versions ∙ ap (λ b. (n == n) && b) (others versions d.0) ∙ by (n == n), apart_with n versions d.1)
  where
    turned : (a b : ℕ) → (a == b) ≡ false → (b == a) ≡ false
    turned a b k = grind (arith, nat_tests)

    others : (us : List ℕ) → AllByRecursion (λ u. (w == u) ≡ false) us → list_any (λ u. u == w) us ≡ false
    others [] a = refl
    others (u ∷ us) a = ap (λ b. b || list_any (λ u. u == w) us) (turned w u a.0) ∙ others us a.1

    by : (b : Bool) → (b && false) ≡ false
    by true = refl
    by false = refl

pub some-map : {X Y : Type 0} (f : X → Y) (o : Option X) → is_some (option_map f o) ≡ is_some o
some-map f None = refl
some-map f (Some x) = refl

-- the open pairs of a lease whose open pairs are all owed
pub listed_open :
    (h : List Event) (since t : ℕ) (o : Option ℕ) (rows : DeliveryRows) → DeliveriesStand h since rows → since ≤ t → ((v : ℕ) → IfSome o (λ n. owed_at t v n rows ≡ pair_at v n rows))
    → (v m : ℕ) → is_listed v m (open_pairs_of o rows) ≡ (is_number o m && list_any (is_pair v m) (pushes h t))
listed_open h since t None rows s le whole v m = refl
listed_open h since t (Some n) rows s le whole v m =
    listed_with v m n (open_versions n rows)
    ∙ ap (λ b. (n == m) && b) (member_open v n rows ∙ ap is_some (sym (whole v) ∙ s.shows t v n le) ∙ some-map shown (find (is_pair v n) (pushes h t)) ∙ some_found (is_pair v n) (pushes h t))
    ∙ by (n == m) refl
  where
    by : (b : Bool) → (n == m) ≡ b → ((n == m) && list_any (is_pair v n) (pushes h t)) ≡ ((n == m) && list_any (is_pair v m) (pushes h t))
    by true k = ap (λ z. (n == m) && list_any (is_pair v z) (pushes h t)) (eqb-true n m k)
    by false k = ap (λ b. b && list_any (is_pair v n) (pushes h t)) k ∙ sym (ap (λ b. b && list_any (is_pair v m) (pushes h t)) k)

-- an owed pair is one of them exactly where it is of the lease
pub listed_lease :
    (h : List Event) (t : ℕ) (o : Option ℕ) (ends : List (ℕ × ℕ)) → ((v m : ℕ) → is_listed v m ends ≡ (is_number o m && list_any (is_pair v m) (pushes h t)))
    → AllByRecursion (λ x. is_listed x.version.ver x.lease.intent.n ends ≡ is_number o x.lease.intent.n) (pushes h t)
listed_lease h t o ends listed =
    all_weaker (λ x. list_any (is_pair x.version.ver x.lease.intent.n) (pushes h t) ≡ true) (λ x. is_listed x.version.ver x.lease.intent.n ends ≡ is_number o x.lease.intent.n)
    (λ x k. listed x.version.ver x.lease.intent.n ∙ ap (λ b. is_number o x.lease.intent.n && b) k ∙ by (is_number o x.lease.intent.n)) (pushes h t) (all_there (pushes h t))
  where
    by : (b : Bool) → (b && true) ≡ b
    by true = refl
    by false = refl

-- ---- what an event turns an owed pair into

pub still_owed : (tries next : ℕ) → nat_le 8 tries ≡ false → standing (fate_by false tries None next) ≡ Open
still_owed tries next k = ap (λ b. standing (cond b (HasEnded Spent) (Owed tries next))) k

-- an event that ends leases
pub turned_cause :
    (t : ℕ) (w : What) (i : Option Intent) (x : OwedPush) (c : Cause) (b : Bool) → is_push is_done x.version.ver x.lease.intent.n w ≡ false → is_missed w x ≡ false → end_by w i x.lease ≡ cond b (Some c) None → nat_le 8 x.tries ≡ false
    → standing (turn t w i x) ≡ cond b (Ended c) Open
turned_cause t w i x c b p q r k =
    (λ j. standing (fate_by (p j) (cond (q j) (suc x.tries) x.tries) (r j) (cond (q j) (t + delay (suc x.tries)) x.next))) ∙ by b
  where
    by : (b : Bool) → standing (fate_by false x.tries (cond b (Some c) None) x.next) ≡ cond b (Ended c) Open
    by true = ap (λ z. standing (cond z (HasEnded Spent) (HasEnded c))) k
    by false = still_owed x.tries x.next k
