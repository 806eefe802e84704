-- The rooms of pairs, over an event.
use Rattle.std.proofs.Common.{◌≡◌, ℕ, ◌≤◌, ◌<◌, Bool, true, false, cond, ◌&&◌, ◌||◌, List, [], ◌∷◌, ◌++◌, refl, ap, sym, ◌∙◌, subst, length}
use Rattle.std.specs.Prelude.{find, is_some, Option, Some, None, IfSome, IsSomeAnd, ◌==◌}
use Rattle.std.specs.List.{AllByRecursion, list_any}
use Rattle.std.specs.Option.{option_map}
use Rattle.std.proofs.lemmas.Bool.{and_parts, eqb-true, false≢true, or_right}
use Rattle.std.proofs.lemmas.List.{append-nil}
use Rattle.ws_model.specs.declared.event.Event.{Event}
use Rattle.ws_model.specs.declared.event.How.{How}
use Rattle.ws_model.specs.declared.event.What.{What}
use Rattle.ws_model.specs.declared.event.What.TheVariants.{Asked, Confirmed, Declined, Unheard, Barred, Noticed, Pinged, Fetched, Same, Unfetched, Pushed, Tally, Revoked}
use Rattle.ws_model.specs.Fate.{Pair, fate, is_owed}
use Rattle.ws_model.specs.History.{has}
use Rattle.ws_model.specs.Keep.{kept_leases, member}
use Rattle.ws_model.specs.Leases.{is_confirmed, live}
use Rattle.ws_model.specs.Legal.{Legal, is_allowed}
use Rattle.ws_model.specs.Pairs.{owed, pairs}
use Rattle.ws_model.specs.Verdict.{is_kept_version, pair_of}
use Rattle.ws_model.specs.Versions.{is_fetched, latest}
use Rattle.ws_laws.proofs.Ended.{IsToldPair, both_true, pairs_told}
use Rattle.ws_laws.proofs.Follow.{some_found}
use Rattle.ws_laws.proofs.Known.{IsKnown, allowed, pairs_known}
use Rattle.ws_laws.proofs.ListLaws.{all_filter_with, all_find, any_then}
use Rattle.ws_laws.proofs.Paired.{owed_lives, pairs_only}
use Rattle.ws_compaction.specs.Least.{IsLive}
use Rattle.ws_compaction.proofs.Dropped.{either_more, drops_lease, drops_lease_later, drops_version, drops_version_later}
use Rattle.ws_compaction.proofs.Least.{keeps_least}
use Rattle.ws_tries.specs.declared.room.Try.{Try}
use Rattle.ws_tries.specs.Rows.{Rows as TryRows, is_here, is_listed, tries_at}
use Rattle.ws_tries.specs.Stands.{Adds, HaveRooms, StandsFor as TriesStand, is_any_push, tried, tries_of}
use Rattle.ws_tries.proofs.Tried.{has_place, here_is, untried}
use Rattle.ws_ledger.specs.Births.{AreBirths}

none_is : {X : Type 0} (o : Option X) → is_some o ≡ false → o ≡ None
none_is None k = refl
none_is (Some x) k = absurd (cc)

-- ---- each kept pair has one

-- the version of a pair was fetched, and its lease confirmed
known_pair : (h : List Event) (v n : ℕ) → is_some (pair_of h v n) ≡ true → (has (is_fetched v) h ≡ true) × (has (is_confirmed n) h ≡ true)
known_pair h v n k = by (pair_of h v n) refl
  where
    by : (o : Option Pair) → pair_of h v n ≡ o → (has (is_fetched v) h ≡ true) × (has (is_confirmed n) h ≡ true)
    by None e = absurd (false≢true (sym (ap is_some e) ∙ k))
    by (Some p) e =
        let a = all_find (IsKnown h) (λ p. (p.version.ver == v) && (p.lease.intent.n == n)) p (pairs h) (pairs_known h) e in
        let q = and_parts (p.version.ver == v) (p.lease.intent.n == n) a.1 in
        (subst (λ z. has (is_fetched z) h ≡ true) (eqb-true p.version.ver v q.0) a.0.fetched, subst (λ z. has (is_confirmed z) h ≡ true) (eqb-true p.lease.intent.n n q.1) a.0.confirmed)

pub rooms_after :
    (e : Event) (h : List Event) (since : ℕ) (births : List (ℕ × ℕ)) (old new : TryRows) → Legal (e ∷ h) → since ≤ e.t → AreBirths e h births
    → ((v n : ℕ) → is_some (tries_at v n old) ≡ true → is_some (tries_at v n new) ≡ true)
    → ((v n : ℕ) → is_listed v n births ≡ true → is_some (tries_at v n new) ≡ true)
    → HaveRooms h since old → HaveRooms (e ∷ h) e.t new
rooms_after e h since births old new l le made stay born rooms v n kept_version kept_lease there = by (is_listed v n births) refl
  where
    by : (b : Bool) → is_listed v n births ≡ b → is_some (tries_at v n new) ≡ true
    by true q = born v n q
    by false q =
        let was : is_some (pair_of h v n) ≡ true = sym (made.all v n ∙ ap (λ b. b || is_some (pair_of h v n)) q) ∙ there in
        let known = known_pair h v n was in
        stay v n
        (rooms v n (drops_version_later h since e.t v le (drops_version h e v l known.0 kept_version)) (drops_lease_later h since e.t n l.0 le (drops_lease h e n l known.1 kept_lease)) was)

-- ---- no other pair has one

pub only_after :
    (e : Event) (h : List Event) (births : List (ℕ × ℕ)) (old new : TryRows) → AreBirths e h births
    → ((v n : ℕ) → is_listed v n births ≡ false → tries_at v n old ≡ None → tries_at v n new ≡ None)
    → ((v n : ℕ) → pair_of h v n ≡ None → tries_at v n old ≡ None) → (v n : ℕ) → pair_of (e ∷ h) v n ≡ None → tries_at v n new ≡ None
only_after e h births old new made stay only v n none = by (is_listed v n births) refl (is_some (pair_of h v n)) refl
  where
    nothing : (is_listed v n births || is_some (pair_of h v n)) ≡ false
    nothing = sym (made.all v n) ∙ ap is_some none

    by : (b : Bool) → is_listed v n births ≡ b → (c : Bool) → is_some (pair_of h v n) ≡ c → tries_at v n new ≡ None
    by true q c r = absurd (false≢true (sym nothing ∙ ap (λ b. b || is_some (pair_of h v n)) q))
    by false q true r = absurd (false≢true (sym nothing ∙ (λ j. q j || r j)))
    by false q false r = stay v n q (only v n (none_is (pair_of h v n) r))

-- ---- what is there is what the history has

nothing_tried : (v n : ℕ) (e : Event) (w : What) → is_any_push w ≡ false → tried v n e w ≡ []
nothing_tried v n e (Pushed w m how) k = absurd (cc)
nothing_tried v n e (Asked i) k = refl
nothing_tried v n e (Confirmed m sent) k = refl
nothing_tried v n e (Declined m code) k = refl
nothing_tried v n e (Unheard m) k = refl
nothing_tried v n e (Barred m reason) k = refl
nothing_tried v n e (Noticed m heard) k = refl
nothing_tried v n e (Pinged topic) k = refl
nothing_tried v n e (Fetched x) k = refl
nothing_tried v n e (Same topic upto) k = refl
nothing_tried v n e (Unfetched topic upto why) k = refl
nothing_tried v n e (Tally c) k = refl
nothing_tried v n e (Revoked m reason) k = refl

same_tries : (e : Event) (h : List Event) (v n : ℕ) → is_any_push e.what ≡ false → tries_of h v n ≡ tries_of (e ∷ h) v n
same_tries e h v n other = sym (append-nil (tries_of h v n)) ∙ ap (λ ts. tries_of h v n ++ ts) (sym (nothing_tried v n e e.what other))

-- rooms that are made for new pairs, by an event that is no push
pub tries_after :
    (e : Event) (h : List Event) (births : List (ℕ × ℕ)) (old new : TryRows) → Legal h → is_any_push e.what ≡ false → AreBirths e h births
    → ((v n : ℕ) → tries_at v n new ≡ cond (is_listed v n births) (Some []) (tries_at v n old)) → TriesStand h old → TriesStand (e ∷ h) new
tries_after e h births old new l other made look s v n =
    subst (λ ts. IfSome (tries_at v n new) (λ tries. tries ≡ ts)) (same_tries e h v n other)
    (subst (λ o. IfSome o (λ tries. tries ≡ tries_of h v n)) (sym (look v n)) (by (is_listed v n births) refl))
  where
    by : (b : Bool) → is_listed v n births ≡ b → IfSome (cond b (Some []) (tries_at v n old)) (λ tries. tries ≡ tries_of h v n)
    by true q = sym (untried h v n l (made.fresh v n q))
    by false q = s v n

-- ---- a push

-- what a look-up of the pair's room finds has the try behind the others
pub pushed_tries :
    (e : Event) (h : List Event) (v n : ℕ) (how : How) (old new : TryRows) → e.what ≡ Pushed v n how
    → Adds v n (record { serial = e.serial; t = e.t; how = how }) old new → TriesStand h old → TriesStand (e ∷ h) new
pushed_tries e h v n how old new kind adds s w m =
    subst (λ o. IfSome o (λ tries. tries ≡ tries_of (e ∷ h) w m)) (sym (adds w m))
    (subst (λ x. IfSome (cond (is_here v n w m) (option_map (λ tries. tries ++ made ∷ []) (tries_at v n old)) (tries_at w m old)) (λ tries. tries ≡ tries_of h w m ++ tried w m e x)) (sym kind) (by (is_here v n w m) refl))
  where
    made : Try
    made = record { serial = e.serial; t = e.t; how = how }

    longer : (o : Option (List Try)) → IfSome o (λ tries. tries ≡ tries_of h v n) → IfSome (option_map (λ tries. tries ++ made ∷ []) o) (λ tries. tries ≡ tries_of h v n ++ made ∷ [])
    longer None k = tt
    longer (Some ts) k = ap (λ tries. tries ++ made ∷ []) k

    by : (b : Bool) → is_here v n w m ≡ b → IfSome (cond b (option_map (λ tries. tries ++ made ∷ []) (tries_at v n old)) (tries_at w m old)) (λ tries. tries ≡ tries_of h w m ++ cond b (made ∷ []) [])
    by true q =
        let same = here_is v n w m q in
        subst (λ z. IfSome (option_map (λ tries. tries ++ made ∷ []) (tries_at v n old)) (λ tries. tries ≡ tries_of h z m ++ made ∷ [])) same.0
        (subst (λ z. IfSome (option_map (λ tries. tries ++ made ∷ []) (tries_at v n old)) (λ tries. tries ≡ tries_of h v z ++ made ∷ [])) same.1 (longer (tries_at v n old) (s v n)))
    by false q = subst (λ ts. IfSome (tries_at w m old) (λ tries. tries ≡ ts)) (sym (append-nil (tries_of h w m))) (s w m)

-- a room stays one
pub stays_there : (v n : ℕ) (made : Try) (old new : TryRows) → Adds v n made old new → (w m : ℕ) → is_some (tries_at w m old) ≡ true → is_some (tries_at w m new) ≡ true
stays_there v n made old new adds w m k = ap is_some (adds w m) ∙ by (is_here v n w m) refl
  where
    longer : (o : Option (List Try)) → is_some (option_map (λ tries. tries ++ made ∷ []) o) ≡ is_some o
    longer None = refl
    longer (Some ts) = refl

    by : (b : Bool) → is_here v n w m ≡ b → is_some (cond b (option_map (λ tries. tries ++ made ∷ []) (tries_at v n old)) (tries_at w m old)) ≡ true
    by true q = let same = here_is v n w m q in longer (tries_at v n old) ∙ (λ j. is_some (tries_at (same.0 j) (same.1 j) old)) ∙ k
    by false q = k

pub stays_absent : (v n : ℕ) (made : Try) (old new : TryRows) → Adds v n made old new → (w m : ℕ) → tries_at w m old ≡ None → tries_at w m new ≡ None
stays_absent v n made old new adds w m k = adds w m ∙ by (is_here v n w m) refl
  where
    by : (b : Bool) → is_here v n w m ≡ b → cond b (option_map (λ tries. tries ++ made ∷ []) (tries_at v n old)) (tries_at w m old) ≡ None
    by true q = let same = here_is v n w m q in ap (option_map (λ tries. tries ++ made ∷ [])) ((λ j. tries_at (same.0 j) (same.1 j) old) ∙ k)
    by false q = k

-- ---- the pair of a push has a room with a place

-- the owed pairs of a history, each with what is known of it
abbrev IsOwedPair : List Event → ℕ → Pair → Type 0
IsOwedPair h t p = ((IsToldPair h p) × (pair_of h p.version.ver p.lease.intent.n ≡ Some p)) × (is_owed (fate h p t) ≡ true)

owed_known : (h : List Event) (t : ℕ) → Legal h → AllByRecursion (IsOwedPair h t) (owed h t)
owed_known h t l =
    all_filter_with (λ p. IsToldPair h p × (pair_of h p.version.ver p.lease.intent.n ≡ Some p)) (λ p. is_owed (fate h p t)) (pairs h)
    (both_true (IsToldPair h) (λ p. pair_of h p.version.ver p.lease.intent.n ≡ Some p) (pairs h) (pairs_told h l) (pairs_only h l))

same_numbers : (v n : ℕ) (p : Pair) → ((p.version.ver == v) && (p.lease.intent.n == n)) ≡ true → (p.version.ver ≡ v) × (p.lease.intent.n ≡ n)
same_numbers v n p k = let q = and_parts (p.version.ver == v) (p.lease.intent.n == n) k in (eqb-true p.version.ver v q.0, eqb-true p.lease.intent.n n q.1)

-- it is of a kept version and a kept lease
pub owed_pair : (h : List Event) (t v n : ℕ) → Legal h → list_any (λ p. (p.version.ver == v) && (p.lease.intent.n == n)) (owed h t) ≡ true
    → (is_some (pair_of h v n) ≡ true) × ((is_kept_version h t v ≡ true) × (member n (kept_leases h t) ≡ true))
owed_pair h t v n l k =
    any_then (IsOwedPair h t) (λ p. (p.version.ver == v) && (p.lease.intent.n == n)) ((is_some (pair_of h v n) ≡ true) × ((is_kept_version h t v ≡ true) × (member n (kept_leases h t) ≡ true)))
    (λ p known k.
    let same = same_numbers v n p k in
    let lives = owed_lives h t p known.0.0 known.1 in (
      (λ j. is_some (pair_of h (sym same.0 j) (sym same.1 j))) ∙ ap is_some known.0.1,
      (or_right (list_any (λ w. w.ver == v) (latest h)) _ (any_first v n (owed h t) k_all), (keeps_least h t n l).0 (IsLive n (sym (some_found (λ l. l.intent.n == n) (live h t)) ∙ (λ j. is_some (find (λ l. l.intent.n == sym same.1 j) (live h t))) ∙ ap is_some lives))),
    )) (owed h t) (owed_known h t l) k
  where
    k_all : list_any (λ p. (p.version.ver == v) && (p.lease.intent.n == n)) (owed h t) ≡ true
    k_all = k

    any_first : (v n : ℕ) (ps : List Pair) → list_any (λ p. (p.version.ver == v) && (p.lease.intent.n == n)) ps ≡ true → list_any (λ p. p.version.ver == v) ps ≡ true
    any_first v n [] k = k
    any_first v n (p ∷ ps) k = either_more ((p.version.ver == v) && (p.lease.intent.n == n)) (list_any (λ p. (p.version.ver == v) && (p.lease.intent.n == n)) ps) (p.version.ver == v) (list_any (λ p. p.version.ver == v) ps) (λ q. (and_parts (p.version.ver == v) (p.lease.intent.n == n) q).0) (any_first v n ps) k

pub has_room :
    (e : Event) (h : List Event) (since v n : ℕ) (how : How) (rows : TryRows) → Legal (e ∷ h) → since ≤ e.t → e.what ≡ Pushed v n how → HaveRooms h since rows → TriesStand h rows
    → IsSomeAnd (tries_at v n rows) (λ tries. length tries < 8)
has_room e h since v n how rows l le kind rooms s =
    let there = owed_pair h e.t v n l.0 (subst (λ w. is_allowed w e.t h ≡ true) kind (allowed h e l.1)) in
    some_and (tries_at v n rows) (rooms v n (drops_version_later h since e.t v le there.1.0) (drops_lease_later h since e.t n l.0 le there.1.1) there.0) (has_place h e v n how rows l kind s)
  where
    some_and : (o : Option (List Try)) → is_some o ≡ true → IfSome o (λ tries. length tries < 8) → IsSomeAnd o (λ tries. length tries < 8)
    some_and None k p = absurd (cc)
    some_and (Some ts) k p = p
