-- The table and the history.
use Rattle.std.proofs.Common.{◌≡◌, ℕ, ◌≤◌, Bool, true, false, cond, ◌&&◌, List, [], ◌∷◌, refl, ap, sym, ◌∙◌, arith}
use Rattle.std.specs.Prelude.{nat_lt, max, Option, Some, None, filter, find, map, ◌==◌}
use Rattle.std.specs.List.{AllByRecursion}
use Rattle.std.specs.Option.{option_map}
use Rattle.std.proofs.lemmas.Bool.{false≢true}
use Rattle.std.proofs.lemmas.Bool.Decides.{nat_tests}
use Rattle.ws_model.specs.declared.event.Event.{Event}
use Rattle.ws_model.specs.declared.event.What.{What}
use Rattle.ws_model.specs.declared.event.What.TheVariants.{Asked, Confirmed, Declined, Unheard, Barred, Noticed, Pinged, Fetched, Same, Unfetched, Pushed, Tally, Revoked}
use Rattle.ws_model.specs.Moment.{last_time}
use Rattle.ws_model.specs.Leases.{expiry, confirmed_intent}
use Rattle.ws_model.specs.Fate.{Pair, fate, is_owed}
use Rattle.ws_model.specs.Pairs.{owed, pairs}
use Rattle.ws_model.specs.Legal.{Legal}
use Rattle.ws_model.specs.View.{OwedPush, owed_push, view}
use Rattle.ws_laws.specs.Steps.{owed_after, after_miss, stays_owed}
use Rattle.ws_laws.proofs.Advance.{owing_later}
use Rattle.ws_laws.proofs.Known.{in_time}
use Rattle.ws_laws.proofs.ListLaws.{all_map, all_weaker, all_filter}
use Rattle.ws_laws.proofs.Paired.{AreUnlike, unlike_filter, same_numbers, pairs_apart}
use Rattle.ws_laws.proofs.Step.{owed_step}
use Rattle.ws_delivery.specs.declared.open_pair.OpenPair.{OpenPair}
use Rattle.ws_delivery.specs.Table.{Rows, pair_at, owed_at, unexpired}
use Rattle.ws_delivery.specs.Stands.{StandsEmpty, StandsLater, StandsAfter, StandsOn, shown, shown_of, is_pair, is_quiet}

-- ---- owed pairs have numbers of their own

abbrev pub same_push : OwedPush → OwedPush → Bool
same_push w x = (w.version.ver == x.version.ver) && (w.lease.intent.n == x.lease.intent.n)

unlike_map : (h : List Event) (ps : List Pair) → AreUnlike same_numbers ps → AreUnlike same_push (map (owed_push h) ps)
unlike_map h [] a = tt
unlike_map h (p ∷ ps) a = (all_map (λ w. same_push (owed_push h p) w ≡ false) (owed_push h) ps a.0, unlike_map h ps a.1)

pub owed_apart : (h : List Event) (t : ℕ) → Legal h → AreUnlike same_push (map (owed_push h) (owed h t))
owed_apart h t l = unlike_map h (owed h t) (unlike_filter same_numbers (λ p. is_owed (fate h p t)) (pairs h) (pairs_apart h l))

abbrev pub when : {X : Type 0} → (X → Bool) → Option X → Option X
when q None = None
when q (Some x) = cond (q x) (Some x) None

find_none : {X : Type 0} (p : X → Bool) (xs : List X) → AllByRecursion (λ x. p x ≡ false) xs → find p xs ≡ None
find_none p [] a = refl
find_none p (x ∷ xs) a = rw a.0 (find_none p xs a.1)

other_pair : (v n : ℕ) (w x : OwedPush) → is_pair v n w ≡ true → same_push w x ≡ false → is_pair v n x ≡ false
other_pair v n w x p q = by w.version.ver w.lease.intent.n x.version.ver x.lease.intent.n p q
  where
    by : (a b c d : ℕ) → ((a == v) && (b == n)) ≡ true → ((a == c) && (b == d)) ≡ false → ((c == v) && (d == n)) ≡ false
    by a b c d p q = grind (arith, nat_tests)

-- what is found in a filter is what is found, where it passes
pub find_where : (q : OwedPush → Bool) (v n : ℕ) (ws : List OwedPush) → AreUnlike same_push ws → find (is_pair v n) (filter q ws) ≡ when q (find (is_pair v n) ws)
find_where q v n [] a = refl
find_where q v n (w ∷ ws) a = one (q w) refl (is_pair v n w) refl (find_where q v n ws a.1)
  where
    one : (b : Bool) → q w ≡ b → (c : Bool) → is_pair v n w ≡ c → find (is_pair v n) (filter q ws) ≡ when q (find (is_pair v n) ws) → find (is_pair v n) (cond b (w ∷ filter q ws) (filter q ws)) ≡ when q (cond c (Some w) (find (is_pair v n) ws))
    one true r true s f = rw (s, r)
    one true r false s f = rw s f
    one false r true s f = rw r (find_none (is_pair v n) (filter q ws) (all_filter (λ x. is_pair v n x ≡ false) q ws (all_weaker (λ x. same_push w x ≡ false) (λ x. is_pair v n x ≡ false) (λ x k. other_pair v n w x s k) ws a.0)))
    one false r false s f = f

-- ---- a later moment

later_test : (t u x : ℕ) → t ≤ u → (nat_lt t x && nat_lt u x) ≡ nat_lt u x
later_test t u x l = grind (arith, nat_tests)

-- the table at a later moment
rows_later : (t u : ℕ) (o : Option OpenPair) → t ≤ u → unexpired u o ≡ when (λ p. nat_lt u p.exp) (unexpired t o)
rows_later t u None l = refl
rows_later t u (Some p) l = by (nat_lt t p.exp) refl (nat_lt u p.exp) refl
  where
    by : (b : Bool) → nat_lt t p.exp ≡ b → (c : Bool) → nat_lt u p.exp ≡ c → unexpired u (Some p) ≡ when (λ p. nat_lt u p.exp) (cond b (Some p) None)
    by true k c m = refl
    by false k false m = ap (λ z. cond z (Some p) None) m
    by false k true m = absurd (false≢true (sym (ap (λ z. z && nat_lt u p.exp) k) ∙ later_test t u p.exp l ∙ m))

shown_where : (u : ℕ) (o : Option OwedPush) → when (λ p. nat_lt u p.exp) (option_map shown o) ≡ option_map shown (when (λ w. nat_lt u (expiry w.lease)) o)
shown_where u None = refl
shown_where u (Some w) = by (nat_lt u (expiry w.lease))
  where
    by : (b : Bool) → cond b (Some (shown w)) None ≡ option_map shown (cond b (Some w) None)
    by true = refl
    by false = refl

history_later : (h : List Event) (t u v n : ℕ) → Legal h → t ≤ u → shown_of v n (map (owed_push h) (owed h u)) ≡ when (λ p. nat_lt u p.exp) (shown_of v n (map (owed_push h) (owed h t)))
history_later h t u v n l k =
    ap (shown_of v n) (owing_later h t u k)
    ∙ ap (option_map shown) (find_where (λ w. nat_lt u (expiry w.lease)) v n (map (owed_push h) (owed h t)) (owed_apart h t l))
    ∙ sym (shown_where u (find (is_pair v n) (map (owed_push h) (owed h t))))

-- a table that shows what is owed at one moment shows what is owed at each later one
pub shows_later : (h : List Event) (t u : ℕ) (rows : Rows) → Legal h → ((v n : ℕ) → owed_at t v n rows ≡ shown_of v n (map (owed_push h) (owed h t))) → t ≤ u → (v n : ℕ) → owed_at u v n rows ≡ shown_of v n (map (owed_push h) (owed h u))
shows_later h t u rows l f k v n = rows_later t u (pair_at v n rows) k ∙ ap (when (λ p. nat_lt u p.exp)) (f v n) ∙ sym (history_later h t u v n l k)

-- ---- the laws

pub stands_empty : StandsEmpty
stands_empty = record { begun = omega arith; shows = λ t v n k. refl }

pub stands_later : StandsLater
stands_later h t u rows s k = record { begun = let b = s.begun in omega arith; shows = λ w v n m. s.shows w v n (omega arith) }

greatest : (a b : ℕ) → b ≤ a → max a b ≤ a
greatest a b k = omega arith

pub stands_after : StandsAfter
stands_after h e rows l f =
    let before : last_time h ≤ e.t = in_time h e l.1 in
    record {
      begun = greatest e.t (last_time h) before;
      shows = λ t v n k. shows_later (e ∷ h) e.t t rows l (λ w m. f w m ∙ ap (shown_of w m) (sym (owed_step e h l.0 l.1))) k v n;
    }

and_end : (b : Bool) → (b && true) ≡ b
and_end true = refl
and_end false = refl

-- an event of another kind changes no owed pair
quiet : (t : ℕ) (w : What) (h : List Event) → is_quiet w ≡ true → owed_after t w (confirmed_intent w h) (view h t) ≡ map (owed_push h) (owed h t)
quiet t w h k = no_new w k ∙ by w k (map (owed_push h) (owed h t))
  where
    everything : (ws : List OwedPush) → filter (λ x. true) ws ≡ ws
    everything [] = refl
    everything (x ∷ ws) = ap (λ z. x ∷ z) (everything ws)

    itself : (ws : List OwedPush) → map (λ (x : OwedPush). record { version = x.version; lease = x.lease; tries = x.tries; next = x.next }) ws ≡ ws
    itself [] = refl
    itself (x ∷ ws) = ap (λ z. x ∷ z) (itself ws)

    same : (ws : List OwedPush) → map (λ (x : OwedPush). record { version = x.version; lease = x.lease; tries = x.tries; next = x.next }) (filter (λ x. true) ws) ≡ ws
    same ws = itself (filter (λ x. true) ws) ∙ everything ws

    no_new : (w : What) → is_quiet w ≡ true → owed_after t w (confirmed_intent w h) (view h t) ≡ map (after_miss t w) (filter (stays_owed w (confirmed_intent w h)) (map (owed_push h) (owed h t)))
    no_new (Asked i) k = refl
    no_new (Confirmed n sent) k = absurd (false≢true k)
    no_new (Declined n code) k = refl
    no_new (Unheard n) k = refl
    no_new (Barred n reason) k = refl
    no_new (Noticed n heard) k = refl
    no_new (Pinged topic) k = refl
    no_new (Fetched v) k = absurd (false≢true k)
    no_new (Same topic upto) k = refl
    no_new (Unfetched topic upto why) k = refl
    no_new (Pushed v n how) k = absurd (false≢true k)
    no_new (Tally c) k = refl
    no_new (Revoked n reason) k = absurd (false≢true k)

    by : (w : What) → is_quiet w ≡ true → (ws : List OwedPush) → map (after_miss t w) (filter (stays_owed w (confirmed_intent w h)) ws) ≡ ws
    by (Asked i) k ws = same ws
    by (Confirmed n sent) k ws = absurd (false≢true k)
    by (Declined n code) k ws = same ws
    by (Unheard n) k ws = same ws
    by (Barred n reason) k ws = same ws
    by (Noticed n heard) k ws = same ws
    by (Pinged topic) k ws = same ws
    by (Fetched v) k ws = absurd (false≢true k)
    by (Same topic upto) k ws = same ws
    by (Unfetched topic upto why) k ws = same ws
    by (Pushed v n how) k ws = absurd (false≢true k)
    by (Tally c) k ws = same ws
    by (Revoked n reason) k ws = absurd (false≢true k)

pub stands_on : StandsOn
stands_on h e since rows l k m s = stands_after h e rows l (λ v n. s.shows e.t v n m ∙ ap (shown_of v n) (sym (quiet e.t e.what h k)))
