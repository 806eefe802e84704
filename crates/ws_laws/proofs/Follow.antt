-- Whether an event may follow goes by the view.
use Rattle.std.proofs.Common.{◌≡◌, ℕ, ◌≤◌, ◌<◌, Bool, true, false, cond, not, ◌&&◌, ◌||◌, List, [], ◌∷◌, refl, ap, sym, ◌∙◌, arith, inl, inr}
use Rattle.std.specs.Prelude.{nat_lt, nat_le, is_some, Option, Some, None, map, filter, find, ◌==◌, bytes_eq}
use Rattle.std.specs.List.{list_any}
use Rattle.std.proofs.lemmas.Bool.Decides.{nat_tests}
use Rattle.std.proofs.lemmas.Bool.{or_left, or_right, or_cases}
use Rattle.ws_model.specs.declared.event.What.TheVariants.{Asked, Confirmed, Declined, Unheard, Barred, Noticed, Pinged, Fetched, Same, Unfetched, Pushed, Tally, Revoked}
use Rattle.ws_laws.proofs.Known.{itself}
use Rattle.ws_laws.proofs.ListLaws.{all_find, all_from}
use Rattle.ws_laws.proofs.Moments.{last_intent_le, last_serial_le, last_time_le, last_version_le}
use Rattle.ws_laws.proofs.Step.{named_pending}
use Rattle.ws_laws.proofs.Topics.{bytes_are}
use Rattle.ws_laws.specs.Steps.{Follows, IsNewlyNumbered, is_allowed_in, is_confirmable_in, is_first_in, is_first_one_in, waiting_of}
use Rattle.ws_model.specs.Intents.{is_first, notices, pending, same_pair}
use Rattle.ws_model.specs.Legal.{accepts_what, is_allowed, is_confirmable, is_confirmed_in_time, is_first_one, is_in_order, is_on_one, is_sound, number_limit, pending_of, time_limit}
use Rattle.ws_model.specs.Moment.{intent_number, last_intent, last_serial, last_time, last_version, serial, time, version_number}
use Rattle.ws_model.specs.Pairs.{owed}
use Rattle.ws_model.specs.Versions.{is_version, latest, latest_of, versions}
use Rattle.ws_model.specs.View.{owed_notice, owed_push, view, waiting}
use Rattle.ws_model.specs.declared.event.Event.{Event}
use Rattle.ws_model.specs.declared.event.Intent.{Intent}
use Rattle.ws_model.specs.declared.event.Version.{Version}
use Rattle.ws_model.specs.declared.event.What.{What}

-- ---- tests over lists

pub any_map : {X Y : Type 0} (p : Y → Bool) (f : X → Y) (xs : List X) → list_any p (map f xs) ≡ list_any (λ x. p (f x)) xs
any_map p f [] = refl
any_map p f (x ∷ xs) = ap (λ b. p (f x) || b) (any_map p f xs)

pub some_found : {X : Type 0} (p : X → Bool) (xs : List X) → is_some (find p xs) ≡ list_any p xs
some_found p [] = refl
some_found p (x ∷ xs) = one (p x) (some_found p xs)
  where
    one : (b : Bool) → is_some (find p xs) ≡ list_any p xs → is_some (cond b (Some x) (find p xs)) ≡ (b || list_any p xs)
    one true r = refl
    one false r = r

pub any_of_filter : {X : Type 0} (p q : X → Bool) (xs : List X) → list_any p (filter q xs) ≡ true → list_any p xs ≡ true
any_of_filter p q [] k = k
any_of_filter p q (x ∷ xs) k = one (q x) k (any_of_filter p q xs)
  where
    one : (b : Bool) → list_any p (cond b (x ∷ filter q xs) (filter q xs)) ≡ true → (list_any p (filter q xs) ≡ true → list_any p xs ≡ true) → (p x || list_any p xs) ≡ true
    one true k r = elim (or_cases (p x) (list_any p (filter q xs)) k) [ inl a ↦ or_left _ _ a | inr a ↦ or_right (p x) _ (r a) ]
    one false k r = or_right (p x) _ (r k)

-- where the first that passes p passes q too, some that passes q passes p
any_in_filter : {X : Type 0} (p q : X → Bool) (xs : List X) → ((x : X) → find p xs ≡ Some x → q x ≡ true) → list_any p xs ≡ true → list_any p (filter q xs) ≡ true
any_in_filter p q [] f k = k
any_in_filter {X = X} p q (x ∷ xs) f k = one (p x) refl f k (any_in_filter p q xs)
  where
    one : (b : Bool) → p x ≡ b → ((y : X) → cond b (Some x) (find p xs) ≡ Some y → q y ≡ true) → (b || list_any p xs) ≡ true → (((y : X) → find p xs ≡ Some y → q y ≡ true) → list_any p xs ≡ true → list_any p (filter q xs) ≡ true) → list_any p (filter q (x ∷ xs)) ≡ true
    one true e f k r = rw (f x refl) (or_left _ _ e)
    one false e f k r = skipped (q x) (r f k)
      where
        skipped : (c : Bool) → list_any p (filter q xs) ≡ true → list_any p (cond c (x ∷ filter q xs) (filter q xs)) ≡ true
        skipped true s = or_right (p x) _ s
        skipped false s = s

same_truth : (a b : Bool) → (a ≡ true → b ≡ true) → (b ≡ true → a ≡ true) → a ≡ b
same_truth true b f g = sym (f refl)
same_truth false true f g = g refl
same_truth false false f g = refl

-- ---- a topic has a version where it has a latest one

is_of : List ℕ → Version → Bool
is_of topic v = bytes_eq v.topic topic

latest_found : (topic : List ℕ) (h : List Event) (v : Version) → find (λ (w : Version). bytes_eq w.topic topic) (versions h) ≡ Some v → is_version v.ver (latest_of v.topic h) ≡ true
latest_found topic h v e =
    let same : v.topic ≡ topic = bytes_are v.topic topic (all_find (λ (w : Version). Unit {0}) (λ (w : Version). bytes_eq w.topic topic) v (versions h) (all_from (λ (w : Version). Unit {0}) (λ w. tt) (versions h)) e).1 in
    ap (λ x. is_version v.ver (find (λ (w : Version). bytes_eq w.topic x) (versions h))) same ∙ ap (is_version v.ver) e ∙ itself v.ver

version_in_latest : (topic : List ℕ) (h : List Event) → list_any (λ (v : Version). bytes_eq v.topic topic) (versions h) ≡ list_any (λ (v : Version). bytes_eq v.topic topic) (latest h)
version_in_latest topic h =
    same_truth _ _
    (any_in_filter (λ (v : Version). bytes_eq v.topic topic) (λ v. is_version v.ver (latest_of v.topic h)) (versions h) (latest_found topic h))
    (any_of_filter (λ (v : Version). bytes_eq v.topic topic) (λ v. is_version v.ver (latest_of v.topic h)) (versions h))

-- ---- what an event asks of the history is what it asks of the view

first_in : (h : List Event) (t : ℕ) (i : Intent) → is_first h i ≡ is_first_in (view h t) i
first_in h t i = ap not (sym (any_map (λ w. nat_lt w.intent.n i.n && same_pair i w.intent) (waiting h) (pending h)))

confirmable_in : (h : List Event) (t sent at : ℕ) (o : Option Intent) → is_confirmable h sent at o ≡ is_confirmable_in (view h t) sent at o
confirmable_in h t sent at None = refl
confirmable_in h t sent at (Some i) = ap (λ b. b && nat_le sent at && is_confirmed_in_time sent at i) (first_in h t i)

first_one_in : (h : List Event) (t : ℕ) (o : Option Intent) → is_first_one h o ≡ is_first_one_in (view h t) o
first_one_in h t None = refl
first_one_in h t (Some i) = first_in h t i

pending_in : (h : List Event) (t n : ℕ) → pending_of h n ≡ waiting_of (view h t) n
pending_in h t n = sym (named_pending h n)

above : (m n k : ℕ) → m ≤ n → n < k → nat_lt m k ≡ true
above m n k a b = grind (arith, nat_tests)

allowed_in : (w : What) (t : ℕ) (h : List Event) → IsNewlyNumbered w h → is_allowed w t h ≡ is_allowed_in w t (view h t)
allowed_in (Asked i) t h n = above (last_intent h) (intent_number h) i.n (last_intent_le h) n
allowed_in (Confirmed m sent) t h n = confirmable_in h t sent t (pending_of h m) ∙ ap (is_confirmable_in (view h t) sent t) (pending_in h t m)
allowed_in (Declined m code) t h n = first_one_in h t (pending_of h m) ∙ ap (is_first_one_in (view h t)) (pending_in h t m)
allowed_in (Unheard m) t h n = first_one_in h t (pending_of h m) ∙ ap (is_first_one_in (view h t)) (pending_in h t m)
allowed_in (Barred m reason) t h n = ap is_on_one (pending_in h t m)
allowed_in (Noticed m heard) t h n = some_found (λ i. i.n == m) (notices h) ∙ sym (any_map (λ w. w.intent.n == m) (owed_notice h) (notices h))
allowed_in (Pinged topic) t h n = refl
allowed_in (Fetched x) t h n = above (last_version h) (version_number h) x.ver (last_version_le h) n
allowed_in (Same topic upto) t h n = version_in_latest topic h
allowed_in (Unfetched topic upto why) t h n = refl
allowed_in (Pushed v m how) t h n = sym (any_map (λ w. (w.version.ver == v) && (w.lease.intent.n == m)) (owed_push h) (owed h t))
allowed_in (Tally c) t h n = absurd n
allowed_in (Revoked m reason) t h n = refl

-- ---- order and soundness

ordered : (e : Event) (h : List Event) → time h ≤ e.t → serial h < e.serial → is_in_order e h ≡ (nat_lt e.serial number_limit && nat_lt e.t time_limit)
ordered e h a b =
    let later : nat_le (last_time h) e.t ≡ true = no_later (last_time h) (time h) e.t (last_time_le h) a in
    let higher : nat_lt (last_serial h) e.serial ≡ true = above (last_serial h) (serial h) e.serial (last_serial_le h) b in
    rw (later, higher) (one (nat_lt e.serial number_limit))
  where
    no_later : (m n k : ℕ) → m ≤ n → n ≤ k → nat_le m k ≡ true
    no_later m n k a b = grind (arith, nat_tests)

    one : (b : Bool) → (b && true && nat_lt e.t time_limit) ≡ (b && nat_lt e.t time_limit)
    one true = refl
    one false = refl

by_what : (e : Event) (h : List Event) (w : What) → IsNewlyNumbered w h → accepts_what e h w ≡ (is_in_order e h && is_sound e.serial w && is_allowed w e.t h)
by_what e h (Tally c) n = absurd n
by_what e h _ n = refl

pub follows : Follows
follows h e l newest =
    by_what e h e.what newest.number_new
    ∙ (λ i. ordered e h newest.in_time newest.serial_new i && is_sound e.serial e.what && allowed_in e.what e.t h newest.number_new i)
