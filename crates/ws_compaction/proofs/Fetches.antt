-- The latest versions and the owed fetches of what is kept.
use Rattle.std.proofs.Common.{◌≡◌, ℕ, suc, ◌≤◌, ◌<◌, Bool, true, false, cond, not, ◌&&◌, List, [], ◌∷◌, ◌++◌, refl, ap, sym, ◌∙◌, subst, arith, inl, inr}
use Rattle.std.specs.Prelude.{Option, Some, None, map, filter, find, nat_lt, ◌==◌, bytes_eq}
use Rattle.std.specs.List.{AllByRecursion, list_any}
use Rattle.std.proofs.lemmas.Bool.Decides.{nat_tests}
use Rattle.std.proofs.lemmas.Bool.{and_from, and_parts, eqb-true, false_from_ne_true, false≢true, ltb-true, not-true, or_cases, or_left, or_right}
use Rattle.ws_model.specs.declared.event.Event.{Event}
use Rattle.ws_model.specs.declared.event.Tally.{Tally as TallyFields}
use Rattle.ws_model.specs.declared.event.Version.{Version}
use Rattle.ws_model.specs.declared.event.What.{What}
use Rattle.ws_model.specs.declared.event.What.TheVariants.{Pinged, Fetched, Unfetched}
use Rattle.ws_compaction.proofs.Choice.{choice, kept_of, lease_in}
use Rattle.ws_compaction.proofs.Looks.{has_less}
use Rattle.ws_compaction.proofs.Shrunk.{filter_swap}
use Rattle.ws_laws.proofs.Known.{itself}
use Rattle.ws_laws.proofs.ListLaws.{all_filter_with, all_find, all_from, all_weaker, any_then, filter_all, filter_same, map_same}
use Rattle.ws_laws.proofs.Paired.{found_kept}
use Rattle.ws_laws.proofs.Topics.{bytes_are, bytes_same, pings_le}
use Rattle.ws_model.specs.History.{has, since, times}
use Rattle.ws_model.specs.Legal.{Legal, accepts_what, is_allowed, is_in_order, is_sound, number_limit, time_limit}
use Rattle.ws_model.specs.Moment.{last_serial}
use Rattle.ws_model.specs.Versions.{Ping, fetches, is_answer, is_owed_fetch, is_ping, is_ping_at, is_unfetched, is_version, latest, latest_of, missed_fetches, pings, pings_of, versions, versions_of}
use Rattle.ws_model.specs.View.{owed_fetch}

-- two tests that pass together
same_test : (a b : Bool) → (a ≡ true → b ≡ true) → (b ≡ true → a ≡ true) → a ≡ b
same_test true b f g = sym (f refl)
same_test false true f g = g refl
same_test false false f g = refl

none_left : {X : Type 0} (p q : X → Bool) (xs : List X) → find p xs ≡ None → find p (filter q xs) ≡ None
none_left p q [] k = refl
none_left p q (x ∷ xs) k = one (p x) refl k (none_left p q xs)
  where
    two : (c : Bool) → p x ≡ false → find p (filter q xs) ≡ None → find p (cond c (x ∷ filter q xs) (filter q xs)) ≡ None
    two true e r = rw e r
    two false e r = r

    one : (b : Bool) → p x ≡ b → cond b (Some x) (find p xs) ≡ None → (find p xs ≡ None → find p (filter q xs) ≡ None) → find p (filter q (x ∷ xs)) ≡ None
    one true e k f = absurd (grind arith)
    one false e k f = two (q x) e (f k)

-- what passes a test is found in the filter
pub found_in : {X : Type 0} (like : X → X → Bool) (q : X → Bool) → ((x : X) → like x x ≡ true) → (xs : List X) → AllByRecursion (λ x. q x ≡ true → list_any (λ y. like y x) (filter q xs) ≡ true) xs
found_in like q f [] = tt
found_in like q f (x ∷ xs) = (
  λ k. rw k (or_left _ _ (f x)),
  all_weaker (λ y. q y ≡ true → list_any (λ z. like z y) (filter q xs) ≡ true) (λ y. q y ≡ true → list_any (λ z. like z y) (filter q (x ∷ xs)) ≡ true) (λ y g k. more (q x) y (g k)) xs (found_in like q f xs),
)
  where
    more : (b : Bool) (y : _) → list_any (λ z. like z y) (filter q xs) ≡ true → list_any (λ z. like z y) (cond b (x ∷ filter q xs) (filter q xs)) ≡ true
    more true y k = or_right (like x y) _ k
    more false y k = k

pub any_more : {X : Type 0} (p q : X → Bool) → ((x : X) → p x ≡ true → q x ≡ true) → (xs : List X) → list_any p xs ≡ true → list_any q xs ≡ true
any_more p q f [] k = absurd (false≢true k)
any_more p q f (x ∷ xs) k = elim (or_cases (p x) (list_any p xs) k) [ inl a ↦ or_left _ _ (f x a) | inr a ↦ or_right (q x) _ (any_more p q f xs a) ]

-- a missed fetch has a serial above those before it
missed_later : (w : What) (e : Event) (g : List Event) (topic : List ℕ) → accepts_what e g w ≡ true → is_unfetched topic w ≡ true → last_serial g < e.serial
missed_later (Unfetched of upto why) e g topic k u =
    let a = and_parts (is_in_order e g && is_sound e.serial (Unfetched of upto why)) (is_allowed (Unfetched of upto why) e.t g) k in
    let b = and_parts (is_in_order e g) (is_sound e.serial (Unfetched of upto why)) a.0 in
    let c = and_parts (nat_lt (last_serial g) e.serial && nat_lt e.serial number_limit && _) (nat_lt e.t time_limit) b.0 in
    let d = and_parts (nat_lt (last_serial g) e.serial && nat_lt e.serial number_limit) _ c.0 in
    ltb-true _ _ (and_parts (nat_lt (last_serial g) e.serial) (nat_lt e.serial number_limit) d.0).0
missed_later _ e g topic k u = absurd (false≢true u)

-- the pings and the missed fetches go by the owed fetches fs
module _ (tallied : TallyFields) (pending_in noticed_in version_in : ℕ → Bool) (kept_numbers : List ℕ) (fs : List Ping) where
  abbrev pub ping_in : Event → List ℕ → Bool
  ping_in e topic = list_any (λ p. bytes_eq p.topic topic && (p.serial == e.serial)) fs

  abbrev pub miss_in : Event → List ℕ → Bool
  miss_in e topic = list_any (λ p. bytes_eq p.topic topic && nat_lt p.serial e.serial) fs

  abbrev choose : Event → What → Bool
  choose e w = choice tallied pending_in noticed_in version_in kept_numbers ping_in miss_in e w

  abbrev passes : Event → Bool
  passes e = choose e e.what

  abbrev kept : List Event → List Event
  kept g = kept_of tallied pending_in noticed_in version_in kept_numbers ping_in miss_in g

  -- ---- versions

  versions_more : (e : Event) (w : What) (b : Bool) → choose e w ≡ b → (xs ys : List Version) → xs ≡ filter (λ v. version_in v.ver) ys → cond b (versions_of w ++ xs) xs ≡ filter (λ v. version_in v.ver) (versions_of w ++ ys)
  versions_more e (Fetched v) true k xs ys h = rw k (ap (λ vs. v ∷ vs) h)
  versions_more e (Fetched v) false k xs ys h = rw k h
  versions_more e _ true k xs ys h = h
  versions_more e _ false k xs ys h = h

  pub versions_kept : (g : List Event) → versions (kept g) ≡ filter (λ v. version_in v.ver) (versions g)
  versions_kept [] = refl
  versions_kept (e ∷ g) = here (choose e e.what) ∙ versions_more e e.what (choose e e.what) refl (versions (kept g)) (versions g) (versions_kept g)
    where
      here : (b : Bool) → versions (cond b (e ∷ kept g) (kept g)) ≡ cond b (versions_of e.what ++ versions (kept g)) (versions (kept g))
      here true = refl
      here false = refl

  -- the latest version of each topic is kept
  abbrev pub AreLatestKept : List Event → Type 0
  AreLatestKept h = AllByRecursion (λ (v : Version). is_version v.ver (latest_of v.topic h) ≡ true → version_in v.ver ≡ true) (versions h)

  latest_of_kept : (h : List Event) → AreLatestKept h → (topic : List ℕ) → latest_of topic (kept h) ≡ latest_of topic h
  latest_of_kept h a topic = ap (find (λ v. bytes_eq v.topic topic)) (versions_kept h) ∙ by (latest_of topic h) refl
    where
      by : (o : Option Version) → latest_of topic h ≡ o → find (λ v. bytes_eq v.topic topic) (filter (λ v. version_in v.ver) (versions h)) ≡ latest_of topic h
      by None e = none_left (λ v. bytes_eq v.topic topic) (λ v. version_in v.ver) (versions h) e ∙ sym e
      by (Some w) e =
          let f = all_find (λ (v : Version). is_version v.ver (latest_of v.topic h) ≡ true → version_in v.ver ≡ true) (λ v. bytes_eq v.topic topic) w (versions h) a e in
          let is : latest_of w.topic h ≡ Some w = ap (λ x. latest_of x h) (bytes_are w.topic topic f.1) ∙ e in
          let there : is_version w.ver (latest_of w.topic h) ≡ true = ap (is_version w.ver) is ∙ itself w.ver in
          found_kept (λ x y. false) (λ v. bytes_eq v.topic topic) (λ v. version_in v.ver) w (versions h) e (f.0 there) ∙ sym e

  pub latest_same : (h : List Event) → AreLatestKept h → latest (kept h) ≡ latest h
  latest_same h a =
      let old : Version → Bool = λ v. is_version v.ver (latest_of v.topic h) in
      let new : Version → Bool = λ v. is_version v.ver (latest_of v.topic (kept h)) in
      ap (filter new) (versions_kept h)
      ∙ filter_swap new (λ v. version_in v.ver) old (versions h) (all_from (λ (v : Version). version_in v.ver ≡ true → new v ≡ old v) (λ v k. ap (is_version v.ver) (latest_of_kept h a v.topic)) (versions h))
      ∙ filter_all (λ v. version_in v.ver) (latest h) (all_weaker (λ (v : Version). (old v ≡ true → version_in v.ver ≡ true) × (old v ≡ true)) (λ v. version_in v.ver ≡ true) (λ v k. k.0 k.1) (latest h) (all_filter_with (λ (v : Version). old v ≡ true → version_in v.ver ≡ true) old (versions h) a))

  -- ---- pings

  abbrev like : Ping → Ping → Bool
  like p q = bytes_eq p.topic q.topic && (p.serial == q.serial)

  like_itself : (p : Ping) → like p p ≡ true
  like_itself p = and_from _ _ (bytes_same p.topic) (itself p.serial)

  like_is : (p q : Ping) → like p q ≡ true → p ≡ q
  like_is p q k =
      let parts = and_parts (bytes_eq p.topic q.topic) (p.serial == q.serial) k in
      λ i. record { topic = bytes_are p.topic q.topic parts.0 i; serial = eqb-true p.serial q.serial parts.1 i }

  abbrev wanted : Ping → Bool
  wanted p = list_any (λ q. like q p) fs

  pings_more : (e : Event) (w : What) (b : Bool) → choose e w ≡ b → (xs ys : List Ping) → xs ≡ filter wanted ys → cond b (pings_of e w ++ xs) xs ≡ filter wanted (pings_of e w ++ ys)
  pings_more e (Pinged topic) true k xs ys h = rw k (ap (λ ps. record { topic = topic; serial = e.serial } ∷ ps) h)
  pings_more e (Pinged topic) false k xs ys h = rw k h
  pings_more e _ true k xs ys h = h
  pings_more e _ false k xs ys h = h

  pings_kept : (g : List Event) → pings (kept g) ≡ filter wanted (pings g)
  pings_kept [] = refl
  pings_kept (e ∷ g) = here (choose e e.what) ∙ pings_more e e.what (choose e e.what) refl (pings (kept g)) (pings g) (pings_kept g)
    where
      here : (b : Bool) → pings (cond b (e ∷ kept g) (kept g)) ≡ cond b (pings_of e e.what ++ pings (kept g)) (pings (kept g))
      here true = refl
      here false = refl

  -- ---- missed fetches since the latest ping

  module _ (p : Ping) (in_fs : wanted p ≡ true) where
    abbrev of_topic : Ping → Bool
    of_topic q = bytes_eq q.topic p.topic

    ping_chosen : (e : Event) (w : What) (ps : List Ping) → find of_topic (pings_of e w ++ ps) ≡ Some p → is_ping p.topic w ≡ true → choose e w ≡ true
    ping_chosen e (Pinged topic) ps f k =
        let this : Ping = record { topic = topic; serial = e.serial } in
        let first : Some this ≡ Some p = sym (ap (λ b. cond b (Some this) (find of_topic ps)) k) ∙ f in
        let same : this ≡ p = cc in
        subst (λ q. wanted q ≡ true) (sym same) in_fs
    ping_chosen e _ ps f k = absurd (false≢true k)

    find_before : (e : Event) (w : What) (ps : List Ping) → find of_topic (pings_of e w ++ ps) ≡ Some p → is_ping p.topic w ≡ false → find of_topic ps ≡ Some p
    find_before e (Pinged topic) ps f k = sym (ap (λ b. cond b (Some (record { topic = topic; serial = e.serial })) (find of_topic ps)) k) ∙ f
    find_before e _ ps f k = f

    below : (m n k : ℕ) → m ≤ n → n < k → nat_lt m k ≡ true
    below m n k a b = grind (arith, nat_tests)

    miss_chosen : (e : Event) (w : What) → nat_lt p.serial e.serial ≡ true → is_unfetched p.topic w ≡ true → choose e w ≡ true
    miss_chosen e (Unfetched of upto why) later k =
        any_more (λ q. like q p) (λ q. bytes_eq q.topic of && nat_lt q.serial e.serial)
        (λ q m. let same : q ≡ p = like_is q p m in
        subst (λ x. (bytes_eq x.topic of && nat_lt x.serial e.serial) ≡ true) (sym same)
        (and_from _ _ (ap (λ x. bytes_eq p.topic x) (bytes_are of p.topic k) ∙ bytes_same p.topic) later))
        fs in_fs
    miss_chosen e _ later k = absurd (false≢true k)

    missed_kept : (g : List Event) → Legal g → find of_topic (pings g) ≡ Some p → missed_fetches p.topic (kept g) ≡ missed_fetches p.topic g
    missed_kept [] l f = absurd (grind arith)
    missed_kept (e ∷ g) l f = one (is_ping p.topic e.what) refl (missed_kept g l.0)
      where
        two : (b : Bool) → passes e ≡ b → is_ping p.topic e.what ≡ false → find of_topic (pings g) ≡ Some p → missed_fetches p.topic (kept g) ≡ missed_fetches p.topic g → missed_fetches p.topic (cond b (e ∷ kept g) (kept g)) ≡ cond (is_unfetched p.topic e.what) (suc (missed_fetches p.topic g)) (missed_fetches p.topic g)
        two true c k before r = rw k (ap (λ m. cond (is_unfetched p.topic e.what) (suc m) m) r)
        two false c k before r =
            let low : p.serial ≤ last_serial g = (all_find (λ (q : Ping). q.serial ≤ last_serial g) of_topic p (pings g) (pings_le g) before).0 in
            let none : is_unfetched p.topic e.what ≡ false = false_from_ne_true _ (λ u. false≢true (sym c ∙ miss_chosen e e.what (below p.serial (last_serial g) e.serial low (missed_later e.what e g p.topic l.1 u)) u)) in
            rw none r

        one : (b : Bool) → is_ping p.topic e.what ≡ b → (find of_topic (pings g) ≡ Some p → missed_fetches p.topic (kept g) ≡ missed_fetches p.topic g) → missed_fetches p.topic (kept (e ∷ g)) ≡ missed_fetches p.topic (e ∷ g)
        one true k r = rw (ping_chosen e e.what (pings g) f k, k)
        one false k r =
            let before : find of_topic (pings g) ≡ Some p = find_before e e.what (pings g) f k in
            two (passes e) refl k before (r before) ∙ sym (ap (λ b. times (is_unfetched p.topic) (cond b [] (e ∷ since (is_ping p.topic) g))) k)

  -- ---- owed fetches

  module _ (h : List Event) (l : Legal h) (are : fs ≡ fetches h) where
    owed_all : AllByRecursion (λ p. is_owed_fetch h p ≡ true) (fetches h)
    owed_all = all_weaker (λ (p : Ping). Unit {0} × (is_owed_fetch h p ≡ true)) (λ p. is_owed_fetch h p ≡ true) (λ p k. k.1) (fetches h) (all_filter_with (λ (p : Ping). Unit {0}) (is_owed_fetch h) (pings h) (all_from (λ (p : Ping). Unit {0}) (λ p. tt) (pings h)))

    wanted_is : AllByRecursion (λ p. wanted p ≡ is_owed_fetch h p) (pings h)
    wanted_is =
        all_weaker (λ p. is_owed_fetch h p ≡ true → list_any (λ q. like q p) (fetches h) ≡ true) (λ p. wanted p ≡ is_owed_fetch h p)
        (λ p f. same_test (wanted p) (is_owed_fetch h p)
        (λ k. any_then (λ q. is_owed_fetch h q ≡ true) (λ q. like q p) (is_owed_fetch h p ≡ true) (λ q o m. subst (λ x. is_owed_fetch h x ≡ true) (like_is q p m) o) (fetches h) owed_all (subst (λ xs. list_any (λ q. like q p) xs ≡ true) are k))
        (λ k. subst (λ xs. list_any (λ q. like q p) xs ≡ true) (sym are) (f k)))
        (pings h) (found_in like (is_owed_fetch h) like_itself (pings h))

    pings_are : pings (kept h) ≡ fetches h
    pings_are = pings_kept h ∙ filter_same wanted (is_owed_fetch h) (pings h) wanted_is

    pub record IsLatestPing (p : Ping) : Type 0 where
      pub ping : Ping
      pub found : find (λ q. bytes_eq q.topic p.topic) (pings h) ≡ Some ping
      pub same : ping ≡ p

    latest_ping : (p : Ping) → is_owed_fetch h p ≡ true → IsLatestPing p
    latest_ping p k = by (find (λ q. bytes_eq q.topic p.topic) (pings h)) refl
      where
        at : is_ping_at p.serial (find (λ q. bytes_eq q.topic p.topic) (pings h)) ≡ true
        at = (and_parts (is_ping_at p.serial (find (λ q. bytes_eq q.topic p.topic) (pings h))) (not (has (is_answer p) h)) (and_parts (is_ping_at p.serial (find (λ q. bytes_eq q.topic p.topic) (pings h)) && not (has (is_answer p) h)) (nat_lt (missed_fetches p.topic h) 3) k).0).0

        by : (o : Option Ping) → find (λ q. bytes_eq q.topic p.topic) (pings h) ≡ o → IsLatestPing p
        by None e = absurd (false≢true (sym (ap (is_ping_at p.serial) e) ∙ at))
        by (Some q) e =
            let f = all_find (λ (x : Ping). Unit {0}) (λ x. bytes_eq x.topic p.topic) q (pings h) (all_from (λ (x : Ping). Unit {0}) (λ x. tt) (pings h)) e in
            record { ping = q; found = e; same = like_is q p (and_from _ _ f.1 (sym (ap (is_ping_at p.serial) e) ∙ at)) }

    pub record IsOwedAlike (p : Ping) : Type 0 where
      pub owed : is_owed_fetch (kept h) p ≡ true
      pub missed : missed_fetches p.topic (kept h) ≡ missed_fetches p.topic h

    owed_alike : (p : Ping) → is_owed_fetch h p ≡ true → wanted p ≡ true → IsOwedAlike p
    owed_alike p k w =
        let latest = latest_ping p k in
        let found : find (λ q. bytes_eq q.topic p.topic) (pings h) ≡ Some p = latest.found ∙ ap (λ x. Some x) latest.same in
        let parts = and_parts (is_ping_at p.serial (find (λ q. bytes_eq q.topic p.topic) (pings h)) && not (has (is_answer p) h)) (nat_lt (missed_fetches p.topic h) 3) k in
        let first = and_parts (is_ping_at p.serial (find (λ q. bytes_eq q.topic p.topic) (pings h))) (not (has (is_answer p) h)) parts.0 in
        let still : find (λ q. bytes_eq q.topic p.topic) (pings (kept h)) ≡ Some p =
        ap (find (λ q. bytes_eq q.topic p.topic)) pings_are ∙ found_kept (λ x y. false) (λ q. bytes_eq q.topic p.topic) (is_owed_fetch h) p (pings h) found k in
        let missed : missed_fetches p.topic (kept h) ≡ missed_fetches p.topic h = missed_kept p w h l found in
        let unanswered : has (is_answer p) (kept h) ≡ false = has_less tallied passes (lease_in tallied pending_in noticed_in version_in kept_numbers ping_in miss_in) version_in (is_answer p) refl h (not-true _ first.1) in
        record {
          owed = and_from _ _ (and_from _ _ (ap (is_ping_at p.serial) still ∙ itself p.serial) (ap not unanswered)) (ap (λ m. nat_lt m 3) missed ∙ parts.1);
          missed = missed;
        }

    all_alike : AllByRecursion IsOwedAlike (fetches h)
    all_alike =
        all_weaker (λ p. (wanted p ≡ is_owed_fetch h p) × (is_owed_fetch h p ≡ true)) IsOwedAlike (λ p k. owed_alike p k.1 (k.0 ∙ k.1)) (fetches h)
        (all_filter_with (λ p. wanted p ≡ is_owed_fetch h p) (is_owed_fetch h) (pings h) wanted_is)

    pub fetches_same : map (owed_fetch (kept h)) (fetches (kept h)) ≡ map (owed_fetch h) (fetches h)
    fetches_same =
        ap (map (owed_fetch (kept h)))
        (ap (filter (is_owed_fetch (kept h))) pings_are
        ∙ filter_all (is_owed_fetch (kept h)) (fetches h) (all_weaker IsOwedAlike (λ p. is_owed_fetch (kept h) p ≡ true) (λ p a. a.owed) (fetches h) all_alike))
        ∙ map_same (owed_fetch (kept h)) (owed_fetch h) (fetches h) (all_weaker IsOwedAlike (λ p. owed_fetch (kept h) p ≡ owed_fetch h p) (λ p a i. record { topic = p.topic; serial = p.serial; missed = a.missed i }) (fetches h) all_alike)
