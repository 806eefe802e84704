-- What each change of the rows makes of the history that they stand for.
use Rattle.std.proofs.Common.{◌≡◌, ℕ, suc, ◌≤◌, ◌<◌, Bool, true, false, cond, not, ◌&&◌, List, [], ◌∷◌, ◌++◌, refl, ap, sym, ◌∙◌, subst, arith}
use Rattle.std.specs.Prelude.{Option, Some, None, IfSome, find, map, option_map, is_none, nat_le, ◌==◌, bytes_eq}
use Rattle.std.specs.List.{AllByRecursion}
use Rattle.std.proofs.lemmas.Bool.Decides.{nat_tests}
use Rattle.std.proofs.lemmas.Bool.{and_parts, eqb-true, false≢true, ltb-true}
use Rattle.ws_model.specs.declared.event.Event.{Event}
use Rattle.ws_model.specs.declared.event.Tally.{Tally}
use Rattle.ws_model.specs.declared.event.Version.{Version}
use Rattle.ws_model.specs.declared.event.What.{What}
use Rattle.ws_model.specs.declared.event.What.TheVariants.{Asked, Confirmed, Declined, Unheard, Barred, Noticed, Pushed, Revoked, Fetched, Pinged, Same, Unfetched, Tally as TallyOf}
use Rattle.ws_model.specs.Legal.{Legal, accepts, is_allowed}
use Rattle.ws_model.specs.Moment.{last_version}
use Rattle.ws_model.specs.Versions.{fetches, latest_of, versions, versions_of}
use Rattle.ws_model.specs.View.{OwedFetch as FetchView, owed_fetch}
use Rattle.ws_laws.proofs.Known.{allowed}
use Rattle.ws_laws.proofs.ListLaws.{all_find, all_from}
use Rattle.ws_laws.proofs.Topics.{versions_le}
use Rattle.ws_laws.specs.Steps.{fetches_after}
use Rattle.ws_topic.specs.declared.rows.OwedFetch.{OwedFetch}
use Rattle.ws_topic.specs.ByTopic.{at_topic}
use Rattle.ws_topic.specs.Rows.{Rows, answered, is_number, kept_of, may_forget, may_forget_row, missed, missed_once, number_at}
use Rattle.ws_topic.specs.Stands.{OthersStand, StandsFor, as_fetch, is_other, version_number}
use Rattle.ws_topic.proofs.Fetching.{answered_at, answered_view, at_view, fetch_list, fetches_apart, fetches_few, fetches_then, is_tally, missed_at, missed_view, pinged_at}
use Rattle.ws_topic.proofs.Keyed.{same}
use Rattle.ws_topic.proofs.Ordered.{turned}

-- ---- fetches

through : {X Y : Type 0} (f : X → Y) (b : Bool) (w o : Option X) → option_map f (cond b w o) ≡ cond b (option_map f w) (option_map f o)
through f true w o = refl
through f false w o = refl

-- rows that change at one topic, as the history does
step : (look was : List ℕ → Option OwedFetch) (after before : List ℕ → Option FetchView) (topic : List ℕ) (w : Option OwedFetch) (v : Option FetchView)
    → ((q : List ℕ) → look q ≡ cond (bytes_eq q topic) w (was q)) → ((q : List ℕ) → option_map as_fetch (was q) ≡ before q) → option_map as_fetch w ≡ v
    → ((q : List ℕ) → after q ≡ cond (bytes_eq topic q) v (before q)) → (q : List ℕ) → option_map as_fetch (look q) ≡ after q
step look was after before topic w v looks rows here then q =
    ap (option_map as_fetch) (looks q) ∙ through as_fetch (bytes_eq q topic) w (was q)
    ∙ ap (λ b. cond b (option_map as_fetch w) (option_map as_fetch (was q))) (turned q topic)
    ∙ ap (λ x. cond (bytes_eq topic q) x (option_map as_fetch (was q))) here
    ∙ ap (cond (bytes_eq topic q) v) (rows q)
    ∙ sym (then q)

-- a value of q that counts where q is the topic
at_it : (g : Option FetchView → Option FetchView) (r : List ℕ → Option FetchView) (topic q : List ℕ) (x : Option FetchView) → cond (bytes_eq topic q) (g (r q)) x ≡ cond (bytes_eq topic q) (g (r topic)) x
at_it g r topic q x = by (bytes_eq topic q) refl
  where
    by : (b : Bool) → bytes_eq topic q ≡ b → cond b (g (r q)) x ≡ cond b (g (r topic)) x
    by true e = ap (λ n. g (r n)) (sym (same topic q e))
    by false e = refl

answered_as : (upto : ℕ) (o : Option OwedFetch) → option_map as_fetch (answered upto o) ≡ answered_view upto (option_map as_fetch o)
answered_as upto None = refl
answered_as upto (Some f) = by (nat_le f.serial upto)
  where
    by : (b : Bool) → option_map as_fetch (cond b None (Some f)) ≡ cond b None (Some (as_fetch f))
    by true = refl
    by false = refl

missed_as : (o : Option OwedFetch) → option_map as_fetch (missed o) ≡ missed_view (option_map as_fetch o)
missed_as None = refl
missed_as (Some f) = by (nat_le 3 (suc f.missed))
  where
    by : (b : Bool) → option_map as_fetch (cond b None (Some (missed_once f))) ≡ cond b None (Some (as_fetch (missed_once f)))
    by true = refl
    by false = refl

-- the fetches after an event that is no Tally
after_event : (h : List Event) (e : Event) (w : What) → Legal (e ∷ h) → e.what ≡ w → is_tally w ≡ false → fetch_list (e ∷ h) ≡ fetches_after e.serial w (fetch_list h)
after_event h e w l is n = fetches_then e h l (ap is_tally is ∙ n) ∙ ap (λ x. fetches_after e.serial x (fetch_list h)) is

-- the topic's fetch is settled where its ping isn't later
answer_step : (old new : Rows) (topic : List ℕ) (upto : ℕ) (h k : List Event) → ((q : List ℕ) → at_topic q new.fetches ≡ cond (bytes_eq q topic) (answered upto (at_topic topic old.fetches)) (at_topic q old.fetches))
    → ((q : List ℕ) → option_map as_fetch (at_topic q old.fetches) ≡ at_view q (fetch_list h))
    → ((q : List ℕ) → at_view q (fetch_list k) ≡ cond (bytes_eq topic q) (answered_view upto (at_view q (fetch_list h))) (at_view q (fetch_list h)))
    → (q : List ℕ) → option_map as_fetch (at_topic q new.fetches) ≡ at_view q (fetch_list k)
answer_step old new topic upto h k look was then =
    step (λ q. at_topic q new.fetches) (λ q. at_topic q old.fetches) (λ q. at_view q (fetch_list k)) (λ q. at_view q (fetch_list h)) topic (answered upto (at_topic topic old.fetches)) (answered_view upto (at_view topic (fetch_list h)))
    look was (answered_as upto (at_topic topic old.fetches) ∙ ap (answered_view upto) (was topic))
    (λ q. then q ∙ at_it (answered_view upto) (λ t. at_view t (fetch_list h)) topic q (at_view q (fetch_list h)))

-- ---- versions

-- what `StandsFor` says of the versions, of any list of them
record IsOfVersions (held : List (ℕ × Version)) (numbers : List (List ℕ × ℕ)) (vs : List Version) : Type 0 where
  latest_at : (topic : List ℕ) → at_topic topic numbers ≡ version_number (find (λ v. bytes_eq v.topic topic) vs)
  latest_kept : (topic : List ℕ) → IfSome (find (λ v. bytes_eq v.topic topic) vs) (λ v. number_at v.ver held ≡ Some v)
  kept : (n : ℕ) → IfSome (number_at n held) (λ v. find (λ w. w.ver == n) vs ≡ Some v)

of_versions : (rows : Rows) (h : List Event) → StandsFor rows h → IsOfVersions rows.versions rows.latest (versions h)
of_versions rows h s = record { latest_at = s.latest_at; latest_kept = s.latest_kept; kept = s.kept }

stands_by : (rows : Rows) (h : List Event) → IsOfVersions rows.versions rows.latest (versions h) → ((q : List ℕ) → option_map as_fetch (at_topic q rows.fetches) ≡ at_view q (fetch_list h)) → StandsFor rows h
stands_by rows h v f = record { latest_at = v.latest_at; latest_kept = v.latest_kept; kept = v.kept; fetch_at = f }

-- an event that has no version
no_version : (old new : Rows) (h : List Event) (e : Event) (w : What) → StandsFor old h → new.versions ≡ old.versions → new.latest ≡ old.latest → e.what ≡ w → versions_of w ≡ [] → IsOfVersions new.versions new.latest (versions (e ∷ h))
no_version old new h e w s a b is none =
    subst (λ vs. IsOfVersions new.versions new.latest vs) (sym (ap (λ x. versions_of x ++ versions h) is ∙ ap (λ x. x ++ versions h) none))
    (subst (λ k. IsOfVersions k new.latest (versions h)) (sym a) (subst (λ k. IsOfVersions old.versions k (versions h)) (sym b) (of_versions old h s)))

-- ---- pinged

pub pinged_stands : (old new : Rows) (topic : List ℕ) (serial : ℕ) → new.versions ≡ old.versions → new.latest ≡ old.latest
    → ((q : List ℕ) → at_topic q new.fetches ≡ cond (bytes_eq q topic) (Some (record { topic = topic; serial = serial; missed = 0 })) (at_topic q old.fetches))
    → (h : List Event) (e : Event) → StandsFor old h → Legal (e ∷ h) → e.what ≡ Pinged topic → e.serial ≡ serial → StandsFor new (e ∷ h)
pinged_stands old new topic serial a b look h e s l is at =
    stands_by new (e ∷ h) (no_version old new h e (Pinged topic) s a b is refl)
    (step (λ q. at_topic q new.fetches) (λ q. at_topic q old.fetches) (λ q. at_view q (fetch_list (e ∷ h))) (λ q. at_view q (fetch_list h)) topic (Some (record { topic = topic; serial = serial; missed = 0 })) (Some (record { topic = topic; serial = serial; missed = 0 }))
    look s.fetch_at refl
    (λ q. ap (at_view q) (after_event h e (Pinged topic) l is refl) ∙ pinged_at e.serial topic q (fetch_list h)
    ∙ ap (λ n. cond (bytes_eq topic q) (Some (record { topic = topic; serial = n; missed = 0 })) (at_view q (fetch_list h))) at))

-- ---- the same, and a missed fetch

pub same_stands : (old new : Rows) (topic : List ℕ) (upto : ℕ) → new.versions ≡ old.versions → new.latest ≡ old.latest
    → ((q : List ℕ) → at_topic q new.fetches ≡ cond (bytes_eq q topic) (answered upto (at_topic topic old.fetches)) (at_topic q old.fetches))
    → (h : List Event) (e : Event) → StandsFor old h → Legal (e ∷ h) → e.what ≡ Same topic upto → StandsFor new (e ∷ h)
same_stands old new topic upto a b look h e s l is =
    stands_by new (e ∷ h) (no_version old new h e (Same topic upto) s a b is refl)
    (answer_step old new topic upto h (e ∷ h) look s.fetch_at
    (λ q. ap (at_view q) (after_event h e (Same topic upto) l is refl) ∙ answered_at topic upto q (fetch_list h) (fetches_apart h l.0)))

pub unfetched_stands : (old new : Rows) (topic : List ℕ) (upto : ℕ) → new.versions ≡ old.versions → new.latest ≡ old.latest
    → ((q : List ℕ) → at_topic q new.fetches ≡ cond (bytes_eq q topic) (missed (at_topic topic old.fetches)) (at_topic q old.fetches))
    → (h : List Event) (e : Event) (why : ℕ) → StandsFor old h → Legal (e ∷ h) → e.what ≡ Unfetched topic upto why → StandsFor new (e ∷ h)
unfetched_stands old new topic upto a b look h e why s l is =
    stands_by new (e ∷ h) (no_version old new h e (Unfetched topic upto why) s a b is refl)
    (step (λ q. at_topic q new.fetches) (λ q. at_topic q old.fetches) (λ q. at_view q (fetch_list (e ∷ h))) (λ q. at_view q (fetch_list h)) topic (missed (at_topic topic old.fetches)) (missed_view (at_view topic (fetch_list h)))
    look s.fetch_at (missed_as (at_topic topic old.fetches) ∙ ap missed_view (s.fetch_at topic))
    (λ q. ap (at_view q) (after_event h e (Unfetched topic upto why) l is refl) ∙ missed_at topic q (fetch_list h) (fetches_apart h l.0) (fetches_few h)
    ∙ at_it missed_view (λ t. at_view t (fetch_list h)) topic q (at_view q (fetch_list h))))

-- ---- fetched

number_turned : (m n : ℕ) → (m == n) ≡ (n == m)
number_turned m n = grind (arith, nat_tests)

itself : (n : ℕ) → (n == n) ≡ true
itself n = grind (arith, nat_tests)

lower : (m n : ℕ) → m < n → (m == n) ≡ false
lower m n k = grind (arith, nat_tests)

version_more : (old_kept new_kept : List (ℕ × Version)) (old_latest new_latest : List (List ℕ × ℕ)) (x : Version) (vs : List Version)
    → ((q : ℕ) → number_at q new_kept ≡ cond (q == x.ver) (Some x) (number_at q old_kept))
    → ((q : List ℕ) → at_topic q new_latest ≡ cond (bytes_eq q x.topic) (Some x.ver) (at_topic q old_latest))
    → AllByRecursion (λ (v : Version). v.ver < x.ver) vs → IsOfVersions old_kept old_latest vs → IsOfVersions new_kept new_latest (x ∷ vs)
version_more old_kept new_kept old_latest new_latest x vs look look_latest below s =
    record {
      latest_at = λ q. look_latest q ∙ ap (λ b. cond b (Some x.ver) (at_topic q old_latest)) (turned q x.topic) ∙ latest q (bytes_eq x.topic q);
      latest_kept = λ q. by_topic q (bytes_eq x.topic q);
      kept = λ n. subst (λ o. IfSome o (λ (v : Version). find (λ w. w.ver == n) (x ∷ vs) ≡ Some v)) (sym (look n)) (by_number n (n == x.ver) refl);
    }
  where
    latest : (q : List ℕ) (b : Bool) → cond b (Some x.ver) (at_topic q old_latest) ≡ version_number (cond b (Some x) (find (λ v. bytes_eq v.topic q) vs))
    latest q true = refl
    latest q false = s.latest_at q

    old_one : (q : List ℕ) (o : Option Version) → find (λ v. bytes_eq v.topic q) vs ≡ o → IfSome o (λ v. number_at v.ver old_kept ≡ Some v) → IfSome o (λ v. number_at v.ver new_kept ≡ Some v)
    old_one q None e k = tt
    old_one q (Some v) e k = look v.ver ∙ ap (λ b. cond b (Some x) (number_at v.ver old_kept)) (lower v.ver x.ver (all_find (λ (w : Version). w.ver < x.ver) (λ w. bytes_eq w.topic q) v vs below e).0) ∙ k

    by_topic : (q : List ℕ) (b : Bool) → IfSome (cond b (Some x) (find (λ v. bytes_eq v.topic q) vs)) (λ v. number_at v.ver new_kept ≡ Some v)
    by_topic q true = look x.ver ∙ ap (λ b. cond b (Some x) (number_at x.ver old_kept)) (itself x.ver)
    by_topic q false = old_one q (find (λ v. bytes_eq v.topic q) vs) refl (s.latest_kept q)

    by_number : (n : ℕ) (b : Bool) → (n == x.ver) ≡ b → IfSome (cond b (Some x) (number_at n old_kept)) (λ (v : Version). find (λ w. w.ver == n) (x ∷ vs) ≡ Some v)
    by_number n true e = ap (λ b. cond b (Some x) (find (λ w. w.ver == n) vs)) (number_turned x.ver n ∙ e)
    by_number n false e = subst (λ b. IfSome (number_at n old_kept) (λ (v : Version). cond b (Some x) (find (λ w. w.ver == n) vs) ≡ Some v)) (sym (number_turned x.ver n ∙ e)) (s.kept n)

all_below : (m n : ℕ) (vs : List Version) → m < n → AllByRecursion (λ (v : Version). v.ver ≤ m) vs → AllByRecursion (λ (v : Version). v.ver < n) vs
all_below m n [] k a = tt
all_below m n (v ∷ vs) k a = (less v.ver a.0, all_below m n vs k a.1)
  where
    less : (d : ℕ) → d ≤ m → d < n
    less d b = omega arith

pub fetched_stands : (old new : Rows) (x : Version)
    → ((q : ℕ) → number_at q new.versions ≡ cond (q == x.ver) (Some x) (number_at q old.versions))
    → ((q : List ℕ) → at_topic q new.latest ≡ cond (bytes_eq q x.topic) (Some x.ver) (at_topic q old.latest))
    → ((q : List ℕ) → at_topic q new.fetches ≡ cond (bytes_eq q x.topic) (answered x.upto (at_topic x.topic old.fetches)) (at_topic q old.fetches))
    → (h : List Event) (e : Event) → StandsFor old h → Legal (e ∷ h) → e.what ≡ Fetched x → StandsFor new (e ∷ h)
fetched_stands old new x look look_latest look_fetches h e s l is =
    let above : last_version h < x.ver = ltb-true (last_version h) x.ver (subst (λ w. is_allowed w e.t h ≡ true) is (allowed h e l.1)) in
    stands_by new (e ∷ h)
    (subst (λ vs. IsOfVersions new.versions new.latest vs) (sym (ap (λ w. versions_of w ++ versions h) is))
    (version_more old.versions new.versions old.latest new.latest x (versions h) look look_latest (all_below (last_version h) x.ver (versions h) above (versions_le h)) (of_versions old h s)))
    (answer_step old new x.topic x.upto h (e ∷ h) look_fetches s.fetch_at
    (λ q. ap (at_view q) (after_event h e (Fetched x) l is refl) ∙ answered_at x.topic x.upto q (fetch_list h) (fetches_apart h l.0)))

-- ---- forgotten

pub forget_stands : (old new : Rows) (ver : ℕ) → ((q : ℕ) → number_at q new.versions ≡ cond (may_forget ver (kept_of old) && (q == ver)) None (number_at q old.versions)) → new.latest ≡ old.latest → new.fetches ≡ old.fetches
    → (h : List Event) → StandsFor old h → StandsFor new h
forget_stands old new ver look a b h s =
    record {
      latest_at = λ q. ap (at_topic q) a ∙ s.latest_at q;
      latest_kept = λ q. one q (latest_of q h) refl (s.latest_kept q);
      kept = λ n. subst (λ o. IfSome o (λ (v : Version). find (λ w. w.ver == n) (versions h) ≡ Some v)) (sym (look n)) (left n (may_forget ver (kept_of old) && (n == ver)));
      fetch_at = λ q. ap (λ es. option_map as_fetch (at_topic q es)) b ∙ s.fetch_at q;
    }
  where
    left : (n : ℕ) (c : Bool) → IfSome (cond c None (number_at n old.versions)) (λ (v : Version). find (λ w. w.ver == n) (versions h) ≡ Some v)
    left n true = tt
    left n false = s.kept n

    -- the latest version of its topic isn't forgotten
    stays : (q : List ℕ) (v : Version) → latest_of q h ≡ Some v → number_at v.ver old.versions ≡ Some v → (may_forget ver (kept_of old) && (v.ver == ver)) ≡ false
    stays q v e k = by (v.ver == ver) refl
      where
        topic_is : v.topic ≡ q
        topic_is = same v.topic q (all_find (λ (w : Version). Unit {0}) (λ w. bytes_eq w.topic q) v (versions h) (all_from (λ (w : Version). Unit {0}) (λ w. tt) (versions h)) e).1

        latest_is : at_topic v.topic old.latest ≡ Some v.ver
        latest_is = ap (λ t. at_topic t old.latest) topic_is ∙ s.latest_at q ∙ ap version_number e

        by : (c : Bool) → (v.ver == ver) ≡ c → (may_forget ver (kept_of old) && (v.ver == ver)) ≡ false
        by true r =
            ap (λ b. b && (v.ver == ver))
            (ap (may_forget_row ver old.latest) (ap (λ n. number_at n old.versions) (sym (eqb-true v.ver ver r)) ∙ k)
            ∙ ap (λ o. not (is_number o ver)) latest_is ∙ ap not r)
        by false r = ap (λ b. may_forget ver (kept_of old) && b) r ∙ none (may_forget ver (kept_of old))
          where
            none : (b : Bool) → (b && false) ≡ false
            none true = refl
            none false = refl

    one : (q : List ℕ) (o : Option Version) → latest_of q h ≡ o → IfSome o (λ v. number_at v.ver old.versions ≡ Some v) → IfSome o (λ v. number_at v.ver new.versions ≡ Some v)
    one q None e k = tt
    one q (Some v) e k = look v.ver ∙ ap (λ b. cond b None (number_at v.ver old.versions)) (stays q v e k) ∙ k

-- ---- other events

others_versions : (w : What) → is_other w ≡ true → versions_of w ≡ []
others_versions (Fetched v) k = absurd (false≢true k)
others_versions _ k = refl

others_fetches : (w : What) (s t : ℕ) (h : List Event) → is_other w ≡ true → fetch_list (record { serial = s; t = t; what = w } ∷ h) ≡ fetch_list h
others_fetches (Asked i) s t h k = refl
others_fetches (Confirmed n sent) s t h k = refl
others_fetches (Declined n code) s t h k = refl
others_fetches (Unheard n) s t h k = refl
others_fetches (Barred n reason) s t h k = refl
others_fetches (Noticed n heard) s t h k = refl
others_fetches (Pushed v n how) s t h k = refl
others_fetches (TallyOf c) s t h k = refl
others_fetches (Revoked n reason) s t h k = refl
others_fetches _ s t h k = absurd (false≢true k)

pub others_stand : OthersStand
others_stand rows h e s k =
    stands_by rows (e ∷ h) (no_version rows rows h e e.what s refl refl refl (others_versions e.what k))
    (λ q. s.fetch_at q ∙ ap (at_view q) (sym (others_fetches e.what e.serial e.t h k)))

-- ---- the empty table

pub empty_stands : StandsFor (record { versions = []; latest = []; fetches = [] }) []
empty_stands = record { latest_at = λ q. refl; latest_kept = λ q. tt; kept = λ n. tt; fetch_at = λ q. refl }

pub tally_stands : (e : Event) (c : Tally) → e.what ≡ TallyOf c → StandsFor (record { versions = []; latest = []; fetches = [] }) (e ∷ [])
tally_stands e c is = others_stand (record { versions = []; latest = []; fetches = [] }) [] e empty_stands (ap is_other is)
