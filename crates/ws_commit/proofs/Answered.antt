-- What answers make may be committed.
use Rattle.std.proofs.Common.{◌≡◌, ℕ, suc, ◌≤◌, ◌<◌, ◌+◌, ◌-◌, Bool, true, false, cond, List, [], ◌∷◌, length, max, refl, ap, sym, subst, arith, Option, Some, None}
use Rattle.std.specs.Prelude.{codes, find, map, filter, nat_lt, nat_le, ◌==◌, ◌&&◌, ◌||◌, not, bytes_eq}
use Rattle.std.specs.List.{AllByRecursion, list_any}
use Rattle.std.specs.Option.{option_map}
use Rattle.std.proofs.lemmas.Bool.Decides.{nat_tests}
use Rattle.std.proofs.lemmas.Bool.{or_left}
use Rattle.std.proofs.lemmas.List.Elements.{recursion_from_All}
use Rattle.ws_model.specs.declared.event.Alg.{Alg}
use Rattle.ws_model.specs.declared.event.Event.{Event}
use Rattle.ws_model.specs.declared.event.Intent.{Intent}
use Rattle.ws_model.specs.declared.event.Mode.TheVariants.{Off, On}
use Rattle.ws_model.specs.declared.event.What.{What}
use Rattle.ws_model.specs.declared.event.What.TheVariants.{Asked, Barred, Pinged, Revoked}
use Rattle.ws_model.specs.declared.answers.Kind.{Kind}
use Rattle.ws_model.specs.declared.lease.Lease.{Lease}
use Rattle.ws_model.specs.Answer.{Answer, Events, Full, first_mentions, has_live_lease, is_disallowed, publish_answer, subscribe_answer, subscription_events, unsubscribe_answer, within_leases, within_numbers}
use Rattle.ws_model.specs.Leases.{is_on, live}
use Rattle.ws_model.specs.Legal.{Legal, is_grant, is_key_text, is_sound_intent, is_text, number_limit, secret_limit, time_limit}
use Rattle.ws_model.specs.Moment.{intent_number, serial, time}
use Rattle.ws_model.specs.Revocation.{is_lease_of, live_lease_of}
use Rattle.ws_laws.proofs.Known.{itself}
use Rattle.ws_laws.proofs.ListLaws.{all_filter}
use Rattle.ws_form.specs.Answers.{IsShort, IsShortKey, IsSound}
use Rattle.ws_form.specs.declared.ask.Ask.TheVariants.{Subscribe, Unsubscribe, Publish}
use Rattle.ws_core_tables.specs.Committing.{all_but_last, can_be_undone, committed}
use Rattle.ws_answer.proofs.Bounds.{within_last}
use Rattle.ws_commit.specs.Laws.{AnswersCommit, MayCommit, RevocationsCommit}
use Rattle.ws_commit.proofs.Next.{asked_next, barred_next, next, pending_now, pinged_next, revoked_next, time_now}

-- ---- rooms that are there

full_makes_none : (kind : Kind) (a b c : ℕ) (ws : List What) → Full kind a b c ≡ Events ws → ⊥
full_makes_none kind a b c ws e = cc

same_events : (vs ws : List What) → Events vs ≡ Events ws → vs ≡ ws
same_events vs ws e = cc

record Within (full : Bool) (rest : Answer) (ws : List What) : Type 0 where
  room : full ≡ false
  answer : rest ≡ Events ws

within : (full : Bool) (kind : Kind) (a b c : ℕ) (rest : Answer) (ws : List What) → cond full (Full kind a b c) rest ≡ Events ws → Within full rest ws
within true kind a b c rest ws e = absurd (full_makes_none kind a b c ws e)
within false kind a b c rest ws e = record { room = refl; answer = e }

serials_left : (limit s n : ℕ) → 0 < limit → nat_lt (limit - 1) (s + n) ≡ false → s + n < limit
serials_left limit s n a k = grind (arith, nat_tests)

number_left : (limit n : ℕ) → n ≤ limit - 1 → (n == limit - 1) ≡ false → suc n < limit
number_left limit n a k = grind (arith, nat_tests)

positive : 0 < number_limit
positive = omega arith

-- ---- a request, with its denial or without

record IsNumbered (h : List Event) (events ws : List What) : Type 0 where
  serials : serial h + length events < number_limit
  number : suc (intent_number h) < number_limit
  same : events ≡ ws

within_all_numbers : (h : List Event) (events ws : List What) → Legal h → within_numbers h events ≡ Events ws → IsNumbered h events ws
within_all_numbers h events ws l e =
    let a = within (nat_lt (number_limit - 1) (serial h + length events)) _ _ _ _ _ ws e in
    let b = within (intent_number h == number_limit - 1) _ _ _ _ _ ws a.answer in
    record {
      serials = serials_left number_limit (serial h) (length events) positive a.room;
      number = number_left number_limit (intent_number h) (within_last h l) b.room;
      same = same_events events ws b.answer;
    }

text_of : (text : List ℕ) → IsShort text → is_text text ≡ true
text_of text k = short (length text) k
  where
    short : (n : ℕ) → n ≤ 900000 → nat_le n 900000 ≡ true
    short n k = grind (arith, nat_tests)

key_of : (key : List ℕ) → IsShortKey key → is_key_text key ≡ true
key_of key k = rw (text_of key k.short, k.web) refl

within_bound : (n limit : ℕ) → n ≤ limit → nat_le n limit ≡ true
within_bound n limit k = grind (arith, nat_tests)

below_bound : (n limit : ℕ) → n < limit → nat_lt n limit ≡ true
below_bound n limit k = grind (arith, nat_tests)

all_six : (a b c d e f : Bool) → a ≡ true → b ≡ true → c ≡ true → d ≡ true → e ≡ true → f ≡ true → (a && b && c && d && e && f) ≡ true
all_six a b c d e f k l m n o p = rw (k, l, m, n, o, p) refl

sound_request : (i : Intent) → i.n < number_limit → IsShortKey i.topic → IsShortKey i.callback → IsShort i.echo → length i.secret ≤ secret_limit → is_grant i ≡ true → is_sound_intent i ≡ true
sound_request i n topic callback echo secret grant =
    all_six (nat_lt i.n number_limit) (is_key_text i.topic) (is_key_text i.callback) (is_text i.echo) (nat_le (length i.secret) secret_limit) (is_grant i) (below_bound i.n number_limit n) (key_of i.topic topic) (key_of i.callback callback) (text_of i.echo echo) (within_bound (length i.secret) secret_limit secret) grant

one_more : (s : ℕ) → s + 1 < number_limit → suc s < number_limit
one_more s k = omega arith

two_more : (s : ℕ) → s + 2 < number_limit → suc (max (suc s) s) < number_limit
two_more s k = omega arith

first_of_two : (s : ℕ) → s + 2 < number_limit → suc s < number_limit
first_of_two s k = omega arith

asked_commits : (h : List Event) (t : ℕ) (i : Intent) → Legal h → time h ≤ t → t < time_limit → serial h + 1 < number_limit → i.n ≡ suc (intent_number h) → is_sound_intent i ≡ true → MayCommit h t (Asked i ∷ [])
asked_commits h t i l k m room n sound =
    record {
      together = record { undone = refl; few = omega arith };
      legal = (l, asked_next t i h (one_more (serial h) room) k m n sound);
    }

denied_commits : (h : List Event) (t : ℕ) (i : Intent) (reason : List ℕ) → Legal h → time h ≤ t → t < time_limit → serial h + 2 < number_limit → i.n ≡ suc (intent_number h) → is_sound_intent i ≡ true → i.mode ≡ On → is_text reason ≡ true
    → MayCommit h t (Asked i ∷ Barred i.n reason ∷ [])
denied_commits h t i reason l k m room n sound on text =
    let asked = asked_next t i h (first_of_two (serial h) room) k m n sound in
    record {
      together = record { undone = refl; few = omega arith };
      legal = (
        (l, asked),
        barred_next t i reason (next t (Asked i) h ∷ h) (two_more (serial h) room) (time_now (time h) t k) m text (pending_now (next t (Asked i) h) i h l asked refl) (ap is_on on),
      );
    }

subscription_commits : (h : List Event) (t : ℕ) (i : Intent) (denied : Bool) → Legal h → time h ≤ t → t < time_limit
    → serial h + length (cond denied (Asked i ∷ Barred i.n (codes "topic not allowed") ∷ []) (Asked i ∷ [])) < number_limit
    → i.n ≡ suc (intent_number h) → is_sound_intent i ≡ true → i.mode ≡ On → MayCommit h t (cond denied (Asked i ∷ Barred i.n (codes "topic not allowed") ∷ []) (Asked i ∷ []))
subscription_commits h t i true l k m room n sound on = denied_commits h t i (codes "topic not allowed") l k m room n sound on refl
subscription_commits h t i false l k m room n sound on = asked_commits h t i l k m room n sound

both : (a b : Bool) → a ≡ true → b ≡ true → (a && b) ≡ true
both a b k l = rw (k, l) refl

subscribed : (h : List Event) (t : ℕ) (allow : List (List ℕ)) (alg : Alg) (topic echo callback secret : List ℕ) (granted : ℕ) (ws : List What) → Legal h → time h ≤ t → t < time_limit → IsSound (Subscribe topic echo callback secret granted)
    → subscribe_answer h t allow alg topic echo callback secret granted ≡ Events ws → MayCommit h t ws
subscribed h t allow alg topic echo callback secret granted ws l k m sound e =
    let i : Intent = record { n = suc (intent_number h); mode = On; topic = topic; echo = echo; callback = callback; secret = secret; granted = granted; alg = alg } in
    let a = within _ _ _ _ _ (within_leases h t (within_numbers h (subscription_events allow i))) ws e in
    let b = within _ _ _ _ _ (within_numbers h (subscription_events allow i)) ws a.answer in
    let c = within_all_numbers h (subscription_events allow i) ws l b.answer in
    subst (MayCommit h t) c.same
    (subscription_commits h t i (is_disallowed allow topic) l k m c.serials refl
    (sound_request i c.number sound.0 sound.2 sound.1 sound.3 (both (nat_le 60 granted) (nat_le granted 864000) (within_bound 60 granted sound.4) (within_bound granted 864000 sound.5))) refl)

unsubscribed : (h : List Event) (t : ℕ) (alg : Alg) (topic echo callback : List ℕ) (ws : List What) → Legal h → time h ≤ t → t < time_limit → IsSound (Unsubscribe topic echo callback) → unsubscribe_answer h alg topic echo callback ≡ Events ws → MayCommit h t ws
unsubscribed h t alg topic echo callback ws l k m sound e =
    let i : Intent = record { n = suc (intent_number h); mode = Off; topic = topic; echo = echo; callback = callback; secret = []; granted = 0; alg = alg } in
    let a = within _ _ _ _ _ (within_numbers h (Asked i ∷ [])) ws e in
    let c = within_all_numbers h (Asked i ∷ []) ws l a.answer in
    subst (MayCommit h t) c.same (asked_commits h t i l k m c.serials refl (sound_request i c.number sound.0 sound.2 sound.1 (omega arith) refl))

-- ---- pings

less_room : (s n : ℕ) → s + suc n < number_limit → max (suc s) s + n < number_limit
less_room s n k = omega arith

some_room : (s n : ℕ) → s + suc n < number_limit → suc s < number_limit
some_room s n k = omega arith

pings_legal : (topics : List (List ℕ)) (h : List Event) (t : ℕ) → Legal h → time h ≤ t → t < time_limit → AllByRecursion IsShortKey topics → serial h + length topics < number_limit → Legal (committed t (map (λ topic. Pinged topic) topics) h)
pings_legal [] h t l k m sound room = l
pings_legal (x ∷ xs) h t l k m sound room =
    pings_legal xs (next t (Pinged x) h ∷ h) t (l, pinged_next t x h (some_room (serial h) (length xs) room) k m (key_of x sound.0)) (time_now (time h) t k) m sound.1 (less_room (serial h) (length xs) room)

pings_undone : (topics : List (List ℕ)) → all_but_last can_be_undone (map (λ topic. Pinged topic) topics) ≡ true
pings_undone [] = refl
pings_undone (x ∷ []) = refl
pings_undone (x ∷ y ∷ xs) = pings_undone (y ∷ xs)

as_many : (topics : List (List ℕ)) → length (map (λ topic. Pinged topic) topics) ≡ length topics
as_many [] = refl
as_many (x ∷ xs) = ap suc (as_many xs)

fewer : (p : List ℕ → Bool) (xs : List (List ℕ)) → length (filter p xs) ≤ length xs
fewer p [] = omega arith
fewer p (x ∷ xs) = by (p x) (fewer p xs)
  where
    by : (b : Bool) → length (filter p xs) ≤ length xs → length (cond b (x ∷ filter p xs) (filter p xs)) ≤ suc (length xs)
    by true k = omega arith
    by false k = omega arith

mentioned_less : (xs : List (List ℕ)) → length (first_mentions xs) ≤ length xs
mentioned_less [] = omega arith
mentioned_less (x ∷ xs) =
    let a = fewer (λ y. not (bytes_eq x y)) (first_mentions xs) in
    let b = mentioned_less xs in
    omega (arith, a, b)

mentioned_sound : (xs : List (List ℕ)) → AllByRecursion IsShortKey xs → AllByRecursion IsShortKey (first_mentions xs)
mentioned_sound [] a = tt
mentioned_sound (x ∷ xs) a = (a.0, all_filter IsShortKey (λ y. not (bytes_eq x y)) (first_mentions xs) (mentioned_sound xs a.1))

few_enough : (a b c : ℕ) → a ≤ b → b ≤ c → c ≤ 16 → a ≤ 16
few_enough a b c k l m = omega arith

pings_commit : (h : List Event) (t : ℕ) (topics : List (List ℕ)) → Legal h → time h ≤ t → t < time_limit → AllByRecursion IsShortKey topics → length topics ≤ 16 → serial h + length (map (λ topic. Pinged topic) topics) < number_limit
    → MayCommit h t (map (λ topic. Pinged topic) topics)
pings_commit h t topics l k m sound few room =
    record {
      together = record { undone = pings_undone topics; few = subst (λ n. n ≤ 16) (sym (as_many topics)) few };
      legal = pings_legal topics h t l k m sound (subst (λ n. serial h + n < number_limit) (as_many topics) room);
    }

published : (h : List Event) (t : ℕ) (topics : List (List ℕ)) (ws : List What) → Legal h → time h ≤ t → t < time_limit → IsSound (Publish topics) → publish_answer h t topics ≡ Events ws → MayCommit h t ws
published h t topics ws l k m sound e =
    let named = filter (has_live_lease h t) (first_mentions topics) in
    let a = within (nat_lt (number_limit - 1) (serial h + length (map (λ topic. Pinged topic) named))) _ _ _ _ (Events (map (λ topic. Pinged topic) named)) ws e in
    subst (MayCommit h t) (same_events (map (λ topic. Pinged topic) named) ws a.answer)
    (pings_commit h t named l k m (all_filter IsShortKey (has_live_lease h t) (first_mentions topics) (mentioned_sound topics (recursion_from_All IsShortKey topics sound.0)))
    (few_enough (length named) (length (first_mentions topics)) (length topics) (fewer (has_live_lease h t) (first_mentions topics)) (mentioned_less topics) sound.1)
    (serials_left number_limit (serial h) (length (map (λ topic. Pinged topic) named)) positive a.room))

-- ---- all of them

pub answers_commit : AnswersCommit
answers_commit h t (Subscribe topic echo callback secret granted) policy ws l k m sound e = subscribed h t policy.allow policy.alg topic echo callback secret granted ws l k m sound e
answers_commit h t (Unsubscribe topic echo callback) policy ws l k m sound e = unsubscribed h t policy.alg topic echo callback ws l k m sound e
answers_commit h t (Publish topics) policy ws l k m sound e = published h t topics ws l k m sound e

-- ---- a revocation

found_among : (p : Lease → Bool) (ls : List Lease) (l : Lease) → find p ls ≡ Some l → list_any (λ m. m.intent.n == l.intent.n) ls ≡ true
found_among p [] l e = absurd (none_found l e)
  where
    none_found : (l : Lease) → None ≡ Some l → ⊥
    none_found l e = cc
found_among p (m ∷ ms) l e = by (p m) (found_among p ms l) e
  where
    same_lease : Some m ≡ Some l → m ≡ l
    same_lease e = cc

    by : (b : Bool) → (find p ms ≡ Some l → list_any (λ m. m.intent.n == l.intent.n) ms ≡ true) → cond b (Some m) (find p ms) ≡ Some l → ((m.intent.n == l.intent.n) || list_any (λ m. m.intent.n == l.intent.n) ms) ≡ true
    by true r e = or_left _ _ (subst (λ (x : Lease). (x.intent.n == l.intent.n) ≡ true) (sym (same_lease e)) (itself l.intent.n))
    by false r e = rest (m.intent.n == l.intent.n) (r e)
      where
        rest : (b : Bool) → list_any (λ m. m.intent.n == l.intent.n) ms ≡ true → (b || list_any (λ m. m.intent.n == l.intent.n) ms) ≡ true
        rest true k = refl
        rest false k = k

pub revocations_commit : RevocationsCommit
revocations_commit h t topic callback what l k m room e = by (live_lease_of h t topic callback) refl e
  where
    same_what : (v : What) → Some v ≡ Some what → v ≡ what
    same_what v e = cc

    none_is : None ≡ Some what → ⊥
    none_is e = cc

    by : (o : Option Lease) → live_lease_of h t topic callback ≡ o → option_map (λ l. Revoked l.intent.n (codes "subscription revoked")) o ≡ Some what → MayCommit h t (what ∷ [])
    by None f e = absurd (none_is e)
    by (Some x) f e =
        subst (λ w. MayCommit h t (w ∷ [])) (same_what (Revoked x.intent.n (codes "subscription revoked")) e)
        (record {
          together = record { undone = refl; few = omega arith };
          legal = (l, revoked_next t x.intent.n (codes "subscription revoked") h room k m refl (found_among (is_lease_of topic callback) (live h t) x f));
        })
