-- Short histories, and what the definitions say of them by computing. The expected values were worked
-- out by hand.
use Rattle.std.specs.Prelude.{◌≡◌, ℕ, zero, suc, ◌+◌, ◌*◌, ◌^◌, ◌-◌, Bool, true, false, List, [], ◌∷◌, ◌++◌, map, length, refl, codes, Option, Some, None}
use Rattle.ws_model.specs.declared.event.Event.{Event}
use Rattle.ws_model.specs.declared.event.What.{What}
use Rattle.ws_model.specs.declared.event.What.TheVariants.{Asked, Confirmed, Declined, Unheard, Barred, Noticed, Pinged, Fetched, Same, Unfetched, Pushed, Tally, Revoked}
use Rattle.ws_model.specs.declared.event.Mode.TheVariants.{Off, On}
use Rattle.ws_model.specs.declared.event.Alg.TheVariants.{Sha256}
use Rattle.ws_model.specs.declared.event.How.TheVariants.{Done, Gone, Missed}
use Rattle.ws_model.specs.declared.event.Intent.{Intent}
use Rattle.ws_model.specs.declared.event.Version.{Version}
use Rattle.ws_model.specs.declared.event.Tally.{Tally as TallyFields}
use Rattle.ws_model.specs.declared.fate.Cause.TheVariants.{Expired, Unsubscribed, Replaced, Gone as LeaseGone, Spent, Revoked as LeaseRevoked}
use Rattle.ws_model.specs.declared.fate.Fate.{Fate}
use Rattle.ws_model.specs.declared.fate.Fate.TheVariants.{Answered, Owed, Ended}
use Rattle.ws_model.specs.declared.lease.Lease.{Lease}
use Rattle.ws_model.specs.declared.answers.Kind.TheVariants.{Numbers}
use Rattle.ws_model.specs.Answer.Answer.{Events, Full}
use Rattle.ws_model.specs.declared.account.Account.{Account}
use Rattle.ws_model.specs.declared.work.Work.{Work}
use Rattle.ws_model.specs.declared.work.Work.TheVariants.{Verify, Notice, Fetch, Push}
use Rattle.ws_model.specs.declared.reply.Reply.{Reply as ReplyFields}
use Rattle.ws_model.specs.declared.work.Outcome.{Outcome}
use Rattle.ws_model.specs.declared.work.Outcome.TheVariants.{Reply, Lost, Late}
use Rattle.ws_model.specs.declared.answers.Settled.{Settled}
use Rattle.ws_model.specs.declared.answers.Settled.TheVariants.{Event as Happened, Stale}
use Rattle.ws_laws.proofs.Known.{allowed}
use Rattle.ws_model.specs.Account.{account}
use Rattle.ws_model.specs.Answer.{held_leases, publish_answer, subscribe_answer}
use Rattle.ws_model.specs.Due.{due}
use Rattle.ws_model.specs.Fate.{fate}
use Rattle.ws_model.specs.Keep.{keep}
use Rattle.ws_model.specs.Key.{is_key}
use Rattle.ws_model.specs.Leases.{lease_end, leases, live}
use Rattle.ws_model.specs.Legal.{Legal, accepts}
use Rattle.ws_model.specs.Moment.{intent_number, last_time, serial, time, version_number}
use Rattle.ws_model.specs.Pairs.{pairs}
use Rattle.ws_model.specs.Revocation.{revocation}
use Rattle.ws_model.specs.Verdict.{kept_bytes, verdict}
use Rattle.ws_model.specs.Versions.{fetches}
use Rattle.ws_model.specs.View.{owed_fetch}

-- ---- the parts of histories

abbrev topic : List ℕ
topic = codes "http://pub.example/x"

abbrev callback : List ℕ
callback = codes "http://sub.example/cb"

abbrev other_callback : List ℕ
other_callback = codes "http://sub.example/cc"

abbrev subscription : ℕ → List ℕ → ℕ → Intent
subscription n to granted = record { n = n; mode = On; topic = topic; echo = topic; callback = to; secret = []; granted = granted; alg = Sha256 }

abbrev unsubscription : ℕ → List ℕ → Intent
unsubscription n to = record { n = n; mode = Off; topic = topic; echo = topic; callback = to; secret = []; granted = 0; alg = Sha256 }

abbrev version : ℕ → ℕ → Version
version v upto = record { ver = v; topic = topic; upto = upto; media = codes "text/plain"; own_link = topic; body = codes "hello" }

abbrev event : ℕ → ℕ → What → Event
event s t w = record { serial = s; t = t; what = w }

-- a lease of ten days from 1000 on
abbrev leased : List Event
leased = event 2 1000 (Confirmed 1 1000) ∷ event 1 1000 (Asked (subscription 1 callback 864000)) ∷ []

-- each pair's version, lease and fate at t
abbrev fates : List Event → ℕ → List (ℕ × ℕ × Fate)
fates h t = map (λ p. (p.version.ver, p.lease.intent.n, fate h p t)) (pairs h)

abbrev reply : ℕ → List ℕ → List ℕ → Outcome
reply code media body = Reply (record { code = code; media = media; coding = []; links = []; body = body })

-- ---- renewal-carries-owed-push

abbrev missed_twice : List Event
missed_twice =
    event 6 2010 (Pushed 1 1 (Missed 503)) ∷ event 5 2000 (Pushed 1 1 (Missed 503))
    ∷ event 4 2000 (Fetched (version 1 3)) ∷ event 3 1999 (Pinged topic) ∷ leased

abbrev renewal : List Event
renewal = event 8 2042 (Confirmed 2 2041) ∷ event 7 2041 (Asked (subscription 2 callback 864000)) ∷ missed_twice

before_renewal : fates missed_twice 2040 ≡ (1, 1, Owed 2 2040) ∷ []
before_renewal = refl

renewal_carries_owed_push : fates renewal 2042 ≡ (1, 2, Owed 0 2042) ∷ (1, 1, Ended Replaced) ∷ []
renewal_carries_owed_push = refl

renewal_due : due renewal 2042 [] ≡ Push 1 2 ∷ []
renewal_due = refl

renewal_due_held : due renewal 2042 (Push 1 2 ∷ []) ≡ []
renewal_due_held = refl

renewal_stale : verdict renewal 2042 (Push 1 1) 2040 [] topic (reply 200 [] []) ≡ Stale (Ended Replaced)
renewal_stale = refl

-- ---- eight-misses-spend: version 1 is born at 1000, version 2 at 1050

abbrev missed : ℕ → ℕ → List Event → List Event
missed s t h = event s t (Pushed 1 1 (Missed 0)) ∷ h

abbrev born : List Event
born = event 3 1000 (Fetched (version 1 2)) ∷ leased

abbrev three : List Event
three = missed 6 1040 (missed 5 1010 (missed 4 1000 born))

abbrev seven : List Event
seven = missed 11 5900 (missed 10 2300 (missed 9 1400 (missed 8 1100 (event 7 1050 (Fetched (version 2 6)) ∷ three))))

abbrev eight : List Event
eight = missed 12 16700 seven

first_try : fates born 1000 ≡ (1, 1, Owed 0 1000) ∷ []
first_try = refl

after_one : fates (missed 4 1000 born) 1000 ≡ (1, 1, Owed 1 1010) ∷ []
after_one = refl

after_three : fates three 1040 ≡ (1, 1, Owed 3 1100) ∷ []
after_three = refl

after_seven : fates seven 5900 ≡ (2, 1, Owed 0 1050) ∷ (1, 1, Owed 7 16700) ∷ []
after_seven = refl

none_before_its_time : due seven 16699 [] ≡ []
none_before_its_time = refl

only_the_lower : due seven 16700 [] ≡ Push 1 1 ∷ []
only_the_lower = refl

eight_misses_spend : fates eight 16700 ≡ (2, 1, Owed 0 1050) ∷ (1, 1, Ended Spent) ∷ []
eight_misses_spend = refl

second_after_spent : due eight 16700 [] ≡ Push 2 1 ∷ []
second_after_spent = refl

spent_counted : (account eight 16700).spent ≡ 1
spent_counted = refl

-- ---- gone-ends-lease-and-owed

abbrev gone : List Event
gone = event 5 2001 (Pushed 2 1 Gone) ∷ event 4 2000 (Fetched (version 3 3)) ∷ event 3 2000 (Fetched (version 2 2)) ∷ leased

gone_ends_lease_and_owed : fates gone 2001 ≡ (3, 1, Ended LeaseGone) ∷ (2, 1, Ended LeaseGone) ∷ []
gone_ends_lease_and_owed = refl

gone_counted : (account gone 2001).gone ∷ (account gone 2001).leases ∷ [] ≡ 2 ∷ 0 ∷ []
gone_counted = refl

gone_due : due gone 2001 [] ≡ []
gone_due = refl

-- ---- lease-measured-from-ticket

abbrev challenge : List ℕ
challenge = codes "0000000000000000000000000000000000000001"

abbrev short_asked : List Event
short_asked = event 1 1000 (Asked (subscription 1 callback 60)) ∷ []

abbrev short : List Event
short = event 2 1029 (Confirmed 1 1000) ∷ short_asked

lease_measured_from_ticket : length (live short 1059) ∷ length (live short 1060) ∷ [] ≡ 1 ∷ 0 ∷ []
lease_measured_from_ticket = refl

late_is_unheard : verdict short_asked 1030 (Verify 1) 1000 challenge topic Late ≡ Happened (Unheard 1)
late_is_unheard = refl

confirmed_in_time : verdict short_asked 1059 (Verify 1) 1000 challenge topic (reply 204 [] challenge) ≡ Happened (Confirmed 1 1000)
confirmed_in_time = refl

confirmed_too_late : verdict short_asked 1060 (Verify 1) 1000 challenge topic (reply 200 [] challenge) ≡ Happened (Declined 1 200)
confirmed_too_late = refl

challenge_with_line_feed_declined : verdict short_asked 1001 (Verify 1) 1000 challenge topic (reply 200 [] (challenge ++ 10 ∷ [])) ≡ Happened (Declined 1 200)
challenge_with_line_feed_declined = refl

-- ---- unsubscription-confirmed-or-declined

abbrev leaving : List Event
leaving = event 3 1001 (Asked (unsubscription 2 callback)) ∷ leased

unsubscription_confirmed : length (live (event 4 1002 (Confirmed 2 1001) ∷ leaving) 1002) ≡ 0
unsubscription_confirmed = refl

unsubscription_declined : length (live (event 4 1002 (Declined 2 404) ∷ leaving) 1002) ≡ 1
unsubscription_declined = refl

-- ---- three-unheard-then-next-intent

abbrev asked_twice : List Event
asked_twice = event 2 1000 (Asked (subscription 2 callback 864000)) ∷ event 1 1000 (Asked (subscription 1 callback 864000)) ∷ []

abbrev unheard_twice : List Event
unheard_twice = event 4 1000 (Unheard 1) ∷ event 3 1000 (Unheard 1) ∷ asked_twice

only_the_first : due unheard_twice 1000 [] ≡ Verify 1 ∷ []
only_the_first = refl

three_unheard_then_next_intent : due (event 5 1000 (Unheard 1) ∷ unheard_twice) 1000 [] ≡ Verify 2 ∷ []
three_unheard_then_next_intent = refl

-- ---- three-missed-fetches-then-new-ping, and a miss after that ping

abbrev missed_fetch : ℕ → List Event → List Event
missed_fetch s h = event s 1000 (Unfetched topic 3 503) ∷ h

abbrev fetched_in_vain : List Event
fetched_in_vain = missed_fetch 6 (missed_fetch 5 (missed_fetch 4 (event 3 1000 (Pinged topic) ∷ leased)))

owed_until_three : due (missed_fetch 5 (missed_fetch 4 (event 3 1000 (Pinged topic) ∷ leased))) 1000 [] ≡ Fetch topic 5 ∷ []
owed_until_three = refl

three_missed_fetches : length (fetches fetched_in_vain) ≡ 0
three_missed_fetches = refl

then_new_ping : length (fetches (event 7 1001 (Pinged topic) ∷ fetched_in_vain)) ≡ 1
then_new_ping = refl

miss_after_new_ping : map (owed_fetch (missed_fetch 8 (event 7 1001 (Pinged topic) ∷ fetched_in_vain))) (fetches (missed_fetch 8 (event 7 1001 (Pinged topic) ∷ fetched_in_vain))) ≡ record { topic = topic; serial = 7; missed = 1 } ∷ []
miss_after_new_ping = refl

-- ---- equal-fetch-is-same

abbrev pinged_again : List Event
pinged_again = event 5 1001 (Pinged topic) ∷ event 4 1000 (Fetched (version 1 3)) ∷ event 3 1000 (Pinged topic) ∷ leased

equal_fetch_is_same : verdict pinged_again 1001 (Fetch topic 5) 1001 [] topic (reply 200 (codes "text/plain") (codes "hello")) ≡ Happened (Same topic 5)
equal_fetch_is_same = refl

other_type_is_new : verdict pinged_again 1001 (Fetch topic 5) 1001 [] topic (reply 200 (codes "text/html") (codes "hello")) ≡ Happened (Fetched (record { ver = 2; topic = topic; upto = 5; media = codes "text/html"; own_link = topic; body = codes "hello" }))
other_type_is_new = refl

coded_is_missed : verdict pinged_again 1001 (Fetch topic 5) 1001 [] topic (Reply (record { code = 200; media = []; coding = codes "gzip"; links = []; body = [] })) ≡ Happened (Unfetched topic 5 4)
coded_is_missed = refl

identity_is_no_coding : verdict pinged_again 1001 (Fetch topic 5) 1001 [] topic (Reply (record { code = 200; media = codes "text/plain"; coding = codes "Identity"; links = []; body = codes "hello" })) ≡ Happened (Same topic 5)
identity_is_no_coding = refl

-- ---- answer-after-revoke-stale, compact-keeps-revocation

abbrev fanned_out : List Event
fanned_out =
    event 6 1000 (Fetched (version 1 5)) ∷ event 5 1000 (Pinged topic) ∷ event 4 1000 (Confirmed 2 1000) ∷ event 3 1000 (Confirmed 1 1000)
    ∷ event 2 1000 (Asked (subscription 2 other_callback 864000)) ∷ event 1 1000 (Asked (subscription 1 callback 864000)) ∷ []

abbrev revoked : List Event
revoked = event 7 1000 (Revoked 1 (codes "subscription revoked")) ∷ fanned_out

revokes_the_live_lease : revocation fanned_out 1000 topic callback ≡ Some (Revoked 1 (codes "subscription revoked"))
revokes_the_live_lease = refl

revokes_no_ended_lease : revocation revoked 1000 topic callback ≡ None
revokes_no_ended_lease = refl

answer_after_revoke_stale : verdict revoked 1000 (Push 1 1) 1000 [] topic (reply 200 [] []) ≡ Stale (Ended LeaseRevoked)
answer_after_revoke_stale = refl

revoked_counted : (account revoked 1000).owed ∷ (account revoked 1000).revoked ∷ (account revoked 1000).notices ∷ [] ≡ 1 ∷ 1 ∷ 1 ∷ []
revoked_counted = refl

-- a push to a revoked lease that is answered 410 can't come any more
no_gone_after_revoked : accepts revoked (event 8 1001 (Pushed 1 1 Gone)) ≡ false
no_gone_after_revoked = refl

compact_keeps_revocation : length (keep revoked 1000) ≡ 7
compact_keeps_revocation = refl

-- ---- compaction-keeps-counts

abbrev answered : List Event
answered =
    event 8 1003 (Pushed 1 2 Done) ∷ event 7 1002 (Pushed 1 1 Done) ∷ event 6 1001 (Fetched (version 1 5)) ∷ event 5 1001 (Pinged topic)
    ∷ event 4 1000 (Confirmed 2 1000) ∷ event 3 1000 (Confirmed 1 1000)
    ∷ event 2 1000 (Asked (subscription 2 other_callback 60)) ∷ event 1 1000 (Asked (subscription 1 callback 864000)) ∷ []

compaction_keeps_five : length (keep answered 2000) ≡ 5
compaction_keeps_five = refl

compaction_keeps_counts : account (keep answered 2000) 2000 ≡ account answered 2000
compaction_keeps_counts = refl

answered_counted : (account answered 2000).answered ∷ (account answered 2000).leases ∷ (account answered 2000).topics ∷ [] ≡ 2 ∷ 1 ∷ 1 ∷ []
answered_counted = refl

-- a lease that was replaced is kept with the one that took over what was owed to it
compaction_keeps_replaced : account (keep renewal 2042) 2042 ≡ account renewal 2042
compaction_keeps_replaced = refl

-- ---- kept-bodies-limit, in small

abbrev other_topic : List ℕ
other_topic = codes "http://pub.example/y"

abbrev content : ℕ → List ℕ → List ℕ → Version
content v of body = record { ver = v; topic = of; upto = 0; media = []; own_link = of; body = body }

abbrev two_topics : List Event
two_topics = event 2 1000 (Fetched (content 2 other_topic (codes "abc"))) ∷ event 1 1000 (Fetched (content 1 topic (codes "hello"))) ∷ []

kept_of_two : kept_bytes two_topics 1000 ≡ 8
kept_of_two = refl

-- the version before is kept no more, since no lease is owed it
kept_of_latest : kept_bytes (event 3 1000 (Fetched (content 3 topic (codes "x"))) ∷ two_topics) 1000 ≡ 4
kept_of_latest = refl

-- ---- lease-limit-full, in small

subscription_counts : held_leases (event 3 1001 (Asked (subscription 2 other_callback 864000)) ∷ leased) 1001 ≡ 2
subscription_counts = refl

unsubscription_counts_not : held_leases leaving 1001 ≡ 1
unsubscription_counts_not = refl

-- ---- answers

abbrev tallied_events : ℕ → ℕ → ℕ → List Event
tallied_events s i v = event 0 0 (Tally (record { now = 5000; serial = s; intent = i; version = v; answered = 2; expired = 0; unsubscribed = 0; replaced = 0; gone = 0; spent = 0; revoked = 0 })) ∷ []

numbers_used_up : subscribe_answer (tallied_events (2 ^ 63 - 1) 0 0) 5000 [] Sha256 topic topic callback [] 864000 ≡ Full Numbers (2 ^ 63 - 1) 1 (2 ^ 63 - 1)
numbers_used_up = refl

disallowed_topic_denied : subscribe_answer leased 1001 (codes "http://pub.example/news/" ∷ []) Sha256 topic topic callback [] 60 ≡ Events (Asked (subscription 2 callback 60) ∷ Barred 2 (codes "topic not allowed") ∷ [])
disallowed_topic_denied = refl

publish_pings_leased : publish_answer leased 1001 (other_topic ∷ topic ∷ topic ∷ []) ≡ Events (Pinged topic ∷ [])
publish_pings_leased = refl

-- ---- a Tally first

tallied_moment : time (tallied_events 9 4 3) ∷ serial (tallied_events 9 4 3) ∷ intent_number (tallied_events 9 4 3) ∷ version_number (tallied_events 9 4 3) ∷ [] ≡ 5000 ∷ 9 ∷ 4 ∷ 3 ∷ []
tallied_moment = refl

-- the events that a Tally is followed by are older than it
own_moment : last_time (event 1 1000 (Asked (subscription 1 callback 60)) ∷ tallied_events 9 4 3) ∷ time (event 1 1000 (Asked (subscription 1 callback 60)) ∷ tallied_events 9 4 3) ∷ [] ≡ 1000 ∷ 5000 ∷ []
own_moment = refl

tallied_account : (account (tallied_events 9 4 3) 5000).answered ≡ 2
tallied_account = refl

-- ---- at the expiry of a lease, 1060

abbrev short_owed : List Event
short_owed = event 4 1031 (Asked (subscription 2 callback 60)) ∷ event 3 1030 (Fetched (version 1 2)) ∷ short

renewed_in_time : fates (event 5 1059 (Confirmed 2 1058) ∷ short_owed) 1059 ≡ (1, 2, Owed 0 1059) ∷ (1, 1, Ended Replaced) ∷ []
renewed_in_time = refl

-- what has expired isn't carried over, and its cause stays
renewed_at_expiry : fates (event 5 1060 (Confirmed 2 1059) ∷ short_owed) 1060 ≡ (1, 1, Ended Expired) ∷ []
renewed_at_expiry = refl

left_at_expiry : map (λ l. lease_end (event 4 1060 (Confirmed 2 1059) ∷ event 3 1059 (Asked (unsubscription 2 callback)) ∷ short) l 1060) (leases short) ≡ Some Expired ∷ []
left_at_expiry = refl

left_before_expiry : map (λ l. lease_end (event 4 1059 (Confirmed 2 1058) ∷ event 3 1058 (Asked (unsubscription 2 callback)) ∷ short) l 1060) (leases short) ≡ Some Unsubscribed ∷ []
left_before_expiry = refl

-- ---- legal histories, where the topic and the callback are keys

legal_renewal : is_key topic ≡ true → is_key callback ≡ true → Legal renewal
legal_renewal k c = ((((((((tt, rw (k, c)), refl), rw k), rw k), refl), refl), rw (k, c)), refl)

legal_kept : is_key topic ≡ true → is_key callback ≡ true → Legal (keep answered 2000)
legal_kept k c = (((((tt, refl), rw (k, c)), refl), rw k), refl)
