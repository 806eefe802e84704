-- What compactions keep of histories, worked out by hand.
use Rattle.std.proofs.Common.{◌≡◌, ℕ, true, false, List, [], ◌∷◌, refl}
use Rattle.std.specs.Prelude.{map, codes}
use Rattle.ws_model.specs.declared.event.Event.{Event}
use Rattle.ws_model.specs.declared.event.Intent.{Intent}
use Rattle.ws_model.specs.declared.event.Version.{Version}
use Rattle.ws_model.specs.declared.event.What.{What}
use Rattle.ws_model.specs.declared.event.What.TheVariants.{Asked, Confirmed, Unheard, Barred, Noticed, Pinged, Fetched, Unfetched, Pushed, Tally, Revoked}
use Rattle.ws_model.specs.declared.event.Mode.TheVariants.{On}
use Rattle.ws_model.specs.declared.event.Alg.TheVariants.{Sha256}
use Rattle.ws_model.specs.declared.event.How.TheVariants.{Done, Missed}
use Rattle.ws_model.specs.declared.fate.Fate.{Fate}
use Rattle.ws_model.specs.declared.fate.Fate.TheVariants.{Owed, Ended}
use Rattle.ws_model.specs.declared.fate.Cause.TheVariants.{Expired, Replaced}
use Rattle.ws_model.specs.declared.answers.Settled.TheVariants.{Stale}
use Rattle.ws_model.specs.declared.work.Outcome.TheVariants.{Reply}
use Rattle.ws_model.specs.declared.work.Work.TheVariants.{Push}
use Rattle.ws_model.specs.Account.{account}
use Rattle.ws_model.specs.Fate.{fate}
use Rattle.ws_model.specs.Keep.{keep}
use Rattle.ws_model.specs.Pairs.{pairs}
use Rattle.ws_model.specs.Verdict.{verdict}
use Rattle.ws_model.specs.View.{view}

-- ---- the parts of histories

abbrev topic : List ℕ
topic = codes "http://pub.example/x"

abbrev callback : List ℕ
callback = codes "http://sub.example/cb"

abbrev other_callback : List ℕ
other_callback = codes "http://sub.example/cc"

abbrev subscription : ℕ → List ℕ → ℕ → Intent
subscription n to granted = record { n = n; mode = On; topic = topic; echo = topic; callback = to; secret = []; granted = granted; alg = Sha256 }

abbrev version : ℕ → ℕ → Version
version v upto = record { ver = v; topic = topic; upto = upto; media = codes "text/plain"; own_link = topic; body = codes "hello" }

abbrev event : ℕ → ℕ → What → Event
event s t w = record { serial = s; t = t; what = w }

-- the Tally of a compaction: its moment, the greatest serial, intent and version, and the pairs that were
-- forgotten as answered, expired and replaced
abbrev head : ℕ → ℕ → ℕ → ℕ → ℕ → ℕ → ℕ → Event
head now serial intent version answered expired replaced =
    event 0 0 (Tally (record { now = now; serial = serial; intent = intent; version = version; answered = answered; expired = expired; unsubscribed = 0; replaced = replaced; gone = 0; spent = 0; revoked = 0 }))

-- each pair's version, lease and fate at t
abbrev fates : List Event → ℕ → List (ℕ × ℕ × Fate)
fates h t = map (λ p. (p.version.ver, p.lease.intent.n, fate h p t)) (pairs h)

-- ---- compaction-keeps-counts: lease 2 has expired, and version 1 was answered by both

abbrev answered : List Event
answered =
    event 8 1003 (Pushed 1 2 Done) ∷ event 7 1002 (Pushed 1 1 Done) ∷ event 6 1001 (Fetched (version 1 5)) ∷ event 5 1001 (Pinged topic)
    ∷ event 4 1000 (Confirmed 2 1000) ∷ event 3 1000 (Confirmed 1 1000)
    ∷ event 2 1000 (Asked (subscription 2 other_callback 60)) ∷ event 1 1000 (Asked (subscription 1 callback 864000)) ∷ []

-- what is kept of it, with the moment of the compaction
abbrev kept_answered : ℕ → List Event
kept_answered now =
    event 7 1002 (Pushed 1 1 Done) ∷ event 6 1001 (Fetched (version 1 5)) ∷ event 3 1000 (Confirmed 1 1000)
    ∷ event 1 1000 (Asked (subscription 1 callback 864000)) ∷ head now 8 2 1 1 0 0 ∷ []

compaction_keeps_counts : keep answered 2000 ≡ kept_answered 2000
compaction_keeps_counts = refl

counts_before : (account answered 2000).answered ∷ (account answered 2000).leases ∷ (account answered 2000).topics ∷ [] ≡ 2 ∷ 1 ∷ 1 ∷ []
counts_before = refl

counts_after : account (keep answered 2000) 2000 ≡ account answered 2000
counts_after = refl

-- ---- a Keep of a Keep: a second compaction keeps the same events

keep_of_keep : keep (keep answered 2000) 3000 ≡ kept_answered 3000
keep_of_keep = refl

keep_at_once : keep answered 3000 ≡ kept_answered 3000
keep_at_once = refl

-- ---- compact-one-pending

abbrev one_pending : List Event
one_pending = event 1 1000 (Asked (subscription 1 callback 864000)) ∷ []

compact_one_pending : keep one_pending 1000 ≡ event 1 1000 (Asked (subscription 1 callback 864000)) ∷ head 1000 1 1 0 0 0 0 ∷ []
compact_one_pending = refl

-- an Unheard of a pending intent counts
compact_one_unheard : keep (event 2 1001 (Unheard 1) ∷ one_pending) 1001 ≡ event 2 1001 (Unheard 1) ∷ event 1 1000 (Asked (subscription 1 callback 864000)) ∷ head 1001 2 1 0 0 0 0 ∷ []
compact_one_unheard = refl

-- an Unheard of an intent that was confirmed since doesn't
compact_one_confirmed : keep (event 3 1002 (Confirmed 1 1002) ∷ event 2 1001 (Unheard 1) ∷ one_pending) 1002
    ≡ event 3 1002 (Confirmed 1 1002) ∷ event 1 1000 (Asked (subscription 1 callback 864000)) ∷ head 1002 3 1 0 0 0 0 ∷ []
compact_one_confirmed = refl

-- ---- compact-keeps-revocation: of two leases the first was revoked, and its callback is owed a notice

abbrev revoked : List Event
revoked =
    event 7 1000 (Revoked 1 (codes "subscription revoked")) ∷ event 6 1000 (Fetched (version 1 5)) ∷ event 5 1000 (Pinged topic)
    ∷ event 4 1000 (Confirmed 2 1000) ∷ event 3 1000 (Confirmed 1 1000)
    ∷ event 2 1000 (Asked (subscription 2 other_callback 864000)) ∷ event 1 1000 (Asked (subscription 1 callback 864000)) ∷ []

compact_keeps_revocation : keep revoked 1000
    ≡ event 7 1000 (Revoked 1 (codes "subscription revoked")) ∷ event 6 1000 (Fetched (version 1 5))
    ∷ event 4 1000 (Confirmed 2 1000) ∷ event 3 1000 (Confirmed 1 1000)
    ∷ event 2 1000 (Asked (subscription 2 other_callback 864000)) ∷ event 1 1000 (Asked (subscription 1 callback 864000)) ∷ head 1000 7 2 1 0 0 0 ∷ []
compact_keeps_revocation = refl

revoked_counted : (account (keep revoked 1000) 1000).revoked ∷ (account (keep revoked 1000) 1000).notices ∷ (account (keep revoked 1000) 1000).owed ∷ [] ≡ 1 ∷ 1 ∷ 1 ∷ []
revoked_counted = refl

-- ---- stale-after-compaction: the lease of an owed pair expired at 1060

abbrev expired : List Event
expired =
    event 4 1001 (Fetched (version 1 3)) ∷ event 3 1001 (Pinged topic) ∷ event 2 1000 (Confirmed 1 1000) ∷ event 1 1000 (Asked (subscription 1 callback 60)) ∷ []

compact_expired : keep expired 2000 ≡ event 4 1001 (Fetched (version 1 3)) ∷ head 2000 4 1 1 0 1 0 ∷ []
compact_expired = refl

stale_before_compaction : verdict expired 2000 (Push 1 1) 1001 [] topic (Reply (record { code = 200; media = []; coding = []; links = []; body = [] })) ≡ Stale (Ended Expired)
stale_before_compaction = refl

stale_after_compaction : verdict (keep expired 2000) 2000 (Push 1 1) 1001 [] topic (Reply (record { code = 200; media = []; coding = []; links = []; body = [] })) ≡ Stale (Ended Expired)
stale_after_compaction = refl

expired_counted : (account (keep expired 2000) 2000).expired ≡ 1
expired_counted = refl

-- ---- a chain of three renewals, and version 1 is owed to the last lease

abbrev renewals : List Event
renewals =
    event 10 1040 (Confirmed 4 1040) ∷ event 9 1040 (Asked (subscription 4 callback 864000))
    ∷ event 8 1030 (Confirmed 3 1030) ∷ event 7 1030 (Asked (subscription 3 callback 864000))
    ∷ event 6 1020 (Confirmed 2 1020) ∷ event 5 1020 (Asked (subscription 2 callback 864000))
    ∷ event 4 1001 (Fetched (version 1 3)) ∷ event 3 1001 (Pinged topic)
    ∷ event 2 1000 (Confirmed 1 1000) ∷ event 1 1000 (Asked (subscription 1 callback 864000)) ∷ []

-- all but the ping, which was answered
renewals_kept : keep renewals 1040
    ≡ event 10 1040 (Confirmed 4 1040) ∷ event 9 1040 (Asked (subscription 4 callback 864000))
    ∷ event 8 1030 (Confirmed 3 1030) ∷ event 7 1030 (Asked (subscription 3 callback 864000))
    ∷ event 6 1020 (Confirmed 2 1020) ∷ event 5 1020 (Asked (subscription 2 callback 864000))
    ∷ event 4 1001 (Fetched (version 1 3))
    ∷ event 2 1000 (Confirmed 1 1000) ∷ event 1 1000 (Asked (subscription 1 callback 864000)) ∷ head 1040 10 4 1 0 0 0 ∷ []
renewals_kept = refl

renewals_fates : fates (keep renewals 1040) 1040 ≡ (1, 4, Owed 0 1040) ∷ (1, 3, Ended Replaced) ∷ (1, 2, Ended Replaced) ∷ (1, 1, Ended Replaced) ∷ []
renewals_fates = refl

-- once version 1 is neither owed nor the latest, the replaced leases are forgotten, and counted
abbrev renewals_over : List Event
renewals_over =
    event 14 1061 (Pushed 2 4 (Missed 503)) ∷ event 13 1060 (Fetched (version 2 12)) ∷ event 12 1060 (Pinged topic) ∷ event 11 1050 (Pushed 1 4 Done) ∷ renewals

renewals_forgotten : keep renewals_over 1061
    ≡ event 14 1061 (Pushed 2 4 (Missed 503)) ∷ event 13 1060 (Fetched (version 2 12))
    ∷ event 10 1040 (Confirmed 4 1040) ∷ event 9 1040 (Asked (subscription 4 callback 864000)) ∷ head 1061 14 4 2 1 0 3 ∷ []
renewals_forgotten = refl

renewals_fates_over : fates (keep renewals_over 1061) 1061 ≡ (2, 4, Owed 1 1071) ∷ []
renewals_fates_over = refl

renewals_counted : account (keep renewals_over 1061) 1061 ≡ account renewals_over 1061
renewals_counted = refl

-- ---- a barred and a revoked notice, each once without a reply

abbrev denied : List Event
denied =
    event 8 1005 (Noticed 1 false) ∷ event 7 1004 (Noticed 2 false) ∷ event 6 1003 (Revoked 1 (codes "subscription revoked"))
    ∷ event 5 1002 (Barred 2 (codes "topic not allowed")) ∷ event 4 1002 (Asked (subscription 2 other_callback 60))
    ∷ event 3 1001 (Confirmed 1 1001) ∷ event 2 1000 (Unheard 1) ∷ event 1 1000 (Asked (subscription 1 callback 864000)) ∷ []

denied_kept : keep denied 1005
    ≡ event 8 1005 (Noticed 1 false) ∷ event 7 1004 (Noticed 2 false) ∷ event 6 1003 (Revoked 1 (codes "subscription revoked"))
    ∷ event 5 1002 (Barred 2 (codes "topic not allowed")) ∷ event 4 1002 (Asked (subscription 2 other_callback 60))
    ∷ event 3 1001 (Confirmed 1 1001) ∷ event 1 1000 (Asked (subscription 1 callback 864000)) ∷ head 1005 8 2 0 0 0 0 ∷ []
denied_kept = refl

denied_owed : (view (keep denied 1005) 1005).notices
    ≡ record { intent = subscription 2 other_callback 60; reason = codes "topic not allowed"; unheard = 1 }
    ∷ record { intent = subscription 1 callback 864000; reason = codes "subscription revoked"; unheard = 1 } ∷ []
denied_owed = refl

-- once both were heard, nothing of them is kept
denied_heard : keep (event 10 1006 (Noticed 1 true) ∷ event 9 1006 (Noticed 2 true) ∷ denied) 1006 ≡ head 1006 10 2 0 0 0 0 ∷ []
denied_heard = refl

-- ---- an owed fetch with two misses, and a miss before its ping

abbrev missed_fetch : ℕ → List Event → List Event
missed_fetch s h = event s 1001 (Unfetched topic 5 503) ∷ h

abbrev unfetched : List Event
unfetched =
    missed_fetch 7 (missed_fetch 6 (event 5 1001 (Pinged topic) ∷ event 4 1000 (Unfetched topic 3 503) ∷ event 3 1000 (Pinged topic)
    ∷ event 2 1000 (Confirmed 1 1000) ∷ event 1 1000 (Asked (subscription 1 callback 60)) ∷ []))

unfetched_kept : keep unfetched 1060 ≡ missed_fetch 7 (missed_fetch 6 (event 5 1001 (Pinged topic) ∷ head 1060 7 1 0 0 0 0 ∷ []))
unfetched_kept = refl

unfetched_owed : (view (keep unfetched 1060) 1060).fetches ≡ record { topic = topic; serial = 5; missed = 2 } ∷ []
unfetched_owed = refl

-- with a third miss the fetch is given up, and nothing of it is kept
unfetched_over : keep (missed_fetch 8 unfetched) 1060 ≡ head 1060 8 1 0 0 0 0 ∷ []
unfetched_over = refl
