-- What the outcome of a ticket's exchange makes of a history (WebSub sections 5.3 and 7; the numbers
-- of misses, equal fetches, the limits and the own link are own).
use Rattle.std.specs.Prelude.{ℕ, suc, ◌-◌, Bool, true, false, cond, not, ◌&&◌, ◌||◌, List, ◌∷◌, map, filter, find, length, nat_lt, nat_le, ◌==◌, bytes_eq, codes, Option, Some, None}
use Rattle.std.specs.List.{list_any, sum}
use Rattle.std.specs.Str.{str_eq_ignore_ascii_case}
use Rattle.std.specs.Option.{option_map}
use Rattle.ws_model.specs.declared.event.Event.{Event}
use Rattle.ws_model.specs.declared.event.What.{What}
use Rattle.ws_model.specs.declared.event.What.TheVariants.{Confirmed, Declined, Unheard, Noticed, Fetched, Same, Unfetched, Pushed}
use Rattle.ws_model.specs.declared.event.How.{How}
use Rattle.ws_model.specs.declared.event.How.TheVariants.{Done, Gone, Missed}
use Rattle.ws_model.specs.declared.event.Intent.{Intent}
use Rattle.ws_model.specs.declared.event.Version.{Version}
use Rattle.ws_model.specs.declared.fate.Fate.{Fate}
use Rattle.ws_model.specs.declared.fate.Fate.TheVariants.{Owed, Ended}
use Rattle.ws_model.specs.declared.fate.Cause.TheVariants.{Expired}
use Rattle.ws_model.specs.declared.work.Work.{Work}
use Rattle.ws_model.specs.declared.work.Work.TheVariants.{Verify, Notice, Fetch, Push}
use Rattle.ws_model.specs.declared.reply.Reply.{Reply as ReplyFields}
use Rattle.ws_model.specs.declared.work.Outcome.{Outcome}
use Rattle.ws_model.specs.declared.work.Outcome.TheVariants.{Reply, Lost, Late, TooLong, Garbled}
use Rattle.ws_model.specs.declared.answers.Settled.{Settled}
use Rattle.ws_model.specs.declared.answers.Settled.TheVariants.{Event as Happened, Stale}
use Rattle.ws_model.specs.Moment.{serial, version_number}
use Rattle.ws_model.specs.Intents.{asked}
use Rattle.ws_model.specs.Versions.{versions, latest, latest_of}
use Rattle.ws_model.specs.Fate.{Pair, fate}
use Rattle.ws_model.specs.Pairs.{pairs, owed}
use Rattle.ws_model.specs.Legal.{is_confirmed_in_time, number_limit}

-- ---- what an outcome is

-- 200 to 299
abbrev pub is_success : ℕ → Bool
is_success code = nat_le 200 code && nat_le code 299

-- the number of an outcome without a reply: 0 lost, 1 late, 2 too long, 3 garbled
abbrev pub miss_number : Outcome → ℕ
miss_number (Reply r) = r.code
miss_number Lost = 0
miss_number Late = 1
miss_number TooLong = 2
miss_number Garbled = 3

-- ---- verifications and notices

abbrev pub in_time_one : ℕ → ℕ → Option Intent → Bool
in_time_one sent t None = true
in_time_one sent t (Some i) = is_confirmed_in_time sent t i

-- the intent of this number
abbrev pub intent_of : List Event → ℕ → Option Intent
intent_of h n = find (λ i. i.n == n) (asked h)

-- a verification is confirmed by a 2xx whose body is the challenge, for a subscription before its
-- lease has expired; any other reply declines it
abbrev pub verify_verdict : List Event → ℕ → ℕ → ℕ → List ℕ → Outcome → What
verify_verdict h t n sent challenge (Reply r) =
    cond (is_success r.code && bytes_eq r.body challenge && in_time_one sent t (intent_of h n)) (Confirmed n sent) (Declined n r.code)
verify_verdict h t n sent challenge _ = Unheard n

abbrev pub notice_verdict : ℕ → Outcome → What
notice_verdict n (Reply r) = Noticed n true
notice_verdict n _ = Noticed n false

-- ---- fetches

-- a Content-Encoding that is neither empty nor identity
abbrev pub is_coded : ReplyFields → Bool
is_coded r = not ((length r.coding == 0) || str_eq_ignore_ascii_case r.coding (codes "identity"))

-- the latest version of the topic has this body and this type
abbrev pub is_same : ReplyFields → Option Version → Bool
is_same r None = false
is_same r (Some v) = bytes_eq v.body r.body && bytes_eq v.media r.media

-- the version is the latest of its topic, or owed to some lease at t
abbrev pub is_kept_version : List Event → ℕ → ℕ → Bool
is_kept_version h t v = list_any (λ w. w.ver == v) (latest h) || list_any (λ p. p.version.ver == v) (owed h t)

-- the bytes of the bodies that are kept at t
abbrev pub kept_bytes : List Event → ℕ → ℕ
kept_bytes h t = sum (map (λ v. length v.body) (filter (λ v. is_kept_version h t v.ver) (versions h)))

-- the greatest number of bytes of kept bodies
abbrev pub kept_limit : ℕ
kept_limit = 268435456

-- the greatest number of owed pairs
abbrev pub owed_limit : ℕ
owed_limit = 1000000

abbrev pub passes_limits : List Event → ℕ → Bool
passes_limits h t = nat_lt kept_limit (kept_bytes h t) || nat_lt owed_limit (length (owed h t))

abbrev pub fetched : List Event → ℕ → What → Event
fetched h t w = record { serial = suc (serial h); t = t; what = w }

abbrev pub new_version : List Event → List ℕ → ℕ → List ℕ → ReplyFields → Version
new_version h topic upto own_link r =
    record { ver = suc (version_number h); topic = topic; upto = upto; media = r.media; own_link = own_link; body = r.body }

-- a new version, but where the history with it would pass a limit, or no number is left
abbrev pub version_verdict : List Event → ℕ → Version → What
version_verdict h t v =
    cond (passes_limits (fetched h t (Fetched v) ∷ h) t || (version_number h == number_limit - 1)) (Unfetched v.topic v.upto 5) (Fetched v)

-- by the first that holds: a status other than 200, a coding, the latest version again
abbrev pub reply_verdict : List Event → ℕ → List ℕ → ℕ → List ℕ → ReplyFields → What
reply_verdict h t topic upto own_link r =
    cond (not (r.code == 200)) (Unfetched topic upto r.code)
    (cond (is_coded r) (Unfetched topic upto 4)
    (cond (is_same r (latest_of topic h)) (Same topic upto) (version_verdict h t (new_version h topic upto own_link r))))

abbrev pub fetch_verdict : List Event → ℕ → List ℕ → ℕ → List ℕ → Outcome → What
fetch_verdict h t topic upto own_link (Reply r) = reply_verdict h t topic upto own_link r
fetch_verdict h t topic upto own_link outcome = Unfetched topic upto (miss_number outcome)

-- ---- pushes

-- by a reply's status
abbrev pub push_answer : ℕ → How
push_answer code = cond (is_success code) Done (cond (code == 410) Gone (Missed code))

abbrev pub push_end : Outcome → How
push_end (Reply r) = push_answer r.code
push_end outcome = Missed (miss_number outcome)

-- a push of a pair with this fate: stale where the pair is no longer owed
abbrev pub push_verdict : Fate → ℕ → ℕ → Outcome → Settled
push_verdict (Owed tries next) v n outcome = Happened (Pushed v n (push_end outcome))
push_verdict fate v n outcome = Stale fate

-- the pair of these numbers
abbrev pub pair_of : List Event → ℕ → ℕ → Option Pair
pair_of h v n = find (λ p. (p.version.ver == v) && (p.lease.intent.n == n)) (pairs h)

-- the fate at t of the pair of these numbers, where there is such a pair
abbrev pub fate_of : List Event → ℕ → ℕ → ℕ → Option Fate
fate_of h v n t = option_map (λ p. fate h p t) (pair_of h v n)

-- the fate that a push is judged by. A push is only ever judged of a pair that the history has; that
-- any other counts as expired merely makes the definition whole.
abbrev pub fate_or_expired : Option Fate → Fate
fate_or_expired None = Ended Expired
fate_or_expired (Some f) = f

-- ---- all four

-- What an outcome makes at t of work whose ticket was drawn at `sent` with this challenge.
-- `own_link` is the self link that a fetch's reply gives: the target of its one unanchored link with
-- the relation `self`, resolved against the topic and without fragment, or else the topic's key. It
-- is an argument, since the grammar of Link fields and the resolving of URLs stand in crates of their
-- own above this one.
abbrev pub verdict : List Event → ℕ → Work → ℕ → List ℕ → List ℕ → Outcome → Settled
verdict h t (Verify n) sent challenge own_link outcome = Happened (verify_verdict h t n sent challenge outcome)
verdict h t (Notice n) sent challenge own_link outcome = Happened (notice_verdict n outcome)
verdict h t (Fetch topic upto) sent challenge own_link outcome = Happened (fetch_verdict h t topic upto own_link outcome)
verdict h t (Push v n) sent challenge own_link outcome = push_verdict (fate_or_expired (fate_of h v n t)) v n outcome
