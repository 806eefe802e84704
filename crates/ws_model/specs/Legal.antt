-- Which histories are legal (own; the grounds in WebSub stand at the definitions that are cited).
use Rattle.std.specs.Prelude.{◌≡◌, ℕ, ◌+◌, ◌-◌, ◌^◌, Bool, true, false, cond, not, ◌&&◌, ◌||◌, List, [], ◌∷◌, length, nat_lt, nat_le, ◌==◌, bytes_eq, is_some, get_or, Option, Some, None, find}
use Rattle.std.specs.List.{list_any}
use Rattle.std.specs.Char.{is_ascii_control}
use Rattle.ws_model.specs.declared.event.Event.{Event}
use Rattle.ws_model.specs.declared.event.What.{What}
use Rattle.ws_model.specs.declared.event.What.TheVariants.{Asked, Confirmed, Declined, Unheard, Barred, Noticed, Pinged, Fetched, Same, Unfetched, Pushed, Tally, Revoked}
use Rattle.ws_model.specs.declared.event.Tally.{Tally as TallyFields}
use Rattle.ws_model.specs.declared.event.Intent.{Intent}
use Rattle.ws_model.specs.declared.event.Version.{Version}
use Rattle.ws_model.specs.Key.{is_key}
use Rattle.ws_model.specs.Moment.{last_time, last_serial, last_intent, last_version}
use Rattle.ws_model.specs.Intents.{pending, notices, is_first}
use Rattle.ws_model.specs.Leases.{is_on, live}
use Rattle.ws_model.specs.Versions.{versions}
use Rattle.ws_model.specs.Pairs.{owed}

-- ---- what an event must be by itself

-- a number of an event, an intent or a version stays below this
abbrev pub number_limit : ℕ
number_limit = 2 ^ 63

-- a time stays below this
abbrev pub time_limit : ℕ
time_limit = 2 ^ 48

-- the greatest length of a text that is no body
abbrev pub text_limit : ℕ
text_limit = 900000

-- the greatest length of a body
abbrev pub body_limit : ℕ
body_limit = 4194304

-- the greatest length of a secret: WebSub section 5.1 wants less than 200 bytes
abbrev pub secret_limit : ℕ
secret_limit = 199

abbrev pub is_text : List ℕ → Bool
is_text text = nat_le (length text) text_limit

abbrev pub is_key_text : List ℕ → Bool
is_key_text text = is_text text && is_key text

-- a subscription is granted 60 to 864,000 seconds; an unsubscription has neither lease nor secret
abbrev pub is_grant : Intent → Bool
is_grant i = cond (is_on i.mode) (nat_le 60 i.granted && nat_le i.granted 864000) ((i.granted == 0) && (length i.secret == 0))

abbrev pub is_sound_intent : Intent → Bool
is_sound_intent i =
    nat_lt i.n number_limit && is_key_text i.topic && is_key_text i.callback && is_text i.echo
    && nat_le (length i.secret) secret_limit && is_grant i

abbrev pub is_blank : ℕ → Bool
is_blank c = (c == 32) || (c == 9)

-- no space and no tab at its ends
abbrev pub is_trimmed : List ℕ → Bool
is_trimmed text = not (is_blank (get_or text 0 0)) && not (is_blank (get_or text (length text - 1) 0))

abbrev pub has_byte : ℕ → List ℕ → Bool
has_byte b text = list_any (λ c. c == b) text

-- neither CR nor LF nor NUL: RFC 9110 section 5.5 has none of them in a field's value
abbrev pub is_field_value : List ℕ → Bool
is_field_value text = not (has_byte 13 text) && not (has_byte 10 text) && not (has_byte 0 text)

-- a media type that a head can carry: no CR, LF or NUL, and no space or tab at its ends
abbrev pub is_media : List ℕ → Bool
is_media text = is_field_value text && is_trimmed text

-- a link that a Link field can carry: no control byte and no `>`
abbrev pub is_link : List ℕ → Bool
is_link text = not (list_any (λ c. is_ascii_control c || (c == 62)) text)

abbrev pub is_sound_version : Version → Bool
is_sound_version v =
    nat_lt v.ver number_limit && is_key_text v.topic && is_text v.media && is_media v.media
    && is_text v.own_link && is_link v.own_link && nat_le (length v.body) body_limit

abbrev pub is_sound_tally : TallyFields → Bool
is_sound_tally c = nat_lt c.now time_limit && nat_lt c.serial number_limit && nat_lt c.intent number_limit && nat_lt c.version number_limit

-- the bounds of an event's fields by themselves, s being its serial
abbrev pub is_sound : ℕ → What → Bool
is_sound s (Asked i) = is_sound_intent i
is_sound s (Confirmed n sent) = true
is_sound s (Declined n code) = nat_le 200 code && nat_le code 999
is_sound s (Unheard n) = true
is_sound s (Barred n reason) = is_text reason
is_sound s (Noticed n heard) = true
is_sound s (Pinged topic) = is_key_text topic
is_sound s (Fetched v) = is_sound_version v && nat_lt v.upto s
is_sound s (Same topic upto) = is_text topic && nat_lt upto s
is_sound s (Unfetched topic upto why) = is_key_text topic && nat_lt upto s
is_sound s (Pushed v n how) = true
is_sound s (Tally c) = is_sound_tally c
is_sound s (Revoked n reason) = is_text reason

-- ---- what may come next

-- the pending intent of this number
abbrev pub pending_of : List Event → ℕ → Option Intent
pending_of h n = find (λ i. i.n == n) (pending h)

abbrev pub is_first_one : List Event → Option Intent → Bool
is_first_one h None = false
is_first_one h (Some i) = is_first h i

-- a subscription is confirmed before the lease that it makes has expired
abbrev pub is_confirmed_in_time : ℕ → ℕ → Intent → Bool
is_confirmed_in_time sent t i = not (is_on i.mode) || nat_lt t (sent + i.granted)

abbrev pub is_confirmable : List Event → ℕ → ℕ → Option Intent → Bool
is_confirmable h sent t None = false
is_confirmable h sent t (Some i) = is_first h i && nat_le sent t && is_confirmed_in_time sent t i

abbrev pub is_on_one : Option Intent → Bool
is_on_one None = false
is_on_one (Some i) = is_on i.mode

-- what an event asks of the history before it, t being the event's time
abbrev pub is_allowed : What → ℕ → List Event → Bool
is_allowed (Asked i) t h = nat_lt (last_intent h) i.n
is_allowed (Confirmed n sent) t h = is_confirmable h sent t (pending_of h n)
is_allowed (Declined n code) t h = is_first_one h (pending_of h n)
is_allowed (Unheard n) t h = is_first_one h (pending_of h n)
is_allowed (Barred n reason) t h = is_on_one (pending_of h n)
is_allowed (Noticed n heard) t h = is_some (find (λ i. i.n == n) (notices h))
is_allowed (Pinged topic) t h = true
is_allowed (Fetched v) t h = nat_lt (last_version h) v.ver
is_allowed (Same topic upto) t h = list_any (λ v. bytes_eq v.topic topic) (versions h)
is_allowed (Unfetched topic upto why) t h = true
is_allowed (Pushed v n how) t h = list_any (λ p. (p.version.ver == v) && (p.lease.intent.n == n)) (owed h t)
is_allowed (Tally c) t h = true
is_allowed (Revoked n reason) t h = list_any (λ l. l.intent.n == n) (live h t)

-- a Tally stands only first, with serial and time 0
abbrev pub is_first_tally : Event → List Event → Bool
is_first_tally e [] = (e.serial == 0) && (e.t == 0)
is_first_tally e (f ∷ h) = false

-- serials rise strictly and times never fall, and both stay below their limits
abbrev pub is_in_order : Event → List Event → Bool
is_in_order e h = nat_lt (last_serial h) e.serial && nat_lt e.serial number_limit && nat_le (last_time h) e.t && nat_lt e.t time_limit

abbrev pub accepts_what : Event → List Event → What → Bool
accepts_what e h (Tally c) = is_first_tally e h && is_sound e.serial (Tally c)
accepts_what e h w = is_in_order e h && is_sound e.serial w && is_allowed w e.t h

-- whether the event may come after the history
abbrev pub accepts : List Event → Event → Bool
accepts h e = accepts_what e h e.what

-- each event may come after those before it
abbrev pub Legal : List Event → Type 0
Legal [] = Unit {0}
Legal (e ∷ h) = Legal h × (accepts h e ≡ true)
