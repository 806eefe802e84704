-- What a form asks for (WebSub, sections 5.1 and 7). The first pair of a name counts.
use Rattle.std.specs.Prelude.{ℕ, Bool, not, ◌&&◌, ◌||◌, ◌==◌, nat_lt, min, max, List, [], ◌∷◌, length, Option, Some, None, Result, Ok, Err, if◌then◌else◌, codes, bytes_eq}
use Rattle.std.specs.List.{list_all}
use Rattle.std.specs.Char.{is_ascii_digit}
use Rattle.std.specs.Str.Lossy.{utf8_lossy}
use Rattle.form_urlencoded.specs.Form.{raw_pairs, decode}
use Rattle.ws_model.specs.Decimal.{number_of}
use Rattle.ws_target.specs.declared.fault.TargetFault.{TargetFault}
use Rattle.ws_target.specs.declared.fault.TargetFault.TheVariants as target
use Rattle.ws_target.specs.Keys.{key_or_fault}
use Rattle.ws_form.specs.declared.ask.Ask.{Ask}
use Rattle.ws_form.specs.declared.ask.Ask.TheVariants.{Subscribe, Unsubscribe, Publish}
use Rattle.ws_form.specs.declared.fault.AskFault.{AskFault}
use Rattle.ws_form.specs.declared.fault.AskFault.TheVariants.{ModeMissing, ModeUnknown, TopicMissing, TopicBad, CallbackMissing, CallbackBad, LeaseBad, SecretLong, UrlMissing, TooManyUrls, NoMemory}
use Rattle.ws_form.specs.declared.named.AskedTopic.{AskedTopic}

-- ---- fields (URL Standard, section 5.1)

-- the text that a name or a value stands for
abbrev pub text_of : List ℕ → List ℕ
text_of raw = utf8_lossy (decode raw)

-- the value of the first pair of that name
abbrev pub first_value : List ℕ → List (List ℕ × List ℕ) → Option (List ℕ)
first_value name [] = None
first_value name (pair ∷ pairs) =
    if bytes_eq (text_of pair.0) name then Some (text_of pair.1) else first_value name pairs

-- the value that a form has for a name
unfoldable pub field : List ℕ → List ℕ → Option (List ℕ)
field name body = first_value name (raw_pairs body)

-- the names under which a publisher tells its topics
abbrev pub is_topic_name : List ℕ → Bool
is_topic_name name = bytes_eq name (codes "hub.url") || bytes_eq name (codes "hub.topic")

-- the values of the pairs of these names, in their order
abbrev pub topic_values : List (List ℕ × List ℕ) → List (List ℕ)
topic_values [] = []
topic_values (pair ∷ pairs) =
    if is_topic_name (text_of pair.0) then text_of pair.1 ∷ topic_values pairs
    else topic_values pairs

-- the topics that a form tells
unfoldable pub topic_fields : List ℕ → List (List ℕ)
topic_fields body = topic_values (raw_pairs body)

-- ---- faults one after another

-- the first fault of the first; without one, what the second says of its value
abbrev pub and_then : {T U : Type 0} → Result T AskFault → (T → Result U AskFault) → Result U AskFault
and_then (Ok x) second = second x
and_then (Err fault) second = Err fault

-- the value turned by a function
abbrev pub with_value : {T U : Type 0} → (T → U) → Result T AskFault → Result U AskFault
with_value f (Ok x) = Ok (f x)
with_value f (Err fault) = Err fault

-- ---- topics and callbacks

-- the fault of a topic, and of a callback
abbrev pub topic_fault : TargetFault → AskFault
topic_fault target.NoMemory = NoMemory
topic_fault fault = TopicBad fault

abbrev pub callback_fault : TargetFault → AskFault
callback_fault target.NoMemory = NoMemory
callback_fault fault = CallbackBad fault

abbrev pub with_fault : (TargetFault → AskFault) → Result (List ℕ) TargetFault → Result (List ℕ) AskFault
with_fault f (Ok key) = Ok key
with_fault f (Err fault) = Err (f fault)

-- the key of a topic's text
unfoldable pub topic_key : Bool → List ℕ → Result (List ℕ) AskFault
topic_key gateway text = with_fault topic_fault (key_or_fault gateway text)

-- the key of a callback's text
unfoldable pub callback_key : Bool → List ℕ → Result (List ℕ) AskFault
callback_key gateway text = with_fault callback_fault (key_or_fault gateway text)

-- the topic, as its key and as it was written
abbrev pub topic_of : Bool → Option (List ℕ) → Result AskedTopic AskFault
topic_of gateway None = Err TopicMissing
topic_of gateway (Some text) =
    with_value (λ key. record { key = key; echo = text }) (topic_key gateway text)

unfoldable pub topic_in : Bool → List ℕ → Result AskedTopic AskFault
topic_in gateway body = topic_of gateway (field (codes "hub.topic") body)

abbrev pub callback_of : Bool → Option (List ℕ) → Result (List ℕ) AskFault
callback_of gateway None = Err CallbackMissing
callback_of gateway (Some text) = callback_key gateway text

unfoldable pub callback_in : Bool → List ℕ → Result (List ℕ) AskFault
callback_in gateway body = callback_of gateway (field (codes "hub.callback") body)

-- ---- leases and secrets

-- the longest and the shortest lease that is granted, in seconds (own)
abbrev pub longest_lease : ℕ
longest_lease = 864000

abbrev pub shortest_lease : ℕ
shortest_lease = 60

-- ASCII digits, not all of them 0
abbrev pub is_lease : List ℕ → Bool
is_lease text = list_all is_ascii_digit text && not (list_all (λ digit. digit == 48) text)

-- the lease that is granted for these digits: their number, brought into the bounds
unfoldable pub granted_for : List ℕ → ℕ
granted_for digits = max shortest_lease (min (number_of digits) longest_lease)

-- the lease that is granted; an empty value counts as none (WebSub, section 5.1.1)
abbrev pub lease_of : Option (List ℕ) → Result ℕ AskFault
lease_of None = Ok longest_lease
lease_of (Some []) = Ok longest_lease
lease_of (Some (digit ∷ digits)) =
    if is_lease (digit ∷ digits) then Ok (granted_for (digit ∷ digits)) else Err LeaseBad

unfoldable pub lease_in : List ℕ → Result ℕ AskFault
lease_in body = lease_of (field (codes "hub.lease_seconds") body)

-- the secret, of fewer than 200 bytes; without one it is empty (WebSub, section 5.1)
abbrev pub secret_of : Option (List ℕ) → Result (List ℕ) AskFault
secret_of None = Ok []
secret_of (Some text) = if nat_lt 199 (length text) then Err SecretLong else Ok text

unfoldable pub secret_in : List ℕ → Result (List ℕ) AskFault
secret_in body = secret_of (field (codes "hub.secret") body)

-- ---- asks

unfoldable pub subscription_in : Bool → List ℕ → Result Ask AskFault
subscription_in gateway body =
    and_then (topic_in gateway body) (λ topic.
    and_then (callback_in gateway body) (λ callback.
    and_then (lease_in body) (λ granted.
    with_value (λ secret. Subscribe topic.key topic.echo callback secret granted) (secret_in body))))

unfoldable pub unsubscription_in : Bool → List ℕ → Result Ask AskFault
unsubscription_in gateway body =
    and_then (topic_in gateway body) (λ topic.
    with_value (λ callback. Unsubscribe topic.key topic.echo callback) (callback_in gateway body))

-- the keys of some topics, or the fault of the first that has none
abbrev pub topic_keys : Bool → List (List ℕ) → Result (List (List ℕ)) AskFault
topic_keys gateway [] = Ok []
topic_keys gateway (text ∷ texts) =
    and_then (topic_key gateway text) (λ key.
    with_value (λ keys. key ∷ keys) (topic_keys gateway texts))

-- from 1 to 16 topics (own)
abbrev pub publication_of : Bool → List (List ℕ) → Result Ask AskFault
publication_of gateway [] = Err UrlMissing
publication_of gateway (text ∷ texts) =
    if nat_lt 16 (length (text ∷ texts)) then Err TooManyUrls
    else with_value Publish (topic_keys gateway (text ∷ texts))

unfoldable pub publication_in : Bool → List ℕ → Result Ask AskFault
publication_in gateway body = publication_of gateway (topic_fields body)

-- what a form of that mode asks for
abbrev pub ask_of : Option (List ℕ) → Bool → List ℕ → Result Ask AskFault
ask_of None gateway body = Err ModeMissing
ask_of (Some mode) gateway body =
    if bytes_eq mode (codes "subscribe") then subscription_in gateway body
    else (if bytes_eq mode (codes "unsubscribe") then unsubscription_in gateway body
    else (if bytes_eq mode (codes "publish") then publication_in gateway body
    else Err ModeUnknown))

-- what a form asks for, or its first fault
unfoldable pub ask_in : Bool → List ℕ → Result Ask AskFault
ask_in gateway body = ask_of (field (codes "hub.mode") body) gateway body
