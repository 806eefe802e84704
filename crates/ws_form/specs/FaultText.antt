-- The texts of the faults (own).
use Rattle.std.specs.Prelude.{ℕ, List, ◌++◌, codes}
use Rattle.ws_target.specs.declared.fault.TargetFault.{TargetFault}
use Rattle.ws_target.specs.declared.fault.TargetFault.TheVariants as target
use Rattle.ws_form.specs.declared.fault.AskFault.{AskFault}
use Rattle.ws_form.specs.declared.fault.AskFault.TheVariants.{ModeMissing, ModeUnknown, TopicMissing, TopicBad, CallbackMissing, CallbackBad, LeaseBad, SecretLong, UrlMissing, TooManyUrls, NoMemory}

-- why a text has no key
abbrev pub reason : TargetFault → List ℕ
reason (target.TooLong len) = codes "too long"
reason target.NotUrl = codes "not a URL"
reason target.SchemeNotServed = codes "scheme not served"
reason target.UserInfo = codes "user info"
reason target.NoMemory = codes "no memory"

-- the text of a fault
abbrev pub fault_text : AskFault → List ℕ
fault_text ModeMissing = codes "hub.mode missing"
fault_text ModeUnknown = codes "hub.mode unknown"
fault_text TopicMissing = codes "hub.topic missing"
fault_text (TopicBad fault) = codes "hub.topic: " ++ reason fault
fault_text CallbackMissing = codes "hub.callback missing"
fault_text (CallbackBad fault) = codes "hub.callback: " ++ reason fault
fault_text LeaseBad = codes "hub.lease_seconds bad"
fault_text SecretLong = codes "hub.secret too long"
fault_text UrlMissing = codes "hub.url missing"
fault_text TooManyUrls = codes "too many topics"
fault_text NoMemory = codes "no memory"
