-- What a settled ticket's work and outcome must be, and which own link its verdict takes (own; WebSub section 7 for the own link).
use Rattle.std.specs.Prelude.{◌≡◌, ℕ, true, is_some, List, Option}
use Rattle.ws_model.specs.declared.event.Event.{Event}
use Rattle.ws_model.specs.declared.event.Version.{Version}
use Rattle.ws_model.specs.declared.fate.Fate.{Fate}
use Rattle.ws_model.specs.declared.reply.Reply.{Reply as ReplyFields}
use Rattle.ws_model.specs.declared.work.Outcome.{Outcome}
use Rattle.ws_model.specs.declared.work.Outcome.TheVariants.{Reply}
use Rattle.ws_model.specs.declared.work.Work.{Work}
use Rattle.ws_model.specs.declared.work.Work.TheVariants.{Verify, Fetch, Push}
use Rattle.ws_model.specs.Legal.{pending_of}
use Rattle.ws_model.specs.Verdict.{fate_of}
use Rattle.ws_ownlink.specs.OwnLink.{IsOwnLink}

-- the content of a reply as a version of this number
abbrev pub content : ℕ → List ℕ → ℕ → List ℕ → ReplyFields → Version
content ver topic upto own_link r = record { ver = ver; topic = topic; upto = upto; media = r.media; own_link = own_link; body = r.body }

-- the own link of a reply to a fetch of the topic; where no reply came, any will do
abbrev pub IsReplyLink : List ℕ → Outcome → List ℕ → Type 0
IsReplyLink topic (Reply r) link = IsOwnLink topic r.links link
IsReplyLink topic _ link = Unit {0}

-- the own link that the verdict on this work takes; only that on a fetch takes one
abbrev pub IsLinkOf : Work → Outcome → List ℕ → Type 0
IsLinkOf (Fetch topic upto) outcome link = IsReplyLink topic outcome link
IsLinkOf _ outcome link = Unit {0}

-- a verification is of a pending intent, and the fate of a push's pair is that of the history
abbrev pub CanSettle : List Event → ℕ → Work → Option Fate → Type 0
CanSettle h t (Verify n) fate = is_some (pending_of h n) ≡ true
CanSettle h t (Push v n) fate = fate ≡ fate_of h v n t
CanSettle h t _ fate = Unit {0}
