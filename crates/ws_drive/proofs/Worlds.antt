-- What a call of a port makes of the world that it stands for.
use Rattle.std.proofs.Common.{◌≡◌, ◌≢◌, ◌⊎◌, ℕ, ◌≤◌, ◌+◌, ◌-◌, ◌^◌, min, max, Bool, true, false, List, [], ◌∷◌, ◌++◌, length, refl, sym, ap, ◌∙◌, subst, arith, Option, Some, None, Result, Ok, Err, IfOk, inl, inr}
use Rattle.std.specs.Io.KnownBytes.{Consumes, Appends}
use Rattle.ws_model.specs.declared.account.Account.{Account}
use Rattle.ws_model.specs.declared.answers.Kind.{Kind}
use Rattle.ws_model.specs.declared.answers.Kind.TheVariants.{Pending, Leases, Numbers, Journal}
use Rattle.ws_model.specs.declared.event.Event.{Event}
use Rattle.ws_model.specs.declared.event.What.{What}
use Rattle.ws_model.specs.declared.settings.Settings.{Settings}
use Rattle.ws_model.specs.Account.{account}
use Rattle.ws_model.specs.Answer.{Answer, Events, Full}
use Rattle.ws_model.specs.Moment.{time}
use Rattle.ws_form.specs.declared.ask.Ask.{Ask}
use Rattle.ws_form.specs.declared.fault.AskFault.{AskFault}
use Rattle.ws_form.specs.declared.fault.AskFault.TheVariants.{NoMemory as Starved}
use Rattle.ws_form.specs.Answers.{Gives}
use Rattle.ws_form.specs.Form.{ask_in}
use Rattle.ws_port.specs.declared.fault.DeskFault.{DeskFault}
use Rattle.ws_port.specs.declared.fault.DeskFault.TheVariants.{Disk, Full as IsFull, NoMemory}
use Rattle.ws_port.specs.declared.port.Told.{Told}
use Rattle.ws_port.specs.Calls.{Accounts, Answered, HubTime, IsUnstored, Said, committed, last_moment, uses_time, FullBy}
use Rattle.ws_port.specs.Requests.{answer}
use Rattle.ws_front.specs.declared.served.Served.{Served}
use Rattle.ws_front.specs.Answers.{Response, Heard, nothing, wanting, request, FormAnswers, desk_response, fault_response, no_memory}
use Rattle.ws_front.specs.Connection.{Hears as PortHears, IsServed, Serves, WasAsked}
use Rattle.ws_script.specs.declared.script.Happening.{Happening}
use Rattle.ws_script.specs.declared.script.Happening.TheVariants as happens
use Rattle.ws_script.specs.Script.{is_end}
use Rattle.ws_drive.specs.Standing.{IsWorld}
use Rattle.ws_drive.specs.World.{World, now, with_events, Tells, Hears, Forms, Connects, Refuses, answer_line, connection_text, is_over}

-- a hub without a journal
abbrev Unstored : Result Told DeskFault → Type 0
Unstored said = IsUnstored said

module _ {P : Type 0} (seen : P → List Event → Type 0) (settings : P → Settings) (moment : P → ℕ) where
  -- the port stands for a world with the clock
  Stands : ℕ → P → World → Type 0
  Stands clock port w = IsWorld seen settings moment clock port w

  -- ---- the hub time

  time_is : (clock m : ℕ) (w : World) → clock ≡ w.clock → m ≡ w.used → time w.history ≤ m → max (min clock last_moment) m ≡ now w
  time_is clock m w c u late = omega (arith, c, u)

  module _ (sole : Bool) (alone : sole ≡ true) where
    -- the history that a call is answered at is the one that was seen
    answered_at : (uses : Bool) (t : ℕ) (Says : List Event → List What → Type 0) (new : P) (h : List Event) → Answered sole (seen new) uses t Says h
        → (made : List What) × Says h made × seen new (committed t made h)
    answered_at uses t Says new h a =
        let none : a.since ++ h ≡ h = ap (λ s. s ++ h) (a.alone alone) in
        (a.made, subst (λ g. Says g a.made) none a.said, subst (λ g. seen new (committed t a.made g)) none a.seen)

    module _ (clock : ℕ) (old new : P) (w : World) (stands : IsWorld seen settings moment clock old w) (late : time w.history ≤ moment old) (same : settings new ≡ settings old) where
      later : (uses : Bool) → uses ≡ true → HubTime sole uses clock (moment old) (moment new) → moment new ≡ now w
      later true e time_of = time_of.alone alone ∙ time_is clock (moment old) w stands.clock_is stands.used_is late
      later false e time_of = absurd (cc)

      -- the world after a call that used its time and made these events
      reached : (made : List What) → moment new ≡ now w → seen new (committed (moment new) made w.history) → IsWorld seen settings moment clock new (with_events made w)
      reached made e s = record {
        set = same ∙ stands.set;
        clock_is = stands.clock_is;
        used_is = e;
        has_seen = subst (λ t. seen new (committed t made w.history)) e s;
      }

      -- the world after a call that used none and made none
      stayed : moment new ≡ moment old → seen new w.history → IsWorld seen settings moment clock new w
      stayed e s = record { set = same ∙ stands.set; clock_is = stands.clock_is; used_is = e ∙ stands.used_is; has_seen = s }

      full_of : (a : Answer) (kind : Kind) (held asked limit : ℕ) → Unstored (Err (IsFull kind held asked limit)) → FullBy a kind held asked limit → a ≡ Full kind held asked limit
      full_of a Pending held asked limit u f = f
      full_of a Leases held asked limit u f = f
      full_of a Numbers held asked limit u f = f
      full_of a Journal held asked limit u f = absurd u

      pub tells : (a : List Event → ℕ → Answer) (said : Result Told DeskFault)
          → Answered sole (seen new) (uses_time said) (moment new) (Said (λ g. a g (moment new)) said) w.history
          → HubTime sole (uses_time said) clock (moment old) (moment new) → IsUnstored said
          → (w' : World) × Tells w (a w.history (now w)) said w' × IsWorld seen settings moment clock new w'
      tells a (Ok told) answered hub_time unstored =
          let p = answered_at true (moment new) (Said (λ g. a g (moment new)) (Ok told)) new w.history answered in
          let e : moment new ≡ now w = later true refl hub_time in (
            with_events p.0 w,
            (p.0, subst (λ t. a w.history t ≡ Events p.0) e p.1.0, p.1.1, p.1.2, refl),
            reached p.0 e p.2,
          )
      tells a (Err (IsFull kind held asked limit)) answered hub_time unstored =
          let p = answered_at true (moment new) (Said (λ g. a g (moment new)) (Err (IsFull kind held asked limit))) new w.history answered in
          let e : moment new ≡ now w = later true refl hub_time in
          let none : seen new w.history = subst (λ made. seen new (committed (moment new) made w.history)) p.1.0 p.2 in (
            with_events [] w,
            (subst (λ t. a w.history t ≡ Full kind held asked limit) e (full_of _ kind held asked limit unstored p.1.1), refl),
            reached [] e none,
          )
      tells a (Err Disk) answered hub_time unstored = absurd unstored
      tells a (Err NoMemory) answered hub_time unstored =
          let p = answered_at false (moment new) (Said (λ g. a g (moment new)) (Err NoMemory)) new w.history answered in
          let none : seen new w.history = subst (λ made. seen new (committed (moment new) made w.history)) p.1 p.2 in
          (w, refl, stayed hub_time none)

      -- the account
      pub accounted : (r : Account) → Answered sole (seen new) true (moment new) (Accounts (moment new) r) w.history → HubTime sole true clock (moment old) (moment new)
          → (r ≡ account w.history (now w)) × IsWorld seen settings moment clock new (with_events [] w)
      accounted r answered hub_time =
          let p = answered_at true (moment new) (Accounts (moment new) r) new w.history answered in
          let e : moment new ≡ now w = later true refl hub_time in
          let none : seen new w.history = subst (λ made. seen new (committed (moment new) made w.history)) p.1.0 p.2 in
          (p.1.1 ∙ ap (account w.history) e, reached [] e none)

    -- a request that a port was asked
    pub requested : (clock : ℕ) (old new : P) (w : World) (stands : IsWorld seen settings moment clock old w) (late : time w.history ≤ moment old) (same : settings new ≡ settings old)
        (ask : Ask) (said : Result Told DeskFault)
        → Answered sole (seen new) (uses_time said) (moment new) (Said (λ g. answer g (moment new) ask (settings old).policy) said) w.history
        → HubTime sole (uses_time said) clock (moment old) (moment new) → IsUnstored said
        → (w' : World) × Tells w (answer w.history (now w) ask w.settings.policy) said w' × IsWorld seen settings moment clock new w'
    requested clock old new w stands late same ask said answered hub_time unstored =
        let policy = ap (λ (s : Settings). s.policy) stands.set in
        tells clock old new w stands late same (λ g t. answer g t ask w.settings.policy) said
        (subst (λ p. Answered sole (seen new) (uses_time said) (moment new) (Said (λ g. answer g (moment new) ask p) said) w.history) policy answered)
        hub_time unstored

    -- what a port heard
    module _ (stored : Bool) (apart : stored ≡ false) (faults : P → ℕ) (clock : ℕ) (old new : P) (w : World) (stands : IsWorld seen settings moment clock old w) (late : time w.history ≤ moment old)
        (same : settings new ≡ settings old) where
      pub hears : (heard : Heard) → PortHears sole stored seen settings moment faults clock old new heard
          → (w' : World) × Hears w heard w' × IsWorld seen settings moment clock new w'
      hears nothing e = (w, refl, subst (λ p. IsWorld seen settings moment clock p w) (sym e) stands)
      hears wanting e = (w, refl, subst (λ p. IsWorld seen settings moment clock p w) (sym e) stands)
      hears (request ask said) asked =
          requested clock old new w stands late same ask said (asked.answered w.history stands.has_seen) asked.time (asked.unstored apart)

      -- a connection that is over
      pub connected : (hub_policy : Settings) (bytes : List ℕ) (left' : Option (List ℕ)) (out : List ℕ) (written : List ℕ) (served : Served)
          → hub_policy ≡ w.settings → is_over served ≡ true
          → Serves hub_policy.policy (Some bytes) left' (Some []) (Some out) (PortHears sole stored seen settings moment faults clock old new) served
          → written ≡ connection_text out
          → (w' : World) × Connects w bytes written w' × IsWorld seen settings moment clock new w'
      connected set bytes None out written served same_set over s text = absurd s.read
      connected set bytes (Some rest) out written served same_set over s text =
          let p = hears s.heard s.port in (
            p.0,
            record {
              heard = s.heard;
              served = served;
              taken = s.bytes;
              out = s.out;
              over = over;
              part = (rest, sym s.read);
              served_is = subst (λ (x : Settings). IsServed x.policy (Some bytes) s.bytes s.out s.heard served) same_set s.served_is;
              text = text ∙ ap connection_text s.wrote;
              hears = p.1;
            },
            p.2,
          )

-- ---- forms

-- a form with a fault
pub refused : (w : World) (gateway : Bool) (body written : List ℕ) (fault : AskFault) → gateway ≡ w.settings.policy.gateway
    → Gives (ask_in gateway body) (Err fault) → Refuses fault written → Forms w body written w
refused w gateway body written fault e gives (inl line) =
    record { heard = wanting; response = no_memory; answers = refl; line = line; hears = refl }
refused w gateway body written fault e gives (inr r) =
    let meant : ask_in w.settings.policy.gateway body ≡ Err fault = subst (λ g. ask_in g body ≡ Err fault) e (gives r.0) in record {
      heard = nothing;
      response = fault_response fault;
      answers = subst (λ m. FormAnswers nothing m (fault_response fault)) (sym meant) refl;
      line = r.1;
      hears = refl;
    }

-- a form that asks for something
pub asked : (w w' : World) (gateway : Bool) (body written : List ℕ) (ask : Ask) (said : Result Told DeskFault) → gateway ≡ w.settings.policy.gateway
    → Gives (ask_in gateway body) (Ok ask) → written ≡ answer_line (desk_response said)
    → Tells w (answer w.history (now w) ask w.settings.policy) said w' → Forms w body written w'
asked w w' gateway body written ask said e gives line tells = record {
  heard = request ask said;
  response = desk_response said;
  answers = (subst (λ g. ask_in g body ≡ Ok ask) e gives, refl);
  line = line;
  hears = tells;
}

-- what stands where the call went well
pub if_ok : {T E : Type 0} {Q R : T → Type 0} (r : Result T E) → IfOk r Q → ((x : T) → Q x → R x) → IfOk r R
if_ok (Ok x) is f = f x is
if_ok (Err e) is f = tt

-- a happening that isn't `end`
pub not_end : (h : Happening) → h ≢ happens.End → is_end h ≡ false
not_end (happens.At t) other = refl
not_end (happens.Form body) other = refl
not_end (happens.In bytes) other = refl
not_end (happens.Revoke topic callback) other = refl
not_end happens.Sum other = refl
not_end happens.End other = absurd (other refl)
