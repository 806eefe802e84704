-- A request that was read and its answer, put together.
use Rattle.std.proofs.Common.{◌≡◌, ℕ, ◌≤◌, ◌<◌, Bool, List, ◌++◌, refl, sym, ap, ◌∙◌, subst, arith, Option, Ok, Err, inl, inr}
use Rattle.std.specs.Io.KnownBytes.{Consumes, Appends}
use Rattle.ws_model.specs.declared.event.Event.{Event}
use Rattle.ws_model.specs.declared.settings.Policy.{Policy}
use Rattle.ws_model.specs.declared.settings.Settings.{Settings}
use Rattle.ws_model.specs.Cause.{Rose}
use Rattle.ws_form.specs.declared.ask.Ask.{Ask}
use Rattle.ws_http.specs.Requests.{Verdict}
use Rattle.ws_port.specs.declared.fault.DeskFault.TheVariants.{Disk}
use Rattle.ws_front.specs.declared.message.Message.{Message}
use Rattle.ws_front.specs.declared.read.Stop.{Stop}
use Rattle.ws_front.specs.declared.read.Stop.TheVariants as stop
use Rattle.ws_front.specs.declared.served.Served.{Served}
use Rattle.ws_front.specs.declared.served.Served.TheVariants as how
use Rattle.ws_front.specs.Rules.{Ruling}
use Rattle.ws_front.specs.Answers.{Response, Heard, nothing, wanting, request, Answers, response_bytes}
use Rattle.ws_front.specs.Connection.{Hears, Serves, HasServedCause}
use Rattle.ws_front.specs.Requesting.{RulingIs, Requests, IsMessage, HasStopCause}
use Rattle.ws_front.specs.Responding.{Finishes, Sends, HasSendCause}
use Rattle.ws_front.proofs.Known.{Appends-then}
use Rattle.ws_front.proofs.Responding.{only_disk}

-- how serving ends where no message was read
abbrev pub ends_so : Stop → Served
ends_so stop.Empty = how.Empty
ends_so stop.Cut = how.Cut
ends_so stop.ReadFault = how.ReadFault
ends_so stop.WriteFault = how.WriteFault

module _ (policy : Policy) (left left' written written' : Option (List ℕ)) (PortHears : Heard → Type 0) (v : Verdict) where
  module _ (written'' : Option (List ℕ)) (bytes out : List ℕ) (message : Message) (read : Consumes left left' bytes) (wrote : Appends written written' out)
      (is : IsMessage policy.hub bytes out message v) (heard : Heard) (r : Response) (answers : Answers policy.gateway is.says.ruling heard r) (port : PortHears heard) where
    answered : (served : Served) → Sends r written' written'' served → Serves policy left left' written written'' PortHears served
    answered (how.Answered code) s = record {
      heard = heard;
      bytes = bytes;
      out = out ++ response_bytes r;
      read = read;
      wrote = Appends-then written written' written'' out (response_bytes r) wrote s.1;
      served_is = record {
        response = r;
        code_is = sym s.0;
        bytes_are = record {
          says = is.says;
          rules = is.rules;
          answers = answers;
          text = ap (λ (t : List ℕ). t ++ response_bytes r) is.line;
        };
        interim = is.interim;
        at_once = is.at_once;
      };
      port = port;
    }
    answered how.WriteFault s = record {
      heard = heard;
      bytes = bytes;
      out = out ++ s.0;
      read = read;
      wrote = Appends-then written written' written'' out s.0 wrote s.1;
      served_is = inr (record {
        response = r;
        due = is.says.interim;
        bytes_are = record { says = is.says; rules = is.rules; answers = answers; text = refl };
        part = s.0;
        line = ap (λ (t : List ℕ). t ++ s.0) is.line;
        is_part = s.2;
        interim = is.interim;
        at_once = is.at_once;
      });
      port = port;
    }
    answered how.Empty s = absurd s
    answered how.Cut s = absurd s
    answered how.ReadFault s = absurd s
    answered how.NoMemory s = absurd s

  -- a message was read, and answered
  pub serves_message : (written'' : Option (List ℕ)) (message : Message) (served : Served) → Requests policy.hub left left' written written' v (Ok message)
      → ((ruling : Ruling) → RulingIs message v ruling → Finishes policy.gateway ruling PortHears written' written'' served)
      → Serves policy left left' written written'' PortHears served
  serves_message written'' message served q finish =
      let f = finish q.is.says.ruling q.is.message_is in
      answered written'' q.bytes q.out message q.read q.wrote q.is f.heard f.response f.answers f.port served f.sends

  -- no message was read
  pub serves_none : PortHears nothing → (s : Stop) → Requests policy.hub left left' written written' v (Err s) → Serves policy left left' written written' PortHears (ends_so s)
  serves_none port stop.Empty q =
      record { heard = nothing; bytes = q.bytes; out = q.out; read = q.read; wrote = q.wrote; served_is = (q.is.0, q.is.1, refl, q.is.2); port = port }
  serves_none port stop.Cut q =
      record { heard = nothing; bytes = q.bytes; out = q.out; read = q.read; wrote = q.wrote; served_is = q.is; port = port }
  serves_none port stop.ReadFault q =
      record { heard = nothing; bytes = q.bytes; out = q.out; read = q.read; wrote = q.wrote; served_is = q.is; port = port }
  serves_none port stop.WriteFault q =
      record { heard = nothing; bytes = q.bytes; out = q.out; read = q.read; wrote = q.wrote; served_is = inl q.is; port = port }

-- ---- the port's disk

-- the count doesn't fall, and 500 is only answered where it rose
pub record HasDiskCause (disks disks' : ℕ) (served : Served) : Type 0 where
  pub later : disks ≤ disks'
  pub failed : served ≡ how.Answered 500 → Rose disks disks'

module _ {P : Type 0} (sole stored : Bool) (seen : P → List Event → Type 0) (settings : P → Settings) (moment faults : P → ℕ) (now : ℕ) (old new : P) where
  disks_later : (heard : Heard) → Hears sole stored seen settings moment faults now old new heard → faults old ≤ faults new
  disks_later nothing h = let e : faults new ≡ faults old = ap faults h in omega arith
  disks_later wanting h = let e : faults new ≡ faults old = ap faults h in omega arith
  disks_later (request ask said) h = h.cause.later

  disk_rose : (ask : Ask) (heard : Heard) → heard ≡ request ask (Err Disk) → Hears sole stored seen settings moment faults now old new heard → Rose (faults old) (faults new)
  disk_rose ask heard e h =
      let k : Hears sole stored seen settings moment faults now old new (request ask (Err Disk)) =
      subst (λ (x : Heard). Hears sole stored seen settings moment faults now old new x) e h in
      k.cause.failed refl

  sent_500 : (r : Response) (w w' : Option (List ℕ)) (served : Served) → served ≡ how.Answered 500 → Sends r w w' served → r.code ≡ 500
  sent_500 r w w' (how.Answered code) e s = let k : code ≡ 500 = cc in sym s.0 ∙ k
  sent_500 r w w' how.WriteFault e s = absurd (cc)
  sent_500 r w w' how.Empty e s = absurd s
  sent_500 r w w' how.Cut e s = absurd s
  sent_500 r w w' how.ReadFault e s = absurd s
  sent_500 r w w' how.NoMemory e s = absurd s

  pub disk_cause : (gateway : Bool) (ruling : Ruling) (w w' : Option (List ℕ)) (served : Served)
      → Finishes gateway ruling (Hears sole stored seen settings moment faults now old new) w w' served → HasDiskCause (faults old) (faults new) served
  disk_cause gateway ruling w w' served f = record {
    later = disks_later f.heard f.port;
    failed = λ e.
        let x = only_disk gateway ruling f.heard f.response f.answers (sent_500 f.response w w' served e f.sends) in
        disk_rose x.0 f.heard x.1 f.port;
  }

-- ---- causes

not_read : (r : Response) (w w' : Option (List ℕ)) (served : Served) → Sends r w w' served → served ≡ how.ReadFault → ⊥
not_read r w w' (how.Answered code) s e = absurd (cc)
not_read r w w' how.WriteFault s e = absurd (cc)
not_read r w w' how.Empty s e = absurd s
not_read r w w' how.Cut s e = absurd s
not_read r w w' how.ReadFault s e = absurd s
not_read r w w' how.NoMemory s e = absurd s

pub message_cause : (hub : List ℕ) (left left' written written' written'' : Option (List ℕ)) (v : Verdict) (message : Message) (served : Served)
    (gateway : Bool) (PortHears : Heard → Type 0) (reads reads' writes writes' writes'' disks disks' : ℕ)
    → Requests hub left left' written written' v (Ok message)
    → ((ruling : Ruling) → RulingIs message v ruling → Finishes gateway ruling PortHears written' written'' served)
    → ((ruling : Ruling) → Finishes gateway ruling PortHears written' written'' served → HasDiskCause disks disks' served)
    → HasStopCause reads reads' writes writes' (Ok message) → HasSendCause writes' writes'' served → HasServedCause reads reads' writes writes'' disks disks' served
message_cause hub left left' written written' written'' v message served gateway PortHears reads reads' writes writes' writes'' disks disks' q finish disk_of stops sends =
    let f = finish q.is.says.ruling q.is.message_is in
    let d = disk_of q.is.says.ruling f in
    record {
      reads_later = stops.reads_later;
      writes_later = omega (arith, stops.writes_later, sends.later);
      disks_later = d.later;
      read = λ e. absurd (not_read f.response written' written'' served f.sends e);
      write = λ e small. let rose : writes' < writes'' = sends.failed e small in omega (arith, stops.writes_later);
      disk = d.failed;
    }
