use Rattle.std.proofs.Common.{◌≡◌, ap, sym, ◌∙◌, subst, Some, None}
use Rattle.ws_core_tables.specs.Stands.{StandsFor}
use Rattle.std.specs.Prelude.{Option}
use Rattle.std.specs.Option.{option_map}
use Rattle.ws_model.specs.declared.event.Intent.{Intent}
use Rattle.ws_model.specs.Legal.{pending_of}
use Rattle.ws_model.specs.Revocation.{live_lease_of}
use Rattle.ws_core_tables.proofs.Lookups.{none_waits, waiting_is}
use Rattle.ws_core_tables.proofs.tables.Tables.lease_of.Goals as goal

same_intent : {i j : Intent} {o : Option Intent} → Some i ≡ o → Some j ≡ o → i ≡ j
same_intent a b = cc

nothing_waits : (i : Intent) (o : Option Intent) → Some i ≡ o → None ≡ o → ⊥
nothing_waits i o a b = absurd (cc)

pub returns-in-Some : goal.returns-in-Some
returns-in-Some c =
    record {
      stands = λ h since i s l k m.
          let inside = subst (StandsFor h since) (sym c.self.view_is) s in
          c.find.ensures.stands h since l inside.leases k
          ∙ ap (λ z. option_map (λ l. l.intent.n) (live_lease_of h c.args.t z c.as_slice-in-Some.result.now)) c.as_slice.ensures
          ∙ ap (λ z. option_map (λ l. l.intent.n) (live_lease_of h c.args.t c.in-Some.waiting.now.intent.topic z)) c.as_slice-in-Some.ensures
          ∙ ap (λ (z : Intent). option_map (λ l. l.intent.n) (live_lease_of h c.args.t z.topic z.callback)) (same_intent (waiting_is h c.self.inside.intents c.args.n c.in-Some.waiting.now inside.intents c.in-Some.ensures) m);
    }

pub returns-in-None : goal.returns-in-None
returns-in-None c =
    record {
      stands = λ h since i s l k m.
          let inside = subst (StandsFor h since) (sym c.self.view_is) s in
          absurd (nothing_waits i (pending_of h c.args.n) m (none_waits h c.self.inside.intents c.args.n inside.intents c.in-None.ensures));
    }
