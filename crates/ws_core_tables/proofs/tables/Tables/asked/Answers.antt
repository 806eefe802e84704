use Rattle.std.proofs.Common.{◌≡◌, true, ap, sym, ◌∙◌, subst, refl, ℕ, ◌≤◌, ◌<◌, arith}
use Rattle.ws_model.specs.Moment.{last_intent}
use Rattle.ws_core_tables.proofs.Onward.{by_intents, from_shown}
use Rattle.ws_model.specs.declared.event.What.{What}
use Rattle.ws_model.specs.declared.event.What.TheVariants.{Asked}
use Rattle.ws_core_tables.proofs.Lookups.{asked_above, pending_below}
use Rattle.ws_core_tables.specs.Stands.{is_of_intents}
use Rattle.ws_core_tables.specs.Stands.{StandsFor}
use Rattle.ws_core_tables.proofs.tables.Tables.asked.Goals as goal

below : (q m n k : ℕ) → q ≤ m → m < n → k ≡ n → q < k
below q m n k a b e = omega arith

pub asked-requires : goal.asked-requires
asked-requires c =
    let inside = subst (StandsFor c.requires.follows.past c.requires.follows.since) (sym c.self.view_is) c.requires.follows.stands in
    record {
      above = λ q k. below q (last_intent c.requires.follows.past) c.args.intent.now.n c.in_ok-copy.field-0.n (pending_below c.requires.follows.past c.self.inside.intents q inside.intents k) (asked_above c.args.event.now c.requires.follows.past c.args.intent.now c.requires.follows.legal c.requires.kind) (ap (λ i. i.n) c.in_ok-copy.ensures);
    }

pub returns-clause-ok : goal.returns-clause-ok
returns-clause-ok c =
    from_shown c.args.event.now _ _ _ c.self.view_is
    (by_intents c.args.event.now _ c.asked.new.self c.after-self-inside.result (subst (λ (w : What). is_of_intents w ≡ true) (sym c.requires.kind) refl) c.after-self-inside.ensures
    (λ h s l. c.in_ok-asked.ensures.stands h c.args.event.now s l (c.requires.kind ∙ ap Asked (sym c.in_ok-copy.ensures))))
