use Rattle.std.proofs.Common.{◌≡◌, true, ap, sym, ◌∙◌, subst, refl}
use Rattle.ws_core_tables.proofs.Onward.{by_intents, from_shown}
use Rattle.ws_model.specs.declared.event.What.{What}
use Rattle.ws_model.specs.declared.event.What.TheVariants.{Barred}
use Rattle.ws_core_tables.specs.Stands.{is_of_intents}
use Rattle.ws_core_tables.proofs.tables.Tables.barred.Goals as goal

pub returns-clause-ok : goal.returns-clause-ok
returns-clause-ok c =
    from_shown c.args.event.now _ _ _ c.self.view_is
    (by_intents c.args.event.now _ c.barred.new.self c.after-self-inside.result (subst (λ (w : What). is_of_intents w ≡ true) (sym c.requires.kind) refl) c.after-self-inside.ensures
    (λ h s l. c.in_ok-barred.ensures.stands h c.args.event.now s l (c.requires.kind ∙ ap (Barred c.args.n) (sym (c.in_ok-reason.ensures ∙ c.as_slice.ensures)))))
