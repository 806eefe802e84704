use Rattle.std.proofs.Common.{◌≡◌, true, ap, sym, ◌∙◌, subst, refl}
use Rattle.ws_core_tables.proofs.Onward.{by_topics, from_shown}
use Rattle.ws_model.specs.declared.event.What.{What}
use Rattle.ws_model.specs.declared.event.What.TheVariants.{Same}
use Rattle.ws_core_tables.specs.Stands.{is_of_topics}
use Rattle.ws_topic.specs.Rows.{Rows as TopicRows}
use Rattle.ws_core_tables.proofs.tables.Tables.same.Goals as goal

pub returns : goal.returns
returns c =
    record {
      stands =
          from_shown c.args.event.now _ _ _ c.self.view_is
          (by_topics c.args.event.now _ c.same.new.self c.after-self-inside.result (subst (λ (w : What). is_of_topics w ≡ true) (sym c.requires.kind) refl) c.after-self-inside.ensures
          (ap (λ (r : TopicRows). r.versions) c.same.ensures.rows)
          (λ h s l. c.same.ensures.stands h c.args.event.now s l (c.requires.kind ∙ ap (λ k. Same k c.args.upto) (sym c.as_slice.ensures))));
    }
