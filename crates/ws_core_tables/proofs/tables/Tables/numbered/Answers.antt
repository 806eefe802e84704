use Rattle.std.proofs.Common.{◌≡◌, ◌+◌, ◌<◌, ◌++◌, ◌∷◌, [], suc, rules, arith, ap, sym, ◌∙◌}
use Rattle.std.proofs.lemmas.List.{map-id}
use Rattle.std.proofs.lemmas.Iterator.Consumers.{YieldsList-so_far, YieldsList-turn}
use Rattle.std.proofs.lemmas.Iterator.Adapters.{YieldsList-from_vec}
use Rattle.ws_model.specs.Legal.{number_limit}
use Rattle.ws_model.specs.Moment.{serial}
use Rattle.ws_core_tables.specs.Committing.{committed}
use Rattle.ws_core_tables.specs.declared.numbers.Numbers.{Numbers}
use Rattle.ws_core_tables.specs.Rows.{Rows}
use Rattle.ws_core_tables.proofs.Together.{events_more, next_fits, numbers_more}
use Rattle.ws_core_tables.proofs.tables.Tables.numbered.Goals as goal

pub overflow_add-event : goal.overflow_add-event
overflow_add-event c =
    let made = c.into_iter-what-iterator.ensures.into_iter_gives in
    let gives = YieldsList-from_vec {s = c.into_iter-what-iterator.result} c.args.whats.items made.0 (made.1 ∙ c.args.whats.ok.0) in
    let front = YieldsList-so_far gives c.loop-what.yielded c.loop-what.what-iterator c.loop-what.yielded_by in
    let turn = YieldsList-turn gives c.loop-what.yielded c.loop-what.what-iterator c.loop-what.yielded_by c.next.result c.next.new.self c.in-Some.what c.in-Some.is c.next.ensures.steps in
    let here = c.loop-what.invariant.far c.requires.follow.past (ap (λ (r : Rows). r.numbers) c.self.view_is ∙ c.requires.follow.stands.numbers) in
    let same : c.loop-what.numbers.all.serial ≡ serial (committed c.args.t c.loop-what.yielded c.requires.follow.past) = ap (λ (n : Numbers). n.all.serial) here.0 in
    let fits : suc (serial (committed c.args.t c.loop-what.yielded c.requires.follow.past)) < number_limit =
    next_fits c.args.t c.args.whats.items c.loop-what.yielded c.in-Some.what c.requires.follow.past (sym (map-id c.loop-what.yielded) ∙ front) turn.0 turn.1 c.requires.follow.legal in
    omega arith

pub loop-what-preserved : goal.loop-what-preserved
loop-what-preserved c =
    let pushed : c.push.new.self.items ≡ c.loop-what.events.items ++ record { serial = c.loop-what.numbers.all.serial + 1; t = c.args.t; what = c.in-Some.what } ∷ [] = search rules in
    record {
      next = search rules;
      finite = search rules;
      far = λ h k.
          let here = c.loop-what.invariant.far h k in (
            numbers_more c.args.t c.loop-what.yielded c.in-Some.what h c.loop-what.numbers c.after-numbers.result here.0 c.after-numbers.ensures,
            pushed ∙ events_more c.args.t c.loop-what.yielded c.in-Some.what h c.loop-what.numbers c.loop-what.events.items here.0 here.1,
          );
    }
