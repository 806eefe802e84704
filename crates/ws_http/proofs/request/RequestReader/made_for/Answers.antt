use Rattle.std.proofs.Common.{ℕ, List, [], sym, subst, arith, ap, length}
use Rattle.ws_http.specs.declared.stage.Stage.TheVariants as stage
use Rattle.ws_http.specs.RequestStages.{Unheaded, Stands}
use Rattle.ws_http.proofs.ReaderLemmas.{unheaded_none, fresh_stands}
use Rattle.ws_http.proofs.request.RequestReader.made_for.Goals as goal

pub invariant_of-result : goal.invariant_of-result
invariant_of-result c =
    let raw = c.in_ok-raw.ensures in
    let body = c.in_ok-body.ensures in
    record {
      least = c.requires.least;
      most = c.requires.most;
      short = omega (arith, ap length raw.items);
      kept = raw.capacity;
      held = body.capacity;
      ready = (body.items, subst (λ (t : List ℕ). Unheaded t) (sym raw.items) unheaded_none);
    }

pub returns-clause-stands : goal.returns-clause-stands
returns-clause-stands c =
    subst (λ (t : List ℕ). Stands (record { room = c.args.room; bytes = t; content = c.in_ok-body.body.items; stage = stage.Head }) []) (sym c.in_ok-raw.ensures.items)
    (subst (λ (t : List ℕ). Stands (record { room = c.args.room; bytes = []; content = t; stage = stage.Head }) []) (sym c.in_ok-body.ensures.items)
    (fresh_stands c.args.room))
