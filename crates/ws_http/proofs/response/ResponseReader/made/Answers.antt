use Rattle.std.proofs.Common.{◌≡◌, ℕ, List, [], ◌++◌, length, refl, sym, ap, ◌∙◌, subst, arith}
use Rattle.ws_http.specs.Responses.{unfinished}
use Rattle.ws_http.specs.declared.reply_stage.ReplyStage.TheVariants as stage
use Rattle.ws_http.specs.ResponseStages.{Ready}
use Rattle.ws_http.proofs.ReplyLemmas.{nothing_came, interims_begin, unled_none}
use Rattle.ws_http.proofs.response.ResponseReader.made.Goals as goal

pub returns-clause-stands : goal.returns-clause-stands
returns-clause-stands c = record {
  verdict = unfinished;
  is = nothing_came c.args.need;
  says = refl;
  kept = ap (λ (t : List ℕ). t ++ c.new.result.items) c.in_ok-raw.ensures.items ∙ c.new.ensures.items;
}

pub invariant_of-result : goal.invariant_of-result
invariant_of-result c =
    let n = c.args.need in
    let body = c.in_ok-body.body.items in
    let none : c.in_ok-raw.raw.items ++ c.new.result.items ≡ [] =
    ap (λ (t : List ℕ). t ++ c.new.result.items) c.in_ok-raw.ensures.items ∙ c.new.ensures.items in
    record {
      short = omega (arith, ap length none);
      kept = λ part. omega (arith, c.first_room.ensures part, c.in_ok-raw.ensures.capacity);
      held = λ part. omega (arith, c.data_room.ensures part, c.in_ok-body.ensures.capacity);
      ready = subst (λ (t : List ℕ). Ready n t body (stage.Head 0)) (sym none) (c.in_ok-body.ensures.items, interims_begin [], unled_none);
      small = tt;
      apart = c.new.ensures.items;
    }
