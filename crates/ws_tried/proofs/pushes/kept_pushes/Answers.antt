use Rattle.std.proofs.Common.{◌≡◌, ◌++◌, ap, sym, ◌∙◌, subst}
use Rattle.std.proofs.lemmas.List.{append-nil}
use Rattle.ws_tried.specs.Kept.{is_kept_push}
use Rattle.ws_gather.specs.Gathered.{AreGathered}
use Rattle.ws_tried.proofs.Made.{has_both, pushes_of}
use Rattle.ws_tried.proofs.Whole.{gathered}
use Rattle.ws_tried.proofs.pushes.kept_pushes.Goals as goal

all_made : (c : goal.In-None) → pushes_of (has_both c.args.kept.now) c.args.tries.now ≡ c.loop-pair.events.items
all_made c =
    sym c.loop-pair.invariant.so_far
    ∙ ap (λ rows. c.loop-pair.events.items ++ pushes_of (has_both c.args.kept.now) rows) c.in-None.ensures.steps.0
    ∙ append-nil c.loop-pair.events.items

pub returns : goal.returns
returns c =
    record {
      gathered = λ h t l stands rooms are.
          subst (AreGathered h (is_kept_push h t)) (all_made c)
          (gathered h t c.args.tries.now c.args.kept.now c.rooms-pair-items.ensures.ordered l stands rooms are);
    }
