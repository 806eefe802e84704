use Rattle.std.proofs.Common.{List, ap, ◌∙◌}
use Rattle.std.specs.Prelude.{◌==◌, ◌&&◌, find}
use Rattle.std.specs.Option.{option_map}
use Rattle.ws_model.specs.Fate.{Pair, fate}
use Rattle.ws_model.specs.Verdict.{pair_of}
use Rattle.ws_plain.specs.Capped.{capped}
use Rattle.ws_plain.specs.Past.{past}
use Rattle.ws_plain.proofs.Totals.{option_map_twice}
use Rattle.ws_plain.proofs.pairs.fate.Goals as goal

pub returns : goal.returns
returns c =
    let h = past c.args.events.now in
    c.fate_among.ensures
    ∙ ap (λ (ps : List Pair). option_map (λ p. capped (fate h p c.args.t)) (find (λ p. (p.version.ver == c.args.ver) && (p.lease.intent.n == c.args.lease)) ps)) (c.deref.ensures.value ∙ c.in_ok-pairs.ensures)
    ∙ option_map_twice (λ p. fate h p c.args.t) capped (pair_of h c.args.ver c.args.lease)
