use Rattle.std.proofs.Common.{ℕ, ap, sym, ◌∙◌}
use Rattle.std.specs.Prelude.{◌==◌}
use Rattle.ws_sift.proofs.Chosen.{any_fetch, of_serial}
use Rattle.ws_sift.proofs.choosing.is_kept_ping.Goals as goal

pub returns-in-Some : goal.returns-in-Some
returns-in-Some c h since s = ap (of_serial (λ (s : ℕ). s == c.args.event.now.serial)) (c.in-Some.ensures.stands h since s) ∙ sym (any_fetch h c.args.topic.now (λ (s : ℕ). s == c.args.event.now.serial))

pub returns-in-None : goal.returns-in-None
returns-in-None c h since s = ap (of_serial (λ (s : ℕ). s == c.args.event.now.serial)) (c.in-None.ensures.stands h since s) ∙ sym (any_fetch h c.args.topic.now (λ (s : ℕ). s == c.args.event.now.serial))
