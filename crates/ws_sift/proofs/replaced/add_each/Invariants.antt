use Rattle.std.proofs.Common.{◌≡◌, ℕ, drop}
use Rattle.std.specs.BTreeMap.{get}
use Rattle.std.specs.Ordering.{nat_cmp}
use Rattle.ws_model.specs.Leases.{or_else}
use Rattle.ws_sift.specs.Sifted.{replaced_in}
use Rattle.ws_sift.proofs.replaced.add_each.Given as goal

-- what the renewals from this one on tell, before what was there
abbrev pub invariant-loop-at : goal.invariant-loop-at
invariant-loop-at l = (n : ℕ) → get nat_cmp l.intents n ≡ or_else (replaced_in l.kept.leases (drop l.at l.part) n) (get nat_cmp l.fn.intents n)
