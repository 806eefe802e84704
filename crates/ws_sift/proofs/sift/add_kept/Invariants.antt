use Rattle.std.proofs.Common.{ℕ, List, ◌++◌, drop}
use Rattle.std.specs.BTreeMap.{get}
use Rattle.std.specs.Ordering.{nat_cmp}
use Rattle.ws_model.specs.declared.event.Event.{Event}
use Rattle.ws_sift.specs.Sifted.{ArePast, AreReplaced, Sifts}
use Rattle.ws_sift.proofs.sift.add_kept.Given as goal

-- whatever the past is and comes after the part, what is kept of it stands behind what was kept so far
abbrev pub invariant-loop-event : goal.invariant-loop-event
invariant-loop-event l = (h : List Event) (since : ℕ) → ArePast h since l.t l.tables l.kept → AreReplaced h l.t (get nat_cmp l.replaced) → (after : List Event) → Sifts h l.t (l.part ++ after) l.fn.events.items → Sifts h l.t (drop l.event-index l.part ++ after) l.events.items
