use Rattle.std.proofs.Common.{◌≡◌, ℕ, ◌||◌}
use Rattle.std.specs.BTreeSet.{contains}
use Rattle.std.specs.Ordering.{nat_cmp}
use Rattle.ws_delivery.specs.OwedVersions.{is_owed_version}
use Rattle.ws_delivery.proofs.owed_versions.owed_versions.Given as goal

abbrev pub invariant-loop-key : goal.invariant-loop-key
invariant-loop-key l =
    record {
      next : (goal.iterator-loop-key).can_next l.key-iterator;
      finite : (goal.iterator-loop-key).is_finite l.key-iterator;
      so_far : (v : ℕ) → (contains nat_cmp l.versions v || is_owed_version l.t v l.key-iterator) ≡ is_owed_version l.t v l.pairs.entries;
    }
