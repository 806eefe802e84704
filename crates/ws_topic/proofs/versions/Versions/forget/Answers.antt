use Rattle.std.proofs.Common.{◌≡◌, ◌+◌, arith}
use Rattle.std.specs.List.{sum_by}
use Rattle.std.specs.Map.{remove_entry, values_of}
use Rattle.std.specs.BTreeMap.{is_at}
use Rattle.std.specs.Ordering.{nat_cmp}
use Rattle.ws_topic.specs.Rows.{number_at, size, size_at}
use Rattle.ws_topic.specs.ByTopic.{by_bytes}
use Rattle.ws_topic.proofs.Stores.{size_less, stored_less}
use Rattle.ws_topic.proofs.versions.Versions.forget.Goals as goal

pub overflow_sub-self : goal.overflow_sub-self
overflow_sub-self c =
    let a : sum_by size (values_of (remove_entry (is_at (nat_cmp c.args.ver)) c.self.inside.by_number.entries)) + size_at (number_at c.args.ver c.self.inside.by_number.entries) ≡ c.self.inside.bodies = size_less c.self.inside.by_number.entries c.args.ver c.self.inside.bodies c.self.invariant.counted in
    let b : c.take-freed.result ≡ size_at (number_at c.args.ver c.self.inside.by_number.entries) = c.take-freed.ensures.size in
    omega arith

pub invariant_of-self : goal.invariant_of-self
invariant_of-self c =
    stored_less c.self.inside.by_number.entries c.take-freed.new.by_number.entries (by_bytes c.self.inside.latest.entries) c.self.inside.bodies c.args.ver c.take-freed.result
    c.self.invariant c.take-freed.ensures.size c.take-freed.ensures.entries c.take-freed.ensures.ordered
