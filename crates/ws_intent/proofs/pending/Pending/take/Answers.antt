use Rattle.std.proofs.Common.{◌≡◌, ◌+◌, sym, arith}
use Rattle.std.specs.List.{sum_by}
use Rattle.std.specs.Map.{remove_entry, values_of}
use Rattle.std.specs.BTreeMap.{is_at}
use Rattle.std.specs.Ordering.{nat_cmp}
use Rattle.ws_intent.specs.Index.{has_in}
use Rattle.ws_intent.specs.Rows.{weight}
use Rattle.ws_intent.proofs.Indexing.{counted_less, indexed_without}
use Rattle.ws_intent.proofs.pending.Pending.take.Goals as goal

pub one_less-self-inside-requires : goal.one_less-self-inside-requires
one_less-self-inside-requires c =
    let a : c.self.inside.subscriptions ≡ sum_by weight (values_of (remove_entry (is_at (nat_cmp c.args.n)) c.self.inside.by_number.entries)) + weight c.in_ok-waiting.waiting =
    counted_less c.self.inside.by_number.entries c.args.n c.self.inside.subscriptions c.in_ok-waiting.waiting (sym c.in_ok-waiting.ensures.value) c.self.invariant.counted in
    omega arith

pub invariant_of-self-2 : goal.invariant_of-self-2
invariant_of-self-2 c =
    indexed_without c.self.inside.by_number.entries c.remove.new.self.entries (has_in c.self.inside.by_pair) (has_in c.remove-2.new.index) c.self.inside.firsts c.give_way.new.numbers
    c.self.inside.subscriptions c.one_less-self-inside.result c.args.n c.in_ok-waiting.waiting c.first_of-next.result
    c.self.invariant (sym c.in_ok-waiting.ensures.value) c.remove.ensures.entries c.remove.ensures.updates.0 c.remove.ensures.ordered
    (rw (← c.as_slice-topic.ensures, ← c.as_slice-callback.ensures) c.remove-2.ensures)
    (rw (← c.as_slice-topic.ensures, ← c.as_slice-callback.ensures) c.first_of-next.ensures)
    c.give_way.ensures.rising c.give_way.ensures.numbers c.one_less-self-inside.ensures
