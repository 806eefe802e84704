use Rattle.std.proofs.Common.{◌≡◌, ◌+◌, arith}
use Rattle.ws_desk.proofs.Committed.{follows, moved_past, one_goes_on}
use Rattle.ws_desk.proofs.owner.Desk.add.Goals as goal

pub apply-requires : goal.apply-requires
apply-requires c =
    let held = c.args.self.now.held in
    record {
      follows = record {
        past = c.args.self.now.past.events;
        since = c.args.self.now.used;
        stands = held.stands;
        legal = follows c.args.event.now c.args.self.now.past.events (c.requires.next c.args.self.now.past.events held) c.requires.may;
        in_time = c.requires.later;
      };
    }

pub invariant_of-self-2-clause-held : goal.invariant_of-self-2-clause-held
invariant_of-self-2-clause-held c =
    let k : c.in-Some.count ≡ c.args.self.now.count + 1 = omega (arith, c.in-Some.ensures) in
    let held = c.args.self.now.held in
    let past = rw c.from_ref.ensures.value at c.with-past.ensures in
    moved_past c.apply.new.self c.args.event.now.t c.in-Some.count c.with-past.result.events _ past
    (one_goes_on c.args.event.now c.args.self.now.used c.args.self.now.count c.in-Some.count c.args.self.now.core c.apply.new.self c.in_ok-apply.ensures.ok c.requires.new c.requires.later k
    c.args.self.now.past.events held (c.requires.next c.args.self.now.past.events held) c.requires.may)

pub returns-clause-ok : goal.returns-clause-ok
returns-clause-ok c =
    let k : c.in-Some.count ≡ c.args.self.now.count + 1 = omega (arith, c.in-Some.ensures) in
    λ h seen may. one_goes_on c.args.event.now c.args.self.now.used c.args.self.now.count c.in-Some.count c.args.self.now.core c.apply.new.self c.in_ok-apply.ensures.ok c.requires.new c.requires.later k h seen (c.requires.next h seen) may
