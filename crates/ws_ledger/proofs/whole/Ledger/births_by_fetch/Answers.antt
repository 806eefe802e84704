use Rattle.std.proofs.Common.{◌≡◌, sym, subst}
use Rattle.std.proofs.lemmas.Result.{IfOk-weaker}
use Rattle.ws_lease.specs.Table.{live_numbers}
use Rattle.ws_ledger.specs.Births.{FindsBirths}
use Rattle.ws_ledger.specs.Pairs.{with_version}
use Rattle.ws_ledger.proofs.NewPairs.{by_fetch}
use Rattle.ws_ledger.proofs.whole.Ledger.births_by_fetch.Goals as goal

pub returns : goal.returns
returns c =
    let ns = live_numbers c.args.version.now.topic c.args.event.now.t c.args.self.now.tables.leases in
    IfOk-weaker c.births_of.result (λ births. births.items ≡ with_version c.args.version.now.ver ns) (λ births. FindsBirths c.args.event.now c.args.self.now births.items)
    (λ births k. subst (FindsBirths c.args.event.now c.args.self.now) (sym k) (by_fetch c.args.event.now c.args.version.now ns c.args.self.now c.requires.kind (λ h since s l le. c.births_of.ensures.numbers h since s.tables l le)))
    c.births_of.ensures.value
