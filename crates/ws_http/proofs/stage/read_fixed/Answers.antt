use Rattle.std.proofs.Common.{arith}
use Rattle.ws_http.specs.declared.head.Framing.TheVariants as framing
use Rattle.ws_http.proofs.StageLemmas.{fixed_whole, fixed_open}
use Rattle.ws_http.proofs.stage.read_fixed.Goals as goal

pub returns-then-raw-total-clause-holds : goal.returns-then-raw-total-clause-holds
returns-then-raw-total-clause-holds c bytes e t =
    let r = c.requires.ready in
    fixed_whole c.args.room c.args.head r.1 c.args.total c.args.raw.now c.requires.least r.2 bytes e r.3 r.4 (omega arith)

pub returns-then-raw-total-clause-ready : goal.returns-then-raw-total-clause-ready
returns-then-raw-total-clause-ready c =
    let r = c.requires.ready in
    (framing.Fixed r.1, r.2, omega (arith, r.3), λ _. omega arith)

pub returns-else-raw-total-clause-holds : goal.returns-else-raw-total-clause-holds
returns-else-raw-total-clause-holds c bytes e t =
    let r = c.requires.ready in
    fixed_open c.args.room c.args.head r.1 c.args.total c.args.raw.now c.requires.least r.2 bytes e r.3 r.4 (omega arith)
