use Rattle.std.proofs.Common.{Result, Ok, Err, OnOk, ◌∙◌}
use Rattle.ws_disk.specs.Crash.{Torn}
use Rattle.ws_journal.specs.Kept.{After}
use Rattle.ws_journal.proofs.Files.{Torn-refl}
use Rattle.ws_journal.proofs.Moments.{wrote, then_sync}
use Rattle.ws_journal.proofs.gate.set_gate.Goals as goal

pub returns-in_err-write_at-clause-any_moment : goal.returns-in_err-write_at-clause-any_moment
returns-in_err-write_at-clause-any_moment g c = λ honest.
    let D = g.D.Disk in
    wrote D.moment D.images (Torn c.args.place 1) (Torn-refl c.args.place 1) c.args.disk.now c.write_at.new.self (c.write_at.ensures.time honest) (c.write_at.ensures.crash honest)

pub returns-clause-any_moment : goal.returns-clause-any_moment
returns-clause-any_moment g c = λ honest.
    let D = g.D.Disk in
    let old = c.args.disk.now in
    let honest1 = c.write_at.ensures.honesty.1 honest in
    let crash = c.write_at.ensures.crash honest in
    then_sync D.moment D.images old c.write_at.new.self c.sync.new.self (After (Torn c.args.place 1) (D.images old (D.moment old)))
    (wrote D.moment D.images (Torn c.args.place 1) (Torn-refl c.args.place 1) old c.write_at.new.self (c.write_at.ensures.time honest) crash)
    crash (c.sync.ensures.time honest1) (c.sync.ensures.crash honest1)

if_ok : {T E P : Type 0} (r : Result T E) → P → OnOk r P
if_ok (Ok x) holds = holds
if_ok (Err e) holds = tt

pub returns-clause-written : goal.returns-clause-written
returns-clause-written g c =
    let there = λ (honest : g.D.Disk.honest c.args.disk.now). c.sync.ensures.seen ∙ c.in_ok-write_at.ensures.written honest in
    if_ok c.sync.result there
