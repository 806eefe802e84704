use Rattle.std.proofs.Common.{◌≡◌, [], ◌∷◌, ◌++◌, Result, Ok, Err, OnOk, ◌∙◌, ap}
use Rattle.ws_disk.specs.Crash.{overwritten}
use Rattle.ws_disk.specs.Gated.{recovered, IsBeforeOrAfter}
use Rattle.ws_disk.proofs.Goes.{goes_on}
use Rattle.ws_disk.proofs.GateFile.{staged, opened, until_confirmed, opens}
use Rattle.ws_disk.proofs.gated.write_gated.Goals as goal

pub returns-in_err-write_at-2-clause-any_moment : goal.returns-in_err-write_at-2-clause-any_moment
returns-in_err-write_at-2-clause-any_moment g c = λ honest.
    let D = g.D.Disk in
    let old = c.args.disk.now in
    let closed = c.requires.closed honest in
    let only = c.requires.confirmed honest in
    let honest1 = c.write_at.ensures.honesty.1 honest in
    let honest2 = c.sync.ensures.honesty.1 honest1 in
    let crash = c.write_at.ensures.crash honest in
    let staged = until_confirmed D.seen D.moment D.images c.args.gate c.args.bytes.now old c.write_at.new.self c.sync.new.self closed only crash
    (c.write_at.ensures.time honest) (c.sync.ensures.crash honest1) (c.sync.ensures.time honest1) in
    let opening = opens D.seen D.moment D.images c.args.gate c.args.bytes.now old c.write_at.new.self c.sync.new.self closed only crash
    c.write_at-2.new.self (c.in_ok-write_at.ensures.written honest) (c.in_ok-sync.ensures.durable honest1) (c.write_at-2.ensures.crash honest2) in
    goes_on D.moment D.images old c.sync.new.self c.write_at-2.new.self (IsBeforeOrAfter c.args.gate c.args.bytes.now) staged (c.write_at-2.ensures.time honest2) opening

pub returns-clause-any_moment : goal.returns-clause-any_moment
returns-clause-any_moment g c = λ honest.
    let D = g.D.Disk in
    let old = c.args.disk.now in
    let P = IsBeforeOrAfter c.args.gate c.args.bytes.now in
    let closed = c.requires.closed honest in
    let only = c.requires.confirmed honest in
    let honest1 = c.write_at.ensures.honesty.1 honest in
    let honest2 = c.sync.ensures.honesty.1 honest1 in
    let honest3 = c.write_at-2.ensures.honesty.1 honest2 in
    let crash = c.write_at.ensures.crash honest in
    let staged = until_confirmed D.seen D.moment D.images c.args.gate c.args.bytes.now old c.write_at.new.self c.sync.new.self closed only crash
    (c.write_at.ensures.time honest) (c.sync.ensures.crash honest1) (c.sync.ensures.time honest1) in
    let opening = opens D.seen D.moment D.images c.args.gate c.args.bytes.now old c.write_at.new.self c.sync.new.self closed only crash
    c.write_at-2.new.self (c.in_ok-write_at.ensures.written honest) (c.in_ok-sync.ensures.durable honest1) (c.write_at-2.ensures.crash honest2) in
    let third = goes_on D.moment D.images old c.sync.new.self c.write_at-2.new.self P staged (c.write_at-2.ensures.time honest2) opening in
    goes_on D.moment D.images old c.write_at-2.new.self c.sync-2.new.self P third (c.sync-2.ensures.time honest3) (λ image now. opening image (c.sync-2.ensures.crash honest3 image now))

if_ok : {T E P : Type 0} (r : Result T E) → P → OnOk r P
if_ok (Ok x) holds = holds
if_ok (Err e) holds = tt

pub returns-clause-written : goal.returns-clause-written
returns-clause-written g c =
    let there = λ (honest : g.D.Disk.honest c.args.disk.now).
    let D = g.D.Disk in
    let file = D.seen c.args.disk.now in
    let closed = c.requires.closed honest in
    let honest1 = c.write_at.ensures.honesty.1 honest in
    let honest2 = c.sync.ensures.honesty.1 honest1 in
    let staged_is : D.seen c.sync.new.self ≡ file ++ c.args.bytes.now = c.sync.ensures.seen ∙ c.in_ok-write_at.ensures.written honest ∙ staged c.args.gate c.args.bytes.now file closed in
    let is : recovered c.args.gate (D.seen c.sync-2.new.self) ≡ c.args.bytes.now = ap (recovered c.args.gate) (c.sync-2.ensures.seen ∙ c.in_ok-write_at-2.ensures.written honest2 ∙ ap (overwritten c.args.gate (1 ∷ [])) staged_is)
    ∙ opened c.args.gate c.args.bytes.now file closed in is in
    if_ok c.sync-2.result there
