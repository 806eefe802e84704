use Rattle.std.proofs.Common.{◌≡◌, ◌+◌, ◌≤◌, ℕ, refl, sym, ap, arith, ◌∙◌}
use Rattle.ws_drive.specs.World.{World, start}
use Rattle.ws_drive.proofs.Runs.{started, goes_on, ends, leaves, leaves_long, read_fails, write_fails, wants}
use Rattle.ws_drive.proofs.play.drive_over.Goals as goal

pub steps-init : goal.steps-init
steps-init g c = record {
  reached = start c.args.settings.now;
  so_far = started _ _ _ _ _ refl refl;
  stands = record { set = c.requires.settings; clock_is = refl; used_is = c.requires.unused; has_seen = c.requires.fresh };
  settings = refl;
  reads = omega arith;
  writes = omega arith;
}

pub returns-in-Ok-Ended-clause-runs : goal.returns-in-Ok-Ended-clause-runs
returns-in-Ok-Ended-clause-runs g c =
    let inv = c.steps.invariant in
    let p = rw c.in-Ok-Ended.field-0-is at (c.in-Ok-Ended.ensures.steps inv.reached inv.stands) in
    ends _ _ _ _ _ _ _ c.steps.i inv.reached inv.so_far (omega arith) p.0 p.1

pub returns-in-Ok-Left-clause-runs : goal.returns-in-Ok-Left-clause-runs
returns-in-Ok-Left-clause-runs g c =
    let inv = c.steps.invariant in
    let p = rw c.in-Ok-Left.field-0-is at (c.in-Ok-Left.ensures.steps inv.reached inv.stands) in
    leaves _ _ _ _ _ _ _ c.steps.i inv.reached inv.so_far (omega arith) _ refl p.0 p.1 p.2

pub returns-in-Err-ReadFailed-clause-runs : goal.returns-in-Err-ReadFailed-clause-runs
returns-in-Err-ReadFailed-clause-runs g c =
    let inv = c.steps.invariant in
    let p = rw c.in-Err-ReadFailed.field-0-is at (c.in-Err-ReadFailed.ensures.steps inv.reached inv.stands) in
    read_fails _ _ _ _ _ _ _ c.steps.i inv.reached inv.so_far (omega arith) p.0 p.1

pub returns-in-Err-WriteFailed-clause-runs : goal.returns-in-Err-WriteFailed-clause-runs
returns-in-Err-WriteFailed-clause-runs g c =
    let inv = c.steps.invariant in
    let p = rw c.in-Err-WriteFailed.field-0-is at (c.in-Err-WriteFailed.ensures.steps inv.reached inv.stands) in
    write_fails _ _ _ _ _ _ _ c.steps.i inv.reached inv.so_far (omega arith) p.3 p.0 p.2 p.1 p.4 p.5

pub returns-in-Err-NoMemory-clause-runs : goal.returns-in-Err-NoMemory-clause-runs
returns-in-Err-NoMemory-clause-runs g c =
    let inv = c.steps.invariant in
    let p = rw c.in-Err-NoMemory.field-0-is at (c.in-Err-NoMemory.ensures.steps inv.reached inv.stands) in
    wants _ _ _ _ _ _ _ c.steps.i inv.reached inv.so_far (omega arith) p.0 p.1

pub steps-preserved : goal.steps-preserved
steps-preserved g c =
    let inv = c.steps.invariant in
    let p = rw c.in-Ok-Played.field-0-is at (c.in-Ok-Played.ensures.steps inv.reached inv.stands) in
    record {
      reached = p.3;
      so_far = goes_on _ _ _ _ _ _ _ c.steps.i inv.reached inv.so_far p.3 p.0 p.2 p.1 p.5 p.4;
      stands = p.6;
      settings = c.step.ensures.settings ∙ inv.settings;
      reads = omega (arith, c.step.ensures.causes.reads_later);
      writes = omega (arith, c.step.ensures.causes.writes_later);
    }

pub returns-clause-runs : goal.returns-clause-runs
returns-clause-runs g c = leaves_long _ _ _ (g.S.Source.left c.args.source.now) _ _ (g.K.Sink.written c.args.sink.now) c.steps.i c.steps.invariant.reached c.steps.invariant.so_far 1099511627777 (omega arith) (omega arith)
