use Rattle.ws_drive.specs.Output.{output_bytes}
use Rattle.ws_drive.proofs.Worlds.{not_end}
use Rattle.ws_drive.proofs.play.step.Goals as goal

pub returns : goal.returns
returns g c = record {
  steps = λ w stands.
      let read = rw c.in-Some.is at c.in_ok-happening.ensures.happening in
      let p = c.in_ok-output.ensures.plays w stands in (
        c.in-Some.happening,
        (read.0, read.1, not_end c.in-Some.happening c.in_default-happening.not-End),
        output_bytes c.in_ok-output.output,
        p.0,
        p.1,
        rw c.as_bytes.ensures at c.in_ok-give_all.ensures.ok,
        p.2,
      );
  causes = record {
    reads_later = c.take_happening.ensures.cause.later;
    writes_later = c.give_all.ensures.cause.later;
    read = λ e. absurd (cc);
    write = λ e. absurd (cc);
  };
  settings = c.play.ensures.settings;
}
