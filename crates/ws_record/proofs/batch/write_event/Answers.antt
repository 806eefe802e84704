use Rattle.std.proofs.lemmas.Result.{on_ok_weaker}
use Rattle.ws_record.proofs.batch.write_event.Goals as goal

pub returns-clause-fits : goal.returns-clause-fits
returns-clause-fits c =
    on_ok_weaker c.write.result (λ fits. record { serial = fits.0; time = c.requires.time; what = fits.1.1 }) c.write.ensures.fits
