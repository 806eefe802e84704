use Rattle.std.proofs.Common.{◌≡◌}
use Rattle.ws_model.specs.declared.event.What.TheVariants.{Tally}
use Rattle.ws_forgotten.specs.Forgotten.{all_forgotten}
use Rattle.ws_forgotten.proofs.head.tally.Goals as goal

pub returns : goal.returns
returns c =
    record {
      stands = λ h since tables shown rooms others keeps account log l le.
          let totals : c.forgotten-totals.result ≡ all_forgotten h c.args.t = c.forgotten-totals.ensures.stands h since tables shown rooms others keeps account log l le in
          (λ j.
          record {
            serial = 0;
            t = 0;
            what = Tally (record {
              now = c.args.t;
              serial = c.serial.ensures.stands h since tables j;
              intent = c.intent_number.ensures.stands h since tables j;
              version = c.version_number.ensures.stands h since tables j;
              answered = (totals j).answered;
              expired = (totals j).expired;
              unsubscribed = (totals j).unsubscribed;
              replaced = (totals j).replaced;
              gone = (totals j).gone;
              spent = (totals j).spent;
              revoked = (totals j).revoked;
            });
          });
    }
