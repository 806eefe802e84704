use Rattle.std.proofs.Common.{◌≤◌, ◌-◌, ap, arith}
use Rattle.ws_model.specs.declared.answers.Kind.TheVariants.{Numbers}
use Rattle.ws_model.specs.Legal.{number_limit}
use Rattle.ws_model.specs.Moment.{serial}
use Rattle.ws_answer.specs.declared.fault.CoreFault.TheVariants.{Full}
use Rattle.ws_answer.proofs.Bounds.{full_many, room_many}
use Rattle.ws_answer.proofs.rooms.serial_room.Goals as goal

pub returns-then-held-asked : goal.returns-then-held-asked
returns-then-held-asked c =
    record {
      room = λ h since s l.
          let e = c.serial-held.ensures.stands h since s in
          let few : c.args.asked ≤ number_limit - 1 = let small = c.requires.few in omega arith in
          (full_many (number_limit - 1) c.serial-held.result (serial h) c.args.asked e few c.if-held-asked.true, ap (λ k. Full Numbers k c.args.asked (number_limit - 1)) e);
    }

pub returns : goal.returns
returns c =
    record {
      room = λ h since s l.
          let few : c.args.asked ≤ number_limit - 1 = let small = c.requires.few in omega arith in
          room_many (number_limit - 1) c.serial-held.result (serial h) c.args.asked (c.serial-held.ensures.stands h since s) few c.if-held-asked.false;
    }
