use Rattle.std.proofs.Common.{refl}
use Rattle.ws_front.specs.Answers.{request, desk_response}
use Rattle.ws_front.proofs.respond.ask_desk.Goals as goal

pub returns-clause-responds : goal.returns-clause-responds
returns-clause-responds g c = record {
  heard = request c.args.ask.now c.ask-said.result;
  response = desk_response c.ask-said.result;
  answers = (refl, refl);
  gives = c.answer_of.ensures;
  port = record {
    answered = c.ask-said.ensures.said;
    time = c.ask-said.ensures.time;
    cause = c.ask-said.ensures.cause;
    unstored = c.ask-said.ensures.unstored;
  };
}
