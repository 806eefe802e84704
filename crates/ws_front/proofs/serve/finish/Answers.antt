use Rattle.ws_front.proofs.serve.finish.Goals as goal

pub returns-clause-finishes : goal.returns-clause-finishes
returns-clause-finishes g c ruling is =
    let r = c.respond-answer.ensures.responds ruling is in
    record {
      heard = r.heard;
      response = r.response;
      answers = r.answers;
      port = r.port;
      sends = c.send_answer.ensures.sends r.response r.gives;
    }
