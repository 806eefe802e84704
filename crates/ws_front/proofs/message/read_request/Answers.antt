use Rattle.std.proofs.Common.{◌≡◌, [], true, false, refl}
use Rattle.ws_http.specs.Requests.{is_headed}
use Rattle.ws_http.specs.RequestStages.{verdict}
use Rattle.ws_front.proofs.Requesting.{fresh_open, request_err, stops_first, refuses_first, head_refused, head_first, passes_first, cut_in_line, said_first, unheaded_said, first_cause, line_cause, body_cause}
use Rattle.ws_front.proofs.message.read_request.Goals as goal

pub read_on-requires : goal.read_on-requires
read_on-requires g c = ([], fresh_open c.args.reader.now c.requires.fresh)

pub returns-in_err-fed-clause-requests : goal.returns-in_err-fed-clause-requests
returns-in_err-fed-clause-requests g c =
    request_err _ _ _ _ _ _ c.in_err-fed.field-0.0 _ c.from_residual.ensures.1
    (stops_first _ c.args.reader.now c.read_on.new.reader _ _ _ _ c.requires.fresh refl c.in_err-fed.field-0.0 _ (c.in_err-fed.ensures.reads [] (fresh_open c.args.reader.now c.requires.fresh)))

pub returns-then-not-headed-clause-requests : goal.returns-then-not-headed-clause-requests
returns-then-not-headed-clause-requests g c =
    let e : is_headed (verdict c.read_on.new.reader) ≡ false = cc in
    refuses_first _ c.args.reader.now c.read_on.new.reader _ _ _ _ c.requires.fresh refl c.in_ok-fed.fed (c.in_ok-fed.ensures.reads [] (fresh_open c.args.reader.now c.requires.fresh)) c.message_of.result e c.message_of.ensures

pub returns-in-Some-clause-requests : goal.returns-in-Some-clause-requests
returns-in-Some-clause-requests g c =
    let e : is_headed (verdict c.read_on.new.reader) ≡ true = cc in
    head_refused _ c.args.reader.now c.read_on.new.reader _ _ _ _ c.requires.fresh refl c.in_ok-fed.fed (c.in_ok-fed.ensures.reads [] (fresh_open c.args.reader.now c.requires.fresh)) c.in-Some.refusal e c.in-Some.ensures

pub returns-in_err-ask_for_body-clause-requests : goal.returns-in_err-ask_for_body-clause-requests
returns-in_err-ask_for_body-clause-requests g c =
    let e : is_headed (verdict c.read_on.new.reader) ≡ true = cc in
    let x = head_first c.args.hub.now c.args.reader.now c.read_on.new.reader _ _ (g.K.Sink.written c.args.sink.now) (g.K.Sink.written c.args.sink.now) c.requires.fresh refl c.in_ok-fed.fed (c.in_ok-fed.ensures.reads [] (fresh_open c.args.reader.now c.requires.fresh)) e in
    request_err _ _ _ _ _ _ c.in_err-ask_for_body.field-0.0 _ c.from_residual-in_err-ask_for_body.ensures.1
    (cut_in_line _ c.args.reader.now c.read_on.new.reader _ _ _ _ c.requires.fresh refl c.in_ok-fed.fed (c.in_ok-fed.ensures.reads [] (fresh_open c.args.reader.now c.requires.fresh)) e c.in_default.ensures _
    c.in_err-ask_for_body.field-0.0 (c.in_err-ask_for_body.ensures.line x.0 x.1 x.2))

pub returns-in_err-ask_for_body-clause-causes : goal.returns-in_err-ask_for_body-clause-causes
returns-in_err-ask_for_body-clause-causes g c =
    let e : is_headed (verdict c.read_on.new.reader) ≡ true = cc in
    let x = head_first c.args.hub.now c.args.reader.now c.read_on.new.reader _ _ (g.K.Sink.written c.args.sink.now) (g.K.Sink.written c.args.sink.now) c.requires.fresh refl c.in_ok-fed.fed (c.in_ok-fed.ensures.reads [] (fresh_open c.args.reader.now c.requires.fresh)) e in
    line_cause _ _ _ _ _ _ _ c.in_err-ask_for_body.field-0.0 _ c.from_residual-in_err-ask_for_body.ensures.1
    (c.in_err-ask_for_body.ensures.line x.0 x.1 x.2) c.in_ok-fed.ensures.cause.later c.in_err-ask_for_body.ensures.cause

pub returns-clause-requests : goal.returns-clause-requests
returns-clause-requests g c =
    let e : is_headed (verdict c.read_on.new.reader) ≡ true = cc in
    let r = (c.in_ok-fed.ensures.reads [] (fresh_open c.args.reader.now c.requires.fresh)) in
    let x = head_first c.args.hub.now c.args.reader.now c.read_on.new.reader _ _ (g.K.Sink.written c.args.sink.now) (g.K.Sink.written c.args.sink.now) c.requires.fresh refl c.in_ok-fed.fed r e in
    c.read_body.ensures.requests c.args.hub.now _ _ (g.S.Source.left c.args.source.now) (g.K.Sink.written c.args.sink.now) (g.K.Sink.written c.ask_for_body.new.sink)
    (passes_first c.args.hub.now c.args.reader.now c.read_on.new.reader _ _ (g.K.Sink.written c.args.sink.now) (g.K.Sink.written c.args.sink.now) c.requires.fresh refl c.in_ok-fed.fed r e c.in_default.ensures)
    r.consumed (c.in_ok-ask_for_body.ensures.line x.0 x.1 x.2)

pub returns-clause-causes : goal.returns-clause-causes
returns-clause-causes g c =
    body_cause _ _ _ _ _ _ c.in_ok-fed.ensures.cause.later c.read_body.ensures.cause c.in_ok-ask_for_body.ensures.cause.later c.read_body.ensures.unwritten

pub returns-in_err-fed-clause-causes : goal.returns-in_err-fed-clause-causes
returns-in_err-fed-clause-causes g c =
    first_cause _ _ _ c.args.reader.now c.read_on.new.reader _ _ c.in_err-fed.field-0.0 _ c.from_residual.ensures.1 c.in_err-fed.ensures.cause
    (c.in_err-fed.ensures.reads [] (fresh_open c.args.reader.now c.requires.fresh))

pub message_of-requires : goal.message_of-requires
message_of-requires g c =
    let r = c.in_ok-fed.ensures.reads [] (fresh_open c.args.reader.now c.requires.fresh) in
    let no : is_headed (verdict c.read_on.new.reader) ≡ false = cc in
    record {
      tells = r.tells;
      said = r.says;
      body = unheaded_said c.args.hub.now c.args.reader.now c.read_on.new.reader (g.S.Source.left c.args.source.now) (g.S.Source.left c.read_on.new.source)
          (g.K.Sink.written c.args.sink.now) (g.K.Sink.written c.args.sink.now) c.requires.fresh refl c.in_ok-fed.fed r no;
    }

pub read_body-requires : goal.read_body-requires
read_body-requires g c =
    said_first c.args.hub.now c.args.reader.now c.read_on.new.reader (g.S.Source.left c.args.source.now) (g.S.Source.left c.read_on.new.source)
    (g.K.Sink.written c.args.sink.now) (g.K.Sink.written c.args.sink.now) c.requires.fresh refl c.in_ok-fed.fed
    (c.in_ok-fed.ensures.reads [] (fresh_open c.args.reader.now c.requires.fresh))
