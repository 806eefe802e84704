use Rattle.std.proofs.Common.{◌≡◌, ap, subst}
use Rattle.ws_http.specs.declared.fed.Fed.{Fed}
use Rattle.ws_http.specs.Requests.{Tells, headed, is_final}
use Rattle.ws_http.specs.RequestStages.{verdict}
use Rattle.ws_front.proofs.Requesting.{request_err, stops_in_body, done_with_body, done_with_head, unwritten}
use Rattle.ws_front.proofs.message.read_body.Goals as goal

pub returns-in_err-last-in-Head-clause-requests : goal.returns-in_err-last-in-Head-clause-requests
returns-in_err-last-in-Head-clause-requests g c hub bytes due left written written' passes read wrote =
    let still : verdict c.args.reader.now ≡ headed = subst (λ (f : Fed). Tells f (verdict c.args.reader.now)) c.in-Head.is c.requires.tells in
    request_err _ _ _ _ _ _ c.in_err-last-in-Head.field-0.0 _ c.from_residual.ensures.1
    (stops_in_body hub bytes due left _ written written' c.args.reader.now passes read wrote still c.read_on.new.reader _
    c.in_err-last-in-Head.field-0.0 _ (c.in_err-last-in-Head.ensures.reads bytes (passes.going_on (ap is_final still))))

pub returns-in_err-last-in-Head-clause-unwritten : goal.returns-in_err-last-in-Head-clause-unwritten
returns-in_err-last-in-Head-clause-unwritten g c =
    let still : verdict c.args.reader.now ≡ headed = subst (λ (f : Fed). Tells f (verdict c.args.reader.now)) c.in-Head.is c.requires.tells in
    let o = c.requires.going_on (ap is_final still) in
    unwritten o.0 c.args.reader.now c.read_on.new.reader (g.S.Source.left c.args.source.now) (g.S.Source.left c.read_on.new.source) c.in_err-last-in-Head.field-0.0 _ c.from_residual.ensures.1 (c.in_err-last-in-Head.ensures.reads o.0 o.1)

pub returns-in_ok-last-in-Head-clause-requests : goal.returns-in_ok-last-in-Head-clause-requests
returns-in_ok-last-in-Head-clause-requests g c hub bytes due left written written' passes read wrote =
    let still : verdict c.args.reader.now ≡ headed = subst (λ (f : Fed). Tells f (verdict c.args.reader.now)) c.in-Head.is c.requires.tells in
    done_with_body hub bytes due left _ written written' c.args.reader.now passes read wrote still c.read_on.new.reader _
    c.in_ok-last-in-Head.last c.message_of.result (c.in_ok-last-in-Head.ensures.reads bytes (passes.going_on (ap is_final still))) c.message_of.ensures

pub returns-in_default-clause-requests : goal.returns-in_default-clause-requests
returns-in_default-clause-requests g c hub bytes due left written written' passes read wrote =
    done_with_head hub bytes due left _ written written' c.args.reader.now passes read wrote c.message_of-in_default.result c.message_of-in_default.ensures

pub read_on-requires : goal.read_on-requires
read_on-requires g c =
    let still : verdict c.args.reader.now ≡ headed = subst (λ (f : Fed). Tells f (verdict c.args.reader.now)) c.in-Head.is c.requires.tells in
    c.requires.going_on (ap is_final still)
