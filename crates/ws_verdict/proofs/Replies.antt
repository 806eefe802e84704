-- What a reply to a fetch makes, test by test.
use Rattle.std.proofs.Common.{◌≡◌, ℕ, List, Bool, false, not, cond, ◌∙◌, ap}
use Rattle.std.specs.Prelude.{◌==◌}
use Rattle.ws_model.specs.declared.event.Event.{Event}
use Rattle.ws_model.specs.declared.event.What.TheVariants.{Same, Unfetched}
use Rattle.ws_model.specs.declared.reply.Reply.{Reply}
use Rattle.ws_model.specs.Verdict.{is_coded, is_same, new_version, reply_verdict, version_verdict}
use Rattle.ws_model.specs.Versions.{latest_of}

pub taken : (h : List Event) (t : ℕ) (topic : List ℕ) (upto : ℕ) (link : List ℕ) (r : Reply) (b : Bool) → r.code ≡ 200 → is_coded r ≡ false → is_same r (latest_of topic h) ≡ b
    → reply_verdict h t topic upto link r ≡ cond b (Same topic upto) (version_verdict h t (new_version h topic upto link r))
taken h t topic upto link r b code plain same =
    ap (λ k. cond (not (k == 200)) (Unfetched topic upto r.code) (cond (is_coded r) (Unfetched topic upto 4) (cond (is_same r (latest_of topic h)) (Same topic upto) (version_verdict h t (new_version h topic upto link r))))) code
    ∙ ap (λ z. cond z (Unfetched topic upto 4) (cond (is_same r (latest_of topic h)) (Same topic upto) (version_verdict h t (new_version h topic upto link r)))) plain
    ∙ ap (λ z. cond z (Same topic upto) (version_verdict h t (new_version h topic upto link r))) same
