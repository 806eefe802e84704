use Rattle.std.proofs.Common.{◌≡◌, ◌<◌, ◌+◌, suc, subst, ◌++◌, ap, sym, ◌∙◌, map, filter, take, length, [], ◌∷◌, arith}
use Rattle.std.specs.Prelude.{bytes_eq}
use Rattle.std.specs.List.{list_any}
use Rattle.std.proofs.Math.Seq.{take-length, take-suc}
use Rattle.ws_model.specs.declared.event.What.TheVariants.{Pinged}
use Rattle.ws_model.specs.Answer.{first_mentions, has_live_lease}
use Rattle.ws_answer.specs.Judged.{unless}
use Rattle.ws_answer.proofs.Mentions.{pinged_more}
use Rattle.ws_answer.proofs.pings.pings.Goals as goal

pub loop-at-init : goal.loop-at-init
loop-at-init c = record { pinged = λ h since s l later. c.new-events.ensures.items }

pub loop-at-preserved : goal.loop-at-preserved
loop-at-preserved c =
    let lt : c.loop-at.at < length c.args.topics.now = c.loop-at-test.true in
    let one_longer : take (c.loop-at.at + 1) c.args.topics.now ≡ take c.loop-at.at c.args.topics.now ++ c.index-topics-at.result ∷ [] =
    subst (λ k. take k c.args.topics.now ≡ take c.loop-at.at c.args.topics.now ++ c.index-topics-at.result ∷ []) (let e : suc c.loop-at.at ≡ c.loop-at.at + 1 = omega arith in e)
    (take-suc c.args.topics.now c.loop-at.at c.index-topics-at.result lt ∙ ap (λ x. take c.loop-at.at c.args.topics.now ++ x ∷ []) (sym c.index-topics-at.is)) in
    record {
      pinged = λ h since s l later.
          c.in_ok-mention.ensures.added h since s l later
          ∙ ap (λ items. items ++ map (λ topic. Pinged topic) (filter (has_live_lease h c.args.t) (unless (list_any (λ y. bytes_eq y c.index-topics-at.result) (take c.loop-at.at c.args.topics.now)) c.index-topics-at.result))) (c.loop-at.invariant.pinged h since s l later)
          ∙ sym (ap (λ topics. map (λ topic. Pinged topic) (filter (has_live_lease h c.args.t) (first_mentions topics))) one_longer ∙ pinged_more (λ topic. Pinged topic) (has_live_lease h c.args.t) (take c.loop-at.at c.args.topics.now) c.index-topics-at.result);
    }

pub returns-clause-pings : goal.returns-clause-pings
returns-clause-pings c h since s l later =
    let at_end : length c.args.topics.now ≡ c.loop-at.at = let a = c.loop-at-test.false in let b = c.loop-at.auto.at-end in omega arith in
    let all : take c.loop-at.at c.args.topics.now ≡ c.args.topics.now = subst (λ k. take k c.args.topics.now ≡ c.args.topics.now) at_end (take-length c.args.topics.now) in
    c.loop-at.invariant.pinged h since s l later ∙ ap (λ topics. map (λ topic. Pinged topic) (filter (has_live_lease h c.args.t) (first_mentions topics))) all
