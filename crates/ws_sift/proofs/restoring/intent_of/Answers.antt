use Rattle.std.proofs.Common.{◌∙◌}
use Rattle.std.specs.BTreeMap.{get}
use Rattle.std.specs.Ordering.{nat_cmp}
use Rattle.ws_sift.proofs.Asking.{last_is, lease_is, notice_is, pending_is}
use Rattle.ws_sift.proofs.restoring.intent_of.Goals as goal

pub returns-in-Some : goal.returns-in-Some
returns-in-Some c h since s l k r kept = pending_is h c.args.n c.in-Some.intent.now (c.in-Some.ensures.stands h since s)

pub returns-in-Some-denied_intent : goal.returns-in-Some-denied_intent
returns-in-Some-denied_intent c h since s l k r kept = notice_is h c.args.n c.in-Some-denied_intent.intent.now (c.in-Some-denied_intent.ensures.stands h since s)

pub returns-in-Some-live_intent : goal.returns-in-Some-live_intent
returns-in-Some-live_intent c h since s l k r kept = lease_is h c.args.n c.args.t l c.in-Some-live_intent.intent.now (c.in-Some-live_intent.ensures.stands h since s k)

pub returns : goal.returns
returns c h since s l k r kept =
    c.get.ensures.value
    ∙ last_is h c.args.n c.args.t l (get nat_cmp c.args.replaced.now) r kept (c.in_default.ensures.stands h since s) (c.in_default-denied_intent.ensures.stands h since s) (c.in_default-live_intent.ensures.stands h since s k)
