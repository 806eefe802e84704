use Rattle.std.proofs.Common.{refl, inr}
use Rattle.ws_http.proofs.ReplyLemmas.{interim_more, interim_smaller, final_found, within_more}
use Rattle.ws_http.proofs.reply_head.read_heads.Goals as goal

pub heads-preserved : goal.heads-preserved
heads-preserved c =
    let a = rw c.split_at.ensures.back at c.in-Interim.ensures in
    record {
      read = interim_more c.args.front.now c.heads.at c.in-Interim.len a.0 c.heads.invariant.read a.1 a.2;
      reach = inr (within_more c.args.front.now c.args.from c.heads.at c.in-Interim.len a.0 c.heads.invariant.reach a.1);
    }

pub heads-smaller : goal.heads-smaller
heads-smaller c =
    let a = rw c.split_at.ensures.back at c.in-Interim.ensures in
    interim_smaller c.args.front.now c.heads.at c.in-Interim.len a.0 c.heads.invariant.read a.1

pub returns-in-Final-clause-is : goal.returns-in-Final-clause-is
returns-in-Final-clause-is c =
    let a = rw c.split_at.ensures.back at c.in-Final.ensures in
    (a.0, final_found c.args.front.now _ c.in-Final.len a.0 c.heads.invariant.read a.1 a.2 refl, a.3)

pub returns-in-Final-clause-reach : goal.returns-in-Final-clause-reach
returns-in-Final-clause-reach c =
    let a = rw c.split_at.ensures.back at c.in-Final.ensures in
    within_more c.args.front.now c.args.from c.heads.at c.in-Final.len a.0 c.heads.invariant.reach a.1
