use Rattle.ws_record.specs.KindLaws.{kind-lacks, asked, confirmed, declined, unheard, barred, noticed, pinged, fetched, same, unfetched, pushed, tally, revoked}
use Rattle.ws_record.proofs.kinds.WhatReadField.read.Goals as goal

pub returns-in_default-2 : goal.returns-in_default-2
returns-in_default-2 c =
    let front = rw c.in-1.is at c.in-Some.ensures.found in
    let lacks = rw c.in_default-2.is at c.in_ok-n-in-1.ensures in
    kind-lacks asked c.args.bytes.now c.in-Some.rest.now front lacks

pub returns-in_default-3 : goal.returns-in_default-3
returns-in_default-3 c =
    let front = rw c.in-2.is at c.in-Some.ensures.found in
    let lacks = rw c.in_default-3.is at c.in_ok-n-in-2.ensures in
    kind-lacks confirmed c.args.bytes.now c.in-Some.rest.now front lacks

pub returns-in_default-4 : goal.returns-in_default-4
returns-in_default-4 c =
    let front = rw c.in-3.is at c.in-Some.ensures.found in
    let lacks = rw c.in_default-4.is at c.in_ok-n-in-3.ensures in
    kind-lacks declined c.args.bytes.now c.in-Some.rest.now front lacks

pub returns-in_default-5 : goal.returns-in_default-5
returns-in_default-5 c =
    let front = rw c.in-4.is at c.in-Some.ensures.found in
    let lacks = rw c.in_default-5.is at c.in_ok-n-in-4.ensures in
    kind-lacks unheard c.args.bytes.now c.in-Some.rest.now front lacks

pub returns-in_default-6 : goal.returns-in_default-6
returns-in_default-6 c =
    let front = rw c.in-5.is at c.in-Some.ensures.found in
    let lacks = rw c.in_default-6.is at c.in_ok-n-in-5.ensures in
    kind-lacks barred c.args.bytes.now c.in-Some.rest.now front lacks

pub returns-in_default-7 : goal.returns-in_default-7
returns-in_default-7 c =
    let front = rw c.in-6.is at c.in-Some.ensures.found in
    let lacks = rw c.in_default-7.is at c.in_ok-n-in-6.ensures in
    kind-lacks noticed c.args.bytes.now c.in-Some.rest.now front lacks

pub returns-in_default-8 : goal.returns-in_default-8
returns-in_default-8 c =
    let front = rw c.in-7.is at c.in-Some.ensures.found in
    let lacks = rw c.in_default-8.is at c.in_ok-topic-in-7.ensures in
    kind-lacks pinged c.args.bytes.now c.in-Some.rest.now front lacks

pub returns-in_default-9 : goal.returns-in_default-9
returns-in_default-9 c =
    let front = rw c.in-8.is at c.in-Some.ensures.found in
    let lacks = rw c.in_default-9.is at c.in_ok-ver-in-8.ensures in
    kind-lacks fetched c.args.bytes.now c.in-Some.rest.now front lacks

pub returns-in_default-10 : goal.returns-in_default-10
returns-in_default-10 c =
    let front = rw c.in-9.is at c.in-Some.ensures.found in
    let lacks = rw c.in_default-10.is at c.in_ok-topic-in-9.ensures in
    kind-lacks same c.args.bytes.now c.in-Some.rest.now front lacks

pub returns-in_default-11 : goal.returns-in_default-11
returns-in_default-11 c =
    let front = rw c.in-10.is at c.in-Some.ensures.found in
    let lacks = rw c.in_default-11.is at c.in_ok-topic-in-10.ensures in
    kind-lacks unfetched c.args.bytes.now c.in-Some.rest.now front lacks

pub returns-in_default-12 : goal.returns-in_default-12
returns-in_default-12 c =
    let front = rw c.in-11.is at c.in-Some.ensures.found in
    let lacks = rw c.in_default-12.is at c.in_ok-ver-in-11.ensures in
    kind-lacks pushed c.args.bytes.now c.in-Some.rest.now front lacks

pub returns-in_default-13 : goal.returns-in_default-13
returns-in_default-13 c =
    let front = rw c.in-12.is at c.in-Some.ensures.found in
    let lacks = rw c.in_default-13.is at c.in_ok-now-in-12.ensures in
    kind-lacks tally c.args.bytes.now c.in-Some.rest.now front lacks

pub returns-in_default-14 : goal.returns-in_default-14
returns-in_default-14 c =
    let front = rw c.in-13.is at c.in-Some.ensures.found in
    let lacks = rw c.in_default-14.is at c.in_ok-n-in-13.ensures in
    kind-lacks revoked c.args.bytes.now c.in-Some.rest.now front lacks
