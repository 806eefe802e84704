use Rattle.std.proofs.Common.{◌<◌, ◌+◌, ℕ, List, [], get_or, length, drop, ◌∙◌, ap, subst, arith}
use Rattle.std.proofs.lemmas.List.{drop_more}
use Rattle.ws_journal.specs.UpTo.{IsUpTo}
use Rattle.ws_journal.proofs.Looking.{then_calls}
use Rattle.ws_journal.proofs.Results.{no_value, one_value}
use Rattle.ws_journal.proofs.Between.{here, short, some, fits, behind, length-text}
use Rattle.ws_journal.proofs.read_back.skip_records.Goals as goal

pub returns-in_default-clause-place : goal.returns-in_default-clause-place
returns-in_default-clause-place g c = λ honest payloads left few up.
    let D = g.D.Disk in
    let file = D.seen c.args.disk.now in
    let loop = c.loop in
    let same = (loop.invariant.reads.unwritten honest).same in
    let within : loop.counter < length payloads = omega (arith, few, c.loop-test.true) in
    let payload = get_or payloads loop.counter [] in
    let rest = drop (loop.counter + 1) payloads in
    let more = subst (λ (ps : List (List ℕ)). IsUpTo c.args.edition loop.at c.args.end ps left file) (drop_more payloads loop.counter [] within) (loop.invariant.so_far honest payloads left few up) in
    let one = here c.args.edition loop.at c.args.end left file payload rest more in
    let read = c.in_ok-len.ensures.len (loop.invariant.reads.honesty.1 honest) payload _ (short c.args.edition loop.at c.args.end left file payload rest more) (some c.args.edition loop.at c.args.end left file payload rest more)
    (ap (drop loop.at) same ∙ one) (fits c.args.edition loop.at c.args.end left file payload rest more) in
    absurd (no_value c.in_ok-len.field-0 (length payload) c.in_default.is read)

pub loop-preserved : goal.loop-preserved
loop-preserved g c =
    let D = g.D.Disk in
    let file = D.seen c.args.disk.now in
    let loop = c.loop in
    record {
      shows = c.in_ok-len.ensures.shows;
      reads = then_calls D.honest D.seen D.moment D.images D.faults c.args.disk.now loop.disk c.record_len.new.disk loop.invariant.reads c.in_ok-len.ensures.reads;
      so_far = λ honest payloads left few up.
          let same = (loop.invariant.reads.unwritten honest).same in
          let within : loop.counter < length payloads = omega (arith, few, c.loop-test.true) in
          let payload = get_or payloads loop.counter [] in
          let rest = drop (loop.counter + 1) payloads in
          let more = subst (λ (ps : List (List ℕ)). IsUpTo c.args.edition loop.at c.args.end ps left file) (drop_more payloads loop.counter [] within) (loop.invariant.so_far honest payloads left few up) in
          let one = here c.args.edition loop.at c.args.end left file payload rest more in
          let read = c.in_ok-len.ensures.len (loop.invariant.reads.honesty.1 honest) payload _ (short c.args.edition loop.at c.args.end left file payload rest more) (some c.args.edition loop.at c.args.end left file payload rest more)
          (ap (drop loop.at) same ∙ one) (fits c.args.edition loop.at c.args.end left file payload rest more) in
          let len = one_value c.in_ok-len.field-0 c.in-Some.len (length payload) c.in-Some.is read in
          behind c.args.edition loop.at c.args.end left file payload rest more (loop.at + (c.start_bytes.result + c.in-Some.len))
          (omega (arith, len, c.start_bytes.ensures, length-text c.args.edition loop.at c.args.end left file payload rest more));
    }
