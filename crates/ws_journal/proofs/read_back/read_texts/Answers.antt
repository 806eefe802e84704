use Rattle.std.proofs.Common.{◌≡◌, ◌+◌, ◌∷◌, ◌++◌, ℕ, List, [], length, take, drop, sym, ◌∙◌, ap, subst, arith, append_assoc}
use Rattle.std.proofs.lemmas.List.{append-nil}
use Rattle.ws_journal.specs.UpTo.{IsUpTo}
use Rattle.ws_journal.proofs.Looking.{then_calls}
use Rattle.ws_journal.proofs.Results.{no_value, one_value}
use Rattle.ws_journal.proofs.Between.{here, short, some, fits, behind, length-text, payload_there, first_of, at_last}
use Rattle.ws_journal.proofs.read_back.read_texts.Goals as goal

pub returns-in_default-clause-texts : goal.returns-in_default-clause-texts
returns-in_default-clause-texts g c = λ honest payloads left up.
    let D = g.D.Disk in
    let file = D.seen c.args.disk.now in
    let loop = c.loop-at in
    let same = (loop.invariant.reads.unwritten honest).same in
    let so_far = loop.invariant.so_far honest payloads left up in
    let first = first_of c.args.edition loop.at c.args.end left file so_far.0 so_far.2 c.loop-at-test.true in
    let more = subst (λ (ps : List (List ℕ)). IsUpTo c.args.edition loop.at c.args.end ps left file) first.2 so_far.2 in
    let one = here c.args.edition loop.at c.args.end left file first.0 first.1 more in
    let read = c.in_ok-len.ensures.len (loop.invariant.reads.honesty.1 honest) first.0 _ (short c.args.edition loop.at c.args.end left file first.0 first.1 more) (some c.args.edition loop.at c.args.end left file first.0 first.1 more)
    (ap (drop loop.at) same ∙ one) (fits c.args.edition loop.at c.args.end left file first.0 first.1 more) in
    absurd (no_value c.in_ok-len.field-0 (length first.0) c.in_default.is read)

pub returns-clause-texts : goal.returns-clause-texts
returns-clause-texts g c = λ honest payloads left up.
    let D = g.D.Disk in
    let file = D.seen c.args.disk.now in
    let loop = c.loop-at in
    let so_far = loop.invariant.so_far honest payloads left up in
    let last = at_last c.args.edition loop.at c.args.end left file so_far.0 so_far.2 c.loop-at-test.false in
    sym (so_far.1 ∙ ap (λ (l : List (List ℕ)). loop.texts.items ++ l) last ∙ append-nil loop.texts.items)

pub loop-at-preserved : goal.loop-at-preserved
loop-at-preserved g c =
    let D = g.D.Disk in
    let file = D.seen c.args.disk.now in
    let loop = c.loop-at in
    let len_read = then_calls D.honest D.seen D.moment D.images D.faults c.args.disk.now loop.disk c.record_len.new.disk loop.invariant.reads c.in_ok-len.ensures.reads in
    record {
      shows = c.in_ok-text.ensures.shows;
      reads = then_calls D.honest D.seen D.moment D.images D.faults c.args.disk.now c.record_len.new.disk c.read_bytes.new.disk len_read c.in_ok-text.ensures.reads;
      so_far = λ honest payloads left up.
          let same = (loop.invariant.reads.unwritten honest).same in
          let so_far = loop.invariant.so_far honest payloads left up in
          let first = first_of c.args.edition loop.at c.args.end left file so_far.0 so_far.2 c.loop-at-test.true in
          let payload = first.0 in
          let rest = first.1 in
          let more = subst (λ (ps : List (List ℕ)). IsUpTo c.args.edition loop.at c.args.end ps left file) first.2 so_far.2 in
          let one = here c.args.edition loop.at c.args.end left file payload rest more in
          let read = c.in_ok-len.ensures.len (loop.invariant.reads.honesty.1 honest) payload _ (short c.args.edition loop.at c.args.end left file payload rest more) (some c.args.edition loop.at c.args.end left file payload rest more)
          (ap (drop loop.at) same ∙ one) (fits c.args.edition loop.at c.args.end left file payload rest more) in
          let len = one_value c.in_ok-len.field-0 c.in-Some.len (length payload) c.in-Some.is read in
          let place = loop.at + c.start_bytes.result in
          let text : c.in_ok-text.text.items ≡ payload =
          c.in_ok-text.ensures.bytes (len_read.honesty.1 honest) ∙ ap (λ (f : List ℕ). take c.in-Some.len (drop place f)) (len_read.unwritten honest).same ∙ ap (λ (n : ℕ). take n (drop place file)) len
          ∙ payload_there c.args.edition loop.at c.args.end left file payload rest more place (omega (arith, c.start_bytes.ensures)) in (
            rest,
            so_far.1 ∙ ap (λ (l : List (List ℕ)). loop.texts.items ++ l) first.2 ∙ sym (append_assoc loop.texts.items (payload ∷ []) rest) ∙ ap (λ (l : List (List ℕ)). l ++ rest) (sym (c.in_ok-push.ensures.items ∙ ap (λ (x : List ℕ). loop.texts.items ++ x ∷ []) (c.from_vec.ensures ∙ text))),
            behind c.args.edition loop.at c.args.end left file payload rest more (place + c.in-Some.len) (omega (arith, len, c.start_bytes.ensures, length-text c.args.edition loop.at c.args.end left file payload rest more)),
          );
    }
