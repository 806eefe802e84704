use Rattle.std.proofs.Common.{◌≡◌, ◌<◌, ◌∷◌, ◌++◌, ℕ, List, Some, length, drop, ap, arith, length-append, length-drop}
use Rattle.ws_journal.specs.Text.{record_text}
use Rattle.ws_journal.proofs.Found.{length-record_text}
use Rattle.ws_journal.proofs.Between.{opens, one_len}
use Rattle.ws_journal.proofs.read_back.record_len.Goals as goal

-- the gate is within the device
within : (at : ℕ) (file text next : List ℕ) → drop at file ≡ 1 ∷ text ++ next → at < length file
within at file text next is = omega (arith, ap length is, length-drop at file, length-append (1 ∷ text) next)

pub returns-in_default-clause-len : goal.returns-in_default-clause-len
returns-in_default-clause-len g c = λ honest payload next short some is fits.
    let file = g.D.Disk.seen c.args.disk.now in
    let start = c.in_ok-len.ensures.start honest (within c.args.at file (record_text c.args.edition payload) next is) in
    let there = opens c.args.edition (drop c.args.at file) payload next c.in_ok-len.field-0 short some is start in
    absurd (c.in_default.not-Open (length payload) there.0 there.1)

pub returns-clause-len : goal.returns-clause-len
returns-clause-len g c = λ honest payload next short some is fits.
    let file = g.D.Disk.seen c.args.disk.now in
    let start = c.in_ok-len.ensures.start honest (within c.args.at file (record_text c.args.edition payload) next is) in
    let there = opens c.args.edition (drop c.args.at file) payload next c.in_ok-len.field-0 short some is start in
    ap Some (one_len c.in_ok-len.field-0 c.in-Open.len (length payload) c.in-Open.kept there.0 c.in-Open.is there.1)

pub returns-then-saturating_sub-start_bytes-clause-len : goal.returns-then-saturating_sub-start_bytes-clause-len
returns-then-saturating_sub-start_bytes-clause-len g c = λ honest payload next short some is fits.
    let file = g.D.Disk.seen c.args.disk.now in
    let start = c.in_ok-len.ensures.start honest (within c.args.at file (record_text c.args.edition payload) next is) in
    let there = opens c.args.edition (drop c.args.at file) payload next c.in_ok-len.field-0 short some is start in
    let len = one_len c.in_ok-len.field-0 c.in-Open.len (length payload) c.in-Open.kept there.0 c.in-Open.is there.1 in
    absurd (omega (arith, len, fits, c.saturating_sub.ensures, c.start_bytes.ensures, c.if-saturating_sub-start_bytes.true, length-record_text c.args.edition payload))
