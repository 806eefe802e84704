use Rattle.std.proofs.Common.{◌≡◌, ◌+◌, ◌++◌, ℕ, List, length, take, drop, sym, ◌∙◌, ap, subst, arith, length-drop, refl}
use Rattle.ws_journal.specs.Image.{digest_len}
use Rattle.ws_journal.specs.Device.{StandsOpen}
use Rattle.ws_journal.proofs.Starts.{short_payload, whole_payload}
use Rattle.ws_journal.proofs.scan.read_whole.Goals as goal

pub returns-then-size-at-clause-whole : goal.returns-then-size-at-clause-whole
returns-then-size-at-clause-whole g c = λ honest size.
    let D = g.D.Disk in
    let left = drop c.args.at (D.seen c.args.disk.now) in
    let start = rw c.in-Open.is at (c.in_ok-read_start.ensures.start honest (omega (arith, size))) in
    (refl, short_payload c.args.edition c.in-Open.len c.in-Open.kept start.0 left start.1 (omega (arith, size, length-drop c.args.at (D.seen c.args.disk.now), c.start_bytes-before.ensures)))

pub returns-clause-whole : goal.returns-clause-whole
returns-clause-whole g c = λ honest size.
    let D = g.D.Disk in
    let file = D.seen c.args.disk.now in
    let left = drop c.args.at file in
    let start = rw c.in-Open.is at (c.in_ok-read_start.ensures.start honest (omega (arith, size))) in
    let first = c.in_ok-read_start.ensures.reads in
    let place : c.args.at + c.start_bytes-before.result ≡ c.args.at + (5 + digest_len c.args.edition) = omega (arith, c.start_bytes-before.ensures) in
    let read = c.in_ok-payload.ensures.bytes (first.honesty.1 honest) ∙ ap (λ (f : List ℕ). take c.in-Open.len (drop (c.args.at + c.start_bytes-before.result) f)) (first.unwritten honest).same
    ∙ ap (λ (n : ℕ). take c.in-Open.len (drop n file)) place in
    let whole = whole_payload c.args.edition c.in-Open.len c.in-Open.kept start.0 left start.1 c.args.at file c.in_ok-payload.payload.items refl read
    (omega (arith, size, length-drop c.args.at file, c.start_bytes-before.ensures)) in
    let items = c.in_ok-payload.payload.items in (
      subst (λ (n : ℕ). StandsOpen c.args.edition (length items) c.in-Open.kept (items ++ drop (n + c.in-Open.len) file) left) (sym place) whole.1,
      omega (arith, place, whole.0),
    )
