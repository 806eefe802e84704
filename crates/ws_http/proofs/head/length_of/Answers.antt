use Rattle.std.proofs.Common.{◌<◌, arith}
use Rattle.std.proofs.lemmas.Bool.Decides.{nat_tests}
use Rattle.ws_http.proofs.FieldLemmas.{digit_more, below_top}
use Rattle.ws_http.proofs.head.length_of.Goals as goal

pub overflow_mul-number : goal.overflow_mul-number
overflow_mul-number c =
    omega (arith, digit_more _ 0 _ c.loop-byte.invariant.1 (omega arith), below_top c.loop-byte.byte-index (omega arith))

pub overflow_add-number : goal.overflow_add-number
overflow_add-number c =
    let small : c.from.result < 10 = grind (arith, nat_tests, c.from.ensures, c.if-not-is_ascii_digit.false, c.is_ascii_digit.ensures.value) in
    omega (arith, digit_more _ _ _ c.loop-byte.invariant.1 small, below_top c.loop-byte.byte-index (omega arith))
