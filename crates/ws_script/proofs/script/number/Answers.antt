use Rattle.std.proofs.Common.{◌≡◌, ℕ, ◌<◌, ◌^◌, List, true, false, Ok, sym, ap, ◌∙◌, subst, decimal, arith}
use Rattle.std.specs.Str.{IsUtf8}
use Rattle.std.proofs.lemmas.Fmt.{IsAscii-decimal, parse-decimal}
use Rattle.std.proofs.lemmas.Str.{IsUtf8-from_ascii}
use Rattle.ws_script.proofs.script.number.Goals as goal
use Rattle.ws_script.proofs.script.number.Goals.{else-n-most-via-then-n-most+else-is_decimal, else-n-most-via-else-n-most}

decimal_is_text : (text : List ℕ) (n : ℕ) → n < 2 ^ 64 → text ≡ decimal n → IsUtf8 text
decimal_is_text text n small e = subst IsUtf8 (sym e) (IsUtf8-from_ascii (decimal n) (IsAscii-decimal n small))

pub returns-in_default-clause-none : goal.returns-in_default-clause-none
returns-in_default-clause-none c = λ n within e. absurd (c.in_default.ensures.cases.0 (decimal_is_text _ n (omega arith) e))

pub returns-in_default-parse-clause-none : goal.returns-in_default-parse-clause-none
returns-in_default-parse-clause-none c = λ n within e.
    let text_is : c.in-Ok.text.now ≡ decimal n = c.in-Ok.ensures.cases.0 ∙ e in
    c.in_default-parse.not-Ok n (parse-decimal 64 n c.in-Ok.text.now c.parse.result (omega arith) (omega arith) text_is c.parse.ensures.value.0)

pub returns-else-n-most-clause-none : goal.returns-else-n-most-clause-none
returns-else-n-most-clause-none c = λ n within e.
    let text_is : c.in-Ok.text.now ≡ decimal n = c.in-Ok.ensures.cases.0 ∙ e in
    let read : c.parse.result ≡ Ok n = parse-decimal 64 n c.in-Ok.text.now c.parse.result (omega arith) (omega arith) text_is c.parse.ensures.value.0 in
    let same : c.in-Ok-parse.n ≡ n = cc (c.in-Ok-parse.is, read) in
    elim c.else-n-most.branch [
      | else-n-most-via-then-n-most+else-is_decimal w ↦
          (let told : false ≡ true = sym w.if-is_decimal.false ∙ w.is_decimal.ensures.1 (text_is ∙ ap decimal (sym same)) in absurd (cc))
      | else-n-most-via-else-n-most w ↦ absurd (omega arith)
    ]
