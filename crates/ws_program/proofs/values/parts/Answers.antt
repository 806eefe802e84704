use Rattle.std.proofs.Common.{◌+◌, length, take, drop, sym, ap, ◌∙◌, arith, take_all}
use Rattle.std.proofs.lemmas.List.{drop_all}
use Rattle.std.proofs.lemmas.Str.Pattern.{split_once_first}
use Rattle.ws_program.proofs.values.parts.Goals as goal

-- `split_once` cuts at the first `:`
pub returns-in-Some : goal.returns-in-Some
returns-in-Some c =
    let found = rw c.in-Some.is at (split_once_first 58 c.args.text.now c.split_once.result c.split_once.ensures.cases (omega arith)) in
    record { host = found.1; port = found.2 }

pub returns-in-None : goal.returns-in-None
returns-in-None c =
    let text = c.args.text.now in
    let none = rw c.in-None.is at (split_once_first 58 text c.split_once.result c.split_once.ensures.cases (omega arith)) in
    record {
      host = sym (ap (λ n. take n text) none ∙ take_all (length text) text (omega arith));
      port = sym (ap (λ n. drop (n + 1) text) none ∙ drop_all (length text + 1) text (omega arith));
    }
