use Rattle.std.proofs.Common.{◌≡◌, ap, sym, ◌∙◌, false, cond, not, ◌&&◌, ◌||◌}
use Rattle.std.specs.Prelude.{is_some, ◌==◌}
use Rattle.ws_intent.specs.Rising.{has_number, is_it}
use Rattle.ws_intent.proofs.Rises.{absent, gone, nothing}
use Rattle.ws_intent.proofs.first.give_way.Goals as goal

pub put_in-requires : goal.put_in-requires
put_in-requires c = record { rising = (gone c.args.numbers.now c.take.new.self c.args.n c.requires.rising c.take.ensures.left).rising }

pub returns-in-Some-next-clause-numbers : goal.returns-in-Some-next-clause-numbers
returns-in-Some-next-clause-numbers c =
    let xs = c.args.numbers.now in
    let left = gone xs c.take.new.self c.args.n c.requires.rising c.take.ensures.left in
    λ q.
    c.put_in.ensures.numbers q ∙ ap (λ b. (c.in-Some-next.m == q) || b) (left.has q)
    ∙ ap (λ o. is_it o q || (not (c.args.n == q) && has_number xs q)) (sym c.in-Some-next.is)
    ∙ ap (λ b. cond b (is_it c.args.next q || (not (c.args.n == q) && has_number xs q)) (has_number xs q)) (sym (sym c.take.ensures.found ∙ ap is_some c.in-Some.is))

pub returns-in_default-next-clause-rising : goal.returns-in_default-next-clause-rising
returns-in_default-next-clause-rising c = (gone c.args.numbers.now c.take.new.self c.args.n c.requires.rising c.take.ensures.left).rising

pub returns-in_default-next-clause-numbers : goal.returns-in_default-next-clause-numbers
returns-in_default-next-clause-numbers c =
    let xs = c.args.numbers.now in
    let left = gone xs c.take.new.self c.args.n c.requires.rising c.take.ensures.left in
    λ q.
    left.has q
    ∙ ap (λ o. is_it o q || (not (c.args.n == q) && has_number xs q)) (sym (nothing c.args.next c.in_default-next.not-Some))
    ∙ ap (λ b. cond b (is_it c.args.next q || (not (c.args.n == q) && has_number xs q)) (has_number xs q)) (sym (sym c.take.ensures.found ∙ ap is_some c.in-Some.is))

pub returns-in_default-clause-rising : goal.returns-in_default-clause-rising
returns-in_default-clause-rising c = (gone c.args.numbers.now c.take.new.self c.args.n c.requires.rising c.take.ensures.left).rising

pub returns-in_default-clause-numbers : goal.returns-in_default-clause-numbers
returns-in_default-clause-numbers c =
    let xs = c.args.numbers.now in
    let left = gone xs c.take.new.self c.args.n c.requires.rising c.take.ensures.left in
    let none : has_number xs c.args.n ≡ false = sym c.take.ensures.found ∙ ap is_some c.in_default.is in
    λ q. left.has q ∙ absent xs c.args.n q none ∙ ap (λ b. cond b (is_it c.args.next q || (not (c.args.n == q) && has_number xs q)) (has_number xs q)) (sym none)
