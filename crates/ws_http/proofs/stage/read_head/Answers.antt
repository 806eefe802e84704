use Rattle.std.proofs.Common.{true, false, sym, ◌∙◌, refl, arith, length, subst, List, ℕ}
use Rattle.ws_http.specs.Heads.{Judges}
use Rattle.ws_http.specs.RequestStages.{HasHead}
use Rattle.ws_http.specs.declared.head.Framing.{Framing}
use Rattle.ws_http.specs.declared.head.Judged.TheVariants as judged
use Rattle.ws_http.specs.Requests.{bad}
use Rattle.std.specs.Prelude.{nat_lt}
use Rattle.std.proofs.lemmas.Bool.Decides.{nat_tests}
use Rattle.ws_http.proofs.StageLemmas.{either_not, head_open, by_front, fixed_long}
use Rattle.ws_http.proofs.stage.read_head.Goals as goal

pub returns-then-length-room-clause-holds : goal.returns-then-length-room-clause-holds
returns-then-length-room-clause-holds c plain bytes e t =
    let x = c.in-Head-default-Fixed in
    let h = subst (λ (f : Framing). HasHead c.args.raw.now x.head f) x.field-1-is
    (subst (λ (b : List ℕ). Judges b (judged.Head x.head x.field-1)) c.front_of.ensures.value x.ensures) in
    fixed_long c.args.room c.in-Head-default-Fixed.head c.in-Head-default-Fixed.length 0 c.args.raw.now c.requires.least h bytes e (omega arith)

pub returns-then-passes_head-clause-holds : goal.returns-then-passes_head-clause-holds
returns-then-passes_head-clause-holds c plain bytes e t =
    let o = rw c.front_of.ensures.value at c.in-Open.ensures in
    head_open c.args.room c.args.raw.now bytes c.args.over true c.requires.least e t (sym c.passes_head.ensures ∙ c.if-passes_head.true) o

pub returns-else-passes_head-clause-holds : goal.returns-else-passes_head-clause-holds
returns-else-passes_head-clause-holds c plain bytes e t =
    let o = rw c.front_of.ensures.value at c.in-Open.ensures in
    head_open c.args.room c.args.raw.now bytes c.args.over false c.requires.least e t (sym c.passes_head.ensures ∙ c.if-passes_head.false) o

pub returns-in-Bad-clause-holds : goal.returns-in-Bad-clause-holds
returns-in-Bad-clause-holds c plain bytes e t =
    let b = subst (λ (x : List ℕ). Judges x (judged.Bad c.in-Bad.why)) c.front_of.ensures.value c.in-Bad.ensures in
    by_front c.args.room c.args.raw.now bytes (judged.Bad c.in-Bad.why) (bad c.in-Bad.why false) c.requires.least e b refl

pub returns-else-passes_head-clause-ready : goal.returns-else-passes_head-clause-ready
returns-else-passes_head-clause-ready c plain =
    let o = rw c.front_of.ensures.value at c.in-Open.ensures in
    let few = either_not (nat_lt 16384 (length c.args.raw.now)) c.args.over (sym c.passes_head.ensures ∙ c.if-passes_head.false) in
    (refl, record { none = o.0; short = grind (arith, nat_tests, few) })
