-- One call more in a record.
use Rattle.std.proofs.Common.{◌≡◌, ℕ, ◌+◌, ◌≤◌, List, [], ◌∷◌, ◌++◌, length, drop, refl, ◌∙◌, ap, arith, length-drop}
use Rattle.std.proofs.lemmas.List.{take-append-le, drop-append-le}
use Rattle.ws_disk.specs.declared.log.Call.{Call}
use Rattle.ws_disk.specs.declared.log.Call.TheVariants.{Wrote, Cut as Shortened, Synced, Idle}
use Rattle.ws_disk.specs.Record.{Step, wrote, step_of, count_of, count_all, steps_after}

pub count_all-push : (calls : List Call) (call : Call) → count_all (calls ++ call ∷ []) ≡ count_all calls + count_of call
count_all-push [] call = omega arith
count_all-push (c ∷ calls) call = omega (arith, count_all-push calls call)

step_of-front : (call : Call) (bytes more : List ℕ) → count_of call ≤ length bytes → step_of call (bytes ++ more) ≡ step_of call bytes
step_of-front (Wrote at count) bytes more le = ap (wrote at) (take-append-le count bytes more le)
step_of-front (Shortened size) bytes more le = refl
step_of-front Synced bytes more le = refl
step_of-front Idle bytes more le = refl

pub steps_after-push : (past : List Step) (calls : List Call) (call : Call) (bytes more : List ℕ) → count_all calls ≡ length bytes
    → steps_after past (calls ++ call ∷ []) (bytes ++ more) ≡ step_of call more ∷ steps_after past calls bytes
steps_after-push past [] call [] more counted = refl
steps_after-push past [] call (b ∷ bytes) more counted = absurd (omega arith)
steps_after-push past (c ∷ calls) call bytes more counted =
    let fits : count_of c ≤ length bytes = omega arith in
    let rest = drop (count_of c) bytes in
    let first : step_of c (bytes ++ more) ∷ past ≡ step_of c bytes ∷ past = ap (λ (s : Step). s ∷ past) (step_of-front c bytes more fits) in
    let later : drop (count_of c) (bytes ++ more) ≡ rest ++ more = drop-append-le (count_of c) bytes more fits in
    (λ i. steps_after (first i) (calls ++ call ∷ []) (later i))
    ∙ steps_after-push (step_of c bytes ∷ past) calls call rest more (omega (arith, length-drop (count_of c) bytes))
