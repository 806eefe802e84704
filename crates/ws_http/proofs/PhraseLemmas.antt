-- The phrases of the answers' codes.
use Rattle.std.proofs.Common.{◌≡◌, ℕ, Bool, true, false, refl, sym, subst, arith}
use Rattle.std.specs.Prelude.{◌||◌, ◌==◌}
use Rattle.std.proofs.lemmas.Bool.Decides.{nat_tests}
use Rattle.http.specs.StatusCode.{IsStatusCode, reason_phrase}
use Rattle.ws_http.specs.ResponseFields.{or_empty}
use Rattle.ws_http.specs.Texts.{is_answer_code, phrase}

here : (P : ℕ → Type 0) (n code : ℕ) → P n → (code == n) ≡ true → P code
here P n code holds e = let same : code ≡ n = grind (arith, nat_tests, e) in subst P (sym same) holds

-- what holds of a number holds of a code that is equal to it, or else one of the earlier ones
last_or : (P : ℕ → Type 0) (n code : ℕ) (earlier : Bool) → P n → (earlier ≡ true → P code) → (earlier || (code == n)) ≡ true → P code
last_or P n code true holds others any = others refl
last_or P n code false holds others any = here P n code holds any

-- what holds of each code of an answer
each_code : (P : ℕ → Type 0) (code : ℕ) → P 202 → P 400 → P 404 → P 405 → P 413 → P 415 → P 500 → P 503 → P 507 → is_answer_code code ≡ true → P code
each_code P code a b c d e f g h i known =
    last_or P 507 code _ i
    (last_or P 503 code _ h
    (last_or P 500 code _ g
    (last_or P 415 code _ f
    (last_or P 413 code _ e
    (last_or P 405 code _ d
    (last_or P 404 code _ c
    (last_or P 400 code _ b
    (here P 202 code a)))))))) known

pub answer_code : (code : ℕ) → is_answer_code code ≡ true → IsStatusCode code
answer_code code known =
    each_code IsStatusCode code (omega arith, omega arith) (omega arith, omega arith) (omega arith, omega arith)
    (omega arith, omega arith) (omega arith, omega arith) (omega arith, omega arith)
    (omega arith, omega arith) (omega arith, omega arith) (omega arith, omega arith) known

pub answer_phrase : (code : ℕ) → is_answer_code code ≡ true → (code == 413) ≡ false → or_empty (reason_phrase code) ≡ phrase code
answer_phrase code known other =
    each_code (λ (n : ℕ). (n == 413) ≡ false → or_empty (reason_phrase n) ≡ phrase n) code
    (λ _. refl) (λ _. refl) (λ _. refl) (λ _. refl) (λ e. cc) (λ _. refl) (λ _. refl) (λ _. refl) (λ _. refl) known other
