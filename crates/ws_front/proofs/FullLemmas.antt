-- The bytes of the answer 503, put together.
use Rattle.std.proofs.Common.{◌≡◌, ℕ, ◌+◌, List, [], ◌++◌, length, ap, ◌∙◌}
use Rattle.std.specs.Prelude.{codes, decimal}
use Rattle.std.specs.Fmt.{digits}
use Rattle.ws_http.specs.Texts.{response_text}
use Rattle.ws_front.specs.Answers.{response_bytes}

pub full_bytes : (text a b c d e f : List ℕ) (n : ℕ) → a ≡ []
    → b ≡ a ++ codes "HTTP/1.1 503 Service Unavailable\r\nContent-Type: text/plain; charset=utf-8\r\nContent-Length: "
    → c ≡ b ++ decimal (n + 1) → d ≡ c ++ codes "\r\nConnection: close\r\n\r\n" → e ≡ d ++ text → f ≡ e ++ codes "\n"
    → n ≡ length text → f ≡ response_bytes (record { code = 503; text = text })
unfolding response_text digits
full_bytes text a b c d e f n empty head number close body feed long =
    feed ∙ ap (λ (t : List ℕ). t ++ codes "\n") (body ∙ ap (λ (t : List ℕ). t ++ text)
    (close ∙ ap (λ (t : List ℕ). t ++ codes "\r\nConnection: close\r\n\r\n")
    (number ∙ ap (λ (k : ℕ). b ++ decimal (k + 1)) long
    ∙ ap (λ (t : List ℕ). t ++ decimal (length text + 1))
    (head ∙ ap (λ (t : List ℕ). t ++ codes "HTTP/1.1 503 Service Unavailable\r\nContent-Type: text/plain; charset=utf-8\r\nContent-Length: ") empty))))
