-- A number that no version that was added has.
use Rattle.std.proofs.Common.{◌≡◌, ℕ, false, cond, List, ap, ◌∙◌, Some, None}
use Rattle.std.specs.Prelude.{◌==◌}
use Rattle.ws_model.specs.declared.event.Version.{Version}
use Rattle.ws_topic.specs.Rows.{number_at}

pub other_number : (old new : List (ℕ × Version)) (v : Version) (m : ℕ) → ((q : ℕ) → number_at q new ≡ cond (q == v.ver) (Some v) (number_at q old)) → (m == v.ver) ≡ false → number_at m old ≡ None → number_at m new ≡ None
other_number old new v m look e none = look m ∙ ap (λ b. cond b (Some v) (number_at m old)) e ∙ none
