-- The history of a slice, by its last event.
use Rattle.std.proofs.Common.{◌≡◌, List, [], ◌∷◌, ◌++◌, length, refl, ap, ◌∙◌, arith}
use Rattle.std.specs.Prelude.{reverse}
use Rattle.std.proofs.lemmas.List.{reverse-append}
use Rattle.ws_model.specs.declared.event.Event.{Event}
use Rattle.ws_plain.specs.Past.{past}

pub past_last : (events earlier : List Event) (e : Event) → events ≡ earlier ++ e ∷ [] → past events ≡ e ∷ past earlier
unfolding past
past_last events earlier e p = ap reverse p ∙ reverse-append earlier (e ∷ [])

pub past_none : (events : List Event) → length events ≡ 0 → past events ≡ []
unfolding past
past_none [] p = refl
past_none (e ∷ events) p = absurd (omega arith)
