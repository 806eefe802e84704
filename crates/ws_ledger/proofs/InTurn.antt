-- The first of three that is there.
use Rattle.std.proofs.Common.{◌≡◌, refl, ap, ◌∙◌, Bor}
use Rattle.std.specs.Prelude.{Option, Some, None}
use Rattle.std.specs.Option.{option_copied, option_or}
use Rattle.ws_model.specs.declared.event.Intent.{Intent}

copied_or : (a b : Option (Bor Intent)) → option_copied (option_or a b) ≡ option_or (option_copied a) (option_copied b)
copied_or None b = refl
copied_or (Some x) b = refl

pub first_of_three :
    (a b c second all : Option (Bor Intent)) (x y z : Option Intent) → second ≡ option_or b c → all ≡ option_or a second
    → option_copied a ≡ x → option_copied b ≡ y → option_copied c ≡ z → option_copied all ≡ option_or x (option_or y z)
first_of_three a b c second all x y z k l p q r =
    ap option_copied l ∙ copied_or a second
    ∙ ap (λ o. option_or (option_copied a) (option_copied o)) k
    ∙ ap (option_or (option_copied a)) (copied_or b c)
    ∙ λ i. option_or (p i) (option_or (q i) (r i))
