use Rattle.std.proofs.Common.{◌≡◌, ℕ, Bool, List, [], ◌∷◌, true, refl}
use Rattle.std.proofs.lemmas.Bool.{or_right}
use Rattle.std.specs.List.{list_any}
use Rattle.ws_model.specs.declared.event.Alg.{Alg}
use Rattle.ws_model.specs.declared.event.Alg.TheVariants.{Sha1, Sha256, Sha384, Sha512}
use Rattle.ws_hmac.specs.Sign.{hmac_by, is_signed_by, sign}
use Rattle.ws_hmac.proofs.Digits.{lowered_is_encoded}
use Rattle.ws_hmac.proofs.laws.own_signature_checks.Goals as goal

-- the method that made it takes it
own : (alg : Alg) (secret body : List ℕ) → is_signed_by alg (sign alg secret body) secret body ≡ true
own Sha1 secret body = lowered_is_encoded (hmac_by Sha1 secret body)
own Sha256 secret body = lowered_is_encoded (hmac_by Sha256 secret body)
own Sha384 secret body = lowered_is_encoded (hmac_by Sha384 secret body)
own Sha512 secret body = lowered_is_encoded (hmac_by Sha512 secret body)

-- one method of the four
among : (p : Alg → Bool) (alg : Alg) → p alg ≡ true → list_any p (Sha1 ∷ Sha256 ∷ Sha384 ∷ Sha512 ∷ []) ≡ true
among p Sha1 h = rw h refl
among p Sha256 h = or_right (p Sha1) _ (rw h refl)
among p Sha384 h = or_right (p Sha1) _ (or_right (p Sha256) _ (rw h refl))
among p Sha512 h = or_right (p Sha1) _ (or_right (p Sha256) _ (or_right (p Sha384) _ (rw h refl)))

pub returns : goal.returns
returns c alg secret body =
    among (λ m. is_signed_by m (sign alg secret body) secret body) alg (own alg secret body)
