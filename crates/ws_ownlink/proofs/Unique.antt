-- Why there is one own link.
use Rattle.std.proofs.Common.{◌≡◌, inl, inr, ℕ, List, sym, ap, ◌∙◌, unwrap_or}
use Rattle.ws_linkhdr.proofs.Places.{only_one}
use Rattle.ws_ownlink.specs.OwnLink.{self_link, IsOwnLink}

pub one_link : (topic field a b : List ℕ) → IsOwnLink topic field a → IsOwnLink topic field b → a ≡ b
one_link topic field a b (inl (items, f, p)) (inl (others, g, q)) =
    p ∙ ap (λ x. unwrap_or (self_link topic x) topic) (only_one field others g items f) ∙ sym q
one_link topic field a b (inl (items, f, p)) (inr (none, q)) = absurd (none items f)
one_link topic field a b (inr (none, p)) (inl (others, g, q)) = absurd (none others g)
one_link topic field a b (inr (none, p)) (inr (other, q)) = p ∙ sym q
