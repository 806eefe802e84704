-- Why a Link field can carry each own link.
use Rattle.std.proofs.Common.{◌≡◌, inl, inr, ℕ, List, Bool, true, false, not, ◌||◌, Option, Some, None, ap, ◌∙◌, refl, arith}
use Rattle.std.specs.Prelude.{All, ◌==◌, unwrap_or, option_and_then, if◌then◌else◌}
use Rattle.std.specs.List.{list_all}
use Rattle.std.specs.Char.{is_ascii_control}
use Rattle.std.proofs.lemmas.Bool.{and_parts, and_from}
use Rattle.std.proofs.lemmas.Bool.Decides.{nat_tests}
use Rattle.std.proofs.lemmas.List.Elements.{All-weaker}
use Rattle.url.proofs.InputLemmas.{All_from_list_all, list_any_none}
use Rattle.ws_model.specs.Key.{is_key, is_key_byte}
use Rattle.ws_model.specs.Legal.{is_link, is_key_text}
use Rattle.ws_target.specs.Keys.{joined}
use Rattle.ws_ownlink.specs.OwnLink.{is_fit_link, fit_link, led_to, IsOwnLink}

abbrev is_barred : ℕ → Bool
is_barred c = is_ascii_control c || (c == 62)

plain_byte : (b : ℕ) → is_key_byte b ≡ true → is_barred b ≡ false
plain_byte b plain = grind (arith, nat_tests)

plain_bytes : (bytes : List ℕ) → All (λ b. is_key_byte b ≡ true) bytes → All (λ b. is_barred b ≡ false) bytes
plain_bytes bytes all = All-weaker (λ b. is_key_byte b ≡ true) (λ b. is_barred b ≡ false) plain_byte bytes all

key_bytes : (key : List ℕ) → is_key key ≡ true → list_all is_key_byte key ≡ true
unfolding is_key
key_bytes key holds = (and_parts _ _ holds).1

key_is_link : (key : List ℕ) → is_key key ≡ true → is_link key ≡ true
key_is_link key holds = ap not (list_any_none is_barred key (plain_bytes key (All_from_list_all is_key_byte key (key_bytes key holds))))

-- a key can be carried
key_fits : (key : List ℕ) → is_key_text key ≡ true → is_fit_link key ≡ true
key_fits key holds = and_from _ _ (and_parts _ _ holds).0 (key_is_link key (and_parts _ _ holds).1)

-- what is given of a link can be carried
fit_or : (topic : List ℕ) → is_fit_link topic ≡ true → (o : Option (List ℕ)) → is_fit_link (unwrap_or (option_and_then fit_link o) topic) ≡ true
fit_or topic fits None = fits
fit_or topic fits (Some link) = by_test (is_fit_link link) refl
  where
    by_test : (test : Bool) → is_fit_link link ≡ test → is_fit_link (unwrap_or (if test then Some link else None) topic) ≡ true
    by_test true e = e
    by_test false e = fits

led_fits : (topic : List ℕ) → is_fit_link topic ≡ true → (o : Option (List ℕ)) → is_fit_link (unwrap_or (option_and_then (led_to topic) o) topic) ≡ true
led_fits topic fits None = fits
led_fits topic fits (Some target) = fit_or topic fits (joined topic target)

pub own_link_fits : (topic field link : List ℕ) → is_key_text topic ≡ true → IsOwnLink topic field link → is_fit_link link ≡ true
own_link_fits topic field link key (inl (items, f, p)) = ap is_fit_link p ∙ led_fits topic (key_fits topic key) _
own_link_fits topic field link key (inr (none, p)) = ap is_fit_link p ∙ key_fits topic key
