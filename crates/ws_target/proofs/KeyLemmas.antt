-- What follows of a key from its definition, and which URLs have a key.
use Rattle.std.proofs.Common.{◌≡◌, ◌≢◌, ℕ, ◌≤◌, Bool, true, false, cond, not, ◌&&◌, List, [], ◌++◌, length, Some, None, Ok, Err, sym, refl, ap, ◌∙◌, ⊎_elim, append_assoc, append-nil}
use Rattle.std.specs.Prelude.{Option, Result, codes, bytes_eq, decimal, is_some, option_map, unwrap_or}
use Rattle.std.specs.Result.{result_ok}
use Rattle.std.specs.List.{list_all}
use Rattle.std.specs.Str.{is_utf8}
use Rattle.std.proofs.lemmas.Bool.{true≢false, le-ltb, not-true, not-false, not_from_false, and_parts, and_from, and_left, cases_Bool, or_cases, or_left, or_parts, cond-false}
use Rattle.std.proofs.lemmas.Slice.Eq.{bytes_eq-Decides}
use Rattle.std.proofs.lemmas.Str.{IsUtf8-from_ascii, is_utf8-from_IsUtf8}
use Rattle.url.specs.declared.error.ParseError.{ParseError}
use Rattle.url.specs.declared.scheme.SchemeType.TheVariants.{SpecialNotFile}
use Rattle.url.specs.declared.slicing.Position.TheVariants.{BeforeScheme, AfterPort}
use Rattle.url.specs.Input.{when}
use Rattle.url.specs.Scheme.{default_port, is_special, scheme_type}
use Rattle.url.specs.Host.{host_text}
use Rattle.url.specs.Parts.{Parts, has_credentials, host_or_empty, serialize, text_between, IsValid}
use Rattle.url.specs.Parser.{parse_url}
use Rattle.url.proofs.InputLemmas.{is_empty-nil}
use Rattle.url.proofs.LayoutLemmas.{IsValidHead_same}
use Rattle.url.proofs.ValidLemmas.{IsAscii-serialize, special_has_authority}
use Rattle.url.proofs.Theorems.{parse_url-serialize_special}
use Rattle.ws_model.specs.Key.{is_key, is_key_byte, is_key_of, is_own_text, is_web_scheme}
use Rattle.ws_target.specs.Address.{IsUrlOfKey, key_text, no_url, parts_of, url_against, url_of, without_fragment}
use Rattle.ws_target.specs.Requests.{origin_of, port_text}
use Rattle.ws_target.proofs.PlainLemmas.{key_text_is_plain}
use Rattle.ws_target.specs.Keys.{KeyIsItsOwn, is_served, key_of_url, key_or_fault}

-- http and https are special schemes
web_kind : (scheme : List ℕ) → is_web_scheme scheme ≡ true → scheme_type scheme ≡ SpecialNotFile
unfolding scheme_type default_port
web_kind scheme web =
    let at = λ (name : List ℕ) (same : bytes_eq scheme name ≡ true) (kind : scheme_type name ≡ SpecialNotFile). ap scheme_type ((bytes_eq-Decides scheme name).0 same) ∙ kind in
    ⊎_elim (λ http. at (codes "http") http refl) (λ https. at (codes "https") https refl) (or_cases _ _ web)

without_fragment_is_valid : (url : Parts) → IsValid url → IsValid (without_fragment url)
without_fragment_is_valid url valid =
    record { head = IsValidHead_same url _ refl valid.head; path = valid.path; query = valid.query; fragment = tt }

-- the text without fragment of an http or https URL without credentials is a key
pub key_text_is_key : (url : Parts) → IsValid url → is_web_scheme url.scheme ≡ true → has_credentials url ≡ false → is_key (key_text url) ≡ true
unfolding is_key is_own_text
key_text_is_key url valid web bare =
    let own = without_fragment url in
    let whole = without_fragment_is_valid url valid in
    let kind = web_kind url.scheme web in
    let text = is_utf8-from_IsUtf8 _ (IsUtf8-from_ascii _ (IsAscii-serialize own whole)) in
    let read = parse_url-serialize_special own None whole kind in
    let same = (bytes_eq-Decides (serialize own) (serialize own)).1 refl in
    let found = ap (is_key_of (key_text url)) read ∙ and_from _ _ (and_from _ _ (and_from _ _ web (not_from_false _ bare)) refl) same in
    and_from _ _ (and_from _ _ text found) (key_text_is_plain url valid kind)

-- a scheme that is served is http or https
pub served_is_web : (gateway : Bool) (scheme : List ℕ) → is_served gateway scheme ≡ true → is_web_scheme scheme ≡ true
served_is_web true scheme served = served
served_is_web false scheme served = or_left _ _ (⊎_elim (λ http. http) (λ never. absurd (true≢false (sym never))) (or_cases _ _ served))

-- ---- the test of a key

-- the test of a key, at the URL that a text is
abbrev key_test : List ℕ → Option Parts → Bool
key_test text None = false
key_test text (Some url) = is_key_of text (Ok url)

by_url : (text : List ℕ) (is_text : Bool) (read : Result Parts ParseError) → (is_text && is_key_of text read) ≡ key_test text (cond is_text (result_ok read) None)
by_url text true (Ok url) = refl
by_url text true (Err e) = refl
by_url text false read = refl

own_text_by_url : (text : List ℕ) → is_own_text text ≡ key_test text (url_of text)
unfolding is_own_text url_against
own_text_by_url text = by_url text (is_utf8 text) (parse_url None text)

pub own_text_at_url : (text : List ℕ) (url : Parts) → url_of text ≡ Some url → is_own_text text ≡ is_key_of text (Ok url)
own_text_at_url text url found = own_text_by_url text ∙ ap (key_test text) found

pub own_text_not_url : (text : List ℕ) → url_of text ≡ None → is_own_text text ≡ false
own_text_not_url text missing = own_text_by_url text ∙ ap (key_test text) missing

-- the two tests agree where the bytes of an own text are those of a key
pub is_key_by_own_text : (text : List ℕ) → (is_own_text text ≡ true → list_all is_key_byte text ≡ true) → is_key text ≡ is_own_text text
unfolding is_key
is_key_by_own_text text plain =
    ⊎_elim (λ own. and_from _ _ own (plain own) ∙ sym own) (λ other. and_left _ _ other ∙ sym other) (cases_Bool (is_own_text text))

key_is_own_text : (key : List ℕ) → is_key key ≡ true → is_own_text key ≡ true
unfolding is_key
key_is_own_text key holds = (and_parts _ _ holds).0

-- what the test of a key says of a URL
record IsKeyOf (key : List ℕ) (url : Parts) : Type 0 where
  web : is_web_scheme url.scheme ≡ true
  bare : has_credentials url ≡ false
  whole : url.fragment ≡ None
  spelled : serialize url ≡ key

key_of_url_parts : (key : List ℕ) (url : Parts) → is_key_of key (Ok url) ≡ true → IsKeyOf key url
key_of_url_parts key url holds =
    let parts = and_parts _ _ holds in
    let bare = and_parts _ _ parts.0 in
    let web = and_parts _ _ bare.0 in
    record {
      web = web.0;
      bare = not-true _ web.1;
      whole = no_fragment url.fragment (not-true _ bare.1);
      spelled = (bytes_eq-Decides (serialize url) key).0 parts.1;
    }
  where
    no_fragment : (fragment : Option (List ℕ)) → is_some fragment ≡ false → fragment ≡ None
    no_fragment None missing = refl
    no_fragment (Some text) missing = absurd (true≢false missing)

own_text : (key : List ℕ) (url : Parts) → url.fragment ≡ None → serialize url ≡ key → key_text url ≡ key
own_text key url whole spelled = (λ i. serialize (record url { fragment = sym whole i })) ∙ spelled

-- the bytes of a key are plain ones
pub plain_by_url : (text : List ℕ) (url : Parts) → IsValid url → is_key_of text (Ok url) ≡ true → list_all is_key_byte text ≡ true
plain_by_url text url valid holds =
    let is = key_of_url_parts text url holds in
    ap (list_all is_key_byte) (sym (own_text text url is.whole is.spelled)) ∙ key_text_is_plain url valid (web_kind url.scheme is.web)

-- a key is a URL
pub key_has_url : (key : List ℕ) → is_key key ≡ true → url_of key ≢ None
key_has_url key holds missing = true≢false (sym (key_is_own_text key holds) ∙ own_text_not_url key missing)

pub is_url_of_key : (key : List ℕ) (url : Parts) → is_key key ≡ true → url_of key ≡ Some url → IsUrlOfKey key url
is_url_of_key key url holds found =
    let is = key_of_url_parts key url (sym (own_text_at_url key url found) ∙ key_is_own_text key holds) in
    record { found = found; web = is.web; bare = is.bare; whole = is.whole; spelled = is.spelled }

-- ---- a key is its own key

some_url : (key : List ℕ) (found : Option Parts) → url_of key ≡ found → is_key key ≡ true → (url : Parts) × IsUrlOfKey key url
some_url key None found holds = absurd (key_has_url key holds found)
some_url key (Some url) found holds = (url, is_url_of_key key url holds found)

own_key : (gateway : Bool) (key : List ℕ) (url : Parts) → IsUrlOfKey key url → is_served gateway url.scheme ≡ true → length key ≤ 2048 → key_or_fault gateway key ≡ Ok key
unfolding key_or_fault
own_key gateway key url is served short =
    cond-false _ _ _ (le-ltb 2048 (length key) short) ∙ ap (key_of_url gateway) is.found ∙ cond-false _ _ _ (ap not served) ∙ cond-false _ _ _ is.bare ∙ ap Ok (own_text key url is.whole is.spelled)

pub key_is_own_key : KeyIsItsOwn
key_is_own_key key holds short =
    let found = some_url key (url_of key) refl holds in
    let parts : parts_of key ≡ found.0 = ap (λ o. unwrap_or o no_url) found.1.found in
    (own_key true key found.0 found.1 found.1.web short, λ served. own_key false key found.0 found.1 (ap (λ (url : Parts). is_served false url.scheme) (sym parts) ∙ served) short)

-- ---- the text up to the path

port_end : (host : List ℕ) (port : Option ℕ) → host ++ (when (is_some port) (codes ":") ++ (unwrap_or (option_map decimal port) [] ++ [])) ≡ host ++ port_text port
port_end host None = refl
port_end host (Some n) = ap (λ digits. host ++ (codes ":" ++ digits)) (append-nil (decimal n))

-- an http or https URL without credentials begins with its scheme, `://`, host and port
pub origin_text : (url : Parts) → IsValid url → is_web_scheme url.scheme ≡ true → has_credentials url ≡ false → text_between url BeforeScheme AfterPort ≡ origin_of url
origin_text url valid web bare =
    let none = or_parts _ _ bare in
    let username = is_empty-nil url.username (not-false _ none.0) in
    let password = is_empty-nil url.password (not-false _ none.1) in
    let authority = special_has_authority url valid.head (ap is_special (web_kind url.scheme web)) in
    let host = host_text (host_or_empty url) in
    rw (username, password, authority) (ap (λ rest. url.scheme ++ (codes "://" ++ rest)) (port_end host url.port) ∙ sym (append_assoc url.scheme (codes "://") (host ++ port_text url.port)))
