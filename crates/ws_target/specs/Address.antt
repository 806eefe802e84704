-- URLs as bytes name them (URL Standard, sections 4.1, 4.4 and 4.5, as the crate `url` states them).
use Rattle.std.specs.Prelude.{◌≡◌, ℕ, true, false, List, [], Option, Some, None, unwrap_or, if◌then◌else◌}
use Rattle.std.specs.Result.{result_ok}
use Rattle.std.specs.Str.{is_utf8}
use Rattle.url.specs.Parts.{Parts, has_credentials, serialize}
use Rattle.url.specs.Parser.{parse_url}
use Rattle.ws_model.specs.Key.{is_web_scheme}

-- the URL whose text, in UTF-8, these bytes are, read against a base where there is one
unfoldable pub url_against : Option Parts → List ℕ → Option Parts
url_against base text = if is_utf8 text then result_ok (parse_url base text) else None

-- the same without a base
abbrev pub url_of : List ℕ → Option Parts
url_of text = url_against None text

-- a URL of which every part is empty or missing
abbrev pub no_url : Parts
no_url = record {
  scheme = [];
  username = [];
  password = [];
  host = None;
  port = None;
  path = [];
  query = None;
  fragment = None;
}

-- the parts of a key's URL; bytes that aren't the text of a URL have none
abbrev pub parts_of : List ℕ → Parts
parts_of key = unwrap_or (url_of key) no_url

-- the URL without its fragment
abbrev pub without_fragment : Parts → Parts
without_fragment url = record url { fragment = None }

-- the text of the URL without its fragment
abbrev pub key_text : Parts → List ℕ
key_text url = serialize (without_fragment url)

-- the URL of a key: http or https, with no user name, password or fragment, and spelled as the key
pub record IsUrlOfKey (key : List ℕ) (url : Parts) : Type 0 where
  pub found : url_of key ≡ Some url
  pub web : is_web_scheme url.scheme ≡ true
  pub bare : has_credentials url ≡ false
  pub whole : url.fragment ≡ None
  pub spelled : serialize url ≡ key
