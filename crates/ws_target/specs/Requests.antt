-- Where a request for a key goes, and the texts that it has there (RFC 9112, section 3.2, and RFC
-- 9110, section 7.2).
use Rattle.std.specs.Prelude.{ℕ, Bool, List, [], ◌++◌, map, codes, decimal, bytes_eq, Option, Some, None, unwrap_or, if◌then◌else◌}
use Rattle.form_urlencoded.specs.Form.{extend_pairs}
use Rattle.url.specs.Input.{is_empty}
use Rattle.url.specs.Host.{host_text}
use Rattle.url.specs.Parts.{Parts, host_or_empty}
use Rattle.ws_model.specs.declared.bytes.Pair.{Pair}
use Rattle.ws_target.specs.declared.location.Place.{Place}
use Rattle.ws_target.specs.Address.{parts_of}

-- https
abbrev pub is_secure : Parts → Bool
is_secure url = bytes_eq url.scheme (codes "https")

-- the port of a connection: the URL's, or where it has none the default of http or https (RFC 9110,
-- sections 4.2.1 and 4.2.2)
abbrev pub port_of : Parts → ℕ
port_of url = unwrap_or url.port (if is_secure url then 443 else 80)

-- the place of a key
abbrev pub place_of_url : Parts → Place
place_of_url url = record {
  secure = is_secure url;
  host = host_text (host_or_empty url);
  port = port_of url;
  path = url.path;
  query = unwrap_or url.query [];
}

unfoldable pub place_of : List ℕ → Place
place_of key = place_of_url (parts_of key)

-- `:` and the port, where the URL has one after serialization
abbrev pub port_text : Option ℕ → List ℕ
port_text None = []
port_text (Some port) = codes ":" ++ decimal port

-- the host, and the port where the URL has one
abbrev pub host_field_of : Parts → List ℕ
host_field_of url = host_text (host_or_empty url) ++ port_text url.port

-- the value of the field Host in a request for a key
unfoldable pub host_field : List ℕ → List ℕ
host_field key = host_field_of (parts_of key)

-- a place's path, and `?` and its query where that isn't empty
abbrev pub path_and_query : Place → List ℕ
path_and_query place =
    place.path ++ (if is_empty place.query then [] else codes "?" ++ place.query)

-- the names and values, as plain pairs
abbrev pub form_pairs : List Pair → List (List ℕ × List ℕ)
form_pairs pairs = map (λ pair. (pair.name, pair.value)) pairs

-- a place's path, `?`, its own query and `&` where that query isn't empty, and the pairs as a form
-- (URL Standard, section 5.2)
abbrev pub with_query : Place → List Pair → List ℕ
with_query place pairs =
    place.path ++ codes "?" ++ (if is_empty place.query then [] else place.query ++ codes "&")
    ++ extend_pairs [] (form_pairs pairs)

-- the scheme, `://`, the host and the port of a URL
abbrev pub origin_of : Parts → List ℕ
origin_of url = url.scheme ++ codes "://" ++ host_field_of url

-- the target of a request for a key: as it stands (origin-form), and through a gateway behind the
-- scheme, host and port of the key's URL (absolute-form; RFC 9112, section 3.2.2)
unfoldable pub request_target : Bool → List ℕ → List ℕ → List ℕ
request_target gateway key target =
    if gateway then origin_of (parts_of key) ++ target else target
