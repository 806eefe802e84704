-- What a key is (URL Standard, sections 4.4 and 4.5, as the crate `url` states them).
use Rattle.std.specs.Prelude.{ℕ, Bool, false, not, ◌&&◌, ◌||◌, ◌==◌, nat_lt, List, None, is_some, Result, Ok, Err, codes, bytes_eq}
use Rattle.std.specs.List.{list_all}
use Rattle.std.specs.Str.{is_utf8}
use Rattle.url.specs.declared.error.ParseError.{ParseError}
use Rattle.url.specs.Parts.{Parts, serialize, has_credentials}
use Rattle.url.specs.Parser.{parse_url}

-- http or https
abbrev pub is_web_scheme : List ℕ → Bool
is_web_scheme scheme = bytes_eq scheme (codes "http") || bytes_eq scheme (codes "https")

-- these parts are those of a key with this text
abbrev pub is_key_of : List ℕ → Result Parts ParseError → Bool
is_key_of text (Err e) = false
is_key_of text (Ok url) =
    is_web_scheme url.scheme && not (has_credentials url) && not (is_some url.fragment)
    && bytes_eq (serialize url) text

-- the text, in UTF-8, of an http or https URL with no user name, password or fragment, which
-- serializes to itself
unfoldable pub is_own_text : List ℕ → Bool
is_own_text text = is_utf8 text && is_key_of text (parse_url None text)

-- a visible ASCII character other than `>`
abbrev pub is_key_byte : ℕ → Bool
is_key_byte b = nat_lt 32 b && nat_lt b 127 && not (b == 62)

-- A key is such a text. That its bytes are visible ones other than `>` follows from the standard's
-- percent-encode sets (section 1.3). It stands here for all who write a key into a head or a Link
-- field, and takes no key away: the clauses of `ws_target::is_key` show that both tests agree.
unfoldable pub is_key : List ℕ → Bool
is_key text = is_own_text text && list_all is_key_byte text
