-- Which bytes stand where in a Link field.
use Rattle.std.specs.Prelude.{ℕ, Bool, not, ◌&&◌, ◌||◌, ◌==◌, nat_le, nat_lt, codes}
use Rattle.std.specs.List.{list_any}
use Rattle.std.specs.Char.{is_ascii_alphanumeric, is_ascii_control}

-- a space or a tab (RFC 9110, section 5.6.3)
unfoldable pub is_blank : ℕ → Bool
is_blank b = (b == 32) || (b == 9)

-- a token character (RFC 9110, section 5.6.2)
unfoldable pub is_token_byte : ℕ → Bool
is_token_byte b = is_ascii_alphanumeric b || list_any (λ c. c == b) (codes "!#$%&'*+-.^_`|~")

-- a token character, a slash or a colon: what a value without quotes is made of (own: senders leave the quotes out)
unfoldable pub is_word_byte : ℕ → Bool
is_word_byte b = is_token_byte b || ((b == 47) || (b == 58))

-- a byte, and no control byte (those below 32, and 127)
unfoldable pub is_plain_byte : ℕ → Bool
is_plain_byte b = nat_lt b 256 && not (is_ascii_control b)

-- what stands between `<` and `>`
unfoldable pub is_target_byte : ℕ → Bool
is_target_byte b = is_plain_byte b && not (b == 62)

-- what stands for itself between two quotes: no quote and no backslash (RFC 9110, section 5.6.4)
unfoldable pub is_quoted_byte : ℕ → Bool
is_quoted_byte b = (b == 9) || (is_plain_byte b && not ((b == 34) || (b == 92)))

-- what stands behind a backslash: a visible byte, a space or a tab (RFC 9110, section 5.6.4)
unfoldable pub is_escaped_byte : ℕ → Bool
is_escaped_byte b = (b == 9) || (nat_le 32 b && nat_le b 126)
