-- Which outcomes an exchange can have (own; RFC 9110 section 5.5 for the bytes of a field).
use Rattle.std.specs.Prelude.{ℕ, Bool, true, ◌&&◌, List, length, nat_le}
use Rattle.ws_model.specs.declared.reply.Reply.{Reply as ReplyFields}
use Rattle.ws_model.specs.declared.work.Outcome.{Outcome}
use Rattle.ws_model.specs.declared.work.Outcome.TheVariants.{Reply}
use Rattle.ws_model.specs.Legal.{body_limit, is_field_value, is_trimmed}

-- the greatest length of a head's field
abbrev pub field_limit : ℕ
field_limit = 16512

-- no longer than a head's field may be, and without CR, LF and NUL
abbrev pub is_head_text : List ℕ → Bool
is_head_text text = nat_le (length text) field_limit && is_field_value text

-- a media type, without a space or a tab at its ends
abbrev pub is_fit_media : List ℕ → Bool
is_fit_media text = is_head_text text && is_trimmed text

abbrev pub is_fit_reply : ReplyFields → Bool
is_fit_reply r =
    nat_le 200 r.code && nat_le r.code 999 && nat_le (length r.body) body_limit
    && is_fit_media r.media && is_head_text r.coding && is_head_text r.links

-- an outcome that an exchange can have
abbrev pub is_fit : Outcome → Bool
is_fit (Reply r) = is_fit_reply r
is_fit _ = true
