-- The URL of a hub that has no other is a key: computed by the definitions of the crate `url`.
use Rattle.std.proofs.Common.{◌≡◌, true, ℕ, List, Result, Ok, Err, IfOk, refl, ap, ◌∙◌}
use Rattle.ws_model.specs.Key.{is_key, is_own_text}
use Rattle.url.specs.Ipv4.{parse_number, ends_in_a_number, parse_parts}
use Rattle.url.specs.Path.{dot_count, push_segment, parse_segments, parse_path_start}
use Rattle.url.specs.Scheme.{default_port, scheme_type, scheme_len}
use Rattle.url.specs.Head.{head_parts}
use Rattle.url.specs.Host.{parse_bracketed, ascii_domain, parse_special_host, parse_opaque_host, parse_file_host}
use Rattle.url.specs.Parser.{parse_parts as parser_parse_parts}
use Rattle.url.specs.Parser.{host_len, parse_port, parse_authority, leading_slashes, after_double_slash, parse_non_special, parse_relative, parse_body, split_scheme, parse_url}
use Rattle.url.specs.Input.{trim_c0_control_and_space, strip_tabs_and_new_lines, split_once, rsplit_once}
use Rattle.idna.specs.BidiRule.{is_bidi_domain}
use Rattle.idna.specs.AsciiDenyList.{denies}
use Rattle.percent_encoding.specs.AsciiSet.{should_percent_encode}
use Rattle.percent_encoding.specs.Percent.{percent_encode_byte, percent_encode, percent_decode}
use Rattle.ucd_idna_map.specs.IdnaStatusRows.{idna_status_rows}
use lib.Utf8.{encode as utf8_encode}
use Rattle.std.specs.Fmt.{digits}
use Rattle.std.specs.Str.{chars, trim_start, trim_end, is_utf8}
use Rattle.ws_program.specs.Drafts.{default_hub}

pub default_is_key : is_key default_hub ≡ true
unfolding utf8_encode digits is_key is_own_text parse_number ends_in_a_number parse_parts dot_count push_segment parse_segments parse_path_start default_port scheme_type scheme_len head_parts parse_bracketed ascii_domain parse_special_host parse_opaque_host parse_file_host host_len parse_port parse_authority leading_slashes after_double_slash parse_non_special parse_relative parse_body parser_parse_parts split_scheme parse_url trim_c0_control_and_space strip_tabs_and_new_lines split_once rsplit_once is_bidi_domain denies should_percent_encode percent_encode_byte percent_encode percent_decode idna_status_rows chars trim_start trim_end is_utf8
default_is_key = refl

-- and so is a copy of it
pub kept_key : {E : Type 0} (text : List ℕ) (r : Result (List ℕ) E) → text ≡ default_hub → IfOk r (λ copy. copy ≡ text) → IfOk r (λ key. is_key key ≡ true)
kept_key text (Ok key) is e = ap is_key (e ∙ is) ∙ default_is_key
kept_key text (Err fault) is e = tt
