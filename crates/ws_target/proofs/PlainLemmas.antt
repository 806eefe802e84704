-- The bytes of a valid http or https URL without its fragment are visible and not `>`.
use Rattle.std.proofs.Common.{◌≡◌, ℕ, ◌==◌, Bool, true, false, not, ◌&&◌, ◌||◌, List, [], ◌∷◌, Some, None, All, refl, ap, subst, arith}
use Rattle.std.specs.Prelude.{Option, IfSome, codes, decimal, is_some, nat_lt, option_map, unwrap_or, if◌then◌else◌}
use Rattle.std.specs.Int.{IsInRange}
use Rattle.std.specs.List.{list_all}
use Rattle.std.proofs.lemmas.Bool.Decides.{nat_tests}
use Rattle.std.proofs.lemmas.List.Elements.{All-from_get_or, All-nil, All-weaker}
use Rattle.std.proofs.lemmas.Fmt.{digits_decimal}
use Rattle.std.proofs.lemmas.Str.Parse.{numerals_by_value, tells_by_index}
use Rattle.percent_encoding.specs.declared.ascii_set.TheConstants.{CONTROLS}
use Rattle.percent_encoding.specs.Percent.{IsKept}
use Rattle.url.specs.declared.sets.TheConstants.{FORBIDDEN_DOMAIN, FORBIDDEN_HOST, PATH, SPECIAL_QUERY, USERINFO}
use Rattle.url.specs.declared.scheme.SchemeType.TheVariants.{SpecialNotFile}
use Rattle.url.specs.Input.{when}
use Rattle.url.specs.Scheme.{is_scheme_byte, is_special}
use Rattle.url.specs.Host.{host_text}
use Rattle.url.specs.Parts.{Parts, host_or_empty, kind_of, needs_guard, pieces, query_set, IsPortOf, IsValid}
use Rattle.url.proofs.HostLemmas.{All-host_text}
use Rattle.url.proofs.InputLemmas.{Passes, All_from_list_all, list_all_from_All}
use Rattle.url.proofs.SchemeLemmas.{scheme_bytes}
use Rattle.url.proofs.SetLemmas.{passes_from_kept}
use Rattle.url.proofs.SetterLemmas.{own_host}
use Rattle.url.proofs.TextLemmas.{All-concat, All_kept, All_one, All_part}
use Rattle.url.proofs.ValidLemmas.{base_from_authority, hierarchical, segment_list_kept, special_has_authority}
use Rattle.ws_model.specs.Key.{is_key_byte}
use Rattle.ws_target.specs.Address.{key_text, without_fragment}

abbrev IsPlain : ℕ → Type 0
IsPlain = Passes is_key_byte

plain_list : (bytes : List ℕ) → list_all is_key_byte bytes ≡ true → All IsPlain bytes
plain_list = All_from_list_all is_key_byte

marks : (test : Bool) → All IsPlain (if test then codes "://" else codes ":")
marks true = plain_list (codes "://") refl
marks false = plain_list (codes ":") refl

guard : (test : Bool) → All IsPlain (when test (codes "/."))
guard true = plain_list (codes "/.") refl
guard false = All-nil IsPlain

forbidden_in_host : (b : ℕ) → IsKept FORBIDDEN_HOST b → IsKept CONTROLS b → IsPlain b
forbidden_in_host b allowed visible =
    let mark = passes_from_kept FORBIDDEN_HOST (λ x. not (x == 32 || x == 62)) refl b allowed in
    let above = passes_from_kept CONTROLS (λ x. nat_lt 31 x && nat_lt x 127) refl b visible in
    grind (arith, nat_tests)

host_is_plain : (url : Parts) → IsValid url → kind_of url ≡ SpecialNotFile → All IsPlain (host_text (host_or_empty url))
host_is_plain url valid kind =
    let authority = special_has_authority url valid.head (ap is_special kind) in
    All-host_text IsPlain (kind_of url) (host_or_empty url) (passes_from_kept FORBIDDEN_DOMAIN is_key_byte refl) forbidden_in_host (λ b digit. grind (arith, nat_tests)) (λ b hex. grind (arith, nat_tests)) refl refl (own_host url valid.head authority)

path_is_plain : (url : Parts) → IsValid url → kind_of url ≡ SpecialNotFile → All IsPlain url.path
path_is_plain url valid kind =
    let authority = special_has_authority url valid.head (ap is_special kind) in
    let path = hierarchical url valid.path (base_from_authority url authority) in
    All_kept is_key_byte PATH refl url.path (segment_list_kept (kind_of url) url.path path.0)

port_digits : (scheme : List ℕ) (port : Option ℕ) → IsPortOf scheme port → All IsPlain (unwrap_or (option_map decimal port) [])
port_digits scheme None valid = All-nil IsPlain
port_digits scheme (Some n) valid =
    All-from_get_or IsPlain (decimal n) 0 (λ i inside. digit_is_plain _ (digits_decimal (numerals_by_value _ tells_by_index) n (omega (arith, valid.0)) i inside))
  where
    digit_is_plain : (b : ℕ) → IsInRange 48 57 b → IsPlain b
    digit_is_plain b digit = grind (arith, nat_tests)

digits_are_plain : (url : Parts) → IsValid url → All IsPlain (unwrap_or (option_map decimal url.port) [])
digits_are_plain url valid = port_digits url.scheme url.port valid.head.port

query_is_plain : (url : Parts) → IsValid url → kind_of url ≡ SpecialNotFile → All IsPlain (unwrap_or url.query [])
query_is_plain url valid kind =
    let kept = subst (λ k. IfSome url.query (All (IsKept (query_set k)))) kind valid.query in
    All_part IsPlain SPECIAL_QUERY url.query (passes_from_kept SPECIAL_QUERY is_key_byte refl) kept

pub key_text_is_plain : (url : Parts) → IsValid url → kind_of url ≡ SpecialNotFile → list_all is_key_byte (key_text url) ≡ true
key_text_is_plain url valid kind =
    let scheme = All-weaker (Passes is_scheme_byte) IsPlain (λ b passes. grind (arith, nat_tests)) url.scheme (scheme_bytes url.scheme valid.head.scheme) in
    let username = All_kept is_key_byte USERINFO refl url.username valid.head.username in
    let password = All_kept is_key_byte USERINFO refl url.password valid.head.password in
    let one = λ (test : Bool) (b : ℕ) (plain : IsPlain b). All_one IsPlain test b plain in
    list_all_from_All is_key_byte (key_text url)
    (All-concat IsPlain (pieces (without_fragment url)) (scheme, (marks _, (username, (one _ 58 refl, (password, (one _ 64 refl, (host_is_plain url valid kind, (one _ 58 refl, (digits_are_plain url valid, (guard (needs_guard url), (path_is_plain url valid kind, (one (is_some url.query) 63 refl, (query_is_plain url valid kind, (one false 35 refl, (All-nil IsPlain, tt))))))))))))))))
