-- The grammar of Link fields (RFC 8288, section 3): which bytes are a field, and what they say.
--
--   field  = OWS [ link ] *( OWS "," OWS [ link ] ) OWS
--   link   = "<" target ">" *( OWS ";" OWS [ param ] )
--   param  = token [ OWS "=" OWS ( word / quoted ) ]
--
-- That an element or a parameter may be empty, and that a word may have `/` and `:`, is this
-- hub's lenience, since senders write such fields.
use Rattle.std.specs.Prelude.{◌≡◌, ℕ, ◌<◌, Bool, true, ◌⊎◌, List, [], ◌∷◌, ◌++◌, length, Option, None, Some, find, unwrap_or, codes}
use Rattle.std.specs.List.{AllByRecursion, flat_map, list_any}
use Rattle.std.specs.Option.{option_map, option_to_list}
use Rattle.std.specs.Str.{str_eq_ignore_ascii_case}
use Rattle.ws_linkhdr.specs.declared.item.LinkItem.{LinkItem}
use Rattle.ws_linkhdr.specs.Characters.{is_blank, is_token_byte, is_word_byte, is_target_byte, is_quoted_byte, is_escaped_byte}

-- every byte passes the test
abbrev pub Each : (ℕ → Bool) → List ℕ → Type 0
Each test bytes = AllByRecursion (λ b. test b ≡ true) bytes

-- OWS: any number of spaces and tabs (RFC 9110, section 5.6.3)
abbrev pub IsBlank : List ℕ → Type 0
IsBlank bytes = Each is_blank bytes

-- the thing, or nothing at all
abbrev pub Optional : {A : Type 0} → (A → List ℕ → Type 0) → Option A → List ℕ → Type 0
Optional Is None bytes = bytes ≡ []
Optional Is (Some x) bytes = Is x bytes

-- OWS mark OWS, then an element, then the rest
pub record IsMarked (mark : ℕ) (IsElement IsRest : List ℕ → Type 0) (bytes : List ℕ) : Type 0 where
  pub before : List ℕ
  pub after : List ℕ
  pub element : List ℕ
  pub rest : List ℕ
  pub before_blank : IsBlank before
  pub after_blank : IsBlank after
  pub is_element : IsElement element
  pub is_rest : IsRest rest
  pub whole : bytes ≡ before ++ mark ∷ after ++ element ++ rest

-- *( OWS mark OWS [ element ] )
abbrev pub AreMarked : {A : Type 0} → ℕ → (A → List ℕ → Type 0) → List (Option A) → List ℕ → Type 0
AreMarked mark Is [] bytes = bytes ≡ []
AreMarked mark Is (x ∷ xs) bytes = IsMarked mark (Optional Is x) (AreMarked mark Is xs) bytes

-- those that aren't empty
abbrev pub present : {A : Type 0} → List (Option A) → List A
present xs = flat_map option_to_list xs

-- a parameter: its name, and its value with the backslashes taken off, which is empty where there is none
pub record Param : Type 0 where
  pub name : List ℕ
  pub value : List ℕ

-- token = 1*( token character ) (RFC 9110, section 5.6.2)
pub record IsToken (bytes : List ℕ) : Type 0 where
  pub some : 0 < length bytes
  pub each : Each is_token_byte bytes

-- word = 1*( token character / "/" / ":" ), which stands for itself
pub record IsWord (value bytes : List ℕ) : Type 0 where
  pub some : 0 < length value
  pub each : Each is_word_byte value
  pub whole : bytes ≡ value

-- a byte between two quotes, as it is or behind a backslash, and then the rest
abbrev pub IsQuotedThen : ℕ → List ℕ → List ℕ → Type 0
IsQuotedThen b rest bytes =
    ((is_quoted_byte b ≡ true) × (bytes ≡ b ∷ rest)) ⊎ ((is_escaped_byte b ≡ true) × (bytes ≡ 92 ∷ b ∷ rest))

-- what stands between two quotes for a value (RFC 9110, section 5.6.4)
abbrev pub IsQuotedText : List ℕ → List ℕ → Type 0
IsQuotedText [] bytes = bytes ≡ []
IsQuotedText (b ∷ value) bytes = (rest : List ℕ) × IsQuotedText value rest × IsQuotedThen b rest bytes

-- quoted = DQUOTE text DQUOTE
pub record IsQuoted (value bytes : List ℕ) : Type 0 where
  pub text : List ℕ
  pub inside : IsQuotedText value text
  pub whole : bytes ≡ 34 ∷ text ++ 34 ∷ []

-- word / quoted
abbrev pub IsValue : List ℕ → List ℕ → Type 0
IsValue value bytes = IsWord value bytes ⊎ IsQuoted value bytes

-- OWS "=" OWS ( word / quoted )
pub record IsAssigned (value bytes : List ℕ) : Type 0 where
  pub before : List ℕ
  pub after : List ℕ
  pub text : List ℕ
  pub before_blank : IsBlank before
  pub after_blank : IsBlank after
  pub is_value : IsValue value text
  pub whole : bytes ≡ before ++ 61 ∷ after ++ text

-- [ OWS "=" OWS ( word / quoted ) ]
abbrev pub HasValue : List ℕ → List ℕ → Type 0
HasValue value bytes = ((value ≡ []) × (bytes ≡ [])) ⊎ IsAssigned value bytes

-- param = token [ OWS "=" OWS ( word / quoted ) ]
pub record IsParam (param : Param) (bytes : List ℕ) : Type 0 where
  pub rest : List ℕ
  pub named : IsToken param.name
  pub has_value : HasValue param.value rest
  pub whole : bytes ≡ param.name ++ rest

-- names are compared without case (RFC 8288, section 3)
abbrev pub is_rel : List ℕ → Bool
is_rel name = str_eq_ignore_ascii_case name (codes "rel")

abbrev pub is_anchor : List ℕ → Bool
is_anchor name = str_eq_ignore_ascii_case name (codes "anchor")

-- the value of the first `rel`: the later ones don't count (RFC 8288, section 3.3)
abbrev pub rel_of : List Param → List ℕ
rel_of params = unwrap_or (option_map (λ (p : Param). p.value) (find (λ (p : Param). is_rel p.name) params)) []

-- whether the link is of another context than the response's own (RFC 8288, section 3.2)
abbrev pub is_anchored : List Param → Bool
is_anchored params = list_any (λ (p : Param). is_anchor p.name) params

-- link = "<" target ">" *( OWS ";" OWS [ param ] ), and what it says
pub record IsLink (item : LinkItem) (bytes : List ℕ) : Type 0 where
  pub params : List (Option Param)
  pub text : List ℕ
  pub in_target : Each is_target_byte item.target
  pub are_params : AreMarked 59 IsParam params text
  pub whole : bytes ≡ 60 ∷ item.target ++ 62 ∷ text
  pub rel : item.rel ≡ rel_of (present params)
  pub anchored : item.anchored ≡ is_anchored (present params)

-- field = OWS [ link ] *( OWS "," OWS [ link ] ) OWS, and the items that it says, in order
pub record LinkField (bytes : List ℕ) (items : List LinkItem) : Type 0 where
  pub before : List ℕ
  pub element : List ℕ
  pub rest : List ℕ
  pub after : List ℕ
  pub first : Option LinkItem
  pub others : List (Option LinkItem)
  pub before_blank : IsBlank before
  pub after_blank : IsBlank after
  pub is_first : Optional IsLink first element
  pub are_others : AreMarked 44 IsLink others rest
  pub whole : bytes ≡ before ++ element ++ rest ++ after
  pub said : items ≡ present (first ∷ others)

-- bytes are a field in one way only
abbrev pub OneReading : Type 0
OneReading = (field : List ℕ) (items others : List LinkItem) → LinkField field items → LinkField field others → items ≡ others
