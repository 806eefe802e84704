-- The targets of a relation (RFC 8288, section 3.3: `rel` is a list of words, compared without case).
use Rattle.std.specs.Prelude.{ℕ, Bool, not, ◌&&◌, ◌==◌, List, length, map, filter, nat_lt}
use Rattle.std.specs.List.{list_any, slice_split}
use Rattle.std.specs.Str.{str_eq_ignore_ascii_case}
use Rattle.ws_linkhdr.specs.declared.item.LinkItem.{LinkItem}

-- the words between the spaces of a value, some of them empty
abbrev pub words : List ℕ → List (List ℕ)
words value = slice_split (λ b. b == 32) value

-- whether one of the value's words is this one, without case; the empty text is no word
abbrev pub has_word : List ℕ → List ℕ → Bool
has_word rel value = nat_lt 0 (length rel) && list_any (λ word. str_eq_ignore_ascii_case word rel) (words value)

-- whether the link is of the response's own context, and has that relation
abbrev pub has_relation : List ℕ → LinkItem → Bool
has_relation rel item = not item.anchored && has_word rel item.rel

-- the targets of the relation, in order
abbrev pub targets_of : List ℕ → List LinkItem → List (List ℕ)
targets_of rel items = map (λ (item : LinkItem). item.target) (filter (has_relation rel) items)
