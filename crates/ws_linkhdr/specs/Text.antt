-- The text that is written for links (RFC 8288, section 3).
use Rattle.std.specs.Prelude.{ℕ, Bool, List, [], ◌∷◌, ◌++◌, codes}
use Rattle.std.specs.List.{AllByRecursion}
use Rattle.std.specs.Char.{is_ascii_alphabetic}
use Rattle.ws_model.specs.declared.bytes.Pair.{Pair}
use Rattle.ws_linkhdr.specs.declared.item.LinkItem.{LinkItem}
use Rattle.ws_linkhdr.specs.Characters.{is_target_byte}
use Rattle.ws_linkhdr.specs.Grammar.{Each}

-- `<TARGET>; rel="RELATION"`
unfoldable pub link_text : Pair → List ℕ
link_text link = codes "<" ++ link.name ++ codes ">; rel=\"" ++ link.value ++ codes "\""

-- each further link behind a comma and a space
abbrev pub more_text : List Pair → List ℕ
more_text [] = []
more_text (link ∷ links) = codes ", " ++ link_text link ++ more_text links

-- the links, in order, with a comma and a space between
unfoldable pub links_text : List Pair → List ℕ
links_text [] = []
links_text (link ∷ links) = link_text link ++ more_text links

-- a link that can be written: its target has no `>` and no control byte, and its relation is letters
pub record IsWritable (link : Pair) : Type 0 where
  pub target : Each is_target_byte link.name
  pub relation : Each is_ascii_alphabetic link.value

abbrev pub AreWritable : List Pair → Type 0
AreWritable links = AllByRecursion IsWritable links

-- what the text says: the target with that relation, and no anchor
abbrev pub item_of_pair : Pair → LinkItem
item_of_pair link = record { target = link.name; rel = link.value; anchored = Bool.false }
