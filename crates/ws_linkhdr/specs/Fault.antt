-- Where a field leaves the grammar (own).
use Rattle.std.specs.Prelude.{ℕ, ◌≤◌, List, ◌++◌, length, take}
use Rattle.ws_linkhdr.specs.declared.item.LinkItem.{LinkItem}
use Rattle.ws_linkhdr.specs.declared.item.LinkFault.{LinkFault}
use Rattle.ws_linkhdr.specs.declared.item.LinkFault.TheVariants.{Grammar, NoMemory}
use Rattle.ws_linkhdr.specs.Grammar.{LinkField}

-- some field of the grammar begins with these bytes
abbrev pub BeginsField : List ℕ → Type 0
BeginsField front = (more : List ℕ) × (items : List LinkItem) × LinkField (front ++ more) items

-- The field isn't in the grammar, and `at` is the length of its longest front that begins a field of the grammar.
pub record LeavesGrammarAt (field : List ℕ) (at : ℕ) : Type 0 where
  pub outside : (items : List LinkItem) → ¬ LinkField field items
  pub within : at ≤ length field
  pub begun : BeginsField (take at field)
  pub longest : (n : ℕ) → n ≤ length field → BeginsField (take n field) → n ≤ at

-- why no items were read
abbrev pub IsCause : List ℕ → LinkFault → Type 0
IsCause field (Grammar at) = LeavesGrammarAt field at
IsCause field NoMemory = Unit {0}
