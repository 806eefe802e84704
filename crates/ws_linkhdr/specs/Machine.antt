-- One byte at a time: what the reader's states do. That they read the grammar is proved, and no public contract speaks of them.
use Rattle.std.specs.Prelude.{◌≡◌, ℕ, Bool, ◌||◌, ◌==◌, if◌then◌else◌, List, [], ◌∷◌, ◌++◌, Option, None, Some, is_some, unwrap_or, Result, Ok, Err}
use Rattle.std.specs.Option.{option_map, option_and_then}
use Rattle.ws_linkhdr.specs.declared.item.LinkItem.{LinkItem}
use Rattle.ws_linkhdr.specs.declared.state.Draft.{Draft}
use Rattle.ws_linkhdr.specs.declared.state.State.{State}
use Rattle.ws_linkhdr.specs.declared.state.State.TheVariants.{Between, Target, Ended, BeforeName, Name, AfterName, BeforeValue, Word, Quoted, Escaped}
use Rattle.ws_linkhdr.specs.Characters.{is_blank, is_token_byte, is_word_byte, is_target_byte, is_quoted_byte, is_escaped_byte}
use Rattle.ws_linkhdr.specs.Grammar.{is_rel, is_anchor}

-- a link without parameters
abbrev pub fresh : List ℕ → Draft
fresh target = record { target = target; rel = None; anchored = Bool.false }

-- the link with one more parameter
abbrev pub with_param : Draft → List ℕ → List ℕ → Draft
with_param link name value = record {
  target = link.target;
  rel = if is_some link.rel then link.rel else if is_rel name then Some value else None;
  anchored = link.anchored || is_anchor name;
}

-- what the link says
abbrev pub item_of : Draft → LinkItem
item_of link = record { target = link.target; rel = unwrap_or link.rel []; anchored = link.anchored }

-- the items stay as they are
abbrev pub kept : List LinkItem → Option State → Option (State × List LinkItem)
kept items next = option_map (λ s. (s, items)) next

abbrev pub between : ℕ → Option State
between b = if is_blank b then Some Between else if b == 44 then Some Between else if b == 60 then Some (Target []) else None

abbrev pub in_target : List ℕ → ℕ → Option State
in_target target b =
    if is_target_byte b then Some (Target (target ++ b ∷ [])) else if b == 62 then Some (Ended (fresh target)) else None

-- a link or a parameter has ended
abbrev pub separated : Draft → List LinkItem → ℕ → Option (State × List LinkItem)
separated link items b =
    if b == 59 then Some (BeforeName link, items) else if b == 44 then Some (Between, items ++ item_of link ∷ []) else None

abbrev pub ended : Draft → List LinkItem → ℕ → Option (State × List LinkItem)
ended link items b = if is_blank b then Some (Ended link, items) else separated link items b

abbrev pub before_name : Draft → List LinkItem → ℕ → Option (State × List LinkItem)
before_name link items b =
    if is_token_byte b then Some (Name link (b ∷ []), items) else if is_blank b then Some (BeforeName link, items) else separated link items b

abbrev pub after_name : Draft → List ℕ → List LinkItem → ℕ → Option (State × List LinkItem)
after_name link name items b =
    if b == 61 then Some (BeforeValue link name, items) else if is_blank b then Some (AfterName link name, items)
    else separated (with_param link name []) items b

abbrev pub in_name : Draft → List ℕ → List LinkItem → ℕ → Option (State × List LinkItem)
in_name link name items b =
    if is_token_byte b then Some (Name link (name ++ b ∷ []), items) else after_name link name items b

abbrev pub before_value : Draft → List ℕ → ℕ → Option State
before_value link name b =
    if is_word_byte b then Some (Word link name (b ∷ [])) else if b == 34 then Some (Quoted link name [])
    else if is_blank b then Some (BeforeValue link name) else None

abbrev pub in_word : Draft → List ℕ → List ℕ → List LinkItem → ℕ → Option (State × List LinkItem)
in_word link name value items b =
    if is_word_byte b then Some (Word link name (value ++ b ∷ []), items) else ended (with_param link name value) items b

abbrev pub in_quotes : Draft → List ℕ → List ℕ → ℕ → Option State
in_quotes link name value b =
    if is_quoted_byte b then Some (Quoted link name (value ++ b ∷ []))
    else if b == 34 then Some (Ended (with_param link name value))
    else if b == 92 then Some (Escaped link name value) else None

abbrev pub escaped : Draft → List ℕ → List ℕ → ℕ → Option State
escaped link name value b = if is_escaped_byte b then Some (Quoted link name (value ++ b ∷ [])) else None

-- the state and the items after one more byte, or None where it may not stand there
abbrev pub next : State → List LinkItem → ℕ → Option (State × List LinkItem)
next Between items b = kept items (between b)
next (Target target) items b = kept items (in_target target b)
next (Ended link) items b = ended link items b
next (BeforeName link) items b = before_name link items b
next (Name link name) items b = in_name link name items b
next (AfterName link name) items b = after_name link name items b
next (BeforeValue link name) items b = kept items (before_value link name b)
next (Word link name value) items b = in_word link name value items b
next (Quoted link name value) items b = kept items (in_quotes link name value b)
next (Escaped link name value) items b = kept items (escaped link name value b)

-- the link that is open at the end of the field, or None where the field may not end
abbrev pub last : State → Option (List LinkItem)
last Between = Some []
last (Target target) = None
last (Ended link) = Some (item_of link ∷ [])
last (BeforeName link) = Some (item_of link ∷ [])
last (Name link name) = Some (item_of (with_param link name []) ∷ [])
last (AfterName link name) = Some (item_of (with_param link name []) ∷ [])
last (BeforeValue link name) = None
last (Word link name value) = Some (item_of (with_param link name value) ∷ [])
last (Quoted link name value) = None
last (Escaped link name value) = None

-- the items of a field that ends here
abbrev pub finish : State → List LinkItem → Option (List LinkItem)
finish state items = option_map (λ more. items ++ more) (last state)

-- the items of a field whose rest is bytes
abbrev pub run : State → List LinkItem → List ℕ → Option (List LinkItem)
run state items [] = finish state items
run state items (b ∷ bytes) = option_and_then (λ p. run p.0 p.1 bytes) (next state items b)

-- what a function returned is the next state, with these items, unless memory ran out
abbrev pub Moves : {E : Type 0} → Option (State × List LinkItem) → List LinkItem → Result (Option State) E → Type 0
Moves there items (Ok state) = there ≡ kept items state
Moves there items (Err e) = Unit {0}
