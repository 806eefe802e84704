-- The own link of a fetched content (WebSub section 7 wants its `self` link in each push; how it is chosen is own).
use Rattle.std.specs.Prelude.{◌≡◌, ◌⊎◌, ℕ, Bool, true, ◌&&◌, List, [], ◌∷◌, Option, Some, None, option_and_then, unwrap_or, if◌then◌else◌, codes}
use Rattle.ws_model.specs.Legal.{is_text, is_link, is_key_text}
use Rattle.ws_linkhdr.specs.declared.item.LinkItem.{LinkItem}
use Rattle.ws_linkhdr.specs.Grammar.{LinkField}
use Rattle.ws_linkhdr.specs.Words.{targets_of}
use Rattle.ws_target.specs.Keys.{joined}

-- a text that a Link field can carry: no `>`, no control byte, and at most 900,000 bytes
abbrev pub is_fit_link : List ℕ → Bool
is_fit_link link = is_text link && is_link link

-- the one thing of a list that has no other
abbrev pub only_one : {A : Type 0} → List A → Option A
only_one [] = None
only_one (x ∷ []) = Some x
only_one (x ∷ y ∷ rest) = None

-- the link, where a Link field can carry it
abbrev pub fit_link : List ℕ → Option (List ℕ)
fit_link link = if is_fit_link link then Some link else None

-- what a target leads to from the topic, without fragment, where a Link field can carry it
abbrev pub led_to : List ℕ → List ℕ → Option (List ℕ)
led_to topic target = option_and_then fit_link (joined topic target)

-- what the one unanchored link with the relation `self` leads to
abbrev pub self_link : List ℕ → List LinkItem → Option (List ℕ)
self_link topic items = option_and_then (led_to topic) (only_one (targets_of (codes "self") items))

-- the self link, where the fields are in the grammar and have one; else the topic's key
abbrev pub IsOwnLink : List ℕ → List ℕ → List ℕ → Type 0
IsOwnLink topic field link =
    ((items : List LinkItem) × LinkField field items × (link ≡ unwrap_or (self_link topic items) topic))
    ⊎ (((items : List LinkItem) → ¬ LinkField field items) × (link ≡ topic))

-- a topic and the Link fields of a reply have one own link
abbrev pub OneOwnLink : Type 0
OneOwnLink = (topic field a b : List ℕ) → IsOwnLink topic field a → IsOwnLink topic field b → a ≡ b

-- a topic that is a key has an own link that a Link field can carry
abbrev pub OwnLinksFit : Type 0
OwnLinksFit = (topic field link : List ℕ) → is_key_text topic ≡ true → IsOwnLink topic field link → is_fit_link link ≡ true
