-- What is left of a field behind a link or a comma, and what it says.
use Rattle.std.proofs.Common.{◌≡◌, ℕ, true, List, [], ◌∷◌, ◌++◌, Option, None, Some, refl, sym, ap, ◌∙◌, append_assoc, append-nil}
use Rattle.ws_linkhdr.specs.declared.item.LinkItem.{LinkItem}
use Rattle.ws_linkhdr.specs.declared.state.Draft.{Draft}
use Rattle.ws_linkhdr.specs.Characters.{is_blank}
use Rattle.ws_linkhdr.specs.Grammar.{IsBlank, Optional, IsMarked, AreMarked, present, Param, IsParam, IsLink, LinkField}
use Rattle.ws_linkhdr.specs.Machine.{with_param, item_of}

-- the link with one more parameter, which may be empty
abbrev pub with_optional : Draft → Option Param → Draft
with_optional link None = link
with_optional link (Some p) = with_param link p.name p.value

-- the link with more parameters
abbrev pub with_params : Draft → List (Option Param) → Draft
with_params link [] = link
with_params link (p ∷ ps) = with_params (with_optional link p) ps

-- the items with one more, which may be empty
abbrev pub with_first : List LinkItem → Option LinkItem → List LinkItem
with_first items None = items
with_first items (Some x) = items ++ x ∷ []

pub with_first-present : (items : List LinkItem) (first : Option LinkItem) (others : List (Option LinkItem)) → with_first items first ++ present others ≡ items ++ present (first ∷ others)
with_first-present items None others = refl
with_first-present items (Some x) others = append_assoc items (x ∷ []) (present others)

-- one more blank in front of a mark
pub wider : {mark : ℕ} {E R : List ℕ → Type 0} {bytes : List ℕ} (b : ℕ) → is_blank b ≡ true → IsMarked mark E R bytes → IsMarked mark E R (b ∷ bytes)
wider b h m = record {
  before = b ∷ m.before;
  after = m.after;
  element = m.element;
  rest = m.rest;
  before_blank = (h, m.before_blank);
  after_blank = m.after_blank;
  is_element = m.is_element;
  is_rest = m.is_rest;
  whole = ap (λ (t : List ℕ). b ∷ t) m.whole;
}

-- more links, and blanks
pub record Ends (items : List LinkItem) (bytes : List ℕ) (result : List LinkItem) : Type 0 where
  pub links : List (Option LinkItem)
  pub text : List ℕ
  pub blanks : List ℕ
  pub are_links : AreMarked 44 IsLink links text
  pub blank : IsBlank blanks
  pub whole : bytes ≡ text ++ blanks
  pub said : result ≡ items ++ present links

pub Ends-nil : (items : List LinkItem) → Ends items [] items
Ends-nil items = record { links = []; text = []; blanks = []; are_links = refl; blank = tt; whole = refl; said = sym (append-nil items) }

pub Ends-blank : {items : List LinkItem} {bytes : List ℕ} {result : List LinkItem} (b : ℕ) → is_blank b ≡ true → Ends items bytes result → Ends items (b ∷ bytes) result
Ends-blank {items} {bytes} {result} b h e = go e.links e.text e.are_links e.whole e.said
  where
    go : (links : List (Option LinkItem)) (text : List ℕ) → AreMarked 44 IsLink links text → bytes ≡ text ++ e.blanks → result ≡ items ++ present links → Ends items (b ∷ bytes) result
    go [] text are whole said = record {
      links = [];
      text = [];
      blanks = b ∷ e.blanks;
      are_links = refl;
      blank = (h, e.blank);
      whole = ap (λ (t : List ℕ). b ∷ t) whole ∙ ap (λ (t : List ℕ). b ∷ t ++ e.blanks) are;
      said = said;
    }
    go (x ∷ links) text are whole said = record {
      links = x ∷ links;
      text = b ∷ text;
      blanks = e.blanks;
      are_links = wider b h are;
      blank = e.blank;
      whole = ap (λ (t : List ℕ). b ∷ t) whole;
      said = said;
    }

-- behind a comma: blanks, perhaps a link, and what ends the field
pub record AfterComma (items : List LinkItem) (bytes : List ℕ) (result : List LinkItem) : Type 0 where
  pub after : List ℕ
  pub element : List ℕ
  pub rest : List ℕ
  pub first : Option LinkItem
  pub after_blank : IsBlank after
  pub is_first : Optional IsLink first element
  pub ends : Ends (with_first items first) rest result
  pub whole : bytes ≡ after ++ element ++ rest

pub AfterComma-ends : {items : List LinkItem} {bytes : List ℕ} {result : List LinkItem} → Ends items bytes result → AfterComma items bytes result
AfterComma-ends {items} {bytes} e =
    record { after = []; element = []; rest = bytes; first = None; after_blank = tt; is_first = refl; ends = e; whole = refl }

pub AfterComma-blank : {items : List LinkItem} {bytes : List ℕ} {result : List LinkItem} (b : ℕ) → is_blank b ≡ true → AfterComma items bytes result → AfterComma items (b ∷ bytes) result
AfterComma-blank b h a = record {
  after = b ∷ a.after;
  element = a.element;
  rest = a.rest;
  first = a.first;
  after_blank = (h, a.after_blank);
  is_first = a.is_first;
  ends = a.ends;
  whole = ap (λ (t : List ℕ). b ∷ t) a.whole;
}

-- two parts of a text, of which the second is cut again
cut_again : (front bytes rest text more : List ℕ) → bytes ≡ front ++ rest → rest ≡ text ++ more → bytes ≡ front ++ text ++ more
cut_again front bytes rest text more e f = e ∙ ap (λ t. front ++ t) f ∙ sym (append_assoc front text more)

pub Ends-comma : {items : List LinkItem} {bytes : List ℕ} {result : List LinkItem} → AfterComma items bytes result → Ends items (44 ∷ bytes) result
Ends-comma {items} {bytes} a = record {
  links = a.first ∷ a.ends.links;
  text = 44 ∷ a.after ++ a.element ++ a.ends.text;
  blanks = a.ends.blanks;
  are_links = record {
    before = [];
    after = a.after;
    element = a.element;
    rest = a.ends.text;
    before_blank = tt;
    after_blank = a.after_blank;
    is_element = a.is_first;
    is_rest = a.ends.are_links;
    whole = refl;
  };
  blank = a.ends.blank;
  whole =
      ap (λ (t : List ℕ). 44 ∷ t) (cut_again (a.after ++ a.element) bytes a.rest a.ends.text a.ends.blanks a.whole a.ends.whole);
  said = a.ends.said ∙ with_first-present items a.first a.ends.links;
}

-- behind a link's target or a parameter: more parameters, and what ends the field
pub record Tail (items : List LinkItem) (link : Draft) (bytes : List ℕ) (result : List LinkItem) : Type 0 where
  pub params : List (Option Param)
  pub text : List ℕ
  pub rest : List ℕ
  pub are_params : AreMarked 59 IsParam params text
  pub ends : Ends (items ++ item_of (with_params link params) ∷ []) rest result
  pub whole : bytes ≡ text ++ rest

pub Tail-ends : {items : List LinkItem} {link : Draft} {bytes : List ℕ} {result : List LinkItem} → Ends (items ++ item_of link ∷ []) bytes result → Tail items link bytes result
Tail-ends {items} {link} {bytes} e = record { params = []; text = []; rest = bytes; are_params = refl; ends = e; whole = refl }

pub Tail-blank : {items : List LinkItem} {link : Draft} {bytes : List ℕ} {result : List LinkItem} (b : ℕ) → is_blank b ≡ true → Tail items link bytes result → Tail items link (b ∷ bytes) result
Tail-blank {items} {link} {bytes} {result} b h t = go t.params t.text t.are_params t.ends t.whole
  where
    go : (params : List (Option Param)) (text : List ℕ) → AreMarked 59 IsParam params text → Ends (items ++ item_of (with_params link params) ∷ []) t.rest result → bytes ≡ text ++ t.rest → Tail items link (b ∷ bytes) result
    go [] text are ends whole = record {
      params = [];
      text = [];
      rest = b ∷ t.rest;
      are_params = refl;
      ends = Ends-blank b h ends;
      whole = ap (λ (u : List ℕ). b ∷ u) whole ∙ ap (λ (u : List ℕ). b ∷ u ++ t.rest) are;
    }
    go (p ∷ params) text are ends whole = record {
      params = p ∷ params;
      text = b ∷ text;
      rest = t.rest;
      are_params = wider b h are;
      ends = ends;
      whole = ap (λ (u : List ℕ). b ∷ u) whole;
    }

-- behind a semicolon: blanks, perhaps a parameter, and what is left behind it
pub record AfterSemicolon (items : List LinkItem) (link : Draft) (bytes : List ℕ) (result : List LinkItem) : Type 0 where
  pub after : List ℕ
  pub element : List ℕ
  pub rest : List ℕ
  pub param : Option Param
  pub after_blank : IsBlank after
  pub is_param : Optional IsParam param element
  pub tail : Tail items (with_optional link param) rest result
  pub whole : bytes ≡ after ++ element ++ rest

pub AfterSemicolon-tail : {items : List LinkItem} {link : Draft} {bytes : List ℕ} {result : List LinkItem} → Tail items link bytes result → AfterSemicolon items link bytes result
AfterSemicolon-tail {items} {link} {bytes} t =
    record { after = []; element = []; rest = bytes; param = None; after_blank = tt; is_param = refl; tail = t; whole = refl }

pub AfterSemicolon-blank : {items : List LinkItem} {link : Draft} {bytes : List ℕ} {result : List LinkItem} (b : ℕ) → is_blank b ≡ true → AfterSemicolon items link bytes result → AfterSemicolon items link (b ∷ bytes) result
AfterSemicolon-blank b h a = record {
  after = b ∷ a.after;
  element = a.element;
  rest = a.rest;
  param = a.param;
  after_blank = (h, a.after_blank);
  is_param = a.is_param;
  tail = a.tail;
  whole = ap (λ (t : List ℕ). b ∷ t) a.whole;
}

pub Tail-semicolon : {items : List LinkItem} {link : Draft} {bytes : List ℕ} {result : List LinkItem} → AfterSemicolon items link bytes result → Tail items link (59 ∷ bytes) result
Tail-semicolon {items} {link} {bytes} a = record {
  params = a.param ∷ a.tail.params;
  text = 59 ∷ a.after ++ a.element ++ a.tail.text;
  rest = a.tail.rest;
  are_params = record {
    before = [];
    after = a.after;
    element = a.element;
    rest = a.tail.text;
    before_blank = tt;
    after_blank = a.after_blank;
    is_element = a.is_param;
    is_rest = a.tail.are_params;
    whole = refl;
  };
  ends = a.tail.ends;
  whole =
      ap (λ (t : List ℕ). 59 ∷ t) (cut_again (a.after ++ a.element) bytes a.rest a.tail.text a.tail.rest a.whole a.tail.whole);
}

pub Tail-comma : {items : List LinkItem} {link : Draft} {bytes : List ℕ} {result : List LinkItem} → AfterComma (items ++ item_of link ∷ []) bytes result → Tail items link (44 ∷ bytes) result
Tail-comma a = Tail-ends (Ends-comma a)

-- what is left of a whole field
pub field_is : {bytes : List ℕ} {result : List LinkItem} → AfterComma [] bytes result → LinkField bytes result
field_is {bytes} {result} a = record {
  before = a.after;
  element = a.element;
  rest = a.ends.text;
  after = a.ends.blanks;
  first = a.first;
  others = a.ends.links;
  before_blank = a.after_blank;
  after_blank = a.ends.blank;
  is_first = a.is_first;
  are_others = a.ends.are_links;
  whole = cut_again (a.after ++ a.element) bytes a.rest a.ends.text a.ends.blanks a.whole a.ends.whole;
  said = a.ends.said ∙ with_first-present [] a.first a.ends.links;
}
