-- What is written is in the grammar.
use Rattle.std.proofs.Common.{◌≡◌, ℕ, true, List, [], ◌∷◌, ◌++◌, map, Option, None, Some, codes, inl, inr, refl, sym, ap, ◌∙◌, append_assoc, append-nil, arith}
use Rattle.std.specs.Char.{is_ascii_alphabetic}
use Rattle.std.proofs.lemmas.Bool.Decides.{nat_tests}
use Rattle.ws_model.specs.declared.bytes.Pair.{Pair}
use Rattle.ws_linkhdr.specs.declared.item.LinkItem.{LinkItem}
use Rattle.ws_linkhdr.specs.Characters.{is_blank, is_token_byte, is_plain_byte, is_quoted_byte}
use Rattle.ws_linkhdr.specs.Grammar.{Each, AreMarked, present, IsToken, IsQuotedText, IsParam, IsLink, LinkField}
use Rattle.ws_linkhdr.specs.Text.{link_text, more_text, links_text, IsWritable, AreWritable, item_of_pair}

letter_quoted : (b : ℕ) → is_ascii_alphabetic b ≡ true → is_quoted_byte b ≡ true
unfolding is_quoted_byte is_plain_byte
letter_quoted b h = grind (arith, nat_tests)

letters_inside : (value : List ℕ) → Each is_ascii_alphabetic value → IsQuotedText value value
letters_inside [] h = refl
letters_inside (b ∷ value) h = (value, letters_inside value h.1, inl (letter_quoted b h.0, refl))

rel_token : IsToken (codes "rel")
unfolding is_token_byte
rel_token = record { some = omega arith; each = (refl, (refl, (refl, tt))) }

space_blank : is_blank 32 ≡ true
unfolding is_blank
space_blank = refl

-- `rel="VALUE"`
abbrev rel_text : List ℕ → List ℕ
rel_text value = 114 ∷ 101 ∷ 108 ∷ 61 ∷ 34 ∷ (value ++ 34 ∷ [])

rel_param : (value : List ℕ) → Each is_ascii_alphabetic value → IsParam (record { name = codes "rel"; value = value }) (rel_text value)
rel_param value h = record {
  rest = 61 ∷ 34 ∷ (value ++ 34 ∷ []);
  named = rel_token;
  has_value = inr (record {
    before = [];
    after = [];
    text = 34 ∷ (value ++ 34 ∷ []);
    before_blank = tt;
    after_blank = tt;
    is_value = inr (record { text = value; inside = letters_inside value h; whole = refl });
    whole = refl;
  });
  whole = refl;
}

link_text-is : (link : Pair) → link_text link ≡ 60 ∷ link.name ++ 62 ∷ 59 ∷ 32 ∷ rel_text link.value
unfolding link_text
link_text-is link =
    append_assoc (60 ∷ link.name ++ codes ">; rel=\"") link.value (codes "\"")
    ∙ append_assoc (60 ∷ link.name) (codes ">; rel=\"") (link.value ++ codes "\"")

link_written : (link : Pair) → IsWritable link → IsLink (item_of_pair link) (link_text link)
link_written link w = record {
  params = Some (record { name = codes "rel"; value = link.value }) ∷ [];
  text = 59 ∷ 32 ∷ rel_text link.value;
  in_target = w.target;
  are_params = record {
    before = [];
    after = 32 ∷ [];
    element = rel_text link.value;
    rest = [];
    before_blank = tt;
    after_blank = (space_blank, tt);
    is_element = rel_param link.value w.relation;
    is_rest = refl;
    whole = ap (λ (t : List ℕ). 59 ∷ 32 ∷ t) (sym (append-nil (rel_text link.value)));
  };
  whole = link_text-is link;
  rel = refl;
  anchored = refl;
}

abbrev some_item : Pair → Option LinkItem
some_item link = Some (item_of_pair link)

more_written : (links : List Pair) → AreWritable links → AreMarked 44 IsLink (map some_item links) (more_text links)
more_written [] w = refl
more_written (link ∷ links) w = record {
  before = [];
  after = 32 ∷ [];
  element = link_text link;
  rest = more_text links;
  before_blank = tt;
  after_blank = (space_blank, tt);
  is_element = link_written link w.0;
  is_rest = more_written links w.1;
  whole = refl;
}

present_items : (links : List Pair) → map item_of_pair links ≡ present (map some_item links)
present_items [] = refl
present_items (link ∷ links) = ap (λ (l : List LinkItem). item_of_pair link ∷ l) (present_items links)

-- what is written reads back as its items
pub reads_back : (links : List Pair) → AreWritable links → LinkField (links_text links) (map item_of_pair links)
unfolding links_text
reads_back [] w = record {
  before = [];
  element = [];
  rest = [];
  after = [];
  first = None;
  others = [];
  before_blank = tt;
  after_blank = tt;
  is_first = refl;
  are_others = refl;
  whole = refl;
  said = refl;
}
reads_back (link ∷ links) w = record {
  before = [];
  element = link_text link;
  rest = more_text links;
  after = [];
  first = some_item link;
  others = map some_item links;
  before_blank = tt;
  after_blank = tt;
  is_first = link_written link w.0;
  are_others = more_written links w.1;
  whole = sym (append-nil (link_text link ++ more_text links));
  said = present_items (link ∷ links);
}
