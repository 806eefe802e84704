-- What a link says after its parameters, and what is left of a field within a link.
use Rattle.std.proofs.Common.{◌≡◌, ℕ, ◌<◌, Bool, true, false, ◌||◌, cond, List, [], ◌∷◌, ◌++◌, length, Option, None, Some, is_some, unwrap_or, option_map, find, inl, inr, refl, sym, ap, ◌∙◌, subst, append_assoc, append-nil, arith}
use Rattle.ws_linkhdr.specs.declared.item.LinkItem.{LinkItem}
use Rattle.ws_linkhdr.specs.declared.state.Draft.{Draft}
use Rattle.ws_linkhdr.specs.Characters.{is_blank, is_token_byte, is_word_byte, is_target_byte, is_quoted_byte, is_escaped_byte}
use Rattle.ws_linkhdr.specs.Grammar.{Each, IsBlank, present, Param, IsQuotedText, IsValue, HasValue, is_rel, is_anchor, rel_of, is_anchored}
use Rattle.ws_linkhdr.specs.Machine.{fresh, with_param, item_of}
use Rattle.ws_linkhdr.proofs.Rests.{with_params, Ends, AfterComma, Tail, AfterSemicolon, Tail-blank}

abbrev earlier : {A : Type 0} → Option A → Option A → Option A
earlier None o = o
earlier (Some x) o = Some x

abbrev value_in : List Param → Option (List ℕ)
value_in params = option_map (λ (p : Param). p.value) (find (λ (p : Param). is_rel p.name) params)

-- what a link says, with the parameters that it has and those that come
abbrev said_by : Draft → List Param → LinkItem
said_by link params = record {
  target = link.target;
  rel = unwrap_or (earlier link.rel (value_in params)) [];
  anchored = link.anchored || is_anchored params;
}

same_item : (target : List ℕ) (r s : Option (List ℕ)) (a b : Bool) → r ≡ s → a ≡ b → ◌≡◌ {A = LinkItem} (record { target = target; rel = unwrap_or r []; anchored = a }) (record { target = target; rel = unwrap_or s []; anchored = b })
same_item target r s a b e f =
    ap (λ (o : Option (List ℕ)). let i : LinkItem = record { target = target; rel = unwrap_or o []; anchored = a } in i) e
    ∙ ap (λ (c : Bool). let i : LinkItem = record { target = target; rel = unwrap_or s []; anchored = c } in i) f

earlier_none : {A : Type 0} (o : Option A) → o ≡ earlier o None
earlier_none None = refl
earlier_none (Some x) = refl

or_false : (a : Bool) → a ≡ (a || false)
or_false true = refl
or_false false = refl

or_assoc : (a b c : Bool) → ((a || b) || c) ≡ (a || (b || c))
or_assoc true b c = refl
or_assoc false b c = refl

earlier_more : (o : Option (List ℕ)) (t : Bool) (p : Param) (found : Option Param) → earlier (cond (is_some o) o (cond t (Some p.value) None)) (option_map (λ (q : Param). q.value) found) ≡ earlier o (option_map (λ (q : Param). q.value) (cond t (Some p) found))
earlier_more None true p found = refl
earlier_more None false p found = refl
earlier_more (Some x) t p found = refl

item_of-with_params : (params : List (Option Param)) (link : Draft) → item_of (with_params link params) ≡ said_by link (present params)
item_of-with_params [] link = same_item link.target link.rel (earlier link.rel None) link.anchored (link.anchored || false) (earlier_none link.rel) (or_false link.anchored)
item_of-with_params (None ∷ params) link = item_of-with_params params link
item_of-with_params (Some p ∷ params) link =
    item_of-with_params params (with_param link p.name p.value)
    ∙ same_item link.target _ _ _ _ (earlier_more link.rel (is_rel p.name) p (find (λ (q : Param). is_rel q.name) (present params)))
    (or_assoc link.anchored (is_anchor p.name) (is_anchored (present params)))

-- a link says its target, its first `rel`, and whether it is anchored
pub item_is : (target : List ℕ) (params : List (Option Param)) → item_of (with_params (fresh target) params) ≡ record { target = target; rel = rel_of (present params); anchored = is_anchored (present params) }
item_is target params = item_of-with_params params (fresh target)

-- within a target
pub record InTarget (items : List LinkItem) (target bytes : List ℕ) (result : List LinkItem) : Type 0 where
  pub more : List ℕ
  pub rest : List ℕ
  pub in_target : Each is_target_byte more
  pub tail : Tail items (fresh (target ++ more)) rest result
  pub whole : bytes ≡ more ++ 62 ∷ rest

pub InTarget-more : {items : List LinkItem} {target bytes : List ℕ} {result : List LinkItem} (b : ℕ) → is_target_byte b ≡ true → InTarget items (target ++ b ∷ []) bytes result → InTarget items target (b ∷ bytes) result
InTarget-more {items} {target} {bytes} {result} b h t = record {
  more = b ∷ t.more;
  rest = t.rest;
  in_target = (h, t.in_target);
  tail = let P : List ℕ → Type 0 = λ u. Tail items (fresh u) t.rest result in subst P (append_assoc target (b ∷ []) t.more) t.tail;
  whole = ap (λ (u : List ℕ). b ∷ u) t.whole;
}

pub InTarget-close : {items : List LinkItem} {target bytes : List ℕ} {result : List LinkItem} → Tail items (fresh target) bytes result → InTarget items target (62 ∷ bytes) result
InTarget-close {items} {target} {bytes} {result} t = record {
  more = [];
  rest = bytes;
  in_target = tt;
  tail = let P : List ℕ → Type 0 = λ u. Tail items (fresh u) bytes result in subst P (sym (append-nil target)) t;
  whole = refl;
}

pub AfterComma-link : {items : List LinkItem} {bytes : List ℕ} {result : List LinkItem} → InTarget items [] bytes result → AfterComma items (60 ∷ bytes) result
AfterComma-link {items} {bytes} {result} t =
    let item : LinkItem = record { target = t.more; rel = rel_of (present t.tail.params); anchored = is_anchored (present t.tail.params) } in
    let P : LinkItem → Type 0 = λ i. Ends (items ++ i ∷ []) t.tail.rest result in
    record {
      after = [];
      element = 60 ∷ t.more ++ 62 ∷ t.tail.text;
      rest = t.tail.rest;
      first = Some item;
      after_blank = tt;
      is_first = record {
        params = t.tail.params;
        text = t.tail.text;
        in_target = t.in_target;
        are_params = t.tail.are_params;
        whole = refl;
        rel = refl;
        anchored = refl;
      };
      ends = subst P (item_is t.more t.tail.params) t.tail.ends;
      whole =
          ap (λ (u : List ℕ). 60 ∷ u) (t.whole ∙ ap (λ (u : List ℕ). t.more ++ 62 ∷ u) t.tail.whole ∙ sym (append_assoc t.more (62 ∷ t.tail.text) t.tail.rest));
    }

-- behind a parameter's name
pub record InAfterName (items : List LinkItem) (link : Draft) (name bytes : List ℕ) (result : List LinkItem) : Type 0 where
  pub text : List ℕ
  pub rest : List ℕ
  pub value : List ℕ
  pub has_value : HasValue value text
  pub tail : Tail items (with_param link name value) rest result
  pub whole : bytes ≡ text ++ rest

-- within a parameter's name
pub record InName (items : List LinkItem) (link : Draft) (name bytes : List ℕ) (result : List LinkItem) : Type 0 where
  pub more : List ℕ
  pub rest : List ℕ
  pub each : Each is_token_byte more
  pub then : InAfterName items link (name ++ more) rest result
  pub whole : bytes ≡ more ++ rest

-- behind the equals sign
pub record InBeforeValue (items : List LinkItem) (link : Draft) (name bytes : List ℕ) (result : List LinkItem) : Type 0 where
  pub after : List ℕ
  pub text : List ℕ
  pub rest : List ℕ
  pub value : List ℕ
  pub after_blank : IsBlank after
  pub is_value : IsValue value text
  pub tail : Tail items (with_param link name value) rest result
  pub whole : bytes ≡ after ++ text ++ rest

-- within a value without quotes
pub record InWord (items : List LinkItem) (link : Draft) (name value bytes : List ℕ) (result : List LinkItem) : Type 0 where
  pub more : List ℕ
  pub rest : List ℕ
  pub each : Each is_word_byte more
  pub tail : Tail items (with_param link name (value ++ more)) rest result
  pub whole : bytes ≡ more ++ rest

-- within quotes
pub record InQuotes (items : List LinkItem) (link : Draft) (name value bytes : List ℕ) (result : List LinkItem) : Type 0 where
  pub more : List ℕ
  pub text : List ℕ
  pub rest : List ℕ
  pub inside : IsQuotedText more text
  pub tail : Tail items (with_param link name (value ++ more)) rest result
  pub whole : bytes ≡ text ++ 34 ∷ rest

-- behind a backslash
pub record InEscape (items : List LinkItem) (link : Draft) (name value bytes : List ℕ) (result : List LinkItem) : Type 0 where
  pub byte : ℕ
  pub rest : List ℕ
  pub escaped : is_escaped_byte byte ≡ true
  pub quotes : InQuotes items link name (value ++ byte ∷ []) rest result
  pub whole : bytes ≡ byte ∷ rest

pub InAfterName-tail : {items : List LinkItem} {link : Draft} {name bytes : List ℕ} {result : List LinkItem} → Tail items (with_param link name []) bytes result → InAfterName items link name bytes result
InAfterName-tail {items} {link} {name} {bytes} t =
    record { text = []; rest = bytes; value = []; has_value = inl (refl, refl); tail = t; whole = refl }

pub InAfterName-blank : {items : List LinkItem} {link : Draft} {name bytes : List ℕ} {result : List LinkItem} (b : ℕ) → is_blank b ≡ true → InAfterName items link name bytes result → InAfterName items link name (b ∷ bytes) result
InAfterName-blank {items} {link} {name} {bytes} {result} b h n =
    elim n.has_value as (λ _. InAfterName items link name (b ∷ bytes) result) [
      | inl e ↦ record {
        text = [];
        rest = b ∷ n.rest;
        value = n.value;
        has_value = inl (e.0, refl);
        tail = Tail-blank b h n.tail;
        whole = ap (λ (u : List ℕ). b ∷ u) n.whole ∙ ap (λ (u : List ℕ). b ∷ u ++ n.rest) e.1;
      }
      | inr a ↦ record {
        text = b ∷ n.text;
        rest = n.rest;
        value = n.value;
        has_value = inr (record {
          before = b ∷ a.before;
          after = a.after;
          text = a.text;
          before_blank = (h, a.before_blank);
          after_blank = a.after_blank;
          is_value = a.is_value;
          whole = ap (λ (u : List ℕ). b ∷ u) a.whole;
        });
        tail = n.tail;
        whole = ap (λ (u : List ℕ). b ∷ u) n.whole;
      }
    ]

pub InAfterName-equals : {items : List LinkItem} {link : Draft} {name bytes : List ℕ} {result : List LinkItem} → InBeforeValue items link name bytes result → InAfterName items link name (61 ∷ bytes) result
InAfterName-equals v = record {
  text = 61 ∷ v.after ++ v.text;
  rest = v.rest;
  value = v.value;
  has_value = inr (record { before = []; after = v.after; text = v.text; before_blank = tt; after_blank = v.after_blank; is_value = v.is_value; whole = refl });
  tail = v.tail;
  whole = ap (λ (u : List ℕ). 61 ∷ u) v.whole;
}

pub InName-then : {items : List LinkItem} {link : Draft} {name bytes : List ℕ} {result : List LinkItem} → InAfterName items link name bytes result → InName items link name bytes result
InName-then {items} {link} {name} {bytes} {result} n = record {
  more = [];
  rest = bytes;
  each = tt;
  then = let P : List ℕ → Type 0 = λ u. InAfterName items link u bytes result in subst P (sym (append-nil name)) n;
  whole = refl;
}

pub InName-more : {items : List LinkItem} {link : Draft} {name bytes : List ℕ} {result : List LinkItem} (b : ℕ) → is_token_byte b ≡ true → InName items link (name ++ b ∷ []) bytes result → InName items link name (b ∷ bytes) result
InName-more {items} {link} {name} {bytes} {result} b h n = record {
  more = b ∷ n.more;
  rest = n.rest;
  each = (h, n.each);
  then = let P : List ℕ → Type 0 = λ u. InAfterName items link u n.rest result in subst P (append_assoc name (b ∷ []) n.more) n.then;
  whole = ap (λ (u : List ℕ). b ∷ u) n.whole;
}

one_more : (b : ℕ) (bytes : List ℕ) → 0 < length (b ∷ bytes)
one_more b bytes = omega arith

-- a parameter begins with a token character
pub AfterSemicolon-name : {items : List LinkItem} {link : Draft} {bytes : List ℕ} {result : List LinkItem} (b : ℕ) → is_token_byte b ≡ true → InName items link (b ∷ []) bytes result → AfterSemicolon items link (b ∷ bytes) result
AfterSemicolon-name b h n = record {
  after = [];
  element = b ∷ n.more ++ n.then.text;
  rest = n.then.rest;
  param = Some (record { name = b ∷ n.more; value = n.then.value });
  after_blank = tt;
  is_param = record { rest = n.then.text; named = record { some = one_more b n.more; each = (h, n.each) }; has_value = n.then.has_value; whole = refl };
  tail = n.then.tail;
  whole =
      ap (λ (u : List ℕ). b ∷ u) (n.whole ∙ ap (λ (u : List ℕ). n.more ++ u) n.then.whole ∙ sym (append_assoc n.more n.then.text n.then.rest));
}

pub InBeforeValue-blank : {items : List LinkItem} {link : Draft} {name bytes : List ℕ} {result : List LinkItem} (b : ℕ) → is_blank b ≡ true → InBeforeValue items link name bytes result → InBeforeValue items link name (b ∷ bytes) result
InBeforeValue-blank b h v = record {
  after = b ∷ v.after;
  text = v.text;
  rest = v.rest;
  value = v.value;
  after_blank = (h, v.after_blank);
  is_value = v.is_value;
  tail = v.tail;
  whole = ap (λ (u : List ℕ). b ∷ u) v.whole;
}

pub InBeforeValue-word : {items : List LinkItem} {link : Draft} {name bytes : List ℕ} {result : List LinkItem} (b : ℕ) → is_word_byte b ≡ true → InWord items link name (b ∷ []) bytes result → InBeforeValue items link name (b ∷ bytes) result
InBeforeValue-word b h w = record {
  after = [];
  text = b ∷ w.more;
  rest = w.rest;
  value = b ∷ w.more;
  after_blank = tt;
  is_value = inl (record { some = one_more b w.more; each = (h, w.each); whole = refl });
  tail = w.tail;
  whole = ap (λ (u : List ℕ). b ∷ u) w.whole;
}

pub InBeforeValue-quote : {items : List LinkItem} {link : Draft} {name bytes : List ℕ} {result : List LinkItem} → InQuotes items link name [] bytes result → InBeforeValue items link name (34 ∷ bytes) result
InBeforeValue-quote q = record {
  after = [];
  text = 34 ∷ q.text ++ 34 ∷ [];
  rest = q.rest;
  value = q.more;
  after_blank = tt;
  is_value = inr (record { text = q.text; inside = q.inside; whole = refl });
  tail = q.tail;
  whole = ap (λ (u : List ℕ). 34 ∷ u) (q.whole ∙ sym (append_assoc q.text (34 ∷ []) q.rest));
}

pub InWord-tail : {items : List LinkItem} {link : Draft} {name value bytes : List ℕ} {result : List LinkItem} → Tail items (with_param link name value) bytes result → InWord items link name value bytes result
InWord-tail {items} {link} {name} {value} {bytes} {result} t = record {
  more = [];
  rest = bytes;
  each = tt;
  tail = let P : List ℕ → Type 0 = λ u. Tail items (with_param link name u) bytes result in subst P (sym (append-nil value)) t;
  whole = refl;
}

pub InWord-more : {items : List LinkItem} {link : Draft} {name value bytes : List ℕ} {result : List LinkItem} (b : ℕ) → is_word_byte b ≡ true → InWord items link name (value ++ b ∷ []) bytes result → InWord items link name value (b ∷ bytes) result
InWord-more {items} {link} {name} {value} {bytes} {result} b h w = record {
  more = b ∷ w.more;
  rest = w.rest;
  each = (h, w.each);
  tail = let P : List ℕ → Type 0 = λ u. Tail items (with_param link name u) w.rest result in subst P (append_assoc value (b ∷ []) w.more) w.tail;
  whole = ap (λ (u : List ℕ). b ∷ u) w.whole;
}

pub InQuotes-close : {items : List LinkItem} {link : Draft} {name value bytes : List ℕ} {result : List LinkItem} → Tail items (with_param link name value) bytes result → InQuotes items link name value (34 ∷ bytes) result
InQuotes-close {items} {link} {name} {value} {bytes} {result} t = record {
  more = [];
  text = [];
  rest = bytes;
  inside = refl;
  tail = let P : List ℕ → Type 0 = λ u. Tail items (with_param link name u) bytes result in subst P (sym (append-nil value)) t;
  whole = refl;
}

pub InQuotes-more : {items : List LinkItem} {link : Draft} {name value bytes : List ℕ} {result : List LinkItem} (b : ℕ) → is_quoted_byte b ≡ true → InQuotes items link name (value ++ b ∷ []) bytes result → InQuotes items link name value (b ∷ bytes) result
InQuotes-more {items} {link} {name} {value} {bytes} {result} b h q = record {
  more = b ∷ q.more;
  text = b ∷ q.text;
  rest = q.rest;
  inside = (q.text, q.inside, inl (h, refl));
  tail = let P : List ℕ → Type 0 = λ u. Tail items (with_param link name u) q.rest result in subst P (append_assoc value (b ∷ []) q.more) q.tail;
  whole = ap (λ (u : List ℕ). b ∷ u) q.whole;
}

pub InQuotes-escape : {items : List LinkItem} {link : Draft} {name value bytes : List ℕ} {result : List LinkItem} → InEscape items link name value bytes result → InQuotes items link name value (92 ∷ bytes) result
InQuotes-escape {items} {link} {name} {value} {bytes} {result} s = record {
  more = s.byte ∷ s.quotes.more;
  text = 92 ∷ s.byte ∷ s.quotes.text;
  rest = s.quotes.rest;
  inside = (s.quotes.text, s.quotes.inside, inr (s.escaped, refl));
  tail = let P : List ℕ → Type 0 = λ u. Tail items (with_param link name u) s.quotes.rest result in subst P (append_assoc value (s.byte ∷ []) s.quotes.more) s.quotes.tail;
  whole = ap (λ (u : List ℕ). 92 ∷ u) (s.whole ∙ ap (λ (u : List ℕ). s.byte ∷ u) s.quotes.whole);
}
