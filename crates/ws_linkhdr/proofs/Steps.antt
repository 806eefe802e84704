-- What the states make of blanks, marks, names and values.
use Rattle.std.proofs.Common.{◌≡◌, ℕ, ◌<◌, true, false, eqb, List, [], ◌∷◌, ◌++◌, Option, None, Some, is_some, option_map, option_and_then, inl, inr, refl, sym, ap, ◌∙◌, subst, append_assoc, append-nil, arith}
use Rattle.ws_linkhdr.specs.declared.item.LinkItem.{LinkItem}
use Rattle.ws_linkhdr.specs.declared.state.Draft.{Draft}
use Rattle.ws_linkhdr.specs.declared.state.State.{State}
use Rattle.ws_linkhdr.specs.declared.state.State.TheVariants.{Between, Target, Ended, BeforeName, Name, AfterName, BeforeValue, Word, Quoted, Escaped}
use Rattle.ws_linkhdr.specs.Characters.{is_blank, is_token_byte, is_word_byte, is_plain_byte, is_target_byte, is_quoted_byte, is_escaped_byte}
use Rattle.ws_linkhdr.specs.Grammar.{Each, IsBlank, IsQuotedText, IsWord, IsQuoted, IsValue, HasValue, Param, IsToken, IsParam}
use Rattle.ws_linkhdr.specs.Machine.{fresh, with_param, item_of, kept, separated, next, last, run}
use Rattle.ws_linkhdr.proofs.Bytes.{chosen, passed, blank_no_token, blank_no_word, blank_no_equals, blank_no_quote}

-- the link that is open in a state in which it may end
abbrev pub open_link : State → Option Draft
open_link Between = None
open_link (Target target) = None
open_link (Ended link) = Some link
open_link (BeforeName link) = Some link
open_link (Name link name) = Some (with_param link name [])
open_link (AfterName link name) = Some (with_param link name [])
open_link (BeforeValue link name) = None
open_link (Word link name value) = Some (with_param link name value)
open_link (Quoted link name value) = None
open_link (Escaped link name value) = None

pub last_open : (state : State) (link : Draft) → open_link state ≡ Some link → last state ≡ Some (item_of link ∷ [])
last_open Between link e = cc
last_open (Target target) link e = cc
last_open (Ended other) link e = ap (option_map (λ (l : Draft). item_of l ∷ [])) e
last_open (BeforeName other) link e = ap (option_map (λ (l : Draft). item_of l ∷ [])) e
last_open (Name other name) link e = ap (option_map (λ (l : Draft). item_of l ∷ [])) e
last_open (AfterName other name) link e = ap (option_map (λ (l : Draft). item_of l ∷ [])) e
last_open (BeforeValue other name) link e = cc
last_open (Word other name value) link e = ap (option_map (λ (l : Draft). item_of l ∷ [])) e
last_open (Quoted other name value) link e = cc
last_open (Escaped other name value) link e = cc

-- one byte of a run
pub one : (state after : State) (items then : List LinkItem) (b : ℕ) (bytes : List ℕ) → next state items b ≡ Some (after, then) → run state items (b ∷ bytes) ≡ run after then bytes
one state after items then b bytes e = ap (option_and_then (λ p. run p.0 p.1 bytes)) e

-- what a text does in one state: it leads to another, whatever the items are and whatever follows
pub record Leads (state : State) (text : List ℕ) (after : State) : Type 0 where
  pub runs : (items : List LinkItem) (rest : List ℕ) → run state items (text ++ rest) ≡ run after items rest

pub Leads-nil : (state : State) (text : List ℕ) → text ≡ [] → Leads state text state
Leads-nil state text e = record { runs = λ items rest. ap (λ (t : List ℕ). run state items (t ++ rest)) e }

pub Leads-then : {state middle after : State} (front text : List ℕ) → Leads state front middle → Leads middle text after → Leads state (front ++ text) after
Leads-then {state} {middle} {after} front text l m = record {
  runs = λ items rest. ap (run state items) (append_assoc front text rest) ∙ l.runs items (text ++ rest) ∙ m.runs items rest;
}

pub Leads-byte : {state middle after : State} (b : ℕ) (text : List ℕ) → ((items : List LinkItem) → next state items b ≡ Some (middle, items)) → Leads middle text after → Leads state (b ∷ text) after
Leads-byte {state} {middle} {after} b text e m = record { runs = λ items rest. one state middle items items b (text ++ rest) (e items) ∙ m.runs items rest }

pub Leads-as : {state after : State} (text other : List ℕ) → text ≡ other → Leads state other after → Leads state text after
Leads-as {state} {after} text other e l = let P : List ℕ → Type 0 = λ t. Leads state t after in subst P (sym e) l

-- what blanks do where a field may end
pub record Rests (state : State) (text : List ℕ) : Type 0 where
  pub after : State
  pub leads : Leads state text after
  pub same_last : last after ≡ last state
  pub same_link : open_link after ≡ open_link state

record OneBlank (state : State) (b : ℕ) : Type 0 where
  pub after : State
  pub leads : (items : List LinkItem) → next state items b ≡ Some (after, items)
  pub same_last : last after ≡ last state
  pub same_link : open_link after ≡ open_link state

no_end : {P : Type 0} → false ≡ true → P
no_end e = cc

one_blank : (state : State) (b : ℕ) → is_some (last state) ≡ true → is_blank b ≡ true → OneBlank state b
one_blank Between b ends h = record { after = Between; leads = λ items. ap (kept items) (chosen (is_blank b) _ _ h); same_last = refl; same_link = refl }
one_blank (Target target) b ends h = no_end ends
one_blank (Ended link) b ends h = record { after = Ended link; leads = λ items. chosen (is_blank b) _ _ h; same_last = refl; same_link = refl }
one_blank (BeforeName link) b ends h = record {
  after = BeforeName link;
  leads = λ items. passed (is_token_byte b) _ _ (blank_no_token b h) ∙ chosen (is_blank b) _ _ h;
  same_last = refl;
  same_link = refl;
}
one_blank (Name link name) b ends h = record {
  after = AfterName link name;
  leads = λ items. passed (is_token_byte b) _ _ (blank_no_token b h) ∙ passed (eqb b 61) _ _ (blank_no_equals b h) ∙ chosen (is_blank b) _ _ h;
  same_last = refl;
  same_link = refl;
}
one_blank (AfterName link name) b ends h = record {
  after = AfterName link name;
  leads = λ items. passed (eqb b 61) _ _ (blank_no_equals b h) ∙ chosen (is_blank b) _ _ h;
  same_last = refl;
  same_link = refl;
}
one_blank (BeforeValue link name) b ends h = no_end ends
one_blank (Word link name value) b ends h = record {
  after = Ended (with_param link name value);
  leads = λ items. passed (is_word_byte b) _ _ (blank_no_word b h) ∙ chosen (is_blank b) _ _ h;
  same_last = refl;
  same_link = refl;
}
one_blank (Quoted link name value) b ends h = no_end ends
one_blank (Escaped link name value) b ends h = no_end ends

pub blanks_rest : (bs : List ℕ) (state : State) → is_some (last state) ≡ true → IsBlank bs → Rests state bs
blanks_rest [] state ends h = record { after = state; leads = Leads-nil state [] refl; same_last = refl; same_link = refl }
blanks_rest (b ∷ bs) state ends h =
    let o : OneBlank state b = one_blank state b ends h.0 in
    let r : Rests o.after bs = blanks_rest bs o.after (ap is_some o.same_last ∙ ends) h.1 in
    record { after = r.after; leads = Leads-byte b bs o.leads r.leads; same_last = r.same_last ∙ o.same_last; same_link = r.same_link ∙ o.same_link }

-- a comma ends the link that is open
comma_at_link : (link : Draft) (items more : List LinkItem) → ◌≡◌ {A = Option (List LinkItem)} (Some (item_of link ∷ [])) (Some more) → separated link items 44 ≡ Some (Between, items ++ more)
comma_at_link link items more e = ap (option_map (λ (m : List LinkItem). (Between, items ++ m))) e

pub at_comma : (state : State) (items more : List LinkItem) → last state ≡ Some more → next state items 44 ≡ Some (Between, items ++ more)
unfolding is_blank is_token_byte is_word_byte
at_comma Between items more e =
    ap (λ (m : List LinkItem). Some (Between, m)) (sym (append-nil items)) ∙ ap (option_map (λ (m : List LinkItem). (Between, items ++ m))) e
at_comma (Target target) items more e = cc
at_comma (Ended link) items more e = comma_at_link link items more e
at_comma (BeforeName link) items more e = comma_at_link link items more e
at_comma (Name link name) items more e = comma_at_link (with_param link name []) items more e
at_comma (AfterName link name) items more e = comma_at_link (with_param link name []) items more e
at_comma (BeforeValue link name) items more e = cc
at_comma (Word link name value) items more e = comma_at_link (with_param link name value) items more e
at_comma (Quoted link name value) items more e = cc
at_comma (Escaped link name value) items more e = cc

semicolon_at_link : (other link : Draft) (items : List LinkItem) → ◌≡◌ {A = Option Draft} (Some other) (Some link) → separated other items 59 ≡ Some (BeforeName link, items)
semicolon_at_link other link items e = ap (option_map (λ (l : Draft). (BeforeName l, items))) e

-- a semicolon begins a parameter of it
pub at_semicolon : (state : State) (link : Draft) (items : List LinkItem) → open_link state ≡ Some link → next state items 59 ≡ Some (BeforeName link, items)
unfolding is_blank is_token_byte is_word_byte
at_semicolon Between link items e = cc
at_semicolon (Target target) link items e = cc
at_semicolon (Ended other) link items e = semicolon_at_link other link items e
at_semicolon (BeforeName other) link items e = semicolon_at_link other link items e
at_semicolon (Name other name) link items e = semicolon_at_link (with_param other name []) link items e
at_semicolon (AfterName other name) link items e = semicolon_at_link (with_param other name []) link items e
at_semicolon (BeforeValue other name) link items e = cc
at_semicolon (Word other name value) link items e = semicolon_at_link (with_param other name value) link items e
at_semicolon (Quoted other name value) link items e = cc
at_semicolon (Escaped other name value) link items e = cc

-- blanks where a link, a name or a value may begin
pub blanks_between : (bs : List ℕ) → IsBlank bs → Leads Between bs Between
blanks_between [] h = Leads-nil Between [] refl
blanks_between (b ∷ bs) h = Leads-byte b bs (λ items. ap (kept items) (chosen (is_blank b) _ _ h.0)) (blanks_between bs h.1)

pub blanks_before_name : (bs : List ℕ) (link : Draft) → IsBlank bs → Leads (BeforeName link) bs (BeforeName link)
blanks_before_name [] link h = Leads-nil (BeforeName link) [] refl
blanks_before_name (b ∷ bs) link h =
    Leads-byte b bs (λ items. passed (is_token_byte b) _ _ (blank_no_token b h.0) ∙ chosen (is_blank b) _ _ h.0) (blanks_before_name bs link h.1)

blanks_before_value : (bs : List ℕ) (link : Draft) (name : List ℕ) → IsBlank bs → Leads (BeforeValue link name) bs (BeforeValue link name)
blanks_before_value [] link name h = Leads-nil (BeforeValue link name) [] refl
blanks_before_value (b ∷ bs) link name h =
    Leads-byte b bs
    (λ items. ap (kept items) (passed (is_word_byte b) _ _ (blank_no_word b h.0) ∙ passed (eqb b 34) _ _ (blank_no_quote b h.0) ∙ chosen (is_blank b) _ _ h.0))
    (blanks_before_value bs link name h.1)

-- the equals sign, and the blanks before it
equals_after_name : (bs : List ℕ) (link : Draft) (name : List ℕ) → IsBlank bs → Leads (AfterName link name) (bs ++ 61 ∷ []) (BeforeValue link name)
equals_after_name [] link name h = Leads-byte 61 [] (λ items. refl) (Leads-nil (BeforeValue link name) [] refl)
equals_after_name (b ∷ bs) link name h =
    Leads-byte b (bs ++ 61 ∷ []) (λ items. passed (eqb b 61) _ _ (blank_no_equals b h.0) ∙ chosen (is_blank b) _ _ h.0) (equals_after_name bs link name h.1)

equals_at_name : (link : Draft) (name : List ℕ) (items : List LinkItem) → next (Name link name) items 61 ≡ Some (BeforeValue link name, items)
unfolding is_token_byte
equals_at_name link name items = refl

equals : (bs : List ℕ) (link : Draft) (name : List ℕ) → IsBlank bs → Leads (Name link name) (bs ++ 61 ∷ []) (BeforeValue link name)
equals [] link name h = Leads-byte 61 [] (equals_at_name link name) (Leads-nil (BeforeValue link name) [] refl)
equals (b ∷ bs) link name h =
    Leads-byte b (bs ++ 61 ∷ [])
    (λ items. passed (is_token_byte b) _ _ (blank_no_token b h.0) ∙ passed (eqb b 61) _ _ (blank_no_equals b h.0) ∙ chosen (is_blank b) _ _ h.0)
    (equals_after_name bs link name h.1)

-- targets, names and words
Leads-end : {state after other : State} {text : List ℕ} → after ≡ other → Leads state text after → Leads state text other
Leads-end {state} {after} {other} {text} e l = let P : State → Type 0 = λ s. Leads state text s in subst P e l

target_read : (more front : List ℕ) → Each is_target_byte more → Leads (Target front) more (Target (front ++ more))
target_read [] front h = Leads-nil' (Target front) (Target (front ++ [])) (ap Target (sym (append-nil front)))
  where
    Leads-nil' : (state other : State) → state ≡ other → Leads state [] other
    Leads-nil' state other e = Leads-end e (Leads-nil state [] refl)
target_read (b ∷ more) front h =
    Leads-byte b more (λ items. ap (kept items) (chosen (is_target_byte b) _ _ h.0))
    (Leads-end (ap Target (append_assoc front (b ∷ []) more)) (target_read more (front ++ b ∷ []) h.1))

name_read : (more : List ℕ) (link : Draft) (front : List ℕ) → Each is_token_byte more → Leads (Name link front) more (Name link (front ++ more))
name_read [] link front h = Leads-end (ap (Name link) (sym (append-nil front))) (Leads-nil (Name link front) [] refl)
name_read (b ∷ more) link front h =
    Leads-byte b more (λ items. chosen (is_token_byte b) _ _ h.0)
    (Leads-end (ap (Name link) (append_assoc front (b ∷ []) more)) (name_read more link (front ++ b ∷ []) h.1))

word_read : (more : List ℕ) (link : Draft) (name front : List ℕ) → Each is_word_byte more → Leads (Word link name front) more (Word link name (front ++ more))
word_read [] link name front h = Leads-end (ap (Word link name) (sym (append-nil front))) (Leads-nil (Word link name front) [] refl)
word_read (b ∷ more) link name front h =
    Leads-byte b more (λ items. chosen (is_word_byte b) _ _ h.0)
    (Leads-end (ap (Word link name) (append_assoc front (b ∷ []) more)) (word_read more link name (front ++ b ∷ []) h.1))

-- a backslash within quotes
backslash : (link : Draft) (name front : List ℕ) (items : List LinkItem) → next (Quoted link name front) items 92 ≡ Some (Escaped link name front, items)
unfolding is_plain_byte is_quoted_byte
backslash link name front items = refl

quoted_read : (more text : List ℕ) (link : Draft) (name front : List ℕ) → IsQuotedText more text → Leads (Quoted link name front) text (Quoted link name (front ++ more))
quoted_read [] text link name front h = Leads-end (ap (Quoted link name) (sym (append-nil front))) (Leads-nil (Quoted link name front) text h)
quoted_read (b ∷ more) text link name front h =
    let then : Leads (Quoted link name (front ++ b ∷ [])) h.0 (Quoted link name (front ++ b ∷ more)) =
    Leads-end (ap (Quoted link name) (append_assoc front (b ∷ []) more)) (quoted_read more h.0 link name (front ++ b ∷ []) h.1) in
    elim h.2 as (λ _. Leads (Quoted link name front) text (Quoted link name (front ++ b ∷ more))) [
      | inl p ↦ Leads-as text (b ∷ h.0) p.1 (Leads-byte b h.0 (λ items. ap (kept items) (chosen (is_quoted_byte b) _ _ p.0)) then)
      | inr p ↦ Leads-as text (92 ∷ b ∷ h.0) p.1
          (Leads-byte 92 (b ∷ h.0) (backslash link name front) (Leads-byte b h.0 (λ items. ap (kept items) (chosen (is_escaped_byte b) _ _ p.0)) then))
    ]

-- where a text leads to a state with this open link
pub record Opens (state : State) (text : List ℕ) (link : Draft) : Type 0 where
  pub after : State
  pub leads : Leads state text after
  pub opened : open_link after ≡ Some link

pub Opens-then : {state middle : State} (front text : List ℕ) (link : Draft) → Leads state front middle → Opens middle text link → Opens state (front ++ text) link
Opens-then front text link l o = record { after = o.after; leads = Leads-then front text l o.leads; opened = o.opened }

pub Opens-as : {state : State} (text other : List ℕ) (link : Draft) → text ≡ other → Opens state other link → Opens state text link
Opens-as text other link e o = record { after = o.after; leads = Leads-as text other e o.leads; opened = o.opened }

open_quote : (link : Draft) (name : List ℕ) (items : List LinkItem) → next (BeforeValue link name) items 34 ≡ Some (Quoted link name [], items)
unfolding is_token_byte is_word_byte
open_quote link name items = refl

close_quote : (link : Draft) (name value : List ℕ) (items : List LinkItem) → next (Quoted link name value) items 34 ≡ Some (Ended (with_param link name value), items)
unfolding is_plain_byte is_quoted_byte
close_quote link name value items = refl

word_opens : (value text : List ℕ) (link : Draft) (name : List ℕ) → IsWord value text → Opens (BeforeValue link name) text (with_param link name value)
word_opens [] text link name w = absurd (let h : 0 < 0 = w.some in omega arith)
word_opens (b ∷ value) text link name w = Opens-as text (b ∷ value) (with_param link name (b ∷ value)) w.whole (record {
  after = Word link name (b ∷ value);
  leads = Leads-byte b value (λ items. ap (kept items) (chosen (is_word_byte b) _ _ w.each.0)) (word_read value link name (b ∷ []) w.each.1);
  opened = refl;
})

quoted_opens : (value text : List ℕ) (link : Draft) (name : List ℕ) → IsQuoted value text → Opens (BeforeValue link name) text (with_param link name value)
quoted_opens value text link name q = Opens-as text (34 ∷ q.text ++ 34 ∷ []) (with_param link name value) q.whole (record {
  after = Ended (with_param link name value);
  leads = Leads-byte 34 (q.text ++ 34 ∷ []) (open_quote link name)
      (Leads-then q.text (34 ∷ []) (quoted_read value q.text link name [] q.inside)
      (Leads-byte 34 [] (close_quote link name value) (Leads-nil (Ended (with_param link name value)) [] refl)));
  opened = refl;
})

value_opens : (value text : List ℕ) (link : Draft) (name : List ℕ) → IsValue value text → Opens (BeforeValue link name) text (with_param link name value)
value_opens value text link name v =
    elim v as (λ _. Opens (BeforeValue link name) text (with_param link name value)) [ inl w ↦ word_opens value text link name w | inr q ↦ quoted_opens value text link name q ]

after_name_opens : (value text : List ℕ) (link : Draft) (name : List ℕ) → HasValue value text → Opens (Name link name) text (with_param link name value)
after_name_opens value text link name v =
    elim v as (λ _. Opens (Name link name) text (with_param link name value)) [
      | inl e ↦ record {
        after = Name link name;
        leads = Leads-nil (Name link name) text e.1;
        opened = ap (λ (u : List ℕ). let o : Option Draft = Some (with_param link name u) in o) (sym e.0);
      }
      | inr a ↦ Opens-as text _ (with_param link name value) (a.whole ∙ regrouped a.before a.after a.text)
          (Opens-then (a.before ++ 61 ∷ []) (a.after ++ a.text) (with_param link name value) (equals a.before link name a.before_blank)
          (Opens-then a.after a.text (with_param link name value) (blanks_before_value a.after link name a.after_blank) (value_opens value a.text link name a.is_value)))
    ]
  where
    regrouped : (before after text : List ℕ) → before ++ 61 ∷ after ++ text ≡ (before ++ 61 ∷ []) ++ (after ++ text)
    regrouped before after text = append_assoc before (61 ∷ after) text ∙ sym (append_assoc before (61 ∷ []) (after ++ text))

token_opens : (name value rest : List ℕ) (link : Draft) → IsToken name → HasValue value rest → Opens (BeforeName link) (name ++ rest) (with_param link name value)
token_opens [] value rest link t v = absurd (let h : 0 < 0 = t.some in omega arith)
token_opens (b ∷ name) value rest link t v =
    Opens-then (b ∷ name) rest (with_param link (b ∷ name) value)
    (Leads-byte b name (λ items. chosen (is_token_byte b) _ _ t.each.0) (name_read name link (b ∷ []) t.each.1))
    (after_name_opens value rest link (b ∷ name) v)

-- a parameter
pub param_opens : (param : Param) (text : List ℕ) (link : Draft) → IsParam param text → Opens (BeforeName link) text (with_param link param.name param.value)
param_opens param text link p = Opens-as text (param.name ++ p.rest) (with_param link param.name param.value) p.whole (token_opens param.name param.value p.rest link p.named p.has_value)

open_target : (items : List LinkItem) → next Between items 60 ≡ Some (Target [], items)
unfolding is_blank
open_target items = refl

close_target : (target : List ℕ) (items : List LinkItem) → next (Target target) items 62 ≡ Some (Ended (fresh target), items)
unfolding is_plain_byte is_target_byte
close_target target items = refl

-- a target in its brackets
pub target_opens : (target : List ℕ) → Each is_target_byte target → Leads Between (60 ∷ target ++ 62 ∷ []) (Ended (fresh target))
target_opens target h =
    Leads-byte 60 (target ++ 62 ∷ []) open_target
    (Leads-then target (62 ∷ []) (target_read target [] h) (Leads-byte 62 [] (close_target target) (Leads-nil (Ended (fresh target)) [] refl)))
