-- What the reader's loop keeps, and what it means where it ends.
use Rattle.std.proofs.Common.{◌≡◌, ℕ, ◌+◌, ◌<◌, ◌≤◌, List, [], ◌∷◌, ◌++◌, length, take, drop, get_or, Option, None, Some, option_and_then, refl, sym, ap, ◌∙◌, subst, append_assoc, append-nil, arith, take_all, take-suc, take-take, take-append-drop, add-one, inl, inr}
use Rattle.std.proofs.lemmas.Bool.{cases_lt}
use Rattle.ws_linkhdr.specs.declared.item.LinkItem.{LinkItem}
use Rattle.ws_linkhdr.specs.declared.state.State.{State}
use Rattle.ws_linkhdr.specs.declared.state.State.TheVariants.{Between, Target, Ended, BeforeName, Name, AfterName, BeforeValue, Word, Quoted, Escaped}
use Rattle.ws_linkhdr.specs.Characters.{is_token_byte, is_word_byte, is_plain_byte, is_target_byte, is_quoted_byte, is_escaped_byte}
use Rattle.ws_linkhdr.specs.Grammar.{LinkField}
use Rattle.ws_linkhdr.specs.Fault.{BeginsField, LeavesGrammarAt}
use Rattle.ws_linkhdr.specs.Machine.{kept, next, finish, run}
use Rattle.ws_linkhdr.proofs.Sound.{read_is_field}
use Rattle.ws_linkhdr.proofs.Complete.{field_is_read}

take_one : (field : List ℕ) (at : ℕ) → at < length field → take (at + 1) field ≡ take at field ++ get_or field at 0 ∷ []
take_one field at h = rw add-one (take-suc field at 0 h)

-- what has been read so far led here, whatever follows
pub record SoFar (front : List ℕ) (state : State) (items : List LinkItem) : Type 0 where
  pub led : (more : List ℕ) → run Between [] (front ++ more) ≡ run state items more

pub SoFar-start : SoFar [] Between []
SoFar-start = record { led = λ more. refl }

pub SoFar-more : (field : List ℕ) (at : ℕ) (state after : State) (items then : List LinkItem) → SoFar (take at field) state items → at < length field → next state items (get_or field at 0) ≡ kept then (Some after) → SoFar (take (at + 1) field) after then
SoFar-more field at state after items then s h e = record {
  led = λ more.
      ap (λ (t : List ℕ). run Between [] (t ++ more)) (take_one field at h)
      ∙ ap (run Between []) (append_assoc (take at field) (get_or field at 0 ∷ []) more)
      ∙ s.led (get_or field at 0 ∷ more)
      ∙ ap (option_and_then (λ p. run p.0 p.1 more)) e;
}

record Completes (state : State) (items : List LinkItem) : Type 0 where
  pub more : List ℕ
  pub result : List LinkItem
  pub runs : run state items more ≡ Some result

-- each state can be completed to a field
completes : (state : State) (items : List LinkItem) → Completes state items
unfolding is_token_byte is_word_byte is_plain_byte is_target_byte is_quoted_byte is_escaped_byte
completes Between items = record { more = []; result = _; runs = refl }
completes (Target target) items = record { more = 62 ∷ []; result = _; runs = refl }
completes (Ended link) items = record { more = []; result = _; runs = refl }
completes (BeforeName link) items = record { more = []; result = _; runs = refl }
completes (Name link name) items = record { more = []; result = _; runs = refl }
completes (AfterName link name) items = record { more = []; result = _; runs = refl }
completes (BeforeValue link name) items = record { more = 97 ∷ []; result = _; runs = refl }
completes (Word link name value) items = record { more = []; result = _; runs = refl }
completes (Quoted link name value) items = record { more = 34 ∷ []; result = _; runs = refl }
completes (Escaped link name value) items = record { more = 97 ∷ 34 ∷ []; result = _; runs = refl }

begins : (front : List ℕ) (state : State) (items : List LinkItem) → SoFar front state items → BeginsField front
begins front state items s =
    let c : Completes state items = completes state items in
    (c.more, c.result, read_is_field (front ++ c.more) c.result (s.led c.more ∙ c.runs))

no_result : {P : Type 0} (result : List LinkItem) → ◌≡◌ {A = Option (List LinkItem)} None (Some result) → P
no_result result e = cc

-- a longer front is the byte at its place and more
longer : (field : List ℕ) (at n : ℕ) (more : List ℕ) → at < n → n ≤ length field → take n field ++ more ≡ take at field ++ (get_or field at 0 ∷ (drop (at + 1) (take n field) ++ more))
longer field at n more h l =
    ap (λ (t : List ℕ). t ++ more)
    (sym (take-append-drop (at + 1) (take n field))
    ∙ ap (λ (t : List ℕ). t ++ drop (at + 1) (take n field)) (take-take (at + 1) n field (omega arith) ∙ take_one field at (omega arith)))
    ∙ append_assoc (take at field ++ get_or field at 0 ∷ []) (drop (at + 1) (take n field)) more
    ∙ append_assoc (take at field) (get_or field at 0 ∷ []) (drop (at + 1) (take n field) ++ more)

-- no field begins with a front that goes on with a byte that may not stand there
unread : (field : List ℕ) (at : ℕ) (state : State) (items then : List LinkItem) → SoFar (take at field) state items → next state items (get_or field at 0) ≡ kept then None → (n : ℕ) (more : List ℕ) (others : List LinkItem) → at < n → n ≤ length field → ¬ LinkField (take n field ++ more) others
unread field at state items then s e n more others h l f =
    no_result others
    (sym
    (ap (run Between []) (longer field at n more h l) ∙ s.led (get_or field at 0 ∷ (drop (at + 1) (take n field) ++ more))
    ∙ ap (option_and_then (λ p. run p.0 p.1 (drop (at + 1) (take n field) ++ more))) e)
    ∙ field_is_read (take n field ++ more) others f)

whole : (field : List ℕ) (n : ℕ) → n ≡ length field → take n field ++ [] ≡ field
whole field n e = append-nil (take n field) ∙ take_all n field (omega arith)

-- a byte that may not stand there is where the field leaves the grammar
pub fault_within : (field : List ℕ) (at : ℕ) (state : State) (items then : List LinkItem) → SoFar (take at field) state items → at < length field → next state items (get_or field at 0) ≡ kept then None → LeavesGrammarAt field at
fault_within field at state items then s h e = record {
  outside = λ others f.
      let P : List ℕ → Type 0 = λ t. LinkField t others in
      unread field at state items then s e (length field) [] others h (omega arith) (subst P (sym (whole field (length field) refl)) f);
  within = omega arith;
  begun = begins (take at field) state items s;
  longest = λ n l b.
      elim (cases_lt at n) as (λ _. n ≤ at) [
        | inl lt ↦ absurd (unread field at state items then s e n b.0 b.1 lt l b.2)
        | inr le ↦ le
      ];
}

-- and so is the end of a field that may not end there
pub fault_at_end : (field : List ℕ) (at : ℕ) (state : State) (items : List LinkItem) → at ≡ length field → SoFar (take at field) state items → finish state items ≡ None → LeavesGrammarAt field at
fault_at_end field at state items n s e = record {
  outside = λ others f. no_result others (sym (ap (run Between []) (sym (whole field at n)) ∙ s.led [] ∙ e) ∙ field_is_read field others f);
  within = omega arith;
  begun = begins (take at field) state items s;
  longest = λ m l b. omega arith;
}

-- what is read at the end
pub read_at_end : (field : List ℕ) (at : ℕ) (state : State) (items result : List LinkItem) → at ≡ length field → SoFar (take at field) state items → finish state items ≡ Some result → LinkField field result
read_at_end field at state items result n s e = read_is_field field result (ap (run Between []) (sym (whole field at n)) ∙ s.led [] ∙ e)

pub only_one : (field : List ℕ) (result : List LinkItem) → LinkField field result → (items : List LinkItem) → LinkField field items → items ≡ result
only_one field result f items g = same_some _ _ (sym (field_is_read field items g) ∙ field_is_read field result f)
  where
    same_some : (x y : List LinkItem) → ◌≡◌ {A = Option (List LinkItem)} (Some x) (Some y) → x ≡ y
    same_some x y e = cc
