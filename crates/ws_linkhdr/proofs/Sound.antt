-- What the states read is in the grammar.
use Rattle.std.proofs.Common.{◌≡◌, ℕ, eqb, List, [], ◌∷◌, ◌++◌, Option, None, Some, option_and_then, refl, sym, ◌∙◌, subst, append-nil}
use Rattle.ws_linkhdr.specs.declared.item.LinkItem.{LinkItem}
use Rattle.ws_linkhdr.specs.declared.state.Draft.{Draft}
use Rattle.ws_linkhdr.specs.declared.state.State.{State}
use Rattle.ws_linkhdr.specs.declared.state.State.TheVariants.{Between, Target, Ended, BeforeName, Name, AfterName, BeforeValue, Word, Quoted, Escaped}
use Rattle.ws_linkhdr.specs.Characters.{is_blank, is_token_byte, is_word_byte, is_target_byte, is_quoted_byte, is_escaped_byte}
use Rattle.ws_linkhdr.specs.Grammar.{LinkField}
use Rattle.ws_linkhdr.specs.Machine.{fresh, with_param, item_of, kept, separated, ended, after_name, next, run}
use Rattle.ws_linkhdr.proofs.Bytes.{split, at_byte}
use Rattle.ws_linkhdr.proofs.Rests.{Ends-nil, Ends-comma, AfterComma, AfterComma-ends, AfterComma-blank, Tail, Tail-ends, Tail-blank, AfterSemicolon, AfterSemicolon-tail, AfterSemicolon-blank, Tail-semicolon, Tail-comma, field_is}
use Rattle.ws_linkhdr.proofs.Params.{InTarget, InTarget-more, InTarget-close, AfterComma-link, InName, InName-then, InName-more, InAfterName, InAfterName-tail, InAfterName-blank, InAfterName-equals, AfterSemicolon-name, InBeforeValue, InBeforeValue-blank, InBeforeValue-word, InBeforeValue-quote, InWord, InWord-tail, InWord-more, InQuotes, InQuotes-close, InQuotes-more, InQuotes-escape, InEscape}

-- what the rest of a field is, from a state on
abbrev pub Means : State → List LinkItem → List ℕ → List LinkItem → Type 0
Means Between items bytes result = AfterComma items bytes result
Means (Target target) items bytes result = InTarget items target bytes result
Means (Ended link) items bytes result = Tail items link bytes result
Means (BeforeName link) items bytes result = AfterSemicolon items link bytes result
Means (Name link name) items bytes result = InName items link name bytes result
Means (AfterName link name) items bytes result = InAfterName items link name bytes result
Means (BeforeValue link name) items bytes result = InBeforeValue items link name bytes result
Means (Word link name value) items bytes result = InWord items link name value bytes result
Means (Quoted link name value) items bytes result = InQuotes items link name value bytes result
Means (Escaped link name value) items bytes result = InEscape items link name value bytes result

-- the rest gives this result once the next state is known
abbrev Goes : List ℕ → List LinkItem → Option (State × List LinkItem) → Type 0
Goes bytes result there = option_and_then (λ p. run p.0 p.1 bytes) there ≡ Some result

abbrev IsSound : List ℕ → Type 0
IsSound bytes = (state : State) (items result : List LinkItem) → run state items bytes ≡ Some result → Means state items bytes result

no_result : {P : Type 0} (result : List LinkItem) → ◌≡◌ {A = Option (List LinkItem)} None (Some result) → P
no_result result e = cc

sound_separated : (link : Draft) (items : List LinkItem) (b : ℕ) (bytes : List ℕ) (result : List LinkItem) → IsSound bytes → Goes bytes result (separated link items b) → Tail items link (b ∷ bytes) result
sound_separated link items b bytes result sound g =
    split (eqb b 59) (Goes bytes result) _ _ g
    (λ h e. at_byte (λ c. Tail items link (c ∷ bytes) result) b 59 h (Tail-semicolon (sound (BeforeName link) items result e)))
    (λ _ f. split (eqb b 44) (Goes bytes result) _ _ f
    (λ h e. at_byte (λ c. Tail items link (c ∷ bytes) result) b 44 h (Tail-comma (sound Between (items ++ item_of link ∷ []) result e)))
    (λ _ e. no_result result e))

sound_ended : (link : Draft) (items : List LinkItem) (b : ℕ) (bytes : List ℕ) (result : List LinkItem) → IsSound bytes → Goes bytes result (ended link items b) → Tail items link (b ∷ bytes) result
sound_ended link items b bytes result sound g =
    split (is_blank b) (Goes bytes result) _ _ g
    (λ h e. Tail-blank b h (sound (Ended link) items result e))
    (λ _ e. sound_separated link items b bytes result sound e)

sound_after_name : (link : Draft) (name : List ℕ) (items : List LinkItem) (b : ℕ) (bytes : List ℕ) (result : List LinkItem) → IsSound bytes → Goes bytes result (after_name link name items b) → InAfterName items link name (b ∷ bytes) result
sound_after_name link name items b bytes result sound g =
    split (eqb b 61) (Goes bytes result) _ _ g
    (λ h e. at_byte (λ c. InAfterName items link name (c ∷ bytes) result) b 61 h (InAfterName-equals (sound (BeforeValue link name) items result e)))
    (λ _ f. split (is_blank b) (Goes bytes result) _ _ f
    (λ h e. InAfterName-blank b h (sound (AfterName link name) items result e))
    (λ _ e. InAfterName-tail (sound_separated (with_param link name []) items b bytes result sound e)))

-- the same where the items stay
abbrev Stays : List ℕ → List LinkItem → List LinkItem → Option State → Type 0
Stays bytes items result there = Goes bytes result (kept items there)

sound_more : (state : State) (items : List LinkItem) (b : ℕ) (bytes : List ℕ) (result : List LinkItem) → IsSound bytes → Goes bytes result (next state items b) → Means state items (b ∷ bytes) result
sound_more Between items b bytes result sound g =
    split (is_blank b) (Stays bytes items result) _ _ g
    (λ h e. AfterComma-blank b h (sound Between items result e))
    (λ _ f. split (eqb b 44) (Stays bytes items result) _ _ f
    (λ h e. at_byte (λ c. AfterComma items (c ∷ bytes) result) b 44 h (AfterComma-ends (Ends-comma (sound Between items result e))))
    (λ _ e. split (eqb b 60) (Stays bytes items result) _ _ e
    (λ h i. at_byte (λ c. AfterComma items (c ∷ bytes) result) b 60 h (AfterComma-link (sound (Target []) items result i)))
    (λ _ i. no_result result i)))
sound_more (Target target) items b bytes result sound g =
    split (is_target_byte b) (Stays bytes items result) _ _ g
    (λ h e. InTarget-more b h (sound (Target (target ++ b ∷ [])) items result e))
    (λ _ f. split (eqb b 62) (Stays bytes items result) _ _ f
    (λ h e. at_byte (λ c. InTarget items target (c ∷ bytes) result) b 62 h (InTarget-close (sound (Ended (fresh target)) items result e)))
    (λ _ e. no_result result e))
sound_more (Ended link) items b bytes result sound g = sound_ended link items b bytes result sound g
sound_more (BeforeName link) items b bytes result sound g =
    split (is_token_byte b) (Goes bytes result) _ _ g
    (λ h e. AfterSemicolon-name b h (sound (Name link (b ∷ [])) items result e))
    (λ _ f. split (is_blank b) (Goes bytes result) _ _ f
    (λ h e. AfterSemicolon-blank b h (sound (BeforeName link) items result e))
    (λ _ e. AfterSemicolon-tail (sound_separated link items b bytes result sound e)))
sound_more (Name link name) items b bytes result sound g =
    split (is_token_byte b) (Goes bytes result) _ _ g
    (λ h e. InName-more b h (sound (Name link (name ++ b ∷ [])) items result e))
    (λ _ e. InName-then (sound_after_name link name items b bytes result sound e))
sound_more (AfterName link name) items b bytes result sound g = sound_after_name link name items b bytes result sound g
sound_more (BeforeValue link name) items b bytes result sound g =
    split (is_word_byte b) (Stays bytes items result) _ _ g
    (λ h e. InBeforeValue-word b h (sound (Word link name (b ∷ [])) items result e))
    (λ _ f. split (eqb b 34) (Stays bytes items result) _ _ f
    (λ h e. at_byte (λ c. InBeforeValue items link name (c ∷ bytes) result) b 34 h (InBeforeValue-quote (sound (Quoted link name []) items result e)))
    (λ _ e. split (is_blank b) (Stays bytes items result) _ _ e
    (λ h i. InBeforeValue-blank b h (sound (BeforeValue link name) items result i))
    (λ _ i. no_result result i)))
sound_more (Word link name value) items b bytes result sound g =
    split (is_word_byte b) (Goes bytes result) _ _ g
    (λ h e. InWord-more b h (sound (Word link name (value ++ b ∷ [])) items result e))
    (λ _ e. InWord-tail (sound_ended (with_param link name value) items b bytes result sound e))
sound_more (Quoted link name value) items b bytes result sound g =
    split (is_quoted_byte b) (Stays bytes items result) _ _ g
    (λ h e. InQuotes-more b h (sound (Quoted link name (value ++ b ∷ [])) items result e))
    (λ _ f. split (eqb b 34) (Stays bytes items result) _ _ f
    (λ h e. at_byte (λ c. InQuotes items link name value (c ∷ bytes) result) b 34 h (InQuotes-close (sound (Ended (with_param link name value)) items result e)))
    (λ _ e. split (eqb b 92) (Stays bytes items result) _ _ e
    (λ h i. at_byte (λ c. InQuotes items link name value (c ∷ bytes) result) b 92 h (InQuotes-escape (sound (Escaped link name value) items result i)))
    (λ _ i. no_result result i)))
sound_more (Escaped link name value) items b bytes result sound g =
    split (is_escaped_byte b) (Stays bytes items result) _ _ g
    (λ h e. record { byte = b; rest = bytes; escaped = h; quotes = sound (Quoted link name (value ++ b ∷ [])) items result e; whole = refl })
    (λ _ e. no_result result e)

same_some : {A : Type 0} (x y : A) → ◌≡◌ {A = Option A} (Some x) (Some y) → x ≡ y
same_some x y e = cc

-- a link at the end of the field
last_link : (link : Draft) (items result : List LinkItem) → ◌≡◌ {A = Option (List LinkItem)} (Some (items ++ item_of link ∷ [])) (Some result) → Tail items link [] result
last_link link items result e =
    let P : List LinkItem → Type 0 = λ r. Tail items link [] r in
    subst P (same_some _ _ e) (Tail-ends (Ends-nil (items ++ item_of link ∷ [])))

sound_end : (state : State) (items result : List LinkItem) → run state items [] ≡ Some result → Means state items [] result
sound_end Between items result e =
    let P : List LinkItem → Type 0 = λ r. AfterComma items [] r in
    subst P (sym (append-nil items) ∙ same_some _ _ e) (AfterComma-ends (Ends-nil items))
sound_end (Target target) items result e = no_result result e
sound_end (Ended link) items result e = last_link link items result e
sound_end (BeforeName link) items result e = AfterSemicolon-tail (last_link link items result e)
sound_end (Name link name) items result e = InName-then (InAfterName-tail (last_link (with_param link name []) items result e))
sound_end (AfterName link name) items result e = InAfterName-tail (last_link (with_param link name []) items result e)
sound_end (BeforeValue link name) items result e = no_result result e
sound_end (Word link name value) items result e = InWord-tail (last_link (with_param link name value) items result e)
sound_end (Quoted link name value) items result e = no_result result e
sound_end (Escaped link name value) items result e = no_result result e

-- what a state reads is the rest of a field
sound : (bytes : List ℕ) → IsSound bytes
sound [] = sound_end
sound (b ∷ bytes) = λ state items result e. sound_more state items b bytes result (sound bytes) e

-- what is read is in the grammar
pub read_is_field : (field : List ℕ) (items : List LinkItem) → run Between [] field ≡ Some items → LinkField field items
read_is_field field items e = field_is (sound field Between [] items e)
