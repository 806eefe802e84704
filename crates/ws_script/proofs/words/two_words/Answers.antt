use Rattle.std.proofs.Common.{◌≡◌, ◌==◌, true, false, Some, ◌∷◌, ◌++◌, take, position, sym, ap, ◌∙◌}
use Rattle.ws_script.specs.Bytes.{is_word}
use Rattle.ws_script.proofs.Parting.{no_space, same_words, slice_behind, space_parts}
use Rattle.ws_script.proofs.words.two_words.Goals as goal
use Rattle.ws_script.proofs.words.two_words.Goals.{else-is_word-via-then-is_word+else-is_word-2, else-is_word-via-else-is_word}

pub returns-in_default : goal.returns-in_default
returns-in_default c = λ first second p q. no_space c.args.text.now first second (sym c.first_space.ensures ∙ c.in_default.is)

pub returns-then-is_word-2 : goal.returns-then-is_word-2
returns-then-is_word-2 c =
    let text = c.args.text.now in
    let i = c.in-Some.space in
    let found : position (λ b. b == 32) text ≡ Some i = sym c.first_space.ensures ∙ c.in-Some.is in
    let parts = space_parts text i found in
    (sym c.is_word.ensures ∙ c.if-is_word.true, sym c.is_word-then-is_word.ensures ∙ c.if-is_word-2.true, parts.1 ∙ ap (λ rest. take i text ++ 32 ∷ rest) (sym (slice_behind text i parts.0)))

pub returns-else-is_word : goal.returns-else-is_word
returns-else-is_word c = λ first second p q e.
    let text = c.args.text.now in
    let i = c.in-Some.space in
    let found : position (λ b. b == 32) text ≡ Some i = sym c.first_space.ensures ∙ c.in-Some.is in
    let same = same_words text i first second found p e in
    elim c.else-is_word.branch [
      | else-is_word-via-then-is_word+else-is_word-2 w ↦
          (let behind = slice_behind text i (space_parts text i found).0 ∙ same.1 in
          let told : false ≡ true = sym w.if-is_word-2.false ∙ w.is_word-then-is_word.ensures ∙ ap is_word behind ∙ q in
          absurd (cc))
      | else-is_word-via-else-is_word w ↦
          (let told : false ≡ true = sym w.if-is_word.false ∙ c.is_word.ensures ∙ ap is_word same.0 ∙ p in absurd (cc))
    ]
