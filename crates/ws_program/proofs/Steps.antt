-- What two words make of what is set.
use Rattle.std.proofs.Common.{◌≡◌, ℕ, ◌+◌, ◌-◌, ◌<◌, ◌≤◌, List, [], ◌∷◌, length, take, drop, get_or, Ok, sym, ap, ◌∙◌, arith, take_all}
use Rattle.ws_program.specs.declared.draft.Draft.{Draft}
use Rattle.ws_program.specs.Drafts.{setting_of}
use Rattle.ws_program.specs.Words.{next_setting, with_setting, and_then, draft_words}

pub two_in_front : {X : Type 0} (xs : List X) (x y : X) → 2 ≤ length xs → x ≡ get_or xs 0 x → y ≡ get_or xs 1 y → xs ≡ x ∷ y ∷ take (length xs - 2) (drop 2 xs)
two_in_front [] x y long p q = absurd (omega arith)
two_in_front (a ∷ []) x y long p q = absurd (omega arith)
two_in_front (a ∷ b ∷ xs) x y long p q =
    let rest : take (length (a ∷ b ∷ xs) - 2) xs ≡ xs = take_all (length (a ∷ b ∷ xs) - 2) xs (omega arith) in
    λ i. sym p i ∷ sym q i ∷ sym rest i

-- two words that set something, and the words behind them
pub goes_on : (place : ℕ) (draft next : Draft) (word value : List ℕ) (words all : List (List ℕ)) → all ≡ word ∷ value ∷ words → with_setting place draft (next_setting draft (setting_of word)) value ≡ Ok next → draft_words (place + 2) next words ≡ draft_words place draft all
goes_on place draft next word value words all same set =
    sym (ap (draft_words place draft) same ∙ ap (λ r. and_then r (λ more. draft_words (place + 2) more words)) set)
