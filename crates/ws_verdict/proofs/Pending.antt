-- A pending intent is the one that was asked for under its number.
use Rattle.std.proofs.Common.{◌≡◌, ℕ, Bool, true, false, cond, refl, ap, ◌∙◌, sym}
use Rattle.std.specs.Prelude.{List, None, is_some, ◌==◌}
use Rattle.std.proofs.lemmas.Bool.{eqb-true, false≢true}
use Rattle.ws_model.specs.declared.event.Event.{Event}
use Rattle.ws_model.specs.declared.event.Intent.{Intent}
use Rattle.ws_model.specs.Intents.{asked, is_pending, is_pending_number}
use Rattle.ws_model.specs.Legal.{pending_of}
use Rattle.ws_model.specs.Verdict.{intent_of}
use Rattle.ws_laws.proofs.ListLaws.{find-filter}

pub pending_asked : (h : List Event) (n : ℕ) → is_some (pending_of h n) ≡ true → pending_of h n ≡ intent_of h n
pending_asked h n k = found ∙ by (is_pending_number h n) (sym (ap is_some found) ∙ k)
  where
    found : pending_of h n ≡ cond (is_pending_number h n) (intent_of h n) None
    found = find-filter (λ (i : Intent). i.n == n) (is_pending h) (is_pending_number h n) (λ i m. ap (is_pending_number h) (eqb-true i.n n m)) (asked h)

    by : (b : Bool) → is_some (cond b (intent_of h n) None) ≡ true → cond b (intent_of h n) None ≡ intent_of h n
    by true m = refl
    by false m = absurd (false≢true m)
