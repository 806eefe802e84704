-- For which history the rows of the table stand (own).
use Rattle.std.specs.Prelude.{◌≡◌, ℕ, Bool, true, false, List, ◌∷◌, cond, None, map, find, option_map, ◌==◌}
use Rattle.ws_model.specs.declared.event.Event.{Event}
use Rattle.ws_model.specs.declared.event.What.{What}
use Rattle.ws_model.specs.declared.event.What.TheVariants.{Confirmed, Declined, Unheard, Noticed, Pinged, Fetched, Same, Unfetched, Pushed, Tally}
use Rattle.ws_model.specs.Intents.{pending, notices}
use Rattle.ws_model.specs.View.{Waiting as PendingView, OwedNotice, waiting, owed_notice}
use Rattle.ws_intent.specs.declared.kinds.Settle.{Settle}
use Rattle.ws_intent.specs.declared.kinds.Settle.TheVariants.{Confirmed as IsConfirmed, Declined as IsDeclined, Unheard as IsUnheard, Noticed as IsNoticed}
use Rattle.ws_intent.specs.declared.rows.Waiting.{Waiting}
use Rattle.ws_intent.specs.declared.rows.Denial.{Denial}
use Rattle.ws_intent.specs.Rows.{Rows, missed, missed_notice, number_at}

abbrev pub as_pending : Waiting → PendingView
as_pending w = record { intent = w.intent; unheard = w.unheard }

abbrev pub as_notice : Denial → OwedNotice
as_notice d = record { intent = d.intent; reason = d.reason; unheard = d.unheard }

-- at each number stand the pending intent and the owed notice that the history has there, with their counts
pub record StandsFor (rows : Rows) (h : List Event) : Type 0 where
  pub pending_at : (n : ℕ) → option_map as_pending (number_at n rows.pending) ≡ find (λ w. w.intent.n == n) (map (waiting h) (pending h))
  pub notice_at : (n : ℕ) → option_map as_notice (number_at n rows.notices) ≡ find (λ w. w.intent.n == n) (map (owed_notice h) (notices h))

-- the event by which an intent or a notice is settled so
abbrev pub IsSettling : ℕ → Settle → What → Type 0
IsSettling n IsConfirmed w = (sent : ℕ) × (w ≡ Confirmed n sent)
IsSettling n IsDeclined w = (code : ℕ) × (w ≡ Declined n code)
IsSettling n IsUnheard w = w ≡ Unheard n
IsSettling n (IsNoticed heard) w = w ≡ Noticed n heard

-- what the rows are at each number after an exchange
abbrev pub LooksSettled : ℕ → Settle → Rows → Rows → Type 0
LooksSettled n IsConfirmed old new = ((q : ℕ) → number_at q new.pending ≡ cond (q == n) None (number_at q old.pending)) × (new.notices ≡ old.notices)
LooksSettled n IsDeclined old new = ((q : ℕ) → number_at q new.pending ≡ cond (q == n) None (number_at q old.pending)) × (new.notices ≡ old.notices)
LooksSettled n IsUnheard old new = ((q : ℕ) → number_at q new.pending ≡ cond (q == n) (missed (number_at n old.pending)) (number_at q old.pending)) × (new.notices ≡ old.notices)
LooksSettled n (IsNoticed true) old new = ((q : ℕ) → number_at q new.notices ≡ cond (q == n) None (number_at q old.notices)) × (new.pending ≡ old.pending)
LooksSettled n (IsNoticed false) old new = ((q : ℕ) → number_at q new.notices ≡ cond (q == n) (missed_notice (number_at n old.notices)) (number_at q old.notices)) × (new.pending ≡ old.pending)

-- an event of a kind that changes no pending intent and no notice
abbrev pub is_other : What → Bool
is_other (Pinged topic) = true
is_other (Fetched v) = true
is_other (Same topic upto) = true
is_other (Unfetched topic upto why) = true
is_other (Pushed v n how) = true
is_other (Tally c) = true
is_other _ = false

-- what stands for a history stands for it with such an event too
abbrev pub OthersStand : Type 0
OthersStand = (rows : Rows) (h : List Event) (e : Event) → StandsFor rows h → is_other e.what ≡ true → StandsFor rows (e ∷ h)
