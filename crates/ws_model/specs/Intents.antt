-- Pending intents and owed denial notices (WebSub sections 5.1 to 5.3; that three exchanges without
-- a reply give up is own).
use Rattle.std.specs.Prelude.{ℕ, Bool, true, false, cond, not, ◌&&◌, List, [], ◌∷◌, ◌++◌, nat_lt, ◌==◌, bytes_eq, filter}
use Rattle.std.specs.List.{list_any}
use Rattle.ws_model.specs.declared.event.Event.{Event}
use Rattle.ws_model.specs.declared.event.What.{What}
use Rattle.ws_model.specs.declared.event.What.TheVariants.{Asked, Confirmed, Declined, Unheard, Barred, Noticed, Revoked}
use Rattle.ws_model.specs.declared.event.Intent.{Intent}
use Rattle.ws_model.specs.History.{has, times}

abbrev pub intents_of : What → List Intent
intents_of (Asked i) = i ∷ []
intents_of _ = []

-- the intents that were asked for, the newest first
abbrev pub asked : List Event → List Intent
asked [] = []
asked (e ∷ h) = intents_of e.what ++ asked h

-- Confirmed, Declined or Barred
abbrev pub is_settled : ℕ → What → Bool
is_settled n (Confirmed m sent) = m == n
is_settled n (Declined m code) = m == n
is_settled n (Barred m reason) = m == n
is_settled n _ = false

abbrev pub is_unheard : ℕ → What → Bool
is_unheard n (Unheard m) = m == n
is_unheard n _ = false

-- the intent of this number isn't settled, and fewer than three verifications of it had no reply
abbrev pub is_pending_number : List Event → ℕ → Bool
is_pending_number h n = not (has (is_settled n) h) && nat_lt (times (is_unheard n) h) 3

abbrev pub is_pending : List Event → Intent → Bool
is_pending h i = is_pending_number h i.n

-- the pending intents, the newest first
abbrev pub pending : List Event → List Intent
pending h = filter (is_pending h) (asked h)

-- Barred or Revoked: the callback is owed a notice
abbrev pub is_denied : ℕ → What → Bool
is_denied n (Barred m reason) = m == n
is_denied n (Revoked m reason) = m == n
is_denied n _ = false

abbrev pub is_noticed : ℕ → Bool → What → Bool
is_noticed n b (Noticed m heard) = (m == n) && cond b heard (not heard)
is_noticed n b _ = false

-- the notice of this number is owed: it wasn't heard, and fewer than three were sent without a reply
abbrev pub is_owed_notice_number : List Event → ℕ → Bool
is_owed_notice_number h n = has (is_denied n) h && not (has (is_noticed n true) h) && nat_lt (times (is_noticed n false) h) 3

abbrev pub is_owed_notice : List Event → Intent → Bool
is_owed_notice h i = is_owed_notice_number h i.n

-- the intents whose notice is owed, the newest first
abbrev pub notices : List Event → List Intent
notices h = filter (is_owed_notice h) (asked h)

-- of one topic and one callback
abbrev pub same_pair : Intent → Intent → Bool
same_pair i j = bytes_eq i.topic j.topic && bytes_eq i.callback j.callback

-- no pending intent of the same topic and callback has a lower number
abbrev pub is_first : List Event → Intent → Bool
is_first h i = not (list_any (λ j. nat_lt j.n i.n && same_pair i j) (pending h))
