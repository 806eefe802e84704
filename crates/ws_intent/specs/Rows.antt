-- The rows of the table: numbers with what stands there, the numbers rising (own).
use Rattle.std.specs.Prelude.{ℕ, suc, Bool, true, false, cond, not, ◌&&◌, ◌++◌, List, Option, Some, None, map, filter, find, option_map, nat_lt, nat_le}
use Rattle.std.specs.List.{list_any}
use Rattle.std.specs.Ordering.{nat_cmp}
use Rattle.std.specs.Map.{lookup, remove_entry, set_value, keys_of}
use Rattle.std.specs.BTreeMap.{is_at, insert_entry}
use Rattle.ws_model.specs.declared.event.Intent.{Intent}
use Rattle.ws_model.specs.declared.event.Mode.{Mode}
use Rattle.ws_model.specs.declared.work.Work.{Work}
use Rattle.ws_model.specs.declared.work.Work.TheVariants.{Verify, Notice}
use Rattle.ws_model.specs.Intents.{same_pair}
use Rattle.ws_model.specs.Leases.{is_on}
use Rattle.ws_model.specs.Due.{is_out}
use Rattle.ws_intent.specs.declared.kinds.Due.{Due}
use Rattle.ws_intent.specs.declared.kinds.Due.TheVariants.{Verify as DueVerify, Notice as DueNotice}
use Rattle.ws_intent.specs.declared.kinds.Settle.{Settle}
use Rattle.ws_intent.specs.declared.kinds.Settle.TheVariants.{Confirmed, Declined, Unheard, Noticed}
use Rattle.ws_intent.specs.declared.rows.Waiting.{Waiting}
use Rattle.ws_intent.specs.declared.rows.Denial.{Denial}

-- the pending intents, and the owed notices
pub record Rows : Type 0 where
  pub pending : List (ℕ × Waiting)
  pub notices : List (ℕ × Denial)

-- what stands at a number
abbrev pub number_at : {X : Type 0} → ℕ → List (ℕ × X) → Option X
number_at n es = lookup (is_at (nat_cmp n)) es

abbrev pub with_row : {X : Type 0} → ℕ → X → List (ℕ × X) → List (ℕ × X)
with_row n x es = insert_entry nat_cmp es n x

abbrev pub without : {X : Type 0} → ℕ → List (ℕ × X) → List (ℕ × X)
without n es = remove_entry (is_at (nat_cmp n)) es

-- ---- counts

abbrev pub mode_weight : Mode → ℕ
mode_weight m = cond (is_on m) 1 0

-- 1 for a subscription, and 0 for its end
abbrev pub weight : Waiting → ℕ
weight w = mode_weight w.intent.mode

-- ---- the first of a topic and a callback

-- no row of the same topic and callback has a lower number
abbrev pub is_first_among : List (ℕ × Waiting) → Intent → Bool
is_first_among es i = not (list_any (λ e. nat_lt e.0 i.n && same_pair i e.1.intent) es)

abbrev pub is_first_row : List (ℕ × Waiting) → Option Waiting → Bool
is_first_row es None = false
is_first_row es (Some w) = is_first_among es w.intent

abbrev pub is_first_number : ℕ → List (ℕ × Waiting) → Bool
is_first_number n es = is_first_row es (number_at n es)

abbrev pub first_numbers : List (ℕ × Waiting) → List ℕ
first_numbers es = keys_of (filter (λ e. is_first_among es e.1.intent) es)

-- ---- an exchange without a reply

-- it is the third
abbrev pub is_last : Option Waiting → Bool
is_last None = false
is_last (Some w) = nat_le 3 (suc w.unheard)

abbrev pub unheard_once : Waiting → Waiting
unheard_once w = record { intent = w.intent; unheard = suc w.unheard }

abbrev pub missed : Option Waiting → Option Waiting
missed None = None
missed (Some w) = cond (nat_le 3 (suc w.unheard)) None (Some (unheard_once w))

abbrev pub missed_row : ℕ → List (ℕ × Waiting) → Option Waiting → List (ℕ × Waiting)
missed_row n es None = es
missed_row n es (Some w) = cond (nat_le 3 (suc w.unheard)) (without n es) (set_value (is_at (nat_cmp n)) es (unheard_once w))

abbrev pub after_miss : ℕ → List (ℕ × Waiting) → List (ℕ × Waiting)
after_miss n es = missed_row n es (number_at n es)

abbrev pub intent_of : Option Waiting → Option Intent
intent_of o = option_map (λ w. w.intent) o

-- ---- notices

abbrev pub denied_intent : Option Denial → Option Intent
denied_intent o = option_map (λ d. d.intent) o

-- the notice that a barred row leaves
abbrev pub denied_by : List ℕ → Option Waiting → Option Denial → Option Denial
denied_by reason None o = o
denied_by reason (Some w) o = Some (record { intent = w.intent; reason = reason; unheard = 0 })

abbrev pub denied_rows : ℕ → List ℕ → Option Waiting → List (ℕ × Denial) → List (ℕ × Denial)
denied_rows n reason None es = es
denied_rows n reason (Some w) es = with_row n (record { intent = w.intent; reason = reason; unheard = 0 }) es

abbrev pub is_last_notice : Option Denial → Bool
is_last_notice None = false
is_last_notice (Some d) = nat_le 3 (suc d.unheard)

abbrev pub notice_unheard_once : Denial → Denial
notice_unheard_once d = record { intent = d.intent; reason = d.reason; unheard = suc d.unheard }

abbrev pub missed_notice : Option Denial → Option Denial
missed_notice None = None
missed_notice (Some d) = cond (nat_le 3 (suc d.unheard)) None (Some (notice_unheard_once d))

abbrev pub missed_notice_row : ℕ → List (ℕ × Denial) → Option Denial → List (ℕ × Denial)
missed_notice_row n es None = es
missed_notice_row n es (Some d) = cond (nat_le 3 (suc d.unheard)) (without n es) (set_value (is_at (nat_cmp n)) es (notice_unheard_once d))

abbrev pub after_notice_miss : ℕ → List (ℕ × Denial) → List (ℕ × Denial)
after_notice_miss n es = missed_notice_row n es (number_at n es)

-- ---- the whole table

-- the rows after an exchange of the number
abbrev pub settled : ℕ → Settle → Rows → Rows
settled n Confirmed rows = record { pending = without n rows.pending; notices = rows.notices }
settled n Declined rows = record { pending = without n rows.pending; notices = rows.notices }
settled n Unheard rows = record { pending = after_miss n rows.pending; notices = rows.notices }
settled n (Noticed true) rows = record { pending = rows.pending; notices = without n rows.notices }
settled n (Noticed false) rows = record { pending = rows.pending; notices = after_notice_miss n rows.notices }

-- the intent that leaves by it
abbrev pub left_by : ℕ → Settle → Rows → Option Intent
left_by n Confirmed rows = intent_of (number_at n rows.pending)
left_by n Declined rows = intent_of (number_at n rows.pending)
left_by n Unheard rows = cond (is_last (number_at n rows.pending)) (intent_of (number_at n rows.pending)) None
left_by n (Noticed true) rows = denied_intent (number_at n rows.notices)
left_by n (Noticed false) rows = cond (is_last_notice (number_at n rows.notices)) (denied_intent (number_at n rows.notices)) None

abbrev pub work_of : Due → Work
work_of (DueVerify n) = Verify n
work_of (DueNotice n) = Notice n

-- the first verification or notice that isn't out
abbrev pub next_of : List Work → Rows → Option Work
next_of out rows = find (λ w. not (is_out out w)) (map (λ n. Verify n) (first_numbers rows.pending) ++ map (λ n. Notice n) (keys_of rows.notices))
