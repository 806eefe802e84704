-- The rows of the table (own).
use Rattle.std.specs.Prelude.{ℕ, suc, Bool, true, false, cond, not, List, length, Option, Some, None, nat_le, ◌==◌}
use Rattle.std.specs.Ordering.{nat_cmp}
use Rattle.std.specs.Cmp.Lexicographic.{slice_cmp}
use Rattle.std.specs.Map.{lookup, remove_entry, set_value}
use Rattle.std.specs.BTreeMap.{insert_entry, is_at}
use Rattle.ws_model.specs.declared.event.Version.{Version}
use Rattle.ws_topic.specs.declared.rows.OwedFetch.{OwedFetch}
use Rattle.ws_topic.specs.ByTopic.{at_topic, without_topic}

-- the kept versions by number, and the number of the latest one of each topic
pub record Kept : Type 0 where
  pub versions : List (ℕ × Version)
  pub latest : List (List ℕ × ℕ)

-- these, and the owed fetches by topic
pub record Rows : Type 0 where
  pub versions : List (ℕ × Version)
  pub latest : List (List ℕ × ℕ)
  pub fetches : List (List ℕ × OwedFetch)

abbrev pub kept_of : Rows → Kept
kept_of rows = record { versions = rows.versions; latest = rows.latest }

-- ---- versions

-- what stands at a number
abbrev pub number_at : {X : Type 0} → ℕ → List (ℕ × X) → Option X
number_at n es = lookup (is_at (nat_cmp n)) es

abbrev pub with_row : {X : Type 0} → ℕ → X → List (ℕ × X) → List (ℕ × X)
with_row n x es = insert_entry nat_cmp es n x

abbrev pub without : {X : Type 0} → ℕ → List (ℕ × X) → List (ℕ × X)
without n es = remove_entry (is_at (nat_cmp n)) es

-- the bytes of its body
abbrev pub size : Version → ℕ
size v = length v.body

abbrev pub size_at : Option Version → ℕ
size_at None = 0
size_at (Some v) = size v

abbrev pub is_number : Option ℕ → ℕ → Bool
is_number None n = false
is_number (Some m) n = m == n

-- it is kept, and not the latest of its topic
abbrev pub may_forget_row : ℕ → List (List ℕ × ℕ) → Option Version → Bool
may_forget_row ver latest None = false
may_forget_row ver latest (Some v) = not (is_number (at_topic v.topic latest) ver)

abbrev pub may_forget : ℕ → Kept → Bool
may_forget ver kept = may_forget_row ver kept.latest (number_at ver kept.versions)

abbrev pub forgotten : ℕ → Kept → Kept
forgotten ver kept = record { versions = cond (may_forget ver kept) (without ver kept.versions) kept.versions; latest = kept.latest }

abbrev pub without_version : ℕ → Rows → Rows
without_version ver rows = record { versions = cond (may_forget ver (kept_of rows)) (without ver rows.versions) rows.versions; latest = rows.latest; fetches = rows.fetches }

-- ---- fetches

-- its ping isn't later than `upto`
abbrev pub is_answered : ℕ → Option OwedFetch → Bool
is_answered upto None = false
is_answered upto (Some f) = nat_le f.serial upto

abbrev pub answered : ℕ → Option OwedFetch → Option OwedFetch
answered upto None = None
answered upto (Some f) = cond (nat_le f.serial upto) None (Some f)

abbrev pub after_answer : List ℕ → ℕ → List (List ℕ × OwedFetch) → List (List ℕ × OwedFetch)
after_answer topic upto es = cond (is_answered upto (at_topic topic es)) (without_topic topic es) es

-- the next missed fetch is the third
abbrev pub is_last : Option OwedFetch → Bool
is_last None = false
is_last (Some f) = nat_le 3 (suc f.missed)

abbrev pub missed_once : OwedFetch → OwedFetch
missed_once f = record { topic = f.topic; serial = f.serial; missed = suc f.missed }

abbrev pub missed : Option OwedFetch → Option OwedFetch
missed None = None
missed (Some f) = cond (nat_le 3 (suc f.missed)) None (Some (missed_once f))

abbrev pub missed_row : List ℕ → List (List ℕ × OwedFetch) → Option OwedFetch → List (List ℕ × OwedFetch)
missed_row topic es None = es
missed_row topic es (Some f) = cond (nat_le 3 (suc f.missed)) (without_topic topic es) (set_value (is_at (slice_cmp nat_cmp topic)) es (missed_once f))

abbrev pub after_miss : List ℕ → List (List ℕ × OwedFetch) → List (List ℕ × OwedFetch)
after_miss topic es = missed_row topic es (at_topic topic es)
