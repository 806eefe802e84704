-- What stands at a number in the history, after one more event.
use Rattle.std.proofs.Common.{◌≡◌, ℕ, suc, ◌≤◌, ◌<◌, Bool, true, false, cond, not, ◌&&◌, ◌||◌, List, ◌∷◌, refl, ap, sym, ◌∙◌, subst, arith}
use Rattle.std.specs.Prelude.{Option, Some, None, find, map, option_map, nat_lt, nat_le, ◌==◌}
use Rattle.std.proofs.lemmas.Bool.Decides.{nat_tests}
use Rattle.std.proofs.lemmas.Bool.{eqb-true, false≢true, false_from_ne_true}
use Rattle.ws_model.specs.declared.event.Event.{Event}
use Rattle.ws_model.specs.declared.event.Intent.{Intent}
use Rattle.ws_model.specs.declared.event.What.{What}
use Rattle.ws_model.specs.declared.event.What.TheVariants.{Asked, Confirmed, Declined, Unheard, Barred, Noticed, Revoked, Pinged, Fetched, Same, Unfetched, Pushed, Tally}
use Rattle.ws_model.specs.History.{has, times}
use Rattle.ws_model.specs.Intents.{asked, is_denied, is_noticed, is_owed_notice, is_owed_notice_number, is_pending_number, is_settled, is_unheard, notices, pending}
use Rattle.ws_model.specs.Legal.{Legal}
use Rattle.ws_model.specs.Moment.{last_intent}
use Rattle.ws_model.specs.View.{OwedNotice, Waiting as PendingView, owed_notice, reason_of, waiting}
use Rattle.ws_laws.proofs.Denied.{new_undenied}
use Rattle.ws_laws.proofs.Known.{about_le, is_about}
use Rattle.ws_laws.proofs.ListLaws.{all_find, all_from, find-filter, find-map}
use Rattle.ws_laws.proofs.Step.{find_pending, has_less, times_none}
use Rattle.ws_intent.specs.declared.rows.Denial.{Denial}
use Rattle.ws_intent.specs.declared.rows.Waiting.{Waiting}
use Rattle.ws_intent.specs.Rows.{Rows, missed, missed_notice, number_at}
use Rattle.ws_intent.specs.Stands.{OthersStand, StandsFor, as_notice, as_pending, is_other}

abbrev pub seen : Intent → ℕ → PendingView
seen i t = record { intent = i; unheard = t }

abbrev pub owed : Intent → List ℕ → ℕ → OwedNotice
owed i reason t = record { intent = i; reason = reason; unheard = t }

abbrev pub asked_with : List Event → ℕ → Option Intent
asked_with h n = find (λ i. i.n == n) (asked h)

abbrev pub pending_row : List Event → ℕ → Option PendingView
pending_row h n = cond (is_pending_number h n) (option_map (waiting h) (asked_with h n)) None

abbrev pub notice_row : List Event → ℕ → Option OwedNotice
notice_row h n = cond (is_owed_notice_number h n) (option_map (owed_notice h) (asked_with h n)) None

kept : {X Y : Type 0} (f : X → Y) (b : Bool) (o : Option X) → option_map f (cond b o None) ≡ cond b (option_map f o) None
kept f true o = refl
kept f false o = refl

pub pending_found : (h : List Event) (n : ℕ) → find (λ w. w.intent.n == n) (map (waiting h) (pending h)) ≡ pending_row h n
pending_found h n = find-map (waiting h) (λ w. w.intent.n == n) (pending h) ∙ ap (option_map (waiting h)) (find_pending h n) ∙ kept (waiting h) (is_pending_number h n) (asked_with h n)

pub find_notice : (h : List Event) (n : ℕ) → find (λ i. i.n == n) (notices h) ≡ cond (is_owed_notice_number h n) (asked_with h n) None
find_notice h n = find-filter (λ i. i.n == n) (is_owed_notice h) (is_owed_notice_number h n) (λ i k. ap (is_owed_notice_number h) (eqb-true i.n n k)) (asked h)

pub notice_found : (h : List Event) (n : ℕ) → find (λ w. w.intent.n == n) (map (owed_notice h) (notices h)) ≡ notice_row h n
notice_found h n = find-map (owed_notice h) (λ w. w.intent.n == n) (notices h) ∙ ap (option_map (owed_notice h)) (find_notice h n) ∙ kept (owed_notice h) (is_owed_notice_number h n) (asked_with h n)

-- the number of what is found
pub number_is : (h : List Event) (n : ℕ) (i : Intent) → asked_with h n ≡ Some i → i.n ≡ n
number_is h n i e = eqb-true i.n n (all_find (λ (j : Intent). Unit {0}) (λ j. j.n == n) i (asked h) (all_from (λ (j : Intent). Unit {0}) (λ j. tt) (asked h)) e).1

-- the rows of the table are those of the history
pub record IsAt (rows : Rows) (h : List Event) : Type 0 where
  pub waits : (n : ℕ) → option_map as_pending (number_at n rows.pending) ≡ pending_row h n
  pub owes : (n : ℕ) → option_map as_notice (number_at n rows.notices) ≡ notice_row h n

pub at_rows : (rows : Rows) (h : List Event) → StandsFor rows h → IsAt rows h
at_rows rows h s = record { waits = λ n. s.pending_at n ∙ pending_found h n; owes = λ n. s.notice_at n ∙ notice_found h n }

pub from_rows : (rows : Rows) (h : List Event) → IsAt rows h → StandsFor rows h
from_rows rows h s = record { pending_at = λ n. s.waits n ∙ sym (pending_found h n); notice_at = λ n. s.owes n ∙ sym (notice_found h n) }

abbrev pub event : ℕ → ℕ → What → Event
event s t w = record { serial = s; t = t; what = w }

-- ---- numbers

pub turned : (m n : ℕ) → (m == n) ≡ (n == m)
turned m n = grind (arith, nat_tests)

no_more : (t : ℕ) → nat_lt t 3 ≡ false → nat_lt (suc t) 3 ≡ false
no_more t k = grind (arith, nat_tests)

last_one : (t : ℕ) → nat_lt (suc t) 3 ≡ not (nat_le 3 (suc t))
last_one t = grind (arith, nat_tests)

-- ---- pending intents

abbrev pub missed_view : Option PendingView → Option PendingView
missed_view None = None
missed_view (Some w) = cond (nat_le 3 (suc w.unheard)) None (Some (record { intent = w.intent; unheard = suc w.unheard }))

pub missed_as : (o : Option Waiting) → option_map as_pending (missed o) ≡ missed_view (option_map as_pending o)
missed_as None = refl
missed_as (Some w) = by (nat_le 3 (suc w.unheard))
  where
    by : (b : Bool) → option_map as_pending (cond b None (Some (record { intent = w.intent; unheard = suc w.unheard }))) ≡ cond b None (Some (record { intent = w.intent; unheard = suc w.unheard }))
    by true = refl
    by false = refl

settled_case : {X : Type 0} (b s n : Bool) (x : Option X) → cond (not (b || s) && n) x None ≡ cond b None (cond (not s && n) x None)
settled_case true s n x = refl
settled_case false s n x = refl

pub confirmed_row : (s t m sent : ℕ) (h : List Event) (q : ℕ) → pending_row (event s t (Confirmed m sent) ∷ h) q ≡ cond (m == q) None (pending_row h q)
confirmed_row s t m sent h q = settled_case (m == q) (has (is_settled q) h) (nat_lt (times (is_unheard q) h) 3) (option_map (waiting h) (asked_with h q))

pub declined_row : (s t m code : ℕ) (h : List Event) (q : ℕ) → pending_row (event s t (Declined m code) ∷ h) q ≡ cond (m == q) None (pending_row h q)
declined_row s t m code h q = settled_case (m == q) (has (is_settled q) h) (nat_lt (times (is_unheard q) h) 3) (option_map (waiting h) (asked_with h q))

pub barred_row : (s t m : ℕ) (reason : List ℕ) (h : List Event) (q : ℕ) → pending_row (event s t (Barred m reason) ∷ h) q ≡ cond (m == q) None (pending_row h q)
barred_row s t m reason h q = settled_case (m == q) (has (is_settled q) h) (nat_lt (times (is_unheard q) h) 3) (option_map (waiting h) (asked_with h q))

none_case : (c b d : Bool) → cond b None None ≡ cond c (missed_view (cond d None None)) (cond d None None)
none_case true true true = refl
none_case true true false = refl
none_case true false true = refl
none_case true false false = refl
none_case false true true = refl
none_case false true false = refl
none_case false false true = refl
none_case false false false = refl

module _ (i : Intent) where
  limit : (t : ℕ) (b : Bool) → nat_lt t 3 ≡ b → cond (nat_lt (suc t) 3) (Some (seen i (suc t))) None ≡ missed_view (cond b (Some (seen i t)) None)
  limit t true e = ap (λ b. cond b (Some (seen i (suc t))) None) (last_one t) ∙ flipped (nat_le 3 (suc t))
    where
      flipped : (b : Bool) → cond (not b) (Some (seen i (suc t))) None ≡ cond b None (Some (seen i (suc t)))
      flipped true = refl
      flipped false = refl
  limit t false e = ap (λ b. cond b (Some (seen i (suc t))) None) (no_more t e)

  unheard_case : (c s : Bool) (t : ℕ) → cond (not s && nat_lt (cond c (suc t) t) 3) (Some (seen i (cond c (suc t) t))) None
      ≡ cond c (missed_view (cond (not s && nat_lt t 3) (Some (seen i t)) None)) (cond (not s && nat_lt t 3) (Some (seen i t)) None)
  unheard_case true true t = refl
  unheard_case true false t = limit t (nat_lt t 3) refl
  unheard_case false s t = refl

pub unheard_row : (s t m : ℕ) (h : List Event) (q : ℕ) → pending_row (event s t (Unheard m) ∷ h) q ≡ cond (m == q) (missed_view (pending_row h q)) (pending_row h q)
unheard_row s t m h q = by (asked_with h q) refl
  where
    e : Event
    e = event s t (Unheard m)

    by : (o : Option Intent) → asked_with h q ≡ o → cond (is_pending_number (event s t (Unheard m) ∷ h) q) (option_map (waiting (event s t (Unheard m) ∷ h)) o) None
        ≡ cond (m == q) (missed_view (cond (is_pending_number h q) (option_map (waiting h) o) None)) (cond (is_pending_number h q) (option_map (waiting h) o) None)
    by None k = none_case (m == q) (is_pending_number (event s t (Unheard m) ∷ h) q) (is_pending_number h q)
    by (Some i) k =
        subst (λ n. cond (is_pending_number (event s t (Unheard m) ∷ h) q) (Some (seen i (times (is_unheard n) (event s t (Unheard m) ∷ h)))) None
        ≡ cond (m == q) (missed_view (cond (is_pending_number h q) (Some (seen i (times (is_unheard n) h))) None)) (cond (is_pending_number h q) (Some (seen i (times (is_unheard n) h))) None))
        (sym (number_is h q i k)) (unheard_case i (m == q) (has (is_settled q) h) (times (is_unheard q) h))

-- ---- a new intent

settled_about : (n : ℕ) (w : What) → is_settled n w ≡ true → is_about n w ≡ true
settled_about n (Confirmed m sent) k = k
settled_about n (Declined m code) k = k
settled_about n (Barred m reason) k = k
settled_about n _ k = absurd (false≢true k)

unheard_about : (n : ℕ) (w : What) → is_unheard n w ≡ true → is_about n w ≡ true
unheard_about n (Unheard m) k = k
unheard_about n _ k = absurd (false≢true k)

pub record IsNew (h : List Event) (n : ℕ) : Type 0 where
  pub unsettled : has (is_settled n) h ≡ false
  pub heard : times (is_unheard n) h ≡ 0
  pub undenied : has (is_denied n) h ≡ false

pub new_number : (h : List Event) → Legal h → (n : ℕ) → last_intent h < n → IsNew h n
new_number h l n new =
    record {
      unsettled = has_less (is_settled n) (is_about n) (settled_about n) h silent;
      heard = times_none (is_unheard n) h (has_less (is_unheard n) (is_about n) (unheard_about n) h silent);
      undenied = new_undenied h l n new;
    }
  where
    silent : has (is_about n) h ≡ false
    silent = false_from_ne_true _ (λ k. let a : n ≤ last_intent h = about_le h l n k in absurd (omega arith))

pub asked_row : (s t : ℕ) (i : Intent) (h : List Event) → IsNew h i.n → (q : ℕ) → pending_row (event s t (Asked i) ∷ h) q ≡ cond (i.n == q) (Some (seen i 0)) (pending_row h q)
asked_row s t i h new q = by (i.n == q) refl
  where
    by : (b : Bool) → (i.n == q) ≡ b → cond (is_pending_number h q) (option_map (waiting (event s t (Asked i) ∷ h)) (cond b (Some i) (asked_with h q))) None
        ≡ cond b (Some (seen i 0)) (pending_row h q)
    by true e =
        ap (λ n. cond (is_pending_number h n) (Some (seen i (times (is_unheard i.n) h))) None) (sym (eqb-true i.n q e))
        ∙ ap (λ b. cond (not b && nat_lt (times (is_unheard i.n) h) 3) (Some (seen i (times (is_unheard i.n) h))) None) new.unsettled
        ∙ ap (λ c. cond (nat_lt c 3) (Some (seen i (c))) None) new.heard
    by false e = refl

pub asked_notice : (s t : ℕ) (i : Intent) (h : List Event) → IsNew h i.n → (q : ℕ) → notice_row (event s t (Asked i) ∷ h) q ≡ notice_row h q
asked_notice s t i h new q = by (i.n == q) refl
  where
    none : (i.n == q) ≡ true → is_owed_notice_number h q ≡ false
    none e = ap (λ b. b && not (has (is_noticed q true) h) && nat_lt (times (is_noticed q false) h) 3) (ap (λ n. has (is_denied n) h) (sym (eqb-true i.n q e)) ∙ new.undenied)

    by : (b : Bool) → (i.n == q) ≡ b → cond (is_owed_notice_number h q) (option_map (owed_notice h) (cond b (Some i) (asked_with h q))) None ≡ notice_row h q
    by true e = ap (λ b. cond b (Some (owed_notice h i)) None) (none e) ∙ ap (λ b. cond b (option_map (owed_notice h) (asked_with h q)) None) (sym (none e))
    by false e = refl

-- ---- a notice that becomes owed

abbrev pub denied_view : List ℕ → Option Intent → Option OwedNotice
denied_view reason None = None
denied_view reason (Some i) = Some (owed i reason 0)

pub record IsUntold (h : List Event) (n : ℕ) : Type 0 where
  pub told : has (is_noticed n true) h ≡ false
  pub tried : times (is_noticed n false) h ≡ 0

module _ (m : ℕ) (reason : List ℕ) (h : List Event) (untold : IsUntold h m) (q : ℕ) where
  made : (o : Option Intent) → asked_with h q ≡ o → (m == q) ≡ true
      → option_map (λ i. owed i (cond (m == i.n) reason (reason_of i.n h)) (times (is_noticed i.n false) h)) o ≡ denied_view reason o
  made None k e = refl
  made (Some i) k e =
      subst (λ n. ◌≡◌ {A = Option OwedNotice} (Some (owed i (cond (m == n) reason (reason_of n h)) (times (is_noticed n false) h))) (Some (owed i reason 0)))
      (eqb-true m q e ∙ sym (number_is h q i k))
      (ap (λ b. Some (owed i (cond b reason (reason_of m h)) (times (is_noticed m false) h))) (ap (λ n. m == n) (eqb-true m q e) ∙ e)
      ∙ ap (λ c. Some (owed i reason (c))) untold.tried)

  pub denied_row : (b : Bool) → (m == q) ≡ b
      → cond ((b || has (is_denied q) h) && not (has (is_noticed q true) h) && nat_lt (times (is_noticed q false) h) 3)
      (option_map (λ i. owed i (cond (m == i.n) reason (reason_of i.n h)) (times (is_noticed i.n false) h)) (asked_with h q)) None
      ≡ cond b (denied_view reason (asked_with h m)) (notice_row h q)
  denied_row true e =
      let s : m ≡ q = eqb-true m q e in
      ap (λ n. cond (not (has (is_noticed n true) h) && nat_lt (times (is_noticed n false) h) 3)
      (option_map (λ i. owed i (cond (m == i.n) reason (reason_of i.n h)) (times (is_noticed i.n false) h)) (asked_with h q)) None) (sym s)
      ∙ ap (λ b. cond (not b && nat_lt (times (is_noticed m false) h) 3)
      (option_map (λ i. owed i (cond (m == i.n) reason (reason_of i.n h)) (times (is_noticed i.n false) h)) (asked_with h q)) None) untold.told
      ∙ ap (λ c. cond (nat_lt c 3)
      (option_map (λ i. owed i (cond (m == i.n) reason (reason_of i.n h)) (times (is_noticed i.n false) h)) (asked_with h q)) None) untold.tried
      ∙ made (asked_with h q) refl e
      ∙ ap (λ n. denied_view reason (asked_with h n)) (sym s)
  denied_row false e = ap (λ o. cond (is_owed_notice_number h q) o None) (others (asked_with h q) refl)
    where
      others : (o : Option Intent) → asked_with h q ≡ o → option_map (λ i. owed i (cond (m == i.n) reason (reason_of i.n h)) (times (is_noticed i.n false) h)) o ≡ option_map (owed_notice h) o
      others None k = refl
      others (Some i) k = ap (λ b. Some (owed i (cond b reason (reason_of i.n h)) (times (is_noticed i.n false) h))) (ap (λ n. m == n) (number_is h q i k) ∙ e)

pub barred_notice : (s t m : ℕ) (reason : List ℕ) (h : List Event) → IsUntold h m → (q : ℕ) → notice_row (event s t (Barred m reason) ∷ h) q ≡ cond (m == q) (denied_view reason (asked_with h m)) (notice_row h q)
barred_notice s t m reason h u q = denied_row m reason h u q (m == q) refl

pub revoked_notice : (s t m : ℕ) (reason : List ℕ) (h : List Event) → IsUntold h m → (q : ℕ) → notice_row (event s t (Revoked m reason) ∷ h) q ≡ cond (m == q) (denied_view reason (asked_with h m)) (notice_row h q)
revoked_notice s t m reason h u q = denied_row m reason h u q (m == q) refl

-- ---- a notice that was sent

abbrev pub missed_notice_view : Option OwedNotice → Option OwedNotice
missed_notice_view None = None
missed_notice_view (Some w) = cond (nat_le 3 (suc w.unheard)) None (Some (record { intent = w.intent; reason = w.reason; unheard = suc w.unheard }))

pub missed_notice_as : (o : Option Denial) → option_map as_notice (missed_notice o) ≡ missed_notice_view (option_map as_notice o)
missed_notice_as None = refl
missed_notice_as (Some w) = by (nat_le 3 (suc w.unheard))
  where
    by : (b : Bool) → option_map as_notice (cond b None (Some (record { intent = w.intent; reason = w.reason; unheard = suc w.unheard }))) ≡ cond b None (Some (record { intent = w.intent; reason = w.reason; unheard = suc w.unheard }))
    by true = refl
    by false = refl

heard_case : {X : Type 0} (c d n : Bool) (t : ℕ) (x : Option X) → cond (d && not ((c && true) || n) && nat_lt (cond (c && false) (suc t) t) 3) x None ≡ cond c None (cond (d && not n && nat_lt t 3) x None)
heard_case true true n t x = refl
heard_case true false n t x = refl
heard_case false d n t x = refl

same_count : (b : Bool) (t : ℕ) → cond (b && false) (suc t) t ≡ t
same_count true t = refl
same_count false t = refl

pub heard_notice : (s t m : ℕ) (h : List Event) (q : ℕ) → notice_row (event s t (Noticed m true) ∷ h) q ≡ cond (m == q) None (notice_row h q)
heard_notice s t m h q =
    heard_case (m == q) (has (is_denied q) h) (has (is_noticed q true) h) (times (is_noticed q false) h) (option_map (owed_notice (event s t (Noticed m true) ∷ h)) (asked_with h q))
    ∙ ap (λ o. cond (m == q) None (cond (is_owed_notice_number h q) o None)) (same (asked_with h q))
  where
    same : (o : Option Intent) → option_map (owed_notice (event s t (Noticed m true) ∷ h)) o ≡ option_map (owed_notice h) o
    same None = refl
    same (Some i) = ap (λ c. Some (owed i (reason_of i.n h) (c))) (same_count (m == i.n) (times (is_noticed i.n false) h))

none_told : (c b d : Bool) → cond b None None ≡ cond c (missed_notice_view (cond d None None)) (cond d None None)
none_told true true true = refl
none_told true true false = refl
none_told true false true = refl
none_told true false false = refl
none_told false true true = refl
none_told false true false = refl
none_told false false true = refl
none_told false false false = refl

module _ (i : Intent) (reason : List ℕ) where
  notice_limit : (t : ℕ) (b : Bool) → nat_lt t 3 ≡ b → cond (nat_lt (suc t) 3) (Some (owed i reason (suc t))) None ≡ missed_notice_view (cond b (Some (owed i reason t)) None)
  notice_limit t true e = ap (λ b. cond b (Some (owed i reason (suc t))) None) (last_one t) ∙ flipped (nat_le 3 (suc t))
    where
      flipped : (b : Bool) → cond (not b) (Some (owed i reason (suc t))) None ≡ cond b None (Some (owed i reason (suc t)))
      flipped true = refl
      flipped false = refl
  notice_limit t false e = ap (λ b. cond b (Some (owed i reason (suc t))) None) (no_more t e)

  unanswered_case : (c d n : Bool) (t : ℕ) → cond (d && not ((c && false) || n) && nat_lt (cond (c && true) (suc t) t) 3) (Some (owed i reason (cond (c && true) (suc t) t))) None
      ≡ cond c (missed_notice_view (cond (d && not n && nat_lt t 3) (Some (owed i reason t)) None)) (cond (d && not n && nat_lt t 3) (Some (owed i reason t)) None)
  unanswered_case true false n t = refl
  unanswered_case true true true t = refl
  unanswered_case true true false t = notice_limit t (nat_lt t 3) refl
  unanswered_case false d n t = refl

pub unanswered_notice : (s t m : ℕ) (h : List Event) (q : ℕ) → notice_row (event s t (Noticed m false) ∷ h) q ≡ cond (m == q) (missed_notice_view (notice_row h q)) (notice_row h q)
unanswered_notice s t m h q = by (asked_with h q) refl
  where
    by : (o : Option Intent) → asked_with h q ≡ o → cond (is_owed_notice_number (event s t (Noticed m false) ∷ h) q) (option_map (owed_notice (event s t (Noticed m false) ∷ h)) o) None
        ≡ cond (m == q) (missed_notice_view (cond (is_owed_notice_number h q) (option_map (owed_notice h) o) None)) (cond (is_owed_notice_number h q) (option_map (owed_notice h) o) None)
    by None k = none_told (m == q) (is_owed_notice_number (event s t (Noticed m false) ∷ h) q) (is_owed_notice_number h q)
    by (Some i) k =
        subst (λ n. cond (is_owed_notice_number (event s t (Noticed m false) ∷ h) q) (Some (owed i (reason_of i.n h) (times (is_noticed n false) (event s t (Noticed m false) ∷ h)))) None
        ≡ cond (m == q) (missed_notice_view (cond (is_owed_notice_number h q) (Some (owed i (reason_of i.n h) (times (is_noticed n false) h))) None)) (cond (is_owed_notice_number h q) (Some (owed i (reason_of i.n h) (times (is_noticed n false) h))) None))
        (sym (number_is h q i k)) (unanswered_case i (reason_of i.n h) (m == q) (has (is_denied q) h) (has (is_noticed q true) h) (times (is_noticed q false) h))

-- ---- other events

others_pending : (w : What) (s t : ℕ) (h : List Event) (q : ℕ) → is_other w ≡ true → pending_row (event s t w ∷ h) q ≡ pending_row h q
others_pending (Pinged topic) s t h q k = refl
others_pending (Fetched v) s t h q k = refl
others_pending (Same topic upto) s t h q k = refl
others_pending (Unfetched topic upto why) s t h q k = refl
others_pending (Pushed v n how) s t h q k = refl
others_pending (Tally c) s t h q k = refl
others_pending _ s t h q k = absurd (false≢true k)

others_notice : (w : What) (s t : ℕ) (h : List Event) (q : ℕ) → is_other w ≡ true → notice_row (event s t w ∷ h) q ≡ notice_row h q
others_notice (Pinged topic) s t h q k = refl
others_notice (Fetched v) s t h q k = refl
others_notice (Same topic upto) s t h q k = refl
others_notice (Unfetched topic upto why) s t h q k = refl
others_notice (Pushed v n how) s t h q k = refl
others_notice (Tally c) s t h q k = refl
others_notice _ s t h q k = absurd (false≢true k)

pub others_stand : OthersStand
others_stand rows h e s k =
    let r = at_rows rows h s in
    from_rows rows (e ∷ h) (record { waits = λ q. r.waits q ∙ sym (others_pending e.what e.serial e.t h q k); owes = λ q. r.owes q ∙ sym (others_notice e.what e.serial e.t h q k) })
