-- What the rows answer is what the definitions say of the history that they stand for.
use Rattle.std.proofs.Common.{◌≡◌, ℕ, ◌+◌, Bool, true, false, cond, not, List, [], ◌∷◌, ◌++◌, length, refl, ap, sym, ◌∙◌, arith}
use Rattle.std.specs.Prelude.{Option, Some, None, find, filter, map, option_map, ◌==◌}
use Rattle.std.specs.List.{sum_by}
use Rattle.std.specs.Map.{keys_of, values_of}
use Rattle.std.proofs.lemmas.List.Sums.{sum_by-cons}
use Rattle.ws_model.specs.declared.event.Event.{Event}
use Rattle.ws_model.specs.declared.event.Intent.{Intent}
use Rattle.ws_model.specs.declared.work.Work.{Work}
use Rattle.ws_model.specs.declared.work.Work.TheVariants.{Verify, Notice}
use Rattle.ws_model.specs.Due.{by_number, due_notices, due_verifications, in_order, is_out}
use Rattle.ws_model.specs.Intents.{asked, is_first, is_owed_notice, is_pending, notices, pending}
use Rattle.ws_model.specs.Leases.{is_on}
use Rattle.ws_model.specs.Legal.{Legal, is_first_one, pending_of}
use Rattle.ws_model.specs.View.{OwedNotice, Waiting as PendingView, owed_notice, waiting}
use Rattle.ws_laws.proofs.ListLaws.{all_from, filter_same, find-map, map-map}
use Rattle.ws_laws.proofs.Notices.{IsDescending, asked_descending}
use Rattle.ws_intent.specs.declared.rows.Denial.{Denial}
use Rattle.ws_intent.specs.declared.rows.Waiting.{Waiting}
use Rattle.ws_intent.specs.Indexed.{IsKeyed}
use Rattle.ws_intent.specs.Rows.{Rows, first_numbers, is_first_among, is_first_number, is_first_row, next_of, number_at, weight}
use Rattle.ws_intent.specs.Stands.{StandsFor, as_notice, as_pending}
use Rattle.ws_intent.proofs.Ordered.{descending_filter, number, same_count, same_first, same_keys, same_length, same_numbers}

abbrev waiting_intent : Waiting → Intent
waiting_intent w = w.intent

abbrev denied_intent : Denial → Intent
denied_intent d = d.intent

module _ (rows : Rows) (h : List Event) (s : StandsFor rows h) where
  pending_same : (q : ℕ) → option_map waiting_intent (number_at q rows.pending) ≡ find (λ i. i.n == q) (pending h)
  pending_same q = in_view (number_at q rows.pending) ∙ ap (option_map (λ (v : PendingView). v.intent)) (s.pending_at q ∙ find-map (waiting h) (λ w. w.intent.n == q) (pending h)) ∙ in_history (find (λ i. i.n == q) (pending h))
    where
      in_view : (o : Option Waiting) → option_map waiting_intent o ≡ option_map (λ (v : PendingView). v.intent) (option_map as_pending o)
      in_view None = refl
      in_view (Some w) = refl

      in_history : (o : Option Intent) → option_map (λ (v : PendingView). v.intent) (option_map (waiting h) o) ≡ o
      in_history None = refl
      in_history (Some i) = refl

  notice_same : (q : ℕ) → option_map denied_intent (number_at q rows.notices) ≡ find (λ i. i.n == q) (notices h)
  notice_same q = in_view (number_at q rows.notices) ∙ ap (option_map (λ (v : OwedNotice). v.intent)) (s.notice_at q ∙ find-map (owed_notice h) (λ w. w.intent.n == q) (notices h)) ∙ in_history (find (λ i. i.n == q) (notices h))
    where
      in_view : (o : Option Denial) → option_map denied_intent o ≡ option_map (λ (v : OwedNotice). v.intent) (option_map as_notice o)
      in_view None = refl
      in_view (Some w) = refl

      in_history : (o : Option Intent) → option_map (λ (v : OwedNotice). v.intent) (option_map (owed_notice h) o) ≡ o
      in_history None = refl
      in_history (Some i) = refl

  module _ (l : Legal h) where
    pending_down : IsDescending (pending h)
    pending_down = descending_filter (is_pending h) (asked h) (asked_descending h l)

    notices_down : IsDescending (notices h)
    notices_down = descending_filter (is_owed_notice h) (asked h) (asked_descending h l)

    module _ (keyed : IsKeyed waiting_intent rows.pending) where
      pub pending_count : length rows.pending ≡ length (pending h)
      pending_count = same_length waiting_intent rows.pending (pending h) keyed pending_down pending_same

      weights : (es : List (ℕ × Waiting)) → sum_by weight (values_of es) ≡ length (filter (λ e. is_on e.1.intent.mode) es)
      weights [] = refl
      weights (e ∷ es) = sum_by-cons weight e.1 (values_of es) ∙ by (is_on e.1.intent.mode) (weights es)
        where
          by : (b : Bool) → sum_by weight (values_of es) ≡ length (filter (λ e. is_on e.1.intent.mode) es) → cond b 1 0 + sum_by weight (values_of es) ≡ length (cond b (e ∷ filter (λ e. is_on e.1.intent.mode) es) (filter (λ e. is_on e.1.intent.mode) es))
          by true r = omega arith
          by false r = omega arith

      pub subscription_count : sum_by weight (values_of rows.pending) ≡ length (filter (λ i. is_on i.mode) (pending h))
      subscription_count = weights rows.pending ∙ same_count waiting_intent rows.pending (pending h) keyed pending_down pending_same (λ i. is_on i.mode)

      first_same : (i : Intent) → is_first_among rows.pending i ≡ is_first h i
      first_same i = same_first waiting_intent rows.pending (pending h) keyed pending_down pending_same i

      pub first_is_first : (n : ℕ) → is_first_number n rows.pending ≡ is_first_one h (pending_of h n)
      first_is_first n = by (number_at n rows.pending) ∙ ap (is_first_one h) (pending_same n)
        where
          by : (o : Option Waiting) → is_first_row rows.pending o ≡ is_first_one h (option_map waiting_intent o)
          by None = refl
          by (Some w) = first_same w.intent

      verify_numbers : first_numbers rows.pending ≡ map number (in_order by_number (filter (is_first h) (pending h)))
      verify_numbers =
          ap keys_of (filter_same (λ e. is_first_among rows.pending e.1.intent) (λ e. is_first h e.1.intent) rows.pending (all_from (λ (e : ℕ × Waiting). is_first_among rows.pending e.1.intent ≡ is_first h e.1.intent) (λ e. first_same e.1.intent) rows.pending))
          ∙ same_numbers waiting_intent rows.pending (pending h) keyed pending_down pending_same (is_first h)

      pub verifications : map (λ n. Verify n) (first_numbers rows.pending) ≡ due_verifications h
      verifications = ap (map (λ n. Verify n)) verify_numbers ∙ map-map number (λ n. Verify n) (in_order by_number (filter (is_first h) (pending h)))

    module _ (keyed : IsKeyed denied_intent rows.notices) where
      pub notice_count : length rows.notices ≡ length (notices h)
      notice_count = same_length denied_intent rows.notices (notices h) keyed notices_down notice_same

      pub owed_notices : map (λ n. Notice n) (keys_of rows.notices) ≡ due_notices h
      owed_notices = ap (map (λ n. Notice n)) (same_keys denied_intent rows.notices (notices h) keyed notices_down notice_same) ∙ map-map number (λ n. Notice n) (in_order by_number (notices h))

    pub next_is_due : (out : List Work) → IsKeyed waiting_intent rows.pending → IsKeyed denied_intent rows.notices → next_of out rows ≡ find (λ w. not (is_out out w)) (due_verifications h ++ due_notices h)
    next_is_due out k m = ap (λ ws. find (λ w. not (is_out out w)) (ws ++ map (λ n. Notice n) (keys_of rows.notices))) (verifications k) ∙ ap (λ ws. find (λ w. not (is_out out w)) (due_verifications h ++ ws)) (owed_notices m)

-- ---- the first of two lists

abbrev or_later : {X : Type 0} → Option X → Option X → Option X
or_later None o = o
or_later (Some x) o = Some x

find_append : {X : Type 0} (p : X → Bool) (xs ys : List X) (o : Option X) → find p xs ≡ o → find p (xs ++ ys) ≡ or_later o (find p ys)
find_append {X = X} p [] ys o e = ap (λ x. or_later x (find p ys)) e
find_append {X = X} p (x ∷ xs) ys o e = by (p x) e (find_append p xs ys)
  where
    by : (b : Bool) → cond b (Some x) (find p xs) ≡ o → ((o : Option X) → find p xs ≡ o → find p (xs ++ ys) ≡ or_later o (find p ys)) → cond b (Some x) (find p (xs ++ ys)) ≡ or_later o (find p ys)
    by true k r = ap (λ x. or_later x (find p ys)) k
    by false k r = r o k

pub next_first : (out : List Work) (rows : Rows) (n : ℕ) → Some n ≡ find (λ n. not (is_out out (Verify n))) (first_numbers rows.pending) → Some (Verify n) ≡ next_of out rows
next_first out rows n e =
    sym (find_append (λ w. not (is_out out w)) (map (λ n. Verify n) (first_numbers rows.pending)) (map (λ n. Notice n) (keys_of rows.notices)) (Some (Verify n))
    (find-map (λ n. Verify n) (λ w. not (is_out out w)) (first_numbers rows.pending) ∙ ap (option_map (λ n. Verify n)) (sym e)))

pub next_second : (out : List Work) (rows : Rows) (o : Option ℕ) → find (λ n. not (is_out out (Verify n))) (first_numbers rows.pending) ≡ None → o ≡ find (λ n. not (is_out out (Notice n))) (keys_of rows.notices) → option_map (λ n. Notice n) o ≡ next_of out rows
next_second out rows o e k =
    ap (option_map (λ n. Notice n)) k ∙ sym (find-map (λ n. Notice n) (λ w. not (is_out out w)) (keys_of rows.notices))
    ∙ sym (find_append (λ w. not (is_out out w)) (map (λ n. Verify n) (first_numbers rows.pending)) (map (λ n. Notice n) (keys_of rows.notices)) None
    (find-map (λ n. Verify n) (λ w. not (is_out out w)) (first_numbers rows.pending) ∙ ap (option_map (λ n. Verify n)) e))
