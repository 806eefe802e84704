-- What became of pairs, counted one by one.
use Rattle.std.proofs.Common.{◌≡◌, ℕ, suc, ◌+◌, ◌≤◌, Bool, true, false, cond, not, ◌&&◌, List, [], ◌∷◌, refl, ap, sym, ◌∙◌, length, arith}
use Rattle.std.specs.Prelude.{filter, map, min}
use Rattle.std.proofs.lemmas.List.{length-map}
use Rattle.ws_model.specs.declared.event.Event.{Event}
use Rattle.ws_model.specs.declared.fate.Cause.TheVariants.{Expired, Unsubscribed, Replaced, Gone, Spent, Revoked}
use Rattle.ws_model.specs.Account.{most}
use Rattle.ws_laws.specs.Steps.{more}
use Rattle.ws_laws.proofs.ListLaws.{filter-filter, filter-map}
use Rattle.ws_fate.specs.declared.totals.Standing.{Standing}
use Rattle.ws_fate.specs.declared.totals.Standing.TheVariants.{Open, Answered, Ended}
use Rattle.ws_fate.specs.declared.totals.Totals.{Totals}
use Rattle.ws_fate.specs.Totals.{bump, none, with_one}
use Rattle.ws_kept.specs.Rows.{Rows as KeptRows}
use Rattle.ws_forgotten.specs.Forgotten.{end_of, forgotten_ends, has_both, is_kept_key, is_so, kept_ends, number_so, standing_of, with_ends}
use Rattle.ws_forgotten.proofs.Rows.{Entry}

-- ---- which pairs are counted

module _ {X : Type 0} (q : X → Bool) (f : X → Standing) (x : X) (xs : List X) where
  taken : q x ≡ true → map f (filter q (x ∷ xs)) ≡ f x ∷ map f (filter q xs)
  taken k = ap (λ b. map f (cond b (x ∷ filter q xs) (filter q xs))) k

  left_out : q x ≡ false → map f (filter q (x ∷ xs)) ≡ map f (filter q xs)
  left_out k = ap (λ b. map f (cond b (x ∷ filter q xs) (filter q xs))) k

pub number_picked : {X : Type 0} (q : X → Bool) (f : X → Standing) (how : Standing) (xs : List X) → number_so how (map f (filter q xs)) ≡ length (filter (λ x. is_so how (f x) && q x) xs)
number_picked q f how xs =
    ap length (filter-map f (is_so how) (filter q xs))
    ∙ length-map (filter (λ x. is_so how (f x)) (filter q xs)) f
    ∙ ap length (sym (filter-filter (λ x. is_so how (f x) && q x) q (λ x. is_so how (f x)) (λ x. by (is_so how (f x)) (q x)) xs))
  where
    by : (a b : Bool) → (a && b) ≡ (b && a)
    by true true = refl
    by true false = refl
    by false true = refl
    by false false = refl

-- ---- one more pair

abbrev counts : Totals → (Standing → ℕ) → Totals
counts c n =
    record {
      answered = more c.answered (n Answered);
      expired = more c.expired (n (Ended Expired));
      unsubscribed = more c.unsubscribed (n (Ended Unsubscribed));
      replaced = more c.replaced (n (Ended Replaced));
      gone = more c.gone (n (Ended Gone));
      spent = more c.spent (n (Ended Spent));
      revoked = more c.revoked (n (Ended Revoked));
    }

bump_within : (n k m : ℕ) → min (n + suc k) m ≡ min (min (n + 1) m + k) m
bump_within n k m = omega arith

bump_first : (n k : ℕ) → more n (suc k) ≡ more (bump n) k
bump_first n k = bump_within n k most

abbrev one_more : Standing → (Standing → ℕ) → Standing → ℕ
one_more s n how = cond (is_so how s) (suc (n how)) (n how)

bumped : (c : Totals) (s : Standing) (n : Standing → ℕ) → counts c (one_more s n) ≡ counts (with_one s c) n
bumped c Open n = refl
bumped c Answered n = λ j.
    record { answered = bump_first c.answered (n Answered) j; expired = more c.expired (n (Ended Expired)); unsubscribed = more c.unsubscribed (n (Ended Unsubscribed)); replaced = more c.replaced (n (Ended Replaced)); gone = more c.gone (n (Ended Gone)); spent = more c.spent (n (Ended Spent)); revoked = more c.revoked (n (Ended Revoked)) }
bumped c (Ended Expired) n = λ j.
    record { answered = more c.answered (n Answered); expired = bump_first c.expired (n (Ended Expired)) j; unsubscribed = more c.unsubscribed (n (Ended Unsubscribed)); replaced = more c.replaced (n (Ended Replaced)); gone = more c.gone (n (Ended Gone)); spent = more c.spent (n (Ended Spent)); revoked = more c.revoked (n (Ended Revoked)) }
bumped c (Ended Unsubscribed) n = λ j.
    record { answered = more c.answered (n Answered); expired = more c.expired (n (Ended Expired)); unsubscribed = bump_first c.unsubscribed (n (Ended Unsubscribed)) j; replaced = more c.replaced (n (Ended Replaced)); gone = more c.gone (n (Ended Gone)); spent = more c.spent (n (Ended Spent)); revoked = more c.revoked (n (Ended Revoked)) }
bumped c (Ended Replaced) n = λ j.
    record { answered = more c.answered (n Answered); expired = more c.expired (n (Ended Expired)); unsubscribed = more c.unsubscribed (n (Ended Unsubscribed)); replaced = bump_first c.replaced (n (Ended Replaced)) j; gone = more c.gone (n (Ended Gone)); spent = more c.spent (n (Ended Spent)); revoked = more c.revoked (n (Ended Revoked)) }
bumped c (Ended Gone) n = λ j.
    record { answered = more c.answered (n Answered); expired = more c.expired (n (Ended Expired)); unsubscribed = more c.unsubscribed (n (Ended Unsubscribed)); replaced = more c.replaced (n (Ended Replaced)); gone = bump_first c.gone (n (Ended Gone)) j; spent = more c.spent (n (Ended Spent)); revoked = more c.revoked (n (Ended Revoked)) }
bumped c (Ended Spent) n = λ j.
    record { answered = more c.answered (n Answered); expired = more c.expired (n (Ended Expired)); unsubscribed = more c.unsubscribed (n (Ended Unsubscribed)); replaced = more c.replaced (n (Ended Replaced)); gone = more c.gone (n (Ended Gone)); spent = bump_first c.spent (n (Ended Spent)) j; revoked = more c.revoked (n (Ended Revoked)) }
bumped c (Ended Revoked) n = λ j.
    record { answered = more c.answered (n Answered); expired = more c.expired (n (Ended Expired)); unsubscribed = more c.unsubscribed (n (Ended Unsubscribed)); replaced = more c.replaced (n (Ended Replaced)); gone = more c.gone (n (Ended Gone)); spent = more c.spent (n (Ended Spent)); revoked = bump_first c.revoked (n (Ended Revoked)) j }

one_so : (how s : Standing) (ends : List Standing) → number_so how (s ∷ ends) ≡ one_more s (λ x. number_so x ends) how
one_so how s ends = by (is_so how s)
  where
    by : (b : Bool) → length (cond b (s ∷ filter (is_so how) ends) (filter (is_so how) ends)) ≡ cond b (suc (number_so how ends)) (number_so how ends)
    by true = refl
    by false = refl

one_counted : (c : Totals) (s : Standing) (ends : List Standing) → with_ends c (s ∷ ends) ≡ with_ends (with_one s c) ends
one_counted c s ends =
    (λ j.
    record {
      answered = more c.answered (one_so Answered s ends j);
      expired = more c.expired (one_so (Ended Expired) s ends j);
      unsubscribed = more c.unsubscribed (one_so (Ended Unsubscribed) s ends j);
      replaced = more c.replaced (one_so (Ended Replaced) s ends j);
      gone = more c.gone (one_so (Ended Gone) s ends j);
      spent = more c.spent (one_so (Ended Spent) s ends j);
      revoked = more c.revoked (one_so (Ended Revoked) s ends j);
    })
    ∙ bumped c s (λ x. number_so x ends)

-- ---- pairs that aren't kept

pub kept_skipped : (c : Totals) (kept : KeptRows) (e : Entry) (es : List Entry) → is_kept_key kept e.0 ≡ true → with_ends c (forgotten_ends kept (e ∷ es)) ≡ with_ends c (forgotten_ends kept es)
kept_skipped c kept e es k = ap (with_ends c) (left_out (λ d. not (is_kept_key kept d.0)) (λ d. end_of d.1) e es (ap not k))

pub forgotten_counted : (c : Totals) (kept : KeptRows) (e : Entry) (es : List Entry) → is_kept_key kept e.0 ≡ false → with_ends c (forgotten_ends kept (e ∷ es)) ≡ with_ends (with_one (end_of e.1) c) (forgotten_ends kept es)
forgotten_counted c kept e es k =
    ap (with_ends c) (taken (λ d. not (is_kept_key kept d.0)) (λ d. end_of d.1) e es (ap not k)) ∙ one_counted c (end_of e.1) (forgotten_ends kept es)

-- ---- kept pairs

module _ (h : List Event) (t : ℕ) (c : Totals) (kept : KeptRows) (p : ℕ × ℕ) (ps : List (ℕ × ℕ)) where
  pub kept_counted : has_both kept p ≡ true → with_ends c (kept_ends h t kept (p ∷ ps)) ≡ with_ends (with_one (standing_of h t p.0 p.1) c) (kept_ends h t kept ps)
  kept_counted k =
      ap (with_ends c) (taken (has_both kept) (λ q. standing_of h t q.0 q.1) p ps k) ∙ one_counted c (standing_of h t p.0 p.1) (kept_ends h t kept ps)

  pub forgotten_skipped : has_both kept p ≡ false → with_ends c (kept_ends h t kept (p ∷ ps)) ≡ with_ends c (kept_ends h t kept ps)
  forgotten_skipped k = ap (with_ends c) (left_out (has_both kept) (λ q. standing_of h t q.0 q.1) p ps k)

-- ---- numbers that a count can say

pub record AreWithin (c : Totals) : Type 0 where
  pub answered : c.answered ≤ most
  pub expired : c.expired ≤ most
  pub unsubscribed : c.unsubscribed ≤ most
  pub replaced : c.replaced ≤ most
  pub gone : c.gone ≤ most
  pub spent : c.spent ≤ most
  pub revoked : c.revoked ≤ most

no_less : (m : ℕ) → 0 ≤ m
no_less m = omega arith

pub none_within : AreWithin none
none_within = record { answered = no_less most; expired = no_less most; unsubscribed = no_less most; replaced = no_less most; gone = no_less most; spent = no_less most; revoked = no_less most }

at_most : (n m : ℕ) → min (n + 1) m ≤ m
at_most n m = omega arith

pub one_within : (c : Totals) (s : Standing) → AreWithin c → AreWithin (with_one s c)
one_within c Open w = w
one_within c Answered w = record { answered = at_most c.answered most; expired = w.expired; unsubscribed = w.unsubscribed; replaced = w.replaced; gone = w.gone; spent = w.spent; revoked = w.revoked }
one_within c (Ended Expired) w = record { answered = w.answered; expired = at_most c.expired most; unsubscribed = w.unsubscribed; replaced = w.replaced; gone = w.gone; spent = w.spent; revoked = w.revoked }
one_within c (Ended Unsubscribed) w = record { answered = w.answered; expired = w.expired; unsubscribed = at_most c.unsubscribed most; replaced = w.replaced; gone = w.gone; spent = w.spent; revoked = w.revoked }
one_within c (Ended Replaced) w = record { answered = w.answered; expired = w.expired; unsubscribed = w.unsubscribed; replaced = at_most c.replaced most; gone = w.gone; spent = w.spent; revoked = w.revoked }
one_within c (Ended Gone) w = record { answered = w.answered; expired = w.expired; unsubscribed = w.unsubscribed; replaced = w.replaced; gone = at_most c.gone most; spent = w.spent; revoked = w.revoked }
one_within c (Ended Spent) w = record { answered = w.answered; expired = w.expired; unsubscribed = w.unsubscribed; replaced = w.replaced; gone = w.gone; spent = at_most c.spent most; revoked = w.revoked }
one_within c (Ended Revoked) w = record { answered = w.answered; expired = w.expired; unsubscribed = w.unsubscribed; replaced = w.replaced; gone = w.gone; spent = w.spent; revoked = at_most c.revoked most }

same_within : (n m : ℕ) → n ≤ m → min (n + 0) m ≡ n
same_within n m le = omega arith

-- nothing more is counted
pub none_left : (c : Totals) → AreWithin c → with_ends c [] ≡ c
none_left c w = λ j.
    record { answered = same_within c.answered most w.answered j; expired = same_within c.expired most w.expired j; unsubscribed = same_within c.unsubscribed most w.unsubscribed j; replaced = same_within c.replaced most w.replaced j; gone = same_within c.gone most w.gone j; spent = same_within c.spent most w.spent j; revoked = same_within c.revoked most w.revoked j }
