-- How many pairs ended so: single steps, and what an event turns.
use Rattle.std.proofs.Common.{◌≡◌, ℕ, zero, suc, ◌+◌, ◌≤◌, Bool, true, false, cond, List, [], ◌∷◌, refl, ap, sym, ◌∙◌, length, arith}
use Rattle.std.specs.Prelude.{min, filter}
use Rattle.std.specs.List.{AllByRecursion}
use Rattle.ws_model.specs.declared.event.Event.{Event}
use Rattle.ws_model.specs.declared.fate.Cause.{Cause}
use Rattle.ws_model.specs.declared.fate.Cause.TheVariants.{Expired, Unsubscribed, Replaced, Gone as LeaseGone, Spent, Revoked as LeaseRevoked}
use Rattle.ws_model.specs.declared.fate.Fate.{Fate}
use Rattle.ws_model.specs.declared.fate.Fate.TheVariants.{Owed, Answered as IsAnswered, Ended as HasEnded}
use Rattle.ws_model.specs.Account.{is_answered, is_ended, most, same_cause}
use Rattle.ws_model.specs.Leases.{confirmed_intent}
use Rattle.ws_model.specs.View.{OwedPush}
use Rattle.ws_laws.specs.Steps.{more, turn}
use Rattle.ws_fate.specs.declared.totals.Standing.{Standing}
use Rattle.ws_fate.specs.declared.totals.Standing.TheVariants.{Open, Answered, Ended}
use Rattle.ws_fate.specs.declared.totals.Totals.{Totals}
use Rattle.ws_fate.specs.Totals.{bump, standing, with_one}
use Rattle.ws_core_tables.proofs.Stepped.{pushes}
use Rattle.ws_ledger.specs.Pairs.{with_many}
use Rattle.ws_ledger.specs.Rows.{Rows}
use Rattle.ws_ledger.specs.Stands.{StandsFor}
use Rattle.ws_ledger.proofs.Going.{ended_after}

-- ---- single steps

-- each count but that of expired ones is one that a count can say
pub record AreWithin (c : Totals) : Type 0 where
  pub answered : c.answered ≤ most
  pub unsubscribed : c.unsubscribed ≤ most
  pub replaced : c.replaced ≤ most
  pub gone : c.gone ≤ most
  pub spent : c.spent ≤ most
  pub revoked : c.revoked ≤ most

least : (a m k : ℕ) → k ≡ min a m → k ≤ m
least a m k e = omega arith

pub within : (h : List Event) (since : ℕ) (rows : Rows) → StandsFor h since rows → AreWithin rows.fates.totals
within h since rows s =
    let t = s.totals since (omega arith) in
    record {
      answered = least _ most _ (ap (λ (c : Totals). c.answered) t);
      unsubscribed = least _ most _ (ap (λ (c : Totals). c.unsubscribed) t);
      replaced = least _ most _ (ap (λ (c : Totals). c.replaced) t);
      gone = least _ most _ (ap (λ (c : Totals). c.gone) t);
      spent = least _ most _ (ap (λ (c : Totals). c.spent) t);
      revoked = least _ most _ (ap (λ (c : Totals). c.revoked) t);
    }

none_more : (n m : ℕ) → n ≤ m → n ≡ min (n + 0) m
none_more n m le = omega arith

one_bump : (n m : ℕ) → min (n + 1) m ≤ m
one_bump n m = omega arith

bump_first : (n k m : ℕ) → min (min (n + 1) m + k) m ≡ min (n + suc k) m
bump_first n k m = omega arith

-- so many single steps are one of so many
many_put : (how : Standing) (put : ℕ → Totals) → ((n : ℕ) → with_one how (put n) ≡ put (bump n)) → (k n : ℕ) → n ≤ most → with_many k how (put n) ≡ put (more n k)
many_put how put f zero n le = ap put (none_more n most le)
many_put how put f (suc k) n le = ap (with_many k how) (f n) ∙ many_put how put f k (bump n) (one_bump n most) ∙ ap put (bump_first n k most)

-- ---- which standing a count is of

abbrev pub is_so : Standing → Standing → Bool
is_so Answered Answered = true
is_so (Ended c) (Ended d) = same_cause c d
is_so _ _ = false

answered_so : (f : Fate) → is_answered f ≡ is_so Answered (standing f)
answered_so IsAnswered = refl
answered_so (Owed m n) = refl
answered_so (HasEnded c) = refl

ended_so : (c : Cause) (f : Fate) → is_ended c f ≡ is_so (Ended c) (standing f)
ended_so c IsAnswered = refl
ended_so c (Owed m n) = refl
ended_so c (HasEnded d) = refl

never_open : (s : Standing) → is_so s Open ≡ false
never_open Open = refl
never_open Answered = refl
never_open (Ended c) = refl

-- how many are turned so, where those that are hit are turned to one standing and the others stay open
turned_so : (s how : Standing) (test : Fate → Bool) → ((f : Fate) → test f ≡ is_so s (standing f)) → (g : OwedPush → Fate) (hit : OwedPush → Bool) (xs : List OwedPush)
    → AllByRecursion (λ x. standing (g x) ≡ cond (hit x) how Open) xs → length (filter (λ x. test (g x)) xs) ≡ cond (is_so s how) (length (filter hit xs)) 0
turned_so s how test same g hit [] a = by (is_so s how)
  where
    by : (b : Bool) → ◌≡◌ {A = ℕ} 0 (cond b 0 0)
    by true = refl
    by false = refl
turned_so s how test same g hit (x ∷ xs) a =
    ap (λ b. length (cond b (x ∷ filter (λ x. test (g x)) xs) (filter (λ x. test (g x)) xs))) (same (g x) ∙ ap (is_so s) a.0)
    ∙ by (hit x) (is_so s how) refl (turned_so s how test same g hit xs a.1)
  where
    by : (b d : Bool) → is_so s how ≡ d → length (filter (λ x. test (g x)) xs) ≡ cond (is_so s how) (length (filter hit xs)) 0
        → length (cond (is_so s (cond b how Open)) (x ∷ filter (λ x. test (g x)) xs) (filter (λ x. test (g x)) xs)) ≡ cond (is_so s how) (length (cond b (x ∷ filter hit xs) (filter hit xs))) 0
    by true true e r = rw (e, r) (rw e refl)
    by true false e r = rw (e, r) (rw e refl)
    by false d e r = ap (λ b. length (cond b (x ∷ filter (λ x. test (g x)) xs) (filter (λ x. test (g x)) xs))) (never_open s) ∙ r

-- ---- what an event counts

-- such a standing ends a pair, and an event can say it
abbrev pub IsEnd : Standing → Type 0
IsEnd Open = ⊥
IsEnd (Ended Expired) = ⊥
IsEnd _ = Unit {0}

abbrev pub counted : Standing → ℕ → Totals → Totals
counted how k c =
    record {
      answered = more c.answered (cond (is_so Answered how) k 0);
      expired = c.expired;
      unsubscribed = more c.unsubscribed (cond (is_so (Ended Unsubscribed) how) k 0);
      replaced = more c.replaced (cond (is_so (Ended Replaced) how) k 0);
      gone = more c.gone (cond (is_so (Ended LeaseGone) how) k 0);
      spent = more c.spent (cond (is_so (Ended Spent) how) k 0);
      revoked = more c.revoked (cond (is_so (Ended LeaseRevoked) how) k 0);
    }

-- so many pairs ended so, in single steps
many_are : (how : Standing) (k : ℕ) (c : Totals) → IsEnd how → AreWithin c → counted how k c ≡ with_many k how c
many_are Open k c e w = absurd e
many_are Answered k c e w =
    (λ j. record { answered = more c.answered k; expired = c.expired; unsubscribed = sym (none_more c.unsubscribed most w.unsubscribed) j; replaced = sym (none_more c.replaced most w.replaced) j; gone = sym (none_more c.gone most w.gone) j; spent = sym (none_more c.spent most w.spent) j; revoked = sym (none_more c.revoked most w.revoked) j })
    ∙ sym (many_put Answered (λ n. record { answered = n; expired = c.expired; unsubscribed = c.unsubscribed; replaced = c.replaced; gone = c.gone; spent = c.spent; revoked = c.revoked }) (λ n. refl) k c.answered w.answered)
many_are (Ended Unsubscribed) k c e w =
    (λ j. record { answered = sym (none_more c.answered most w.answered) j; expired = c.expired; unsubscribed = more c.unsubscribed k; replaced = sym (none_more c.replaced most w.replaced) j; gone = sym (none_more c.gone most w.gone) j; spent = sym (none_more c.spent most w.spent) j; revoked = sym (none_more c.revoked most w.revoked) j })
    ∙ sym (many_put (Ended Unsubscribed) (λ n. record { answered = c.answered; expired = c.expired; unsubscribed = n; replaced = c.replaced; gone = c.gone; spent = c.spent; revoked = c.revoked }) (λ n. refl) k c.unsubscribed w.unsubscribed)
many_are (Ended Replaced) k c e w =
    (λ j. record { answered = sym (none_more c.answered most w.answered) j; expired = c.expired; unsubscribed = sym (none_more c.unsubscribed most w.unsubscribed) j; replaced = more c.replaced k; gone = sym (none_more c.gone most w.gone) j; spent = sym (none_more c.spent most w.spent) j; revoked = sym (none_more c.revoked most w.revoked) j })
    ∙ sym (many_put (Ended Replaced) (λ n. record { answered = c.answered; expired = c.expired; unsubscribed = c.unsubscribed; replaced = n; gone = c.gone; spent = c.spent; revoked = c.revoked }) (λ n. refl) k c.replaced w.replaced)
many_are (Ended LeaseGone) k c e w =
    (λ j. record { answered = sym (none_more c.answered most w.answered) j; expired = c.expired; unsubscribed = sym (none_more c.unsubscribed most w.unsubscribed) j; replaced = sym (none_more c.replaced most w.replaced) j; gone = more c.gone k; spent = sym (none_more c.spent most w.spent) j; revoked = sym (none_more c.revoked most w.revoked) j })
    ∙ sym (many_put (Ended LeaseGone) (λ n. record { answered = c.answered; expired = c.expired; unsubscribed = c.unsubscribed; replaced = c.replaced; gone = n; spent = c.spent; revoked = c.revoked }) (λ n. refl) k c.gone w.gone)
many_are (Ended Spent) k c e w =
    (λ j. record { answered = sym (none_more c.answered most w.answered) j; expired = c.expired; unsubscribed = sym (none_more c.unsubscribed most w.unsubscribed) j; replaced = sym (none_more c.replaced most w.replaced) j; gone = sym (none_more c.gone most w.gone) j; spent = more c.spent k; revoked = sym (none_more c.revoked most w.revoked) j })
    ∙ sym (many_put (Ended Spent) (λ n. record { answered = c.answered; expired = c.expired; unsubscribed = c.unsubscribed; replaced = c.replaced; gone = c.gone; spent = n; revoked = c.revoked }) (λ n. refl) k c.spent w.spent)
many_are (Ended LeaseRevoked) k c e w =
    (λ j. record { answered = sym (none_more c.answered most w.answered) j; expired = c.expired; unsubscribed = sym (none_more c.unsubscribed most w.unsubscribed) j; replaced = sym (none_more c.replaced most w.replaced) j; gone = sym (none_more c.gone most w.gone) j; spent = sym (none_more c.spent most w.spent) j; revoked = more c.revoked k })
    ∙ sym (many_put (Ended LeaseRevoked) (λ n. record { answered = c.answered; expired = c.expired; unsubscribed = c.unsubscribed; replaced = c.replaced; gone = c.gone; spent = c.spent; revoked = n }) (λ n. refl) k c.revoked w.revoked)
many_are (Ended Expired) k c e w = absurd e

-- what an event counts, where it turns the pairs that are hit to one standing and leaves the others open
pub counted_after :
    (e : Event) (h : List Event) (how : Standing) (hit : OwedPush → Bool) (c : Totals) → IsEnd how → AreWithin c
    → AllByRecursion (λ x. standing (turn e.t e.what (confirmed_intent e.what h) x) ≡ cond (hit x) how Open) (pushes h e.t)
    → ended_after e h c ≡ with_many (length (filter hit (pushes h e.t))) how c
counted_after e h how hit c is w a =
    (λ j.
    record {
      answered = more c.answered (turned_so Answered how is_answered answered_so g hit (pushes h e.t) a j);
      expired = c.expired;
      unsubscribed = more c.unsubscribed (turned_so (Ended Unsubscribed) how (is_ended Unsubscribed) (ended_so Unsubscribed) g hit (pushes h e.t) a j);
      replaced = more c.replaced (turned_so (Ended Replaced) how (is_ended Replaced) (ended_so Replaced) g hit (pushes h e.t) a j);
      gone = more c.gone (turned_so (Ended LeaseGone) how (is_ended LeaseGone) (ended_so LeaseGone) g hit (pushes h e.t) a j);
      spent = more c.spent (turned_so (Ended Spent) how (is_ended Spent) (ended_so Spent) g hit (pushes h e.t) a j);
      revoked = more c.revoked (turned_so (Ended LeaseRevoked) how (is_ended LeaseRevoked) (ended_so LeaseRevoked) g hit (pushes h e.t) a j);
    })
    ∙ many_are how (length (filter hit (pushes h e.t))) c is w
  where
    g : OwedPush → Fate
    g x = turn e.t e.what (confirmed_intent e.what h) x
