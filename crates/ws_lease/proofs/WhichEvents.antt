-- Which events make, end or leave leases.
use Rattle.std.proofs.Common.{◌≡◌, ℕ, ◌≤◌, Bool, true, false, cond, ◌&&◌, List, [], ◌∷◌, refl, ap, sym, ◌∙◌, subst, arith}
use Rattle.std.specs.Prelude.{nat_le, is_some, Option, Some, None, IfSome, find, ◌==◌}
use Rattle.std.specs.List.{AllByRecursion, list_any}
use Rattle.std.proofs.lemmas.Bool.{false≢true, and_parts, eqb-true, leb-true}
use Rattle.std.proofs.lemmas.Bool.Decides.{nat_tests}
use Rattle.ws_model.specs.declared.event.Event.{Event}
use Rattle.ws_model.specs.declared.event.What.{What}
use Rattle.ws_model.specs.declared.event.What.TheVariants.{Confirmed, Pushed, Revoked}
use Rattle.ws_model.specs.declared.event.How.TheVariants.{Gone}
use Rattle.ws_model.specs.declared.event.Mode.{Mode}
use Rattle.ws_model.specs.declared.event.Mode.TheVariants.{On, Off}
use Rattle.ws_model.specs.declared.event.Intent.{Intent}
use Rattle.ws_model.specs.declared.lease.Lease.{Lease}
use Rattle.ws_model.specs.declared.fate.Cause.TheVariants.{Unsubscribed, Gone as LeaseGone, Revoked as LeaseRevoked}
use Rattle.ws_model.specs.Fate.{Pair, fate, is_owed}
use Rattle.ws_model.specs.History.{has}
use Rattle.ws_model.specs.Intents.{same_pair, is_first}
use Rattle.ws_model.specs.Leases.{live, lease_of, confirmed_intent, is_confirmed, is_on, end_by, end_by_mode}
use Rattle.ws_model.specs.Legal.{is_allowed, is_confirmed_in_time}
use Rattle.ws_model.specs.Pairs.{pairs, owed}
use Rattle.ws_model.specs.Revocation.{is_lease_of}
use Rattle.ws_laws.proofs.Paired.{owed_lives}
use Rattle.ws_laws.proofs.Ended.{IsToldPair, pairs_told}
use Rattle.ws_laws.proofs.Follow.{some_found}
use Rattle.ws_laws.proofs.Known.{allowed}
use Rattle.ws_laws.proofs.ListLaws.{all_filter_with, all_find, all_from, all_weaker, any_then}
use Rattle.ws_laws.proofs.Step.{IsFresh, new_fresh, confirms}
use Rattle.ws_lease.specs.Table.{lease_at}
use Rattle.ws_lease.specs.Stands.{EndsLease, is_numbered, touches_leases, GoneEnds, RevokedEnds, UnsubscriptionEnds, UnsubscriptionLeaves, OthersLeave, NewIsNotHeld, EndedIsLive}
use Rattle.ws_lease.proofs.Standing.{found_by_number, live_apart, pair_turned}

itself : (n : ℕ) → (n == n) ≡ true
itself n = grind (arith, nat_tests)

-- ---- a push that is answered 410

pub gone_ends : GoneEnds
gone_ends h e v n l is =
    any_then (λ (p : Pair). IsToldPair h p × (is_owed (fate h p e.t) ≡ true)) (λ p. (p.version.ver == v) && (p.lease.intent.n == n)) (EndsLease e h n LeaseGone)
    (λ p a k.
    let number : p.lease.intent.n ≡ n = eqb-true p.lease.intent.n n (and_parts (p.version.ver == v) (p.lease.intent.n == n) k).1 in
    record {
      lease = p.lease;
      lives = subst (λ m. find (is_numbered m) (live h e.t) ≡ Some p.lease) number (owed_lives h e.t p a.0 a.1);
      by = ap (λ w. end_by w (confirmed_intent w h) p.lease) is ∙ ap (λ b. cond b (Some LeaseGone) None) (subst (λ m. (m == p.lease.intent.n) ≡ true) number (itself p.lease.intent.n));
    })
    (owed h e.t) (all_filter_with (IsToldPair h) (λ p. is_owed (fate h p e.t)) (pairs h) (pairs_told h l.0)) (subst (λ w. is_allowed w e.t h ≡ true) is (allowed h e l.1))

-- ---- a revocation

-- a list that has a number finds it
found_any : {X : Type 0} (q : X → Bool) (G : Type 0) (xs : List X) → list_any q xs ≡ true → ((x : X) → find q xs ≡ Some x → G) → G
found_any {X = X} q G xs k f = by (find q xs) refl (some_found q xs ∙ k)
  where
    by : (o : Option X) → find q xs ≡ o → is_some o ≡ true → G
    by None e r = absurd (false≢true r)
    by (Some x) e r = f x e

pub revoked_ends : RevokedEnds
revoked_ends h e n reason l is =
    found_any (is_numbered n) (EndsLease e h n LeaseRevoked) (live h e.t) (subst (λ w. is_allowed w e.t h ≡ true) is (allowed h e l.1))
    (λ x k.
    record {
      lease = x;
      lives = k;
      by = ap (λ w. end_by w (confirmed_intent w h) x) is
          ∙ ap (λ b. cond b (Some LeaseRevoked) None) (subst (λ m. (m == x.intent.n) ≡ true) (eqb-true x.intent.n n (all_find (λ _. Unit {0}) (is_numbered n) x (live h e.t) (all_from (λ _. Unit {0}) (λ _. tt) (live h e.t)) k).1) (itself x.intent.n));
    })

-- ---- a confirmed unsubscription

off_ends : (m : Mode) → is_on m ≡ false → end_by_mode m ≡ Unsubscribed
off_ends On k = absurd (false≢true (sym k))
off_ends Off k = refl

-- what a confirmation of an intent does to a lease
confirmed_by : (e : Event) (h : List Event) (m sent : ℕ) (i : Intent) (x : Lease) → e.what ≡ Confirmed m sent → confirmed_intent e.what h ≡ Some i → end_by e.what (confirmed_intent e.what h) x ≡ cond (same_pair i x.intent) (Some (end_by_mode i.mode)) None
confirmed_by e h m sent i x is asked = λ j. end_by (is j) (asked j) x

pub unsubscription_ends : UnsubscriptionEnds
unsubscription_ends h e m sent i x l is asked off found =
    record {
      lease = x;
      lives = found_by_number (is_lease_of i.topic i.callback) x (live h e.t) (live_apart h l.0 e.t) found;
      by = confirmed_by e h m sent i x is asked
          ∙ ap (λ b. cond b (Some (end_by_mode i.mode)) None) (sym (pair_turned i x) ∙ (all_find (λ _. Unit {0}) (is_lease_of i.topic i.callback) x (live h e.t) (all_from (λ _. Unit {0}) (λ _. tt) (live h e.t)) found).1)
          ∙ ap (λ c. Some c) (off_ends i.mode off);
    }

-- where nothing is found, nothing passes
all_absent : {X : Type 0} (q : X → Bool) (xs : List X) → find q xs ≡ None → AllByRecursion (λ x. q x ≡ false) xs
all_absent q [] e = tt
all_absent q (x ∷ xs) e = one (q x) refl e (all_absent q xs)
  where
    one : (b : Bool) → q x ≡ b → cond b (Some x) (find q xs) ≡ None → (find q xs ≡ None → AllByRecursion (λ y. q y ≡ false) xs) → (q x ≡ false) × AllByRecursion (λ y. q y ≡ false) xs
    one true k u r = absurd (grind arith)
    one false k u r = (k, r u)

pub unsubscription_leaves : UnsubscriptionLeaves
unsubscription_leaves h e m sent i is asked off found =
    record {
      makes_none = (λ j. lease_of (is j) (asked j)) ∙ (let x : Lease = record { intent = i; sent = sent } in ap (λ b. cond b (x ∷ []) []) off);
      ends_none = all_weaker (λ x. is_lease_of i.topic i.callback x ≡ false) (λ x. end_by e.what (confirmed_intent e.what h) x ≡ None)
          (λ x k. confirmed_by e h m sent i x is asked ∙ ap (λ b. cond b (Some (end_by_mode i.mode)) None) (sym (pair_turned i x) ∙ k))
          (live h e.t) (all_absent (is_lease_of i.topic i.callback) (live h e.t) found);
    }

-- ---- every other event

other_makes_none : (w : What) (o : Option Intent) → touches_leases w ≡ false → lease_of w o ≡ []
other_makes_none (Confirmed n sent) o k = absurd (false≢true (sym k))
other_makes_none w o k = refl

other_ends_none : (w : What) (o : Option Intent) (x : Lease) → touches_leases w ≡ false → end_by w o x ≡ None
other_ends_none (Confirmed n sent) o x k = absurd (false≢true (sym k))
other_ends_none (Pushed v n Gone) o x k = absurd (false≢true (sym k))
other_ends_none (Pushed v n how) o x k = refl
other_ends_none (Revoked n reason) o x k = absurd (false≢true (sym k))
other_ends_none w o x k = refl

pub others_leave : OthersLeave
others_leave h e k =
    record {
      makes_none = other_makes_none e.what (confirmed_intent e.what h) k;
      ends_none = all_from (λ x. end_by e.what (confirmed_intent e.what h) x ≡ None) (λ x. other_ends_none e.what (confirmed_intent e.what h) x k) (live h e.t);
    }

-- ---- what the table has before

pub ended_is_live : EndedIsLive
ended_is_live rows h e since n cause s le ends = (ends.lease, s.shows e.t n le ∙ ends.lives)

pub new_is_not_held : NewIsNotHeld
new_is_not_held rows h e since x s l m on = (none (lease_at x.intent.n rows) (s.confirmed x.intent.n), sent)
  where
    is_allowed_there : is_allowed (Confirmed x.intent.n x.sent) e.t h ≡ true
    is_allowed_there = subst (λ w. is_allowed w e.t h ≡ true) m.confirms (allowed h e l.1)

    fresh : AllByRecursion (IsFresh e h) (lease_of e.what (confirmed_intent e.what h))
    fresh = new_fresh e.what e.serial e.t h (allowed h e l.1)

    made : lease_of e.what (confirmed_intent e.what h) ≡ x ∷ []
    made = (λ j. lease_of (m.confirms j) (m.asked j)) ∙ ap (λ b. cond b (x ∷ []) []) on

    unconfirmed : has (is_confirmed x.intent.n) h ≡ false
    unconfirmed = (subst (AllByRecursion (IsFresh e h)) made fresh).0.unconfirmed

    none : (o : Option Lease) → IfSome o (λ _. has (is_confirmed x.intent.n) h ≡ true) → ◌≡◌ {A = Option Lease} o None
    none None k = refl
    none (Some y) k = absurd (false≢true (sym unconfirmed ∙ k))

    sent : x.sent ≤ e.t
    sent =
        let c = confirms h x.intent.n x.sent e.t is_allowed_there in
        leb-true x.sent e.t (and_parts (is_first h c.intent) (nat_le x.sent e.t) (and_parts (is_first h c.intent && nat_le x.sent e.t) (is_confirmed_in_time x.sent e.t c.intent) c.confirmable).0).1
