-- What each change of the rows makes of the history that they stand for.
use Rattle.std.proofs.Common.{◌≡◌, ℕ, Bool, true, false, cond, List, [], ◌∷◌, refl, ap, sym, ◌∙◌, subst}
use Rattle.std.specs.List.Sorted.{IsStrictlySortedBy}
use Rattle.std.specs.Map.{keys_of}
use Rattle.std.specs.BTreeMap.{is_at}
use Rattle.std.specs.Ordering.{nat_cmp}
use Rattle.ws_intent.specs.Indexed.{IsKeyed}
use Rattle.std.specs.Prelude.{Option, Some, None, IfSome, find, option_map, is_none, ◌==◌}
use Rattle.std.proofs.lemmas.Bool.{eqb-true, false≢true, ltb-true}
use Rattle.ws_model.specs.declared.event.Event.{Event}
use Rattle.ws_model.specs.declared.event.Intent.{Intent}
use Rattle.ws_model.specs.declared.event.Tally.{Tally}
use Rattle.ws_model.specs.declared.event.What.{What}
use Rattle.ws_model.specs.declared.event.What.TheVariants.{Asked, Confirmed, Declined, Unheard, Barred, Noticed, Revoked, Tally as TallyOf}
use Rattle.ws_model.specs.declared.lease.Lease.{Lease}
use Rattle.ws_model.specs.History.{has}
use Rattle.ws_model.specs.Intents.{is_noticed}
use Rattle.ws_model.specs.Leases.{lease_end, leases, live}
use Rattle.ws_model.specs.Legal.{Legal, is_allowed, is_on_one}
use Rattle.ws_model.specs.Moment.{last_intent}
use Rattle.ws_model.specs.View.{Waiting as PendingView, waiting}
use Rattle.ws_laws.proofs.Denied.{barred_undenied, not_noticed, pending_named, revoked_undenied}
use Rattle.ws_laws.proofs.Known.{allowed, in_time}
use Rattle.ws_laws.proofs.ListLaws.{all_filter, all_find}
use Rattle.ws_laws.proofs.Notices.{leases_asked}
use Rattle.ws_laws.proofs.Step.{find_pending, times_none}
use Rattle.ws_intent.specs.declared.kinds.Settle.{Settle}
use Rattle.ws_intent.specs.declared.kinds.Settle.TheVariants.{Confirmed as IsConfirmed, Declined as IsDeclined, Unheard as IsUnheard, Noticed as IsNoticed}
use Rattle.ws_intent.specs.declared.rows.Denial.{Denial}
use Rattle.ws_intent.specs.declared.rows.Waiting.{Waiting}
use Rattle.ws_intent.specs.Rows.{Rows, denied_by, missed, missed_notice, number_at, without}
use Rattle.ws_intent.specs.Stands.{IsSettling, LooksSettled, StandsFor, as_notice, as_pending, is_other}
use Rattle.ws_intent.proofs.Standing.{IsAt, IsUntold, asked_notice, asked_row, asked_with, at_rows, barred_notice, barred_row, confirmed_row, declined_row, denied_view, event, from_rows, heard_notice, missed_as, missed_notice_as, missed_notice_view, missed_view, new_number, notice_row, others_stand, pending_row, revoked_notice, turned, unanswered_notice, unheard_row}

through : {X Y : Type 0} (f : X → Y) (b : Bool) (w o : Option X) → option_map f (cond b w o) ≡ cond b (option_map f w) (option_map f o)
through f true w o = refl
through f false w o = refl

-- rows that change at one number, as the history does
step : {X Y : Type 0} (f : X → Y) (look was : ℕ → Option X) (row before : ℕ → Option Y) (m : ℕ) (w : Option X) (v : Option Y)
    → ((q : ℕ) → look q ≡ cond (q == m) w (was q)) → ((q : ℕ) → option_map f (was q) ≡ before q) → option_map f w ≡ v
    → ((q : ℕ) → row q ≡ cond (m == q) v (before q)) → (q : ℕ) → option_map f (look q) ≡ row q
step f look was row before m w v looks rows here after q =
    ap (option_map f) (looks q) ∙ through f (q == m) w (was q)
    ∙ ap (λ b. cond b (option_map f w) (option_map f (was q))) (turned q m)
    ∙ ap (λ x. cond (m == q) x (option_map f (was q))) here
    ∙ ap (cond (m == q) v) (rows q)
    ∙ sym (after q)

-- a value of q that counts where q is m
at_m : {Y : Type 0} (g : Option Y → Option Y) (r : ℕ → Option Y) (m q : ℕ) (x : Option Y) → cond (m == q) (g (r q)) x ≡ cond (m == q) (g (r m)) x
at_m g r m q x = by (m == q) refl
  where
    by : (b : Bool) → (m == q) ≡ b → cond b (g (r q)) x ≡ cond b (g (r m)) x
    by true e = ap (λ n. g (r n)) (sym (eqb-true m q e))
    by false e = refl

at_what : (P : Event → Type 0) (e : Event) (w : What) → e.what ≡ w → P (event e.serial e.t w) → P e
at_what P e w k p = subst (λ v. P (event e.serial e.t v)) (sym k) p

is_allowed_as : (h : List Event) (e : Event) (w : What) → Legal (e ∷ h) → e.what ≡ w → is_allowed w e.t h ≡ true
is_allowed_as h e w l k = subst (λ v. is_allowed v e.t h ≡ true) k (allowed h e l.1)

-- ---- asked

pub asked_stands : (old new : Rows) (i : Intent) → ((q : ℕ) → number_at q new.pending ≡ cond (q == i.n) (Some (record { intent = i; unheard = 0 })) (number_at q old.pending)) → new.notices ≡ old.notices
    → (h : List Event) (e : Event) → StandsFor old h → Legal (e ∷ h) → e.what ≡ Asked i → StandsFor new (e ∷ h)
asked_stands old new i look same h e s l is =
    let r = at_rows old h s in
    let fresh = new_number h l.0 i.n (ltb-true (last_intent h) i.n (is_allowed_as h e (Asked i) l is)) in
    from_rows new (e ∷ h) (at_what (λ f. IsAt new (f ∷ h)) e (Asked i) is (record {
      waits = step as_pending (λ q. number_at q new.pending) (λ q. number_at q old.pending) (pending_row (event e.serial e.t (Asked i) ∷ h)) (pending_row h) i.n (Some (record { intent = i; unheard = 0 })) (Some (record { intent = i; unheard = 0 }))
          look r.waits refl (asked_row e.serial e.t i h fresh);
      owes = λ q. ap (λ es. option_map as_notice (number_at q es)) same ∙ r.owes q ∙ sym (asked_notice e.serial e.t i h fresh q);
    }))

-- ---- barred

untold : (h : List Event) → Legal h → (m : ℕ) → ((b : Bool) → has (is_noticed m b) h ≡ false) → IsUntold h m
untold h l m f = record { told = f true; tried = times_none (is_noticed m false) h (f false) }

barred_intent : (reason : List ℕ) (h : List Event) (m : ℕ) (o : Option Waiting) (a : Option Intent) (d : Option Denial) → is_on_one a ≡ true → option_map as_pending o ≡ option_map (waiting h) a → option_map as_notice (denied_by reason o d) ≡ denied_view reason a
barred_intent reason h m None None d k e = absurd (false≢true k)
barred_intent reason h m None (Some i) d k e = absurd (false≢true (sym (ap is_none e)))
barred_intent reason h m (Some w) None d k e = absurd (false≢true (ap is_none e))
barred_intent reason h m (Some w) (Some i) d k e = ap (λ j. Some (record { intent = j; reason = reason; unheard = 0 })) (ap (λ (v : PendingView). v.intent) (the_view e))
  where
    the_view : Some (as_pending w) ≡ Some (waiting h i) → as_pending w ≡ waiting h i
    the_view x = cc

pub barred_stands : (old new : Rows) (m : ℕ) (reason : List ℕ) → ((q : ℕ) → number_at q new.pending ≡ cond (q == m) None (number_at q old.pending))
    → ((q : ℕ) → number_at q new.notices ≡ cond (q == m) (denied_by reason (number_at m old.pending) (number_at m old.notices)) (number_at q old.notices))
    → (h : List Event) (e : Event) → StandsFor old h → Legal (e ∷ h) → e.what ≡ Barred m reason → StandsFor new (e ∷ h)
barred_stands old new m reason look look_notices h e s l is =
    let r = at_rows old h s in
    let ok = is_allowed_as h e (Barred m reason) l is in
    let waits = pending_named is_on_one refl h m ok in
    let on = ap is_on_one (sym (find_pending h m ∙ ap (λ b. cond b (asked_with h m) None) waits)) ∙ ok in
    let u = untold h l.0 m (λ b. not_noticed h l.0 m b (barred_undenied h l.0 m waits)) in
    from_rows new (e ∷ h) (at_what (λ f. IsAt new (f ∷ h)) e (Barred m reason) is (record {
      waits = step as_pending (λ q. number_at q new.pending) (λ q. number_at q old.pending) (pending_row (event e.serial e.t (Barred m reason) ∷ h)) (pending_row h) m None None
          look r.waits refl (barred_row e.serial e.t m reason h);
      owes = step as_notice (λ q. number_at q new.notices) (λ q. number_at q old.notices) (notice_row (event e.serial e.t (Barred m reason) ∷ h)) (notice_row h) m (denied_by reason (number_at m old.pending) (number_at m old.notices)) (denied_view reason (asked_with h m))
          look_notices r.owes
          (barred_intent reason h m (number_at m old.pending) (asked_with h m) (number_at m old.notices) on (r.waits m ∙ ap (λ b. cond b (option_map (waiting h) (asked_with h m)) None) waits))
          (barred_notice e.serial e.t m reason h u);
    }))

-- ---- revoked

live_asked : (h : List Event) → Legal h → (t : ℕ) (i : Intent) (o : Option Lease) → find (λ (l : Lease). l.intent.n == i.n) (live h t) ≡ o → option_map (λ l. l.intent) o ≡ Some i → asked_with h i.n ≡ Some i
live_asked h l t i None e k = absurd (false≢true (sym (ap is_none k)))
live_asked h l t i (Some x) e k =
    subst (λ (j : Intent). asked_with h j.n ≡ Some j) (the_intent k)
    (all_find (λ (y : Lease). asked_with h y.intent.n ≡ Some y.intent) (λ y. y.intent.n == i.n) x (live h t)
    (all_filter (λ (y : Lease). asked_with h y.intent.n ≡ Some y.intent) (λ y. is_none (lease_end h y t)) (leases h) (leases_asked h l)) e).0
  where
    the_intent : Some x.intent ≡ Some i → x.intent ≡ i
    the_intent y = cc

pub revoked_stands : (old new : Rows) (i : Intent) (reason : List ℕ) → new.pending ≡ old.pending
    → ((q : ℕ) → number_at q new.notices ≡ cond (q == i.n) (Some (record { intent = i; reason = reason; unheard = 0 })) (number_at q old.notices))
    → (h : List Event) (e : Event) → StandsFor old h → Legal (e ∷ h) → e.what ≡ Revoked i.n reason → option_map (λ l. l.intent) (find (λ l. l.intent.n == i.n) (live h e.t)) ≡ Some i → StandsFor new (e ∷ h)
revoked_stands old new i reason same look h e s l is lives =
    let r = at_rows old h s in
    let u = untold h l.0 i.n (λ b. not_noticed h l.0 i.n b (revoked_undenied h l.0 e.t (in_time h e l.1) i.n (is_allowed_as h e (Revoked i.n reason) l is))) in
    from_rows new (e ∷ h) (at_what (λ f. IsAt new (f ∷ h)) e (Revoked i.n reason) is (record {
      waits = λ q. ap (λ es. option_map as_pending (number_at q es)) same ∙ r.waits q;
      owes = step as_notice (λ q. number_at q new.notices) (λ q. number_at q old.notices) (notice_row (event e.serial e.t (Revoked i.n reason) ∷ h)) (notice_row h) i.n (Some (record { intent = i; reason = reason; unheard = 0 })) (denied_view reason (asked_with h i.n))
          look r.owes (ap (denied_view reason) (sym (live_asked h l.0 e.t i _ refl lives)))
          (revoked_notice e.serial e.t i.n reason h u);
    }))

-- ---- settled

pub settle_stands : (n : ℕ) (how : Settle) (old new : Rows) → LooksSettled n how old new → (h : List Event) (e : Event) → StandsFor old h → IsSettling n how e.what → StandsFor new (e ∷ h)
settle_stands n IsConfirmed old new look h e s is =
    let r = at_rows old h s in
    from_rows new (e ∷ h) (at_what (λ f. IsAt new (f ∷ h)) e (Confirmed n is.0) is.1 (record {
      waits = step as_pending (λ q. number_at q new.pending) (λ q. number_at q old.pending) (pending_row (event e.serial e.t (Confirmed n is.0) ∷ h)) (pending_row h) n None None
          look.0 r.waits refl (confirmed_row e.serial e.t n is.0 h);
      owes = λ q. ap (λ es. option_map as_notice (number_at q es)) look.1 ∙ r.owes q;
    }))
settle_stands n IsDeclined old new look h e s is =
    let r = at_rows old h s in
    from_rows new (e ∷ h) (at_what (λ f. IsAt new (f ∷ h)) e (Declined n is.0) is.1 (record {
      waits = step as_pending (λ q. number_at q new.pending) (λ q. number_at q old.pending) (pending_row (event e.serial e.t (Declined n is.0) ∷ h)) (pending_row h) n None None
          look.0 r.waits refl (declined_row e.serial e.t n is.0 h);
      owes = λ q. ap (λ es. option_map as_notice (number_at q es)) look.1 ∙ r.owes q;
    }))
settle_stands n IsUnheard old new look h e s is =
    let r = at_rows old h s in
    from_rows new (e ∷ h) (at_what (λ f. IsAt new (f ∷ h)) e (Unheard n) is (record {
      waits = step as_pending (λ q. number_at q new.pending) (λ q. number_at q old.pending) (pending_row (event e.serial e.t (Unheard n) ∷ h)) (pending_row h) n (missed (number_at n old.pending)) (missed_view (pending_row h n))
          look.0 r.waits (missed_as (number_at n old.pending) ∙ ap missed_view (r.waits n))
          (λ q. unheard_row e.serial e.t n h q ∙ at_m missed_view (pending_row h) n q (pending_row h q));
      owes = λ q. ap (λ es. option_map as_notice (number_at q es)) look.1 ∙ r.owes q;
    }))
settle_stands n (IsNoticed true) old new look h e s is =
    let r = at_rows old h s in
    from_rows new (e ∷ h) (at_what (λ f. IsAt new (f ∷ h)) e (Noticed n true) is (record {
      waits = λ q. ap (λ es. option_map as_pending (number_at q es)) look.1 ∙ r.waits q;
      owes = step as_notice (λ q. number_at q new.notices) (λ q. number_at q old.notices) (notice_row (event e.serial e.t (Noticed n true) ∷ h)) (notice_row h) n None None
          look.0 r.owes refl (heard_notice e.serial e.t n h);
    }))
settle_stands n (IsNoticed false) old new look h e s is =
    let r = at_rows old h s in
    from_rows new (e ∷ h) (at_what (λ f. IsAt new (f ∷ h)) e (Noticed n false) is (record {
      waits = λ q. ap (λ es. option_map as_pending (number_at q es)) look.1 ∙ r.waits q;
      owes = step as_notice (λ q. number_at q new.notices) (λ q. number_at q old.notices) (notice_row (event e.serial e.t (Noticed n false) ∷ h)) (notice_row h) n (missed_notice (number_at n old.notices)) (missed_notice_view (notice_row h n))
          look.0 r.owes (missed_notice_as (number_at n old.notices) ∙ ap missed_notice_view (r.owes n))
          (λ q. unanswered_notice e.serial e.t n h q ∙ at_m missed_notice_view (notice_row h) n q (notice_row h q));
    }))

-- ---- the empty table

pub empty_stands : StandsFor (record { pending = []; notices = [] }) []
empty_stands = record { pending_at = λ n. refl; notice_at = λ n. refl }

pub tally_stands : (e : Event) (c : Tally) → e.what ≡ TallyOf c → StandsFor (record { pending = []; notices = [] }) (e ∷ [])
tally_stands e c is = others_stand (record { pending = []; notices = [] }) [] e empty_stands (ap is_other is)

-- ---- a number that isn't there

pub without_none : {X : Type 0} (n : ℕ) (es : List (ℕ × X)) → number_at n es ≡ None → without n es ≡ es
without_none n [] e = refl
without_none n (x ∷ es) e = by (is_at (nat_cmp n) x.0) e (without_none n es)
  where
    by : (b : Bool) → cond b (Some x.1) (number_at n es) ≡ None → (number_at n es ≡ None → without n es ≡ es) → cond b es (x ∷ without n es) ≡ x ∷ es
    by true k r = absurd (false≢true (ap is_none k))
    by false k r = ap (λ ys. x ∷ ys) (r k)

pub same_at : {X : Type 0} (f : ℕ → Option X) (n q : ℕ) → f q ≡ cond (q == n) (f n) (f q)
same_at f n q = by (q == n) refl
  where
    by : (b : Bool) → (q == n) ≡ b → f q ≡ cond b (f n) (f q)
    by true e = ap f (eqb-true q n e)
    by false e = refl

pub keyed_put : (old new : List (ℕ × Denial)) (n : ℕ) (d : Denial) → IsKeyed (λ (x : Denial). x.intent) old → IsStrictlySortedBy nat_cmp (keys_of new) → ((q : ℕ) → number_at q new ≡ cond (q == n) (Some d) (number_at q old)) → d.intent.n ≡ n → IsKeyed (λ (x : Denial). x.intent) new
keyed_put old new n d k ordered rows e = record { ordered = ordered; keyed = λ q. subst (λ o. IfSome o (λ (x : Denial). x.intent.n ≡ q)) (sym (rows q)) (by q (q == n) refl) }
  where
    by : (q : ℕ) (b : Bool) → (q == n) ≡ b → IfSome (cond b (Some d) (number_at q old)) (λ (x : Denial). x.intent.n ≡ q)
    by q true s = e ∙ sym (eqb-true q n s)
    by q false s = k.keyed q
