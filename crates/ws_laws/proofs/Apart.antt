-- Of one topic and callback at most one lease is live.
use Rattle.std.proofs.Common.{◌≡◌, ℕ, ◌≤◌, Bool, true, false, cond, List, [], ◌∷◌, ◌++◌, refl, ap, sym, ◌∙◌, subst, arith}
use Rattle.std.specs.Prelude.{Option, Some, None, filter, nat_lt, bytes_eq, is_none}
use Rattle.std.specs.List.{AllByRecursion}
use Rattle.std.proofs.lemmas.Bool.{and_parts, false≢true}
use Rattle.ws_model.specs.declared.event.What.TheVariants.{Confirmed}
use Rattle.ws_laws.proofs.Advance.{live_later}
use Rattle.ws_laws.proofs.Known.{in_time}
use Rattle.ws_laws.proofs.ListLaws.{all_filter, all_filter_with, all_from, all_weaker}
use Rattle.ws_laws.proofs.Step.{live_step}
use Rattle.ws_laws.proofs.Topics.{bytes_are, bytes_same}
use Rattle.ws_laws.specs.Fates.{AreApart, OneLive}
use Rattle.ws_laws.specs.Steps.{lives_on}
use Rattle.ws_model.specs.Intents.{same_pair}
use Rattle.ws_model.specs.Leases.{confirmed_intent, end_by_intent, end_by_mode, expiry, is_on, lease_by, lease_of, live}
use Rattle.ws_model.specs.Moment.{last_time}
use Rattle.ws_model.specs.declared.event.Intent.{Intent}
use Rattle.ws_model.specs.declared.event.What.{What}
use Rattle.ws_model.specs.declared.lease.Lease.{Lease}

-- ---- being of one topic and callback

pub same_pair_turned : (i j : Intent) → same_pair i j ≡ true → same_pair j i ≡ true
same_pair_turned i j k =
    let parts = and_parts (bytes_eq i.topic j.topic) (bytes_eq i.callback j.callback) k in
    let topic : bytes_eq j.topic i.topic ≡ true = ap (λ x. bytes_eq j.topic x) (bytes_are i.topic j.topic parts.0) ∙ bytes_same j.topic in
    let callback : bytes_eq j.callback i.callback ≡ true = ap (λ x. bytes_eq j.callback x) (bytes_are i.callback j.callback parts.1) ∙ bytes_same j.callback in
    rw (topic, callback)

pub same_pair_via : (i j k : Intent) → same_pair i j ≡ true → same_pair i k ≡ true → same_pair j k ≡ true
same_pair_via i j k a b =
    let first = and_parts (bytes_eq i.topic j.topic) (bytes_eq i.callback j.callback) a in
    let second = and_parts (bytes_eq i.topic k.topic) (bytes_eq i.callback k.callback) b in
    let topic : bytes_eq j.topic k.topic ≡ true = ap (λ x. bytes_eq x k.topic) (sym (bytes_are i.topic j.topic first.0)) ∙ second.0 in
    let callback : bytes_eq j.callback k.callback ≡ true = ap (λ x. bytes_eq x k.callback) (sym (bytes_are i.callback j.callback first.1)) ∙ second.1 in
    rw (topic, callback)

-- ---- leases apart

apart_filter : (p : Lease → Bool) (ls : List Lease) → AreApart ls → AreApart (filter p ls)
apart_filter p [] a = tt
apart_filter p (l ∷ ls) a = one (p l) (all_filter (λ (m : Lease). same_pair l.intent m.intent ≡ false) p ls a.0) (apart_filter p ls a.1)
  where
    one : (b : Bool) → AllByRecursion (λ (m : Lease). same_pair l.intent m.intent ≡ false) (filter p ls) → AreApart (filter p ls) → AreApart (cond b (l ∷ filter p ls) (filter p ls))
    one true f r = (f, r)
    one false f r = r

-- a lease that a confirmation doesn't end is of another topic or callback
left_over : (i : Intent) (l : Lease) → is_none (end_by_intent (Some i) l) ≡ true → same_pair i l.intent ≡ false
left_over i l k = one (same_pair i l.intent) k
  where
    one : (b : Bool) → is_none (cond b (Some (end_by_mode i.mode)) None) ≡ true → b ≡ false
    one true k = absurd (false≢true k)
    one false k = refl

apart_from : (n sent : ℕ) (o : Option Intent) (ls : List Lease) → AreApart ls → AreApart (lease_by sent o ++ filter (lives_on (Confirmed n sent) o) ls)
apart_from n sent None ls a = apart_filter (lives_on (Confirmed n sent) None) ls a
apart_from n sent (Some i) ls a = one (is_on i.mode)
  where
    rest : AreApart (filter (lives_on (Confirmed n sent) (Some i)) ls)
    rest = apart_filter (lives_on (Confirmed n sent) (Some i)) ls a

    others : AllByRecursion (λ (m : Lease). same_pair i m.intent ≡ false) (filter (lives_on (Confirmed n sent) (Some i)) ls)
    others =
        all_weaker (λ (m : Lease). Unit {0} × (lives_on (Confirmed n sent) (Some i) m ≡ true)) (λ (m : Lease). same_pair i m.intent ≡ false) (λ m k. left_over i m k.1) (filter (lives_on (Confirmed n sent) (Some i)) ls)
        (all_filter_with (λ (m : Lease). Unit {0}) (lives_on (Confirmed n sent) (Some i)) ls (all_from (λ (m : Lease). Unit {0}) (λ m. tt) ls))

    one : (b : Bool) → AreApart (cond b (record { intent = i; sent = sent } ∷ []) [] ++ filter (lives_on (Confirmed n sent) (Some i)) ls)
    one true = (others, rest)
    one false = rest

apart_after : (w : What) (o : Option Intent) (ls : List Lease) → AreApart ls → AreApart (lease_of w o ++ filter (lives_on w o) ls)
apart_after (Confirmed n sent) o ls a = apart_from n sent o ls a
apart_after w o ls a = apart_filter (lives_on w o) ls a

pub one_live : OneLive
one_live [] t l le = tt
one_live (e ∷ h) t l le =
    let before : last_time h ≤ e.t = in_time h e l.1 in
    subst AreApart (sym (live_later (e ∷ h) e.t t (omega arith)))
    (apart_filter (λ x. nat_lt t (expiry x)) (live (e ∷ h) e.t)
    (subst AreApart (sym (live_step e h l.1)) (apart_after e.what (confirmed_intent e.what h) (live h e.t) (one_live h e.t l.0 before))))
