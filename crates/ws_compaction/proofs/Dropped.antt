-- What a compaction keeps only shrinks.
use Rattle.std.proofs.Common.{◌≡◌, ℕ, ◌≤◌, ◌<◌, suc, Bool, true, false, cond, not, ◌&&◌, ◌||◌, List, [], ◌∷◌, ◌++◌, refl, ap, sym, ◌∙◌, subst, arith, inl, inr, Option, Some}
use Rattle.std.specs.Prelude.{nat_lt, is_some, find, filter, map, ◌==◌, bytes_eq}
use Rattle.std.specs.List.{AllByRecursion, list_any}
use Rattle.std.proofs.lemmas.Bool.{and_from, and_parts, eqb-true, false≢true, ltb-true, not-true, or_cases, or_left, or_parts, or_right}
use Rattle.std.proofs.lemmas.Bool.Decides.{nat_tests}
use Rattle.std.proofs.lemmas.List.Folds.{list_any-append}
use Rattle.ws_model.specs.declared.event.Event.{Event}
use Rattle.ws_model.specs.declared.event.Intent.{Intent}
use Rattle.ws_model.specs.declared.event.Version.{Version}
use Rattle.ws_model.specs.declared.event.What.{What}
use Rattle.ws_model.specs.declared.event.What.TheVariants.{Barred, Confirmed, Fetched, Revoked}
use Rattle.ws_model.specs.declared.lease.Lease.{Lease}
use Rattle.ws_model.specs.Fate.{Pair, fate, is_owed}
use Rattle.ws_model.specs.History.{has, times}
use Rattle.ws_model.specs.Intents.{asked, is_denied, is_noticed, is_owed_notice, is_owed_notice_number, is_pending_number, notices, same_pair}
use Rattle.ws_model.specs.Keep.{is_among}
use Rattle.ws_model.specs.Leases.{confirmed_intent, expiry, is_confirmed, lease_by, lease_of, leases, live}
use Rattle.ws_model.specs.Legal.{Legal, is_allowed, is_on_one}
use Rattle.ws_model.specs.Moment.{last_version}
use Rattle.ws_model.specs.Pairs.{owed, pairs}
use Rattle.ws_model.specs.Verdict.{is_kept_version}
use Rattle.ws_model.specs.Versions.{is_fetched, latest}
use Rattle.ws_model.specs.View.{OwedPush, owed_push, view}
use Rattle.ws_laws.specs.Steps.{after_miss, latest_after, lives_on, new_push, new_pushes, owed_afresh, stays_owed}
use Rattle.ws_laws.proofs.Advance.{live_later, owed_later}
use Rattle.ws_laws.proofs.Denied.{not_confirmed, pending_named, unsettled}
use Rattle.ws_laws.proofs.Ended.{IsToldPair, pairs_told}
use Rattle.ws_laws.proofs.Follow.{any_map, any_of_filter, some_found}
use Rattle.ws_laws.proofs.Known.{IsKnown, IsOfConfirmed, allowed, fetched_le, leases_confirmed, pairs_known}
use Rattle.ws_laws.proofs.ListLaws.{all_filter, all_filter_with, all_from, any_then}
use Rattle.ws_laws.proofs.Notices.{leases_asked}
use Rattle.ws_laws.proofs.Paired.{owed_lives}
use Rattle.ws_laws.proofs.Step.{IsFresh, live_step, new_fresh, owed_step}
use Rattle.ws_laws.proofs.Topics.{latest_step}
use Rattle.ws_compaction.specs.Least.{IsKeptLease, has_number, takes_over}
use Rattle.ws_compaction.specs.Least.IsKeptLease.{IsLive, IsNoticed, IsTakenOver}
use Rattle.ws_compaction.proofs.Fetches.{any_more}
use Rattle.ws_compaction.proofs.Lawful.{any_kept}
use Rattle.ws_compaction.proofs.Least.{keeps_least}
use Rattle.ws_compaction.specs.Dropped.{DropsLease, DropsLeaseLater, DropsVersion, DropsVersionLater}

-- ---- versions, later

pub either_more : (a b c d : Bool) → (a ≡ true → c ≡ true) → (b ≡ true → d ≡ true) → (a || b) ≡ true → (c || d) ≡ true
either_more a b c d f g k = elim (or_cases a b k) [ inl x ↦ or_left c d (f x) | inr y ↦ or_right c d (g y) ]

pub drops_version_later : DropsVersionLater
drops_version_later h t u v le k =
    either_more (list_any (λ (w : Version). w.ver == v) (latest h)) (list_any (λ (p : Pair). p.version.ver == v) (owed h u)) _ _ (λ a. a)
    (λ b. any_of_filter (λ (p : Pair). p.version.ver == v) (λ p. nat_lt u (expiry p.lease)) (owed h t) (ap (list_any (λ (p : Pair). p.version.ver == v)) (sym (owed_later h t u le)) ∙ b)) k

-- ---- versions, by one event

not_new : (h : List Event) (x : Version) (t v : ℕ) → is_allowed (Fetched x) t h ≡ true → has (is_fetched v) h ≡ true → (x.ver == v) ≡ true → ⊥
not_new h x t v ok there k =
    let new : last_version h < x.ver = ltb-true _ _ ok in
    let old : v ≤ last_version h = fetched_le h v there in
    let same : x.ver ≡ v = eqb-true x.ver v k in
    absurd (omega arith)

latest_before : (w : What) (h : List Event) (t v : ℕ) → is_allowed w t h ≡ true → has (is_fetched v) h ≡ true → list_any (λ (x : Version). x.ver == v) (latest_after w (latest h)) ≡ true → list_any (λ (x : Version). x.ver == v) (latest h) ≡ true
latest_before (Fetched x) h t v ok there k = elim (or_cases (x.ver == v) (list_any (λ (y : Version). y.ver == v) (filter (λ y. not (bytes_eq x.topic y.topic)) (latest h))) k) [
  | inl a ↦ absurd (not_new h x t v ok there a)
  | inr b ↦ any_of_filter (λ (y : Version). y.ver == v) (λ y. not (bytes_eq x.topic y.topic)) (latest h) b
]
latest_before _ h t v ok there k = k

abbrev is_of : ℕ → OwedPush → Bool
is_of v w = w.version.ver == v

afresh_before : (t v : ℕ) (ws : List OwedPush) (ls : List Lease) → list_any (is_of v) (owed_afresh t ws ls) ≡ true → list_any (is_of v) ws ≡ true
afresh_before t v ws [] k = absurd (false≢true k)
afresh_before t v ws (l ∷ ls) k =
    any_of_filter (is_of v) (λ w. same_pair l.intent w.lease.intent) ws (sym (any_map (is_of v) (λ w. new_push t w.version l) (filter (λ w. same_pair l.intent w.lease.intent) ws)) ∙ k)

none_of : (x : Version) (t v : ℕ) (ls : List Lease) → list_any (is_of v) (map (new_push t x) ls) ≡ true → (x.ver == v) ≡ true
none_of x t v [] k = absurd (false≢true k)
none_of x t v (l ∷ ls) k = elim (or_cases (x.ver == v) (list_any (is_of v) (map (new_push t x) ls)) k) [ inl a ↦ a | inr b ↦ none_of x t v ls b ]

new_before : (w : What) (o : Option Intent) (h : List Event) (t v : ℕ) → is_allowed w t h ≡ true → has (is_fetched v) h ≡ true → list_any (is_of v) (new_pushes t w o (view h t)) ≡ true → list_any (is_of v) (map (owed_push h) (owed h t)) ≡ true
new_before (Fetched x) o h t v ok there k = absurd (not_new h x t v ok there (none_of x t v (filter (λ l. bytes_eq l.intent.topic x.topic) (live h t)) k))
new_before (Confirmed n sent) o h t v ok there k = afresh_before t v (map (owed_push h) (owed h t)) (lease_by sent o) k
new_before _ o h t v ok there k = absurd (false≢true k)

owed_before : (h : List Event) (e : Event) (v : ℕ) → Legal (e ∷ h) → has (is_fetched v) h ≡ true → list_any (λ (p : Pair). p.version.ver == v) (owed (e ∷ h) e.t) ≡ true → list_any (λ (p : Pair). p.version.ver == v) (owed h e.t) ≡ true
owed_before h e v l there k =
    let o : Option Intent = confirmed_intent e.what h in
    let ws : List OwedPush = map (owed_push h) (owed h e.t) in
    let all : list_any (is_of v) (new_pushes e.t e.what o (view h e.t) ++ map (after_miss e.t e.what) (filter (stays_owed e.what o) ws)) ≡ true =
    ap (list_any (is_of v)) (sym (owed_step e h l.0 l.1)) ∙ any_map (is_of v) (owed_push (e ∷ h)) (owed (e ∷ h) e.t) ∙ k in
    let was : list_any (is_of v) ws ≡ true = elim (or_cases _ _ (sym (list_any-append (is_of v) (new_pushes e.t e.what o (view h e.t)) (map (after_miss e.t e.what) (filter (stays_owed e.what o) ws))) ∙ all)) [
      | inl a ↦ new_before e.what o h e.t v (allowed h e l.1) there a
      | inr b ↦ any_of_filter (is_of v) (stays_owed e.what o) ws (sym (any_map (is_of v) (after_miss e.t e.what) (filter (stays_owed e.what o) ws)) ∙ b)
    ] in
    sym (any_map (is_of v) (owed_push h) (owed h e.t)) ∙ was

pub drops_version : DropsVersion
drops_version h e v l there k =
    either_more (list_any (λ (w : Version). w.ver == v) (latest (e ∷ h))) (list_any (λ (p : Pair). p.version.ver == v) (owed (e ∷ h) e.t)) _ _
    (λ a. latest_before e.what h e.t v (allowed h e l.1) there (ap (list_any (λ (w : Version). w.ver == v)) (sym (latest_step e h l.1)) ∙ a))
    (owed_before h e v l there) k

-- ---- leases, later

any_more_with : {X : Type 0} (P : X → Type 0) (p q : X → Bool) → ((x : X) → P x → p x ≡ true → q x ≡ true) → (xs : List X) → AllByRecursion P xs → list_any p xs ≡ true → list_any q xs ≡ true
any_more_with P p q f [] a k = absurd (false≢true k)
any_more_with P p q f (x ∷ xs) a k = elim (or_cases (p x) (list_any p xs) k) [ inl b ↦ or_left _ _ (f x a.0 b) | inr b ↦ or_right (q x) _ (any_more_with P p q f xs a.1 b) ]

-- taking over goes by the versions of pairs that are known
takes_more : (f k : ℕ → Bool) (e : Event) (g : List Event) (m n : ℕ) → ((v : ℕ) → has (is_fetched v) g ≡ true → f v ≡ true → k v ≡ true) → takes_over f e g m n ≡ true → takes_over k e g m n ≡ true
takes_more f k e g m n more taken =
    any_more (λ (l : Lease). (l.intent.n == m) && list_any (λ p. (p.lease.intent.n == n) && (f p.version.ver && same_pair l.intent p.lease.intent)) (owed g e.t))
    (λ (l : Lease). (l.intent.n == m) && list_any (λ p. (p.lease.intent.n == n) && (k p.version.ver && same_pair l.intent p.lease.intent)) (owed g e.t))
    (λ l both.
    let parts = and_parts (l.intent.n == m) (list_any (λ p. (p.lease.intent.n == n) && (f p.version.ver && same_pair l.intent p.lease.intent)) (owed g e.t)) both in
    and_from _ _ parts.0
    (any_more_with (IsKnown g) (λ p. (p.lease.intent.n == n) && (f p.version.ver && same_pair l.intent p.lease.intent)) (λ p. (p.lease.intent.n == n) && (k p.version.ver && same_pair l.intent p.lease.intent))
    (λ p known x.
    let a = and_parts (p.lease.intent.n == n) (f p.version.ver && same_pair l.intent p.lease.intent) x in
    let b = and_parts (f p.version.ver) (same_pair l.intent p.lease.intent) a.1 in
    and_from _ _ a.0 (and_from _ _ (more p.version.ver known.fetched b.0) b.1))
    (owed g e.t) (all_filter (IsKnown g) (λ p. is_owed (fate g p e.t)) (pairs g) (pairs_known g)) parts.1))
    (lease_of e.what (confirmed_intent e.what g)) taken

lease_before : (h : List Event) (t u : ℕ) → t ≤ u → {n : ℕ} → IsKeptLease h u n → IsKeptLease h t n
lease_before h t u le (IsLive n k) = IsLive n (any_of_filter (λ (l : Lease). l.intent.n == n) (λ l. nat_lt u (expiry l)) (live h t) (ap (has_number n) (sym (live_later h t u le)) ∙ k))
lease_before h t u le (IsNoticed n a b) = IsNoticed n a b
lease_before h t u le (IsTakenOver c e g m n q taken kept) = IsTakenOver c e g m n q (takes_more (is_kept_version h u) (is_kept_version h t) e g m n (λ v there k. drops_version_later h t u v le k) taken) (lease_before h t u le kept)

pub drops_lease_later : DropsLeaseLater
drops_lease_later h t u n l le k = (keeps_least h t n l).0 (lease_before h t u le ((keeps_least h u n l).1 k))

-- ---- leases, by one event

not_made : (h : List Event) (e : Event) (n : ℕ) → Legal (e ∷ h) → has (is_confirmed n) h ≡ true → has_number n (lease_of e.what (confirmed_intent e.what h)) ≡ true → ⊥
not_made h e n l there k =
    any_then (IsFresh e h) (λ x. x.intent.n == n) ⊥ (λ x fresh q. false≢true (sym fresh.unconfirmed ∙ ap (λ m. has (is_confirmed m) h) (eqb-true x.intent.n n q) ∙ there))
    (lease_of e.what (confirmed_intent e.what h)) (new_fresh e.what e.serial e.t h (allowed h e l.1)) k

live_before : (h : List Event) (e : Event) (n : ℕ) → Legal (e ∷ h) → has (is_confirmed n) h ≡ true → has_number n (live (e ∷ h) e.t) ≡ true → has_number n (live h e.t) ≡ true
live_before h e n l there k =
    let o : Option Intent = confirmed_intent e.what h in
    elim (or_cases _ _ (sym (list_any-append (λ (x : Lease). x.intent.n == n) (lease_of e.what o) (filter (lives_on e.what o) (live h e.t))) ∙ ap (has_number n) (sym (live_step e h l.1)) ∙ k)) [
      | inl a ↦ absurd (not_made h e n l there a)
      | inr b ↦ any_of_filter (λ (x : Lease). x.intent.n == n) (lives_on e.what o) (live h e.t) b
    ]

made_before : (h : List Event) (e : Event) (n : ℕ) → Legal (e ∷ h) → has (is_confirmed n) h ≡ true → has_number n (leases (e ∷ h)) ≡ true → has_number n (leases h) ≡ true
made_before h e n l there k =
    elim (or_cases _ _ (sym (list_any-append (λ (x : Lease). x.intent.n == n) (lease_of e.what (confirmed_intent e.what h)) (leases h)) ∙ k)) [ inl a ↦ absurd (not_made h e n l there a) | inr b ↦ b ]

-- what denies the intent of a lease revokes a live one
denied_now : (w : What) (t : ℕ) (h : List Event) (n : ℕ) → is_allowed w t h ≡ true → has (is_confirmed n) h ≡ true → is_denied n w ≡ true → has_number n (live h t) ≡ true
denied_now (Barred m reason) t h n ok there k = absurd (false≢true (sym (not_confirmed h n (unsettled h n (subst (λ x. is_pending_number h x ≡ true) (eqb-true m n k) (pending_named is_on_one refl h m ok)))) ∙ there))
denied_now (Revoked m reason) t h n ok there k = subst (λ x. has_number x (live h t) ≡ true) (eqb-true m n k) ok
denied_now _ t h n ok there k = absurd (false≢true k)

pub fewer : (b : Bool) (k : ℕ) → nat_lt (cond b (suc k) k) 3 ≡ true → nat_lt k 3 ≡ true
fewer true k e = grind (arith, nat_tests)
fewer false k e = e

pub notice_before : (h : List Event) (e : Event) (n : ℕ) → has (is_denied n) h ≡ true → is_owed_notice_number (e ∷ h) n ≡ true → is_owed_notice_number h n ≡ true
notice_before h e n denied k =
    let parts = and_parts (has (is_denied n) (e ∷ h) && not (has (is_noticed n true) (e ∷ h))) (nat_lt (times (is_noticed n false) (e ∷ h)) 3) k in
    let unheard = not-true (has (is_noticed n true) (e ∷ h)) (and_parts (has (is_denied n) (e ∷ h)) _ parts.0).1 in
    and_from _ _ (and_from _ _ denied (ap not (or_parts (is_noticed n true e.what) (has (is_noticed n true) h) unheard).1)) (fewer (is_noticed n false e.what) (times (is_noticed n false) h) parts.1)

asked_there : (h : List Event) (n : ℕ) → Legal h → has_number n (leases h) ≡ true → list_any (λ (i : Intent). i.n == n) (asked h) ≡ true
asked_there h n l k =
    any_then (λ (x : Lease). find (λ (i : Intent). i.n == x.intent.n) (asked h) ≡ Some x.intent) (λ x. x.intent.n == n) (list_any (λ (i : Intent). i.n == n) (asked h) ≡ true)
    (λ x f q. subst (λ m. list_any (λ (i : Intent). i.n == m) (asked h) ≡ true) (eqb-true x.intent.n n q) (sym (some_found (λ (i : Intent). i.n == x.intent.n) (asked h)) ∙ ap is_some f))
    (leases h) (leases_asked h l) k

noticed_before : (h : List Event) (e : Event) (n : ℕ) → Legal (e ∷ h) → has (is_confirmed n) h ≡ true → has_number n (leases (e ∷ h)) ≡ true → is_among (notices (e ∷ h)) n ≡ true → IsKeptLease h e.t n
noticed_before h e n l there made k =
    let number : is_owed_notice_number (e ∷ h) n ≡ true =
    any_then (λ (i : Intent). Unit {0} × (is_owed_notice (e ∷ h) i ≡ true)) (λ i. i.n == n) (is_owed_notice_number (e ∷ h) n ≡ true)
    (λ i x q. subst (λ m. is_owed_notice_number (e ∷ h) m ≡ true) (eqb-true i.n n q) x.1)
    (notices (e ∷ h)) (all_filter_with (λ (i : Intent). Unit {0}) (is_owed_notice (e ∷ h)) (asked (e ∷ h)) (all_from (λ (i : Intent). Unit {0}) (λ i. tt) (asked (e ∷ h)))) k in
    let parts = and_parts (has (is_denied n) (e ∷ h) && not (has (is_noticed n true) (e ∷ h))) (nat_lt (times (is_noticed n false) (e ∷ h)) 3) number in
    elim (or_cases (is_denied n e.what) (has (is_denied n) h) (and_parts (has (is_denied n) (e ∷ h)) _ parts.0).0) [
      | inl now ↦ IsLive n (denied_now e.what e.t h n (allowed h e l.1) there now)
      | inr before ↦
          let old : has_number n (leases h) ≡ true = made_before h e n l there made in
          IsNoticed n old
          (any_kept (is_owed_notice h) (λ (i : Intent). i.n == n) (λ i q. subst (λ m. is_owed_notice_number h m ≡ true) (sym (eqb-true i.n n q)) (notice_before h e n before number)) (asked h) (asked_there h n l.0 old))
    ]

-- a lease that something is owed to is live
owed_live : (h : List Event) (t n : ℕ) → Legal h → list_any (λ (p : Pair). p.lease.intent.n == n) (owed h t) ≡ true → has_number n (live h t) ≡ true
owed_live h t n l k =
    any_then (λ p. IsToldPair h p × (is_owed (fate h p t) ≡ true)) (λ p. p.lease.intent.n == n) (has_number n (live h t) ≡ true)
    (λ p a q. subst (λ m. has_number m (live h t) ≡ true) (eqb-true p.lease.intent.n n q) (sym (some_found (λ (x : Lease). x.intent.n == p.lease.intent.n) (live h t)) ∙ ap is_some (owed_lives h t p a.0 a.1)))
    (owed h t) (all_filter_with (IsToldPair h) (λ p. is_owed (fate h p t)) (pairs h) (pairs_told h l)) k

-- of what takes over: the lease that it was owed to, and the one that is made
pub taken_owed : (f : ℕ → Bool) (e : Event) (g : List Event) (m n : ℕ) → takes_over f e g m n ≡ true → list_any (λ (p : Pair). p.lease.intent.n == n) (owed g e.t) ≡ true
taken_owed f e g m n taken =
    any_then (λ (x : Lease). Unit {0}) (λ x. (x.intent.n == m) && list_any (λ p. (p.lease.intent.n == n) && (f p.version.ver && same_pair x.intent p.lease.intent)) (owed g e.t)) (list_any (λ (p : Pair). p.lease.intent.n == n) (owed g e.t) ≡ true)
    (λ x u q. any_more (λ p. (p.lease.intent.n == n) && (f p.version.ver && same_pair x.intent p.lease.intent)) (λ p. p.lease.intent.n == n) (λ p a. (and_parts (p.lease.intent.n == n) _ a).0) (owed g e.t)
    (and_parts (x.intent.n == m) (list_any (λ p. (p.lease.intent.n == n) && (f p.version.ver && same_pair x.intent p.lease.intent)) (owed g e.t)) q).1)
    (lease_of e.what (confirmed_intent e.what g)) (all_from (λ (x : Lease). Unit {0}) (λ x. tt) (lease_of e.what (confirmed_intent e.what g))) taken

taken_made : (f : ℕ → Bool) (e : Event) (g : List Event) (m n : ℕ) → takes_over f e g m n ≡ true → has (is_confirmed m) (e ∷ g) ≡ true
taken_made f e g m n taken =
    let made : has_number m (lease_of e.what (confirmed_intent e.what g)) ≡ true =
    any_more (λ x. (x.intent.n == m) && list_any (λ p. (p.lease.intent.n == n) && (f p.version.ver && same_pair x.intent p.lease.intent)) (owed g e.t)) (λ x. x.intent.n == m)
    (λ x a. (and_parts (x.intent.n == m) _ a).0) (lease_of e.what (confirmed_intent e.what g)) taken in
    any_then (IsOfConfirmed (e ∷ g)) (λ x. x.intent.n == m) (has (is_confirmed m) (e ∷ g) ≡ true)
    (λ x c q. subst (λ i. has (is_confirmed i) (e ∷ g) ≡ true) (eqb-true x.intent.n m q) c)
    (leases (e ∷ g)) (leases_confirmed (e ∷ g)) (list_any-append (λ (x : Lease). x.intent.n == m) (lease_of e.what (confirmed_intent e.what g)) (leases g) ∙ or_left _ _ made)

pub has_behind : (test : What → Bool) (c g : List Event) → has test g ≡ true → has test (c ++ g) ≡ true
has_behind test c g k = list_any-append (λ (e : Event). test e.what) c g ∙ or_right _ _ k

first_is : (d e : Event) (g h : List Event) → d ∷ g ≡ e ∷ h → (d ≡ e) × (g ≡ h)
first_is d e g h k = (cc, cc)

lease_after : (h : List Event) (e : Event) → Legal (e ∷ h) → {n : ℕ} → has (is_confirmed n) h ≡ true → IsKeptLease (e ∷ h) e.t n → IsKeptLease h e.t n
lease_after h e l there (IsLive n k) = IsLive n (live_before h e n l there k)
lease_after h e l there (IsNoticed n made k) = noticed_before h e n l there made k
lease_after h e l there (IsTakenOver [] d g m n q taken kept) =
    let same = first_is e d h g q in
    IsLive n (owed_live h e.t n l.0 ((λ j. list_any (λ (p : Pair). p.lease.intent.n == n) (owed (same.1 j) (same.0 j).t)) ∙ taken_owed (is_kept_version (e ∷ h) e.t) d g m n taken))
lease_after h e l there (IsTakenOver (x ∷ c) d g m n q taken kept) =
    let rest : h ≡ c ++ d ∷ g = (first_is e x h (c ++ d ∷ g) q).1 in
    let made : has (is_confirmed m) h ≡ true = ap (has (is_confirmed m)) rest ∙ has_behind (is_confirmed m) c (d ∷ g) (taken_made (is_kept_version (e ∷ h) e.t) d g m n taken) in
    IsTakenOver c d g m n rest
    (takes_more (is_kept_version (e ∷ h) e.t) (is_kept_version h e.t) d g m n
    (λ v known k. drops_version h e v l (ap (has (is_fetched v)) rest ∙ has_behind (is_fetched v) c (d ∷ g) (or_right _ _ known)) k) taken)
    (lease_after h e l made kept)

pub drops_lease : DropsLease
drops_lease h e n l there k = (keeps_least h e.t n l.0).0 (lease_after h e l there ((keeps_least (e ∷ h) e.t n l).1 k))
