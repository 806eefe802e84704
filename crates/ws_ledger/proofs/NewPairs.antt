-- What an event makes, told before it is applied: pairs, and a lease that replaces another one.
use Rattle.std.proofs.Common.{◌≡◌, ℕ, ◌≤◌, Bool, true, false, cond, ◌||◌, List, [], ◌∷◌, refl, ap, sym, ◌∙◌, subst, arith}
use Rattle.std.specs.Prelude.{bytes_eq, find, is_some, IsSomeAnd, Option, Some, None, filter}
use Rattle.std.specs.List.{list_any}
use Rattle.std.specs.Option.{option_map}
use Rattle.ws_model.specs.declared.event.Event.{Event}
use Rattle.ws_model.specs.declared.event.Intent.{Intent}
use Rattle.ws_model.specs.declared.event.Mode.{Mode}
use Rattle.ws_model.specs.declared.event.Mode.TheVariants.{Off}
use Rattle.ws_model.specs.declared.event.Version.{Version}
use Rattle.ws_model.specs.declared.event.What.{What}
use Rattle.ws_model.specs.declared.event.What.TheVariants.{Asked, Confirmed, Declined, Unheard, Barred, Noticed, Pinged, Fetched, Same, Unfetched, Pushed, Tally, Revoked}
use Rattle.ws_model.specs.declared.lease.Lease.{Lease}
use Rattle.ws_model.specs.Fate.{fate}
use Rattle.ws_model.specs.Intents.{same_pair}
use Rattle.ws_model.specs.Leases.{confirmed_intent, is_on, lease_of, live}
use Rattle.ws_model.specs.Legal.{Legal, pending_of}
use Rattle.ws_model.specs.Revocation.{is_lease_of}
use Rattle.ws_model.specs.Verdict.{fate_of, pair_of}
use Rattle.ws_model.specs.View.{view}
use Rattle.ws_laws.specs.Steps.{new_pushes, owed_afresh}
use Rattle.ws_laws.proofs.ListLaws.{all_from}
use Rattle.ws_intent.specs.declared.rows.Waiting.{Waiting}
use Rattle.ws_intent.specs.Rows.{number_at}
use Rattle.ws_lease.specs.Stands.{AreNumbersOf}
use Rattle.ws_lease.proofs.Standing.{pair_turned}
use Rattle.ws_fate.specs.declared.totals.Standing.{Standing}
use Rattle.ws_fate.specs.declared.totals.Standing.TheVariants.{Open}
use Rattle.ws_fate.specs.Rows.{standing_at}
use Rattle.ws_fate.specs.Stands.{by_event, is_pair}
use Rattle.ws_fate.specs.Totals.{standing}
use Rattle.ws_fate.proofs.Stepping.{shows_after}
use Rattle.ws_core_tables.proofs.Confirmation.{IsThere, confirmed_is, there}
use Rattle.ws_core_tables.proofs.NewLease.{makes_lease}
use Rattle.ws_core_tables.proofs.Renewal.{find_same}
use Rattle.ws_ledger.specs.Births.{AreBirths, FindsBirths, FindsRenewal, makes_pairs, renewal_of}
use Rattle.ws_ledger.specs.Pairs.{is_listed, moved_to, open_pairs_of, with_version}
use Rattle.ws_ledger.specs.Rows.{Rows}
use Rattle.ws_ledger.specs.Stands.{StandsFor, kept}
use Rattle.ws_ledger.proofs.Bearing.{lease_made, lease_meant, new_lease, new_version, version_made}
use Rattle.ws_ledger.proofs.ByKind.{meant_listed}
use Rattle.ws_ledger.proofs.OwedPairs.{some-map}

-- ---- which pairs a history has with the event

some_after : (b : Bool) (f : Standing → Standing) (o : Option Standing) → is_some (cond b (Some Open) (option_map f o)) ≡ (b || is_some o)
some_after true f o = refl
some_after false f o = some-map f o

some_pair : (h : List Event) (t v n : ℕ) → is_some (option_map standing (fate_of h v n t)) ≡ is_some (pair_of h v n)
some_pair h t v n = some-map standing (fate_of h v n t) ∙ some-map (λ p. fate h p t) (pair_of h v n)

all_made :
    (e : Event) (h : List Event) (births : List (ℕ × ℕ)) → Legal (e ∷ h) → ((v n : ℕ) → list_any (is_pair v n) (new_pushes e.t e.what (confirmed_intent e.what h) (view h e.t)) ≡ is_listed v n births)
    → (v n : ℕ) → is_some (pair_of (e ∷ h) v n) ≡ (is_listed v n births || is_some (pair_of h v n))
all_made e h births l made v n =
    sym (some_pair (e ∷ h) e.t v n)
    ∙ ap is_some (sym (shows_after e h l v n))
    ∙ some_after (list_any (is_pair v n) (new_pushes e.t e.what (confirmed_intent e.what h) (view h e.t))) (by_event e.t e.what (confirmed_intent e.what h) (find (is_pair v n) (view h e.t).owed)) (option_map standing (fate_of h v n e.t))
    ∙ (λ j. made v n j || some_pair h e.t v n j)

-- a pair that the table doesn't have the history doesn't have
none_there : (h : List Event) (since v n : ℕ) (rows : Rows) → StandsFor h since rows → standing_at v n rows.fates ≡ None → pair_of h v n ≡ None
none_there h since v n rows s k = by (pair_of h v n) refl
  where
    some_kept : is_some (standing_at v n rows.fates) ≡ is_some (pair_of h v n)
    some_kept = ap is_some (s.shows since v n (omega arith)) ∙ some-map kept (option_map standing (fate_of h v n since)) ∙ some_pair h since v n

    by : (o : Option _) → pair_of h v n ≡ o → pair_of h v n ≡ None
    by None q = q
    by (Some p) q = absurd (other (sym (ap is_some k) ∙ some_kept ∙ ap is_some q))
      where
        other : false ≡ true → ⊥
        other j = cc

-- ---- by the kind of the event

pub by_fetch :
    (e : Event) (x : Version) (ns : List ℕ) (rows : Rows) → e.what ≡ Fetched x
    → ((h : List Event) (since : ℕ) → StandsFor h since rows → Legal h → since ≤ e.t → AreNumbersOf ns (filter (λ l. bytes_eq l.intent.topic x.topic) (live h e.t)))
    → FindsBirths e rows (with_version x.ver ns)
by_fetch e x ns rows kind numbers h since s l k =
    record {
      fresh = λ v n q. none_there h since v n rows s (new_version e h since x ns rows s l kind v n q);
      all = all_made e h (with_version x.ver ns) l (version_made e h x ns kind (numbers h since s l.0 k));
    }

pub by_lease :
    (e : Event) (n sent : ℕ) (i : Intent) (o : Option ℕ) (rows : Rows) → e.what ≡ Confirmed n sent → is_on i.mode ≡ true → i.n ≡ n
    → ((h : List Event) (since : ℕ) → StandsFor h since rows → Some i ≡ pending_of h n)
    → ((h : List Event) (since : ℕ) → StandsFor h since rows → Legal h → since ≤ e.t → o ≡ lease_meant h e.t i)
    → FindsBirths e rows (moved_to n (open_pairs_of o rows.tables.deliveries))
by_lease e n sent i o rows kind on is waits meant h since s l k =
    subst (λ m. AreBirths e h (moved_to m (open_pairs_of o rows.tables.deliveries))) is (record {
      fresh = λ v m q. none_there h since v m rows s (new_lease e h since made (open_pairs_of o rows.tables.deliveries) rows s l (makes_lease e h n sent i kind (waits h since s)) on v m q);
      all =
          all_made e h (moved_to i.n (open_pairs_of o rows.tables.deliveries)) l
          (lease_made e h made o rows.tables.deliveries l (makes_lease e h n sent i kind (waits h since s)) on (meant h since s l.0 k) (meant_listed rows i o h since e.t s l.0 k (meant h since s l.0 k)));
    })
  where
    made : Lease
    made = record { intent = i; sent = sent }

none_made : (e : Event) (h : List Event) → Legal (e ∷ h) → new_pushes e.t e.what (confirmed_intent e.what h) (view h e.t) ≡ [] → AreBirths e h []
none_made e h l none = record { fresh = λ v n q. absurd (other q); all = all_made e h [] l (λ v n. ap (list_any (is_pair v n)) none) }
  where
    other : false ≡ true → ⊥
    other j = cc

-- the pending intent that asks for the end of a subscription
pub asks_off :
    (n : ℕ) (inside rows : Rows) (mode : Mode) → inside ≡ rows → mode ≡ Off → IsSomeAnd (number_at n inside.tables.intents.pending) (λ w. w.intent.mode ≡ mode)
    → IsThere (λ (w : Waiting). is_on w.intent.mode ≡ false) (number_at n rows.tables.intents.pending)
asks_off n inside rows mode same off k =
    let w = there (λ (w : Waiting). w.intent.mode ≡ mode) (number_at n inside.tables.intents.pending) k in
    record { it = w.it; is = w.is ∙ ap (λ (r : Rows). number_at n r.tables.intents.pending) same; has = ap is_on (w.has ∙ off) }

-- the end of a subscription makes no pair
pub by_end :
    (e : Event) (n sent : ℕ) (i : Intent) (rows : Rows) → e.what ≡ Confirmed n sent → is_on i.mode ≡ false → ((h : List Event) (since : ℕ) → StandsFor h since rows → Some i ≡ pending_of h n) → FindsBirths e rows []
by_end e n sent i rows kind off waits h since s l k = none_made e h l ((λ j. new_pushes e.t (kind j) (confirmed_is e h n sent i kind (waits h since s) j) (view h e.t)) ∙ ap (λ b. owed_afresh e.t (view h e.t).owed (cond b (made ∷ []) [])) off)
  where
    made : Lease
    made = record { intent = i; sent = sent }

-- nor do the other kinds
no_pushes : (t : ℕ) (w : What) (h : List Event) → makes_pairs w ≡ false → new_pushes t w (confirmed_intent w h) (view h t) ≡ []
no_pushes t (Fetched v) h k = absurd (cc)
no_pushes t (Confirmed n sent) h k = absurd (cc)
no_pushes t (Asked i) h k = refl
no_pushes t (Declined n code) h k = refl
no_pushes t (Unheard n) h k = refl
no_pushes t (Barred n reason) h k = refl
no_pushes t (Noticed n heard) h k = refl
no_pushes t (Pinged topic) h k = refl
no_pushes t (Same topic upto) h k = refl
no_pushes t (Unfetched topic upto why) h k = refl
no_pushes t (Pushed v n how) h k = refl
no_pushes t (Tally c) h k = refl
no_pushes t (Revoked n reason) h k = refl

pub nothing_born : (e : Event) (h : List Event) → Legal (e ∷ h) → makes_pairs e.what ≡ false → AreBirths e h []
nothing_born e h l none = none_made e h l (no_pushes e.t e.what h none)

pub by_none : (e : Event) (rows : Rows) → makes_pairs e.what ≡ false → FindsBirths e rows []
by_none e rows none h since s l k = nothing_born e h l none

-- ---- which lease is replaced

same_lease : (i : Intent) (ls : List Lease) → find (is_lease_of i.topic i.callback) ls ≡ find (λ m. same_pair i m.intent) ls
same_lease i ls = find_same (is_lease_of i.topic i.callback) (λ m. same_pair i m.intent) ls (all_from (λ m. is_lease_of i.topic i.callback m ≡ same_pair i m.intent) (pair_turned i) ls)

with_number : (n : ℕ) (o : Option Lease) → option_map {U = ℕ × ℕ} (λ m. (n, m)) (option_map (λ l. l.intent.n) o) ≡ option_map {U = ℕ × ℕ} (λ l. (n, l.intent.n)) o
with_number n None = refl
with_number n (Some l) = refl

pub renews :
    (e : Event) (n sent : ℕ) (i : Intent) (o : Option ℕ) (rows : Rows) → e.what ≡ Confirmed n sent → is_on i.mode ≡ true → i.n ≡ n
    → ((h : List Event) (since : ℕ) → StandsFor h since rows → Some i ≡ pending_of h n)
    → ((h : List Event) (since : ℕ) → StandsFor h since rows → Legal h → since ≤ e.t → o ≡ lease_meant h e.t i)
    → FindsRenewal e rows (option_map {U = ℕ × ℕ} (λ m. (n, m)) o)
renews e n sent i o rows kind on is waits meant h since s l k =
    ap (option_map {U = ℕ × ℕ} (λ m. (n, m))) (meant h since s l.0 k)
    ∙ with_number n (find (is_lease_of i.topic i.callback) (live h e.t))
    ∙ (λ j. option_map {U = ℕ × ℕ} (λ l. (sym is j, l.intent.n)) (same_lease i (live h e.t) j))
    ∙ sym (ap (λ b. renewal_of (live h e.t) (cond b (record { intent = i; sent = sent } ∷ []) [])) on)
    ∙ sym (λ j. renewal_of (live h e.t) (lease_of (kind j) (confirmed_is e h n sent i kind (waits h since s) j)))

pub ends_only :
    (e : Event) (n sent : ℕ) (i : Intent) (rows : Rows) → e.what ≡ Confirmed n sent → is_on i.mode ≡ false → ((h : List Event) (since : ℕ) → StandsFor h since rows → Some i ≡ pending_of h n) → FindsRenewal e rows None
ends_only e n sent i rows kind off waits h since s l k =
    sym ((λ j. renewal_of (live h e.t) (lease_of (kind j) (confirmed_is e h n sent i kind (waits h since s) j))) ∙ ap (λ b. renewal_of (live h e.t) (cond b (record { intent = i; sent = sent } ∷ []) [])) off)

no_lease : (w : What) (h : List Event) → makes_pairs w ≡ false → lease_of w (confirmed_intent w h) ≡ []
no_lease (Fetched v) h k = refl
no_lease (Confirmed n sent) h k = absurd (cc)
no_lease (Asked i) h k = refl
no_lease (Declined n code) h k = refl
no_lease (Unheard n) h k = refl
no_lease (Barred n reason) h k = refl
no_lease (Noticed n heard) h k = refl
no_lease (Pinged topic) h k = refl
no_lease (Same topic upto) h k = refl
no_lease (Unfetched topic upto why) h k = refl
no_lease (Pushed v n how) h k = refl
no_lease (Tally c) h k = refl
no_lease (Revoked n reason) h k = refl

pub renews_nothing : (e : Event) (rows : Rows) → ((h : List Event) → lease_of e.what (confirmed_intent e.what h) ≡ []) → FindsRenewal e rows None
renews_nothing e rows none h since s l k = sym (ap (renewal_of (live h e.t)) (none h))
