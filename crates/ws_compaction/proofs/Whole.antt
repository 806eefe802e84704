-- What a compaction keeps has the view of the whole history.
use Rattle.std.proofs.Common.{◌≡◌, ℕ, ◌≤◌, Bool, true, false, not, ◌||◌, List, [], ◌∷◌, ◌++◌, length, refl, ap, sym, ◌∙◌, subst, arith, inl, inr, ◌⊎◌}
use Rattle.std.specs.Prelude.{map, ◌==◌}
use Rattle.std.specs.List.{AllByRecursion, list_any}
use Rattle.std.proofs.lemmas.Bool.{and_parts, eqb-true, false≢true, not-true, or_cases, or_left, or_right}
use Rattle.std.proofs.lemmas.List.{length-map}
use Rattle.ws_model.specs.declared.event.Event.{Event}
use Rattle.ws_model.specs.declared.event.Intent.{Intent}
use Rattle.ws_model.specs.declared.event.Tally.{Tally as TallyFields}
use Rattle.ws_model.specs.declared.event.Version.{Version}
use Rattle.ws_model.specs.declared.event.What.{What}
use Rattle.ws_model.specs.declared.event.What.TheVariants.{Asked, Confirmed, Declined, Unheard, Barred, Noticed, Pinged, Fetched, Same, Unfetched, Pushed, Tally, Revoked}
use Rattle.ws_model.specs.declared.fate.Cause.TheVariants.{Expired, Unsubscribed, Replaced, Gone, Spent, Revoked as LeaseRevoked}
use Rattle.ws_model.specs.declared.fate.Fate.{Fate}
use Rattle.ws_compaction.proofs.Choice.{all_right, choice, kept_of, live_numbers, owed_numbers}
use Rattle.ws_compaction.proofs.Fetches.{AreLatestKept, fetches_same, found_in, latest_same}
use Rattle.ws_compaction.proofs.Looks.{intent_kept, serial_kept, time_kept, version_kept}
use Rattle.ws_compaction.proofs.Replaced.{kept_more, member_right, noticed_denied, starts_right, unbarred_revoked}
use Rattle.ws_compaction.proofs.Requests.{AreNoticed, AreStanding, AreUnrevoked, IsStanding, notices_same, waiting_same}
use Rattle.ws_compaction.proofs.Shrunk.{AreRight, live_same, owed_same, shrunk_is}
use Rattle.ws_compaction.proofs.Totals.{total_kept}
use Rattle.ws_compaction.proofs.Unrevoked.{kept_confirmed, kept_unrevoked, revoked_kept}
use Rattle.ws_compaction.specs.Compaction.{KeepsView, with_time}
use Rattle.ws_laws.proofs.Denied.{is_barred, is_revoked, revoked_confirmed}
use Rattle.ws_laws.proofs.Known.{itself}
use Rattle.ws_laws.proofs.ListLaws.{all_filter_with, all_from, all_weaker, any_then, filter_same}
use Rattle.ws_laws.proofs.Moments.{last_time_le}
use Rattle.ws_model.specs.Account.{account, is_answered, is_ended, tallies_of, total}
use Rattle.ws_model.specs.Fate.{Pair, fate, is_owed}
use Rattle.ws_model.specs.History.{has}
use Rattle.ws_model.specs.Intents.{asked, is_owed_notice, is_pending, is_settled, notices, pending}
use Rattle.ws_model.specs.Keep.{first_kept, forgotten, is_among, is_kept_miss, is_kept_ping, keep, keeps, kept_leases, member, numbers, tally}
use Rattle.ws_model.specs.Leases.{live}
use Rattle.ws_model.specs.Legal.{Legal}
use Rattle.ws_model.specs.Moment.{intent_number, last_time, serial, time, version_number}
use Rattle.ws_model.specs.Pairs.{owed, pairs}
use Rattle.ws_model.specs.Verdict.{is_kept_version}
use Rattle.ws_model.specs.Versions.{fetches, is_version, latest, latest_of, versions}
use Rattle.ws_model.specs.View.{owed_fetch, owed_notice, owed_push, view, waiting}

module _ (h : List Event) (t : ℕ) where
  abbrev pub pending_in : ℕ → Bool
  pending_in n = is_among (pending h) n

  abbrev pub noticed_in : ℕ → Bool
  noticed_in n = is_among (notices h) n

  abbrev pub version_in : ℕ → Bool
  version_in v = is_kept_version h t v

  -- what the Tally says
  abbrev pub head : TallyFields
  head =
      record {
        now = t;
        serial = serial h;
        intent = intent_number h;
        version = version_number h;
        answered = forgotten is_answered (λ c. c.answered) h t;
        expired = forgotten (is_ended Expired) (λ c. c.expired) h t;
        unsubscribed = forgotten (is_ended Unsubscribed) (λ c. c.unsubscribed) h t;
        replaced = forgotten (is_ended Replaced) (λ c. c.replaced) h t;
        gone = forgotten (is_ended Gone) (λ c. c.gone) h t;
        spent = forgotten (is_ended Spent) (λ c. c.spent) h t;
        revoked = forgotten (is_ended LeaseRevoked) (λ c. c.revoked) h t;
      }

  abbrev pub choose : Event → What → Bool
  choose e w = choice head pending_in noticed_in version_in (kept_leases h t) (is_kept_ping h) (is_kept_miss h) e w

  abbrev pub passes : Event → Bool
  passes e = choose e e.what

  abbrev pub leases_in : ℕ → Bool
  leases_in n = member n (kept_leases h t)

  -- what is kept of a part of the history
  abbrev pub kept : List Event → List Event
  kept g = kept_of head pending_in noticed_in version_in (kept_leases h t) (is_kept_ping h) (is_kept_miss h) g

  keeps_choice : (e : Event) (w : What) → keeps h t e w ≡ choose e w
  keeps_choice e (Asked i) = refl
  keeps_choice e (Confirmed n sent) = refl
  keeps_choice e (Declined n code) = refl
  keeps_choice e (Unheard n) = refl
  keeps_choice e (Barred n reason) = refl
  keeps_choice e (Noticed n heard) = refl
  keeps_choice e (Pinged topic) = refl
  keeps_choice e (Fetched v) = refl
  keeps_choice e (Same topic upto) = refl
  keeps_choice e (Unfetched topic upto why) = refl
  keeps_choice e (Pushed v n how) = refl
  keeps_choice e (Tally c) = refl
  keeps_choice e (Revoked n reason) = refl

  pub keep_is : keep h t ≡ kept h
  keep_is =
      ap (λ es. es ++ tally h t ∷ []) (filter_same (λ e. keeps h t e e.what) passes h (all_from (λ (e : Event). keeps h t e e.what ≡ passes e) (λ e. keeps_choice e e.what) h))
      ∙ shrunk_is head passes leases_in version_in h

  pub no_tally_chosen : (e : Event) (w : What) → choose e w ≡ true → tallies_of w ≡ []
  no_tally_chosen e (Tally c) k = absurd (false≢true k)
  no_tally_chosen e _ k = refl

  -- ---- what the choice keeps

  like_itself : (i : Intent) → (i.n == i.n) ≡ true
  like_itself i = itself i.n

  pending_all : AllByRecursion (λ (i : Intent). pending_in i.n ≡ true) (pending h)
  pending_all =
      all_weaker (λ (i : Intent). (is_pending h i ≡ true → list_any (λ j. j.n == i.n) (pending h) ≡ true) × (is_pending h i ≡ true)) (λ (i : Intent). pending_in i.n ≡ true) (λ i k. k.0 k.1) (pending h)
      (all_filter_with (λ (i : Intent). is_pending h i ≡ true → list_any (λ j. j.n == i.n) (pending h) ≡ true) (is_pending h) (asked h) (found_in (λ j i. j.n == i.n) (is_pending h) like_itself (asked h)))

  noticed_all : AllByRecursion (λ (i : Intent). is_owed_notice h i ≡ true → noticed_in i.n ≡ true) (asked h)
  noticed_all = found_in (λ j i. j.n == i.n) (is_owed_notice h) like_itself (asked h)

  latest_all : AreLatestKept head pending_in noticed_in version_in (kept_leases h t) (fetches h) h
  latest_all =
      all_weaker (λ (v : Version). is_version v.ver (latest_of v.topic h) ≡ true → list_any (λ w. w.ver == v.ver) (latest h) ≡ true) (λ (v : Version). is_version v.ver (latest_of v.topic h) ≡ true → version_in v.ver ≡ true)
      (λ v f k. or_left _ _ (f k)) (versions h) (found_in (λ (w v : Version). w.ver == v.ver) (λ v. is_version v.ver (latest_of v.topic h)) (λ v. itself v.ver) (versions h))

  owed_versions : AllByRecursion (λ (p : Pair). version_in p.version.ver ≡ true) (owed h t)
  owed_versions =
      all_weaker (λ (p : Pair). (is_owed (fate h p t) ≡ true → list_any (λ q. q.version.ver == p.version.ver) (owed h t) ≡ true) × (is_owed (fate h p t) ≡ true)) (λ (p : Pair). version_in p.version.ver ≡ true)
      (λ p k. or_right (list_any (λ w. w.ver == p.version.ver) (latest h)) _ (k.0 k.1)) (owed h t)
      (all_filter_with (λ (p : Pair). is_owed (fate h p t) ≡ true → list_any (λ q. q.version.ver == p.version.ver) (owed h t) ≡ true) (λ p. is_owed (fate h p t)) (pairs h)
      (found_in (λ (q p : Pair). q.version.ver == p.version.ver) (λ p. is_owed (fate h p t)) (λ p. itself p.version.ver) (pairs h)))

  module _ (l : Legal h) (le : last_time h ≤ t) where
    pub right : AreRight head passes leases_in version_in h
    right = all_right head pending_in noticed_in version_in (kept_leases h t) (is_kept_ping h) (is_kept_miss h) h l (first_kept h t) refl (starts_right version_in h t l le)

    revoked_in : (n : ℕ) → noticed_in n ≡ true → has (is_revoked n) h ≡ true → leases_in n ≡ true
    revoked_in n k r = kept_more version_in h (first_kept h t) n (member_right n (numbers (live h t)) _ (revoked_kept h t l n r k))

    standing_pending : (n : ℕ) → pending_in n ≡ true → has (is_settled n) h ≡ false
    standing_pending n k =
        any_then (λ (i : Intent). is_pending h i ≡ true) (λ i. i.n == n) (has (is_settled n) h ≡ false)
        (λ i p e. subst (λ m. has (is_settled m) h ≡ false) (eqb-true i.n n e) (not-true _ (and_parts (not (has (is_settled i.n) h)) _ p).0))
        (pending h) (all_weaker (λ (i : Intent). Unit {0} × (is_pending h i ≡ true)) (λ i. is_pending h i ≡ true) (λ i p. p.1) (pending h) (all_filter_with (λ (i : Intent). Unit {0}) (is_pending h) (asked h) (all_from (λ (i : Intent). Unit {0}) (λ i. tt) (asked h)))) k

    pub standing : AreStanding head pending_in noticed_in version_in (kept_leases h t) (is_kept_ping h) (is_kept_miss h) h
    standing n k = elim (or_cases (pending_in n || noticed_in n) (leases_in n) k) [
      | inl a ↦ elim (or_cases (pending_in n) (noticed_in n) a) [
        | inl p ↦ inl (p, standing_pending n p)
        | inr q ↦ by (has (is_barred n) h) refl q
      ]
      | inr c ↦ inr (inl (c, inl (kept_confirmed version_in h t n l c)))
    ]
      where
        by : (b : Bool) → has (is_barred n) h ≡ b → noticed_in n ≡ true → IsStanding head pending_in noticed_in version_in (kept_leases h t) (is_kept_ping h) (is_kept_miss h) h n
        by true b q = inr (inr (q, inl b))
        by false b q =
            let r : has (is_revoked n) h ≡ true = unbarred_revoked n h (noticed_denied h n q) b in
            inr (inl (revoked_in n q r, inl (revoked_confirmed h l n r)))

    pub noticed : AreNoticed head pending_in noticed_in version_in (kept_leases h t) (is_kept_ping h) (is_kept_miss h) h
    noticed n k = by (has (is_revoked n) h) refl
      where
        by : (b : Bool) → has (is_revoked n) h ≡ b → (leases_in n ≡ true) ⊎ (has (is_revoked n) h ≡ false)
        by true r = inl (revoked_in n k r)
        by false r = inr r

    unrevoked : AreUnrevoked head pending_in noticed_in version_in (kept_leases h t) (is_kept_ping h) (is_kept_miss h) h
    unrevoked n k none = kept_unrevoked version_in h t n l le k none

    -- ---- the parts of the view

    pub same_pending : map (waiting (kept h)) (pending (kept h)) ≡ map (waiting h) (pending h)
    same_pending = waiting_same head pending_in noticed_in version_in (kept_leases h t) (is_kept_ping h) (is_kept_miss h) h standing pending_all

    pub same_notices : map (owed_notice (kept h)) (notices (kept h)) ≡ map (owed_notice h) (notices h)
    same_notices = notices_same head pending_in noticed_in version_in (kept_leases h t) (is_kept_ping h) (is_kept_miss h) h noticed unrevoked noticed_all

    pub same_live : live (kept h) t ≡ live h t
    same_live = live_same head passes leases_in version_in h l right t (live_numbers version_in h t)

    pub same_latest : latest (kept h) ≡ latest h
    same_latest = latest_same head pending_in noticed_in version_in (kept_leases h t) (fetches h) h latest_all

    pub same_fetches : map (owed_fetch (kept h)) (fetches (kept h)) ≡ map (owed_fetch h) (fetches h)
    same_fetches = fetches_same head pending_in noticed_in version_in (kept_leases h t) (fetches h) h l refl

    pub same_owed : map (owed_push (kept h)) (owed (kept h) t) ≡ map (owed_push h) (owed h t)
    same_owed = owed_same head passes leases_in version_in h l right t (owed_numbers version_in h t l owed_versions)

    pub same_total : (test : Fate → Bool) (field : TallyFields → ℕ) → field head ≡ forgotten test field h t → total test field (kept h) t ≡ total test field h t
    same_total test field said = total_kept head passes leases_in version_in h l right (λ e k. no_tally_chosen e e.what k) test field t said

    pub same_account : account (kept h) t ≡ account h t
    same_account i =
        record {
          pending = (sym (length-map (pending (kept h)) (waiting (kept h))) ∙ ap length same_pending ∙ length-map (pending h) (waiting h)) i;
          notices = (sym (length-map (notices (kept h)) (owed_notice (kept h))) ∙ ap length same_notices ∙ length-map (notices h) (owed_notice h)) i;
          leases = length (same_live i);
          topics = length (same_latest i);
          fetches = (sym (length-map (fetches (kept h)) (owed_fetch (kept h))) ∙ ap length same_fetches ∙ length-map (fetches h) (owed_fetch h)) i;
          owed = (sym (length-map (owed (kept h) t) (owed_push (kept h))) ∙ ap length same_owed ∙ length-map (owed h t) (owed_push h)) i;
          answered = same_total is_answered (λ c. c.answered) refl i;
          expired = same_total (is_ended Expired) (λ c. c.expired) refl i;
          unsubscribed = same_total (is_ended Unsubscribed) (λ c. c.unsubscribed) refl i;
          replaced = same_total (is_ended Replaced) (λ c. c.replaced) refl i;
          gone = same_total (is_ended Gone) (λ c. c.gone) refl i;
          spent = same_total (is_ended Spent) (λ c. c.spent) refl i;
          revoked = same_total (is_ended LeaseRevoked) (λ c. c.revoked) refl i;
        }

  same_view : Legal h → time h ≤ t → view (kept h) t ≡ with_time t (view h t)
  same_view l le =
      let before : last_time h ≤ time h = last_time_le h in
      let late : last_time h ≤ t = omega arith in
      λ i.
      record {
        pending = same_pending l late i;
        notices = same_notices l late i;
        live = same_live l late i;
        latest = same_latest l late i;
        fetches = same_fetches l late i;
        owed = same_owed l late i;
        time = time_kept head passes leases_in version_in h le i;
        serial = serial_kept head passes leases_in version_in h (omega arith) i;
        intent = intent_kept head passes leases_in version_in h (omega arith) i;
        version = version_kept head passes leases_in version_in h (omega arith) i;
        account = same_account l late i;
      }

pub keeps_view : KeepsView
keeps_view h t l le = ap (λ g. view g t) (keep_is h t) ∙ same_view h t l le
