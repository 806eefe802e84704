-- The core over an event, and over several that make and end no pair.
use Rattle.std.proofs.Common.{◌≡◌, ℕ, suc, ◌+◌, ◌≤◌, ◌<◌, Bool, true, false, cond, List, [], ◌∷◌, ◌++◌, refl, ap, sym, ◌∙◌, subst, length, arith}
use Rattle.std.specs.Prelude.{bytes_eq, filter, find, is_some, map, Option, Some, None, ◌==◌}
use Rattle.std.specs.List.{list_all, list_any}
use Rattle.std.specs.Option.{option_map}
use Rattle.std.proofs.lemmas.Bool.{and_parts, false≢true}
use Rattle.std.proofs.lemmas.List.{append_assoc, append-nil}
use Rattle.ws_model.specs.declared.event.Event.{Event}
use Rattle.ws_model.specs.declared.event.How.{How}
use Rattle.ws_model.specs.declared.event.What.{What}
use Rattle.ws_model.specs.declared.event.What.TheVariants.{Asked, Confirmed, Declined, Unheard, Barred, Noticed, Pinged, Fetched, Same, Unfetched, Pushed, Tally, Revoked}
use Rattle.ws_model.specs.Legal.{Legal}
use Rattle.ws_model.specs.Moment.{serial}
use Rattle.ws_model.specs.declared.event.Version.{Version}
use Rattle.ws_model.specs.Verdict.{fate_of, pair_of}
use Rattle.ws_model.specs.Versions.{is_version, versions, versions_of}
use Rattle.ws_fate.specs.Stands.{is_quiet}
use Rattle.ws_fate.specs.Totals.{standing}
use Rattle.ws_fate.proofs.Stepping.{quiet_shows}
use Rattle.ws_compaction.proofs.Dropped.{drops_lease_later, drops_version_later}
use Rattle.ws_tries.specs.declared.room.Try.{Try}
use Rattle.ws_tries.specs.Rows.{Rows as TryRows, is_listed, tries_at}
use Rattle.ws_tries.specs.Stands.{Adds, HaveRooms, StandsFor as TriesStand, is_any_push}
use Rattle.ws_kept.specs.declared.renewal.Renewal.{Renewal}
use Rattle.ws_kept.specs.Finding.{is_latest}
use Rattle.ws_kept.specs.Stands.{AreRenewed, IsLogged, light_event}
use Rattle.ws_core_tables.specs.Committing.{committed, numbered}
use Rattle.ws_ledger.specs.Births.{AreBirths, FindsBirths, makes_pairs}
use Rattle.ws_ledger.specs.Committing.{AllGoOn as LedgerAllGoOn, are_quiet}
use Rattle.ws_ledger.specs.Rows.{Rows as LedgerRows}
use Rattle.ws_ledger.specs.Stands.{GoesOn as LedgerGoesOn, StandsFor as LedgerStands, kept}
use Rattle.ws_ledger.proofs.NewPairs.{nothing_born}
use Rattle.ws_ledger.proofs.Together.{legal_past}
use Rattle.ws_core.specs.Committing.{AllGoOn}
use Rattle.ws_core.specs.Renewed.{FindsOld, listed}
use Rattle.ws_core.specs.Rows.{Rows}
use Rattle.ws_core.specs.Past.{IsPast}
use Rattle.ws_core.specs.Stands.{StandsFor}
use Rattle.ws_core.proofs.Holding.{BearsOn, HoldsOn}
use Rattle.ws_kept.proofs.Fewer.{renewed_at}
use Rattle.ws_core.proofs.Fewer.{logged_later}
use Rattle.ws_core.proofs.Log.{logged_other, logged_pushed, logged_quiet, quiet_other, renewed_after, renewed_pushed, renewed_quiet}
use Rattle.ws_core.proofs.Rooms.{only_after, pushed_tries, rooms_after, stays_absent, stays_there, tries_after}

-- ---- a push

pub pushed_goes :
    (e : Event) (v n : ℕ) (how : How) (old new : Rows) → e.what ≡ Pushed v n how → LedgerGoesOn e old.ledger new.ledger → new.log ≡ old.log → new.renewals ≡ old.renewals
    → Adds v n (record { serial = e.serial; t = e.t; how = how }) old.tries new.tries → HoldsOn e old new
pushed_goes e v n how old new kind goes same_log same_renewals adds h since s l le =
    let born : AreBirths e h [] = nothing_born e h l (ap makes_pairs kind) in
    record {
      ledger = goes h since s.ledger l le;
      log = subst (IsLogged (e ∷ h) e.t) (sym same_log) (logged_pushed e h since old.log l le s.log (ap is_any_push kind));
      renewals = subst (AreRenewed (e ∷ h) e.t) (sym same_renewals) (renewed_pushed e h since old.renewals l le s.renewals v n how kind);
      tries = pushed_tries e h v n how old.tries new.tries kind adds s.tries;
      only = only_after e h [] old.tries new.tries born (λ w m _ k. stays_absent v n (record { serial = e.serial; t = e.t; how = how }) old.tries new.tries adds w m k) s.only;
      rooms =
          rooms_after e h since [] old.tries new.tries l le born (stays_there v n (record { serial = e.serial; t = e.t; how = how }) old.tries new.tries adds)
          (λ w m k. absurd (false≢true k)) s.rooms;
    }

pub pushed_bears : (e : Event) (v n : ℕ) (how : How) (old new : Rows) → e.what ≡ Pushed v n how → Adds v n (record { serial = e.serial; t = e.t; how = how }) old.tries new.tries → BearsOn e old new
pushed_bears e v n how old new kind adds h since s l le =
    record {
      births = [];
      born = nothing_born e h l (ap makes_pairs kind);
      stay = stays_there v n (record { serial = e.serial; t = e.t; how = how }) old.tries new.tries adds;
      none = λ w m _ k. stays_absent v n (record { serial = e.serial; t = e.t; how = how }) old.tries new.tries adds w m k;
    }

-- ---- anything else

still_there : (b : Bool) (o : Option (List Try)) → is_some o ≡ true → is_some (cond b (Some []) o) ≡ true
still_there true o k = refl
still_there false o k = k

pub other_goes :
    (e : Event) (births : List (ℕ × ℕ)) (found : Option Renewal) (old new : Rows) → is_any_push e.what ≡ false → LedgerGoesOn e old.ledger new.ledger
    → FindsBirths e old.ledger births → FindsOld e old.ledger found
    → new.log ≡ old.log ++ light_event e ∷ [] → new.renewals ≡ old.renewals ++ listed found
    → ((v n : ℕ) → tries_at v n new.tries ≡ cond (is_listed v n births) (Some []) (tries_at v n old.tries)) → HoldsOn e old new
other_goes e births found old new other goes finds renews log renewed look h since s l le =
    let born = finds h since s.ledger l le in
    record {
      ledger = goes h since s.ledger l le;
      log = subst (IsLogged (e ∷ h) e.t) (sym log) (logged_other e h since old.log l le s.log other);
      renewals = subst (AreRenewed (e ∷ h) e.t) (sym renewed) (renewed_after e h since old.renewals l le s.renewals found (renews h since s.ledger l le));
      tries = tries_after e h births old.tries new.tries l.0 other born look s.tries;
      only = only_after e h births old.tries new.tries born (λ v n q k. look v n ∙ ap (λ b. cond b (Some []) (tries_at v n old.tries)) q ∙ k) s.only;
      rooms =
          rooms_after e h since births old.tries new.tries l le born (λ v n k. ap is_some (look v n) ∙ still_there (is_listed v n births) (tries_at v n old.tries) k)
          (λ v n q. ap is_some (look v n ∙ ap (λ b. cond b (Some []) (tries_at v n old.tries)) q)) s.rooms;
    }

pub other_bears :
    (e : Event) (births : List (ℕ × ℕ)) (old new : Rows) → FindsBirths e old.ledger births → ((v n : ℕ) → tries_at v n new.tries ≡ cond (is_listed v n births) (Some []) (tries_at v n old.tries)) → BearsOn e old new
other_bears e births old new finds look h since s l le =
    record {
      births = births;
      born = finds h since s.ledger l le;
      stay = λ v n k. ap is_some (look v n) ∙ still_there (is_listed v n births) (tries_at v n old.tries) k;
      none = λ v n q k. look v n ∙ ap (λ b. cond b (Some []) (tries_at v n old.tries)) q ∙ k;
    }

-- the births have no rooms yet
pub without_rooms : (e : Event) (h : List Event) (births : List (ℕ × ℕ)) (since : ℕ) (rows : Rows) → StandsFor h since rows → AreBirths e h births → (v n : ℕ) → is_listed v n births ≡ true → tries_at v n rows.tries ≡ None
without_rooms e h births since rows s born v n k = s.only v n (born.fresh v n k)

-- ---- several events that make and end no pair

quiet_pairs : (w : What) → is_quiet w ≡ true → makes_pairs w ≡ false
quiet_pairs (Confirmed n sent) q = absurd (false≢true q)
quiet_pairs (Fetched v) q = absurd (false≢true q)
quiet_pairs (Pushed v n how) q = refl
quiet_pairs (Asked i) q = refl
quiet_pairs (Declined n code) q = refl
quiet_pairs (Unheard n) q = refl
quiet_pairs (Barred n reason) q = refl
quiet_pairs (Noticed n heard) q = refl
quiet_pairs (Pinged topic) q = refl
quiet_pairs (Same topic upto) q = refl
quiet_pairs (Unfetched topic upto why) q = refl
quiet_pairs (Tally c) q = refl
quiet_pairs (Revoked n reason) q = refl

-- what stands beside the ledger, but the log
record Beside (h : List Event) (since : ℕ) (rows : Rows) : Type 0 where
  renewed : AreRenewed h since rows.renewals
  tries : TriesStand h rows.tries
  only : (v n : ℕ) → pair_of h v n ≡ None → tries_at v n rows.tries ≡ None
  rooms : HaveRooms h since rows.tries

beside_quiet : (e : Event) (h : List Event) (since : ℕ) (rows : Rows) → Legal (e ∷ h) → since ≤ e.t → is_quiet e.what ≡ true → Beside h since rows → Beside (e ∷ h) e.t rows
beside_quiet e h since rows l le q b =
    let born : AreBirths e h [] = nothing_born e h l (quiet_pairs e.what q) in
    record {
      renewed = renewed_quiet e h since rows.renewals l le q b.renewed;
      tries = tries_after e h [] rows.tries rows.tries l.0 (quiet_other e.what q) born (λ v n. refl) b.tries;
      only = only_after e h [] rows.tries rows.tries born (λ v n _ k. k) b.only;
      rooms = rooms_after e h since [] rows.tries rows.tries l le born (λ v n k. k) (λ v n k. absurd (false≢true k)) b.rooms;
    }

-- all of them, of which the log has not yet the events
beside_all : (t : ℕ) (whats : List What) (h : List Event) (since : ℕ) (rows : Rows) → Legal (committed t whats h) → since ≤ t → are_quiet whats ≡ true → Beside h since rows → Beside (committed t whats h) t rows
beside_all t [] h since rows l le q b =
    record { renewed = renewed_at h since t rows.renewals l le b.renewed; tries = b.tries; only = b.only; rooms = λ v n kv kn k. b.rooms v n (drops_version_later h since t v le kv) (drops_lease_later h since t n l le kn) k }
beside_all t (w ∷ ws) h since rows l le q b =
    let e : Event = record { serial = suc (serial h); t = t; what = w } in
    let parts = and_parts (is_quiet w) (list_all is_quiet ws) q in
    beside_all t ws (e ∷ h) t rows l (omega arith) parts.1 (beside_quiet e h since rows (legal_past t ws (e ∷ h) l) le parts.0 b)

logged_all : (t : ℕ) (whats : List What) (h : List Event) (since : ℕ) (log : List Event) → Legal (committed t whats h) → since ≤ t → are_quiet whats ≡ true → IsLogged h since log
    → IsLogged (committed t whats h) t (log ++ map light_event (numbered t whats h))
logged_all t [] h since log l le q logged = subst (IsLogged h t) (sym (append-nil log)) (logged_later h since t log l le logged)
logged_all t (w ∷ ws) h since log l le q logged =
    let e : Event = record { serial = suc (serial h); t = t; what = w } in
    let parts = and_parts (is_quiet w) (list_all is_quiet ws) q in
    subst (IsLogged (committed t ws (e ∷ h)) t) (append_assoc log (light_event e ∷ []) (map light_event (numbered t ws (e ∷ h))))
    (logged_all t ws (e ∷ h) t (log ++ light_event e ∷ []) l (omega arith) parts.1 (logged_quiet e h since log (legal_past t ws (e ∷ h) l) le parts.0 logged))

-- no version is past afterwards that wasn't
same_latest : (v : ℕ) (e : Event) (h : List Event) → is_quiet e.what ≡ true → is_latest (e ∷ h) v ≡ is_latest h v
same_latest v e h q = ap (λ (vs : List Version). list_any (λ w. w.ver == v) (filter (λ w. is_version w.ver (find (λ x. bytes_eq x.topic w.topic) vs)) vs)) (ap (λ vs. vs ++ versions h) (no_version e.what q))
  where
    no_version : (w : What) → is_quiet w ≡ true → versions_of w ≡ []
    no_version (Fetched v) q = absurd (false≢true q)
    no_version _ q = refl

latest_all : (v t : ℕ) (whats : List What) (h : List Event) → are_quiet whats ≡ true → is_latest (committed t whats h) v ≡ is_latest h v
latest_all v t [] h q = refl
latest_all v t (w ∷ ws) h q =
    let e : Event = record { serial = suc (serial h); t = t; what = w } in
    let parts = and_parts (is_quiet w) (list_all is_quiet ws) q in
    latest_all v t ws (e ∷ h) parts.1 ∙ same_latest v e h parts.0

fates_all : (v n t : ℕ) (whats : List What) (h : List Event) → Legal (committed t whats h) → are_quiet whats ≡ true → fate_of h v n t ≡ fate_of (committed t whats h) v n t
fates_all v n t [] h l q = refl
fates_all v n t (w ∷ ws) h l q =
    let e : Event = record { serial = suc (serial h); t = t; what = w } in
    let parts = and_parts (is_quiet w) (list_all is_quiet ws) q in
    quiet_shows e h (legal_past t ws (e ∷ h) l) parts.0 v n ∙ fates_all v n t ws (e ∷ h) l parts.1

past_before :
    (t : ℕ) (whats : List What) (h : List Event) (since v : ℕ) (old new : LedgerRows) → Legal (committed t whats h) → since ≤ t → are_quiet whats ≡ true → LedgerStands h since old → LedgerStands (committed t whats h) t new
    → IsPast (committed t whats h) new.fates v → IsPast h old.fates v
past_before t whats h since v old new l le quiet s after past =
    record {
      low = past.low;
      superseded = sym (latest_all v t whats h quiet) ∙ past.superseded;
      closed = λ n k. past.closed n (after.shows t v n (omega arith) ∙ ap (λ o. option_map kept (option_map standing o)) (sym (fates_all v n t whats h l quiet)) ∙ sym (s.shows t v n le) ∙ k);
    }

pub all_go_on :
    (t : ℕ) (whats : List What) (events : List Event) (old new : Rows) → are_quiet whats ≡ true → LedgerAllGoOn t whats old.ledger new.ledger
    → ((h : List Event) (since : ℕ) → StandsFor h since old → events ≡ numbered t whats h)
    → new.log ≡ old.log ++ map light_event events → new.renewals ≡ old.renewals → new.tries ≡ old.tries → AllGoOn t whats old new
all_go_on t whats events old new quiet goes are log same_renewals same_tries h since s l le =
    let b = beside_all t whats h since old l le quiet (record { renewed = s.renewals; tries = s.tries; only = s.only; rooms = s.rooms }) in
    let after = goes h since s.ledger l le in
    record {
      ledger = after;
      log = subst (IsLogged (committed t whats h) t) (sym (log ∙ ap (λ es. old.log ++ map light_event es) (are h since s))) (logged_all t whats h since old.log l le quiet s.log);
      renewals = subst (AreRenewed (committed t whats h) t) (sym same_renewals) b.renewed;
      tries = subst (TriesStand (committed t whats h)) (sym same_tries) b.tries;
      only = subst (λ (rows : TryRows). (v n : ℕ) → pair_of (committed t whats h) v n ≡ None → tries_at v n rows ≡ None) (sym same_tries) b.only;
      rooms = subst (HaveRooms (committed t whats h) t) (sym same_tries) b.rooms;
      past = λ v n k. ap (tries_at v n) same_tries ∙ s.past v n (past_before t whats h since v old.ledger new.ledger l le quiet s.ledger after k);
    }

-- there are as many events
pub as_many : (t : ℕ) (whats : List What) (h : List Event) → length (numbered t whats h) ≡ length whats
as_many t [] h = refl
as_many t (w ∷ ws) h = ap (λ k. suc k) (as_many t ws (record { serial = suc (serial h); t = t; what = w } ∷ h))

pub room_is_there : (capacity log events whats : ℕ) → capacity < log + events → log + whats ≤ capacity → events ≡ whats → ⊥
room_is_there capacity log events whats full room same = omega arith
