-- A ledger of a history without pairs: the empty one, and a Tally alone.
use Rattle.std.proofs.Common.{◌≡◌, ℕ, ◌+◌, ◌-◌, ◌≤◌, List, [], ◌∷◌, ◌++◌, refl, ap, sym, subst, ◌∙◌, length, arith}
use Rattle.std.specs.Prelude.{min, filter, find, ◌==◌, ◌&&◌}
use Rattle.std.specs.Option.{option_map}
use Rattle.std.proofs.lemmas.Bool.{false≢true}
use Rattle.ws_model.specs.declared.event.Event.{Event}
use Rattle.ws_model.specs.declared.event.Tally.{Tally as TallyFields}
use Rattle.ws_model.specs.declared.event.What.TheVariants.{Tally}
use Rattle.ws_model.specs.Account.{account, fated, is_ended, most, tallied}
use Rattle.ws_model.specs.declared.fate.Cause.TheVariants.{Expired}
use Rattle.ws_model.specs.Fate.{fate, is_owed}
use Rattle.ws_model.specs.Legal.{Legal, accepts_what}
use Rattle.ws_model.specs.Leases.{confirmed_intent, live}
use Rattle.ws_model.specs.Pairs.{births, owed, pairs}
use Rattle.ws_laws.specs.Steps.{more}
use Rattle.ws_core_tables.specs.Stands.{StandsFor as TablesStand, GoesOn as TablesGoOn}
use Rattle.ws_fate.specs.Rows.{standing_at}
use Rattle.ws_fate.specs.Totals.{of_account, standing}
use Rattle.ws_fate.specs.Stands.{StandsFor as FatesStand, with_expired}
use Rattle.ws_ledger.specs.Rows.{Rows}
use Rattle.ws_ledger.specs.Stands.{GoesOn, StandsFor, kept}

bounded : (k : ℕ) → more (min k most) 0 ≡ min k most
bounded k = by most
  where
    by : (m : ℕ) → min (min k m + 0) m ≡ min k m
    by m = omega arith

none_expired : (h : List Event) (t : ℕ) → with_expired 0 (of_account (account h t)) ≡ of_account (account h t)
none_expired h t = λ i.
    record {
      answered = (account h t).answered;
      expired = bounded (fated (is_ended Expired) h t + tallied (λ c. c.expired) h) i;
      unsubscribed = (account h t).unsubscribed;
      replaced = (account h t).replaced;
      gone = (account h t).gone;
      spent = (account h t).spent;
      revoked = (account h t).revoked;
    }

-- where a history has no pair, and its table of fates stands for it with none open
pub without_pairs :
    (h : List Event) (since : ℕ) (rows : Rows) → pairs h ≡ [] → TablesStand h since rows.tables → rows.fates.pairs ≡ [] → rows.open_pairs ≡ 0
    → ((t : ℕ) → since ≤ t → rows.fates.totals ≡ of_account (account h t)) → StandsFor h since rows
without_pairs h since rows none tables empty closed totals =
    record {
      tables = tables;
      shows = λ t v n le.
          ap (λ ps. standing_at v n (record { pairs = ps; totals = rows.fates.totals })) empty
          ∙ sym (ap (λ ps. option_map kept (option_map standing (option_map (λ p. fate h p t) (find (λ p. (p.version.ver == v) && (p.lease.intent.n == n)) ps)))) none);
      enough = λ t le. subst (λ k. k ≤ rows.open_pairs) (sym (unowed t)) (omega arith);
      totals = λ t le.
          ap (λ k. with_expired (k - length (owed h t)) rows.fates.totals) closed
          ∙ ap (λ k. with_expired (0 - k) rows.fates.totals) (unowed t)
          ∙ ap (with_expired 0) (totals t le)
          ∙ none_expired h t;
    }
  where
    unowed : (t : ℕ) → length (owed h t) ≡ 0
    unowed t = ap (λ ps. length (filter (λ p. is_owed (fate h p t)) ps)) none

-- ---- a Tally

-- it comes first
alone : (e : Event) (h : List Event) (c : TallyFields) → e.what ≡ Tally c → Legal (e ∷ h) → h ≡ []
alone e [] c kind legal = refl
alone e (f ∷ h) c kind legal = absurd (false≢true (sym (ap (accepts_what e (f ∷ h)) kind) ∙ legal.1))

pub by_tally :
    (e : Event) (c : TallyFields) (old new : Rows) → e.what ≡ Tally c → TablesGoOn e old.tables new.tables → new.fates.pairs ≡ [] → new.open_pairs ≡ 0
    → ((t : ℕ) → e.t ≤ t → FatesStand (e ∷ []) t new.fates) → GoesOn e old new
by_tally e c old new kind tables empty closed fates h since s legal le =
    without_pairs (e ∷ h) e.t new none (tables h since s.tables legal le) empty closed
    (λ t k. (subst (λ g. FatesStand (e ∷ g) t new.fates) (sym (alone e h c kind legal)) (fates t k)).totals)
  where
    none : pairs (e ∷ h) ≡ []
    none =
        ap (λ w. births e.t w (confirmed_intent w h) (live h e.t) (owed h e.t) ++ pairs h) kind
        ∙ ap pairs (alone e h c kind legal)
