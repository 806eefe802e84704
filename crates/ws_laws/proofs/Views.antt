-- The view at a later moment, and after one more event.
use Rattle.std.proofs.Common.{◌≡◌, ℕ, ◌≤◌, ◌<◌, List, [], ◌∷◌, length, refl, ap, sym, ◌∙◌, arith}
use Rattle.std.specs.Prelude.{Option, max}
use Rattle.std.proofs.lemmas.List.{length-map}
use Rattle.ws_model.specs.declared.fate.Cause.TheVariants.{Expired, Unsubscribed, Replaced, Gone, Spent, Revoked}
use Rattle.ws_laws.proofs.Accounts.{expired_later_count, total_after, unexpired_later}
use Rattle.ws_laws.proofs.Advance.{live_later, owing_later}
use Rattle.ws_laws.proofs.Known.{allowed}
use Rattle.ws_laws.proofs.Moments.{last_serial_le, no_tally, own_serial, own_time}
use Rattle.ws_laws.proofs.Notices.{notices_step}
use Rattle.ws_laws.proofs.Step.{live_step, named_is, owed_step, pending_step}
use Rattle.ws_laws.proofs.Topics.{fetches_step, latest_step}
use Rattle.ws_laws.specs.Steps.{Advances, IsNewest, Steps, account_after, account_later, after, step}
use Rattle.ws_model.specs.Account.{account, is_answered, is_ended, tallies_of}
use Rattle.ws_model.specs.Intents.{notices, pending}
use Rattle.ws_model.specs.Leases.{confirmed_intent}
use Rattle.ws_model.specs.Legal.{Legal}
use Rattle.ws_model.specs.Moment.{intent_number, last_serial, serial, time, version_number}
use Rattle.ws_model.specs.Pairs.{owed}
use Rattle.ws_model.specs.Versions.{fetches, latest}
use Rattle.ws_model.specs.View.{owed_fetch, owed_notice, owed_push, view, waiting}
use Rattle.ws_model.specs.declared.event.Event.{Event}
use Rattle.ws_model.specs.declared.event.Intent.{Intent}

-- ---- at a later moment

accounts_later : (h : List Event) (t u : ℕ) → t ≤ u → account h u ≡ account_later (view h t) u
accounts_later h t u le i =
    record {
      pending = length (pending h);
      notices = length (notices h);
      leases = length (live_later h t u le i);
      topics = length (latest h);
      fetches = length (fetches h);
      owed = (sym (length-map (owed h u) (owed_push h)) ∙ ap length (owing_later h t u le)) i;
      answered = unexpired_later is_answered (λ m n. refl) refl (λ c. c.answered) h t u le i;
      expired = expired_later_count h t u le i;
      unsubscribed = unexpired_later (is_ended Unsubscribed) (λ m n. refl) refl (λ c. c.unsubscribed) h t u le i;
      replaced = unexpired_later (is_ended Replaced) (λ m n. refl) refl (λ c. c.replaced) h t u le i;
      gone = unexpired_later (is_ended Gone) (λ m n. refl) refl (λ c. c.gone) h t u le i;
      spent = unexpired_later (is_ended Spent) (λ m n. refl) refl (λ c. c.spent) h t u le i;
      revoked = unexpired_later (is_ended Revoked) (λ m n. refl) refl (λ c. c.revoked) h t u le i;
    }

pub advances : Advances
advances h t u le i =
    record {
      pending = (view h t).pending;
      notices = (view h t).notices;
      live = live_later h t u le i;
      latest = latest h;
      fetches = (view h t).fetches;
      owed = owing_later h t u le i;
      time = time h;
      serial = serial h;
      intent = intent_number h;
      version = version_number h;
      account = accounts_later h t u le i;
    }

-- ---- after one more event

module _ (e : Event) (h : List Event) (l : Legal (e ∷ h)) (newest : IsNewest e h) where
  abbrev intent : Option Intent
  intent = confirmed_intent e.what h

  new_serial : last_serial h < e.serial
  new_serial =
      let a : serial h < e.serial = newest.serial_new in
      let b : last_serial h ≤ serial h = last_serial_le h in
      omega arith

  untallied : tallies_of e.what ≡ []
  untallied = no_tally e.what h newest.number_new

  account_after_event : account (e ∷ h) e.t ≡ account_after e.serial e.t e.what intent (view h e.t)
  account_after_event i =
      record {
        pending = (sym (length-map (pending (e ∷ h)) (waiting (e ∷ h))) ∙ ap length (pending_step e h l.0 l.1)) i;
        notices = (sym (length-map (notices (e ∷ h)) (owed_notice (e ∷ h))) ∙ ap length (notices_step e h l.0 l.1)) i;
        leases = length (live_step e h l.1 i);
        topics = length (latest_step e h l.1 i);
        fetches = (sym (length-map (fetches (e ∷ h)) (owed_fetch (e ∷ h))) ∙ ap length (fetches_step e h l.0 new_serial)) i;
        owed = (sym (length-map (owed (e ∷ h) e.t) (owed_push (e ∷ h))) ∙ ap length (owed_step e h l.0 l.1)) i;
        answered = total_after is_answered (λ m n. refl) (λ c. c.answered) h e l untallied i;
        expired = total_after (is_ended Expired) (λ m n. refl) (λ c. c.expired) h e l untallied i;
        unsubscribed = total_after (is_ended Unsubscribed) (λ m n. refl) (λ c. c.unsubscribed) h e l untallied i;
        replaced = total_after (is_ended Replaced) (λ m n. refl) (λ c. c.replaced) h e l untallied i;
        gone = total_after (is_ended Gone) (λ m n. refl) (λ c. c.gone) h e l untallied i;
        spent = total_after (is_ended Spent) (λ m n. refl) (λ c. c.spent) h e l untallied i;
        revoked = total_after (is_ended Revoked) (λ m n. refl) (λ c. c.revoked) h e l untallied i;
      }

  view_after : view (e ∷ h) e.t ≡ after e.serial e.t e.what intent (view h e.t)
  view_after i =
      record {
        pending = pending_step e h l.0 l.1 i;
        notices = notices_step e h l.0 l.1 i;
        live = live_step e h l.1 i;
        latest = latest_step e h l.1 i;
        fetches = fetches_step e h l.0 new_serial i;
        owed = owed_step e h l.0 l.1 i;
        time = max (own_time e.what e.serial e.t h newest.number_new i) (time h);
        serial = max (own_serial e.what e.serial e.t h newest.number_new i) (serial h);
        intent = intent_number (e ∷ h);
        version = version_number (e ∷ h);
        account = account_after_event i;
      }

  stepped : view (e ∷ h) e.t ≡ step (view h e.t) e
  stepped = view_after ∙ ap (λ o. after e.serial e.t e.what o (view h e.t)) (sym (named_is e.what e.t h (allowed h e l.1)))

pub steps : Steps
steps h e l newest = stepped e h l newest
