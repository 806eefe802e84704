-- The log of a history, event by event.
use Rattle.std.proofs.Common.{◌≡◌, ℕ, ◌≤◌, Bool, true, false, cond, not, ◌&&◌, List, [], ◌∷◌, ◌++◌, refl, ap, sym, ◌∙◌, append_assoc}
use Rattle.std.specs.Prelude.{filter, map, reverse}
use Rattle.std.specs.List.{AllByRecursion}
use Rattle.std.proofs.lemmas.Bool.{and_parts, or_right}
use Rattle.std.proofs.lemmas.List.{append-nil}
use Rattle.std.proofs.Props.{props}
use Rattle.ws_model.specs.declared.event.Event.{Event}
use Rattle.ws_model.specs.declared.event.What.{What}
use Rattle.ws_model.specs.declared.event.What.TheVariants.{Asked, Confirmed, Declined, Unheard, Barred, Noticed, Pinged, Fetched, Same, Unfetched, Pushed, Tally, Revoked}
use Rattle.ws_model.specs.Keep.{keeps}
use Rattle.ws_model.specs.Legal.{Legal}
use Rattle.ws_laws.proofs.ListLaws.{all_filter, all_from, filter-filter}
use Rattle.ws_compaction.proofs.DroppedEvents.{drops_event_later}
use Rattle.ws_tries.specs.Stands.{is_any_push}
use Rattle.ws_kept.specs.Part.{IsPart}
use Rattle.ws_kept.specs.Stands.{is_needed, is_tally, light, light_event, log_of, other_events}
use Rattle.ws_kept.proofs.Lists.{all_reverse}
use Rattle.ws_kept.proofs.Part.{part_all, part_filter}
use Rattle.ws_sift.specs.Sifted.{IsFoundIn, Sifts, is_kept_other}
use Rattle.ws_sift.proofs.Mapped.{IsMapped, mapped}
use Rattle.ws_sift.proofs.Restored.{all_found}
use Rattle.ws_sift.proofs.Turned.{filter-reverse}

-- ---- what is kept

keeps_light : (h : List Event) (t : ℕ) (e : Event) (w : What) → (not (is_any_push (light w)) && keeps h t (light_event e) (light w)) ≡ (not (is_any_push w) && keeps h t e w)
keeps_light h t e (Asked i) = refl
keeps_light h t e (Confirmed n sent) = refl
keeps_light h t e (Declined n code) = refl
keeps_light h t e (Unheard n) = refl
keeps_light h t e (Barred n reason) = refl
keeps_light h t e (Noticed n heard) = refl
keeps_light h t e (Pinged topic) = refl
keeps_light h t e (Fetched v) = refl
keeps_light h t e (Same topic upto) = refl
keeps_light h t e (Unfetched topic upto why) = refl
keeps_light h t e (Pushed v n how) = refl
keeps_light h t e (Tally c) = refl
keeps_light h t e (Revoked n reason) = refl

-- a light event is kept where the whole one is
pub kept_light : (h : List Event) (t : ℕ) (e : Event) → is_kept_other h t (light_event e) ≡ is_kept_other h t e
kept_light h t e = keeps_light h t e e.what

-- what a compaction at t keeps is needed earlier
kept_needed : (h : List Event) (since t : ℕ) (e : Event) → Legal h → since ≤ t → is_kept_other h t e ≡ true → is_needed h since (light_event e) ≡ true
kept_needed h since t e l le k =
    let light_kept = kept_light h t e ∙ k in
    or_right (is_tally (light e.what)) _ (drops_event_later h since t (light_event e) l le (and_parts (not (is_any_push (light e.what))) (keeps h t (light_event e) (light e.what)) light_kept).1)

kept_others : (h : List Event) (t : ℕ) → filter (is_kept_other h t) (other_events h) ≡ reverse (filter (is_kept_other h t) h)
kept_others h t =
    filter-reverse (is_kept_other h t) (filter (λ e. not (is_any_push e.what)) h)
    ∙ ap reverse (sym (filter-filter (is_kept_other h t) (λ e. not (is_any_push e.what)) (is_kept_other h t) (λ e. twice (not (is_any_push e.what)) (keeps h t e e.what)) h))
  where
    twice : (a b : Bool) → (a && b) ≡ (a && (a && b))
    twice true b = refl
    twice false b = refl

-- ---- a walk over the log

-- what a compaction at t keeps of a part of the log, it keeps of all events
pub begun : (h : List Event) (since t : ℕ) (log events : List Event) → Legal h → since ≤ t → IsPart (λ e. is_needed h since e ≡ true) log (log_of h) → events ≡ [] → Sifts h t log events
begun h since t log events l le k e =
    let m : IsMapped light_event (λ x. is_needed h since x ≡ true) log (other_events h) = mapped light_event (λ x. is_needed h since x ≡ true) k (other_events h) refl in
    record {
      rest = m.rest;
      logged = m.is;
      found = part_all (λ x. is_needed h since (light_event x) ≡ true) (IsFoundIn h)
          (all_reverse (IsFoundIn h) (filter (λ e. not (is_any_push e.what)) h) (all_filter (IsFoundIn h) (λ e. not (is_any_push e.what)) h (all_found h l))) m.left;
      done = ap (λ es. es ++ filter (is_kept_other h t) m.rest) e
          ∙ part_filter (λ x. is_needed h since (light_event x) ≡ true) (is_kept_other h t)
          (all_from (λ x. is_kept_other h t x ≡ true → is_needed h since (light_event x) ≡ true) (λ x k. kept_needed h since t x l le k) (other_events h)) m.left
          ∙ kept_others h t;
    }

pub ended : (h : List Event) (t : ℕ) (events : List Event) → Sifts h t [] events → events ≡ reverse (filter (is_kept_other h t) h)
ended h t events s = by s.rest s.logged s.done
  where
    by : (rest : List Event) → [] ≡ map light_event rest → events ++ filter (is_kept_other h t) rest ≡ reverse (filter (is_kept_other h t) h) → events ≡ reverse (filter (is_kept_other h t) h)
    by [] k d = sym (append-nil events) ∙ d
    by (e ∷ rest) k d = absurd (cc)

-- the next event of the log: the event that it is of, and what is left where that is kept, and where it isn't
pub record Next (h : List Event) (t : ℕ) (light_one : Event) (left events : List Event) : Type 0 where
  pub whole : Event
  pub logged : light_one ≡ light_event whole
  pub found : IsFoundIn h whole
  pub taken : is_kept_other h t whole ≡ true → Sifts h t left (events ++ whole ∷ [])
  pub dropped : is_kept_other h t whole ≡ false → Sifts h t left events

pub next : (h : List Event) (t : ℕ) (e : Event) (left events : List Event) → Sifts h t (e ∷ left) events → Next h t e left events
next h t e left events s = by s.rest s.logged s.found s.done
  where
    by : (rest : List Event) → e ∷ left ≡ map light_event rest → AllByRecursion (IsFoundIn h) rest → events ++ filter (is_kept_other h t) rest ≡ reverse (filter (is_kept_other h t) h) → Next h t e left events
    by [] k a d = absurd (cc)
    by (w ∷ rest) k a d =
        let same : left ≡ map light_event rest = cc in
        record {
          whole = w;
          logged = cc;
          found = a.0;
          taken = λ c. record {
            rest = rest;
            logged = same;
            found = a.1;
            done = append_assoc events (w ∷ []) (filter (is_kept_other h t) rest) ∙ sym (ap (λ b. events ++ cond b (w ∷ filter (is_kept_other h t) rest) (filter (is_kept_other h t) rest)) c) ∙ d;
          };
          dropped = λ c. record {
            rest = rest;
            logged = same;
            found = a.1;
            done = sym (ap (λ b. events ++ cond b (w ∷ filter (is_kept_other h t) rest) (filter (is_kept_other h t) rest)) c) ∙ d;
          };
        }

pub events_set : IsSet (List Event)
events_set = hlevel props
