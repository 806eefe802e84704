-- What the log's first event says of forgotten pairs.
use Rattle.std.proofs.Common.{◌≡◌, ℕ, Bool, true, false, cond, ◌||◌, List, [], ◌∷◌, ◌++◌, refl, ap, sym, ◌∙◌, subst}
use Rattle.std.specs.Prelude.{filter, map, not, reverse}
use Rattle.std.specs.List.{AllByRecursion}
use Rattle.std.proofs.lemmas.Bool.{false≢true}
use Rattle.std.proofs.lemmas.List.{map-append, reverse-append}
use Rattle.std.proofs.Props.{props}
use mathlib.Core.Logic.{∥∥₁_elim}
use Rattle.ws_model.specs.declared.event.Event.{Event}
use Rattle.ws_model.specs.declared.event.Tally.{Tally as TallyFields}
use Rattle.ws_model.specs.declared.event.What.{What}
use Rattle.ws_model.specs.declared.event.What.TheVariants.{Asked, Fetched, Pushed, Tally}
use Rattle.ws_model.specs.Account.{first_or_zero, tallies, tallies_of}
use Rattle.ws_model.specs.Keep.{keeps}
use Rattle.ws_model.specs.Legal.{Legal, accepts_what}
use Rattle.ws_laws.proofs.ListLaws.{all_append}
use Rattle.ws_tries.specs.Stands.{is_any_push}
use Rattle.ws_fate.specs.declared.totals.Totals.{Totals}
use Rattle.ws_fate.specs.Totals.{none}
use Rattle.ws_kept.specs.Part.{IsPart}
use Rattle.ws_kept.specs.Part.IsPart.{IsEnd, Has, Lacks}
use Rattle.ws_kept.specs.Stands.{IsLogged, is_needed, is_tally, light, light_event, log_of}
use Rattle.ws_kept.proofs.Part.{part_all}
use Rattle.ws_forgotten.specs.Forgotten.{told, told_first}

-- what the first of such Tallies says, or nothing
abbrev pub first_told : List TallyFields → Totals
first_told cs =
    record {
      answered = first_or_zero (map (λ c. c.answered) cs);
      expired = first_or_zero (map (λ c. c.expired) cs);
      unsubscribed = first_or_zero (map (λ c. c.unsubscribed) cs);
      replaced = first_or_zero (map (λ c. c.replaced) cs);
      gone = first_or_zero (map (λ c. c.gone) cs);
      spent = first_or_zero (map (λ c. c.spent) cs);
      revoked = first_or_zero (map (λ c. c.revoked) cs);
    }

-- ---- an event that isn't the first

untold : (e f : Event) (h : List Event) (w : What) → accepts_what e (f ∷ h) w ≡ true → told w ≡ none
untold e f h (Tally c) k = absurd (false≢true k)
untold e f h _ k = refl

untallied : (e f : Event) (h : List Event) (w : What) → accepts_what e (f ∷ h) w ≡ true → tallies_of w ≡ []
untallied e f h (Tally c) k = absurd (false≢true k)
untallied e f h _ k = refl

told_light : (w : What) → told (light w) ≡ told w
told_light (Fetched v) = refl
told_light (Asked i) = refl
told_light _ = refl

last_untold : (log : List Event) (e : Event) → told e.what ≡ none → told_first (log ++ e ∷ []) ≡ told_first log
last_untold [] e k = k
last_untold (f ∷ log) e k = refl

newest_untold : (e : Event) (es : List Event) (b : Bool) → told e.what ≡ none → told_first (map light_event (reverse (cond b (e ∷ es) es))) ≡ told_first (map light_event (reverse es))
newest_untold e es true k =
    ap (λ xs. told_first (map light_event xs)) (reverse-append (e ∷ []) es)
    ∙ ap told_first (map-append light_event (reverse es) (e ∷ []))
    ∙ last_untold (map light_event (reverse es)) (light_event e) (told_light e.what ∙ k)
newest_untold e es false k = refl

-- ---- only the first event can be a Tally

-- the later events tell nothing
abbrev IsFirstOnly : List Event → Type 0
IsFirstOnly [] = Unit {0}
IsFirstOnly (e ∷ log) = AllByRecursion (λ f. told f.what ≡ none) log

first_still : (log : List Event) (e : Event) → told e.what ≡ none → IsFirstOnly log → IsFirstOnly (log ++ e ∷ [])
first_still [] e k a = tt
first_still (f ∷ log) e k a = all_append (λ x. told x.what ≡ none) log (e ∷ []) a (k, tt)

newest_later : (e : Event) (es : List Event) (b : Bool) → told e.what ≡ none → IsFirstOnly (map light_event (reverse es)) → IsFirstOnly (map light_event (reverse (cond b (e ∷ es) es)))
newest_later e es true k a =
    subst IsFirstOnly (sym (ap (map light_event) (reverse-append (e ∷ []) es) ∙ map-append light_event (reverse es) (e ∷ [])))
    (first_still (map light_event (reverse es)) (light_event e) (told_light e.what ∙ k) a)
newest_later e es false k a = a

alone_first : (e : Event) (b : Bool) → IsFirstOnly (map light_event (reverse (cond b (e ∷ []) [])))
alone_first e true = tt
alone_first e false = tt

first_only : (h : List Event) → Legal h → IsFirstOnly (log_of h)
first_only [] l = tt
first_only (e ∷ []) l = alone_first e (not (is_any_push e.what))
first_only (e ∷ f ∷ h) l = newest_later e (filter (λ x. not (is_any_push x.what)) (f ∷ h)) (not (is_any_push e.what)) (untold e f h e.what l.1) (first_only (f ∷ h) l.0)

-- ---- a log that lacks events that aren't needed

lacking : (w : What) (b : Bool) → ((is_tally w || b) ≡ true → ⊥) → told w ≡ none
lacking (Tally c) b free = absurd (free refl)
lacking _ b free = refl

none_told : (log : List Event) → AllByRecursion (λ e. told e.what ≡ none) log → told_first log ≡ none
none_told [] a = refl
none_told (e ∷ log) a = a.0

part_told : (h : List Event) (t : ℕ) {part all : List Event} → IsFirstOnly all → IsPart (λ e. is_needed h t e ≡ true) part all → told_first part ≡ told_first all
part_told h t a IsEnd = refl
part_told h t a (Has e part all p) = refl
part_told h t a (Lacks e part all free p) = none_told part (part_all (λ x. is_needed h t x ≡ true) (λ x. told x.what ≡ none) a p) ∙ sym (lacking e.what (keeps h t e e.what) free)

-- ---- all events

alone : (s t : ℕ) (w : What) → told_first (log_of (record { serial = s; t = t; what = w } ∷ [])) ≡ first_told (tallies (record { serial = s; t = t; what = w } ∷ []))
alone s t (Tally c) = refl
alone s t (Fetched v) = refl
alone s t (Pushed v n how) = refl
alone s t _ = refl

-- in the log of a legal history only the first event can be a Tally
log_told : (h : List Event) → Legal h → told_first (log_of h) ≡ first_told (tallies h)
log_told [] l = refl
log_told (e ∷ []) l = alone e.serial e.t e.what
log_told (e ∷ f ∷ h) l =
    newest_untold e (filter (λ x. not (is_any_push x.what)) (f ∷ h)) (not (is_any_push e.what)) (untold e f h e.what l.1)
    ∙ log_told (f ∷ h) l.0
    ∙ sym (ap (λ cs. first_told (cs ++ tallies (f ∷ h))) (untallied e f h e.what l.1))

totals_set : IsSet Totals
totals_set = hlevel props

-- the first event that the log has is the Tally, where there is one
pub logged_told : (h : List Event) (t : ℕ) (log : List Event) → Legal h → IsLogged h t log → told_first log ≡ first_told (tallies h)
logged_told h t log l p = ∥∥₁_elim p (totals_set _ _) (part_told h t (first_only h l)) ∙ log_told h l
