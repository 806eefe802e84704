-- Which intent work goes by (own): of a verification its pending intent, of a notice that of the owed notice, of a push that of the lease.
use Rattle.std.specs.Prelude.{ℕ, ◌≤◌, List, Option, IsSome, IfSome, find, ◌==◌}
use Rattle.std.specs.Option.{option_map, option_or}
use Rattle.ws_model.specs.declared.event.Event.{Event}
use Rattle.ws_model.specs.declared.event.Intent.{Intent}
use Rattle.ws_model.specs.declared.work.Work.{Work}
use Rattle.ws_model.specs.declared.work.Work.TheVariants.{Verify, Notice, Fetch, Push}
use Rattle.ws_model.specs.Due.{due}
use Rattle.ws_model.specs.Intents.{notices}
use Rattle.ws_model.specs.Leases.{live}
use Rattle.ws_model.specs.Legal.{Legal, pending_of}
use Rattle.ws_model.specs.Moment.{time}
use Rattle.ws_core_tables.specs.Stands.{first_of}

-- the intent of this number that is pending, or whose notice is owed, or whose lease is live at the history's time
abbrev pub intent_in_use : List Event → ℕ → Option Intent
intent_in_use h n = option_or (pending_of h n) (option_or (find (λ i. i.n == n) (notices h)) (option_map (λ l. l.intent) (find (λ l. l.intent.n == n) (live h (time h)))))

-- the intent that work goes by is in use
abbrev pub HasIntent : List Event → Work → Type 0
HasIntent h (Verify n) = IsSome (intent_in_use h n)
HasIntent h (Notice n) = IsSome (intent_in_use h n)
HasIntent h (Fetch topic upto) = Unit {0}
HasIntent h (Push v n) = IsSome (intent_in_use h n)

-- so it is for the first of the due work
abbrev pub DueHasIntent : Type 0
DueHasIntent = (h : List Event) (t : ℕ) (held : List Work) → Legal h → time h ≤ t → IfSome (first_of (due h t held)) (HasIntent h)
