-- For which history the rooms of a table stand, and how they go on (own).
use Rattle.std.specs.Prelude.{◌≡◌, ℕ, ◌≤◌, ◌<◌, Bool, true, false, cond, List, [], ◌∷◌, ◌++◌, length, map, filter, reverse, option_map, Some, None, is_some, IfSome, IsSome, ◌==◌}
use Rattle.ws_model.specs.declared.event.Event.{Event}
use Rattle.ws_model.specs.declared.event.How.{How}
use Rattle.ws_model.specs.declared.event.What.{What}
use Rattle.ws_model.specs.declared.event.What.TheVariants.{Pushed}
use Rattle.ws_model.specs.Fate.{is_push}
use Rattle.ws_model.specs.Legal.{Legal}
use Rattle.ws_model.specs.Keep.{kept_leases, member}
use Rattle.ws_model.specs.Verdict.{is_kept_version, pair_of}
use Rattle.ws_tries.specs.declared.room.Try.{Try}
use Rattle.ws_tries.specs.Rows.{Rows, is_here, tries_at}

-- what an event says of the pair of this version and this lease: the try, where it is a push of that pair
abbrev pub tried : ℕ → ℕ → Event → What → List Try
tried v n e (Pushed w m how) = cond (is_here w m v n) (record { serial = e.serial; t = e.t; how = how } ∷ []) []
tried v n e _ = []

-- the tries of the pair that the history has, the oldest first
abbrev pub tries_of : List Event → ℕ → ℕ → List Try
tries_of [] v n = []
tries_of (e ∷ h) v n = tries_of h v n ++ tried v n e e.what

-- the event that a try of this pair is of
abbrev pub event_of : ℕ → ℕ → Try → Event
event_of v n made = record { serial = made.serial; t = made.t; what = Pushed v n made.how }

-- as events, the tries of a pair are all its pushes in the history, the oldest first
abbrev pub ArePushes : Type 0
ArePushes = (h : List Event) (v n : ℕ) → map (event_of v n) (tries_of h v n) ≡ reverse (filter (λ e. is_push (λ how. true) v n e.what) h)

-- each pair that has a room has exactly its tries of the history there
abbrev pub StandsFor : List Event → Rows → Type 0
StandsFor h rows = (v n : ℕ) → IfSome (tries_at v n rows) (λ tries. tries ≡ tries_of h v n)

-- each kept pair of the history, of a version and of a lease that a compaction at t would keep, has a room
abbrev pub HaveRooms : List Event → ℕ → Rows → Type 0
HaveRooms h t rows =
    (v n : ℕ)
    → is_kept_version h t v ≡ true → member n (kept_leases h t) ≡ true → is_some (pair_of h v n) ≡ true → IsSome (tries_at v n rows)

-- ---- by one event

-- the try stands behind the others of the pair, and all else is as it was
abbrev pub Adds : ℕ → ℕ → Try → Rows → Rows → Type 0
Adds ver lease made old new = (v n : ℕ) → tries_at v n new ≡ cond (is_here ver lease v n) (option_map (λ tries. tries ++ made ∷ []) (tries_at ver lease old)) (tries_at v n old)

abbrev pub StandsAfter : Type 0
StandsAfter =
    (h : List Event) (e : Event) (ver lease : ℕ) (how : How) (old new : Rows)
    → e.what ≡ Pushed ver lease how → StandsFor h old → Adds ver lease (record { serial = e.serial; t = e.t; how = how }) old new → StandsFor (e ∷ h) new

abbrev pub is_any_push : What → Bool
is_any_push (Pushed v n how) = true
is_any_push _ = false

abbrev pub StandsOn : Type 0
StandsOn = (h : List Event) (e : Event) (rows : Rows) → is_any_push e.what ≡ false → StandsFor h rows → StandsFor (e ∷ h) rows

-- ---- rooms that are made and given back

abbrev pub MakesRoom : Type 0
MakesRoom =
    (h : List Event) (ver lease : ℕ) (old new : Rows)
    → tries_of h ver lease ≡ [] → StandsFor h old → ((v n : ℕ) → tries_at v n new ≡ cond (is_here ver lease v n) (Some []) (tries_at v n old)) → StandsFor h new

abbrev pub GivesBack : Type 0
GivesBack =
    (h : List Event) (ver lease : ℕ) (old new : Rows)
    → StandsFor h old → ((v n : ℕ) → tries_at v n new ≡ cond (is_here ver lease v n) None (tries_at v n old)) → StandsFor h new

abbrev pub GivesBackVersion : Type 0
GivesBackVersion =
    (h : List Event) (ver : ℕ) (old new : Rows)
    → StandsFor h old → ((v n : ℕ) → tries_at v n new ≡ cond (ver == v) None (tries_at v n old)) → StandsFor h new

-- ---- how many tries there are

abbrev pub Untried : Type 0
Untried = (h : List Event) (v n : ℕ) → Legal h → pair_of h v n ≡ None → tries_of h v n ≡ []

abbrev pub AtMostEight : Type 0
AtMostEight = (h : List Event) (v n : ℕ) → Legal h → length (tries_of h v n) ≤ 8

-- a push that may come finds fewer than eight tries
abbrev pub HasPlace : Type 0
HasPlace =
    (h : List Event) (e : Event) (v n : ℕ) (how : How) (rows : Rows)
    → Legal (e ∷ h) → e.what ≡ Pushed v n how → StandsFor h rows → IfSome (tries_at v n rows) (λ tries. length tries < 8)
