-- What a history is with all that happens at one time.
use Rattle.std.proofs.Common.{◌≡◌, ℕ, suc, ◌+◌, ◌≤◌, Bool, true, false, List, [], ◌∷◌, length, max, refl, ap, sym, subst, arith}
use Rattle.std.specs.Prelude.{◌&&◌}
use Rattle.std.specs.List.{list_all}
use Rattle.ws_model.specs.declared.event.Event.{Event}
use Rattle.ws_model.specs.declared.event.What.{What}
use Rattle.ws_model.specs.declared.event.What.TheVariants.{Tally}
use Rattle.ws_model.specs.Legal.{Legal}
use Rattle.ws_model.specs.Moment.{serial, time, time_in}
use Rattle.ws_core_tables.specs.Committing.{committed as added}
use Rattle.ws_core.specs.Rows.{Rows}
use Rattle.ws_core.specs.Committing.{AllGoOn}
use Rattle.ws_core.specs.Stands.{GoesOn, StandsFor}
use Rattle.ws_commit.specs.Laws.{MayCommit}
use Rattle.ws_port.specs.Calls.{committed}
use Rattle.ws_desk.specs.Commits.{are_new, is_new}
use Rattle.ws_desk.specs.Holds.{Holds}

-- the core says it in the same words
pub same : (t : ℕ) (ws : List What) (h : List Event) → added t ws h ≡ committed t ws h
same t [] h = refl
same t (w ∷ ws) h = same t ws (record { serial = suc (serial h); t = t; what = w } ∷ h)

moved : (a b : ℕ) → a + suc b ≡ suc a + b
moved a b = omega arith

none_more : (a : ℕ) → a ≡ 0 + a
none_more a = omega arith

pub longer : (t : ℕ) (ws : List What) (h : List Event) → length (committed t ws h) ≡ length ws + length h
longer t [] h = none_more (length h)
longer t (w ∷ ws) h = rw (longer t ws (record { serial = suc (serial h); t = t; what = w } ∷ h)) (moved (length ws) (length h))

own_time : (e : Event) (w : What) → is_new w ≡ true → time_in e w ≡ e.t
own_time e (Tally c) k = absurd (cc)
own_time e _ k = refl

first : (a b : Bool) → (a && b) ≡ true → a ≡ true
first true b k = refl
first false b k = absurd (cc)

rest : (a b : Bool) → (a && b) ≡ true → b ≡ true
rest true b k = k
rest false b k = absurd (cc)

both : (a b t : ℕ) → a ≡ t → b ≤ t → max a b ≤ t
both a b t k l = omega arith

both_true : (b : Bool) → b ≡ true → (b && true) ≡ true
both_true b k = rw k refl

trans : (a b c : ℕ) → a ≤ b → b ≤ c → a ≤ c
trans a b c p q = omega arith

pub in_time : (t : ℕ) (ws : List What) (h : List Event) → are_new ws ≡ true → time h ≤ t → time (committed t ws h) ≤ t
in_time t [] h new le = le
in_time t (w ∷ ws) h new le =
    let e : Event = record { serial = suc (serial h); t = t; what = w } in
    in_time t ws (e ∷ h) (rest (is_new w) (list_all is_new ws) new) (both (time_in e w) (time h) t (own_time e w (first (is_new w) (list_all is_new ws) new)) le)

counted : (a b c d n : ℕ) → a ≡ b + c → c ≡ d → n ≡ d + b → a ≡ n
counted a b c d n e f g = omega arith

-- where the core goes on, so does what the desk holds
pub goes_on : (t used count n : ℕ) (ws : List What) (old new : Rows) → AllGoOn t ws old new → are_new ws ≡ true → used ≤ t → n ≡ count + length ws
    → (h : List Event) → Holds old used count h → Legal (added t ws h) → Holds new t n (committed t ws h)
goes_on t used count n ws old new goes fresh le k h held legal =
    record {
      stands = subst (λ g. StandsFor g t new) (same t ws h) (goes h used held.stands legal le);
      legal = subst Legal (same t ws h) legal;
      in_time = in_time t ws h fresh (trans _ _ _ held.in_time le);
      counted = counted _ _ _ _ _ (longer t ws h) held.counted k;
    }

-- an event under the next serial
pub numbered : (e : Event) (h : List Event) → e.serial ≡ suc (serial h) → e ≡ record { serial = suc (serial h); t = e.t; what = e.what }
numbered e h k = ap (λ s. record { serial = s; t = e.t; what = e.what }) k

pub follows : (e : Event) (h : List Event) → e.serial ≡ suc (serial h) → MayCommit h e.t (e.what ∷ []) → Legal (e ∷ h)
follows e h k may = subst (λ (x : Event). Legal (x ∷ h)) (sym (numbered e h k)) may.legal

pub one_goes_on : (e : Event) (used count n : ℕ) (old new : Rows) → GoesOn e old new → is_new e.what ≡ true → used ≤ e.t → n ≡ count + 1
    → (h : List Event) → Holds old used count h → e.serial ≡ suc (serial h) → MayCommit h e.t (e.what ∷ []) → Holds new e.t n (committed e.t (e.what ∷ []) h)
one_goes_on e used count n old new goes fresh le k h held next may =
    record {
      stands = subst (λ (x : Event). StandsFor (x ∷ h) e.t new) (numbered e h next) (goes h used held.stands (follows e h next may) le);
      legal = may.legal;
      in_time = in_time e.t (e.what ∷ []) h (both_true (is_new e.what) fresh) (trans _ _ _ held.in_time le);
      counted = counted _ _ _ _ _ (longer e.t (e.what ∷ []) h) held.counted k;
    }

-- a past that was changed is what it was changed to
pub moved_past : (core : Rows) (t n : ℕ) (g h : List Event) → g ≡ h → Holds core t n h → Holds core t n g
moved_past core t n g h e held = subst (Holds core t n) (sym e) held

pub before : (a b t : ℕ) → a ≤ b → b ≤ t → a ≤ t
before a b t k l = trans a b t k l
