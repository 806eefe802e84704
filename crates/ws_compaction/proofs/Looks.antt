-- Looking back over what is kept.
use Rattle.std.proofs.Common.{◌≡◌, ℕ, suc, ◌≤◌, Bool, true, false, cond, ◌||◌, List, [], ◌∷◌, refl, ap, sym, ◌∙◌, arith, inl, inr}
use Rattle.std.specs.List.{AllByRecursion}
use Rattle.std.proofs.lemmas.Bool.{false_from_ne_true, false≢true, or_cases, or_from, or_left, or_parts, or_right}
use Rattle.ws_compaction.proofs.Shrunk.{shrunk}
use Rattle.ws_model.specs.History.{has, times}
use Rattle.ws_model.specs.Moment.{intent_number, last_intent, last_serial, last_time, last_version, serial, time, version_number}
use Rattle.ws_model.specs.declared.event.Event.{Event}
use Rattle.ws_model.specs.declared.event.Tally.{Tally as TallyFields}
use Rattle.ws_model.specs.declared.event.What.{What}
use Rattle.ws_model.specs.declared.event.What.TheVariants.{Tally}

-- what happened, by a weaker test
pub has_more : (p q : What → Bool) → ((w : What) → p w ≡ true → q w ≡ true) → (h : List Event) → has p h ≡ true → has q h ≡ true
has_more p q f [] k = absurd (false≢true k)
has_more p q f (e ∷ h) k = elim (or_cases (p e.what) (has p h) k) [ inl a ↦ or_left _ _ (f e.what a) | inr a ↦ or_right (q e.what) _ (has_more p q f h a) ]

-- what didn't happen is no event
pub none_in : (q : What → Bool) (g : List Event) → has q g ≡ false → AllByRecursion (λ (e : Event). q e.what ≡ false) g
none_in q [] k = tt
none_in q (e ∷ g) k = let r = or_parts (q e.what) (has q g) k in (r.0, none_in q g r.1)

module _ (tallied : TallyFields) (passes : Event → Bool) (lease_in version_in : ℕ → Bool) where
  abbrev kept : List Event → List Event
  kept g = shrunk tallied passes lease_in version_in g

  -- ---- a test that fails for the Tally

  -- no event that passes the test is left out
  abbrev pub Unlost : (What → Bool) → List Event → Type 0
  Unlost q g = AllByRecursion (λ (e : Event). passes e ≡ false → q e.what ≡ false) g

  module _ (q : What → Bool) (none : q (Tally tallied) ≡ false) where
    pub has_same : (g : List Event) → Unlost q g → has q (kept g) ≡ has q g
    has_same [] u = rw none
    has_same (e ∷ g) u = one (passes e) refl (has_same g u.1)
      where
        one : (b : Bool) → passes e ≡ b → has q (kept g) ≡ has q g → has q (cond b (e ∷ kept g) (kept g)) ≡ (q e.what || has q g)
        one true k r = ap (λ x. q e.what || x) r
        one false k r = rw (u.0 k) r

    pub times_same : (g : List Event) → Unlost q g → times q (kept g) ≡ times q g
    times_same [] u = rw none
    times_same (e ∷ g) u = one (passes e) refl (times_same g u.1)
      where
        one : (b : Bool) → passes e ≡ b → times q (kept g) ≡ times q g → times q (cond b (e ∷ kept g) (kept g)) ≡ times q (e ∷ g)
        one true k r = ap (λ x. cond (q e.what) (suc x) x) r
        one false k r = rw (u.0 k) r

    pub has_less : (g : List Event) → has q g ≡ false → has q (kept g) ≡ false
    has_less [] k = rw none
    has_less (e ∷ g) k = let r = or_parts (q e.what) (has q g) k in one (passes e) r.0 (has_less g r.1)
      where
        one : (b : Bool) → q e.what ≡ false → has q (kept g) ≡ false → has q (cond b (e ∷ kept g) (kept g)) ≡ false
        one true a r = or_from _ _ a r
        one false a r = r

    pub times_le : (g : List Event) → times q (kept g) ≤ times q g
    times_le [] = rw none (omega arith)
    times_le (e ∷ g) = one (passes e) (times_le g)
      where
        both : (c : Bool) → times q (kept g) ≤ times q g → cond c (suc (times q (kept g))) (times q (kept g)) ≤ cond c (suc (times q g)) (times q g)
        both true r = omega arith
        both false r = r

        fewer : (c : Bool) → times q (kept g) ≤ times q g → times q (kept g) ≤ cond c (suc (times q g)) (times q g)
        fewer true r = omega arith
        fewer false r = r

        one : (b : Bool) → times q (kept g) ≤ times q g → times q (cond b (e ∷ kept g) (kept g)) ≤ times q (e ∷ g)
        one true r = both (q e.what) r
        one false r = fewer (q e.what) r

    -- a test of events that are left out
    pub has_none : (g : List Event) → ((e : Event) → q e.what ≡ true → passes e ≡ false) → has q (kept g) ≡ false
    has_none [] f = rw none
    has_none (e ∷ g) f = one (passes e) refl (has_none g f)
      where
        one : (b : Bool) → passes e ≡ b → has q (kept g) ≡ false → has q (cond b (e ∷ kept g) (kept g)) ≡ false
        one true k r = or_from _ _ (false_from_ne_true _ (λ y. false≢true (sym (f e y) ∙ k))) r
        one false k r = r

  -- ---- the greatest time, serial and numbers

  pub time_kept : (g : List Event) → time g ≤ tallied.now → time (kept g) ≡ tallied.now
  time_kept [] le = omega arith
  time_kept (e ∷ g) le =
      let before : time (kept g) ≡ tallied.now = time_kept g (omega arith) in
      one (passes e) before
    where
      one : (b : Bool) → time (kept g) ≡ tallied.now → time (cond b (e ∷ kept g) (kept g)) ≡ tallied.now
      one true r = omega arith
      one false r = r

  pub serial_kept : (g : List Event) → serial g ≤ tallied.serial → serial (kept g) ≡ tallied.serial
  serial_kept [] le = omega arith
  serial_kept (e ∷ g) le = one (passes e) (serial_kept g (omega arith))
    where
      one : (b : Bool) → serial (kept g) ≡ tallied.serial → serial (cond b (e ∷ kept g) (kept g)) ≡ tallied.serial
      one true r = omega arith
      one false r = r

  pub intent_kept : (g : List Event) → intent_number g ≤ tallied.intent → intent_number (kept g) ≡ tallied.intent
  intent_kept [] le = omega arith
  intent_kept (e ∷ g) le = one (passes e) (intent_kept g (omega arith))
    where
      one : (b : Bool) → intent_number (kept g) ≡ tallied.intent → intent_number (cond b (e ∷ kept g) (kept g)) ≡ tallied.intent
      one true r = omega arith
      one false r = r

  pub version_kept : (g : List Event) → version_number g ≤ tallied.version → version_number (kept g) ≡ tallied.version
  version_kept [] le = omega arith
  version_kept (e ∷ g) le = one (passes e) (version_kept g (omega arith))
    where
      one : (b : Bool) → version_number (kept g) ≡ tallied.version → version_number (cond b (e ∷ kept g) (kept g)) ≡ tallied.version
      one true r = omega arith
      one false r = r

  pub last_time_kept : (g : List Event) → last_time (kept g) ≤ last_time g
  last_time_kept [] = omega arith
  last_time_kept (e ∷ g) = one (passes e) (last_time_kept g)
    where
      one : (b : Bool) → last_time (kept g) ≤ last_time g → last_time (cond b (e ∷ kept g) (kept g)) ≤ last_time (e ∷ g)
      one true r = omega arith
      one false r = omega arith

  pub last_serial_kept : (g : List Event) → last_serial (kept g) ≤ last_serial g
  last_serial_kept [] = omega arith
  last_serial_kept (e ∷ g) = one (passes e) (last_serial_kept g)
    where
      one : (b : Bool) → last_serial (kept g) ≤ last_serial g → last_serial (cond b (e ∷ kept g) (kept g)) ≤ last_serial (e ∷ g)
      one true r = omega arith
      one false r = omega arith

  pub last_intent_kept : (g : List Event) → last_intent (kept g) ≤ last_intent g
  last_intent_kept [] = omega arith
  last_intent_kept (e ∷ g) = one (passes e) (last_intent_kept g)
    where
      one : (b : Bool) → last_intent (kept g) ≤ last_intent g → last_intent (cond b (e ∷ kept g) (kept g)) ≤ last_intent (e ∷ g)
      one true r = omega arith
      one false r = omega arith

  pub last_version_kept : (g : List Event) → last_version (kept g) ≤ last_version g
  last_version_kept [] = omega arith
  last_version_kept (e ∷ g) = one (passes e) (last_version_kept g)
    where
      one : (b : Bool) → last_version (kept g) ≤ last_version g → last_version (cond b (e ∷ kept g) (kept g)) ≤ last_version (e ∷ g)
      one true r = omega arith
      one false r = omega arith
