-- The owed fetch of a topic, by its latest ping.
use Rattle.std.proofs.Common.{◌≡◌, ℕ, Bool, true, false, cond, not, ◌&&◌, ◌||◌, List, [], ◌∷◌, refl, ap, sym, ◌∙◌}
use Rattle.std.specs.Prelude.{Option, Some, None, bytes_eq, find, nat_lt}
use Rattle.std.specs.List.{AllByRecursion, list_any}
use Rattle.std.specs.Option.{option_map}
use Rattle.std.proofs.lemmas.Bool.{and_parts, eqb-true, false≢true}
use Rattle.std.proofs.Math.Bool.{or-false}
use Rattle.ws_model.specs.declared.event.Event.{Event}
use Rattle.ws_model.specs.History.{has}
use Rattle.ws_model.specs.Versions.{Ping, fetches, is_answer, is_owed_fetch, is_ping_at, missed_fetches, pings}
use Rattle.ws_laws.proofs.ListLaws.{all_filter_with, all_from, all_weaker}
use Rattle.ws_laws.proofs.Topics.{bytes_are}

abbrev pub of_topic : List ℕ → Ping → Bool
of_topic topic p = bytes_eq p.topic topic

abbrev serial_of : Option Ping → ℕ
serial_of None = 0
serial_of (Some p) = p.serial

at_serial : (s : ℕ) (o : Option Ping) → is_ping_at s o ≡ true → s ≡ serial_of o
at_serial s None k = absurd (false≢true k)
at_serial s (Some p) k = sym (eqb-true p.serial s k)

abbrev HasSerial : List ℕ → ℕ → Ping → Type 0
HasSerial topic s p = of_topic topic p ≡ true → p.serial ≡ s

-- those of one topic have one serial
one_serial : (h : List Event) (topic : List ℕ) → AllByRecursion (HasSerial topic (serial_of (find (of_topic topic) (pings h)))) (fetches h)
one_serial h topic =
    all_weaker (λ (p : Ping). Unit {0} × (is_owed_fetch h p ≡ true)) (HasSerial topic (serial_of (find (of_topic topic) (pings h))))
    (λ p k same.
    at_serial p.serial (find (of_topic topic) (pings h))
    (ap (λ x. is_ping_at p.serial (find (λ q. bytes_eq q.topic x) (pings h))) (sym (bytes_are p.topic topic same))
    ∙ first h p k.1))
    (fetches h) (all_filter_with (λ _. Unit {0}) (is_owed_fetch h) (pings h) (all_from (λ _. Unit {0}) (λ _. tt) (pings h)))
  where
    first : (h : List Event) (p : Ping) → is_owed_fetch h p ≡ true → is_ping_at p.serial (find (λ q. bytes_eq q.topic p.topic) (pings h)) ≡ true
    first h p k =
        let latest : Bool = is_ping_at p.serial (find (λ q. bytes_eq q.topic p.topic) (pings h)) in
        let unanswered : Bool = not (has (is_answer p) h) in
        (and_parts latest unanswered (and_parts (latest && unanswered) (nat_lt (missed_fetches p.topic h) 3) k).0).0

-- what a test says of the ping, where there is one
abbrev pub of_serial : (ℕ → Bool) → Option ℕ → Bool
of_serial test None = false
of_serial test (Some s) = test s

module _ (topic : List ℕ) (test : ℕ → Bool) (s : ℕ) where
  abbrev both : Ping → Bool
  both p = of_topic topic p && test p.serial

  no_other : test s ≡ false → (ps : List Ping) → AllByRecursion (HasSerial topic s) ps → list_any both ps ≡ false
  no_other k [] a = refl
  no_other k (p ∷ ps) a = by (of_topic topic p) refl (no_other k ps a.1)
    where
      by : (b : Bool) → of_topic topic p ≡ b → list_any both ps ≡ false → list_any both (p ∷ ps) ≡ false
      by true e r = ap (λ x. (x && test p.serial) || list_any both ps) e ∙ ap (λ x. x || list_any both ps) (ap test (a.0 e) ∙ k) ∙ r
      by false e r = ap (λ x. (x && test p.serial) || list_any both ps) e ∙ r

  any_first : (ps : List Ping) → AllByRecursion (HasSerial topic s) ps → list_any both ps ≡ of_serial test (option_map (λ (p : Ping). p.serial) (find (of_topic topic) ps))
  any_first [] a = refl
  any_first (p ∷ ps) a = by (of_topic topic p) refl (any_first ps a.1)
    where
      first : of_topic topic p ≡ true → (b : Bool) → test s ≡ b → (test p.serial || list_any both ps) ≡ test p.serial
      first e true k = let q : test p.serial ≡ true = ap test (a.0 e) ∙ k in ap (λ x. x || list_any both ps) q ∙ sym q
      first e false k = ap (λ x. test p.serial || x) (no_other k ps a.1) ∙ or-false (test p.serial)

      by : (b : Bool) → of_topic topic p ≡ b → list_any both ps ≡ of_serial test (option_map (λ (p : Ping). p.serial) (find (of_topic topic) ps))
          → ((b && test p.serial) || list_any both ps) ≡ of_serial test (option_map (λ (p : Ping). p.serial) (cond b (Some p) (find (of_topic topic) ps)))
      by true e r = first e (test s) refl
      by false e r = r

-- among the owed fetches, those of one topic are one
pub any_fetch :
    (h : List Event) (topic : List ℕ) (test : ℕ → Bool)
    → list_any (λ p. bytes_eq p.topic topic && test p.serial) (fetches h) ≡ of_serial test (option_map (λ (p : Ping). p.serial) (find (λ p. bytes_eq p.topic topic) (fetches h)))
any_fetch h topic test = any_first topic test (serial_of (find (of_topic topic) (pings h))) (fetches h) (one_serial h topic)
