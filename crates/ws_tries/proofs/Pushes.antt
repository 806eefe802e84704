-- Tries as the events that they are of.
use Rattle.std.proofs.Common.{◌≡◌, ℕ, Bool, true, false, cond, ◌&&◌, List, [], ◌∷◌, ◌++◌, refl, ap, sym, ◌∙◌}
use Rattle.std.specs.Prelude.{map, filter, reverse, ◌==◌}
use Rattle.std.proofs.lemmas.Bool.{eqb-true}
use Rattle.std.proofs.lemmas.List.{append-nil, map-append, reverse-append}
use Rattle.ws_model.specs.declared.event.Event.{Event}
use Rattle.ws_model.specs.declared.event.What.{What}
use Rattle.ws_model.specs.declared.event.What.TheVariants.{Pushed}
use Rattle.ws_model.specs.Fate.{is_push}
use Rattle.ws_tries.specs.declared.room.Try.{Try}
use Rattle.ws_tries.specs.Stands.{ArePushes, event_of, tried, tries_of}

-- one event more
more : (s t : ℕ) (w : What) (v n : ℕ) (es : List Event)
    → reverse es ++ map (event_of v n) (tried v n (record { serial = s; t = t; what = w }) w) ≡ reverse (cond {A = List Event} (is_push (λ how. true) v n w) (record { serial = s; t = t; what = w } ∷ es) es)
more s t (Pushed a b how) v n es = one (a == v) (b == n) refl refl
  where
    one : (c d : Bool) → (a == v) ≡ c → (b == n) ≡ d
        → reverse es ++ map (event_of v n) (cond {A = List Try} (c && d) (record { serial = s; t = t; how = how } ∷ []) []) ≡ reverse (cond {A = List Event} (c && d && true) (record { serial = s; t = t; what = Pushed a b how } ∷ es) es)
    one true true k l =
        let same : reverse es ++ event_of v n (record { serial = s; t = t; how = how }) ∷ [] ≡ reverse es ++ record { serial = s; t = t; what = Pushed a b how } ∷ [] =
        λ j. reverse es ++ record { serial = s; t = t; what = Pushed (sym (eqb-true a v k) j) (sym (eqb-true b n l) j) how } ∷ [] in
        same ∙ sym (reverse-append (record { serial = s; t = t; what = Pushed a b how } ∷ []) es)
    one true false k l = append-nil (reverse es)
    one false true k l = append-nil (reverse es)
    one false false k l = append-nil (reverse es)
more s t _ v n es = append-nil (reverse es)

pub are_pushes : ArePushes
are_pushes [] v n = refl
are_pushes (e ∷ h) v n =
    map-append (event_of v n) (tries_of h v n) (tried v n e e.what)
    ∙ ap (λ es. es ++ map (event_of v n) (tried v n e e.what)) (are_pushes h v n)
    ∙ more e.serial e.t e.what v n (filter (λ e. is_push (λ how. true) v n e.what) h)
