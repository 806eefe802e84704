-- An event may follow where it comes next and is sound.
use Rattle.std.proofs.Common.{◌≡◌, Bool, true, false, ◌&&◌, List, refl, ap, sym, ◌∙◌}
use Rattle.ws_model.specs.declared.event.Event.{Event}
use Rattle.ws_model.specs.declared.event.What.{What}
use Rattle.ws_model.specs.declared.event.What.TheVariants.{Asked, Confirmed, Declined, Unheard, Barred, Noticed, Pinged, Fetched, Same, Unfetched, Pushed, Tally, Revoked}
use Rattle.ws_model.specs.Legal.{accepts, accepts_what, is_allowed, is_in_order, is_sound}
use Rattle.ws_core_tables.specs.Allowed.{comes_next, comes_next_as}

turned : (a b c : Bool) → (a && b && c) ≡ ((a && c) && b)
turned true true true = refl
turned true true false = refl
turned true false true = refl
turned true false false = refl
turned false b c = refl

parted : (e : Event) (h : List Event) (w : What) → accepts_what e h w ≡ (comes_next_as e h w && is_sound e.serial w)
parted e h (Asked i) = turned (is_in_order e h) (is_sound e.serial (Asked i)) (is_allowed (Asked i) e.t h)
parted e h (Confirmed n sent) = turned (is_in_order e h) (is_sound e.serial (Confirmed n sent)) (is_allowed (Confirmed n sent) e.t h)
parted e h (Declined n code) = turned (is_in_order e h) (is_sound e.serial (Declined n code)) (is_allowed (Declined n code) e.t h)
parted e h (Unheard n) = turned (is_in_order e h) (is_sound e.serial (Unheard n)) (is_allowed (Unheard n) e.t h)
parted e h (Barred n reason) = turned (is_in_order e h) (is_sound e.serial (Barred n reason)) (is_allowed (Barred n reason) e.t h)
parted e h (Noticed n heard) = turned (is_in_order e h) (is_sound e.serial (Noticed n heard)) (is_allowed (Noticed n heard) e.t h)
parted e h (Pinged topic) = turned (is_in_order e h) (is_sound e.serial (Pinged topic)) (is_allowed (Pinged topic) e.t h)
parted e h (Fetched v) = turned (is_in_order e h) (is_sound e.serial (Fetched v)) (is_allowed (Fetched v) e.t h)
parted e h (Same topic upto) = turned (is_in_order e h) (is_sound e.serial (Same topic upto)) (is_allowed (Same topic upto) e.t h)
parted e h (Unfetched topic upto why) = turned (is_in_order e h) (is_sound e.serial (Unfetched topic upto why)) (is_allowed (Unfetched topic upto why) e.t h)
parted e h (Pushed v n how) = turned (is_in_order e h) (is_sound e.serial (Pushed v n how)) (is_allowed (Pushed v n how) e.t h)
parted e h (Tally c) = refl
parted e h (Revoked n reason) = turned (is_in_order e h) (is_sound e.serial (Revoked n reason)) (is_allowed (Revoked n reason) e.t h)

pub accepted_where : (e : Event) (h : List Event) (b : Bool) → comes_next e h ≡ true → b ≡ is_sound e.serial e.what → b ≡ accepts h e
accepted_where e h b k m = m ∙ ap (λ a. a && is_sound e.serial e.what) (sym k) ∙ sym (parted e h e.what)

pub refused_where : (e : Event) (h : List Event) → comes_next e h ≡ false → false ≡ accepts h e
refused_where e h k = ap (λ a. a && is_sound e.serial e.what) (sym k) ∙ sym (parted e h e.what)
