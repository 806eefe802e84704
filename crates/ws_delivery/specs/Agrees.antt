-- The push that is due first, and the due work of the history (own).
use Rattle.std.specs.Prelude.{◌≡◌, ℕ, ◌≤◌, not, List, find, Option}
use Rattle.std.specs.Option.{option_map}
use Rattle.ws_model.specs.declared.event.Event.{Event}
use Rattle.ws_model.specs.declared.work.Work.{Work}
use Rattle.ws_model.specs.declared.work.Work.TheVariants.{Push}
use Rattle.ws_model.specs.Due.{due_pushes, is_out}
use Rattle.ws_model.specs.Legal.{Legal}
use Rattle.ws_delivery.specs.Table.{Rows}
use Rattle.ws_delivery.specs.NextDue.{IsNextDue}
use Rattle.ws_delivery.specs.Stands.{StandsFor}

-- the push that is due first in a table is the first of the history's due pushes without a ticket out,
-- for each history that the table stands for
abbrev pub NextDueAgrees : Type 0
NextDueAgrees =
    (h : List Event) (since t : ℕ) (out : List Work) (rows : Rows) (r : Option (ℕ × ℕ))
    → Legal h → StandsFor h since rows → since ≤ t → IsNextDue t out rows r
    → find (λ w. not (is_out out w)) (due_pushes h t) ≡ option_map (λ p. Push p.0 p.1) r
