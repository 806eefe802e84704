use Rattle.std.proofs.Common.{◌≡◌, ℕ, true, ap, ◌∙◌, ◌++◌, ◌∷◌, [], refl, sym, subst}
use Rattle.ws_tries.specs.Rows.{is_listed, tries_at}
use Rattle.std.specs.Prelude.{cond, Some}
use Rattle.ws_sweep.specs.Rows.{members}
use Rattle.ws_core.specs.GivenBack.{RoomsAreGone}
use Rattle.ws_core.specs.Renewed.{listed}
use Rattle.ws_core.specs.Rows.{Rows}
use Rattle.ws_core.specs.Stands.{GoesOn, StandsFor}
use Rattle.ws_core_tables.specs.Passing.{AreUnexpired}
use Rattle.ws_ledger.specs.Rows.{Rows as LedgerRows}
use Rattle.ws_core.proofs.Expiring.{goes_past, gone_past, in_time}
use Rattle.ws_core.proofs.Swept.{as_before, at_error, gone_swept, not_ok, pushed}
use Rattle.ws_core.proofs.GivingBack.{goes_back, goes_on_without, rooms_gone}
use Rattle.ws_core.proofs.Going.{other_bears, other_goes, without_rooms}
use Rattle.ws_core.proofs.whole.Core.apply_other.Goals as goal

pub apply_with_rooms-requires-clause-new : goal.apply_with_rooms-requires-clause-new
apply_with_rooms-requires-clause-new c v n k =
    let f = c.requires.follows in
    let inside = subst (StandsFor f.past f.since) (sym c.self.view_is) f.stands in
    without_rooms c.args.event.now f.past c.in_ok-births.births.items f.since (record { ledger = c.self.inside.ledger; log = members c.self.inside.log; renewals = members c.self.inside.renewals; tries = c.self.inside.tries }) inside
    (c.in_ok-births.ensures f.past f.since inside.ledger f.legal f.in_time) v n (subst (λ ps. is_listed v n ps ≡ true) c.deref.ensures.value k)

pub let_go-requires : goal.let_go-requires
let_go-requires c = let f = c.requires.follows in record { in_time = in_time c.args.event.now f.past f.legal }

pub returns : goal.returns
returns c =
    let old : Rows = record { ledger = c.self.inside.ledger; log = members c.self.inside.log; renewals = members c.self.inside.renewals; tries = c.self.inside.tries } in
    let mid : Rows = record { ledger = c.apply_with_rooms.new.ledger; log = members c.push_reserved.new.self; renewals = members c.add_reserved.new.renewals; tries = c.apply_with_rooms.new.tries } in
    let less : Rows = record { ledger = c.apply_with_rooms.new.ledger; log = members c.push_reserved.new.self; renewals = members c.add_reserved.new.renewals; tries = c.give_back.new.tries } in
    let rest : Rows = record { ledger = c.apply_with_rooms.new.ledger; log = members c.push_reserved.new.self; renewals = members c.add_reserved.new.renewals; tries = c.give_back_pairs.new.tries } in
    let last : Rows = record { ledger = c.let_go.new.ledger; log = members c.push_reserved.new.self; renewals = members c.add_reserved.new.renewals; tries = c.let_go.new.tries } in
    let rooms : (v n : ℕ) → tries_at v n mid.tries ≡ cond (is_listed v n c.in_ok-births.births.items) (Some []) (tries_at v n old.tries) =
    λ v n. c.in_ok-apply_with_rooms.ensures.rooms v n ∙ ap (λ ps. cond (is_listed v n ps) (Some []) (tries_at v n c.self.inside.tries)) c.deref.ensures.value in
    let goes = other_goes c.args.event.now c.in_ok-births.births.items c.in_ok-renewal.renewal old mid c.requires.other c.in_ok-apply_with_rooms.ensures.ledger c.in_ok-births.ensures c.in_ok-renewal.ensures
    (pushed c.self.inside.log c.reserve.new.self c.push_reserved.new.self c.in_ok-entry.entry c.in_ok-reserve.ensures.looked c.in_ok-reserve.ensures.left c.push_reserved.ensures.looked c.push_reserved.ensures.left
    ∙ ap (λ x. members c.self.inside.log ++ x ∷ []) c.in_ok-entry.ensures)
    (c.add_reserved.ensures ∙ ap (λ rs. rs ++ listed c.in_ok-renewal.renewal) (λ j. c.in_ok-reserve-2.ensures.looked j ++ c.in_ok-reserve-2.ensures.left j))
    rooms in
    let bears = other_bears c.args.event.now c.in_ok-births.births.items old mid c.in_ok-births.ensures rooms in
    let back = goes_back c.args.event.now c.touched_by-touched.result old mid c.give_back.new.tries goes bears c.give_back.ensures (λ h since s l le. c.touched_by-touched.ensures.stands h since s.ledger l le) in
    let left = goes_on_without c.args.event.now c.touched_by-touched.result old less c.give_back_pairs.new.tries back c.give_back_pairs.ensures in
    let gone = rooms_gone c.args.event.now c.touched_by-touched.result old less c.give_back_pairs.new.tries back c.give_back_pairs.ensures (λ h since s l le. c.touched_by-touched.ensures.stands h since s.ledger l le) in
    record {
      ok = subst (λ (r : Rows). GoesOn c.args.event.now r c.sweep.new.self) c.self.view_is
          (λ h since s l le. c.sweep.ensures.stands (c.args.event.now ∷ h) (goes_past c.args.event.now old rest c.let_go.new.ledger c.let_go.new.tries left c.let_go.ensures.stands h since s l le) l);
      gone = subst (λ (r : Rows). RoomsAreGone c.args.event.now r c.sweep.new.self) c.self.view_is
          (gone_swept c.args.event.now old last c.sweep.new.self (gone_past c.args.event.now old rest c.let_go.new.ledger c.let_go.new.tries gone c.let_go.ensures.fates c.let_go.ensures.none) c.sweep.ensures.ledger c.sweep.ensures.none);
      unexpired = subst (λ (r : LedgerRows). AreUnexpired c.args.event.now.t r.tables.leases) (sym c.sweep.ensures.ledger) c.let_go.ensures.unexpired;
      err = tt;
    }

pub returns-in_err-apply_with_rooms-clause-err : goal.returns-in_err-apply_with_rooms-clause-err
returns-in_err-apply_with_rooms-clause-err c =
    at_error _ c.from_residual-in_err-apply_with_rooms.result
    (as_before (record { ledger = c.self.inside.ledger; log = members c.self.inside.log; renewals = members c.self.inside.renewals; tries = c.self.inside.tries })
    c.reserve.new.self c.reserve-2.new.self c.self.inside.log c.self.inside.renewals
    c.in_err-apply_with_rooms.ensures.same_ledger c.in_err-apply_with_rooms.ensures.same_rooms c.in_ok-reserve.ensures.looked c.in_ok-reserve.ensures.left c.in_ok-reserve-2.ensures.looked c.in_ok-reserve-2.ensures.left refl refl
    ∙ c.self.view_is)

pub returns-in_err-reserve-clause-err : goal.returns-in_err-reserve-clause-err
returns-in_err-reserve-clause-err c =
    at_error _ c.from_residual-in_err-reserve.result
    (as_before (record { ledger = c.self.inside.ledger; log = members c.self.inside.log; renewals = members c.self.inside.renewals; tries = c.self.inside.tries })
    c.reserve.new.self c.self.inside.renewals c.self.inside.log c.self.inside.renewals refl refl c.in_err-reserve.ensures.looked c.in_err-reserve.ensures.left refl refl refl refl
    ∙ c.self.view_is)

pub returns-in_err-reserve-2-clause-err : goal.returns-in_err-reserve-2-clause-err
returns-in_err-reserve-2-clause-err c =
    at_error _ c.from_residual-in_err-reserve-2.result
    (as_before (record { ledger = c.self.inside.ledger; log = members c.self.inside.log; renewals = members c.self.inside.renewals; tries = c.self.inside.tries })
    c.reserve.new.self c.reserve-2.new.self c.self.inside.log c.self.inside.renewals refl refl c.in_ok-reserve.ensures.looked c.in_ok-reserve.ensures.left c.in_err-reserve-2.ensures.looked c.in_err-reserve-2.ensures.left refl refl
    ∙ c.self.view_is)

pub returns-in_err-reserve-clause-unexpired : goal.returns-in_err-reserve-clause-unexpired
returns-in_err-reserve-clause-unexpired c = not_ok _ c.from_residual-in_err-reserve.result c.from_residual-in_err-reserve.ensures.0

pub returns-in_err-reserve-2-clause-unexpired : goal.returns-in_err-reserve-2-clause-unexpired
returns-in_err-reserve-2-clause-unexpired c = not_ok _ c.from_residual-in_err-reserve-2.result c.from_residual-in_err-reserve-2.ensures.0
