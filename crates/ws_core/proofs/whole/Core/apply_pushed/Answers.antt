use Rattle.std.proofs.Common.{refl, sym, subst}
use Rattle.ws_model.specs.declared.event.Event.{Event}
use Rattle.ws_model.specs.declared.event.What.TheVariants.{Pushed}
use Rattle.ws_sweep.specs.Rows.{members}
use Rattle.ws_core.specs.GivenBack.{RoomsAreGone}
use Rattle.ws_core.specs.Rows.{Rows}
use Rattle.ws_core.specs.Stands.{GoesOn, StandsFor}
use Rattle.ws_core.proofs.Expiring.{goes_past, gone_past, in_time}
use Rattle.ws_core.proofs.GivingBack.{goes_back, goes_on_without, rooms_gone}
use Rattle.ws_core.proofs.Going.{pushed_bears, pushed_goes}
use Rattle.ws_core.proofs.Rooms.{has_room}
use Rattle.ws_core.proofs.whole.Core.apply_pushed.Goals as goal

pub add-requires : goal.add-requires
add-requires c =
    let f = c.requires.follows in
    let inside = subst (StandsFor f.past f.since) (sym c.self.view_is) f.stands in
    record { room = has_room (record { serial = c.args.serial; t = c.args.t; what = Pushed c.args.ver c.args.lease c.args.how }) f.past f.since c.args.ver c.args.lease c.args.how c.self.inside.tries f.legal f.in_time refl inside.rooms inside.tries }

pub let_go-requires : goal.let_go-requires
let_go-requires c = let f = c.requires.follows in record { in_time = in_time (record { serial = c.args.serial; t = c.args.t; what = Pushed c.args.ver c.args.lease c.args.how }) f.past f.legal }

pub returns : goal.returns
returns c =
    let e : Event = record { serial = c.args.serial; t = c.args.t; what = Pushed c.args.ver c.args.lease c.args.how } in
    let old : Rows = record { ledger = c.self.inside.ledger; log = members c.self.inside.log; renewals = members c.self.inside.renewals; tries = c.self.inside.tries } in
    let mid : Rows = record { ledger = c.apply_pushed.new.self; log = members c.self.inside.log; renewals = members c.self.inside.renewals; tries = c.add.new.self } in
    let less : Rows = record { ledger = c.apply_pushed.new.self; log = members c.self.inside.log; renewals = members c.self.inside.renewals; tries = c.give_back.new.tries } in
    let rest : Rows = record { ledger = c.apply_pushed.new.self; log = members c.self.inside.log; renewals = members c.self.inside.renewals; tries = c.give_back_pairs.new.tries } in
    let new : Rows = record { ledger = c.let_go.new.ledger; log = members c.self.inside.log; renewals = members c.self.inside.renewals; tries = c.let_go.new.tries } in
    let goes = pushed_goes e c.args.ver c.args.lease c.args.how old mid refl c.apply_pushed.ensures.stands refl refl c.add.ensures.look in
    let bears = pushed_bears e c.args.ver c.args.lease c.args.how old mid refl c.add.ensures.look in
    let back = goes_back e c.touched_by_push-touched.result old mid c.give_back.new.tries goes bears c.give_back.ensures (λ h since s l le. c.touched_by_push-touched.ensures) in
    let left = goes_on_without e c.touched_by_push-touched.result old less c.give_back_pairs.new.tries back c.give_back_pairs.ensures in
    let gone = rooms_gone e c.touched_by_push-touched.result old less c.give_back_pairs.new.tries back c.give_back_pairs.ensures (λ h since s l le. c.touched_by_push-touched.ensures) in
    record {
      stands = subst (λ (r : Rows). GoesOn e r new) c.self.view_is (goes_past e old rest c.let_go.new.ledger c.let_go.new.tries left c.let_go.ensures.stands);
      gone = subst (λ (r : Rows). RoomsAreGone e r new) c.self.view_is (gone_past e old rest c.let_go.new.ledger c.let_go.new.tries gone c.let_go.ensures.fates c.let_go.ensures.none);
      unexpired = c.let_go.ensures.unexpired;
    }
