use Rattle.std.proofs.Common.{◌≡◌, ◌≤◌, [], ◌++◌, arith, sym, subst, ◌∙◌}
use Rattle.std.specs.BTreeMap.{get}
use Rattle.std.specs.Ordering.{nat_cmp}
use Rattle.std.proofs.lemmas.List.{append-nil}
use mathlib.Core.Logic.{∥∥₁_elim}
use Rattle.ws_model.specs.Moment.{last_time}
use Rattle.ws_sweep.specs.Rows.{members}
use Rattle.ws_sift.specs.Sifted.{ArePast, AreReplaced, Sifts, replaced_in}
use Rattle.ws_sift.proofs.Older.{are_replaced, turned}
use Rattle.ws_sift.proofs.Logged.{begun, ended, events_set}
use Rattle.ws_sift.proofs.sift.kept_events.Goals as goal

pub returns : goal.returns
returns c =
    record {
      stands = λ h since s a k renewed l later.
          ∥∥₁_elim k (events_set _ _)
          (λ part.
          let t = c.args.t in
          let r : AreReplaced h t (get nat_cmp c.in_ok-replaced.replaced) = turned h t (replaced_in c.args.kept.now.leases (members c.args.renewals.now)) (get nat_cmp c.in_ok-replaced.replaced) c.in_ok-replaced.ensures
          (are_replaced h since t (members c.args.renewals.now) c.args.kept.now.leases l later (let begun : last_time h ≤ since = s.leases.begun in omega arith) a.leases renewed) in
          let p : ArePast h since t c.args.tables.now c.args.kept.now = record { stands = s; kept = a; legal = l; in_time = later } in
          let none : c.new-events.result.items ≡ [] = c.new-events.ensures.items in
          let all : Sifts h t (c.looked.result.now ++ c.args.log.now.left) c.new-events.result.items =
          subst (λ es. Sifts h t (es ++ c.args.log.now.left) c.new-events.result.items) (sym c.looked.ensures) (begun h since t (members c.args.log.now) c.new-events.result.items l later part none) in
          let first : Sifts h t c.args.log.now.left c.add_kept.new.events.items = c.in_ok-add_kept.ensures h since p r c.args.log.now.left all in
          ended h t c.add_kept-2.new.events.items
          (c.in_ok-add_kept-2.ensures h since p r [] (subst (λ es. Sifts h t es c.add_kept.new.events.items) (sym (append-nil c.left.result.now ∙ c.left.ensures)) first)));
    }
