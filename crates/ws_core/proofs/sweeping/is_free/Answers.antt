use Rattle.std.proofs.Common.{◌≡◌, ◌||◌, ap, false, sym, subst, ◌∙◌, inl, inr}
use Rattle.std.proofs.lemmas.Bool.{not-true}
use Rattle.ws_model.specs.declared.event.What.TheVariants.{Asked, Barred, Noticed, Pinged, Unfetched, Unheard}
use Rattle.ws_model.specs.Intents.{notices, pending}
use Rattle.ws_model.specs.Keep.{is_among, is_kept_miss, is_kept_ping, kept_leases, member}
use Rattle.ws_core_tables.specs.Stands.{StandsFor as TablesStand}
use Rattle.ws_core.proofs.Freed.{free_by, neither}
use Rattle.ws_core.proofs.sweeping.is_free.Goals as goal

pub returns-then-not-is_awaited : goal.returns-then-not-is_awaited
returns-then-not-is_awaited c free h held =
    let tables = subst (TablesStand h c.args.t) (sym c.tables-tables.ensures) held.stands.tables in
    free_by h c.args.t c.args.event.now (Asked c.in-Asked.intent) c.in-Asked.is
    (neither (is_among (pending h) c.in-Asked.intent.n || is_among (notices h) c.in-Asked.intent.n) (member c.in-Asked.intent.n (kept_leases h c.args.t))
    (sym (c.is_awaited.ensures h c.args.t tables) ∙ c.if-not-is_awaited.true) (c.is_free_lease.ensures free h held))

pub returns-in-Unheard : goal.returns-in-Unheard
returns-in-Unheard c free h held =
    let tables = subst (TablesStand h c.args.t) (sym c.tables-tables.ensures) held.stands.tables in
    free_by h c.args.t c.args.event.now (Unheard c.in-Unheard.n) c.in-Unheard.is (sym (c.is_pending.ensures h c.args.t tables) ∙ not-true _ free)

pub returns-in-Pinged : goal.returns-in-Pinged
returns-in-Pinged c free h held =
    let tables = subst (TablesStand h c.args.t) (sym c.tables-tables.ensures) held.stands.tables in
    free_by h c.args.t c.args.event.now (Pinged c.in-Pinged.topic) c.in-Pinged.is (sym (c.is_kept_ping.ensures h c.args.t tables ∙ ap (is_kept_ping h c.args.event.now) c.as_slice.ensures) ∙ not-true _ free)

pub returns-in-Unfetched : goal.returns-in-Unfetched
returns-in-Unfetched c free h held =
    let tables = subst (TablesStand h c.args.t) (sym c.tables-tables.ensures) held.stands.tables in
    free_by h c.args.t c.args.event.now (Unfetched c.in-Unfetched.topic c.in-Unfetched.upto c.in-Unfetched.why) c.in-Unfetched.is (sym (c.is_kept_miss.ensures h c.args.t tables ∙ ap (is_kept_miss h c.args.event.now) c.as_slice-in-Unfetched.ensures) ∙ not-true _ free)

pub returns-in-Barred : goal.returns-in-Barred
returns-in-Barred c free h held =
    let tables = subst (TablesStand h c.args.t) (sym c.tables-tables.ensures) held.stands.tables in
    let none : is_among (notices h) c.in-Barred.n ≡ false = sym (c.is_denied.ensures h c.args.t tables) ∙ not-true _ free in
    elim c.in-Barred.is [
      | inl kind ↦ free_by h c.args.t c.args.event.now (Barred c.in-Barred.n kind.0) kind.1 none
      | inr kind ↦ free_by h c.args.t c.args.event.now (Noticed c.in-Barred.n kind.0) kind.1 none
    ]
