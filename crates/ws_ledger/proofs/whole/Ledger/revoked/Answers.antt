use Rattle.std.proofs.Common.{◌≡◌, ◌≤◌, ℕ, ◌+◌, true, sym, ◌∙◌, subst, length, arith}
use Rattle.std.specs.Prelude.{Some}
use Rattle.ws_model.specs.declared.fate.Cause.TheVariants.{Revoked as LeaseRevoked}
use Rattle.ws_fate.specs.declared.totals.Standing.TheVariants.{Ended}
use Rattle.ws_ledger.specs.Pairs.{AreApart, is_listed, open_pairs_of}
use Rattle.ws_ledger.proofs.ByKind.{lease_enough, lease_open, revoked_listed, revoked_stands}
use Rattle.ws_ledger.proofs.Closing.{AreClosed}
use Rattle.ws_ledger.proofs.whole.Ledger.revoked.Goals as goal

pub apply_step-requires-clause-are_open : goal.apply_step-requires-clause-are_open
apply_step-requires-clause-are_open c v m k =
    let f = c.requires.follows in
    lease_open f.past f.since c.args.event.now.t (Some c.args.n) (open_pairs_of (Some c.args.n) c.args.self.now.tables.deliveries) c.args.self.now f.stands f.legal.0 f.in_time
    (revoked_listed c.args.self.now c.args.event.now c.args.n c.args._reason.now c.requires.kind f.past f.since f.stands f.legal f.in_time) v m
    (subst (λ ps. is_listed v m ps ≡ true) (c.deref.ensures.value ∙ c.in_ok-ends.ensures.value) k)

pub apply_step-requires-clause-enough : goal.apply_step-requires-clause-enough
apply_step-requires-clause-enough c =
    let f = c.requires.follows in
    subst (λ ps. length ps ≤ c.args.self.now.open_pairs) (sym (c.deref.ensures.value ∙ c.in_ok-ends.ensures.value))
    (lease_enough f.past f.since c.args.event.now.t (Some c.args.n) (open_pairs_of (Some c.args.n) c.args.self.now.tables.deliveries) c.args.self.now f.stands f.legal.0 f.in_time (subst AreApart c.in_ok-ends.ensures.value c.in_ok-ends.ensures.apart)
    (revoked_listed c.args.self.now c.args.event.now c.args.n c.args._reason.now c.requires.kind f.past f.since f.stands f.legal f.in_time))

plus_none : (a b c : ℕ) → a + b ≡ c + 0 → a + b ≡ c
plus_none a b c k = omega arith

pub returns-clause-ok : goal.returns-clause-ok
returns-clause-ok c =
    revoked_stands c.args.event.now c.args.n c.args._reason.now c.args.self.now c.apply_step.new.self c.requires.kind (subst AreApart c.in_ok-ends.ensures.value c.in_ok-ends.ensures.apart)
    c.in_ok-apply_step.ensures.tables
    (subst (λ ps. AreClosed (Ended LeaseRevoked) ps c.args.self.now c.apply_step.new.self) (c.deref.ensures.value ∙ c.in_ok-ends.ensures.value)
    (record { look = c.in_ok-apply_step.ensures.look; totals = c.in_ok-apply_step.ensures.totals; number = plus_none _ _ _ c.in_ok-apply_step.ensures.number }))
