use Rattle.std.proofs.Common.{◌≡◌, ℕ, List, ap, sym, ◌∙◌, cond, true, false, Some, None, ◌&&◌}
use Rattle.std.specs.Prelude.{bytes_eq, ◌==◌}
use Rattle.ws_lease.specs.Index.{pair_at, topic_end_at, is_it}
use Rattle.ws_lease.specs.Indexed.{has_end, ends_at, end_of, still_live}
use Rattle.ws_lease.specs.Table.{lease_at, live_of_pair, number_of_pair, without_one, with_lease, unless_pair}
use Rattle.ws_lease.proofs.IndexedRows.{indexed_with, number_after, number_of_pair_is, found_by_index, remove-insert, is_at_number, still_live_without}
use Rattle.ws_lease.proofs.Standing.{confirm_stands}
use Rattle.ws_lease.proofs.table.Leases.confirm.Goals as goal
use Rattle.ws_lease.proofs.table.Leases.confirm.Goals.{After-take_out}

topic_is : (c : After-take_out) → c.in_ok-topic.topic.items ≡ c.args.lease.intent.topic
topic_is c = c.in_ok-topic.ensures ∙ c.as_slice.ensures

callback_is : (c : After-take_out) → c.in_ok-callback.callback.items ≡ c.args.lease.intent.callback
callback_is c = c.in_ok-callback.ensures ∙ c.as_slice-2.ensures

-- the number wasn't held
was : (c : After-take_out) → lease_at c.args.lease.intent.n c.self.inside.by_number.entries ≡ None
was c = rw c.self.view_is c.requires.new

-- what the index had there
before : (c : After-take_out) → pair_at c.self.inside.by_topic c.args.lease.intent.topic c.args.lease.intent.callback ≡ c.in-Ok.before
before c = sym (c.in-Ok.ensures.replaced ∙ ap (λ a. pair_at c.self.inside.by_topic a c.in_ok-callback.callback.items) (topic_is c) ∙ ap (pair_at c.self.inside.by_topic c.args.lease.intent.topic) (callback_is c))

inserted : (c : After-take_out) (q : ℕ) → lease_at q c.insert.new.self.entries ≡ cond (c.args.lease.intent.n == q) (Some c.args.lease) (lease_at q c.self.inside.by_number.entries)
inserted c q = c.in_ok-insert.ensures.updates.0 q ∙ ap (λ b. cond b (Some c.args.lease) (lease_at q c.self.inside.by_number.entries)) (is_at_number c.args.lease.intent.n q)

rows : (c : After-take_out) (q : ℕ) → lease_at q c.take_out.new.by_number.entries ≡ cond (is_it c.in-Ok.before q) None (cond (c.args.lease.intent.n == q) (Some c.args.lease) (lease_at q c.self.inside.by_number.entries))
rows c q = c.take_out.ensures.looks q ∙ ap (cond (is_it c.in-Ok.before q) None) (inserted c q)

ends : (c : After-take_out) (x q : ℕ) → has_end c.take_out.new.by_end x q
    ≡ cond (is_it c.in-Ok.before q && ends_at x (cond (c.args.lease.intent.n == q) (Some c.args.lease) (lease_at q c.self.inside.by_number.entries))) false
    (cond ((end_of c.args.lease == x) && (c.args.lease.intent.n == q)) true (has_end c.self.inside.by_end x q))
ends c x q =
    c.take_out.ensures.ends x q
    ∙ ap (λ z. cond (is_it c.in-Ok.before q && ends_at x z) false (has_end c.add.new.by_end x q)) (inserted c q)
    ∙ ap (cond (is_it c.in-Ok.before q && ends_at x (cond (c.args.lease.intent.n == q) (Some c.args.lease) (lease_at q c.self.inside.by_number.entries))) false)
    (c.in-Ok.ensures.ends x q ∙ ap (λ e. cond ((e == x) && (c.args.lease.intent.n == q)) true (has_end c.self.inside.by_end x q)) c.end_of-end.ensures)

topics : (c : After-take_out) (a : List ℕ) (q : ℕ) → topic_end_at c.add.new.by_topic a q
    ≡ cond (bytes_eq a c.args.lease.intent.topic) (cond (is_it c.in-Ok.before q) None (cond (c.args.lease.intent.n == q) (Some (end_of c.args.lease)) (topic_end_at c.self.inside.by_topic a q))) (topic_end_at c.self.inside.by_topic a q)
topics c a q =
    c.in-Ok.ensures.topics a q
    ∙ ap (λ y. cond (bytes_eq a y) (cond (is_it c.in-Ok.before q) None (cond (c.args.lease.intent.n == q) (Some c.end_of-end.result) (topic_end_at c.self.inside.by_topic a q))) (topic_end_at c.self.inside.by_topic a q)) (topic_is c)
    ∙ ap (λ e. cond (bytes_eq a c.args.lease.intent.topic) (cond (is_it c.in-Ok.before q) None (cond (c.args.lease.intent.n == q) (Some e) (topic_end_at c.self.inside.by_topic a q))) (topic_end_at c.self.inside.by_topic a q)) c.end_of-end.ensures

pairs : (c : After-take_out) (a b : List ℕ) → pair_at c.add.new.by_topic a b ≡ cond (bytes_eq a c.args.lease.intent.topic && bytes_eq b c.args.lease.intent.callback) (Some c.args.lease.intent.n) (pair_at c.self.inside.by_topic a b)
pairs c a b =
    c.in-Ok.ensures.pairs a b
    ∙ ap (λ y. cond (bytes_eq a y && bytes_eq b c.in_ok-callback.callback.items) (Some c.args.lease.intent.n) (pair_at c.self.inside.by_topic a b)) (topic_is c)
    ∙ ap (λ y. cond (bytes_eq a c.args.lease.intent.topic && bytes_eq b y) (Some c.args.lease.intent.n) (pair_at c.self.inside.by_topic a b)) (callback_is c)

pub invariant_of-self-in-Ok : goal.invariant_of-self-in-Ok
invariant_of-self-in-Ok c =
    indexed_with c.self.inside.by_number.entries c.take_out.new.by_number.entries (pair_at c.self.inside.by_topic) (pair_at c.add.new.by_topic)
    (topic_end_at c.self.inside.by_topic) (topic_end_at c.add.new.by_topic) (has_end c.self.inside.by_end) (has_end c.take_out.new.by_end)
    c.args.lease c.in-Ok.before c.self.invariant (was c) (before c) (c.take_out.ensures.ordered c.in_ok-insert.ensures.ordered)
    (rows c) (pairs c) (topics c) (ends c)

looks : (c : After-take_out) (q : ℕ) → lease_at q c.take_out.new.by_number.entries ≡ cond (c.args.lease.intent.n == q) (Some c.args.lease) (unless_pair c.args.lease (lease_at q c.args.self.now))
looks c q =
    number_after c.self.inside.by_number.entries c.take_out.new.by_number.entries (pair_at c.self.inside.by_topic) (pair_at c.add.new.by_topic)
    (topic_end_at c.self.inside.by_topic) (topic_end_at c.add.new.by_topic) (has_end c.self.inside.by_end) (has_end c.take_out.new.by_end)
    c.args.lease c.in-Ok.before c.self.invariant (was c) (before c) (c.take_out.ensures.ordered c.in_ok-insert.ensures.ordered)
    (rows c) (pairs c) (topics c) (ends c) q
    ∙ ap (λ es. cond (c.args.lease.intent.n == q) (Some c.args.lease) (unless_pair c.args.lease (lease_at q es))) c.self.view_is

pub returns-in-Ok-clause-looks : goal.returns-in-Ok-clause-looks
returns-in-Ok-clause-looks c = looks c

pub returns-in-Ok-clause-stands : goal.returns-in-Ok-clause-stands
returns-in-Ok-clause-stands c = confirm_stands c.args.self.now c.take_out.new.by_number.entries c.args.lease c.requires.mode (looks c)

pub returns-in-Ok-clause-value : goal.returns-in-Ok-clause-value
returns-in-Ok-clause-value c =
    c.take_out.ensures.rows
    ∙ ap (without_one c.in-Ok.before) (c.in_ok-insert.ensures.entries ∙ ap (with_lease c.args.lease) c.self.view_is)
    ∙ ap (λ o. without_one o (with_lease c.args.lease c.args.self.now))
    (sym (before c)
    ∙ sym (number_of_pair_is c.self.inside.by_number (pair_at c.self.inside.by_topic) (topic_end_at c.self.inside.by_topic) (has_end c.self.inside.by_end) c.self.invariant c.args.lease.intent.topic c.args.lease.intent.callback)
    ∙ ap (number_of_pair c.args.lease.intent.topic c.args.lease.intent.callback) c.self.view_is)

pub returns-in-Ok-clause-replaced : goal.returns-in-Ok-clause-replaced
returns-in-Ok-clause-replaced c =
    c.take_out.ensures.live
    ∙ still_live_without c.self.inside.by_number.entries c.insert.new.self.entries (pair_at c.self.inside.by_topic) (topic_end_at c.self.inside.by_topic) (has_end c.self.inside.by_end)
    c.args.lease c.in-Ok.before c.args.t c.self.invariant (was c) (before c) (inserted c)
    ∙ ap (still_live c.args.t c.self.inside.by_number.entries) (sym (before c))
    ∙ sym (found_by_index c.self.inside.by_number (pair_at c.self.inside.by_topic) (topic_end_at c.self.inside.by_topic) (has_end c.self.inside.by_end) c.self.invariant c.args.lease.intent.topic c.args.lease.intent.callback c.args.t)
    ∙ ap (live_of_pair c.args.lease.intent.topic c.args.lease.intent.callback c.args.t) c.self.view_is

pub returns-in-Err-clause-err : goal.returns-in-Err-clause-err
returns-in-Err-clause-err c =
    rw (c.remove.ensures.entries, c.in_ok-insert.ensures.entries, ← c.self.view_is) (remove-insert c.args.lease.intent.n c.args.lease c.self.inside.by_number.entries (rw c.self.view_is c.requires.new))
