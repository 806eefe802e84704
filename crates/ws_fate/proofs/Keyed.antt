-- Changes at one key, read by version and lease.
use Rattle.std.proofs.Common.{◌≡◌, ℕ, ap, ◌∙◌, ◌+◌, ◌&&◌, not, arith, List}
use Rattle.std.specs.Prelude.{cond, filter, ◌==◌, Option}
use Rattle.std.specs.Ordering.{is_le}
use Rattle.std.specs.Map.{lookup}
use Rattle.std.specs.BTreeMap.{is_at}
use Rattle.std.proofs.lemmas.Bool.Decides.{nat_tests}
use Rattle.ws_laws.proofs.ListLaws.{all_from, filter_same}
use Rattle.ws_fate.specs.declared.totals.Standing.{Standing}
use Rattle.ws_fate.specs.Rows.{is_here, pair_order}

key_test : (n v m w : ℕ) → is_at (pair_order (n, v)) (m, w) ≡ is_here v n w m
key_test n v m w = grind (arith, nat_tests)

pub looks_by_key : (old new : List ((ℕ × ℕ) × Standing)) (ver lease : ℕ) (x : Option Standing)
    → ((q : ℕ × ℕ) → lookup (is_at (pair_order q)) new ≡ cond (is_at (pair_order (lease, ver)) q) x (lookup (is_at (pair_order q)) old))
    → (v n : ℕ) → lookup (is_at (pair_order (n, v))) new ≡ cond (is_here ver lease v n) x (lookup (is_at (pair_order (n, v))) old)
looks_by_key old new ver lease x updates v n = updates (n, v) ∙ ap (λ b. cond b x (lookup (is_at (pair_order (n, v))) old)) (key_test lease ver n v)

-- ---- the pairs of one lease

in_lease : (lease n v : ℕ) → (is_le (pair_order (lease, 0) (n, v)) && not (is_le (pair_order (lease + 1, 0) (n, v)))) ≡ (n == lease)
in_lease lease n v = grind (arith, nat_tests)

pub of_lease : (lease : ℕ) (rows : List ((ℕ × ℕ) × Standing)) → filter (λ e. is_le (pair_order (lease, 0) e.0) && not (is_le (pair_order (lease + 1, 0) e.0))) rows ≡ filter (λ e. e.0.0 == lease) rows
of_lease lease rows =
    filter_same (λ e. is_le (pair_order (lease, 0) e.0) && not (is_le (pair_order (lease + 1, 0) e.0))) (λ e. e.0.0 == lease) rows
    (all_from (λ e. (is_le (pair_order (lease, 0) e.0) && not (is_le (pair_order (lease + 1, 0) e.0))) ≡ (e.0.0 == lease)) (λ e. in_lease lease e.0.0 e.0.1) rows)
