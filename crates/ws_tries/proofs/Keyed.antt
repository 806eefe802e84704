-- Changes at one key, read by version and lease.
use Rattle.std.proofs.Common.{◌≡◌, ℕ, Bool, true, false, refl, ap, sym, ◌∙◌, ◌+◌, ◌&&◌, not, arith, List, [], ◌∷◌}
use Rattle.std.specs.Prelude.{cond, filter, find, ◌==◌, option_map, Option, None, Some}
use Rattle.std.specs.Ordering.{is_gt, is_le}
use Rattle.std.specs.declared.cmp.Ordering.TheVariants.{Less}
use Rattle.std.specs.Map.{lookup}
use Rattle.std.specs.BTreeMap.{is_at}
use Rattle.std.proofs.lemmas.Bool.{eqb-true}
use Rattle.std.proofs.lemmas.Bool.Decides.{nat_tests}
use Rattle.ws_laws.proofs.ListLaws.{all_from, filter_same}
use Rattle.ws_tries.specs.declared.room.Try.{Try}
use Rattle.ws_tries.specs.Rows.{Rows, is_from, is_here, next_pair, pair_order, tries_at}

pub key_test : (v n w m : ℕ) → is_at (pair_order (v, n)) (w, m) ≡ is_here v n w m
key_test v n w m = grind (arith, nat_tests)

pub looks_by_key : (old new : Rows) (ver lease : ℕ) (x : Option (List Try))
    → ((q : ℕ × ℕ) → lookup (is_at (pair_order q)) new ≡ cond (is_at (pair_order (ver, lease)) q) x (lookup (is_at (pair_order q)) old))
    → (v n : ℕ) → tries_at v n new ≡ cond (is_here ver lease v n) x (tries_at v n old)
looks_by_key old new ver lease x updates v n = updates (v, n) ∙ ap (λ b. cond b x (tries_at v n old)) (key_test ver lease v n)

-- ---- the pairs of one version

in_version : (ver v n : ℕ) → (is_le (pair_order (ver, 0) (v, n)) && not (is_le (pair_order (ver + 1, 0) (v, n)))) ≡ (v == ver)
in_version ver v n = grind (arith, nat_tests)

pub from_first : (ver n : ℕ) → is_gt (pair_order (ver, 0) (ver, n)) ≡ false
from_first ver n = grind (arith, nat_tests)

pub under_next : (ver n : ℕ) → pair_order (ver, n) (ver + 1, 0) ≡ Less
under_next ver n = grind (arith, nat_tests)

-- where all rooms of a version are gone and no other room changed
pub version_gone : (ver v n : ℕ) (new old : Rows) → ((m : ℕ) → tries_at ver m new ≡ None) → ((w m : ℕ) → (ver == w) ≡ false → tries_at w m new ≡ tries_at w m old) → tries_at v n new ≡ cond (ver == v) None (tries_at v n old)
version_gone ver v n new old gone others = by (ver == v) refl
  where
    by : (b : Bool) → (ver == v) ≡ b → tries_at v n new ≡ cond b None (tries_at v n old)
    by true k = ap (λ w. tries_at w n new) (sym (eqb-true ver v k)) ∙ gone n
    by false k = others v n k

pub of_version : (ver : ℕ) (rows : Rows) → filter (λ e. is_le (pair_order (ver, 0) e.0) && not (is_le (pair_order (ver + 1, 0) e.0))) rows ≡ filter (λ e. e.0.0 == ver) rows
of_version ver rows =
    filter_same (λ e. is_le (pair_order (ver, 0) e.0) && not (is_le (pair_order (ver + 1, 0) e.0))) (λ e. e.0.0 == ver) rows
    (all_from (λ e. (is_le (pair_order (ver, 0) e.0) && not (is_le (pair_order (ver + 1, 0) e.0))) ≡ (e.0.0 == ver)) (λ e. in_version ver e.0.0 e.0.1) rows)

-- ---- from one pair on

from_one : (v n w m : ℕ) → (is_le (pair_order (v, n) (w, m)) && true) ≡ is_from v n (w, m)
from_one v n w m = grind (arith, nat_tests)

from_pair : (v n : ℕ) (rows : Rows) → filter (λ e. is_le (pair_order (v, n) e.0) && true) rows ≡ filter (λ e. is_from v n e.0) rows
from_pair v n rows =
    filter_same (λ e. is_le (pair_order (v, n) e.0) && true) (λ e. is_from v n e.0) rows
    (all_from (λ e. (is_le (pair_order (v, n) e.0) && true) ≡ is_from v n e.0) (λ e. from_one v n e.0.0 e.0.1) rows)

-- where none is left, and where one is
none_left : (test : (ℕ × ℕ) × List Try → Bool) (rows : Rows) → filter test rows ≡ [] → find test rows ≡ None
none_left test [] k = refl
none_left test (e ∷ rows) k = by (test e) k (none_left test rows)
  where
    by : (b : Bool) → cond b (e ∷ filter test rows) (filter test rows) ≡ [] → (filter test rows ≡ [] → find test rows ≡ None) → cond b (Some e) (find test rows) ≡ None
    by true k f = absurd (cc)
    by false k f = f k

one_left : (test : (ℕ × ℕ) × List Try → Bool) (rows : Rows) (x : (ℕ × ℕ) × List Try) (rest : Rows) → filter test rows ≡ x ∷ rest → find test rows ≡ Some x
one_left test [] x rest k = absurd (cc)
one_left test (e ∷ rows) x rest k = by (test e) k (one_left test rows x rest)
  where
    by : (b : Bool) → cond b (e ∷ filter test rows) (filter test rows) ≡ x ∷ rest → (filter test rows ≡ x ∷ rest → find test rows ≡ Some x) → cond b (Some e) (find test rows) ≡ Some x
    by true k f = let same : e ≡ x = cc in ap Some same
    by false k f = f k

pub no_next : (v n : ℕ) (rows : Rows) → filter (λ e. is_le (pair_order (v, n) e.0) && true) rows ≡ [] → None ≡ next_pair v n rows
no_next v n rows k = sym (ap (option_map (λ (e : (ℕ × ℕ) × List Try). e.0)) (none_left (λ e. is_from v n e.0) rows (sym (from_pair v n rows) ∙ k)))

pub one_next : (v n : ℕ) (rows : Rows) (x : (ℕ × ℕ) × List Try) (rest : Rows) → filter (λ e. is_le (pair_order (v, n) e.0) && true) rows ≡ x ∷ rest → Some x.0 ≡ next_pair v n rows
one_next v n rows x rest k = sym (ap (option_map (λ (e : (ℕ × ℕ) × List Try). e.0)) (one_left (λ e. is_from v n e.0) rows x rest (sym (from_pair v n rows) ∙ k)))
