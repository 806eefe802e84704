use Rattle.std.proofs.Common.{◌≡◌, ℕ, ap, ◌∙◌, None, arith, false, refl}
use Rattle.std.specs.Prelude.{◌==◌}
use Rattle.std.proofs.lemmas.Bool.Decides.{nat_tests}
use Rattle.ws_topic.specs.Rows.{Rows, number_at}
use Rattle.ws_topic.proofs.Literal.{other_number}
use Rattle.ws_topic.proofs.tests.latest_version_stays.Goals as goal

apart : (m n : ℕ) → m ≡ 2 → n ≡ 1 → (m == n) ≡ false
apart m n a b = grind (arith, nat_tests)

pub fetched-requires-2 : goal.fetched-requires-2
fetched-requires-2 g c =
    record {
      new = ap (λ (r : Rows). number_at c.in_ok-version-2.field-0.ver r.versions) c.in_ok-pinged.ensures.ok
          ∙ other_number c.empty-topics.result.versions c.fetched.new.self.versions c.in_ok-version.field-0 c.in_ok-version-2.field-0.ver c.in_ok-fetched.ensures.look
          (apart c.in_ok-version-2.field-0.ver c.in_ok-version.field-0.ver c.in_ok-version-2.ensures c.in_ok-version.ensures)
          (ap (λ (r : Rows). number_at c.in_ok-version-2.field-0.ver r.versions) c.empty-topics.ensures.empty);
    }
