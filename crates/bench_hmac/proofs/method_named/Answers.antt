use Rattle.std.proofs.Common.{sym}
use Rattle.ws_model.specs.declared.event.Alg.TheVariants.{Sha1, Sha256, Sha384, Sha512}
use Rattle.bench_hmac.proofs.method_named.Goals as goal

pub returns-in_default-clause-none : goal.returns-in_default-clause-none
returns-in_default-clause-none c =
    elim [
      | Sha1 ↦ λ same. c.in_default.not-sha1 (sym same)
      | Sha256 ↦ λ same. c.in_default.not-sha256 (sym same)
      | Sha384 ↦ λ same. c.in_default.not-sha384 (sym same)
      | Sha512 ↦ λ same. c.in_default.not-sha512 (sym same)
    ]
