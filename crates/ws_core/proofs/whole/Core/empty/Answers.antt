use Rattle.std.proofs.Common.{◌++◌, [], ap, sym, subst, arith}
use Rattle.std.proofs.lemmas.Bool.{false≢true}
use Rattle.ws_tries.specs.Rows.{tries_at}
use Rattle.ws_kept.specs.Part.IsPart.{IsEnd}
use Rattle.ws_kept.specs.Stands.{AreRenewed, IsLogged}
use Rattle.ws_core.proofs.whole.Core.empty.Goals as goal

pub returns-clause-stands : goal.returns-clause-stands
returns-clause-stands c =
    record {
      ledger = c.empty.ensures.stands;
      log = subst (IsLogged [] 0) (λ j. sym c.empty-2.ensures.looked j ++ sym c.empty-2.ensures.left j) ∣ IsEnd ∣₁;
      renewals = subst (AreRenewed [] 0) (λ j. sym c.empty-3.ensures.looked j ++ sym c.empty-3.ensures.left j) ∣ IsEnd ∣₁;
      tries = c.empty-4.ensures.stands [];
      only = λ v n k. ap (tries_at v n) c.empty-4.ensures.empty;
      rooms = λ v n kept_version kept_lease there. absurd (false≢true there);
      past = λ v n past. ap (tries_at v n) c.empty-4.ensures.empty;
    }

pub returns-clause-history : goal.returns-clause-history
returns-clause-history c = record { past = []; since = 0; stands = returns-clause-stands c; legal = tt; in_time = omega arith }
