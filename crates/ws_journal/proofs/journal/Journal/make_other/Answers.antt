use Rattle.std.proofs.Common.{inl, inr, refl}
use Rattle.ws_journal.proofs.journal.Journal.make_other.Goals as goal

pub returns-in-Err-Before-clause-failed : goal.returns-in-Err-Before-clause-failed
returns-in-Err-Before-clause-failed g c = λ older honest spare failed.
    inl (refl, (c.in-Err-Before.ensures.before older honest spare (cc c.in-Err-Before.field-0-is)).spare)

pub returns-in-Err-InDoubt-clause-failed : goal.returns-in-Err-InDoubt-clause-failed
returns-in-Err-InDoubt-clause-failed g c = λ older honest spare failed.
    inr (record { same = record { side = refl; edition = refl; generation = refl; limit = refl }; ends = refl; doubt = refl }, c.in-Err-InDoubt.ensures.in_doubt older honest spare (cc c.in-Err-InDoubt.field-0-is))
