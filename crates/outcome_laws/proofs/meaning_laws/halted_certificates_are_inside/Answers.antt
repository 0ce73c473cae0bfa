use Rattle.outcome_laws.proofs.Meanings.{halted_certificates_are_inside}
use Rattle.outcome_laws.proofs.meaning_laws.halted_certificates_are_inside.Goals as goal

pub returns : goal.returns
returns c = halted_certificates_are_inside
