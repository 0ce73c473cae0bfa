use Rattle.evidence_commands.proofs.Prelude.{subst, IsCheckableEvidence}
use Rattle.evidence_commands.proofs.Chains.{fault_letters}
use Rattle.evidence_commands.proofs.explain.ChainsEvidenceKind.judge.Goals as goal

-- a refusal names letters of the quiver alone
pub returns-in-Err-clause-letters : goal.returns-in-Err-clause-letters
returns-in-Err-clause-letters c =
    let problem = c.args.problem.now in
    fault_letters problem c.in-Plain.certificate (subst (IsCheckableEvidence problem.parts.quiver) c.in-Plain.is c.requires) c.in-Err.fault c.in-Err.ensures.fault
