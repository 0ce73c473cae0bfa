use Rattle.evidence_commands.proofs.Prelude.{◌≡◌, Err, rules, HasLetters}
use Rattle.evidence_commands.proofs.Certificates.{readable}
use Rattle.evidence_commands.proofs.Letters.{handed_on, refused_letters}
use Rattle.evidence_commands.proofs.check.CertificatesEvidenceKind.judge.Goals as goal

-- the block can be checked
pub check_evidence-requires : goal.check_evidence-requires
check_evidence-requires c = readable c.args.problem.now.parts.quiver c.args.block.now c.requires

-- a refusal names letters of the quiver alone
pub returns-in_err-accepted-clause-letters : goal.returns-in_err-accepted-clause-letters
returns-in_err-accepted-clause-letters c =
    let refusal = c.in_err-accepted.field-0.0 in
    let back : c.from_residual.result ≡ Err refusal = search rules in
    handed_on (HasLetters c.args.problem.now.parts.quiver) c.from_residual.result refusal back
    (refused_letters c.args.problem.now c.args.block.now c.requires refusal c.in_err-accepted.ensures.refuses)
