use Rattle.evidence_commands.proofs.Prelude.{◌≡◌, Err, rules}
use Rattle.evidence_commands.specs.Cancel.{HasRefusalLetters}
use Rattle.evidence_commands.proofs.Letters.{handed_on}
use Rattle.evidence_commands.proofs.Cancellations.{refusal_letters}
use Rattle.evidence_commands.proofs.cancel.CancellationsEvidenceKind.judge.Goals as goal

-- a refusal names letters of the quiver alone
pub returns-in_err-accepted-clause-letters : goal.returns-in_err-accepted-clause-letters
returns-in_err-accepted-clause-letters c =
    let refusal = c.in_err-accepted.field-0.0 in
    let back : c.from_residual.result ≡ Err refusal = search rules in
    handed_on (HasRefusalLetters c.args.problem.now.parts.quiver) c.from_residual.result refusal back
    (refusal_letters c.args.problem.now c.args.block.now c.requires refusal c.in_err-accepted.ensures.refuses)
