use Rattle.evidence_commands.proofs.Prelude.{◌≡◌, Err, rules, HasRefusalLetters}
use Rattle.evidence_commands.proofs.Letters.{handed_on}
use Rattle.evidence_commands.proofs.BasisLetters.{refusal_letters}
use Rattle.evidence_commands.proofs.confirm.BasesEvidenceKind.judge.Goals as goal

-- a refusal names letters of the quiver alone
pub returns-in_err-rules-clause-letters : goal.returns-in_err-rules-clause-letters
returns-in_err-rules-clause-letters c =
    let refusal = c.in_err-rules.field-0.0 in
    let back : c.from_residual.result ≡ Err refusal = search rules in
    handed_on (HasRefusalLetters c.args.problem.now.parts.quiver) c.from_residual.result refusal back
    (refusal_letters c.args.problem.now c.args.block.now c.requires refusal c.in_err-rules.ensures.refused)
