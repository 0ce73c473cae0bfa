use Rattle.evidence_commands.proofs.Prelude.{◌≡◌, Err, rules, HasModelLetter}
use Rattle.evidence_commands.proofs.Letters.{handed_on}
use Rattle.evidence_commands.proofs.Models.{readable, refused_letter}
use Rattle.evidence_commands.proofs.model.ModelsEvidenceKind.judge.Goals as goal

-- the model can be judged
pub confirm_model-requires : goal.confirm_model-requires
confirm_model-requires c = readable c.args.problem.now.parts.quiver c.args.block.now c.requires

-- a refusal names letters of the quiver alone
pub returns-in_err-confirm_model-clause-letters : goal.returns-in_err-confirm_model-clause-letters
returns-in_err-confirm_model-clause-letters c =
    let refusal = c.in_err-confirm_model.field-0.0 in
    let back : c.from_residual.result ≡ Err refusal = search rules in
    handed_on (HasModelLetter c.args.problem.now.parts.quiver) c.from_residual.result refusal back
    (refused_letter c.args.problem.now c.args.block.now refusal c.in_err-confirm_model.ensures.refused)
