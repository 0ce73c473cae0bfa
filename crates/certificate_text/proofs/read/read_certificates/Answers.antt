use Rattle.certificate_text.proofs.Prelude.{rules, subst, ◌≡◌, List, ℕ, Ok, All, Declaration, Evidence, values_read, fault_told, all_values, certificate_kind, IsEvidence, IsCheckableEvidence, certificate_steps}
use Rattle.traced_rows.specs.declared.evidence.Format.TheVariants as Format
use Rattle.certificate_text.proofs.Checkable.{are_checkable, are_plain, all_plain}
use Rattle.certificate_text.proofs.Reader.{reader}
use Rattle.certificate_text.proofs.read.read_certificates.Goals as goal

-- the blocks that were read are those of the bytes
are_evidence : (ds : List Declaration) (bytes : List ℕ) (es : List Evidence) → all_values (certificate_steps Format.Plain ds) bytes ≡ Ok es → IsEvidence Format.Plain ds bytes es
are_evidence ds bytes es read = values_read (certificate_kind Format.Plain ds) (certificate_steps Format.Plain ds) (reader Format.Plain ds) bytes es read

pub plain_certificates-requires : goal.plain_certificates-requires
plain_certificates-requires c =
    are_plain c.args.quiver.now c.args.bytes.now c.in_ok-blocks.blocks (are_evidence c.args.quiver.now c.args.bytes.now c.in_ok-blocks.blocks c.in_ok-blocks.ensures)

pub returns-in_err-blocks-clause-exact : goal.returns-in_err-blocks-clause-exact
returns-in_err-blocks-clause-exact c =
    let told = fault_told (certificate_kind Format.Plain c.args.quiver.now) (certificate_steps Format.Plain c.args.quiver.now) (reader Format.Plain c.args.quiver.now) c.args.bytes.now c.in_err-blocks.field-0.0 c.in_err-blocks.ensures in
    search rules

pub returns-clause-exact : goal.returns-clause-exact
returns-clause-exact c =
    subst (IsEvidence Format.Plain c.args.quiver.now c.args.bytes.now) c.in_ok-plain_certificates.ensures (are_evidence c.args.quiver.now c.args.bytes.now c.in_ok-blocks.blocks c.in_ok-blocks.ensures)

pub returns-clause-checkable : goal.returns-clause-checkable
returns-clause-checkable c =
    let each = are_checkable c.args.quiver.now Format.Plain c.args.bytes.now c.in_ok-blocks.blocks (are_evidence c.args.quiver.now c.args.bytes.now c.in_ok-blocks.blocks c.in_ok-blocks.ensures) in
    all_plain c.args.quiver.now c.in_ok-plain_certificates.field-0 (subst (All (IsCheckableEvidence c.args.quiver.now)) c.in_ok-plain_certificates.ensures each)
