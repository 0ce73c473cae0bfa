use Rattle.evidence_commands.proofs.Prelude.{◌≡◌, rules, refused_evidence, evidence_fault}
use Rattle.command_shape.specs.Blocks.{faulty}
use Rattle.evidence_commands.proofs.kind.blocks_of.Goals as goal

-- the text has a fault
pub returns-in_ok-ending-in-Err-Fault-clause-stopped : goal.returns-in_ok-ending-in-Err-Fault-clause-stopped
returns-in_ok-ending-in-Err-Fault-clause-stopped g c =
    let f = c.in-Err-Fault in
    let wrong : g.K.EvidenceKind.kind.IsFirstFault c.args.quiver.now c.args.text.now (record { code = f.code; line = f.line; limit = f.limit }) = search rules in
    let is : c.in_ok-ending-in-Err-Fault.ending ≡ refused_evidence (evidence_fault f.code f.line f.limit) = search rules in
    faulty (record { code = f.code; line = f.line; limit = f.limit }) wrong is
