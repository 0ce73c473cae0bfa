use Rattle.command_shape.proofs.read.evidence_of.Goals as goal

pub returns : goal.returns
returns c = (c.evidence_command-command.ensures, c.in_ok-pair_of.ensures)
