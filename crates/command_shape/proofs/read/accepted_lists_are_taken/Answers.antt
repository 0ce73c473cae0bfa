use Rattle.command_shape.proofs.Prelude.{subcommand_of, command_set}
use Rattle.command_shape.proofs.Commands.{accepted}
use Rattle.command_shape.proofs.Unique.{one_call}
use Rattle.command_shape.proofs.read.accepted_lists_are_taken.Goals as goal

pub returns-clause-taken : goal.returns-clause-taken
returns-clause-taken c = λ words call names. accepted words call names

pub returns-clause-single : goal.returns-clause-single
returns-clause-single c = λ words one other a b. one_call (subcommand_of command_set words) one other (accepted words one a).1 (accepted words other b).1
