use Rattle.command_shape.proofs.NamedCall.{taken_names}
use Rattle.command_shape.proofs.read.each_taken_list_names_a_call.Goals as goal

pub returns : goal.returns
returns c = λ words taken. taken_names words taken
