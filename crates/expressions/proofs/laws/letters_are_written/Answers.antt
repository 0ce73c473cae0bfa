use Rattle.expressions.proofs.Written.{letters_are_written}
use Rattle.expressions.proofs.laws.letters_are_written.Goals as goal

pub returns : goal.returns
returns c = letters_are_written
