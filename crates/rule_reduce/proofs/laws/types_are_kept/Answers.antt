use Rattle.rule_reduce.proofs.KeptWordLaws.{types_are_kept}
use Rattle.rule_reduce.proofs.laws.types_are_kept.Goals as goal

pub returns : goal.returns
returns c = types_are_kept
