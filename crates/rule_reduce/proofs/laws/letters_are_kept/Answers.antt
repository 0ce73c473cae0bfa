use Rattle.rule_reduce.proofs.KeptWordLaws.{letters_are_kept}
use Rattle.rule_reduce.proofs.laws.letters_are_kept.Goals as goal

pub returns : goal.returns
returns c = letters_are_kept
