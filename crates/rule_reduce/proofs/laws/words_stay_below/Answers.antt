use Rattle.rule_reduce.proofs.KeptWordLaws.{words_stay_below}
use Rattle.rule_reduce.proofs.laws.words_stay_below.Goals as goal

pub returns : goal.returns
returns c = words_stay_below
