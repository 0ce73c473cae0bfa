use Rattle.model_search.proofs.SearchAnswers.{none_breaks_leaves_no_least}
use Rattle.model_search.proofs.laws.none_breaks_leaves_no_least.Goals as goal

pub returns : goal.returns
returns c = none_breaks_leaves_no_least
