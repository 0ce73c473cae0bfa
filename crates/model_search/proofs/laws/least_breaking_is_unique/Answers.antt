use Rattle.model_search.proofs.SearchAnswers.{least_breaking_is_unique}
use Rattle.model_search.proofs.laws.least_breaking_is_unique.Goals as goal

pub returns : goal.returns
returns c = least_breaking_is_unique
