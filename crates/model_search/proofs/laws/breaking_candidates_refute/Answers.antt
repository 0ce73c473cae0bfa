use Rattle.model_search.proofs.SearchAnswers.{breaking_candidates_refute}
use Rattle.model_search.proofs.laws.breaking_candidates_refute.Goals as goal

pub returns : goal.returns
returns c = breaking_candidates_refute
