use Rattle.model_candidates.proofs.CandidateLaws.{candidate_is_unique}
use Rattle.model_candidates.proofs.laws.candidates_are_unique.Goals as goal

pub returns : goal.returns
returns c = candidate_is_unique
