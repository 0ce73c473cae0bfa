use Rattle.model_candidates.proofs.CandidateLaws.{each_number_has_a_candidate}
use Rattle.model_candidates.proofs.laws.each_number_has_a_candidate.Goals as goal

pub returns : goal.returns
returns c = each_number_has_a_candidate
