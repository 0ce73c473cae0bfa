use Rattle.closed_checker.proofs.Lists.{ambiguities_can_be_listed}
use Rattle.closed_checker.proofs.laws.ambiguities_can_be_listed.Goals as goal

pub returns : goal.returns
returns c = ambiguities_can_be_listed
