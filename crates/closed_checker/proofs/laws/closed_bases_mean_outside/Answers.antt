use Rattle.closed_checker.proofs.ClosedMeaning.{closed_bases_mean_outside}
use Rattle.closed_checker.proofs.laws.closed_bases_mean_outside.Goals as goal

pub returns : goal.returns
returns c = closed_bases_mean_outside
