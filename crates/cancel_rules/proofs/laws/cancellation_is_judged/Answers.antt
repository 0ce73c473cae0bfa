use Rattle.cancel_rules.proofs.Judged as law
use Rattle.cancel_rules.proofs.laws.cancellation_is_judged.Goals as goal

pub returns : goal.returns
returns c = law.cancellation_is_judged
