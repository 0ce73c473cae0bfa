use Rattle.cancel_rules.proofs.Shown as law
use Rattle.cancel_rules.proofs.laws.accepted_cancellation_leads.Goals as goal

pub returns : goal.returns
returns c = law.accepted_cancellation_leads
