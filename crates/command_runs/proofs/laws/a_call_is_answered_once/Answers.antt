use Rattle.command_runs.proofs.Commands as lemma
use Rattle.command_runs.proofs.laws.a_call_is_answered_once.Goals as goal

pub returns : goal.returns
returns c = lemma.answers_once
