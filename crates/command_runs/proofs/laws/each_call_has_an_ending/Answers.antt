use Rattle.command_runs.proofs.Commands as lemma
use Rattle.command_runs.proofs.laws.each_call_has_an_ending.Goals as goal

pub returns : goal.returns
returns c = lemma.each_call_has_an_ending
