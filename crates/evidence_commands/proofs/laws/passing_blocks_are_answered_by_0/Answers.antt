use Rattle.evidence_commands.proofs.Prelude.{judged_by}
use Rattle.evidence_commands.proofs.Owed as owed
use Rattle.evidence_commands.proofs.EachCommand.{are_judged}
use Rattle.evidence_commands.proofs.laws.passing_blocks_are_answered_by_0.Goals as goal

pub returns-clause-answered : goal.returns-clause-answered
returns-clause-answered c = λ command. owed.passing_are_answered (judged_by command).kind (are_judged command)

pub returns-clause-no_others : goal.returns-clause-no_others
returns-clause-no_others c = λ command. owed.zero_is_passing (judged_by command).kind (are_judged command)
