use Rattle.evidence_commands.proofs.Prelude.{judged_by}
use Rattle.evidence_commands.proofs.Owed as owed
use Rattle.evidence_commands.proofs.EachCommand.{are_judged}
use Rattle.evidence_commands.proofs.laws.a_faulty_statement_is_answered_by_3.Goals as goal

pub returns-clause-answered : goal.returns-clause-answered
returns-clause-answered c = λ command. owed.faults_are_answered (judged_by command).kind (are_judged command)

pub returns-clause-no_others : goal.returns-clause-no_others
returns-clause-no_others c = λ command. owed.three_is_faulty (judged_by command).kind (are_judged command)
