use Rattle.outcome_laws.proofs.ProblemStates as lemma
use Rattle.outcome_laws.proofs.run_laws.states_of_problems_are_kept.Goals as goal

pub returns-clause-states : goal.returns-clause-states
returns-clause-states c = lemma.states_are_kept

pub returns-clause-generators : goal.returns-clause-generators
returns-clause-generators c = lemma.generators_are_reached
