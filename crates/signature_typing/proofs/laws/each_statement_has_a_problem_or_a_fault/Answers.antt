use Rattle.signature_typing.proofs.EachStatement as lemma
use Rattle.signature_typing.proofs.laws.each_statement_has_a_problem_or_a_fault.Goals as goal

pub returns : goal.returns
returns c = lemma.each_statement_has_a_problem_or_a_fault
