use Rattle.statement_names.proofs.Prelude.{◌≡◌, drop, flat_map, statement_occurrences, run}
use Rattle.statement_names.proofs.survey.check_names.Given as goal

abbrev pub invariant-loop-statement : goal.invariant-loop-statement
invariant-loop-statement l = run l.survey (flat_map statement_occurrences (drop l.statement-index l.statements)) ≡ run l.initial.survey (flat_map statement_occurrences l.statements)
