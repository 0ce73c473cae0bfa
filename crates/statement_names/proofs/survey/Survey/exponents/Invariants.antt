use Rattle.statement_names.proofs.Prelude.{◌≡◌, drop, flat_map, mark_occurrences, run}
use Rattle.statement_names.proofs.survey.Survey.exponents.Given as goal

abbrev pub invariant-loop-mark : goal.invariant-loop-mark
invariant-loop-mark l = run l.self (flat_map mark_occurrences (drop l.mark-index l.marks)) ≡ run l.self (flat_map mark_occurrences l.marks)
