use Rattle.statement_names.proofs.Prelude.{◌≡◌, drop, flat_map, term_occurrences, factor_occurrences, run}
use Rattle.statement_names.proofs.survey.Survey.+expressions.Given as goal

abbrev pub invariant-sum-loop-term : goal.invariant-sum-loop-term
invariant-sum-loop-term l = run l.self (flat_map term_occurrences (drop l.term-index l.term-items)) ≡ run l.self (flat_map term_occurrences l.term-items)

abbrev pub invariant-term-loop-factor : goal.invariant-term-loop-factor
invariant-term-loop-factor l = run l.self (flat_map factor_occurrences (drop l.factor-index l.factor-items)) ≡ run l.self (flat_map factor_occurrences l.factor-items)
