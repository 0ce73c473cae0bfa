use Rattle.statement_names.proofs.Prelude.{◌≡◌, [], drop, pairs_behind, run, names_in}
use Rattle.statement_names.proofs.survey.Survey.pairs.Given as goal

abbrev pub invariant-loop-pair : goal.invariant-loop-pair
invariant-loop-pair l = run l.self (pairs_behind l.kind l.most (names_in l.listed) (drop l.pair-index l.pairs)) ≡ run l.self (pairs_behind l.kind l.most [] l.pairs)
