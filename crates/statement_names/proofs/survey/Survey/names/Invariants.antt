use Rattle.statement_names.proofs.Prelude.{◌≡◌, [], drop, names_behind, run, names_in, Map}
use Rattle.statement_names.proofs.survey.Survey.names.Given as goal

abbrev pub invariant-loop-name : goal.invariant-loop-name
invariant-loop-name l = run l.self (names_behind Map (names_in l.listed) (drop l.name-index l.names)) ≡ run l.self (names_behind Map [] l.names)
