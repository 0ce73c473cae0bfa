use Rattle.statement_names.proofs.Prelude.{◌≡◌, map, drop, declares_object, run}
use Rattle.statement_names.proofs.survey.Survey.objects.Given as goal

abbrev pub invariant-loop-name : goal.invariant-loop-name
invariant-loop-name l = run l.self (map (λ name. declares_object name) (drop l.name-index l.names)) ≡ run l.initial.self (map (λ name. declares_object name) l.names)
