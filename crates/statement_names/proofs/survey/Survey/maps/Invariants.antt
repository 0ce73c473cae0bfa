use Rattle.statement_names.proofs.Prelude.{◌≡◌, map, drop, declares_map, run}
use Rattle.statement_names.proofs.survey.Survey.maps.Given as goal

abbrev pub invariant-loop-name : goal.invariant-loop-name
invariant-loop-name l =
    run l.self (map (λ name. declares_map name l.source.text l.target.text l.selfmade) (drop l.name-index l.names))
    ≡ run l.initial.self (map (λ name. declares_map name l.source.text l.target.text l.selfmade) l.names)
