use Rattle.statement_names.proofs.Prelude.{take, list_any, Marks, names_letter}
use Rattle.statement_names.proofs.solved.solve_all.Given as goal

abbrev pub invariant-loop-name : goal.invariant-loop-name
invariant-loop-name l = Marks l.initial.solved l.solved (λ a. list_any (names_letter l.quiver a) (take l.name-index l.names))
