use Rattle.statement_names.proofs.Prelude.{◌≡◌, false, length, replicate, take, list_any, letter_count, Marks, names_letter, solved_names}
use Rattle.statement_names.proofs.solved.read_solved.Given as goal

abbrev pub invariant-loop-statement : goal.invariant-loop-statement
invariant-loop-statement l = record {
  size : length l.solved.items ≡ letter_count l.quiver;
  marked : Marks (replicate (letter_count l.quiver) false) l.solved.items (λ a. list_any (names_letter l.quiver a) (solved_names (take l.statement-index l.statements)));
}
