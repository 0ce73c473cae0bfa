use Rattle.model_candidates.proofs.Prelude.{◌≡◌, map, range_with_len, quiver_of, letter_table}
use Rattle.model_candidates.proofs.letter_tables.letter_tables.Given as goal

-- the tables of the letters that were passed
abbrev pub invariant-loop-number : goal.invariant-loop-number
invariant-loop-number l = l.tables ≡ map (letter_table (quiver_of l.quiver) l.shape) (range_with_len 0 l.number)
