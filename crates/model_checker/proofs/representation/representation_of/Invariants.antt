use Rattle.model_checker.proofs.Prelude.{◌≡◌, map, range_with_len, quiver_of, arrow_of}
use Rattle.model_checker.proofs.representation.representation_of.Given as goal

-- the matrices of the letters that were passed
abbrev pub invariant-loop-number : goal.invariant-loop-number
invariant-loop-number l = l.arrows ≡ map (arrow_of (quiver_of l.quiver) l.model) (range_with_len 0 l.number)
