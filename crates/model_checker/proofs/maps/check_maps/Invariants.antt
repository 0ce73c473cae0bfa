use Rattle.model_checker.proofs.Prelude.{quiver_of, HaveMatrices}
use Rattle.model_checker.proofs.maps.check_maps.Given as goal

-- the declared maps that were passed have their matrices
abbrev pub invariant-loop-number : goal.invariant-loop-number
invariant-loop-number l = HaveMatrices (quiver_of l.quiver) l.model l.number
