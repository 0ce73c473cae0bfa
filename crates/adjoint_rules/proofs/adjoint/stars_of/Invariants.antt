use Rattle.adjoint_rules.proofs.Prelude.{◌≡◌, take, numbers_of, quiver_of}
use Rattle.adjoint_rules.proofs.adjoint.stars_of.Given as goal

abbrev pub invariant-loop-number : goal.invariant-loop-number
invariant-loop-number l = record {
  done : numbers_of l.stars ≡ take l.number (quiver_of l.quiver).stars;
}
