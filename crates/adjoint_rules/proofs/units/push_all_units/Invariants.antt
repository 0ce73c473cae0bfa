use Rattle.adjoint_rules.proofs.Prelude.{◌≡◌, ◌++◌, take, flat_map, units, quiver_of, polynomials, numbers}
use Rattle.adjoint_rules.proofs.units.push_all_units.Given as goal

abbrev pub invariant-loop-object : goal.invariant-loop-object
invariant-loop-object l = record {
  done : polynomials l.generators ≡ polynomials l.initial.generators ++ flat_map (units (quiver_of l.parts.quiver) l.parts.starred) (numbers (take l.object-index l.parts.marked));
}
