use Rattle.adjoint_rules.proofs.Prelude.{◌≡◌, ◌++◌, ◌-◌, flat_map, range_with_len, letter_units, quiver_of, object_count, polynomials}
use Rattle.adjoint_rules.proofs.units.push_units.Given as goal

abbrev pub invariant-loop-number : goal.invariant-loop-number
invariant-loop-number l = record {
  done : polynomials l.generators ≡ polynomials l.initial.generators
      ++ flat_map (letter_units (quiver_of l.quiver) l.starred l.object.0) (range_with_len (object_count l.quiver) (l.number - object_count l.quiver));
}
