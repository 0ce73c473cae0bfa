use Rattle.adjoint_rules.proofs.Prelude.{◌++◌, ℕ, ℤ, List, take, AllZip, flat_map, SamePolynomial, new_adjoint, quiver_of, polynomials}
use Rattle.adjoint_rules.proofs.adjoint.push_adjoints.Given as goal

abbrev pub invariant-loop-assumption : goal.invariant-loop-assumption
invariant-loop-assumption l = record {
  done : (before : List (List (ℤ × List ℕ))) → AllZip SamePolynomial (polynomials l.initial.generators) before
      → AllZip SamePolynomial (polynomials l.generators) (before ++ flat_map (new_adjoint (quiver_of l.parts.quiver)) (polynomials (take l.assumption-index l.parts.assumptions)));
}
