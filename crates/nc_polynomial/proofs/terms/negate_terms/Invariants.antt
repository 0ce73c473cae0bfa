use Rattle.nc_polynomial.proofs.Prelude.{◌≡◌, ◌++◌, take, drop, All, IsCoefficient, negated}
use Rattle.nc_polynomial.proofs.terms.negate_terms.Given as goal

-- the first terms are turned
abbrev pub invariant-loop-term : goal.invariant-loop-term
invariant-loop-term l = record {
  so_far : l.term-items ≡ negated (take l.term-index l.fn.terms) ++ drop l.term-index l.fn.terms;
  in_range : All (λ t. IsCoefficient t.0) l.term-items;
}
