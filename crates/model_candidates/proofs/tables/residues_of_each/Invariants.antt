use Rattle.model_candidates.proofs.Prelude.{◌≡◌, map, take, residues}
use Rattle.model_candidates.proofs.tables.residues_of_each.Given as goal

-- those of the polynomials that were passed
abbrev pub invariant-loop-poly : goal.invariant-loop-poly
invariant-loop-poly l = l.each ≡ map (λ p. residues l.fn.modulus p.terms) (take l.poly-index l.polys)
