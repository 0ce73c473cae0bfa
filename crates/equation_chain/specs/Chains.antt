-- Chains: from the denominator times a claim to zero, each line the one before less a step.
use Rattle.std.specs.Prelude.{◌≡◌, pos, negsuc, neg_ℤ, List, [], ◌∷◌, Result, Ok}
use Rattle.definitions.specs.Poly.{Poly, SamePolynomial, poly_sum, poly_multiple}
use Rattle.definitions.specs.Combination.{row_poly, generator_at}
use Rattle.nc_polynomial.specs.declared.fault.PolyFault.{PolyFault}
use Rattle.nc_polynomial.specs.Terms.{scaled}
use Rattle.nc_polynomial.specs.Arithmetic.{combined}
use Rattle.nc_polynomial.specs.Product.{moved_result, and_then}
use Rattle.traced_rows.specs.declared.certificate.CertRow.{CertRow}
use Rattle.traced_rows.specs.declared.certificate.Certificate.{Certificate}
use Rattle.traced_rows.specs.Rows.{row_of}
use Rattle.adjoint_rules.specs.declared.problem.Problem.{Problem}
use Rattle.adjoint_rules.specs.Problem.{polynomials}
use Rattle.equation_chain.specs.Steps.{steps_of}
use Rattle.equation_chain.specs.Lines.{claim_in}

-- The line less a step over this generator: it is multiplied by the words of the step on both sides, and that times the coefficient is subtracted.
-- The first fault of these operations is returned.
abbrev pub less_step : Poly → Poly → CertRow → Result Poly PolyFault
less_step line generator step = and_then (moved_result step.left generator step.right) (λ moved. combined (pos 1) line (neg_ℤ step.coef) moved)

-- over the generator that the step names
abbrev pub next_line : List Poly → Poly → CertRow → Result Poly PolyFault
next_line generators line step = less_step line (generator_at generators step.generator) step

-- The next line is the line less the step: by exact sums within the limits, and so coefficient by coefficient.
pub record IsLess (generators : List Poly) (line : Poly) (step : CertRow) (next : Poly) : Type 0 where
  pub exact : next_line generators line step ≡ Ok next
  pub less : SamePolynomial next (poly_sum line (poly_multiple (negsuc 0) (row_poly generators (row_of step))))

-- each of the lines is the one before less its step, and the last one is zero
abbrev pub LeadsToZero : List Poly → Poly → List CertRow → List Poly → Type 0
LeadsToZero generators line [] [] = line ≡ []
LeadsToZero generators line (step ∷ steps) (next ∷ lines) = IsLess generators line step next × LeadsToZero generators next steps lines
LeadsToZero generators line steps lines = ⊥

-- The first line is the denominator times the claim, each later one is the one before less its step, and the last one is zero.
abbrev pub IsChain : Problem → Certificate → List Poly → Type 0
IsChain problem c [] = ⊥
IsChain problem c (line ∷ lines) = (line ≡ scaled c.denominator (claim_in problem c)) × LeadsToZero (polynomials problem.generators) line
    (steps_of problem c) lines
