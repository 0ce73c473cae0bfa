-- The steps of a chain: the rows of a certificate that have the claim's signature and are not zero.
use Rattle.std.specs.Prelude.{ℕ, zero, suc, ◌≢◌, pos, Bool, true, false, ◌&&◌, not, List, [], ◌∷◌, ◌++◌, filter, map, get_or}
use Rattle.std.specs.List.{AllByRecursion}
use Rattle.std.specs.Ordering.{int_eq}
use Rattle.definitions.specs.Poly.{Poly}
use Rattle.definitions.specs.Quiver.{IsPath}
use Rattle.definitions.specs.Combination.{Row, generator_at, is_typed_row}
use Rattle.quiver.specs.Declarations.{quiver_of}
use Rattle.quiver.specs.Signatures.{ends_of}
use Rattle.traced_rows.specs.declared.certificate.CertRow.{CertRow}
use Rattle.traced_rows.specs.declared.certificate.Certificate.{Certificate}
use Rattle.traced_rows.specs.Rows.{row_of}
use Rattle.adjoint_rules.specs.declared.problem.Problem.{Problem}
use Rattle.adjoint_rules.specs.Problem.{polynomials}

-- the signature of the claim with this number, counted from 1: its source and its target
abbrev pub claim_ends : Problem → ℕ → ℕ × ℕ
claim_ends problem zero = (0, 0)
claim_ends problem (suc n) = get_or (map ends_of problem.parts.claim_sigs) n (0, 0)

-- the generator that a row names
abbrev pub generator_of : Problem → CertRow → Poly
generator_of problem row = generator_at (polynomials problem.generators) row.generator

abbrev pub is_empty : Poly → Bool
is_empty [] = true
is_empty (t ∷ p) = false

-- neither the coefficient nor the generator is zero
abbrev pub counts : List Poly → Row → Bool
counts generators r = not (int_eq r.coefficient (pos 0)) && not (is_empty (generator_at generators r.generator))

-- every word of the row is a path of the claim's signature
abbrev pub is_typed : Problem → ℕ → CertRow → Bool
is_typed problem claim row =
    is_typed_row (quiver_of problem.parts.quiver) (claim_ends problem claim).0 (claim_ends problem claim).1 (polynomials problem.generators) (row_of row)

-- whether the row is a step of a chain for the claim with this number
abbrev pub is_step : Problem → ℕ → CertRow → Bool
is_step problem claim row = counts (polynomials problem.generators) (row_of row) && is_typed problem claim row

-- the steps among rows, in their order
abbrev pub steps_in : Problem → ℕ → List CertRow → List CertRow
steps_in problem claim rows = filter (is_step problem claim) rows

-- the steps of the certificate
abbrev pub steps_of : Problem → Certificate → List CertRow
steps_of problem c = steps_in problem c.claim c.rows

-- Each word of the step is a path of the claim's signature, it has at least one, and its coefficient is not zero.
pub record IsTypedStep (problem : Problem) (claim : ℕ) (step : CertRow) : Type 0 where
  pub coefficient : step.coef ≢ pos 0
  pub generator : generator_of problem step ≢ []
  pub words : AllByRecursion (λ t. IsPath (quiver_of problem.parts.quiver) (claim_ends problem claim).0 (claim_ends problem claim).1
      (step.left ++ (t.1 ++ step.right))) (generator_of problem step)
