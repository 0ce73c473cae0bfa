-- Expansions whose numbers are coefficients.
use Rattle.std.specs.Prelude.{pos, ◌<ℤ◌}
use Rattle.std.specs.List.{All}
use Rattle.coef_int.specs.Range.{IsCoefficient}
use Rattle.traced_rows.specs.declared.certificate.Cofactors.{Cofactors}

-- The denominator is positive, and it and each number of a row is a coefficient.
pub record IsRanged (c : Cofactors) : Type 0 where
  pub positive : pos 0 <ℤ c.denominator
  pub denominator_in : IsCoefficient c.denominator
  pub coefficients_in : All (λ r. IsCoefficient r.coef) c.rows
