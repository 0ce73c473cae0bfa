-- When a certificate of rows over generators alone is accepted, and else the first test that fails.
use Rattle.std.specs.Prelude.{◌≡◌, ◌⊎◌, ℕ, ℤ, pos, ◌≤ℤ◌, ◌<ℤ◌, List, length, Some, None, ⊤}
use Rattle.coef_int.specs.declared.Overflow.{Overflow}
use Rattle.coef_int.specs.Operations.{first_overflow}
use Rattle.nc_polynomial.specs.Terms.{products}
use Rattle.traced_rows.specs.declared.certificate.Certificate.{Certificate}
use Rattle.traced_rows.specs.Rows.{rows_of}
use Rattle.definitions.specs.Poly.{Poly, coefficient_of, poly_multiple, SamePolynomial}
use Rattle.definitions.specs.Combination.{generator_at, row_sum}
use Rattle.cofactor_checker.specs.Rows.{IsNumberUpTo, RowsPass, LacksGenerator, Overflows, Outgrows}
use Rattle.cofactor_checker.specs.Difference.{IsLeastDifference}
use Rattle.cofactor_checker.specs.declared.refusal.Refusal.{Refusal}
use Rattle.cofactor_checker.specs.declared.refusal.Refusal.TheVariants as refusal

-- the claim that the certificate names, counted from 1 like the generators
abbrev pub claim_of : List Poly → Certificate → Poly
claim_of claims c = generator_at claims c.claim

-- The certificate names a claim, and its denominator is at least 1.
pub record IsPosed (claims : List Poly) (c : Certificate) : Type 0 where
  pub claim : IsNumberUpTo (length claims) c.claim
  pub denominator : pos 1 ≤ℤ c.denominator

-- It is posed, and no product of the denominator with a coefficient of the claim leaves the range.
pub record Begins (claims : List Poly) (c : Certificate) : Type 0 where
  pub posed : IsPosed claims c
  pub products : first_overflow (products c.denominator (claim_of claims c)) ≡ None

-- It begins, and each row passes.
pub record AddsUp (claims generators : List Poly) (c : Certificate) : Type 0 where
  pub begins : Begins claims c
  pub rows : RowsPass generators (rows_of c.rows) (length (rows_of c.rows))

-- It adds up, and the sum of the rows is the denominator times the claim.
pub record Accepts (claims generators : List Poly) (c : Certificate) : Type 0 where
  pub adds_up : AddsUp claims generators c
  pub sum : SamePolynomial (row_sum generators (rows_of c.rows)) (poly_multiple c.denominator (claim_of claims c))

-- The certificate names a claim, and its denominator is below 1.
pub record LacksDenominator (claims : List Poly) (c : Certificate) : Type 0 where
  pub claim : IsNumberUpTo (length claims) c.claim
  pub denominator : c.denominator <ℤ pos 1

-- The certificate is posed, and this is the first product of the denominator with a coefficient of the claim that leaves the range. It
-- stands before all rows, and so in row 0.
pub record MultipleOverflows (claims : List Poly) (c : Certificate) (row : ℕ) (overflow : Overflow) : Type 0 where
  pub before_rows : row ≡ 0
  pub posed : IsPosed claims c
  pub products : first_overflow (products c.denominator (claim_of claims c)) ≡ Some overflow

-- Each row passes, and this is the least word at which the sum of the rows isn't the denominator times the claim.
pub record SumDiffers (claims generators : List Poly) (c : Certificate) (word : List ℕ) (want got : ℤ) : Type 0 where
  pub adds_up : AddsUp claims generators c
  pub difference : IsLeastDifference (coefficient_of (poly_multiple c.denominator (claim_of claims c)))
      (coefficient_of (row_sum generators (rows_of c.rows))) word want got

-- Each refusal comes where its test is the first that fails, and want of memory can come at any time.
-- What is told of lemmas, and of scales that do not divide, is never told of this certificate.
abbrev pub Refuses : List Poly → List Poly → Certificate → Refusal → Type 0
Refuses claims generators c refusal.NoSuchClaim = IsNumberUpTo (length claims) c.claim → ⊥
Refuses claims generators c refusal.ZeroDenominator = LacksDenominator claims c
Refuses claims generators c (refusal.Overflow row overflow) = MultipleOverflows claims c row overflow
    ⊎ (Begins claims c × Overflows generators (rows_of c.rows) row overflow)
Refuses claims generators c (refusal.NoSuchGenerator row) = Begins claims c × LacksGenerator generators (rows_of c.rows) row
Refuses claims generators c (refusal.Size row) = Begins claims c × Outgrows generators (rows_of c.rows) row
Refuses claims generators c (refusal.Differs word want got) = SumDiffers claims generators c word want got
Refuses claims generators c (refusal.Memory failed) = ⊤
Refuses claims generators c other = ⊥

-- the refusal is want of memory
abbrev pub IsMemory : Refusal → Type 0
IsMemory (refusal.Memory failed) = ⊤
IsMemory other = ⊥
