-- When a certificate with lemmas is accepted, and else the first test that fails.
use Rattle.std.specs.Prelude.{◌≡◌, ◌⊎◌, ℕ, ◌+◌, ◌≤◌, ℤ, pos, ◌≤ℤ◌, List, [], length, take, slice_get, Some, None, ⊤}
use Rattle.std.specs.List.{All}
use Rattle.std.specs.Int.{◌∣◌}
use Rattle.std.specs.Int.RustNames.{unsigned_abs}
use Rattle.coef_int.specs.declared.Overflow.{Overflow}
use Rattle.coef_int.specs.Operations.{first_overflow}
use Rattle.coef_int.specs.Range.{IsCoefficient}
use Rattle.definitions.specs.Poly.{Poly, coefficient_of, poly_multiple, SamePolynomial}
use Rattle.definitions.specs.Combination.{generator_at}
use Rattle.nc_polynomial.specs.Terms.{products}
use Rattle.traced_rows.specs.declared.evidence.Lemma.{Lemma}
use Rattle.traced_rows.specs.declared.evidence.LemmaCertificate.{LemmaCertificate}
use Rattle.cofactor_checker.specs.Rows.{IsNumberUpTo}
use Rattle.cofactor_checker.specs.Difference.{IsLeastDifference}
use Rattle.cofactor_checker.specs.PlainRows.{plain_sum}
use Rattle.cofactor_checker.specs.Lemmas.{LemmaRowsPass, lemma_polynomials, LemmasPass, RefusesLemmaRows, RefusesLemmas, row_count}
use Rattle.cofactor_checker.specs.declared.refusal.Refusal.{Refusal}
use Rattle.cofactor_checker.specs.declared.refusal.Refusal.TheVariants as refusal

-- the claim that the certificate names
abbrev pub goal_claim : List Poly → LemmaCertificate → Poly
goal_claim claims c = generator_at claims c.claim

-- the polynomials of all its lemmas
abbrev pub all_polynomials : List Poly → LemmaCertificate → List Poly
all_polynomials generators c = lemma_polynomials generators [] c.lemmas

-- the scale is at least 1
abbrev pub HasScale : Lemma → Type 0
HasScale l = pos 1 ≤ℤ l.scale

-- the scale divides the denominator
abbrev pub IsTight : ℤ → Lemma → Type 0
IsTight d l = unsigned_abs l.scale ∣ unsigned_abs d

-- The scales of the lemmas divide the denominator.
pub record AreTight (d : ℤ) (lemmas : List Lemma) : Type 0 where
  pub each : All (IsTight d) lemmas

-- The denominator and each scale are at least 1.
pub record IsPositive (c : LemmaCertificate) : Type 0 where
  pub denominator : pos 1 ≤ℤ c.denominator
  pub lemmas : All HasScale c.lemmas
  pub goal : HasScale c.goal

-- The certificate names a claim, and its denominator and scales are at least 1.
pub record GoalIsPosed (claims : List Poly) (c : LemmaCertificate) : Type 0 where
  pub claim : IsNumberUpTo (length claims) c.claim
  pub positive : IsPositive c

-- Each scale divides the denominator.
pub record HasTightScales (c : LemmaCertificate) : Type 0 where
  pub lemmas : AreTight c.denominator c.lemmas
  pub goal : IsTight c.denominator c.goal

-- It is posed, and each scale divides the denominator.
pub record HasShares (claims : List Poly) (c : LemmaCertificate) : Type 0 where
  pub posed : GoalIsPosed claims c
  pub tight : HasTightScales c

-- Its scales divide, and no product of the goal's scale with a coefficient of the claim leaves the range.
pub record GoalBegins (claims : List Poly) (c : LemmaCertificate) : Type 0 where
  pub shares : HasShares claims c
  pub products : first_overflow (products c.goal.scale (goal_claim claims c)) ≡ None

-- It begins, and each lemma passes.
pub record HasLemmas (claims generators : List Poly) (c : LemmaCertificate) : Type 0 where
  pub begins : GoalBegins claims c
  pub lemmas : LemmasPass generators [] c.lemmas

-- It has its lemmas, and each row of the goal passes.
pub record GoalAddsUp (claims generators : List Poly) (c : LemmaCertificate) : Type 0 where
  pub lemmas : HasLemmas claims generators c
  pub rows : LemmaRowsPass generators (all_polynomials generators c) c.goal.rows

-- It adds up, and the sum of the goal's rows is its scale times the claim.
pub record AcceptsLemmas (claims generators : List Poly) (c : LemmaCertificate) : Type 0 where
  pub adds_up : GoalAddsUp claims generators c
  pub sum : SamePolynomial (plain_sum generators (all_polynomials generators c) c.goal.rows) (poly_multiple c.goal.scale (goal_claim claims c))

-- The certificate names a claim, and its denominator or a scale is below 1.
pub record LacksScale (claims : List Poly) (c : LemmaCertificate) : Type 0 where
  pub claim : IsNumberUpTo (length claims) c.claim
  pub positive : IsPositive c → ⊥

-- The lemma with this number is the first whose scale does not divide the denominator.
pub record IsFirstLoose (d : ℤ) (lemmas : List Lemma) (number : ℕ) : Type 0 where
  pub before : ℕ
  pub lemma : Lemma
  pub numbered : number ≡ before + 1
  pub there : slice_get lemmas before ≡ Some lemma
  pub earlier : AreTight d (take before lemmas)
  pub loose : IsTight d lemma → ⊥

-- The scale of each lemma divides the denominator, but that of the goal, which has number 0, does not.
pub record HasLooseGoal (c : LemmaCertificate) (number : ℕ) : Type 0 where
  pub numbered : number ≡ 0
  pub lemmas : AreTight c.denominator c.lemmas
  pub loose : IsTight c.denominator c.goal → ⊥

-- The scales divide, and this is the first product of the goal's scale with a coefficient of the claim that leaves the range.
-- It stands before all rows, and so in row 0.
pub record GoalOverflows (claims : List Poly) (c : LemmaCertificate) (row : ℕ) (overflow : Overflow) : Type 0 where
  pub before_rows : row ≡ 0
  pub shares : HasShares claims c
  pub products : first_overflow (products c.goal.scale (goal_claim claims c)) ≡ Some overflow

-- Each row passes, and this is the least word at which the sum of the goal's rows isn't its scale times the claim.
pub record GoalDiffers (claims generators : List Poly) (c : LemmaCertificate) (word : List ℕ) (want got : ℤ) : Type 0 where
  pub adds_up : GoalAddsUp claims generators c
  pub difference :
      IsLeastDifference (coefficient_of (poly_multiple c.goal.scale (goal_claim claims c)))
      (coefficient_of (plain_sum generators (all_polynomials generators c) c.goal.rows)) word want got

-- The first lemma that does not pass, or else the first row of the goal that does not, and what is told of it.
abbrev pub RefusesBlock : List Poly → List Poly → LemmaCertificate → Refusal → Type 0
RefusesBlock claims generators c e =
    (GoalBegins claims c × RefusesLemmas generators [] 0 c.lemmas e)
    ⊎ (HasLemmas claims generators c × RefusesLemmaRows generators (all_polynomials generators c) (row_count c.lemmas) c.goal.rows e)

-- Of a certificate with lemmas each refusal comes where its test is the first that fails, and want of memory can come at any time.
abbrev pub RefusesLemmaCertificate : List Poly → List Poly → LemmaCertificate → Refusal → Type 0
RefusesLemmaCertificate claims generators c refusal.NoSuchClaim = IsNumberUpTo (length claims) c.claim → ⊥
RefusesLemmaCertificate claims generators c refusal.ZeroDenominator = LacksScale claims c
RefusesLemmaCertificate claims generators c (refusal.LooseScale lemma) =
    GoalIsPosed claims c × (IsFirstLoose c.denominator c.lemmas lemma ⊎ HasLooseGoal c lemma)
RefusesLemmaCertificate claims generators c (refusal.Overflow row overflow) =
    GoalOverflows claims c row overflow ⊎ RefusesBlock claims generators c (refusal.Overflow row overflow)
RefusesLemmaCertificate claims generators c (refusal.Differs word want got) = GoalDiffers claims generators c word want got
RefusesLemmaCertificate claims generators c (refusal.Memory failed) = ⊤
RefusesLemmaCertificate claims generators c other = RefusesBlock claims generators c other

-- the rows of the lemma have coefficients, and so does its scale
pub record IsRanged (l : Lemma) : Type 0 where
  pub scale : IsCoefficient l.scale
  pub rows : All (λ r. IsCoefficient r.coef) l.rows

-- What a reader keeps: all numbers are coefficients, and lemmas and rows can be numbered.
pub record IsReadable (c : LemmaCertificate) : Type 0 where
  pub denominator : IsCoefficient c.denominator
  pub lemmas : All IsRanged c.lemmas
  pub goal : IsRanged c.goal
  pub few_lemmas : length c.lemmas ≤ 4294967295
  pub few_rows : row_count c.lemmas + length c.goal.rows ≤ 4294967295
