-- The goal of a certificate, over generators and lemmas: whether its rows add up to its scale times the claim, and else what is told of it.
use Rattle.std.specs.Prelude.{ℕ, ℤ, List}
use Rattle.definitions.specs.Poly.{Poly, coefficient_of, poly_multiple, SamePolynomial}
use Rattle.traced_rows.specs.declared.evidence.Lemma.{Lemma}
use Rattle.cofactor_checker.specs.Difference.{IsLeastDifference}
use Rattle.cofactor_checker.specs.PlainRows.{plain_sum}
use Rattle.cofactor_checker.specs.Lemmas.{LemmaRowsPass, RefusesLemmaRows}
use Rattle.cofactor_checker.specs.declared.refusal.Refusal.{Refusal}
use Rattle.cofactor_checker.specs.declared.refusal.Refusal.TheVariants as refusal

-- Each row passes, and the sum of the rows is the scale times the claim.
pub record ReachesClaim (generators lemmas : List Poly) (goal : Lemma) (claim : Poly) : Type 0 where
  pub rows : LemmaRowsPass generators lemmas goal.rows
  pub sum : SamePolynomial (plain_sum generators lemmas goal.rows) (poly_multiple goal.scale claim)

-- Each row passes, and this is the least word at which the sum of the rows isn't the scale times the claim.
pub record MissesClaim (generators lemmas : List Poly) (goal : Lemma) (claim : Poly) (word : List ℕ) (want got : ℤ) : Type 0 where
  pub rows : LemmaRowsPass generators lemmas goal.rows
  pub difference : IsLeastDifference (coefficient_of (poly_multiple goal.scale claim)) (coefficient_of (plain_sum generators lemmas goal.rows)) word want got

-- what is told of the goal, before which so many rows stand
abbrev pub RefusesGoal : List Poly → List Poly → ℕ → Lemma → Poly → Refusal → Type 0
RefusesGoal generators lemmas before goal claim (refusal.Differs word want got) = MissesClaim generators lemmas goal claim word want got
RefusesGoal generators lemmas before goal claim other = RefusesLemmaRows generators lemmas before goal.rows other
