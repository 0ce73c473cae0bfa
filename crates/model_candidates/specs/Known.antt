-- What is known of values whose equations are made, for private functions.
use Rattle.std.specs.Prelude.{◌≡◌, ℕ, Bool, List, map}
use Rattle.model_candidates.specs.declared.solved_terms.Known.{Known}
use Rattle.model_candidates.specs.LetterNumbers.{numbers_of_letters}
use Rattle.model_candidates.specs.Residues.{residues}
use Rattle.model_candidates.specs.Unknowns.{filled, set_count, solved_flags, unit_values, unknown_numbers}
use Rattle.model_candidates.specs.WordRows.{AreTabled, quiver_in}

-- the numbers of the unknowns of the entries
abbrev pub numbers_in : Known → List ℕ
numbers_in k = unknown_numbers (solved_flags (quiver_in k.given) k.given.shape.now k.given.problem.now.parts.solved)

-- the values are 0 where the flag is set: with zeros there they stay what they are
abbrev pub AreZeros : List Bool → List ℕ → Type 0
AreZeros flags values = values ≡ filled flags values (unit_values (set_count flags) (set_count flags))

-- The values are ones of the shape, with 0 for each entry that is solved for, the numbers are those of its letters,
-- and the coefficients those of the assumptions.
pub record IsKnown (k : Known) : Type 0 where
  pub given : AreTabled k.given
  pub zeros : AreZeros (solved_flags (quiver_in k.given) k.given.shape.now k.given.problem.now.parts.solved) k.given.values.now
  pub numbers : k.numbers.now ≡ numbers_of_letters (quiver_in k.given) k.given.shape.now k.given.problem.now.parts.solved
  pub coefficients : k.coefficients.now ≡ map (λ p. residues k.given.shape.now.modulus p.terms) k.given.problem.now.parts.assumptions
