-- What each unknown adds to the entries of an assumption, for private functions: in each word with a solved letter the products of what
-- stands before and behind the letter.
use Rattle.std.specs.Prelude.{◌≡◌, ℕ, ℤ, ◌+◌, ◌-◌, ◌*◌, ◌/◌, ◌%◌, ◌<◌, nat_eq, List, [], ◌∷◌, length, map, get_or}
use Rattle.std.specs.Prelude.{take, drop, position, Option, Some, None, if◌then◌else◌}
use Rattle.std.specs.List.{All, flat_map, range_with_len, sum_by}
use Rattle.std.specs.Option.{option_map}
use Rattle.definitions.specs.Category.{Structure}
use Rattle.definitions.specs.Quiver.{Quiver, target}
use Rattle.definitions.specs.Representation.{Representation, value_at}
use Rattle.quiver.specs.Declarations.{quiver_of}
use Rattle.word_core.specs.declared.letter.Letter.{Letter}
use Rattle.matrix_models.specs.Matrix.{Matrix, IsMatrix, entry_at}
use Rattle.matrix_models.specs.Matrices.{matrices, total}
use Rattle.matrix_models.specs.declared.model.Model.{Model}
use Rattle.matrix_models.specs.declared.system.LinearRow.{LinearRow}
use Rattle.matrix_models.specs.declared.system.System.{System}
use Rattle.adjoint_rules.specs.declared.parts.Shape.{Shape}
use Rattle.adjoint_rules.specs.declared.problem.Problem.{Problem}
use Rattle.model_checker.specs.Representations.{representation_of}
use Rattle.model_candidates.specs.declared.plan.LinearAssumption.{LinearAssumption}
use Rattle.model_candidates.specs.declared.solved_terms.SolvedTerm.{SolvedTerm}
use Rattle.model_candidates.specs.Candidates.{is_solved}
pub use Rattle.model_candidates.specs.Residues.{residue}
use Rattle.model_candidates.specs.Unknowns.{solved_flags, set_count, unknown_numbers}
use Rattle.model_candidates.specs.LetterNumbers.{letter_values}
use Rattle.model_candidates.specs.Plans.{terms_of}

-- the product of the arrows of letters, and the identity of the object where there are none
abbrev pub letters_product : {Object Arrow : Type 0} → Structure Object Arrow → Representation Object Arrow → ℕ → List ℕ → Arrow
letters_product s f u [] = s.identity (f.object u)
letters_product s f u (a ∷ w) = s.compose (f.arrow a) (letters_product s f u w)

-- What the solved letter at this place of the term's word has before and behind it.
abbrev pub term_around : Quiver → Shape → List ℕ → Model → ℕ → ℤ × List ℕ → ℕ → SolvedTerm
term_around q s numbers m u t place =
    let x = get_or t.1 place 0 in record {
      coefficient = residue m.modulus t.0;
      numbers = letter_values q s numbers x;
      left = letters_product (matrices m.modulus) (representation_of q m) (target q x) (take place t.1);
      right = letters_product (matrices m.modulus) (representation_of q m) u (drop (place + 1) t.1);
    }

-- the first solved letter is meant
abbrev pub solved_term : Quiver → Shape → List Letter → List ℕ → Model → ℕ → ℤ × List ℕ → Option SolvedTerm
solved_term q s solved numbers m u t = option_map (term_around q s numbers m u t) (position (is_solved q solved) t.1)

abbrev pub listed : Option SolvedTerm → List SolvedTerm
listed None = []
listed (Some t) = t ∷ []

-- the terms of a polynomial whose words have a solved letter
abbrev pub solved_terms : Quiver → Shape → List Letter → List ℕ → Model → ℕ → List (ℤ × List ℕ) → List SolvedTerm
solved_terms q s solved numbers m u p = flat_map (λ t. listed (solved_term q s solved numbers m u t)) p

-- The matrices are ones modulo m, and the letter between them has an unknown below n in each row and column.
pub record FitsTerm (m n : ℕ) (t : SolvedTerm) : Type 0 where
  pub coefficient : t.coefficient < m
  pub left : IsMatrix m t.left
  pub right : IsMatrix m t.right
  pub one_each : length t.numbers ≡ t.left.columns * t.right.rows
  pub below : All (λ number. number < n) t.numbers

-- the sides of its value
pub record HasSides (rows columns : ℕ) (t : SolvedTerm) : Type 0 where
  pub rows_are : t.left.rows ≡ rows
  pub columns_are : t.right.columns ≡ columns

-- what stands before and behind the letter's entry at this place, if this unknown is there, for the entry in row i and column j
abbrev pub place_factor : SolvedTerm → ℕ → ℕ → ℕ → ℕ → ℕ
place_factor t i j k place =
    (if nat_eq (get_or t.numbers place 0) k then 1 else 0) * (entry_at t.left i (place / t.right.rows) * entry_at t.right (place % t.right.rows) j)

-- at the first places, so many, of a row of the letter's matrix
abbrev pub line_factor : SolvedTerm → ℕ → ℕ → ℕ → ℕ → ℕ → ℕ
line_factor t i j k inner count = total count (λ other. place_factor t i j k (inner * t.right.rows + other))

-- at all places of it
abbrev pub term_factor : SolvedTerm → ℕ → ℕ → ℕ → ℕ
term_factor t i j k = t.coefficient * total (t.left.columns * t.right.rows) (place_factor t i j k)

-- in all terms
abbrev pub terms_factor : List SolvedTerm → ℕ → ℕ → ℕ → ℕ
terms_factor ts i j k = sum_by (λ t. term_factor t i j k) ts

-- that the entry at this place of the value is zero
abbrev pub row_with : ℕ → Matrix → List SolvedTerm → ℕ → LinearRow
row_with n value ts place =
    let i = place / value.columns in
    let j = place % value.columns in record {
      factors = map (λ k. terms_factor ts i j k % value.modulus) (range_with_len 0 n);
      right = (value.modulus - entry_at value i j) % value.modulus;
    }

-- that all are
abbrev pub rows_with : ℕ → Matrix → List SolvedTerm → List LinearRow
rows_with n value ts = map (row_with n value ts) (range_with_len 0 (value.rows * value.columns))

-- the value of the assumption in the model
abbrev pub assumption_value : Problem → Model → LinearAssumption → Matrix
assumption_value problem m g =
    let q = quiver_of problem.parts.quiver in
    value_at (matrices m.modulus) q (representation_of q m) g.sig.source.0 g.sig.target.0 (terms_of problem g)

-- that the assumption is zero, where the entries that are solved for have the value 0 in the model
abbrev pub equations_of : Problem → Shape → Model → LinearAssumption → List LinearRow
equations_of problem s m g =
    let q = quiver_of problem.parts.quiver in
    let flags = solved_flags q s problem.parts.solved in
    rows_with (set_count flags) (assumption_value problem m g)
    (solved_terms q s problem.parts.solved (unknown_numbers flags) m g.sig.source.0 (terms_of problem g))

-- that these assumptions are
abbrev pub system_in : Problem → Shape → Model → ℕ → List LinearAssumption → System
system_in problem s m unknowns gs = record {
  modulus = m.modulus;
  unknowns = unknowns;
  rows = flat_map (equations_of problem s m) gs;
}
