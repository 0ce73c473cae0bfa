-- Rows of products of matrices by the values of the entries, for private functions.
use Rattle.std.specs.Prelude.{◌≡◌, ℕ, ◌*◌, ◌<◌, ℤ, List, get_or}
use Rattle.definitions.specs.Quiver.{Quiver}
use Rattle.definitions.specs.Representation.{value_at}
use Rattle.quiver.specs.Declarations.{object_count, quiver_of}
use Rattle.matrix_models.specs.Matrix.{Matrix, entry_at}
use Rattle.matrix_models.specs.Matrices.{matrices}
use Rattle.matrix_models.specs.declared.model.Model.{Model}
use Rattle.adjoint_rules.specs.Problem.{IsShape}
use Rattle.model_checker.specs.Representations.{arrow_of, representation_of}
use Rattle.model_candidates.specs.declared.word_rows.EntryValues.{EntryValues}
use Rattle.model_candidates.specs.Candidates.{model_by}
use Rattle.model_candidates.specs.Factors.{letters_product}
use Rattle.model_candidates.specs.LetterTables.{letter_tables}
use Rattle.model_candidates.specs.Plans.{AreEntryValues}
use Rattle.model_candidates.specs.Residues.{residue}

-- The values are ones of the entries of the shape, and the tables are those of the letters.
pub record AreTabled (x : EntryValues) : Type 0 where
  pub shape : IsShape (object_count x.problem.now.parts.quiver) x.shape.now
  pub tables : x.tables.now ≡ letter_tables (quiver_of x.problem.now.parts.quiver) x.shape.now
  pub values : AreEntryValues x.problem.now x.shape.now x.values.now

-- the quiver, and the model by the values
abbrev pub quiver_in : EntryValues → Quiver
quiver_in x = quiver_of x.problem.now.parts.quiver

abbrev pub model_in : EntryValues → Model
model_in x = model_by (quiver_in x) x.shape.now 0 x.values.now

-- the matrix of a letter in it, and the product of those of a word's letters
abbrev pub matrix_in : EntryValues → ℕ → Matrix
matrix_in x a = arrow_of (quiver_in x) (model_in x) a

abbrev pub product_in : EntryValues → ℕ → List ℕ → Matrix
product_in x u w = letters_product (matrices x.shape.now.modulus) (representation_of (quiver_in x) (model_in x)) u w

-- the value of a polynomial at the signature (u, v) in it
abbrev pub value_in : EntryValues → ℕ → ℕ → List (ℤ × List ℕ) → Matrix
value_in x u v p = value_at (matrices x.shape.now.modulus) (quiver_in x) (representation_of (quiver_in x) (model_in x)) u v p

-- what a term adds to the entry in row i and column k of the value, up to multiples of the modulus
abbrev pub term_entry : EntryValues → ℕ → ℕ → ℕ → ℤ × List ℕ → ℕ
term_entry x u i k t = residue x.shape.now.modulus t.0 * entry_at (product_in x u t.1) i k

-- the list begins with the entries in row i of a matrix with so many columns
abbrev pub IsRow : Matrix → ℕ → ℕ → List ℕ → Type 0
IsRow a i columns row = (k : ℕ) → k < columns → get_or row k 0 ≡ entry_at a i k
