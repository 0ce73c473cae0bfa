-- Models in evidence text: those of bytes, or the first fault of the bytes.
use Rattle.std.specs.Prelude.{◌≡◌, ◌<◌, ⊤, ℕ, List, [], ◌∷◌, length, get_or, Option, Some, None, codes}
use Rattle.std.specs.List.{All}
use Rattle.quiver.specs.declared.named.Named.TheVariants.{Map}
use Rattle.quiver.specs.Declarations.{Declaration, object_count, letter_count, named_in}
use Rattle.matrix_models.specs.Matrix.{Matrix, IsModulus, IsSide, IsMatrix}
use Rattle.matrix_models.specs.declared.model.Model.{Model}
use Rattle.block_text.specs.Fault.{Fault}
use Rattle.block_text.specs.Kind.{Kind}
use Rattle.block_text.specs.Texts as texts
use Rattle.block_text.specs.Texts.{HasBlocks, IsBlocks}
use Rattle.block_lines.specs.Sections.{block_kind}
use Rattle.model_text.specs.ModelBounds.{bounds, flaw_of, model_lines}

-- blocks of these kinds aren't read
abbrev pub other_words : List (List ℕ)
other_words = codes "certificate" ∷ codes "basis" ∷ []

-- Models are a kind of block.
abbrev pub model_kind : List Declaration → Kind Model
model_kind ds = block_kind (codes "model") (codes "1") other_words bounds flaw_of (model_lines ds)

-- The bytes are UTF-8, their lines are blocks within all bounds, and these are the models among them.
abbrev pub HasModels : List Declaration → List ℕ → List Model → Type 0
HasModels ds = HasBlocks (model_kind ds)

-- There is at least one.
abbrev pub IsModels : List Declaration → List ℕ → List Model → Type 0
IsModels ds = IsBlocks (model_kind ds)

-- the first fault of the bytes
abbrev pub IsFirstFault : List Declaration → List ℕ → Fault → Type 0
IsFirstFault ds = texts.IsFirstFault (model_kind ds)

-- the name of a declared map
abbrev pub HasMap : List Declaration → ℕ → Type 0
HasMap ds a = (name : List ℕ) × (named_in ds name ≡ Some (Map (record { 0 = a })))

-- A letter that has a matrix is a declared map, and the matrix is one modulo this number.
abbrev pub IsPlaced : List Declaration → ℕ → ℕ → Option Matrix → Type 0
IsPlaced ds modulus a None = ⊤
IsPlaced ds modulus a (Some x) = HasMap ds a × IsMatrix modulus x

-- The modulus is one, each object has a side, and there is an entry for each letter, with a matrix only for declared maps.
pub record IsModel (ds : List Declaration) (m : Model) : Type 0 where
  pub modulus : IsModulus m.modulus
  pub objects : length m.sides ≡ object_count ds
  pub sides : All IsSide m.sides
  pub letters : length m.maps ≡ letter_count ds
  pub maps : (a : ℕ) → a < letter_count ds → IsPlaced ds m.modulus a (get_or m.maps a None)
