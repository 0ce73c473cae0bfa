-- Texts of whole lines.
use Rattle.std.specs.Prelude.{◌≡◌, ℕ, ◌==◌, ◌&&◌, not, Bool, true, false, List, [], ◌∷◌, ◌++◌, IsTrue, codes}
use Rattle.std.specs.List.{All, flat_map, list_all}
use Rattle.std.specs.Str.{IsUtf8}
use Rattle.quiver.specs.Declarations.{Declaration, name_of}
use Rattle.block_text.specs.Letters.{is_name}
use Rattle.block_text.specs.Tokens.{tokens_of}
use Rattle.block_text.specs.Lines.{is_end}
use Rattle.block_text.specs.Blocks.{is_other_head}

-- whether the text is empty or ends with LF
abbrev pub is_whole : List ℕ → Bool
is_whole [] = true
is_whole (c ∷ []) = c == 10
is_whole (c ∷ d ∷ cs) = is_whole (d ∷ cs)

-- each object and map has a name of the language
abbrev pub is_named : Declaration → Bool
is_named d = is_name (name_of d)

-- neither LF nor CR
abbrev pub is_inside : ℕ → Bool
is_inside c = not (c == 10) && not (c == 13)

-- UTF-8 without line ends
pub record IsLineText (text : List ℕ) : Type 0 where
  pub utf8 : IsUtf8 text
  pub inside : IsTrue (list_all is_inside text)

-- a line with its LF
abbrev pub ended : List ℕ → List ℕ
ended line = line ++ codes "\n"

-- the text is a line, and not the line `end`
pub record IsBodyLine (line : List ℕ) : Type 0 where
  pub text : IsLineText line
  pub goes_on : is_end (tokens_of line) ≡ false

-- a block by its value, a comment without its # and LF, or a block of another kind by its first line and those before `end`
pub data Part (Value : Type 0) : Type 0 where
  block : Value → Part Value
  comment : List ℕ → Part Value
  other : List ℕ → List (List ℕ) → Part Value

-- the text of a part, where this is that of a value
abbrev pub part_text : {Value : Type 0} → (Value → List ℕ) → Part Value → List ℕ
part_text text_of (block value) = text_of value
part_text text_of (comment text) = ended (codes "#" ++ text)
part_text text_of (other head lines) = ended head ++ flat_map ended lines ++ codes "end\n"

abbrev pub values_in : {Value : Type 0} → List (Part Value) → List Value
values_in [] = []
values_in (block value ∷ parts) = value ∷ values_in parts
values_in (comment text ∷ parts) = values_in parts
values_in (other head lines ∷ parts) = values_in parts

abbrev pub IsPart : {Value : Type 0} → List (List ℕ) → (Value → Type 0) → Part Value → Type 0
IsPart others IsGood (block value) = IsGood value
IsPart others IsGood (comment text) = IsLineText text
IsPart others IsGood (other head lines) = IsLineText head × IsTrue (is_other_head others (tokens_of head)) × All IsBodyLine lines
