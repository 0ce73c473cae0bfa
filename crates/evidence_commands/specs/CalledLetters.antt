-- The letters that a proof calls monic and epic, as a line names them.
use Rattle.std.specs.Prelude.{List, [], ◌∷◌, ◌++◌, codes, ℕ}
use Rattle.std.specs.List.{flat_map}
use Rattle.word_core.specs.declared.letter.Letter.{Letter}
use Rattle.quiver.specs.Declarations.{Declaration}
use Rattle.block_text.specs.Written.{letter_text}

-- a blank and the name of a letter
abbrev pub name_text : List Declaration → Letter → List ℕ
name_text ds a = codes " " ++ letter_text ds a.0

-- the names of letters, each after a blank
abbrev pub names_text : List Declaration → List Letter → List ℕ
names_text ds letters = flat_map (name_text ds) letters

-- a word and the letters after it, where there are any
abbrev pub called_text : List Declaration → List ℕ → List Letter → List ℕ
called_text ds word [] = []
called_text ds word (a ∷ letters) = word ++ names_text ds (a ∷ letters)

-- the letters that are called monic, and those that are called epic
abbrev pub letters_text : List Declaration → List Letter → List Letter → List ℕ
letters_text ds monic epic = called_text ds (codes " monic") monic ++ called_text ds (codes " epic") epic
