-- The files of a call, and the greatest number of bytes that each may have.
use Rattle.std.specs.Prelude.{ℕ, List, [], ◌∷◌}
use Rattle.command_shape.specs.declared.files.FileWord.{FileWord}

-- the greatest sizes of files
abbrev pub statement_limit : ℕ
statement_limit = 1048576

abbrev pub evidence_limit : ℕ
evidence_limit = 67108864

abbrev pub file_word : List ℕ → ℕ → FileWord
file_word name limit = record { name = name; limit = limit }

-- only a statement
abbrev pub statement_file : List ℕ → List FileWord
statement_file name = file_word name statement_limit ∷ []

-- a statement, then a text of evidence
abbrev pub pair_files : List ℕ → List ℕ → List FileWord
pair_files statement evidence = file_word statement statement_limit ∷ file_word evidence evidence_limit ∷ []
