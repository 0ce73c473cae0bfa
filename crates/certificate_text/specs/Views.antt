-- The program's values as the definitions see them.
use Rattle.certificate_text.specs.declared.row.RowTokens as code_row
use Rattle.certificate_text.specs.Lines.{RowTokens}
use Rattle.block_text.specs.Tokens.{tokens_of}

-- the letters are the tokens in brackets
abbrev pub parts_of : code_row.RowTokens → RowTokens
parts_of r = record { coefficient = r.coefficient.now; left = tokens_of r.left.now; lemma = r.lemma; number = r.number.now; right = tokens_of r.right.now }
