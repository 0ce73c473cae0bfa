-- The program's values as the definitions see them.
use Rattle.std.specs.Prelude.{ℕ, ◌==◌, Bool, List, Option}
use Rattle.std.specs.Option.{option_map}
use Rattle.std.specs.Borrow.{Bor}
use Rattle.model_text.specs.declared.entry.EntryTokens.{EntryTokens as code_entry}
use Rattle.model_text.specs.declared.entry.EntryTokens.TheVariants as code
use Rattle.block_text.specs.Lines.{Line}
use Rattle.block_text.specs.Tokens.{tokens_of}
use Rattle.model_text.specs.ModelBlocks.{EntryTokens, side, matrix}
use Rattle.model_text.specs.Reading.{rows_behind}

-- whether the character is a ;
abbrev pub ends_row : ℕ → Bool
ends_row c = c == 59

-- the tokens of an optional line
abbrev pub line_in : Option (Bor (List ℕ)) → Option Line
line_in found = option_map (λ line. tokens_of line.now) found

abbrev pub tokens_in : code_entry → EntryTokens
tokens_in (code.Side name number) = side name.now number.now
tokens_in (code.Matrix name first rest) = matrix name.now (tokens_of first.now) (rows_behind (line_in rest))
