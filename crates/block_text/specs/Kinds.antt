-- The kinds of tokens that a line may have alone. Only the reader's functions and proofs use it.
use Rattle.std.specs.Prelude.{ℕ, Bool, List}
use Rattle.block_text.specs.declared.kinds.TokenKind.{TokenKind}
use Rattle.block_text.specs.declared.kinds.TokenKind.TheVariants.{Letter, Number}
use Rattle.block_text.specs.Letters.{is_letter, is_number}

abbrev pub is_of : TokenKind → List ℕ → Bool
is_of Letter = is_letter
is_of Number = is_number
