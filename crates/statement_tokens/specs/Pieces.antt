-- The pieces of a text: line ends, blanks, tabs, comments, names, literals and signs, each the longest that begins at its place.
use Rattle.std.specs.Prelude.{◌≡◌, ◌≤◌, ℕ, ◌==◌, ◌&&◌, ◌||◌, Bool, true, false, List, [], ◌∷◌, ◌++◌, length, codes, nat_le, not, IsTrue}
use Rattle.std.specs.List.{flat_map, list_all}
use Rattle.unicode_ident.specs.Ident.{is_xid_start, is_xid_continue}
use Rattle.statement_tokens.specs.Types.{TokenKind, TokenKind as kind}

abbrev pub starts_name : ℕ → Bool
starts_name c = is_xid_start c || (c == 95)

abbrev pub is_digit : ℕ → Bool
is_digit c = nat_le 48 c && nat_le c 57

abbrev pub is_inside_line : ℕ → Bool
is_inside_line c = not (c == 10)

-- a comment, a name and a literal with their characters, of a comment those after its `#`
pub data Piece : Type 0 where
  line_feed : Piece
  return_and_line_feed : Piece
  blank : Piece
  tab : Piece
  comment : List ℕ → Piece
  name : List ℕ → Piece
  literal : List ℕ → Piece
  sign : TokenKind → Piece

-- the characters of a sign; a name, a literal and the end of a line are none
abbrev pub sign_text : TokenKind → List ℕ
sign_text kind.Colon = codes ":"
sign_text kind.Arrow = codes "->"
sign_text kind.Equals = codes "="
sign_text kind.Plus = codes "+"
sign_text kind.Minus = codes "-"
sign_text kind.Open = codes "("
sign_text kind.Close = codes ")"
sign_text kind.OpenSquare = codes "["
sign_text kind.CloseSquare = codes "]"
sign_text kind.Quote = codes "'"
sign_text kind.Caret = codes "^"
sign_text k = []

abbrev pub piece_text : Piece → List ℕ
piece_text line_feed = 10 ∷ []
piece_text return_and_line_feed = 13 ∷ 10 ∷ []
piece_text blank = codes " "
piece_text tab = 9 ∷ []
piece_text (comment cs) = 35 ∷ cs
piece_text (name cs) = cs
piece_text (literal cs) = cs
piece_text (sign k) = sign_text k

abbrev pub pieces_text : List Piece → List ℕ
pieces_text pieces = flat_map piece_text pieces

-- the first character passes one test, and the others pass another
abbrev pub begins_and_goes_on : (ℕ → Bool) → (ℕ → Bool) → List ℕ → Bool
begins_and_goes_on begins goes_on [] = false
begins_and_goes_on begins goes_on (c ∷ cs) = begins c && list_all goes_on cs

abbrev pub is_some : List ℕ → Bool
is_some [] = false
is_some (c ∷ cs) = true

-- the characters are those of a piece of its sort: a comment ends before its line does, and a name may be of any length, a literal of any value
abbrev pub is_piece : Piece → Bool
is_piece (comment cs) = list_all is_inside_line cs
is_piece (name cs) = begins_and_goes_on starts_name is_xid_continue cs
is_piece (literal cs) = begins_and_goes_on is_digit is_digit cs
is_piece (sign k) = is_some (sign_text k)
is_piece other = true

-- before the rest the piece is the longest at its place
pub record IsLongest (piece : Piece) (rest : List ℕ) : Type 0 where
  pub is : IsTrue (is_piece piece)
  pub longest : (other : Piece) (more : List ℕ) → IsTrue (is_piece other) → piece_text other ++ more ≡ piece_text piece ++ rest
      → length (piece_text other) ≤ length (piece_text piece)

-- no piece begins with the first of these characters
abbrev pub BeginsNone : List ℕ → Type 0
BeginsNone text = (piece : Piece) (more : List ℕ) → IsTrue (is_piece piece) → piece_text piece ++ more ≡ text → ⊥
