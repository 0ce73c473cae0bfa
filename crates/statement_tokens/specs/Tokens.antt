-- The tokens of a text, with their places, and the first fault of a text that has none.
use Rattle.std.specs.Prelude.{◌≡◌, ◌⊎◌, ℕ, zero, suc, ◌+◌, ◌-◌, ◌*◌, ◌^◌, nat_lt, nat_le, pos, if◌then◌else◌, List, [], ◌∷◌, ◌++◌, length, Option, Some, None}
use Rattle.std.specs.Str.{encode_utf8_all}
use Rattle.statement_tokens.specs.Limits.{name_limit}
use Rattle.statement_tokens.specs.Language.{language_of}
use Rattle.statement_tokens.specs.Pieces.{Piece, line_feed, return_and_line_feed, blank, tab, comment, name}
use Rattle.statement_tokens.specs.Pieces.{literal, sign, piece_text, pieces_text, IsLongest, BeginsNone}
use Rattle.statement_tokens.specs.Types.{Spot, Token, TokenKind, TokenKind as kind, Language, First, Fault, BadToken, LiteralTooLarge}

-- lines and characters are counted from 1
abbrev pub right_of : Spot → ℕ → Spot
right_of at n = record { line = at.line; column = at.column + n }

abbrev pub below : Spot → Spot
below at = record { line = at.line + 1; column = 1 }

abbrev pub behind : Piece → Spot → Spot
behind line_feed at = below at
behind return_and_line_feed at = below at
behind piece at = right_of at (length (piece_text piece))

abbrev pub place_behind : List Piece → Spot → Spot
place_behind [] at = at
place_behind (piece ∷ pieces) at = place_behind pieces (behind piece at)

-- the value of digits after others with this value
abbrev pub value_from : ℕ → List ℕ → ℕ
value_from n [] = n
value_from n (d ∷ ds) = value_from (n * 10 + (d - 48)) ds

-- a line that has a token ends just past its last one
abbrev pub end_of : ℕ → ℕ → List Token
end_of line zero = []
end_of line (suc n) = record { at = record { line = line; column = suc n }; kind = kind.End } ∷ []

-- the tokens of a piece at a place; past is the column past the last token of its line, or 0
abbrev pub tokens_with : Piece → Spot → ℕ → List Token
tokens_with line_feed at past = end_of at.line past
tokens_with return_and_line_feed at past = end_of at.line past
tokens_with (name cs) at past = record { at = at; kind = kind.Name (encode_utf8_all cs) } ∷ []
tokens_with (literal cs) at past = record { at = at; kind = kind.Literal (pos (value_from 0 cs)) } ∷ []
tokens_with (sign k) at past = record { at = at; kind = k } ∷ []
tokens_with piece at past = []

-- the column past the last token of the line, after a piece
abbrev pub past_behind : Piece → Spot → ℕ → ℕ
past_behind line_feed at past = 0
past_behind return_and_line_feed at past = 0
past_behind blank at past = past
past_behind tab at past = past
past_behind (comment cs) at past = past
past_behind piece at past = at.column + length (piece_text piece)

abbrev pub tokens_at : List Piece → Spot → ℕ → List Token
tokens_at [] at past = []
tokens_at (piece ∷ pieces) at past = tokens_with piece at past ++ tokens_at pieces (behind piece at) (past_behind piece at past)

abbrev pub sign_fault : TokenKind → Language → Option Fault
sign_fault kind.Caret First = Some BadToken
sign_fault k language = None

-- a name has at most 32 bytes, a literal is below 2^127, and only the second language has carets as tokens
abbrev pub fault_of : Language → Piece → Option Fault
fault_of language (name cs) = if nat_le (length (encode_utf8_all cs)) name_limit then None else Some BadToken
fault_of language (literal cs) = if nat_lt (value_from 0 cs) (2 ^ 127) then None else Some LiteralTooLarge
fault_of language (sign k) = sign_fault k language
fault_of language piece = None

-- before the rest each piece is the longest at its place, and none has a fault in the language
abbrev pub AreGood : Language → List Piece → List ℕ → Type 0
AreGood language [] rest = Unit {0}
AreGood language (piece ∷ pieces) rest = IsLongest piece (pieces_text pieces ++ rest) × (fault_of language piece ≡ None) × AreGood language pieces rest

-- after these tokens, where past is the column past the last one of its line, the text from this place on is good pieces and no more,
-- and these are their tokens; its end ends the last line
pub record AreTokensBehind (before : List Token) (at : Spot) (past : ℕ) (text : List ℕ) (tokens : List Token) : Type 0 where
  pub pieces : List Piece
  pub cut : text ≡ pieces_text pieces
  pub good : AreGood (language_of (before ++ tokens)) pieces []
  pub are : tokens ≡ tokens_at (pieces ++ line_feed ∷ []) at past

-- the tokens of a text
abbrev pub AreTokens : List ℕ → List Token → Type 0
AreTokens text tokens = AreTokensBehind [] (record { line = 1; column = 1 }) 0 text tokens

-- the longest piece that the text begins with has the fault in the language, or no piece begins with its first character
abbrev pub Begins : Language → List ℕ → Fault → Type 0
Begins language text fault =
    ((piece : Piece) × (rest : List ℕ) × (text ≡ piece_text piece ++ rest) × IsLongest piece rest × (fault_of language piece ≡ Some fault))
    ⊎ ((c : ℕ) × (rest : List ℕ) × (text ≡ c ∷ rest) × BeginsNone text × (fault ≡ BadToken))

-- after these tokens, the text from this place on is good pieces up to the place of the fault
pub record IsFaultBehind (before : List Token) (from : Spot) (past : ℕ) (text : List ℕ) (fault : Fault) (at : Spot) : Type 0 where
  pub pieces : List Piece
  pub rest : List ℕ
  pub cut : text ≡ pieces_text pieces ++ rest
  pub good : AreGood (language_of (before ++ tokens_at pieces from past)) pieces rest
  pub faulty : Begins (language_of (before ++ tokens_at pieces from past)) rest fault
  pub place : at ≡ place_behind pieces from

-- the first fault of a text, and its place
abbrev pub IsFirstScanFault : List ℕ → Fault → Spot → Type 0
IsFirstScanFault text fault at = IsFaultBehind [] (record { line = 1; column = 1 }) 0 text fault at
