-- The lines of evidence text: what is skipped, and the lines and brackets that blocks of several kinds have.
use Rattle.std.specs.Prelude.{ℕ, ◌-◌, ◌^◌, ◌&&◌, Bool, false, not, List, [], ◌∷◌, map, filter, ℤ, pos, Option, Some, None, Result, if◌then◌else◌, codes}
use Rattle.std.specs.Option.{option_map}
use Rattle.std.specs.Str.{bytes_eq}
use Rattle.block_text.specs.declared.fault.Flaw.{Flaw}
use Rattle.block_text.specs.declared.fault.Flaw.TheVariants.{BadLine, NumberTooLarge}
use Rattle.block_text.specs.Fault.{◌>>=◌, asked}
use Rattle.block_text.specs.Tokens.{tokens_of, is_skipped}
use Rattle.block_text.specs.Letters.{is_number, number_within}

-- a line is the list of its tokens
abbrev pub Line : Type 0
Line = List (List ℕ)

-- the tokens of the lines that are neither blank nor comments
abbrev pub content : List (List ℕ) → List Line
content ls = filter (λ line. not (is_skipped line)) (map tokens_of ls)

-- of a number, and of an integer and its negative
abbrev pub number_limit : ℕ
number_limit = 2 ^ 32 - 1

abbrev pub integer_limit : ℕ
integer_limit = 2 ^ 127 - 1

-- of the blocks of a kind
abbrev pub block_limit : ℕ
block_limit = 100

-- whether a token is this word
abbrev pub is : List ℕ → List ℕ → Bool
is word token = bytes_eq token word

-- whether the line begins with this word
abbrev pub begins : List ℕ → List (List ℕ) → Bool
begins word [] = false
begins word (token ∷ tokens) = is word token

-- whether the line is these two words
abbrev pub is_pair : List ℕ → List ℕ → List (List ℕ) → Bool
is_pair first second (a ∷ b ∷ []) = is first a && is second b
is_pair first second [] = false
is_pair first second (a ∷ []) = false
is_pair first second (a ∷ b ∷ c ∷ tokens) = false

-- `end`
abbrev pub is_end : List (List ℕ) → Bool
is_end (token ∷ []) = is (codes "end") token
is_end [] = false
is_end (token ∷ other ∷ tokens) = false

-- end
abbrev pub end_line : Line
end_line = codes "end" ∷ []

-- the number after a word
abbrev pub number_behind : List ℕ → List (List ℕ) → Option (List ℕ)
number_behind word (a ∷ b ∷ []) = if is word a && is_number b then Some b else None
number_behind word [] = None
number_behind word (a ∷ []) = None
number_behind word (a ∷ b ∷ c ∷ tokens) = None

-- the value of the tokens of a line, or this flaw where they have none
abbrev pub said : {T A : Type 0} → (Line → Option T) → (T → Option A) → Flaw → Line → Result A Flaw
said tokens value flaw line = asked BadLine (tokens line) >>= λ t. asked flaw (value t)

-- the number after a word, at most this
abbrev pub number_of : List ℕ → ℕ → Line → Result ℕ Flaw
number_of word most line = said (number_behind word) (number_within most) NumberTooLarge line

-- claim N
abbrev pub claim_line : List ℕ → Line
claim_line n = codes "claim" ∷ n ∷ []

abbrev pub claim_of : Line → Result ℕ Flaw
claim_of line = number_of (codes "claim") number_limit line

-- a number as a positive integer or 0
abbrev pub integer_of : List ℕ → Result ℤ Flaw
integer_of digits = asked NumberTooLarge (option_map pos (number_within integer_limit digits))

abbrev pub is_open : List ℕ → Bool
is_open = is (codes "(")

abbrev pub is_close : List ℕ → Bool
is_close = is (codes ")")

-- the tokens before the first ) and those after it
abbrev pub closed : List (List ℕ) → Option (List (List ℕ) × List (List ℕ))
closed [] = None
closed (token ∷ tokens) = if is_close token then Some ([], tokens) else option_map (λ parts. (token ∷ parts.0, parts.1)) (closed tokens)

-- the tokens in a leading ( .. ) and those after it
abbrev pub bracketed : List (List ℕ) → Option (List (List ℕ) × List (List ℕ))
bracketed [] = None
bracketed (token ∷ tokens) = if is_open token then closed tokens else None

-- a block of another kind, without the line that ends it
pub record OtherTokens : Type 0 where
  pub head : Line
  pub lines : List Line
