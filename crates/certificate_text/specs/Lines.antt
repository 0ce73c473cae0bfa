-- The lines of certificates of both formats.
use Rattle.std.specs.Prelude.{ℕ, ◌+◌, ◌==◌, ◌&&◌, ◌||◌, Bool, true, false, not, List, [], ◌∷◌, length, nat_le, nat_lt, ℤ, Option, Some}
use Rattle.std.specs.Prelude.{None, Result, Ok, Err, if◌then◌else◌, codes}
use Rattle.std.specs.List.{list_all}
use Rattle.std.specs.Option.{option_and_then}
use Rattle.std.specs.Str.Parse.{digits_value}
use Rattle.quiver.specs.Declarations.{Declaration}
use Rattle.traced_rows.specs.declared.certificate.CertRow.{CertRow}
use Rattle.traced_rows.specs.declared.evidence.CertFrom.{CertFrom}
use Rattle.traced_rows.specs.declared.evidence.CertFrom.TheVariants as over
use Rattle.traced_rows.specs.declared.evidence.LemmaRow.{LemmaRow}
use Rattle.traced_rows.specs.declared.evidence.Format.{Format}
use Rattle.traced_rows.specs.declared.evidence.Format.TheVariants.{Plain, Lemmas}
use Rattle.block_text.specs.declared.fault.Flaw.{Flaw}
use Rattle.block_text.specs.declared.fault.Flaw.TheVariants.{BadLine, UnknownName, NumberTooLarge, TooMany}
use Rattle.certificate_text.specs.declared.place.Size.{Size}
use Rattle.block_text.specs.Fault.{◌>>=◌, asked}
use Rattle.block_text.specs.Lines.{number_limit, integer_limit, is, is_pair, number_behind, integer_of, bracketed}
use Rattle.block_text.specs.Letters.{is_letter, word_of, is_number, number_within, is_integer, integer_within}
pub use Rattle.nc_polynomial.specs.Limits.{word_limit}
pub use Rattle.cofactor_trace.specs.Limits.{row_limit, letter_limit}

-- `certificate 1`
abbrev pub is_plain_head : List (List ℕ) → Bool
is_plain_head = is_pair (codes "certificate") (codes "1")

-- `certificate 2`
abbrev pub is_lemmas_head : List (List ℕ) → Bool
is_lemmas_head = is_pair (codes "certificate") (codes "2")

abbrev pub denominator_of : List (List ℕ) → Result ℤ Flaw
denominator_of line = asked BadLine (number_behind (codes "denominator") line) >>= integer_of

-- the number after `scale`
abbrev pub scale_digits : List (List ℕ) → Option (List ℕ)
scale_digits = number_behind (codes "scale")

-- whether the token is a number with this value
abbrev pub is_value : ℕ → List ℕ → Bool
is_value n token = is_number token && (digits_value 10 token == n)

-- the tokens after the scale of the lemma with this number
abbrev pub lemma_digits : ℕ → List (List ℕ) → Option (List ℕ)
lemma_digits number [] = None
lemma_digits number (word ∷ []) = None
lemma_digits number (word ∷ k ∷ tokens) = if is (codes "lemma") word && is_value number k then scale_digits tokens else None

-- the scale of the lemma after so many others; there are at most as many as rows
abbrev pub lemma_scale_of : ℕ → List (List ℕ) → Result ℤ Flaw
lemma_scale_of before line =
    asked BadLine (lemma_digits (before + 1) line) >>= λ digits.
    (integer_of digits >>= λ scale.
    if nat_le row_limit before then Err (TooMany row_limit) else Ok scale)

-- the tokens after `goal`
abbrev pub goal_digits : List (List ℕ) → Option (List ℕ)
goal_digits [] = None
goal_digits (word ∷ tokens) = if is (codes "goal") word then scale_digits tokens else None

-- the scale of the goal
abbrev pub goal_scale_of : List (List ℕ) → Result ℤ Flaw
goal_scale_of line = asked BadLine (goal_digits line) >>= integer_of

-- the tokens of C, of the letters before the number, of the number of the generator or lemma, and of the letters after it
pub record RowTokens : Type 0 where
  pub coefficient : List ℕ
  pub left : List (List ℕ)
  -- whether `lemma` is before the number
  pub lemma : Bool
  pub number : List ℕ
  pub right : List (List ℕ)

-- there is nothing after the second bracket
abbrev pub row_end : List ℕ → List (List ℕ) → Bool → List ℕ → List (List ℕ) → List (List ℕ) → Option RowTokens
row_end coefficient left lemma number right [] = Some (record { coefficient = coefficient; left = left; lemma = lemma; number = number; right = right })
row_end coefficient left lemma number right (token ∷ tokens) = None

-- N ( .. )
abbrev pub number_part : List ℕ → List (List ℕ) → Bool → List (List ℕ) → Option RowTokens
number_part coefficient left lemma [] = None
number_part coefficient left lemma (number ∷ tokens) = option_and_then (λ right. row_end coefficient left lemma number right.0 right.1) (bracketed tokens)

-- N ( .. ) or lemma N ( .. )
abbrev pub origin_part : List ℕ → List (List ℕ) → List (List ℕ) → Option RowTokens
origin_part coefficient left [] = None
origin_part coefficient left (word ∷ tokens) = if is (codes "lemma") word then number_part coefficient left true tokens
    else number_part coefficient left false (word ∷ tokens)

-- row C ( .. ) and a generator or a lemma
abbrev pub row_parts : List (List ℕ) → Option RowTokens
row_parts [] = None
row_parts (word ∷ []) = None
row_parts (word ∷ coefficient ∷ tokens) = if is (codes "row") word then option_and_then (λ left. origin_part coefficient left.0 left.1)
    (bracketed tokens) else None

-- numbers are at the places of numbers, and letters in the brackets
abbrev pub is_row : RowTokens → Bool
is_row r = is_integer r.coefficient && (list_all is_letter r.left && (is_number r.number && list_all is_letter r.right))

-- the tokens of a row; only certificates of format 2 have rows over lemmas
abbrev pub row_tokens : Format → List (List ℕ) → Option RowTokens
row_tokens Plain line = option_and_then (λ r. if not r.lemma && is_row r then Some r else None) (row_parts line)
row_tokens Lemmas line = option_and_then (λ r. if is_row r then Some r else None) (row_parts line)

-- the values of the tokens, by the number of the generator or lemma: first the names, and then the numbers
abbrev pub row_values : List Declaration → RowTokens → Result CertRow Flaw
row_values ds r =
    asked UnknownName (word_of ds r.left) >>= λ left.
    (asked UnknownName (word_of ds r.right) >>= λ right.
    (asked NumberTooLarge (integer_within integer_limit r.coefficient) >>= λ coefficient.
    (asked NumberTooLarge (number_within number_limit r.number) >>= λ number.
    Ok (record { coef = coefficient; left = left; generator = number; right = right }))))

-- the grammar is tested first
abbrev pub row_of : List Declaration → List (List ℕ) → Result CertRow Flaw
row_of ds line = asked BadLine (row_tokens Plain line) >>= row_values ds

-- a lemma or a generator with this number
abbrev pub from : Bool → ℕ → CertFrom
from true n = over.Lemma n
from false n = over.Generator n

-- the same over a lemma or a generator with the number
abbrev pub over_lemma : Bool → CertRow → LemmaRow
over_lemma lemma row = record { coef = row.coef; left = row.left; from = from lemma row.generator; right = row.right }

-- a row of a certificate of format 2
abbrev pub lemma_row_of : List Declaration → List (List ℕ) → Result LemmaRow Flaw
lemma_row_of ds line = asked BadLine (row_tokens Lemmas line) >>= λ r. (row_values ds r >>= λ row. Ok (over_lemma r.lemma row))

-- no rows
abbrev pub no_rows : Size
no_rows = record { rows = 0; letters = 0 }

-- with one more row, of these words, within the limits
abbrev pub grown : Size → List ℕ → List ℕ → Result Size Flaw
grown size left right =
    if nat_lt word_limit (length left) || nat_lt word_limit (length right) then Err (TooMany word_limit)
    else if nat_le row_limit size.rows then Err (TooMany row_limit)
    else if nat_lt letter_limit (size.letters + (length left + length right)) then Err (TooMany letter_limit)
    else Ok (record { rows = size.rows + 1; letters = size.letters + (length left + length right) })
