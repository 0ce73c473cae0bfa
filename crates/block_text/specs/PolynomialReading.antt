-- How a reader goes over the tokens of a line that spells a polynomial. Only the reader's functions and proofs use it; such lines are defined in
-- PolynomialLines.
use Rattle.std.specs.Prelude.{ℕ, ◌-◌, ◌==◌, ◌&&◌, ◌||◌, Bool, true, false, not, List, [], ◌∷◌, ◌++◌, length, take, drop, nat_eq, nat_le}
use Rattle.std.specs.Prelude.{Option, Some, None, is_some, Result, Ok, if◌then◌else◌, codes}
use Rattle.std.specs.Borrow.{Bor}
use Rattle.std.specs.List.{list_all, starts_with, ends_with}
use Rattle.std.specs.Option.{option_map, option_and_then}
use Rattle.std.specs.Ordering.{nat_cmp, ordering_then}
use Rattle.std.specs.declared.cmp.Ordering.{Ordering}
use Rattle.std.specs.declared.cmp.Ordering.TheVariants.{Less, Equal, Greater}
use Rattle.definitions.specs.Poly.{Poly, Term}
use Rattle.word_core.specs.Canonical.{word_cmp}
use Rattle.nc_polynomial.specs.Limits.{word_limit, term_limit}
use Rattle.quiver.specs.declared.named.Named.{Named}
use Rattle.quiver.specs.declared.named.Named.TheVariants.{Object, Map}
use Rattle.quiver.specs.Declarations.{Declaration, named_in, letter_name}
use Rattle.block_text.specs.declared.fault.Flaw.{Flaw}
use Rattle.block_text.specs.declared.fault.Flaw.TheVariants.{BadLine, UnknownName, NotAsWritten, NumberTooLarge, TooMany}
use Rattle.block_text.specs.declared.polynomial.Asked.{Asked}
use Rattle.block_text.specs.declared.polynomial.Asked.TheVariants.{Form, Known, Written, Within}
use Rattle.block_text.specs.declared.polynomial.TermText.{TermText}
use Rattle.block_text.specs.Fault.{asked}
use Rattle.block_text.specs.Letters.{letter_of, is_number, number_within, signed}
use Rattle.block_text.specs.Lines.{Line, integer_limit, is}
use Rattle.block_text.specs.PolynomialLines.{TermTokens, is_term_letter}
use Rattle.block_text.specs.Tokens.{tokens_of}

-- the terms of a line
abbrev pub is_minus : List ℕ → Bool
is_minus token = is (codes "-") token

-- whether a term begins after the token
abbrev pub is_term_sign : List ℕ → Bool
is_term_sign token = is_minus token || is (codes "+") token

-- the tokens before the first sign
abbrev pub part_in : Line → Line
part_in [] = []
part_in (token ∷ tokens) = if is_term_sign token then [] else token ∷ part_in tokens

-- the term of the tokens after its sign
abbrev pub term_of : Bool → Line → TermTokens
term_of negative [] = record { negative = negative; factor = None; letters = [] }
term_of negative (token ∷ tokens) =
    if is_number token then (record { negative = negative; factor = Some token; letters = tokens })
    else record { negative = negative; factor = None; letters = token ∷ tokens }

-- the terms after the signs in the line
abbrev pub later_in : Line → List TermTokens
later_in [] = []
later_in (token ∷ tokens) = if is_term_sign token then term_of (is_minus token) (part_in tokens) ∷ later_in tokens else later_in tokens

-- the terms of a line after a sign
abbrev pub terms_behind : Bool → Line → List TermTokens
terms_behind negative line = term_of negative (part_in line) ∷ later_in line

-- the terms of a line, the first of which may follow a -
abbrev pub terms_of : Line → List TermTokens
terms_of [] = terms_behind false []
terms_of (token ∷ tokens) = if is_minus token then terms_behind true tokens else terms_behind false (token ∷ tokens)

-- whether the line is a number of value 0
abbrev pub is_zero : Line → Bool
is_zero [] = false
is_zero (token ∷ []) = is_number token && is_some (number_within 0 token)
is_zero (token ∷ other ∷ tokens) = false

-- as the program has them: a term, and those after it in the line
abbrev pub now_of : Option (Bor (List ℕ)) → Option (List ℕ)
now_of token = option_map (λ t. t.now) token

abbrev pub term_in : TermText → TermTokens
term_in t = record { negative = t.negative; factor = now_of t.factor; letters = part_in (tokens_of t.letters.now) }

abbrev pub terms_from : TermText → List TermTokens
terms_from t = term_in t ∷ later_in (tokens_of t.letters.now)

abbrev pub terms_left : Option TermText → List TermTokens
terms_left None = []
terms_left (Some t) = terms_from t

-- whether the token is the name in square brackets, or before a '
abbrev pub is_bracketed : List ℕ → List ℕ → Bool
is_bracketed name token =
    if starts_with nat_eq token (codes "[") && ends_with nat_eq token (codes "]") then is name (take (length token - 2) (drop 1 token)) else false

abbrev pub is_adjoint : List ℕ → List ℕ → Bool
is_adjoint name token = if ends_with nat_eq token (codes "'") then is name (take (length token - 1) token) else false

-- whether a letter that comes from what the name stands for is written as the token
abbrev pub is_spelling : List ℕ → ℕ → Option Named → List ℕ → Bool
is_spelling name a (Some (Object v)) token = is_bracketed name token
is_spelling name a (Some (Map b)) token = if nat_eq a b.0 then is name token else is_adjoint name token
is_spelling name a None token = false

abbrev pub is_written_as : List Declaration → ℕ → List ℕ → Bool
is_written_as ds a token = is_spelling (letter_name ds a) a (named_in ds (letter_name ds a)) token

-- the letter that the token spells as it is written
abbrev pub written_letter : List Declaration → List ℕ → Option ℕ
written_letter ds token = if is_term_letter token then option_and_then (λ a. if is_written_as ds a token then Some a else None) (letter_of ds token) else None

-- the letters after these, if there are not too many
abbrev pub word_behind : List Declaration → List ℕ → Line → Option (List ℕ)
word_behind ds word [] = Some word
word_behind ds word (token ∷ tokens) =
    if nat_le word_limit (length word) then None else option_and_then (λ a. word_behind ds (word ++ a ∷ []) tokens) (written_letter ds token)

-- whether it is a number above 1
abbrev pub is_above_one : List ℕ → Bool
is_above_one digits = is_number digits && not (is_some (number_within 1 digits))

-- 1, or the value of a number above it, if it is small enough
abbrev pub value_within : Option (List ℕ) → Option ℕ
value_within None = Some 1
value_within (Some digits) = if is_above_one digits then number_within integer_limit digits else None

-- the word, if it isn't the empty one
abbrev pub some_word : List ℕ → Option (List ℕ)
some_word [] = None
some_word (a ∷ word) = Some (a ∷ word)

abbrev pub term_value : List Declaration → TermTokens → Option Term
term_value ds t =
    option_and_then (λ n. option_map (λ word. (signed t.negative n, word)) (option_and_then some_word (word_behind ds [] t.letters))) (value_within t.factor)

abbrev pub is_greater : Ordering → Bool
is_greater Less = false
is_greater Equal = false
is_greater Greater = true

-- whether the word is below that of the last term
abbrev pub may_follow : List Term → List ℕ → Bool
may_follow [] word = true
may_follow (t ∷ []) word = is_greater (word_cmp t.1 word)
may_follow (t ∷ u ∷ terms) word = may_follow (u ∷ terms) word

-- the terms after these, if they descend and there are not too many
abbrev pub poly_behind : List Declaration → Poly → List TermTokens → Option Poly
poly_behind ds p [] = Some p
poly_behind ds p (t ∷ ts) =
    option_and_then (λ term. if nat_le term_limit (length p) || not (may_follow p term.1) then None else poly_behind ds (p ++ term ∷ []) ts) (term_value ds t)

-- the tests of the letters and of the terms of a line
abbrev pub passes_letter : List Declaration → Asked → List ℕ → Bool
passes_letter ds Form token = is_term_letter token
passes_letter ds Known token = is_some (letter_of ds token)
passes_letter ds Written token = is_some (written_letter ds token)
passes_letter ds Within token = true

abbrev pub passes_number : Asked → Option (List ℕ) → Bool
passes_number asked None = true
passes_number Form (Some digits) = is_above_one digits
passes_number Known (Some digits) = true
passes_number Written (Some digits) = true
passes_number Within (Some digits) = is_number digits && is_some (number_within integer_limit digits)

abbrev pub is_some_token : Line → Bool
is_some_token [] = false
is_some_token (token ∷ tokens) = true

-- whether there is at least one, and all pass
abbrev pub pass_letters : List Declaration → Asked → Line → Bool
pass_letters ds asked tokens = list_all (passes_letter ds asked) tokens && is_some_token tokens

abbrev pub passes : List Declaration → Asked → TermTokens → Bool
passes ds asked t = passes_number asked t.factor && pass_letters ds asked t.letters

abbrev pub letters_cmp : Option ℕ → Option ℕ → Ordering
letters_cmp (Some a) (Some b) = nat_cmp a b
letters_cmp None b = Equal
letters_cmp (Some a) None = Equal

-- the order of two words, given that of their first letters so far
abbrev pub words_cmp : List Declaration → Ordering → Line → Line → Ordering
words_cmp ds so_far [] [] = so_far
words_cmp ds so_far [] (y ∷ ys) = Less
words_cmp ds so_far (x ∷ xs) [] = Greater
words_cmp ds so_far (x ∷ xs) (y ∷ ys) = words_cmp ds (ordering_then so_far (letters_cmp (letter_of ds x) (letter_of ds y))) xs ys

-- whether the words of the terms descend
abbrev pub descend_behind : List Declaration → TermTokens → List TermTokens → Bool
descend_behind ds t [] = true
descend_behind ds t (u ∷ ts) = is_greater (words_cmp ds Equal t.letters u.letters) && descend_behind ds u ts

abbrev pub descend : List Declaration → List TermTokens → Bool
descend ds [] = true
descend ds (t ∷ ts) = descend_behind ds t ts

-- whether there are at most so many
abbrev pub at_most : {A : Type 0} → ℕ → List A → Bool
at_most n [] = true
at_most n (x ∷ xs) = if n == 0 then false else at_most (n - 1) xs

-- the first flaw; where there is no other, a word is too long
abbrev pub first_flaw : List Declaration → List TermTokens → Flaw
first_flaw ds ts =
    if not (list_all (passes ds Form) ts) then BadLine
    else if not (list_all (passes ds Known) ts) then UnknownName
    else if not (list_all (passes ds Written) ts && descend ds ts) then NotAsWritten
    else if not (list_all (passes ds Within) ts) then NumberTooLarge
    else if not (at_most term_limit ts) then TooMany term_limit
    else TooMany word_limit

-- the polynomial that the tokens of a line spell, or their first flaw
abbrev pub polynomial_of : List Declaration → Line → Result Poly Flaw
polynomial_of ds line = if is_zero line then Ok [] else asked (first_flaw ds (terms_of line)) (poly_behind ds [] (terms_of line))
