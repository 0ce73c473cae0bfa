-- The tokens of a line. Blanks and tabs separate, ( ) ; = are tokens of their own, and every other run of characters is one.
use Rattle.std.specs.Prelude.{ℕ, ◌==◌, ◌||◌, Bool, true, false, not, List, [], ◌∷◌, Option, Some, None, if◌then◌else◌}
use Rattle.std.specs.List.{onto_first, prefix_len}
use Rattle.std.specs.Option.{option_map}

-- a blank or a tab
abbrev pub is_gap : ℕ → Bool
is_gap c = (c == 32) || (c == 9)

-- the end of a line
abbrev pub is_line_end : ℕ → Bool
is_line_end c = c == 10

-- ( ) ; =
abbrev pub is_sign : ℕ → Bool
is_sign c = (c == 40) || (c == 41) || (c == 59) || (c == 61)

abbrev pub is_plain : ℕ → Bool
is_plain c = not (is_gap c || is_sign c)

-- whether the text begins with a character of a run
abbrev pub goes_on : List ℕ → Bool
goes_on [] = false
goes_on (c ∷ cs) = is_plain c

abbrev pub tokens_of : List ℕ → List (List ℕ)
tokens_of [] = []
tokens_of (c ∷ cs) =
    if is_gap c then tokens_of cs
    else if is_sign c || not (goes_on cs) then (c ∷ []) ∷ tokens_of cs
    else onto_first c (tokens_of cs)

-- how many characters the first token has, or 0
abbrev pub token_len : List ℕ → ℕ
token_len [] = 0
token_len (c ∷ cs) = if is_sign c then 1 else prefix_len is_plain (c ∷ cs)

-- the token of a line that has one
abbrev pub one_token : List (List ℕ) → Option (List ℕ)
one_token [] = None
one_token (token ∷ []) = Some token
one_token (token ∷ other ∷ tokens) = None

-- the tokens of a line that has two
abbrev pub two_tokens : List (List ℕ) → Option (List ℕ × List ℕ)
two_tokens [] = None
two_tokens (first ∷ tokens) = option_map (λ second. (first, second)) (one_token tokens)

-- whether the character is a closing bracket
abbrev pub is_closing : ℕ → Bool
is_closing c = c == 41

-- whether the first character is #
abbrev pub begins_comment : List ℕ → Bool
begins_comment [] = false
begins_comment (c ∷ cs) = c == 35

-- whether the line is blank or a comment
abbrev pub is_skipped : List (List ℕ) → Bool
is_skipped [] = true
is_skipped (token ∷ tokens) = begins_comment token
