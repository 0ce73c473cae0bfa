-- The tokens that spell letters and numbers.
use Rattle.std.specs.Prelude.{ℕ, ◌-◌, ◌==◌, ◌&&◌, ◌||◌, Bool, true, false, List, [], ◌∷◌, length, take, drop, nat_eq, nat_le, nat_lt, ℤ}
use Rattle.std.specs.Prelude.{pos, neg_ℤ, Option, Some, None, is_some, if◌then◌else◌, codes}
use Rattle.std.specs.Char.{is_ascii_digit}
use Rattle.std.specs.List.{list_all, ends_with, starts_with}
use Rattle.std.specs.Option.{option_map, option_and_then}
use Rattle.std.specs.Str.{chars, is_utf8}
use Rattle.std.specs.Str.Parse.{digits_value}
use Rattle.unicode_ident.specs.Ident.{is_xid_start, is_xid_continue}
use Rattle.definitions.specs.Quiver.{star}
use Rattle.statement_tokens.specs.Limits.{name_limit}
use Rattle.quiver.specs.declared.named.Named.{Named}
use Rattle.quiver.specs.declared.named.Named.TheVariants.{Object, Map}
use Rattle.quiver.specs.Declarations.{Declaration, named_in, identity_in, quiver_of}

-- whether a name may start with the character, and whether the text starts with such a one
abbrev pub starts_name : ℕ → Bool
starts_name c = is_xid_start c || (c == 95)

abbrev pub begins_name : List ℕ → Bool
begins_name [] = false
begins_name (c ∷ cs) = starts_name c

-- at most so many bytes as the limit, of a character that starts a name and characters that continue it
abbrev pub is_name : List ℕ → Bool
is_name token = nat_le (length token) name_limit && (is_utf8 token && (begins_name (chars token) && list_all is_xid_continue (drop 1 (chars token))))

-- the token, if it is a name
abbrev pub name_in : List ℕ → Option (List ℕ)
name_in token = if is_name token then Some token else None

-- letters: NAME, [NAME], NAME' or [NAME]'
pub record Spelled : Type 0 where
  pub name : List ℕ
  -- whether the name is in square brackets
  pub identity : Bool
  -- whether a ' follows it
  pub adjoint : Bool

-- a name that was in square brackets or not, before a ' or not
abbrev pub named_by : Bool → Bool → List ℕ → Option Spelled
named_by identity adjoint token = option_map (λ name. record { name = name; identity = identity; adjoint = adjoint }) (name_in token)

-- the brackets are removed
abbrev pub without_brackets : Bool → List ℕ → Option Spelled
without_brackets adjoint token =
    if starts_with nat_eq token (codes "[") && ends_with nat_eq token (codes "]") then named_by true adjoint (take (length token - 2) (drop 1 token))
    else named_by false adjoint token

-- the ' is removed
abbrev pub spelled_by : List ℕ → Option Spelled
spelled_by token =
    if ends_with nat_eq token (codes "'") then without_brackets true (take (length token - 1) token)
    else without_brackets false token

-- whether the token spells a letter of some quiver
abbrev pub is_letter : List ℕ → Bool
is_letter token = is_some (spelled_by token)

-- the letter of what a name stands for: an object has one in square brackets, a map has one without
abbrev pub letter_named : List Declaration → Bool → Named → Option ℕ
letter_named ds true (Object v) = Some (identity_in ds v.0)
letter_named ds false (Object v) = None
letter_named ds true (Map a) = None
letter_named ds false (Map a) = Some a.0

-- the adjoint of the letter, or the letter
abbrev pub starred : List Declaration → Bool → ℕ → ℕ
starred ds adjoint a = if adjoint then star (quiver_of ds) a else a

-- the letter that a token spells
abbrev pub letter_of : List Declaration → List ℕ → Option ℕ
letter_of ds token =
    option_and_then (λ spelled. option_map (starred ds spelled.adjoint) (option_and_then (letter_named ds spelled.identity) (named_in ds spelled.name)))
    (spelled_by token)

-- the letters that the tokens spell, if each spells one
abbrev pub word_of : List Declaration → List (List ℕ) → Option (List ℕ)
word_of ds [] = Some []
word_of ds (token ∷ tokens) = option_and_then (λ a. option_map (λ w. a ∷ w) (word_of ds tokens)) (letter_of ds token)

-- one or more decimal digits
abbrev pub is_number : List ℕ → Bool
is_number token = nat_lt 0 (length token) && list_all is_ascii_digit token

-- the value, if it is at most this
abbrev pub number_within : ℕ → List ℕ → Option ℕ
number_within most digits = if nat_le (digits_value 10 digits) most then Some (digits_value 10 digits) else None

abbrev pub is_negative : List ℕ → Bool
is_negative [] = false
is_negative (c ∷ cs) = c == 45

-- the token without its leading -
abbrev pub digits_of : List ℕ → List ℕ
digits_of token = if is_negative token then drop 1 token else token

-- a number, or a - and a number
abbrev pub is_integer : List ℕ → Bool
is_integer token = is_number (digits_of token)

abbrev pub signed : Bool → ℕ → ℤ
signed negative n = if negative then neg_ℤ (pos n) else pos n

-- the value, if its absolute value is at most this
abbrev pub integer_within : ℕ → List ℕ → Option ℤ
integer_within most token = option_map (signed (is_negative token)) (number_within most (digits_of token))
