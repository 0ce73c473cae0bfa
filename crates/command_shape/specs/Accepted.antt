-- The options of the accepted lists of words.
use Rattle.std.specs.Prelude.{◌≡◌, ◌≢◌, ◌≤◌, ◌⊎◌, ⊤, Bool, true, false, ℕ, List, [], ◌∷◌, Option, Some, None, decimal, find}
use Rattle.std.specs.Str.{bytes_eq}
use Rattle.clap.specs.Words.{Text}

-- an option as it is given
pub data Given : Type 0 where
  number : Text → ℕ → Given
  flag : Text → Given

abbrev pub given_id : Given → Text
given_id (number id n) = id
given_id (flag id) = id

-- `--id N`, two words, the number in plain decimal digits; `--id`
abbrev pub given_words : Given → List Text
given_words (number id n) = (45 ∷ 45 ∷ id) ∷ decimal n ∷ []
given_words (flag id) = (45 ∷ 45 ∷ id) ∷ []

-- not empty, and the first byte is not `-`
abbrev pub IsFileWord : Text → Type 0
IsFileWord [] = ⊥
IsFileWord (x ∷ xs) = x ≢ 45

-- the numbers that an option takes
pub record Span : Type 0 where
  pub id : Text
  pub least : ℕ
  pub most : ℕ

-- the option is one of these, and its number is in range
abbrev pub IsAllowed : List Span → List Text → Given → Type 0
IsAllowed [] [] g = ⊥
IsAllowed [] (id ∷ flags) g = (g ≡ flag id) ⊎ IsAllowed [] flags g
IsAllowed (s ∷ spans) flags g = ((n : ℕ) × (g ≡ number s.id n) × (s.least ≤ n) × (n ≤ s.most)) ⊎ IsAllowed spans flags g

-- no option of the list has this name
abbrev pub IsNotGiven : Text → List Given → Type 0
IsNotGiven id [] = ⊤
IsNotGiven id (g ∷ given) = (given_id g ≢ id) × IsNotGiven id given

-- each is allowed, and each is given once
abbrev pub AreOptions : List Span → List Text → List Given → Type 0
AreOptions spans flags [] = ⊤
AreOptions spans flags (g ∷ given) = IsAllowed spans flags g × IsNotGiven (given_id g) given × AreOptions spans flags given

-- the option of this name
abbrev pub option_of : Text → List Given → Option Given
option_of id given = find (λ g. bytes_eq (given_id g) id) given

-- its number, or the default
abbrev pub number_or : ℕ → Option Given → ℕ
number_or default (Some (number id n)) = n
number_or default (Some (flag id)) = default
number_or default None = default

abbrev pub is_flag : Option Given → Bool
is_flag (Some (flag id)) = true
is_flag (Some (number id n)) = false
is_flag None = false
