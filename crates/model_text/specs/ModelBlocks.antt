-- The lines of models in evidence text, as tokens.
use Rattle.std.specs.Prelude.{ℕ, ◌∷◌, ◌++◌, ◌&&◌, Bool, List, [], length, nat_eq, nat_lt, nat_le, codes}
use Rattle.std.specs.List.{flat_map, list_all}
use Rattle.std.specs.Str.Parse.{digits_value}
use Rattle.block_text.specs.Letters.{is_name, is_number}
use Rattle.block_text.specs.Lines.{Line}

-- `side NAME S`, or `map NAME = ..` with the numbers of the first row and of the rows after it
pub data EntryTokens : Type 0 where
  side : List ℕ → List ℕ → EntryTokens
  matrix : List ℕ → List (List ℕ) → List (List (List ℕ)) → EntryTokens

-- modulus M
abbrev pub modulus_line : List ℕ → Line
modulus_line m = codes "modulus" ∷ m ∷ []

-- rows, each after a ;
abbrev pub more_rows : List (List (List ℕ)) → Line
more_rows rows = flat_map (λ row. codes ";" ∷ row) rows

-- side NAME S, or map NAME = X .. ; X ..
abbrev pub entry_line : EntryTokens → Line
entry_line (side name number) = codes "side" ∷ name ∷ number ∷ []
entry_line (matrix name first rest) = codes "map" ∷ name ∷ codes "=" ∷ (first ++ more_rows rest)

abbrev pub name_of : EntryTokens → List ℕ
name_of (side name number) = name
name_of (matrix name first rest) = name

-- one or more numbers
abbrev pub is_row : List (List ℕ) → Bool
is_row row = nat_lt 0 (length row) && list_all is_number row

-- a row of so many numbers
abbrev pub is_row_of : ℕ → List (List ℕ) → Bool
is_row_of columns row = is_row row && nat_eq (length row) columns

-- a side that is not 0; a first row, and rows as long as that
abbrev pub is_entry : EntryTokens → Bool
is_entry (side name number) = is_name name && (is_number number && nat_lt 0 (digits_value 10 number))
is_entry (matrix name first rest) = is_name name && (is_row first && list_all (is_row_of (length first)) rest)

-- a number that is at least 2
abbrev pub is_modulus : List ℕ → Bool
is_modulus m = is_number m && nat_le 2 (digits_value 10 m)
