-- The values in the matrices of letters, and the numbers of the unknowns of those that are solved for, for private functions.
use Rattle.std.specs.Prelude.{ℕ, ◌*◌, ◌/◌, ◌%◌, nat_le, List, map, Option, Some, None, if◌then◌else◌}
use Rattle.std.specs.List.{range_with_len}
use Rattle.definitions.specs.Quiver.{Quiver, letters, source, target, star}
use Rattle.word_core.specs.declared.letter.Letter.{Letter}
use Rattle.adjoint_rules.specs.declared.parts.Shape.{Shape}
use Rattle.model_candidates.specs.Candidates.{side_in, value_of_entry, entry_shown, is_solved}
use Rattle.model_candidates.specs.Unknowns.{solved_flags, unknown_numbers}

-- the map, where the letter is the adjoint of one
abbrev pub map_behind : Quiver → ℕ → ℕ
map_behind q a = if nat_le a (star q a) then a else star q a

-- the value in this row and column of the letter's matrix: that of an adjoint is the transpose of its map's
abbrev pub letter_value : Quiver → Shape → List ℕ → ℕ → ℕ → ℕ → ℕ
letter_value q s values a row column =
    if nat_le a (star q a) then value_of_entry q s values (entry_shown q a row column)
    else value_of_entry q s values (entry_shown q (star q a) column row)

-- all of them, row by row
abbrev pub letter_values : Quiver → Shape → List ℕ → ℕ → List ℕ
letter_values q s values a =
    let columns = side_in s (source q a) in
    map (λ place. letter_value q s values a (place / columns) (place % columns)) (range_with_len 0 (side_in s (target q a) * columns))

-- the number of the unknown in this row and column of the matrix of a solved letter
abbrev pub number_at : Quiver → Shape → List Letter → ℕ → ℕ → ℕ → ℕ
number_at q s solved a row column = letter_value q s (unknown_numbers (solved_flags q s solved)) a row column

-- all numbers of a solved letter's matrix
abbrev pub letter_numbers : Quiver → Shape → List Letter → ℕ → Option (List ℕ)
letter_numbers q s solved a = if is_solved q solved a then Some (letter_values q s (unknown_numbers (solved_flags q s solved)) a) else None

-- for each letter
abbrev pub numbers_of_letters : Quiver → Shape → List Letter → List (Option (List ℕ))
numbers_of_letters q s solved = map (letter_numbers q s solved) (range_with_len 0 (letters q))
