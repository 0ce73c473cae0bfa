-- Where the values of the entries stand in the matrices of letters, for private functions.
use Rattle.std.specs.Prelude.{◌≡◌, ℕ, ◌+◌, ◌*◌, ◌<◌, ◌≤◌, nat_lt, List, length, map, get_or, Option, Some, None, if◌then◌else◌}
use Rattle.std.specs.List.{All, range_with_len}
use Rattle.definitions.specs.Quiver.{Quiver, letters, source, target}
use Rattle.adjoint_rules.specs.Limits.{shape_side_limit}
use Rattle.adjoint_rules.specs.declared.parts.Shape.{Shape}
use Rattle.model_candidates.specs.declared.letter_tables.LetterTable.{LetterTable}
use Rattle.model_candidates.specs.Candidates.{entries_of, side_in}
use Rattle.model_candidates.specs.LetterNumbers.{letter_values}

-- the numbers of the entries, in their order
abbrev pub entry_numbers : Quiver → Shape → List ℕ
entry_numbers q s = range_with_len 0 (length (entries_of q s))

-- the table of a letter's matrix: an identity has none
abbrev pub letter_table : Quiver → Shape → ℕ → Option LetterTable
letter_table q s a =
    if nat_lt a q.objects then None
    else Some (record { rows = side_in s (target q a); columns = side_in s (source q a); places = letter_values q s (entry_numbers q s) a })

-- for each letter
abbrev pub letter_tables : Quiver → Shape → List (Option LetterTable)
letter_tables q s = map (letter_table q s) (range_with_len 0 (letters q))

-- the value in row i and column j by the table
abbrev pub value_in_table : List ℕ → LetterTable → ℕ → ℕ → ℕ
value_in_table values t i j = get_or values (get_or t.places (i * t.columns + j) 0) 0

-- The table has small sides, and for each place in it one of so many values.
pub record IsTable (count : ℕ) (t : LetterTable) : Type 0 where
  pub few_rows : t.rows ≤ shape_side_limit
  pub few_columns : t.columns ≤ shape_side_limit
  pub one_each : length t.places ≡ t.rows * t.columns
  pub below : All (λ place. place < count) t.places
