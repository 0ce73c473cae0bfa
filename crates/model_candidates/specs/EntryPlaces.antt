-- At which places the entries of a map stand, for private functions.
use Rattle.std.specs.Prelude.{ℕ, ◌+◌, Bool, not, ◌||◌, nat_le, List, [], ◌∷◌, length, filter, if◌then◌else◌}
use Rattle.std.specs.List.{flat_map, range_with_len}
use Rattle.definitions.specs.Quiver.{Quiver}
use Rattle.adjoint_rules.specs.declared.parts.Shape.{Shape}
use Rattle.model_candidates.specs.Candidates.{Entry, entry, is_declared_map, map_entries}

-- the entries of the declared maps before this number
abbrev pub entries_before : Quiver → Shape → ℕ → List Entry
entries_before q s n = flat_map (map_entries q s) (filter (is_declared_map q) (range_with_len 0 n))

-- whether there is such an entry, where the map is its own adjoint or not
abbrev pub is_kept : Bool → ℕ → ℕ → Bool
is_kept self row column = not self || nat_le row column

abbrev pub piece : ℕ → Bool → ℕ → ℕ → List Entry
piece a self row column = if is_kept self row column then entry a row column ∷ [] else []

-- those of a row before a column, and those before a row
abbrev pub row_pieces : ℕ → Bool → ℕ → ℕ → List Entry
row_pieces a self columns row = flat_map (piece a self row) (range_with_len 0 columns)

abbrev pub pieces : ℕ → Bool → ℕ → ℕ → List Entry
pieces a self columns rows = flat_map (row_pieces a self columns) (range_with_len 0 rows)

-- how many are before its row, and before it in its row
abbrev pub place_within : ℕ → Bool → ℕ → ℕ → ℕ → ℕ
place_within a self columns row column = length (pieces a self columns row) + length (row_pieces a self column row)
