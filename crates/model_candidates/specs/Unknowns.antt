-- Which entries of a shape are solved for, and the values of all entries that values of these make, for private functions.
use Rattle.std.specs.Prelude.{ℕ, zero, suc, Bool, true, false, nat_eq, List, [], ◌∷◌, length, map, replicate, if◌then◌else◌}
use Rattle.std.specs.List.{range_with_len}
use Rattle.definitions.specs.Quiver.{Quiver}
use Rattle.word_core.specs.declared.letter.Letter.{Letter}
use Rattle.adjoint_rules.specs.declared.parts.Shape.{Shape}
use Rattle.model_candidates.specs.Candidates.{entries_of, is_solved_map}

-- for each entry, whether its map is solved for
abbrev pub solved_flags : Quiver → Shape → List Letter → List Bool
solved_flags q s solved = map (λ x. is_solved_map solved x.map) (entries_of q s)

-- how many are
abbrev pub set_count : List Bool → ℕ
set_count [] = zero
set_count (false ∷ flags) = set_count flags
set_count (true ∷ flags) = suc (set_count flags)

-- the drawn values, with these in their order where the flag is set
abbrev pub filled : List Bool → List ℕ → List ℕ → List ℕ
filled [] drawn values = []
filled (flag ∷ flags) [] values = []
filled (false ∷ flags) (d ∷ drawn) values = d ∷ filled flags drawn values
filled (true ∷ flags) (d ∷ drawn) [] = d ∷ filled flags drawn []
filled (true ∷ flags) (d ∷ drawn) (x ∷ values) = x ∷ filled flags drawn values

-- the values where the flag is set
abbrev pub picked : List Bool → List ℕ → List ℕ
picked [] values = []
picked (flag ∷ flags) [] = []
picked (false ∷ flags) (x ∷ values) = picked flags values
picked (true ∷ flags) (x ∷ values) = x ∷ picked flags values

-- 1 at one place, and 0 at all others
abbrev pub unit_values : ℕ → ℕ → List ℕ
unit_values count place = map (λ k. if nat_eq k place then 1 else 0) (range_with_len 0 count)

-- for each entry the number of its unknown, counted from 0, and that of all unknowns where it isn't solved for
abbrev pub unknown_numbers : List Bool → List ℕ
unknown_numbers flags = let n = set_count flags in filled flags (replicate (length flags) n) (range_with_len 0 n)
