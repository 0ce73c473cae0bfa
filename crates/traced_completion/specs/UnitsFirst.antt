-- The order in which round 0 takes the generators.
use Rattle.std.specs.Prelude.{ℕ, suc, ◌-◌, List, ◌++◌}
use Rattle.std.specs.List.{range_with_len}

-- of this many generators, the numbers of the relations of identities, which are the last, and then those of the others
abbrev pub units_first : ℕ → ℕ → List ℕ
units_first units count = range_with_len (suc (count - units)) units ++ range_with_len 1 (count - units)
