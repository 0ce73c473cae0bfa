-- The limit of the steps of a reduction in checking a basis.
use Rattle.std.specs.Prelude.{ℕ}

-- the steps of one reduction; a definition that unfolded would make each proof about a reduction count them
unfoldable pub step_limit : ℕ
step_limit = 1000000
