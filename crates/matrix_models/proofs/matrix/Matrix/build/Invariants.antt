use Rattle.matrix_models.proofs.Prelude.{◌+◌, ◌*◌}
use Rattle.matrix_models.proofs.Building.{AreBuilt}
use Rattle.matrix_models.proofs.matrix.Matrix.build.Given as goal

-- the entries so far are those of the rows before this one
abbrev pub invariant-loop-row : goal.invariant-loop-row
invariant-loop-row g l =
    AreBuilt l.modulus l.rows l.columns (goal.F-post g l.entry) (l.row * l.columns) l.entries.items

-- and in this row those before the column
abbrev pub invariant-loop-column : goal.invariant-loop-column
invariant-loop-column g l =
    AreBuilt l.modulus l.rows l.columns (goal.F-post g l.entry) (l.row * l.columns + l.column) l.entries.items
