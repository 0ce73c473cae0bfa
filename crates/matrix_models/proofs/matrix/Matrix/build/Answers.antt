use Rattle.matrix_models.proofs.Prelude.{◌≡◌, arith}
use Rattle.matrix_models.proofs.Building.{none_built, row_begun, row_ended, entry_built, matrix_built}
use Rattle.matrix_models.proofs.matrix.Matrix.build.Goals as goal

pub loop-row-init : goal.loop-row-init
loop-row-init g c =
    none_built c.args.modulus c.args.rows c.args.columns (goal.F-post g c.args.entry) c.in_ok-entries.entries.items c.in_ok-entries.ensures.items

pub loop-column-init : goal.loop-column-init
loop-column-init g c =
    row_begun c.args.modulus c.args.rows c.args.columns (goal.F-post g c.args.entry) c.loop-row.row c.loop-row.entries.items c.loop-row.invariant

pub loop-column-preserved : goal.loop-column-preserved
loop-column-preserved g c =
    entry_built c.args.modulus c.args.rows c.args.columns (goal.F-post g c.args.entry) c.loop-row.row c.loop-column.column
    c.loop-column.entries.items c.push.new.self.items c.entry.result c.loop-column.invariant c.in_ok-push.ensures.items
    c.loop-row-test.true c.loop-column-test.true
    (c.requires.below c.loop-row.row c.loop-column.column c.entry.result c.loop-row-test.true c.loop-column-test.true c.entry.ensures) c.entry.ensures

pub loop-row-preserved : goal.loop-row-preserved
loop-row-preserved g c =
    row_ended c.args.modulus c.args.rows c.args.columns (goal.F-post g c.args.entry) c.loop-row.row c.loop-column.column c.loop-column.entries.items
    (omega (arith, c.loop-column.auto.column-end, c.loop-column-test.false)) c.loop-column.invariant

pub returns : goal.returns
returns g c f agrees =
    let all : c.loop-row.row ≡ c.args.rows = omega (arith, c.loop-row.auto.row-end, c.loop-row-test.false) in
    matrix_built c.args.modulus c.args.rows c.args.columns c.loop-row.row (goal.F-post g c.args.entry) f c.loop-row.entries.items all
    c.loop-row.invariant agrees
