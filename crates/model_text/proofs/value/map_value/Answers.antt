use Rattle.model_text.proofs.Prelude.{◌<◌, ◌≤◌, ◌+◌, ◌*◌, ◌∙◌, arith, sym, ap, ap₂, subst, length, All, tokens_of, rows_behind, line_in}
use Rattle.model_text.proofs.Values.{row_values, rows_fit}
use Rattle.model_text.proofs.value.map_value.Goals as goal

pub overflow_add-rows : goal.overflow_add-rows
overflow_add-rows c =
    let some : 1 ≤ c.args.modulus = omega (arith, c.requires.modulus.at_least) in
    let found = row_values c.args.modulus (tokens_of c.args.first.now) (rows_behind (line_in c.args.rest)) c.in_ok-values.values.items some c.requires.rows c.in_ok-values.ensures in
    let fits = rows_fit (tokens_of c.args.first.now) (rows_behind (line_in c.args.rest)) (length c.in_ok-values.values.items) c.requires.rows found.count in
    omega (arith, fits, c.rows_left-rows.ensures, c.in_ok-values.values.ok.0, c.in_ok-values.values.small)

pub matrix_made-requires-clause-count : goal.matrix_made-requires-clause-count
matrix_made-requires-clause-count c =
    let some : 1 ≤ c.args.modulus = omega (arith, c.requires.modulus.at_least) in
    let found = row_values c.args.modulus (tokens_of c.args.first.now) (rows_behind (line_in c.args.rest)) c.in_ok-values.values.items some c.requires.rows c.in_ok-values.ensures in
    ap length c.deref.ensures.value ∙ found.count ∙ ap₂ (λ h w. (h + 1) * w) (sym c.rows_left-rows.ensures) (sym c.row_length.ensures)

pub matrix_made-requires-clause-below : goal.matrix_made-requires-clause-below
matrix_made-requires-clause-below c =
    let some : 1 ≤ c.args.modulus = omega (arith, c.requires.modulus.at_least) in
    let found = row_values c.args.modulus (tokens_of c.args.first.now) (rows_behind (line_in c.args.rest)) c.in_ok-values.values.items some c.requires.rows c.in_ok-values.ensures in
    subst (All (λ value. value < c.args.modulus)) (sym c.deref.ensures.value) found.below
