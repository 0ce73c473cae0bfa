use Rattle.traced_completion.proofs.Prelude.{rules, ◌≡◌, ◌++◌, map, None, Some, Ok, Err, sym, ap, ◌∙◌, first_overflow, Memory, multiplied_row, row_operations, unless_overflow, less_rows}
use Rattle.traced_completion.proofs.second_reduction.subtract_rows.Goals as goal

pub returns-in_ok-join_rows-in-Ok-clause-exact : goal.returns-in_ok-join_rows-in-Ok-clause-exact
returns-in_ok-join_rows-in-Ok-clause-exact c =
    let none : first_overflow (row_operations c.args.rows c.args.by) ≡ None = search rules in
    let value : c.in-Ok.multiplied ≡ map (multiplied_row c.args.by) c.args.rows = search rules in
    ap (λ o. unless_overflow o (less_rows c.args.rows c.args.by c.args.taken)) none
    ∙ ap Ok (sym (c.in_ok-join_rows-in-Ok.ensures ∙ ap (λ rows. rows ++ c.negate_rows.result) value ∙ ap (λ rows. map (multiplied_row c.args.by) c.args.rows ++ rows) c.negate_rows.ensures.exact))

pub returns-in-Err-clause-exact : goal.returns-in-Err-clause-exact
returns-in-Err-clause-exact c =
    let first : first_overflow (row_operations c.args.rows c.args.by) ≡ Some c.in-Err.overflow = search rules in
    ap (λ o. unless_overflow o (less_rows c.args.rows c.args.by c.args.taken)) first

pub returns-in_err-join_rows-in-Ok-clause-exact : goal.returns-in_err-join_rows-in-Ok-clause-exact
returns-in_err-join_rows-in-Ok-clause-exact c =
    let back : c.from_residual.result ≡ Err (Memory c.in_err-join_rows-in-Ok.field-0.0) = search rules in
    rw back tt

pub returns-in_err-join_rows-in-Ok-clause-in_range : goal.returns-in_err-join_rows-in-Ok-clause-in_range
returns-in_err-join_rows-in-Ok-clause-in_range c =
    let back : c.from_residual.result ≡ Err (Memory c.in_err-join_rows-in-Ok.field-0.0) = search rules in
    rw back tt
