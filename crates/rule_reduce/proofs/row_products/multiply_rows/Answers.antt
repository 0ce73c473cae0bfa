use Rattle.rule_reduce.proofs.Prelude.{rules, ◌≡◌, ◌<◌, ◌≤◌, ◌++◌, ◌*ℤ◌, List, map, take, drop, get_or, length, Some, ap, ◌∙◌, arith, drop_all, All-set, IsCoefficient, first_overflow, product_of, Row, multiplied_row, row_operations}
use Rattle.rule_reduce.proofs.RowLists.{written_more, all_written, still_there, none_before, overflow_at}
use Rattle.rule_reduce.proofs.row_products.multiply_rows.Goals as goal

pub returns-in_err-row-clause-exact : goal.returns-in_err-row-clause-exact
returns-in_err-row-clause-exact c =
    let xs = c.args.rows in
    let ys = c.loop-row.row-items in
    let i = c.loop-row.row-index in
    let row = c.row-item.result in
    let so_far : ys ≡ map (multiplied_row c.args.by) (take i xs) ++ drop i xs = search rules in
    let none_yet : first_overflow (row_operations xs c.args.by) ≡ first_overflow (row_operations (drop i xs) c.args.by) = search rules in
    let here : row ≡ get_or ys i row = search rules in
    let below : i < length xs = search rules in
    let is = still_there (multiplied_row c.args.by) xs ys i row below so_far here in
    let too_large : IsCoefficient (row.coef *ℤ c.args.by) → ⊥ = search rules in
    let at = overflow_at (λ (r : Row). r.coef) xs i row c.args.by below is too_large in
    let first : first_overflow (row_operations xs c.args.by) ≡ Some (product_of row.coef c.args.by) = none_yet ∙ at in
    search (rules, first)

pub loop-row-preserved : goal.loop-row-preserved
loop-row-preserved c =
    let xs = c.args.rows in
    let ys = c.loop-row.row-items in
    let i = c.loop-row.row-index in
    let row = c.row-item.result in
    let so_far : ys ≡ map (multiplied_row c.args.by) (take i xs) ++ drop i xs = search rules in
    let none_yet : first_overflow (row_operations xs c.args.by) ≡ first_overflow (row_operations (drop i xs) c.args.by) = search rules in
    let here : row ≡ get_or ys i row = search rules in
    let below : i < length xs = search rules in
    let more = written_more (multiplied_row c.args.by) xs ys i row (multiplied_row c.args.by row) below so_far here (λ _. multiplied_row c.args.by row) in
    let is = still_there (multiplied_row c.args.by) xs ys i row below so_far here in
    let fits : IsCoefficient (row.coef *ℤ c.args.by) = search rules in
    let none = none_yet ∙ none_before (λ (r : Row). r.coef) xs i row c.args.by below is fits in
    record {
      so_far = search (rules, more);
      in_range = All-set (λ (r : Row). IsCoefficient r.coef) ys i _ (search rules) c.loop-row.invariant.in_range;
      none_yet = search (rules, none);
    }

pub returns-clause-exact : goal.returns-clause-exact
returns-clause-exact c =
    let xs = c.args.rows in
    let i = c.loop-row.row-index in
    let so_far : c.loop-row.row-items ≡ map (multiplied_row c.args.by) (take i xs) ++ drop i xs = search rules in
    let none_yet : first_overflow (row_operations xs c.args.by) ≡ first_overflow (row_operations (drop i xs) c.args.by) = search rules in
    let most : length c.loop-row.row-items ≤ i = omega (arith, c.loop-row-test.false) in
    let all = all_written (multiplied_row c.args.by) xs c.loop-row.row-items i so_far most in
    none_yet ∙ ap (λ (rows : List Row). first_overflow (row_operations rows c.args.by)) (drop_all i xs all)
