use Rattle.rule_reduce.proofs.Prelude.{rules, ◌≡◌, ◌<◌, ◌≤◌, ◌++◌, ◌*ℤ◌, ℤ, List, pos, map, take, drop, get_or, length, Some, ap, ◌∙◌, arith, drop_all, get_or_default, All-set, IsCoefficient, first_overflow, product_of, products_by}
use Rattle.rule_reduce.proofs.RowLists.{written_more, all_written, still_there, none_before, overflow_at}
use Rattle.rule_reduce.proofs.row_products.multiply_numbers.Goals as goal

pub returns-in_err-number-clause-exact : goal.returns-in_err-number-clause-exact
returns-in_err-number-clause-exact c =
    let xs = c.args.numbers in
    let ys = c.loop-number.number-items in
    let i = c.loop-number.number-index in
    let row = get_or ys i (pos 0) in
    let so_far : ys ≡ map (λ z. z *ℤ c.args.by) (take i xs) ++ drop i xs = search rules in
    let none_yet : first_overflow (products_by c.args.by xs) ≡ first_overflow (products_by c.args.by (drop i xs)) = search rules in
    let below : i < length xs = search rules in
    let here : row ≡ get_or ys i row = get_or_default ys i (pos 0) row (search rules) in
    let is = still_there (λ z. z *ℤ c.args.by) xs ys i row below so_far here in
    let too_large : IsCoefficient (row *ℤ c.args.by) → ⊥ = search rules in
    let at = overflow_at (λ z. z) xs i row c.args.by below is too_large in
    let first : first_overflow (products_by c.args.by xs) ≡ Some (product_of row c.args.by) = none_yet ∙ at in
    search (rules, first)

pub loop-number-preserved : goal.loop-number-preserved
loop-number-preserved c =
    let xs = c.args.numbers in
    let ys = c.loop-number.number-items in
    let i = c.loop-number.number-index in
    let row = get_or ys i (pos 0) in
    let so_far : ys ≡ map (λ z. z *ℤ c.args.by) (take i xs) ++ drop i xs = search rules in
    let none_yet : first_overflow (products_by c.args.by xs) ≡ first_overflow (products_by c.args.by (drop i xs)) = search rules in
    let below : i < length xs = search rules in
    let here : row ≡ get_or ys i row = get_or_default ys i (pos 0) row (search rules) in
    let more = written_more (λ z. z *ℤ c.args.by) xs ys i row (row *ℤ c.args.by) below so_far here (λ _. row *ℤ c.args.by) in
    let is = still_there (λ z. z *ℤ c.args.by) xs ys i row below so_far here in
    let fits : IsCoefficient (row *ℤ c.args.by) = search rules in
    let none = none_yet ∙ none_before (λ z. z) xs i row c.args.by below is fits in
    record {
      so_far = search (rules, more);
      in_range = All-set IsCoefficient ys i _ (search rules) c.loop-number.invariant.in_range;
      none_yet = search (rules, none);
    }

pub returns-clause-exact : goal.returns-clause-exact
returns-clause-exact c =
    let xs = c.args.numbers in
    let i = c.loop-number.number-index in
    let so_far : c.loop-number.number-items ≡ map (λ z. z *ℤ c.args.by) (take i xs) ++ drop i xs = search rules in
    let none_yet : first_overflow (products_by c.args.by xs) ≡ first_overflow (products_by c.args.by (drop i xs)) = search rules in
    let most : length c.loop-number.number-items ≤ i = omega (arith, c.loop-number-test.false) in
    let all = all_written (λ z. z *ℤ c.args.by) xs c.loop-number.number-items i so_far most in
    none_yet ∙ ap (λ (rows : List ℤ). first_overflow (products_by c.args.by rows)) (drop_all i xs all)
