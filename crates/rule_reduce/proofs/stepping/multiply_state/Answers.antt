use Rattle.rule_reduce.proofs.Prelude.{rules, ◌≡◌, ◌*ℤ◌, pos, map, Ok, Err, Some, None, sym, ap, ◌∙◌, subst, IsCoefficient, first_overflow, multiplied, multiplications, checked, unless_overflow, Explains, multiplied_row, row_operations, multiplied_state, state_operations, products_by, with_rows, IsBounded, Shows}
use Rattle.nc_polynomial.specs.declared.fault.PolyFault.TheVariants as fault
use Rattle.rule_reduce.proofs.Exits.{one_checked, state-times-one, exit_rest, exit_rows, all_multiplied, canonical_multiply}
use Rattle.rule_reduce.proofs.ShownStates.{shown_in_range, overflow_is}
use Rattle.rule_reduce.proofs.stepping.multiply_state.Goals as goal

pub returns-then-by-eq1-clause-exact : goal.returns-then-by-eq1-clause-exact
returns-then-by-eq1-clause-exact g c = λ rows kept.
    let s = with_rows c.args.state rows in
    let one : c.args.by ≡ pos 1 = search rules in
    let in_range = shown_in_range g.S.RowStore.of g.S.RowStore.numbers g.met.S.RowStore.of_rows c.args.state rows kept c.requires.in_range in
    record { rows = rows; kept = kept; is = ap (λ k. checked (state_operations k s) (multiplied_state k s)) one ∙ state-times-one s in_range }

pub returns-in_err-rest-clause-exact : goal.returns-in_err-rest-clause-exact
returns-in_err-rest-clause-exact g c = λ rows kept.
    let by = c.args.by in
    let s = with_rows c.args.state rows in
    let x = c.in-Ok.product in
    let first = one_checked s.multiplier by x (search rules) (search rules) in
    let e = c.in_err-rest.field-0.0 in
    let why : Explains (checked (multiplications s.rest by) (multiplied s.rest by)) e = search rules in
    let back : c.from_residual.result ≡ Err e = search rules in
    rw back (exit_rest by s x first e why)

pub returns-in_err-rows-clause-exact : goal.returns-in_err-rows-clause-exact
returns-in_err-rows-clause-exact g c = λ rows kept.
    let by = c.args.by in
    let s = with_rows c.args.state rows in
    let x = c.in-Ok.product in
    let first = one_checked s.multiplier by x (search rules) (search rules) in
    let p = c.in_ok-rest.rest in
    let second : checked (multiplications s.rest by) (multiplied s.rest by) ≡ Ok p = search rules in
    let o = c.in_err-rows.field-0.0 in
    let told : first_overflow (products_by by (g.S.RowStore.numbers c.args.state.rows)) ≡ Some o = search rules in
    let at : first_overflow (row_operations rows by) ≡ Some o = sym (overflow_is g.S.RowStore.of g.S.RowStore.numbers g.met.S.RowStore.of_rows c.args.state rows kept by) ∙ told in
    let why : checked (row_operations rows by) (map (multiplied_row by) rows) ≡ Err (fault.Overflow o) =
    ap (λ f. unless_overflow f (Ok (map (multiplied_row by) rows))) at in
    let back : c.from_residual-in_err-rows.result ≡ Err (fault.Overflow o) = search rules in
    rw back (exit_rows by s x first p second (fault.Overflow o) why)

pub returns-clause-in_range : goal.returns-clause-in_range
returns-clause-in_range g c =
    let by = c.args.by in
    let s = c.args.state in
    let same : c.in-Ok.product ≡ s.multiplier *ℤ by = search rules in
    let fits : IsCoefficient (s.multiplier *ℤ by) = search rules in
    let p = c.in_ok-rest.rest in
    let second : checked (multiplications s.rest by) (multiplied s.rest by) ≡ Ok p = search rules in
    let whole : IsBounded g.S.RowStore.numbers (record { multiplier = c.in-Ok.product; rest = p; rows = c.in_ok-rows.rows; used = s.used }) =
    record { multiplier = subst IsCoefficient (sym same) fits; rest = canonical_multiply s.rest by p c.requires.in_range.rest second; rows = c.in_ok-rows.ensures.in_range } in
    search (rules, whole)

pub returns-clause-exact : goal.returns-clause-exact
returns-clause-exact g c = λ rows kept.
    let by = c.args.by in
    let s = with_rows c.args.state rows in
    let x = c.in-Ok.product in
    let first = one_checked s.multiplier by x (search rules) (search rules) in
    let p = c.in_ok-rest.rest in
    let second : checked (multiplications s.rest by) (multiplied s.rest by) ≡ Ok p = search rules in
    let told : first_overflow (products_by by (g.S.RowStore.numbers c.args.state.rows)) ≡ None = search rules in
    let none : first_overflow (row_operations rows by) ≡ None = sym (overflow_is g.S.RowStore.of g.S.RowStore.numbers g.met.S.RowStore.of_rows c.args.state rows kept by) ∙ told in
    let third : checked (row_operations rows by) (map (multiplied_row by) rows) ≡ Ok (map (multiplied_row by) rows) =
    ap (λ f. unless_overflow f (Ok (map (multiplied_row by) rows))) none in
    let stored : c.in_ok-rows.rows ≡ g.S.RowStore.of (map (multiplied_row by) rows) = search (rules, c.in_ok-rows.ensures.kept rows kept) in
    let whole : Shows g.S.RowStore.of (checked (state_operations by s) (multiplied_state by s)) (record { multiplier = x; rest = p; rows = c.in_ok-rows.rows; used = s.used }) =
    record { rows = map (multiplied_row by) rows; kept = stored; is = all_multiplied by s x first p second (map (multiplied_row by) rows) third } in
    search (rules, whole)
