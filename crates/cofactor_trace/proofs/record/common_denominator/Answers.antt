use Rattle.cofactor_trace.proofs.Prelude.{rules, ◌≡◌, ◌+◌, ◌∷◌, [], pos, int_div, drop, Some, None, Err, sym, ap, ◌∙◌, arith, drop_all, option_map, IsCoefficient, product_of, first_overflow, drop_next, first-fits, gcd_of, lcm_of, multiple_products, denominators, common_multiple, overflow_in, known_from}
use Rattle.cofactor_trace.specs.declared.fault.ExpandFault.TheVariants as fault
use Rattle.cofactor_trace.proofs.Operations.{first-before}
use Rattle.cofactor_trace.proofs.record.common_denominator.Goals as goal

pub returns-in_err-common-clause-exact : goal.returns-in_err-common-clause-exact
returns-in_err-common-clause-exact c =
    let known = known_from c.args.expansions.now.entries in
    let rows = c.args.rows.now in
    let i = c.loop-row.row-index in
    let row = c.row-item.result in
    let old = c.loop-row.common in
    let d = (known row.from).denominator in
    let o = c.in_err-common.field-0.0 in
    let next = drop_next rows i row c.loop-row-test.true c.row-item.is in
    let d_is : c.denominator_of.result ≡ d = search rules in
    let stopped : first_overflow (multiple_products old (d ∷ [])) ≡ Some o = search (rules, d_is) in
    let so_far : first_overflow (multiple_products old (denominators known (drop i rows))) ≡ first_overflow (multiple_products (pos 1) (denominators known rows)) = search rules in
    let back : c.from_residual.result ≡ Err (fault.Overflow o) = search rules in
    rw back (ap (option_map fault.Overflow) (sym so_far ∙ ap (λ l. first_overflow (multiple_products old (denominators known l))) next
    ∙ first-before (multiple_products old (d ∷ [])) (multiple_products (lcm_of old d) (denominators known (drop (i + 1) rows))) o stopped))

pub loop-row-preserved : goal.loop-row-preserved
loop-row-preserved c =
    let known = known_from c.args.expansions.now.entries in
    let rows = c.args.rows.now in
    let i = c.loop-row.row-index in
    let row = c.row-item.result in
    let old = c.loop-row.common in
    let d = (known row.from).denominator in
    let next = drop_next rows i row c.loop-row-test.true c.row-item.is in
    let d_is : c.denominator_of.result ≡ d = search rules in
    let new_is : c.in_ok-common.common ≡ lcm_of old d = search rules in
    let fits : IsCoefficient (lcm_of old d) = search (rules, new_is) in
    let products_so_far : first_overflow (multiple_products old (denominators known (drop i rows))) ≡ first_overflow (multiple_products (pos 1) (denominators known rows)) = search rules in
    let value_so_far : common_multiple old (denominators known (drop i rows)) ≡ common_multiple (pos 1) (denominators known rows) = search rules in
    let products : first_overflow (multiple_products c.in_ok-common.common (denominators known (drop (i + 1) rows))) ≡ first_overflow (multiple_products (pos 1) (denominators known rows)) =
    ap (λ z. first_overflow (multiple_products z (denominators known (drop (i + 1) rows)))) new_is
    ∙ sym (first-fits (product_of old (int_div d (gcd_of old d))) (multiple_products (lcm_of old d) (denominators known (drop (i + 1) rows))) fits)
    ∙ ap (λ l. first_overflow (multiple_products old (denominators known l))) (sym next) ∙ products_so_far in
    let value : common_multiple c.in_ok-common.common (denominators known (drop (i + 1) rows)) ≡ common_multiple (pos 1) (denominators known rows) =
    ap (λ z. common_multiple z (denominators known (drop (i + 1) rows))) new_is
    ∙ ap (λ l. common_multiple old (denominators known l)) (sym next) ∙ value_so_far in
    record { products = search (rules, products); value = search (rules, value); positive = search rules; in_range = search rules }

pub returns-clause-exact : goal.returns-clause-exact
returns-clause-exact c =
    let known = known_from c.args.expansions.now.entries in
    let rows = c.args.rows.now in
    let i = c.loop-row.row-index in
    let past = drop_all i rows (omega arith) in
    let products_so_far : first_overflow (multiple_products c.loop-row.common (denominators known (drop i rows))) ≡ first_overflow (multiple_products (pos 1) (denominators known rows)) = search rules in
    let value_so_far : common_multiple c.loop-row.common (denominators known (drop i rows)) ≡ common_multiple (pos 1) (denominators known rows) = search rules in
    let none : overflow_in (multiple_products (pos 1) (denominators known rows)) ≡ None =
    ap (option_map fault.Overflow) (sym products_so_far ∙ ap (λ l. first_overflow (multiple_products c.loop-row.common (denominators known l))) past) in
    let value : c.loop-row.common ≡ common_multiple (pos 1) (denominators known rows) =
    sym (ap (λ l. common_multiple c.loop-row.common (denominators known l)) past) ∙ value_so_far in
    search (rules, none, value)
