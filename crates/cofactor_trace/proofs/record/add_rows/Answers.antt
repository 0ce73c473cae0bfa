use Rattle.cofactor_trace.proofs.Prelude.{rules, ◌≡◌, ◌+◌, [], drop, None, Err, sym, ap, subst, ◌∙◌, fold-append, option_map, first_overflow, drop_next, joined, joined_rows, joined_products, row_products, overflow_in, IsFirst, known_from, with_row, with_rows}
use Rattle.cofactor_trace.specs.declared.fault.ExpandFault.TheVariants as fault
use Rattle.cofactor_trace.proofs.Operations.{first-behind}
use Rattle.cofactor_trace.proofs.Halts.{is_first-append, unmapped-none}
use Rattle.cofactor_trace.proofs.record.add_rows.Goals as goal

pub returns-in_err-add_row-clause-exact : goal.returns-in_err-add_row-clause-exact
returns-in_err-add_row-clause-exact c =
    let known = known_from c.args.expansions.now.entries in
    let common = c.args.common in
    let rows = c.args.rows.now in
    let i = c.loop-row.row-index in
    let row = c.row-item.result in
    let e = c.in_err-add_row.field-0.0 in
    let back : c.from_residual.result ≡ Err e = search rules in
    let stopped : IsFirst (overflow_in (row_products known common row)) e = search rules in
    let so_far : first_overflow (joined_products known common (drop i rows)) ≡ first_overflow (joined_products known common rows) = search rules in
    rw back (subst (λ f. IsFirst (option_map fault.Overflow f) e)
    (ap (λ l. first_overflow (joined_products known common l)) (sym (drop_next rows i row c.loop-row-test.true c.row-item.is)) ∙ so_far)
    (is_first-append (row_products known common row) (joined_products known common (drop (i + 1) rows)) e stopped))

pub loop-row-preserved : goal.loop-row-preserved
loop-row-preserved c =
    let known = known_from c.args.expansions.now.entries in
    let common = c.args.common in
    let rows = c.args.rows.now in
    let i = c.loop-row.row-index in
    let row = c.row-item.result in
    let next = drop_next rows i row c.loop-row-test.true c.row-item.is in
    let old = c.loop-row.sums.entries in
    let rest = joined known common (drop (i + 1) rows) in
    let put : c.add_row.new.sums.entries ≡ with_rows old (joined_rows known common row) = search rules in
    let fits : overflow_in (row_products known common row) ≡ None = search rules in
    let so_far : with_rows old (joined known common (drop i rows)) ≡ with_rows [] (joined known common rows) = search rules in
    let products_so_far : first_overflow (joined_products known common (drop i rows)) ≡ first_overflow (joined_products known common rows) = search rules in
    let added : with_rows c.add_row.new.sums.entries rest ≡ with_rows [] (joined known common rows) =
    ap (λ es. with_rows es rest) put ∙ sym (fold-append with_row old (joined_rows known common row) rest)
    ∙ ap (λ l. with_rows old (joined known common l)) (sym next) ∙ so_far in
    let products : first_overflow (joined_products known common (drop (i + 1) rows)) ≡ first_overflow (joined_products known common rows) =
    sym (first-behind (row_products known common row) (joined_products known common (drop (i + 1) rows)) (unmapped-none fault.Overflow (first_overflow (row_products known common row)) fits))
    ∙ ap (λ l. first_overflow (joined_products known common l)) (sym next) ∙ products_so_far in
    record { sums_in = search rules; added = search (rules, added); products = search (rules, products) }
