use Rattle.cofactor_trace.proofs.Prelude.{rules, ◌≡◌, ◌+◌, ◌++◌, ◌*ℤ◌, map, drop, Err, sym, ap, subst, ◌∙◌, arith, drop_all, option_map, IsCoefficient, product_of, first_overflow, drop_next, CertRow, joined_row, with_row, with_rows, same_number}
use Rattle.cofactor_trace.specs.declared.fault.ExpandFault.TheVariants as fault
use Rattle.cofactor_trace.proofs.Operations.{first_next, first_stops, first_none}
use Rattle.cofactor_trace.proofs.table.add_joined.Goals as goal

pub returns-in_err-coef-clause-exact : goal.returns-in_err-coef-clause-exact
returns-in_err-coef-clause-exact c =
    let k = c.args.factor in
    let row = c.row-item.result in
    let f = λ (s : CertRow). product_of k s.coef in
    let kept : first_overflow (map f (drop c.loop-row.row-index c.args.inner.now)) ≡ first_overflow (map f c.args.inner.now) = subst (λ z. first_overflow (map (λ (s : CertRow). product_of z s.coef) (drop c.loop-row.row-index c.args.inner.now)) ≡ first_overflow (map (λ (s : CertRow). product_of z s.coef) c.args.inner.now)) (same_number c.args.factor c.requires.factor_in) c.loop-row.invariant.products in
    let fails : ¬ IsCoefficient (k *ℤ row.coef) = search rules in
    let back : c.from_residual.result ≡ Err (fault.Overflow (product_of k row.coef)) = search rules in
    rw back (ap (option_map fault.Overflow) (first_stops f c.args.inner.now c.loop-row.row-index kept row c.loop-row-test.true c.row-item.is fails))

pub loop-row-preserved : goal.loop-row-preserved
loop-row-preserved c =
    let k = c.args.factor in
    let outer = c.args.outer.now in
    let inner = c.args.inner.now in
    let row = c.row-item.result in
    let i = c.loop-row.row-index in
    let f = λ (s : CertRow). product_of k s.coef in
    let kept : first_overflow (map f (drop i inner)) ≡ first_overflow (map f inner) = subst (λ z. first_overflow (map (λ (s : CertRow). product_of z s.coef) (drop c.loop-row.row-index c.args.inner.now)) ≡ first_overflow (map (λ (s : CertRow). product_of z s.coef) c.args.inner.now)) (same_number c.args.factor c.requires.factor_in) c.loop-row.invariant.products in
    let fits : IsCoefficient (k *ℤ row.coef) = search rules in
    let products : first_overflow (map f (drop (i + 1) inner)) ≡ first_overflow (map f inner) = first_next f inner i kept row c.loop-row-test.true c.row-item.is fits in
    let old = c.loop-row.sums.entries in
    let so_far : with_rows old (map (joined_row k outer) (drop i inner)) ≡ with_rows c.args.sums.now.entries (map (joined_row k outer) inner) = subst (λ z. with_rows c.loop-row.sums.entries (map (joined_row z c.args.outer.now) (drop c.loop-row.row-index c.args.inner.now)) ≡ with_rows c.args.sums.now.entries (map (joined_row z c.args.outer.now) c.args.inner.now)) (same_number c.args.factor c.requires.factor_in) c.loop-row.invariant.added in
    let left : c.in_ok-concat.field-0 ≡ outer.left ++ row.left = c.in_ok-concat.ensures in
    let right : c.in_ok-concat-2.field-0 ≡ row.right ++ outer.right = c.in_ok-concat-2.ensures in
    let coef : c.in_ok-coef.coef ≡ k *ℤ row.coef = search rules in
    let put : c.add.new.sums.entries ≡ with_row old (joined_row k outer row) = search (rules, left, right, coef) in
    let added : with_rows c.add.new.sums.entries (map (joined_row k outer) (drop (i + 1) inner)) ≡ with_rows c.args.sums.now.entries (map (joined_row k outer) inner) =
    ap (λ es. with_rows es (map (joined_row k outer) (drop (i + 1) inner))) put
    ∙ ap (λ l. with_rows old (map (joined_row k outer) l)) (sym (drop_next inner i row c.loop-row-test.true c.row-item.is)) ∙ so_far in
    let number = sym (same_number k c.requires.factor_in) in
    record {
      sums_in = c.in_ok-add.ensures.sums_in;
      added = subst (λ z. with_rows c.add.new.sums.entries (map (joined_row z outer) (drop (i + 1) inner)) ≡ with_rows c.args.sums.now.entries (map (joined_row z outer) inner)) number added;
      products = subst (λ z. first_overflow (map (λ (s : CertRow). product_of z s.coef) (drop (i + 1) inner)) ≡ first_overflow (map (λ (s : CertRow). product_of z s.coef) inner)) number products;
    }

pub returns-clause-added : goal.returns-clause-added
returns-clause-added c =
    let k = c.args.factor in
    let jr = joined_row k c.args.outer.now in
    let so_far : with_rows c.loop-row.sums.entries (map jr (drop c.loop-row.row-index c.args.inner.now)) ≡ with_rows c.args.sums.now.entries (map jr c.args.inner.now) = subst (λ z. with_rows c.loop-row.sums.entries (map (joined_row z c.args.outer.now) (drop c.loop-row.row-index c.args.inner.now)) ≡ with_rows c.args.sums.now.entries (map (joined_row z c.args.outer.now) c.args.inner.now)) (same_number c.args.factor c.requires.factor_in) c.loop-row.invariant.added in
    ap (λ l. with_rows c.loop-row.sums.entries (map jr l)) (sym (drop_all c.loop-row.row-index c.args.inner.now (omega arith))) ∙ so_far

pub returns-clause-exact : goal.returns-clause-exact
returns-clause-exact c =
    let f = λ (s : CertRow). product_of c.args.factor s.coef in
    let kept : first_overflow (map f (drop c.loop-row.row-index c.args.inner.now)) ≡ first_overflow (map f c.args.inner.now) = subst (λ z. first_overflow (map (λ (s : CertRow). product_of z s.coef) (drop c.loop-row.row-index c.args.inner.now)) ≡ first_overflow (map (λ (s : CertRow). product_of z s.coef) c.args.inner.now)) (same_number c.args.factor c.requires.factor_in) c.loop-row.invariant.products in
    ap (option_map fault.Overflow) (first_none f c.args.inner.now c.loop-row.row-index kept (omega arith))
