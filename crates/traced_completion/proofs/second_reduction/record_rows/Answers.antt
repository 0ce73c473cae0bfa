use Rattle.traced_completion.proofs.Prelude.{rules, ◌≡◌, Ok, Err, sym, subst, ◌∙◌, first_overflow, row_operations, Explains, unless_overflow, less_rows, first_rows, plain, plain_first}
use Rattle.traced_completion.proofs.RowChains.{first_fault, second_left}
use Rattle.traced_completion.proofs.second_reduction.record_rows.Goals as goal

pub returns-in_err-rows-clause-exact : goal.returns-in_err-rows-clause-exact
returns-in_err-rows-clause-exact c =
    let f = plain_first c.args.first in
    let e = c.in_err-rows.field-0.0 in
    let why : Explains (unless_overflow (first_overflow (row_operations f.rows f.reduced.multiplier)) (first_rows f)) e = search rules in
    let back : c.from_residual.result ≡ Err e = search rules in
    rw back (first_fault f (plain c.args.second) e why)

pub returns-in_err-rows-2-clause-exact : goal.returns-in_err-rows-2-clause-exact
returns-in_err-rows-2-clause-exact c =
    let f = plain_first c.args.first in
    let s = plain c.args.second in
    let v = c.in_ok-rows.rows in
    let e = c.in_err-rows-2.field-0.0 in
    let first : unless_overflow (first_overflow (row_operations f.rows f.reduced.multiplier)) (first_rows f) ≡ Ok v = search rules in
    let why : Explains (unless_overflow (first_overflow (row_operations v s.multiplier)) (less_rows v s.multiplier s.rows)) e = search rules in
    let back : c.from_residual-in_err-rows-2.result ≡ Err e = search rules in
    rw back (subst (λ r. Explains r e) (second_left f s v first) why)

pub returns-clause-exact : goal.returns-clause-exact
returns-clause-exact c =
    let f = plain_first c.args.first in
    let s = plain c.args.second in
    let v = c.in_ok-rows.rows in
    let first : unless_overflow (first_overflow (row_operations f.rows f.reduced.multiplier)) (first_rows f) ≡ Ok v = search rules in
    let second : unless_overflow (first_overflow (row_operations v s.multiplier)) (less_rows v s.multiplier s.rows) ≡ Ok c.in_ok-rows-2.rows = search rules in
    sym (second_left f s v first) ∙ second
