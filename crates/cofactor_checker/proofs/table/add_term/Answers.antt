use Rattle.cofactor_checker.proofs.Prelude.{rules, ◌≡◌, ◌≢◌, ◌+ℤ◌, pos, Some, None, ◌∙◌, arith, ints, IsCoefficient, coefficient_at}
use Rattle.cofactor_checker.proofs.TableUpdates.{adds_from_update, table_from_update}
use Rattle.cofactor_checker.proofs.table.add_term.Goals as goal

pub returns-in-Vacant-clause-added : goal.returns-in-Vacant-clause-added
returns-in-Vacant-clause-added c =
    let none : coefficient_at c.args.table.now c.args.word ≡ pos 0 = search rules in
    adds_from_update c.args.table.now _ c.args.word (Some c.args.coefficient) (search rules) c.args.coefficient (omega (arith, ints, none))

pub returns-then-total-eq0-clause-kept : goal.returns-then-total-eq0-clause-kept
returns-then-total-eq0-clause-kept c =
    table_from_update c.args.table.now _ c.args.word None (search rules) c.requires.kept (λ same. (cc)) (search rules)

pub returns-then-total-eq0-clause-added : goal.returns-then-total-eq0-clause-added
returns-then-total-eq0-clause-added c =
    let total : c.in_ok-total-in-Occupied.total ≡ coefficient_at c.args.table.now c.args.word +ℤ c.args.coefficient = search rules in
    let zero : pos 0 ≡ c.in_ok-total-in-Occupied.total = search rules in
    adds_from_update c.args.table.now _ c.args.word None (search rules) c.args.coefficient (zero ∙ total)

pub returns-else-total-eq0-clause-kept : goal.returns-else-total-eq0-clause-kept
returns-else-total-eq0-clause-kept c =
    let nonzero : c.in_ok-total-in-Occupied.total ≢ pos 0 = search rules in
    let in_range : IsCoefficient c.in_ok-total-in-Occupied.total = search rules in
    table_from_update c.args.table.now _ c.args.word (Some c.in_ok-total-in-Occupied.total) (search rules) c.requires.kept (λ zero. nonzero (cc)) in_range

pub returns-else-total-eq0-clause-added : goal.returns-else-total-eq0-clause-added
returns-else-total-eq0-clause-added c =
    let total : c.in_ok-total-in-Occupied.total ≡ coefficient_at c.args.table.now c.args.word +ℤ c.args.coefficient = search rules in
    adds_from_update c.args.table.now _ c.args.word (Some c.in_ok-total-in-Occupied.total) (search rules) c.args.coefficient total
