use Rattle.nc_polynomial.proofs.Prelude.{rules, ◌≡◌, ◌≢◌, ◌+ℤ◌, pos, Some, None, ◌∙◌, arith, sym, subst, ints, +ℤ_idl, +ℤ_idr, IsCoefficient, coefficient_in}
use Rattle.nc_polynomial.proofs.Updates.{adds_from_update, adds_zero, running_from_update}
use Rattle.nc_polynomial.proofs.table.add_term.Goals as goal

pub returns-in-Vacant-clause-running : goal.returns-in-Vacant-clause-running
returns-in-Vacant-clause-running c =
    let nonzero : c.args.coefficient ≢ pos 0 = search rules in
    running_from_update c.args.table.now _ c.args.word (Some c.args.coefficient) (search rules) c.requires.running (λ zero. nonzero (cc)) c.requires.coefficient_in

pub returns-in-Vacant-clause-added : goal.returns-in-Vacant-clause-added
returns-in-Vacant-clause-added c =
    let none : coefficient_in c.args.table.now c.args.word ≡ pos 0 = search rules in
    adds_from_update c.args.table.now _ c.args.word (Some c.args.coefficient) (search rules) c.args.coefficient (omega (arith, ints, none))

pub returns-then-total-eq0-clause-running : goal.returns-then-total-eq0-clause-running
returns-then-total-eq0-clause-running c =
    running_from_update c.args.table.now _ c.args.word None (search rules) c.requires.running (λ same. (cc)) (search rules)

pub returns-then-total-eq0-clause-added : goal.returns-then-total-eq0-clause-added
returns-then-total-eq0-clause-added c =
    let total : c.in_ok-total-in-Occupied.total ≡ coefficient_in c.args.table.now c.args.word +ℤ c.args.coefficient = search rules in
    let zero : pos 0 ≡ c.in_ok-total-in-Occupied.total = search rules in
    adds_from_update c.args.table.now _ c.args.word None (search rules) c.args.coefficient (zero ∙ total)

pub returns-else-total-eq0-clause-running : goal.returns-else-total-eq0-clause-running
returns-else-total-eq0-clause-running c =
    let nonzero : c.in_ok-total-in-Occupied.total ≢ pos 0 = search rules in
    let in_range : IsCoefficient c.in_ok-total-in-Occupied.total = search rules in
    running_from_update c.args.table.now _ c.args.word (Some c.in_ok-total-in-Occupied.total) (search rules) c.requires.running (λ zero. nonzero (cc)) in_range

pub returns-else-total-eq0-clause-added : goal.returns-else-total-eq0-clause-added
returns-else-total-eq0-clause-added c =
    let total : c.in_ok-total-in-Occupied.total ≡ coefficient_in c.args.table.now c.args.word +ℤ c.args.coefficient = search rules in
    adds_from_update c.args.table.now _ c.args.word (Some c.in_ok-total-in-Occupied.total) (search rules) c.args.coefficient total

pub returns-then-coefficient-eq0-clause-added : goal.returns-then-coefficient-eq0-clause-added
returns-then-coefficient-eq0-clause-added c =
    let zero : c.args.coefficient ≡ pos 0 = search rules in
    rw zero (adds_zero c.args.table.now c.args.word)

pub returns-then-coefficient-eq0-clause-exact : goal.returns-then-coefficient-eq0-clause-exact
returns-then-coefficient-eq0-clause-exact c =
    let held = coefficient_in c.args.table.now c.args.word in
    let zero : c.args.coefficient ≡ pos 0 = search rules in
    subst (λ z. IsCoefficient (held +ℤ z)) (sym zero) (subst IsCoefficient (sym (+ℤ_idr held)) (c.requires.running.in_range c.args.word))

pub returns-in-Vacant-clause-exact : goal.returns-in-Vacant-clause-exact
returns-in-Vacant-clause-exact c =
    let none : coefficient_in c.args.table.now c.args.word ≡ pos 0 = search rules in
    subst (λ z. IsCoefficient (z +ℤ c.args.coefficient)) (sym none) (subst IsCoefficient (sym (+ℤ_idl c.args.coefficient)) c.requires.coefficient_in)
