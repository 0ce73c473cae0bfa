use Rattle.equation_chain.proofs.Prelude.{arith, ◌<◌, ◌+◌, refl, letters_in}
use Rattle.equation_chain.proofs.Going.{told_stops}
use Rattle.equation_chain.proofs.line.line_behind.Goals as goal

pub returns-then-letters-gt-LETTER_LIMIT-clause-fault : goal.returns-then-letters-gt-LETTER_LIMIT-clause-fault
returns-then-letters-gt-LETTER_LIMIT-clause-fault c =
    let long : 10000000 < c.args.line.now.letters + letters_in c.in-Ok.poly.terms = omega arith in
    (refl, (c.in-Ok.poly.terms, c.in-Ok.ensures, long))

pub returns-else-letters-gt-LETTER_LIMIT-clause-line : goal.returns-else-letters-gt-LETTER_LIMIT-clause-line
returns-else-letters-gt-LETTER_LIMIT-clause-line c = record { made = c.in-Ok.ensures; letters = omega arith; short = omega arith }

pub returns-in-Err-clause-fault : goal.returns-in-Err-clause-fault
returns-in-Err-clause-fault c =
    told_stops c.args.line.now c.args.generator.now.terms c.args.step.now c.args.number c.in-Err.fault c.step_fault.result c.in-Err.ensures c.step_fault.ensures
