use Rattle.equation_chain.proofs.Prelude.{rules, arith, ◌≡◌, Some, Err, true, false, IsCoefficient, is_step, generator_of, GoesOn}
use Rattle.equation_chain.proofs.Numbered.{poly_named, poly_absent}
use Rattle.equation_chain.proofs.Typed.{empty_is_none}
use Rattle.equation_chain.proofs.Going.{for_row, all_there, none_passes, line_stands, some_passes, stops}
use Rattle.equation_chain.proofs.line.next_line.Goals as goal

pub is_step-requires : goal.is_step-requires
is_step-requires c = poly_named c.args.problem.now.generators c.at-row.result.now.generator c.in-Some.generator.now (search rules) (search rules)

pub line_behind-requires : goal.line_behind-requires
line_behind-requires c =
    all_there (λ r. IsCoefficient r.coef) c.args.certificate.now.rows c.args.place c.at-row.result.now c.requires.coefficients c.at-row.ensures

-- the row names no generator
none : (c : goal.In_default) → is_step c.args.problem.now c.args.certificate.now.claim c.at-row.result.now ≡ false
none c = empty_is_none c.args.problem.now c.args.certificate.now.claim c.at-row.result.now (poly_absent c.args.problem.now.generators c.at-row.result.now.generator (search rules))

pub returns-in_default-clause-line : goal.returns-in_default-clause-line
returns-in_default-clause-line c =
    for_row (λ r. is_step c.args.problem.now c.args.certificate.now.claim r ≡ false) c.args.certificate.now.rows c.args.place c.at-row.result.now c.at-row.ensures (none c)

pub returns-in_default-clause-passed : goal.returns-in_default-clause-passed
returns-in_default-clause-passed c = none_passes c.args.problem.now c.args.certificate.now c.args.place c.at-row.result.now c.at-row.ensures c.requires.earlier (none c)

pub returns-then-not-is_step-clause-line : goal.returns-then-not-is_step-clause-line
returns-then-not-is_step-clause-line c =
    let no_step : is_step c.args.problem.now c.args.certificate.now.claim c.at-row.result.now ≡ false = search rules in
    for_row (λ r. is_step c.args.problem.now c.args.certificate.now.claim r ≡ false) c.args.certificate.now.rows c.args.place c.at-row.result.now c.at-row.ensures no_step

pub returns-then-not-is_step-clause-passed : goal.returns-then-not-is_step-clause-passed
returns-then-not-is_step-clause-passed c =
    let no_step : is_step c.args.problem.now c.args.certificate.now.claim c.at-row.result.now ≡ false = search rules in
    none_passes c.args.problem.now c.args.certificate.now c.args.place c.at-row.result.now c.at-row.ensures c.requires.earlier no_step

pub returns-in_err-next-clause-fault : goal.returns-in_err-next-clause-fault
returns-in_err-next-clause-fault c =
    let problem = c.args.problem.now in
    let certificate = c.args.certificate.now in
    let row = c.at-row.result.now in
    let g = c.in-Some.generator.now.terms in
    let named : g ≡ generator_of problem row = poly_named problem.generators row.generator c.in-Some.generator.now (search rules) (search rules) in
    let is : is_step problem certificate.claim row ≡ true = search rules in
    let e = c.in_err-next.field-0.0 in
    let given : c.from_residual.result ≡ Err e = search rules in
    rw given (stops problem certificate c.args.place row c.at-row.ensures is c.args.line.now c.requires.line g named c.requires.accepted c.requires.earlier _ (omega arith) e c.in_err-next.ensures.fault)

pub returns-clause-line : goal.returns-clause-line
returns-clause-line c =
    let problem = c.args.problem.now in
    let certificate = c.args.certificate.now in
    let row = c.at-row.result.now in
    let g = c.in-Some.generator.now.terms in
    let named : g ≡ generator_of problem row = poly_named problem.generators row.generator c.in-Some.generator.now (search rules) (search rules) in
    let is : is_step problem certificate.claim row ≡ true = search rules in
    for_row (λ r. GoesOn problem certificate c.args.place r (Some c.in_ok-next.next)) certificate.rows c.args.place row c.at-row.ensures
    (is, line_stands problem certificate c.args.place row c.at-row.ensures is c.args.line.now c.requires.line g named c.in_ok-next.next c.in_ok-next.ensures.line)

pub returns-clause-passed : goal.returns-clause-passed
returns-clause-passed c =
    let problem = c.args.problem.now in
    let certificate = c.args.certificate.now in
    let row = c.at-row.result.now in
    let g = c.in-Some.generator.now.terms in
    let named : g ≡ generator_of problem row = poly_named problem.generators row.generator c.in-Some.generator.now (search rules) (search rules) in
    let is : is_step problem certificate.claim row ≡ true = search rules in
    some_passes problem certificate c.args.place row c.at-row.ensures is c.args.line.now c.requires.line g named c.in_ok-next.next c.in_ok-next.ensures.line c.requires.earlier
