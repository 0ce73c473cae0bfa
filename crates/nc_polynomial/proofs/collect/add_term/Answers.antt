use Rattle.nc_polynomial.proofs.Prelude.{rules, ◌≡◌, ◌+ℤ◌, pos, arith, to_z, of_z, ints, coefficient_in}
use mir.Syntax.{w128}
use Rattle.nc_polynomial.proofs.Words.{coefficient_in-written}
use Rattle.nc_polynomial.proofs.collect.add_term.Goals as goal

pub returns-in-None-clause-added : goal.returns-in-None-clause-added
returns-in-None-clause-added c =
    let none : coefficient_in c.args.table.now c.args.word.now ≡ pos 0 = search rules in
    coefficient_in-written c.args.table.now c.insert.new.self c.args.word.now c.args.coefficient c.args.coefficient (λ w. search rules) (omega (arith, ints))

pub returns-clause-added : goal.returns-clause-added
returns-clause-added c =
    let total : c.in_ok-sum.field-0 ≡ coefficient_in c.args.table.now c.args.word.now +ℤ c.args.coefficient = search rules in
    let new = c.get_mut.follows.lender (to_z w128 (of_z w128 c.in_ok-sum.field-0)) in
    coefficient_in-written c.args.table.now new c.args.word.now c.args.coefficient c.in_ok-sum.field-0 (λ w. search rules) total
