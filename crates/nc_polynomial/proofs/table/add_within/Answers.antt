use Rattle.nc_polynomial.proofs.Prelude.{rules, ◌≡◌, ◌<◌, ◌≤◌, length, Ok, arith, checked, IsRunning, terms_in, added, sums}
use Rattle.nc_polynomial.proofs.RunningSums.{too_many, few_enough}
use Rattle.nc_polynomial.proofs.Tables.{length-running}
use Rattle.nc_polynomial.proofs.table.add_within.Goals as goal

pub returns-then-len-gt-TERM_LIMIT-clause-exact : goal.returns-then-len-gt-TERM_LIMIT-clause-exact
returns-then-len-gt-TERM_LIMIT-clause-exact c =
    let p = terms_in c.args.table.now in
    let v = terms_in c.add_terms.new.table in
    let total : checked (sums p c.args.terms) (added p c.args.terms) ≡ Ok v = search rules in
    let running : IsRunning c.add_terms.new.table = search rules in
    let count = length-running c.add_terms.new.table c.len.ensures.ordered running in
    let large : 20000 < length v = omega (arith, count, c.len.ensures.len, c.if-len-gt-TERM_LIMIT.true) in
    too_many p c.args.terms v c.requires.short_sum c.requires.short total large

pub returns-clause-exact : goal.returns-clause-exact
returns-clause-exact c =
    let p = terms_in c.args.table.now in
    let v = terms_in c.add_terms.new.table in
    let total : checked (sums p c.args.terms) (added p c.args.terms) ≡ Ok v = search rules in
    let running : IsRunning c.add_terms.new.table = search rules in
    let count = length-running c.add_terms.new.table c.len.ensures.ordered running in
    let small : length v ≤ 20000 = omega (arith, count, c.len.ensures.len, c.if-len-gt-TERM_LIMIT.false) in
    few_enough p c.args.terms v c.requires.short_sum c.requires.short total small
