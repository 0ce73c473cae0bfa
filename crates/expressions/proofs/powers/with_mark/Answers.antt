use Rattle.expressions.proofs.Prelude.{rules, ◌≡◌, Ok, quiver_of, Power, due_poly, power_poly}
use Rattle.expressions.proofs.Range.{in_range-mark_poly, in_range-due}
use Rattle.expressions.proofs.TwoAdjoints.{due-turned}
use Rattle.expressions.proofs.powers.with_mark.Goals as goal

pub returns-in-Adjoint-clause-exact : goal.returns-in-Adjoint-clause-exact
returns-in-Adjoint-clause-exact c =
    rw c.in-Adjoint.is (due-turned c.args.quiver.now c.requires.declared c.args.marked.poly c.args.marked.due)

pub returns-in_ok-poly-in-Power-clause-letters : goal.returns-in_ok-poly-in-Power-clause-letters
returns-in_ok-poly-in-Power-clause-letters c =
    let q = quiver_of c.args.quiver.now in
    let base = c.in_ok-base-in-Power.base.terms in
    let poly = c.in_ok-poly-in-Power.poly.terms in
    let taken : due_poly q c.args.marked ≡ Ok base = search rules in
    let made : power_poly c.in-Power.exponent.value base ≡ Ok poly = search rules in
    in_range-mark_poly c.args.quiver.now c.requires.declared (Power c.in-Power.at c.in-Power.exponent) base poly (in_range-due c.args.quiver.now c.requires.declared c.args.marked base c.requires.letters taken) made
