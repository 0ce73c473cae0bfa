use Rattle.nc_polynomial.proofs.Prelude.{rules, ◌≡◌, ◌+◌, ◌<◌, ◌≤◌, ◌*ℤ◌, pos, length, Err, ap, IsCoefficient, product_of, combined, and_then}
use Rattle.nc_polynomial.specs.declared.fault.PolyFault.TheVariants as fault
use Rattle.nc_polynomial.proofs.OneTerm.{overflows-one, long_word}
use Rattle.nc_polynomial.proofs.product.behind.Goals as goal

pub returns-in_err-coefficient-clause-fault : goal.returns-in_err-coefficient-clause-fault
returns-in_err-coefficient-clause-fault c =
    let t = c.args.left.now in
    let y = c.args.right.now in
    let overflow = c.in_err-coefficient.field-0.0 in
    let given : c.from_residual.result ≡ Err (fault.Overflow overflow) = search rules in
    let short : length t.1 + length y.1 ≤ 500 = search rules in
    let operation : overflow ≡ product_of t.0 y.0 = search rules in
    let over : ¬ IsCoefficient (t.0 *ℤ y.0) = search rules in
    rw given (λ sum shaped. overflows-one y c.requires.right_nonzero sum t overflow shaped short operation over)

pub returns-then-saturating_add-gt-WORD_LIMIT-clause-fault : goal.returns-then-saturating_add-gt-WORD_LIMIT-clause-fault
returns-then-saturating_add-gt-WORD_LIMIT-clause-fault c =
    let t = c.args.left.now in
    let y = c.args.right.now in
    let long : 500 < length t.1 + length y.1 = search rules in
    λ sum shaped. ap (λ r. and_then r (λ moved. combined (pos 1) sum t.0 moved)) (long_word y c.requires.right_nonzero t long)
