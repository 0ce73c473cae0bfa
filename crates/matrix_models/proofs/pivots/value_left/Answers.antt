use Rattle.matrix_models.proofs.Prelude.{◌*◌, ◌≤◌, get_or, sym, subst, ◌∙◌, arith, zero-mod, mul-le}
use Rattle.matrix_models.proofs.Primes.{field_positive}
use Rattle.matrix_models.proofs.Stretches.{none_before_sum}
use Rattle.matrix_models.proofs.pivots.value_left.Goals as goal

pub loop-k-init : goal.loop-k-init
loop-k-init c =
    let m = c.from-modulus.result in
    let positive : 1 ≤ m = subst (λ x. 1 ≤ x) (sym c.from-modulus.ensures) (field_positive c.args.modulus c.requires.modulus) in
    let square : 1 * 1 ≤ m * m = mul-le 1 1 m m positive positive in
    record {
      sum_is = zero-mod m ∙ none_before_sum m c.args.first (λ k. get_or c.args.values.now k 0) c.args.row.now c.requires.none;
      sum_below = omega (arith, square);
    }
