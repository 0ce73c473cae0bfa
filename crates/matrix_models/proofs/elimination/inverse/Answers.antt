use Rattle.matrix_models.proofs.Prelude.{sym, subst, mod-lt, arith, IsFieldModulus}
use Rattle.matrix_models.proofs.Primes.{field_prime, next_factor}
use Rattle.matrix_models.proofs.elimination.inverse.Goals as goal

pub loop-rest-preserved : goal.loop-rest-preserved
loop-rest-preserved c =
    let m = c.from-modulus.result in
    let now = c.loop-rest.invariant in
    record {
      product = next_factor m c.args.number c.loop-rest.factor c.loop-rest.rest now.product now.positive now.below;
      positive = field_prime m (subst IsFieldModulus (sym c.from-modulus.ensures) c.requires.field) c.loop-rest.rest c.loop-rest-test.true now.below;
      below = let small = mod-lt m now.positive in omega (arith, small, now.below);
      factor_below = mod-lt _ (omega (arith, now.positive, now.below));
    }
