use Rattle.matrix_models.proofs.Prelude.{◌<◌, length, sym, subst, arith, mod-lt, All-from_get_or}
use Rattle.matrix_models.proofs.Primes.{field_positive}
use Rattle.matrix_models.proofs.Rows.{meets-scaled, alike_through}
use Rattle.matrix_models.proofs.elimination.normalize.Goals as goal

pub returns-clause-alike : goal.returns-clause-alike
returns-clause-alike c =
    let before = c.reduce.ensures in
    alike_through c.args.modulus (length c.args.pivots.now) c.args.pivots.now c.args.row.now c.reduce.new.wide c.scale.new.row before.alike
    (λ w all. meets-scaled c.args.modulus (length c.args.pivots.now) c.inverse-factor.result _ w c.reduce.new.wide c.scale.new.row c.inverse-factor.ensures
    (λ k l. c.scale.ensures.each k (omega (arith, c.clear.ensures.len, c.requires.size, l))))

pub returns-clause-small : goal.returns-clause-small
returns-clause-small c =
    All-from_get_or (λ entry. entry < c.args.modulus) c.scale.new.row 0
    (λ k l. subst (λ x. x < c.args.modulus) (sym (c.scale.ensures.each k (omega (arith, c.scale.ensures.len, l)))) (mod-lt _ (field_positive c.args.modulus c.requires.field)))
