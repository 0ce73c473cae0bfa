use Rattle.matrix_models.proofs.Prelude.{◌*◌, ◌%◌, ap, ap₂, ◌∙◌, mul-mod_first}
use Rattle.matrix_models.proofs.elimination.product.Goals as goal

pub returns : goal.returns
returns c =
    let m = c.args.modulus in
    ap (λ x. (c.from.result * c.from-2.result) % x) c.from-3.ensures
    ∙ ap₂ (λ x y. (x * y) % m) (c.from.ensures ∙ c.residue.ensures.value) c.from-2.ensures
    ∙ mul-mod_first c.args.number c.args.times m
