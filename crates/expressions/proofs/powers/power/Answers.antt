use Rattle.expressions.proofs.Prelude.{rules, ◌≡◌, [], length, Ok, sym, ap, ◌∙◌, nil_from_length, power_poly}
use Rattle.expressions.proofs.TermPowers.{power-zero}
use Rattle.expressions.proofs.powers.power.Goals as goal

pub returns-in-empty : goal.returns-in-empty
returns-in-empty c =
    let base = c.args.base.terms in
    let none : length base ≡ 0 = search rules in
    let zero : c.zero.result.terms ≡ [] = search rules in
    ap (power_poly c.args.exponent) (nil_from_length base none) ∙ power-zero c.args.exponent ∙ ap Ok (sym zero)
