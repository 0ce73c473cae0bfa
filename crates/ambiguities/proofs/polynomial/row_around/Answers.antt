use Rattle.ambiguities.proofs.Prelude.{rules, ◌≡◌, ◌-◌, length, take, drop, ◌∙◌, take_rest, Row}
use Rattle.traced_rows.specs.declared.Origin.TheVariants as origin
use Rattle.ambiguities.proofs.polynomial.row_around.Goals as goal

pub returns : goal.returns
returns c =
    let w = c.args.word.now in
    let left : c.in_ok-slice.field-0 ≡ take c.args.before w = search rules in
    let rest : c.in_ok-slice-2.field-0 ≡ take (length w - c.args.behind) (drop c.args.behind w) = search rules in
    let right = rest ∙ take_rest w c.args.behind in
    let whole : ◌≡◌ {A = Row} (record { coef = c.args.coef; left = c.in_ok-slice.field-0; from = origin.Rule c.args.number; right = c.in_ok-slice-2.field-0 }) (record { coef = c.args.coef; left = take c.args.before w; from = origin.Rule c.args.number; right = drop c.args.behind w }) =
    λ i. record { coef = c.args.coef; left = left i; from = origin.Rule c.args.number; right = right i } in
    search (rules, whole)
