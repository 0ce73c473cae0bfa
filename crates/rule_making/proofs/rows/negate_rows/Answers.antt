use Rattle.rule_making.proofs.Prelude.{rules, ◌≡◌, ◌<◌, get_or, length, sym, subst, All, All-set, IsCoefficient, Row, negated_row, written_more}
use Rattle.rule_making.proofs.rows.negate_rows.Goals as goal

pub loop-row-preserved : goal.loop-row-preserved
loop-row-preserved c =
    let xs = c.args.rows in
    let ys = c.loop-row.row-items in
    let i = c.loop-row.row-index in
    let row = c.row-item.result in
    let is : row ≡ get_or ys i row = search rules in
    let below : i < length xs = search rules in
    let more = written_more negated_row xs ys i row (negated_row row) below c.loop-row.invariant.so_far is (λ _. negated_row row) in
    record {
      so_far = search (rules, more);
      in_range = All-set (λ (r : Row). IsCoefficient r.coef) ys i _ (search rules) c.loop-row.invariant.in_range;
    }

pub loop-row-init : goal.loop-row-init
loop-row-init c =
    let first : c.deref_mut-row-items.result.now ≡ c.args.rows = search rules in
    record { so_far = first; in_range = subst (All (λ (r : Row). IsCoefficient r.coef)) (sym first) c.requires }
