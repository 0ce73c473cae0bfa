use Rattle.cofactor_trace.proofs.Prelude.{rules, ◌≡◌, ◌++◌, [], ◌∷◌, length, int_div, map, sym, ap, ◌∙◌, subst, append_assoc, arith, All, into_iter_items, All-tail, IsCoefficient, divided_row, all_push}
use Rattle.cofactor_trace.proofs.divisor.divide_rows.Goals as goal

pub loop-row-preserved : goal.loop-row-preserved
loop-row-preserved c =
    let by = c.args.by in
    let row = c.in-Some.row in
    let out = c.loop-row.divided in
    let rest = into_iter_items c.next.new.self in
    let next : into_iter_items c.loop-row.row-iterator ≡ row ∷ rest = c.in-Some.ensures.steps.0 in
    let pushed : c.push.new.self ≡ out ++ divided_row by row ∷ [] = search rules in
    let fits : IsCoefficient (int_div row.coef by) = search rules in
    let kept : out ++ map (divided_row by) (into_iter_items c.loop-row.row-iterator) ≡ map (divided_row by) c.args.rows = search rules in
    let same : c.push.new.self ++ map (divided_row by) rest ≡ map (divided_row by) c.args.rows =
    ap (λ l. l ++ map (divided_row by) rest) pushed ∙ append_assoc out (divided_row by row ∷ []) (map (divided_row by) rest)
    ∙ ap (λ l. out ++ map (divided_row by) l) (sym next) ∙ kept in
    record {
      left = let was = c.loop-row.invariant.left in let gone = c.in-Some.ensures.steps.1 in let short = ap length next in omega arith;
      rest_in = All-tail (λ r. IsCoefficient r.coef) row rest (subst (All (λ r. IsCoefficient r.coef)) next c.loop-row.invariant.rest_in);
      divided_in = all_push (λ r. IsCoefficient r.coef) out c.push.new.self (divided_row by row) c.loop-row.invariant.divided_in fits pushed;
      same = search (rules, same);
    }
