use Rattle.nc_polynomial.proofs.Prelude.{rules, ◌≡◌, ◌++◌, [], ◌∷◌, ◌+ℤ◌, sym, ap, ◌∙◌, Ok, append-nil, IsCoefficient, sum_of, aligned, totals, total_operations, keep}
use Rattle.nc_polynomial.proofs.Chains.{ranged_add}
use Rattle.nc_polynomial.proofs.Checked.{join, total_from, one-fits}
use Rattle.nc_polynomial.proofs.terms.merge_terms.Goals as goal

pub loop-x-preserved : goal.loop-x-preserved
loop-x-preserved c =
    let x = c.in-Some.x in
    let y = c.in-Some.y in
    let w = c.in-Some.word in
    let out = c.loop-x.sum in
    let rest = aligned c.next_pair.new.left.items c.next_pair.new.right.items in
    let next : aligned c.loop-x.left.items c.loop-x.right.items ≡ (x, y, w) ∷ rest = search rules in
    let total : c.in_ok-total.total ≡ x +ℤ y = search rules in
    let fits : IsCoefficient (x +ℤ y) = search rules in
    let pushed : c.push_nonzero.new.terms ≡ out ++ keep c.in_ok-total.total w [] = search rules in
    record {
      left_in = c.next_pair.ensures.left_coefficients;
      right_in = c.next_pair.ensures.right_coefficients;
      same =
          ap (λ l. join l (total_from rest)) (pushed ∙ ap (λ z. out ++ keep z w []) total)
          ∙ sym (one-fits (sum_of x y) (total_operations rest) w out (totals rest) fits)
          ∙ ap (λ pairs. join out (total_from pairs)) (sym next)
          ∙ c.loop-x.invariant.same;
    }

pub returns-clause-in_range : goal.returns-clause-in_range
returns-clause-in_range c =
    let out = c.loop-x.sum in
    let gone : aligned c.loop-x.left.items c.loop-x.right.items ≡ [] = search rules in
    ranged_add c.args.p c.args.q out (sym c.loop-x.invariant.same ∙ ap (λ l. join out (total_from l)) gone ∙ ap Ok (append-nil out))

pub returns-clause-exact : goal.returns-clause-exact
returns-clause-exact c =
    let out = c.loop-x.sum in
    let gone : aligned c.loop-x.left.items c.loop-x.right.items ≡ [] = search rules in
    sym c.loop-x.invariant.same ∙ ap (λ l. join out (total_from l)) gone ∙ ap Ok (append-nil out)
