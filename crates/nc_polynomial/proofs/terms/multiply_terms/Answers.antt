use Rattle.nc_polynomial.proofs.Prelude.{rules, ◌≡◌, ◌++◌, [], ◌∷◌, ◌*ℤ◌, length, sym, ap, ap₂, subst, ◌∙◌, Ok, Err, arith, to_z, of_z, append-nil, nil_from_length, All-head, All-tail, All, into_iter_items, IsCoefficient, product_of, Term, multiplied, multiplications, keep}
use mir.Syntax.{w128}
use Rattle.nc_polynomial.specs.declared.fault.PolyFault.TheVariants as fault
use Rattle.nc_polynomial.proofs.Chains.{ranged_multiply}
use Rattle.nc_polynomial.proofs.Checked.{join, join-none, multiply_from, one-fits, one-fails}
use Rattle.nc_polynomial.proofs.terms.multiply_terms.Goals as goal

pub loop-coefficient-init : goal.loop-coefficient-init
loop-coefficient-init c =
    let by = c.args.by in
    let items : into_iter_items c.into_iter-coefficient-iterator.result ≡ c.args.terms = c.into_iter-coefficient-iterator.ensures.into_iter_gives.0 ∙ c.into_vec-coefficient-items.ensures in
    record {
      left = search rules;
      terms_in = subst (All (λ (u : Term). IsCoefficient u.0)) (sym items) c.requires.in_range;
      same =
          ap₂ (λ l xs. join l (multiply_from xs (to_z w128 (of_z w128 by)))) c.in_ok-multiplied.ensures items
          ∙ join-none (multiply_from c.args.terms (to_z w128 (of_z w128 by)));
    }

pub times-requires-clause-left_in : goal.times-requires-clause-left_in
times-requires-clause-left_in c =
    let t : Term = (c.in-Some.coefficient, c.in-Some.word) in
    let t_is : to_z w128 (of_z w128 t.0) ≡ t.0 = search rules in
    let steps : into_iter_items c.loop-coefficient.coefficient-iterator ≡ t ∷ into_iter_items c.next.new.self = c.in-Some.ensures.steps.0 in
    rw t_is (All-head (λ (u : Term). IsCoefficient u.0) t (into_iter_items c.next.new.self) (subst (All (λ (u : Term). IsCoefficient u.0)) steps c.loop-coefficient.invariant.terms_in))

pub returns-in_err-product-clause-exact : goal.returns-in_err-product-clause-exact
returns-in_err-product-clause-exact c =
    let at = c.loop-coefficient in
    let by = c.args.by in
    let t : Term = (c.in-Some.coefficient, c.in-Some.word) in
    let out = at.multiplied in
    let rest = into_iter_items c.next.new.self in
    let steps : into_iter_items at.coefficient-iterator ≡ t ∷ rest = c.in-Some.ensures.steps.0 in
    let o = product_of t.0 by in
    let given : c.from_residual-in_err-product.result ≡ Err (fault.Overflow o) = search rules in
    let fails : ¬ IsCoefficient (t.0 *ℤ by) = search rules in
    let by_is : to_z w128 (of_z w128 by) ≡ by = search rules in
    let kept : join out (multiply_from (into_iter_items at.coefficient-iterator) by) ≡ multiply_from c.args.terms by =
    subst (λ b. join out (multiply_from (into_iter_items at.coefficient-iterator) b) ≡ multiply_from c.args.terms b) by_is at.invariant.same in
    let why : multiply_from c.args.terms by ≡ Err (fault.Overflow o) =
    sym kept ∙ ap (λ l. join out (multiply_from l by)) steps ∙ one-fails o (multiplications rest by) out (multiplied (t ∷ rest) by) fails in
    rw given why

pub loop-coefficient-preserved : goal.loop-coefficient-preserved
loop-coefficient-preserved c =
    let at = c.loop-coefficient in
    let by = c.args.by in
    let t : Term = (c.in-Some.coefficient, c.in-Some.word) in
    let out = at.multiplied in
    let rest = into_iter_items c.next.new.self in
    let steps : into_iter_items at.coefficient-iterator ≡ t ∷ rest = c.in-Some.ensures.steps.0 in
    let product : c.in_ok-product.product ≡ t.0 *ℤ by = search rules in
    let fits : IsCoefficient (t.0 *ℤ by) = search rules in
    let pushed : c.push_nonzero.new.terms ≡ out ++ keep c.in_ok-product.product t.1 [] = search rules in
    let same : join c.push_nonzero.new.terms (multiply_from rest by) ≡ multiply_from c.args.terms by =
    ap (λ l. join l (multiply_from rest by)) (pushed ∙ ap (λ z. out ++ keep z t.1 []) product)
    ∙ sym (one-fits (product_of t.0 by) (multiplications rest by) t.1 out (multiplied rest by) fits)
    ∙ ap (λ l. join out (multiply_from l by)) (sym steps)
    ∙ search (rules, at.invariant.same) in
    record {
      left = let was = at.invariant.left in let gone = c.in-Some.ensures.steps.1 in let short = ap length steps in omega arith;
      terms_in = All-tail (λ (u : Term). IsCoefficient u.0) t rest (subst (All (λ (u : Term). IsCoefficient u.0)) steps at.invariant.terms_in);
      same = search (rules, same);
    }

pub returns-clause-in_range : goal.returns-clause-in_range
returns-clause-in_range c =
    let at = c.loop-coefficient in
    let by = c.args.by in
    let out = at.multiplied in
    let gone : into_iter_items at.coefficient-iterator ≡ [] = nil_from_length _ (sym at.invariant.left ∙ c.in-None.ensures.steps.0) in
    let by_is : to_z w128 (of_z w128 by) ≡ by = search rules in
    let kept : join out (multiply_from (into_iter_items at.coefficient-iterator) by) ≡ multiply_from c.args.terms by =
    subst (λ b. join out (multiply_from (into_iter_items at.coefficient-iterator) b) ≡ multiply_from c.args.terms b) by_is at.invariant.same in
    ranged_multiply c.args.terms by out (sym kept ∙ ap (λ l. join out (multiply_from l by)) gone ∙ ap Ok (append-nil out))

pub returns-clause-exact : goal.returns-clause-exact
returns-clause-exact c =
    let at = c.loop-coefficient in
    let by = c.args.by in
    let out = at.multiplied in
    let gone : into_iter_items at.coefficient-iterator ≡ [] = nil_from_length _ (sym at.invariant.left ∙ c.in-None.ensures.steps.0) in
    let by_is : to_z w128 (of_z w128 by) ≡ by = search rules in
    let kept : join out (multiply_from (into_iter_items at.coefficient-iterator) by) ≡ multiply_from c.args.terms by =
    subst (λ b. join out (multiply_from (into_iter_items at.coefficient-iterator) b) ≡ multiply_from c.args.terms b) by_is at.invariant.same in
    let whole : multiply_from c.args.terms by ≡ Ok out = sym kept ∙ ap (λ l. join out (multiply_from l by)) gone ∙ ap Ok (append-nil out) in
    search (rules, whole)
