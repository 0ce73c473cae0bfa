use Rattle.cofactor_trace.proofs.Prelude.{rules, ◌≡◌, pos, ◌++◌, ◌∷◌, [], drop, map, Some, None, Err, MatchResult, sym, ap, subst, ◌∙◌, arith, drop_all, IsCoefficient, first_overflow, Made, lcm_of, common_multiple, multiple_products, IsScaled, records}
use Rattle.cofactor_trace.proofs.NamedRecords.{of_record, multiple_next, products_next, products_stop}
use Rattle.cofactor_trace.proofs.lemmas.common_scale.Goals as goal

pub raise-requires-clause-scale_in : goal.raise-requires-clause-scale_in
raise-requires-clause-scale_in c =
    let both = of_record c.args.lemmas.now c.loop-lemma.lemma-index c.lemma-item.result c.loop-lemma-test.true c.lemma-item.is IsScaled c.requires.lemmas in
    search (rules, both)

pub raise-requires-clause-scale_positive : goal.raise-requires-clause-scale_positive
raise-requires-clause-scale_positive c =
    let both = of_record c.args.lemmas.now c.loop-lemma.lemma-index c.lemma-item.result c.loop-lemma-test.true c.lemma-item.is IsScaled c.requires.lemmas in
    search (rules, both)

pub loop-lemma-preserved : goal.loop-lemma-preserved
loop-lemma-preserved c =
    let lemmas = c.args.lemmas.now in
    let goal_made = c.args.goal.now in
    let i = c.loop-lemma.lemma-index in
    let x = c.lemma-item.result in
    let old = c.loop-lemma.common in
    let new = c.in_ok-common.common in
    let both = of_record lemmas i x c.loop-lemma-test.true c.lemma-item.is IsScaled c.requires.lemmas in
    let new_is : new ≡ lcm_of old x.now.scale = search (rules, both) in
    let fits : IsCoefficient (lcm_of old x.now.scale) = search (rules, both, new_is) in
    let products_so_far : first_overflow (multiple_products old (map (λ m. m.scale) (records (drop i lemmas) ++ goal_made ∷ [])))
    ≡ first_overflow (multiple_products (pos 1) (map (λ m. m.scale) (records lemmas ++ goal_made ∷ []))) = search rules in
    let value_so_far : common_multiple old (map (λ m. m.scale) (records (drop i lemmas) ++ goal_made ∷ []))
    ≡ common_multiple (pos 1) (map (λ m. m.scale) (records lemmas ++ goal_made ∷ [])) = search rules in
    let products = products_next lemmas i x c.loop-lemma-test.true c.lemma-item.is goal_made old new new_is fits ∙ products_so_far in
    let value = multiple_next lemmas i x c.loop-lemma-test.true c.lemma-item.is goal_made old new new_is ∙ value_so_far in
    record { products = search (rules, products); value = search (rules, value); positive = search rules; in_range = search rules }

pub returns-in_err-common : goal.returns-in_err-common
returns-in_err-common c =
    let lemmas = c.args.lemmas.now in
    let goal_made = c.args.goal.now in
    let i = c.loop-lemma.lemma-index in
    let x = c.lemma-item.result in
    let old = c.loop-lemma.common in
    let o = c.in_err-common.field-0.0 in
    let so_far : first_overflow (multiple_products old (map (λ m. m.scale) (records (drop i lemmas) ++ goal_made ∷ [])))
    ≡ first_overflow (multiple_products (pos 1) (map (λ m. m.scale) (records lemmas ++ goal_made ∷ []))) = search rules in
    let stopped : first_overflow (multiple_products old (x.now.scale ∷ [])) ≡ Some o = search rules in
    let back : c.from_residual.result ≡ Err o = search rules in
    record { exact = rw back (sym so_far ∙ products_stop lemmas i x c.loop-lemma-test.true c.lemma-item.is goal_made old o stopped) }

pub returns : goal.returns
returns c =
    let lemmas = c.args.lemmas.now in
    let goal_made = c.args.goal.now in
    let i = c.loop-lemma.lemma-index in
    let old = c.loop-lemma.common in
    let whole = map (λ (m : Made). m.scale) (records lemmas ++ goal_made ∷ []) in
    let products_so_far : first_overflow (multiple_products old (map (λ m. m.scale) (records (drop i lemmas) ++ goal_made ∷ []))) ≡ first_overflow (multiple_products (pos 1) whole) = search rules in
    let value_so_far : common_multiple old (map (λ m. m.scale) (records (drop i lemmas) ++ goal_made ∷ [])) ≡ common_multiple (pos 1) whole = search rules in
    let last : goal_made.scale ∷ [] ≡ map (λ m. m.scale) (records (drop i lemmas) ++ goal_made ∷ []) = sym (ap (λ l. map (λ (m : Made). m.scale) (records l ++ goal_made ∷ [])) (drop_all i lemmas (omega arith))) in
    let first = first_overflow (multiple_products old (goal_made.scale ∷ [])) in
    let raised : MatchResult c.raise-2.result (λ d. (first ≡ None) × (d ≡ lcm_of old goal_made.scale)) (λ o. first ≡ Some o) = search rules in
    let valued = subst (λ z. MatchResult c.raise-2.result (λ d. (first ≡ None) × (d ≡ z)) (λ o. first ≡ Some o)) (ap (common_multiple old) last ∙ value_so_far) raised in
    record {
      exact =
          subst (λ f. MatchResult c.raise-2.result (λ d. (f ≡ None) × (d ≡ common_multiple (pos 1) whole)) (λ o. f ≡ Some o))
          (ap (λ l. first_overflow (multiple_products old l)) last ∙ products_so_far) valued;
    }
