use Rattle.ambiguities.proofs.Prelude.{rules, ◌≡◌, ◌+◌, ◌-◌, pos, neg_ℤ, ◌<ℤ◌, int_div, subst, length, take, drop, Some, sym, ap₂, ◌∙◌, arith, take_rest, Row, IsCoefficient, rule_at-all, gcd_of, same_number, rule_at, overlap_word_of, first_row, second_row}
use Rattle.traced_rows.specs.declared.Origin.TheVariants as origin
use Rattle.ambiguities.proofs.Joined.{lead_at-is, leading_at-is, first_fits, second_fits}
use Rattle.ambiguities.proofs.polynomial.make_rows.Goals as goal

pub factors-of_first-requires-clause-first_in : goal.factors-of_first-requires-clause-first_in
factors-of_first-requires-clause-first_in c =
    let all = c.args.rules.now in
    let g = c.rule_with-first.result.now in
    let fits = rule_at-all (λ r. IsCoefficient r.leading) all c.args.which.now.i g c.rule_with-first.ensures c.requires.leading_in in
    subst IsCoefficient (sym (same_number g.leading fits)) fits

pub factors-of_first-requires-clause-second_in : goal.factors-of_first-requires-clause-second_in
factors-of_first-requires-clause-second_in c =
    let all = c.args.rules.now in
    let h = c.rule_with-second.result.now in
    let fits = rule_at-all (λ r. IsCoefficient r.leading) all c.args.which.now.j h c.rule_with-second.ensures c.requires.leading_in in
    subst IsCoefficient (sym (same_number h.leading fits)) fits

pub factors-of_first-requires-clause-positive : goal.factors-of_first-requires-clause-positive
factors-of_first-requires-clause-positive c =
    let all = c.args.rules.now in
    let h = c.rule_with-second.result.now in
    let fits = rule_at-all (λ r. IsCoefficient r.leading) all c.args.which.now.j h c.rule_with-second.ensures c.requires.leading_in in
    subst (λ z. pos 0 <ℤ z) (sym (same_number h.leading fits)) (rule_at-all (λ r. pos 0 <ℤ r.leading) all c.args.which.now.j h c.rule_with-second.ensures c.requires.positive)

pub slice-requires-clause-order : goal.slice-requires-clause-order
slice-requires-clause-order c =
    let first = c.rule_with-first.result.now in
    omega (arith, first_fits c.args.rules.now c.args.which.now c.requires.ambiguity first c.rule_with-first.ensures c.in_ok-word.word c.in_ok-word.ensures)

pub row_around-requires-clause-before : goal.row_around-requires-clause-before
row_around-requires-clause-before c =
    let second = c.rule_with-second.result.now in
    omega (arith, second_fits c.args.rules.now c.args.which.now c.requires.ambiguity second c.rule_with-second.ensures c.in_ok-word.word c.in_ok-word.ensures)

pub overflow_add-end : goal.overflow_add-end
overflow_add-end c =
    let second = c.rule_with-second.result.now in
    omega (arith, second_fits c.args.rules.now c.args.which.now c.requires.ambiguity second c.rule_with-second.ensures c.in_ok-word.word c.in_ok-word.ensures)

pub row_around-requires-clause-behind : goal.row_around-requires-clause-behind
row_around-requires-clause-behind c =
    let second = c.rule_with-second.result.now in
    omega (arith, second_fits c.args.rules.now c.args.which.now c.requires.ambiguity second c.rule_with-second.ensures c.in_ok-word.word c.in_ok-word.ensures)

pub returns-clause-first_in : goal.returns-clause-first_in
returns-clause-first_in c =
    let fits = c.factors-of_first.ensures.first_in in
    subst IsCoefficient (sym (same_number c.factors-of_first.result.0 fits)) fits

pub returns-clause-second_in : goal.returns-clause-second_in
returns-clause-second_in c =
    let is : c.in_ok-right.right.coef ≡ c.negate.result = search rules in
    subst IsCoefficient (sym is) c.negate.ensures.in_range

pub returns-clause-first : goal.returns-clause-first
returns-clause-first c =
    let all = c.args.rules.now in
    let a = c.args.which.now in
    let g = c.rule_with-first.result.now in
    let h = c.rule_with-second.result.now in
    let first : rule_at all a.i ≡ Some g = c.rule_with-first.ensures in
    let second : rule_at all a.j ≡ Some h = c.rule_with-second.ensures in
    let word : c.in_ok-word.word ≡ overlap_word_of all a = c.in_ok-word.ensures in
    let factor : c.factors-of_first.result.0 ≡ int_div h.leading (gcd_of g.leading h.leading) = search rules in
    let behind : c.in_ok-slice.field-0 ≡ take (length c.in_ok-word.word - length g.lead) (drop (length g.lead) c.in_ok-word.word) = search rules in
    let coef = factor ∙ ap₂ (λ k l. int_div l (gcd_of k l)) (sym (leading_at-is all a.i g first)) (sym (leading_at-is all a.j h second)) in
    let right = behind ∙ take_rest c.in_ok-word.word (length g.lead) ∙ ap₂ (λ n w. drop (length n) w) (sym (lead_at-is all a.i g first)) word in
    let whole : ◌≡◌ {A = Row} (record { coef = c.factors-of_first.result.0; left = c.new.result; from = origin.Rule a.i; right = c.in_ok-slice.field-0 }) (first_row all a) =
    λ i. record { coef = coef i; left = c.new.ensures i; from = origin.Rule a.i; right = right i } in
    search (rules, whole)

pub returns-clause-second : goal.returns-clause-second
returns-clause-second c =
    let all = c.args.rules.now in
    let a = c.args.which.now in
    let g = c.rule_with-first.result.now in
    let h = c.rule_with-second.result.now in
    let w = c.in_ok-word.word in
    let first : rule_at all a.i ≡ Some g = c.rule_with-first.ensures in
    let second : rule_at all a.j ≡ Some h = c.rule_with-second.ensures in
    let word : w ≡ overlap_word_of all a = c.in_ok-word.ensures in
    let factor : c.negate.result ≡ neg_ℤ (int_div g.leading (gcd_of g.leading h.leading)) = search rules in
    let coef = factor ∙ ap₂ (λ k l. neg_ℤ (int_div k (gcd_of k l))) (sym (leading_at-is all a.i g first)) (sym (leading_at-is all a.j h second)) in
    let lead = sym (lead_at-is all a.j h second) in
    let made : ◌≡◌ {A = Row} c.in_ok-right.right (record { coef = c.negate.result; left = take a.place w; from = origin.Rule a.j; right = drop (a.place + length h.lead) w }) = search rules in
    let whole : ◌≡◌ {A = Row} (record { coef = c.negate.result; left = take a.place w; from = origin.Rule a.j; right = drop (a.place + length h.lead) w }) (second_row all a) =
    λ i. record { coef = coef i; left = take a.place (word i); from = origin.Rule a.j; right = drop (a.place + length (lead i)) (word i) } in
    search (rules, made ∙ whole)
