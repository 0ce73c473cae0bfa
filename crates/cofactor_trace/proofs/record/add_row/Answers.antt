use Rattle.cofactor_trace.proofs.Prelude.{rules, ◌≡◌, ℤ, List, ◌*ℤ◌, ◌∷◌, [], map, None, Err, MatchResult, to_z, of_z, sym, ap, ap₂, subst, ◌∙◌, option_map, IsCoefficient, product_of, first-fits, first-fails, CertRow, share, overflow_in, IsFirst, known_from}
use mir.Syntax.{w128}
use Rattle.cofactor_trace.specs.declared.fault.ExpandFault.TheVariants as fault
use Rattle.cofactor_trace.proofs.record.add_row.Goals as goal

pub returns-in_err-factor-clause-exact : goal.returns-in_err-factor-clause-exact
returns-in_err-factor-clause-exact c =
    let known = known_from c.args.expansions.now.entries in
    let row = c.args.row.now in
    let k = share known c.args.common row in
    let share_is : c.quotient-share.result ≡ k = search rules in
    let fails : ¬ IsCoefficient (row.coef *ℤ k) = search rules in
    let back : c.from_residual.result ≡ Err (fault.Overflow (product_of row.coef k)) = search rules in
    rw back (ap (option_map fault.Overflow) (first-fails (product_of row.coef k) (map (λ (s : CertRow). product_of (row.coef *ℤ k) s.coef) (known row.from).rows) fails))

pub returns-in-Generator-clause-exact : goal.returns-in-Generator-clause-exact
returns-in-Generator-clause-exact c =
    let known = known_from c.args.expansions.now.entries in
    let row = c.args.row.now in
    let k = share known c.args.common row in
    let fits : IsCoefficient (row.coef *ℤ k) = search rules in
    let factor_is : c.in_ok-factor.factor ≡ row.coef *ℤ k = search rules in
    let inner_is : c.itself.result ∷ [] ≡ (known row.from).rows = ap (λ r. r ∷ []) c.itself.ensures ∙ ap (λ o. (known o).rows) (sym c.in-Generator.is) in
    let products = λ (z : ℤ) (rows : List CertRow). map (λ (s : CertRow). product_of z s.coef) rows in
    let exact : MatchResult c.add_joined.result (λ _. overflow_in (products c.in_ok-factor.factor (c.itself.result ∷ [])) ≡ None) (IsFirst (overflow_in (products c.in_ok-factor.factor (c.itself.result ∷ [])))) = search rules in
    subst (λ f. MatchResult c.add_joined.result (λ _. f ≡ None) (IsFirst f))
    (ap₂ (λ z rows. overflow_in (products z rows)) factor_is inner_is
    ∙ ap (option_map fault.Overflow) (sym (first-fits (product_of row.coef k) (products (row.coef *ℤ k) (known row.from).rows) fits)))
    exact

pub returns-in-Rule-clause-exact : goal.returns-in-Rule-clause-exact
returns-in-Rule-clause-exact c =
    let known = known_from c.args.expansions.now.entries in
    let row = c.args.row.now in
    let k = share known c.args.common row in
    let inner = c.rows_of_rule.result.now in
    let fits : IsCoefficient (row.coef *ℤ k) = search rules in
    let factor_is : c.in_ok-factor.factor ≡ row.coef *ℤ k = search rules in
    let inner_is : inner ≡ (known row.from).rows = c.rows_of_rule.ensures.exact ∙ ap (λ o. (known o).rows) (sym c.in-Rule.is) in
    let products = λ (z : ℤ) (rows : List CertRow). map (λ (s : CertRow). product_of z s.coef) rows in
    let back : to_z w128 (of_z w128 c.in_ok-factor.factor) ≡ c.in_ok-factor.factor = search rules in
    let exact = subst (λ z. MatchResult c.add_joined-in-Rule.result (λ _. overflow_in (products z inner) ≡ None) (IsFirst (overflow_in (products z inner)))) back c.add_joined-in-Rule.ensures.exact in
    subst (λ f. MatchResult c.add_joined-in-Rule.result (λ _. f ≡ None) (IsFirst f))
    (ap₂ (λ z rows. overflow_in (products z rows)) factor_is inner_is
    ∙ ap (option_map fault.Overflow) (sym (first-fits (product_of row.coef k) (products (row.coef *ℤ k) (known row.from).rows) fits)))
    exact
