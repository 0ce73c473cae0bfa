use Rattle.ambiguities.proofs.Prelude.{rules, ◌≡◌, MatchResult, Ok, Err, refl, sym, subst, arith, combined, Explains}
use Rattle.ambiguities.proofs.Numbers.{rule_at-last}
use Rattle.ambiguities.proofs.Exits.{exit_left, exit_right, after_both}
use Rattle.ambiguities.proofs.polynomial.combination.Goals as goal

pub rule_with-requires-clause-last : goal.rule_with-requires-clause-last
rule_with-requires-clause-last c = omega (arith, rule_at-last c.args.rules.now c.args.which.now.i c.requires.ambiguity.first c.requires.ambiguity.first_numbered)

pub returns-in_err-left : goal.returns-in_err-left
returns-in_err-left c =
    let back : c.from_residual.result ≡ Err c.in_err-left.field-0.0 = search rules in
    rw back (exit_left c.args.rules.now c.args.rules.now refl c.args.which.now c.rule_with.ensures c.requires.first
    c.in_err-left.field-0.0 (search rules))

pub rule_with-requires-2-clause-last : goal.rule_with-requires-2-clause-last
rule_with-requires-2-clause-last c = omega (arith, rule_at-last c.args.rules.now c.args.which.now.j c.requires.ambiguity.second c.requires.ambiguity.second_numbered)

pub returns-in_err-right : goal.returns-in_err-right
returns-in_err-right c =
    let back : c.from_residual-in_err-right.result ≡ Err c.in_err-right.field-0.0 = search rules in
    rw back (exit_right c.args.rules.now c.args.rules.now refl c.args.which.now c.rule_with.ensures c.requires.first
    c.in_ok-left.left.terms (search rules) c.rule_with-2.ensures c.requires.second c.in_err-right.field-0.0 (search rules))

pub returns : goal.returns
returns c =
    let m = c.in_ok-left.left.terms in
    let n = c.in_ok-right.right.terms in
    let is = after_both c.args.rules.now c.args.rules.now refl c.args.which.now c.rule_with.ensures c.requires.first
    m (search rules) c.rule_with-2.ensures c.requires.second n (search rules) in
    let made : MatchResult c.combine.result (λ p. combined c.args.first.now.coef m c.args.second.now.coef n ≡ Ok p.terms) (Explains (combined c.args.first.now.coef m c.args.second.now.coef n)) = search rules in
    subst (λ r. MatchResult c.combine.result (λ p. r ≡ Ok p.terms) (Explains r)) (sym is) made
