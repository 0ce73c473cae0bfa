use Rattle.closed_checker.proofs.Prelude.{rules, ◌≡◌, true, length, Ok, ap, subst, ◌∙◌, arith, rest_of}
use Rattle.closed_checker.specs.declared.part.Part.TheVariants as part
use Rattle.closed_checker.proofs.check.compare_claim.Goals as goal

pub returns-clause-closed : goal.returns-clause-closed
returns-clause-closed c =
    let problem = c.args.problem.now in
    let b = c.args.basis.now in
    let got = c.in_ok-got.got.terms in
    let yes : c.same.result ≡ true = search rules in
    let same : got ≡ b.rest.terms = c.same.ensures.terms.0 yes in
    let left : rest_of problem b part.Claim ≡ Ok got = c.in_ok-got.ensures.rest in
    record {
      has_rules = c.requires.has_rules;
      generators = λ number is. c.requires.generators.at number is.least is.most;
      ambiguities = c.requires.ambiguities.at;
      claim = subst (λ p. rest_of problem b part.Claim ≡ Ok p) same left;
      nonzero = λ none. let empty : length got ≡ 0 = ap length (same ∙ none) in absurd (omega (arith, c.if-terms-eq0.false, c.terms.ensures, empty));
    }
