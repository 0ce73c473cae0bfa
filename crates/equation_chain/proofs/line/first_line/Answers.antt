use Rattle.equation_chain.proofs.Prelude.{rules, arith, ◌≡◌, None, length, sym, ap, subst, ◌∙◌, to_z, of_z, List, Term, first_overflow, scaled, products, IsNumberUpTo, length-polynomials, claim_in, letters_in}
use mir.Syntax.{w128}
use Rattle.equation_chain.proofs.Numbered.{poly_named}
use Rattle.equation_chain.proofs.Lines.{first_is}
use Rattle.equation_chain.proofs.Chains.{claim_descends}
use Rattle.equation_chain.proofs.Going.{one_line}
use Rattle.equation_chain.proofs.line.first_line.Goals as goal
use Rattle.equation_chain.proofs.line.first_line.Goals.{After-at-claim}

pub overflow_sub-place : goal.overflow_sub-place
overflow_sub-place c = let least = c.requires.accepted.adds_up.begins.posed.claim.least in omega (arith, least)

pub at-claim-requires : goal.at-claim-requires
at-claim-requires c =
    let posed = c.requires.accepted.adds_up.begins.posed.claim in
    let least = posed.least in
    let most = posed.most in
    let long = length-polynomials c.args.problem.now.parts.claims in
    omega (arith, least, most, long)

-- the claim is the one that is named
named : (c : After-at-claim) → c.at-claim.result.now.terms ≡ claim_in c.args.problem.now c.args.certificate.now
named c =
    let posed = c.requires.accepted.adds_up.begins.posed.claim in
    let within : IsNumberUpTo (length c.args.problem.now.parts.claims) c.args.certificate.now.claim =
    subst (λ n. IsNumberUpTo n c.args.certificate.now.claim) (length-polynomials c.args.problem.now.parts.claims) posed in
    poly_named c.args.problem.now.parts.claims c.args.certificate.now.claim c.at-claim.result.now c.at-claim.ensures within

pub multiple_of-requires-clause-products : goal.multiple_of-requires-clause-products
multiple_of-requires-clause-products c =
    let d = c.args.certificate.now.denominator in
    let is : to_z w128 (of_z w128 d) ≡ d = search rules in
    let plain : first_overflow (products d c.at-claim.result.now.terms) ≡ None =
    subst (λ (p : List Term). first_overflow (products d p) ≡ None) (sym (named (goal.at.multiple_of-requires-clause-products c).After-at-claim)) c.requires.accepted.adds_up.begins.products in
    subst (λ k. first_overflow (products k c.at-claim.result.now.terms) ≡ None) (sym is) plain

pub returns-clause-line : goal.returns-clause-line
returns-clause-line c =
    let d = c.args.certificate.now.denominator in
    let is : to_z w128 (of_z w128 d) ≡ d = search rules in
    let terms = c.in_ok-poly.ensures.multiple ∙ ap (λ k. scaled k c.at-claim.result.now.terms) is ∙ ap (scaled d) (named (goal.at.returns-clause-line c).After-at-claim)
    ∙ first_is c.args.problem.now c.args.certificate.now (claim_descends c.args.problem.now c.args.certificate.now) in
    record { terms = terms; letters = c.letters_in-letters.ensures ∙ ap letters_in terms ∙ one_line c.args.problem.now c.args.certificate.now }
