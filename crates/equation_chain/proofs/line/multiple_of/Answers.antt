use Rattle.equation_chain.proofs.Prelude.{rules, ◌≡◌, Ok, subst, to_z, of_z, Explains, multiple_result}
use mir.Syntax.{w128}
use Rattle.equation_chain.proofs.Multiple.{multiple_fails, multiple_value}
use Rattle.equation_chain.proofs.line.multiple_of.Goals as goal

pub returns-in-Ok-clause-multiple : goal.returns-in-Ok-clause-multiple
returns-in-Ok-clause-multiple c =
    let is : to_z w128 (of_z w128 c.args.denominator) ≡ c.args.denominator = search rules in
    multiple_value c.args.denominator c.args.claim.now.terms c.in-Ok.poly.terms (subst (λ k. multiple_result k c.args.claim.now.terms ≡ Ok c.in-Ok.poly.terms) is c.in-Ok.ensures.exact)

pub returns-in-Err-clause-fault : goal.returns-in-Err-clause-fault
returns-in-Err-clause-fault c =
    let is : to_z w128 (of_z w128 c.args.denominator) ≡ c.args.denominator = search rules in
    multiple_fails c.args.denominator c.args.claim.now.terms c.args.claim.now.canonical c.requires.products 0 c.in-Err.fault c.step_fault.result
    (subst (λ k. Explains (multiple_result k c.args.claim.now.terms) c.in-Err.fault) is c.in-Err.ensures.exact) c.step_fault.ensures
