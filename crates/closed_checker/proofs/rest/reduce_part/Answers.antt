use Rattle.closed_checker.proofs.Prelude.{◌-◌, letters_of}
use Rattle.closed_checker.proofs.ProblemLetters.{generators_over, claims_over, over_at}
use Rattle.closed_checker.proofs.PartAnswers.{generator_answer, claim_answer}
use Rattle.closed_checker.proofs.rest.reduce_part.Goals as goal

pub reduce-requires : goal.reduce-requires
reduce-requires c =
    let problem = c.args.problem.now in
    over_at problem.parts.quiver problem.generators (c.in-Generator.number - 1) (letters_of c.args.rules.now.order) c.at.result.now c.requires.rules.letters (generators_over problem) c.at.ensures

pub reduce-requires-in-Claim : goal.reduce-requires-in-Claim
reduce-requires-in-Claim c =
    let problem = c.args.problem.now in
    over_at problem.parts.quiver problem.parts.claims (c.args.basis.now.claim - 1) (letters_of c.args.rules.now.order) c.at-in-Claim.result.now c.requires.rules.letters (claims_over problem)
    c.at-in-Claim.ensures

pub returns-in-Generator : goal.returns-in-Generator
returns-in-Generator c =
    let rules = c.args.rules.now in
    generator_answer c.args.problem.now c.args.basis.now rules.order rules.rules c.requires.rules c.reduce.result c.args.part c.in-Generator.number c.at.result.now c.requires.reached c.in-Generator.is
    c.at.ensures c.reduce.ensures

pub returns-in-Claim : goal.returns-in-Claim
returns-in-Claim c =
    let rules = c.args.rules.now in
    claim_answer c.args.problem.now c.args.basis.now rules.order rules.rules c.requires.rules c.reduce-in-Claim.result c.args.part c.at-in-Claim.result.now c.requires.reached c.in-Claim.is
    c.at-in-Claim.ensures c.reduce-in-Claim.ensures
