use Rattle.adjoint_rules.proofs.Generators.{posed_quiver, generators_have_signatures, claims_have_signatures}
use Rattle.adjoint_rules.proofs.laws.problem_is_typed.Goals as goal

pub returns : goal.returns
returns c =
    let problem = c.args.problem.now in
    record {
      quiver = posed_quiver problem.parts problem.posed;
      generators = generators_have_signatures problem.parts problem.posed problem.generators problem.closed;
      claims = claims_have_signatures problem.parts problem.posed;
    }
