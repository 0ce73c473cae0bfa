use Rattle.refute_command.proofs.Prelude.{refl, subst, IsFoundFor, refuted}
use Rattle.refute_command.proofs.refute.verdict_by.Goals as goal

pub returns-in-Some : goal.returns-in-Some
returns-in-Some c seed claim is =
    let found = c.in-Some.found in
    let least = subst (IsFoundFor c.args.problem.now seed claim) c.in-Some.is is in
    refuted found.model (found.shape, found.candidate, least.0) refl
