use Rattle.normal_category.proofs.Prelude.{rules, All, IsTypedIn, PlaysIn}
use Rattle.normal_category.proofs.PassedRules.{typed_in_play}
use Rattle.normal_category.proofs.Problems.{problem_is_sharp}
use Rattle.normal_category.proofs.forms.normal_forms.Goals as goal

pub returns-clause-sharp : goal.returns-clause-sharp
returns-clause-sharp c =
    let parts = c.args.problem.now.parts in
    let list = c.args.rules.now.rules in
    let typed : All (IsTypedIn parts) list = search rules in
    let plays : All (PlaysIn parts) list = search rules in
    problem_is_sharp c.args.problem.now list c.requires.are_rules c.requires.resolved c.requires.generated
    (typed_in_play parts list typed plays) c.args.claim c.requires.first c.requires.last c.requires.outside
