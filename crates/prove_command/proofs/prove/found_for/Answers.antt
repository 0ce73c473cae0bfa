use Rattle.prove_command.proofs.Prelude.{◌≡◌, sym, subst, ◌∙◌, arith, All, IsClaimNumber, searched_from}
use Rattle.prove_command.proofs.Said.{searched_are_claims}
use Rattle.prove_command.proofs.prove.found_for.Goals as goal

-- a problem has few claims
pub searched_claims-requires : goal.searched_claims-requires
searched_claims-requires g c =
    let few = c.args.problem.now.posed.few_claims in
    let each = c.requires.one_each in
    omega (arith, few, each)

pub search_each-requires-clause-claims : goal.search_each-requires-clause-claims
search_each-requires-clause-claims g c κs alive =
    let problem = c.args.problem.now in
    let claims : c.as_slice.result.now ≡ searched_from c.args.asked.models 1 c.args.outcomes.now = c.as_slice.ensures.value ∙ c.in_ok-claims.ensures in
    subst (All (IsClaimNumber problem)) (sym claims) (searched_are_claims problem c.args.asked.models c.args.outcomes.now c.requires.one_each)

pub returns-clause-found : goal.returns-clause-found
returns-clause-found g c =
    let claims : c.as_slice.result.now ≡ searched_from c.args.asked.models 1 c.args.outcomes.now = c.as_slice.ensures.value ∙ c.in_ok-claims.ensures in
    rw (← claims) c.search_each.ensures.found

pub returns-clause-none : goal.returns-clause-none
returns-clause-none g c =
    let claims : c.as_slice.result.now ≡ searched_from c.args.asked.models 1 c.args.outcomes.now = c.as_slice.ensures.value ∙ c.in_ok-claims.ensures in
    rw (← claims) c.search_each.ensures.none
