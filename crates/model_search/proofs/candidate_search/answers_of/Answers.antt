use Rattle.model_search.proofs.Prelude.{◌≡◌, ◌<◌, ◌+◌, length, get_or, ap, sym, subst, ◌∙◌, arith, length-range_with_len, get_or-range_with_len, CanBeTested}
use Rattle.model_search.proofs.candidate_search.answers_of.Goals as goal

pub map_in_order-requires-clause-can_go : goal.map_in_order-requires-clause-can_go
map_in_order-requires-clause-can_go g c κs within place default inside =
    let job = c.args.tester.now in
    let numbers = c.as_slice.ensures.value ∙ c.in_ok-numbers.ensures in
    let below : place < c.args.count = subst (λ n. place < n)
    (ap length numbers ∙ length-range_with_len c.args.first c.args.count) inside in
    let is : get_or c.as_slice.result.now place default ≡ c.args.first + place =
    ap (λ xs. get_or xs place default) numbers ∙ get_or-range_with_len c.args.first c.args.count place default below in
    subst (λ k. CanBeTested job.pass.problem.now job.pass.claims.now job.pass.plan.now k × (length job.found.now ≡ length job.pass.claims.now)) (sym is)
    (c.requires.inside (c.args.first + place) (omega (arith, below)), c.requires.one_each)
