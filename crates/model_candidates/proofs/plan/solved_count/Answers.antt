use Rattle.model_candidates.proofs.Prelude.{rules, ◌≤◌, take, arith, length-take-le, quiver_of, is_solved}
use Rattle.model_candidates.proofs.SolvedLetters.{few_kept}
use Rattle.model_candidates.proofs.plan.solved_count.Goals as goal

pub overflow_add-count : goal.overflow_add-count
overflow_add-count c =
    let w = c.args.word.now in
    let few = few_kept (is_solved (quiver_of c.args.quiver.now) c.args.solved.now) (take c.loop-place.place w) in
    let front = length-take-le c.loop-place.place w (omega (arith, c.loop-place-test.true, c.len-place-end.ensures.exact)) in
    let small : c.loop-place.count ≤ c.loop-place.place = omega (arith, few, front, c.loop-place.invariant) in
    search (rules, small)
