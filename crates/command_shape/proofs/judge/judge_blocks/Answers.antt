use Rattle.command_shape.proofs.Prelude.{◌≡◌, ◌++◌, ℕ, ◌+◌, List, sym, subst, rules, line, block_text, Tells}
use Rattle.command_shape.proofs.Judging.{GoesOn, with_accepted, with_refused, all_judged}
use Rattle.command_shape.proofs.judge.judge_blocks.Goals as goal

-- a block is refused
pub returns-in-Refused : goal.returns-in-Refused
returns-in-Refused g c =
    let accepts = g.J.Judge.accepts c.args.problem.now in
    let refuses = g.J.Judge.refuses c.args.problem.now in
    let b = c.index-blocks-place.result in
    let cause : List ℕ = c.in-Refused.cause.items in
    let because : refuses b cause = subst (Tells (accepts b) (refuses b)) c.in-Refused.is c.in_ok-text.ensures in
    let judged = with_refused accepts refuses c.args.blocks.now c.loop-place.place c.loop-place.report.items b cause c.loop-place-test.true c.index-blocks-place.is because c.loop-place.invariant in
    search rules

-- a block is accepted
pub loop-place-preserved : goal.loop-place-preserved
loop-place-preserved g c =
    let accepts = g.J.Judge.accepts c.args.problem.now in
    let refuses = g.J.Judge.refuses c.args.problem.now in
    let b = c.index-blocks-place.result in
    let before = c.loop-place.report.items in
    let next = c.loop-place.place + 1 in
    let text : List ℕ = c.in-Accepted.text.items in
    let holds : accepts b text = subst (Tells (accepts b) (refuses b)) c.in-Accepted.is c.in_ok-text.ensures in
    let put : c.put_block.new.report.items ≡ before ++ line (block_text next text) = search rules in
    let more = with_accepted accepts refuses c.args.blocks.now c.loop-place.place before b text c.loop-place-test.true c.index-blocks-place.is holds c.loop-place.invariant in
    subst (GoesOn accepts refuses c.args.blocks.now next) (sym put) more

-- no block is left
pub returns : goal.returns
returns g c =
    let judged = all_judged (g.J.Judge.accepts c.args.problem.now) (g.J.Judge.refuses c.args.problem.now) c.args.blocks.now c.loop-place.place c.loop-place.report.items (search rules) c.loop-place.invariant in
    search rules
