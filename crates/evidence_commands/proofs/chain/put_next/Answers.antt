use Rattle.evidence_commands.proofs.Prelude.{rules, ◌≡◌, ◌+◌, ◌++◌, ℕ, List, Some, false, sym, subst, ap, ◌∙◌, Term, IsRowOver, is_step, line_before, GoesOn, IsStepSpelled, IsLineSpelled, use_by, line_by, use_text, line_text, all_there, line_over, line_stays, step_spelled, line_spelled, use_is_text, line_is_text}
use Rattle.evidence_commands.proofs.ChainTexts.{same_text, next_put}
use Rattle.evidence_commands.proofs.chain.put_next.Goals as goal
use Rattle.evidence_commands.proofs.chain.put_next.Goals.{In_ok-next, In-Some}

goes : (c : In_ok-next) → GoesOn c.args.problem.now c.args.certificate.now c.args.place c.at-row.result.now c.in_ok-next.next
goes c = c.in_ok-next.ensures.line c.at-row.result.now c.at-row.ensures

over : (c : In_ok-next) → IsRowOver c.args.problem.now.parts.quiver c.at-row.result.now
over c =
    let ds = c.args.problem.now.parts.quiver in
    all_there (IsRowOver ds) c.args.certificate.now.rows c.args.place c.at-row.result.now c.requires.checkable.letters c.at-row.ensures

-- the row is no step
pub returns-in-None-clause-line : goal.returns-in-None-clause-line
returns-in-None-clause-line c =
    let problem = c.args.problem.now in
    let certificate = c.args.certificate.now in
    let row = c.at-row.result.now in
    let no_step : is_step problem certificate.claim row ≡ false = subst (GoesOn problem certificate c.args.place row) c.in-None.is (goes (goal.at.returns-in-None-clause-line c).In_ok-next) in
    line_stays problem certificate c.args.place row c.at-row.ensures no_step c.args.line c.requires.line

pub returns-in-None-clause-written : goal.returns-in-None-clause-written
returns-in-None-clause-written c =
    let problem = c.args.problem.now in
    let certificate = c.args.certificate.now in
    let row = c.at-row.result.now in
    let no_step : is_step problem certificate.claim row ≡ false = subst (GoesOn problem certificate c.args.place row) c.in-None.is (goes (goal.at.returns-in-None-clause-written c).In_ok-next) in
    λ front is. is ∙ ap (λ (t : List ℕ). front ++ t) (sym (same_text problem certificate c.args.place row c.at-row.ensures no_step))

-- it is one
some : (c : In-Some) → GoesOn c.args.problem.now c.args.certificate.now c.args.place c.at-row.result.now (Some c.in-Some.next)
some c = subst (GoesOn c.args.problem.now c.args.certificate.now c.args.place c.at-row.result.now) c.in-Some.is (c.in_ok-next.ensures.line c.at-row.result.now c.at-row.ensures)

spelled : (c : In-Some) → IsStepSpelled c.args.texts.now c.at-row.result.now
spelled c =
    let ds = c.args.problem.now.parts.quiver in
    step_spelled ds c.args.texts.now c.requires.texts c.at-row.result.now
    (all_there (IsRowOver ds) c.args.certificate.now.rows c.args.place c.at-row.result.now c.requires.checkable.letters c.at-row.ensures)

pub put_use-requires-clause-left : goal.put_use-requires-clause-left
put_use-requires-clause-left c = (spelled (goal.at.put_use-requires-clause-left c).In-Some).left

pub put_use-requires-clause-right : goal.put_use-requires-clause-right
put_use-requires-clause-right c = (spelled (goal.at.put_use-requires-clause-right c).In-Some).right

pub put_line-requires : goal.put_line-requires
put_line-requires c =
    let problem = c.args.problem.now in
    let certificate = c.args.certificate.now in
    let it = some (goal.at.put_line-requires c).In-Some in
    subst (λ (line : List Term). IsLineSpelled c.args.texts.now line) (sym it.1.terms)
    (line_spelled problem.parts.quiver c.args.texts.now c.requires.texts (line_before problem certificate (c.args.place + 1)) (line_over problem certificate (c.args.place + 1)))

pub returns-in_ok-put_line-in-Some-clause-line : goal.returns-in_ok-put_line-in-Some-clause-line
returns-in_ok-put_line-in-Some-clause-line c = (some (goal.at.returns-in_ok-put_line-in-Some-clause-line c).In-Some).1

pub returns-in_ok-put_line-in-Some-clause-written : goal.returns-in_ok-put_line-in-Some-clause-written
returns-in_ok-put_line-in-Some-clause-written c =
    let problem = c.args.problem.now in
    let certificate = c.args.certificate.now in
    let ds = problem.parts.quiver in
    let row = c.at-row.result.now in
    let it = some (goal.at.returns-in_ok-put_line-in-Some-clause-written c).In-Some in
    let used : c.put_use.new.out.items ≡ c.args.out.now.items ++ use_by c.args.texts.now row = search rules in
    let put : c.put_line.new.out.items ≡ c.put_use.new.out.items ++ line_by c.args.texts.now c.in-Some.next.poly.terms = search rules in
    let use_is : use_by c.args.texts.now row ≡ use_text ds row = use_is_text ds c.args.texts.now c.requires.texts row (over (goal.at.returns-in_ok-put_line-in-Some-clause-written c).In_ok-next) in
    let line_is : line_by c.args.texts.now c.in-Some.next.poly.terms ≡ line_text ds (line_before problem certificate (c.args.place + 1)) =
    ap (line_by c.args.texts.now) it.1.terms
    ∙ line_is_text ds c.args.texts.now c.requires.texts (line_before problem certificate (c.args.place + 1)) (line_over problem certificate (c.args.place + 1)) in
    λ front is.
    next_put problem certificate c.args.place row c.at-row.ensures it.0 front c.args.out.now.items c.put_use.new.out.items c.put_line.new.out.items is
    (used ∙ ap (λ (t : List ℕ). c.args.out.now.items ++ t) use_is) (put ∙ ap (λ (t : List ℕ). c.put_use.new.out.items ++ t) line_is)
