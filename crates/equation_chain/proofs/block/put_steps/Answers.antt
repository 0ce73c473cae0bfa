use Rattle.equation_chain.proofs.Prelude.{rules, arith, ◌≡◌, ◌+◌, ◌<◌, ◌++◌, ◌∷◌, [], ℕ, take, length, get_or, ap, sym, subst, ◌∙◌, flat_map, zip, iter_rest, zip_first, zip_second, take_all, length-append, length-map, zip_turn, zip_end, length-zip, Poly, CertRow, polynomials, use_by, line_by, IsStepSpelled, IsLineSpelled}
use Rattle.equation_chain.proofs.Blocks.{step_put, poly_at}
use Rattle.equation_chain.proofs.block.put_steps.Goals as goal
use Rattle.equation_chain.proofs.block.put_steps.Goals.{In-Some}

-- where this turn's step and line are
record Turn (c : In-Some) : Type 0 where
  in_steps : length c.loop-step.yielded < length c.args.steps.now
  in_lines : length c.loop-step.yielded < length c.args.lines.now
  step : (d : CertRow) → c.in-Some.step.now ≡ get_or c.args.steps.now (length c.loop-step.yielded) d
  line : (d : Poly) → c.in-Some.line.now ≡ get_or c.args.lines.now (length c.loop-step.yielded) d

turn : (c : In-Some) → Turn c
turn c =
    let first : iter_rest (zip_first c.into_iter-step-iterator.result) ≡ c.args.steps.now = search rules in
    let second : iter_rest (zip_second c.into_iter-step-iterator.result) ≡ c.args.lines.now = search rules in
    let it = zip_turn c.args.steps.now c.args.lines.now c.loop-step.yielded c.into_iter-step-iterator.result c.loop-step.step-iterator c.next.new.self c.next.result first second c.loop-step.yielded_by
    (c.in-Some.step, c.in-Some.line) c.in-Some.is c.next.ensures.steps in
    record { in_steps = it.0; in_lines = it.1; step = it.2; line = it.3 }

spelled : (c : In-Some) → IsStepSpelled c.args.texts.now c.in-Some.step.now
spelled c =
    let it = turn c in
    subst (IsStepSpelled c.args.texts.now) (sym (it.step c.in-Some.step.now)) (c.requires.steps (length c.loop-step.yielded) c.in-Some.step.now it.in_steps)

pub put_use-requires-clause-left : goal.put_use-requires-clause-left
put_use-requires-clause-left c = (spelled (goal.at.put_use-requires-clause-left c).In-Some).left

pub put_use-requires-clause-right : goal.put_use-requires-clause-right
put_use-requires-clause-right c = (spelled (goal.at.put_use-requires-clause-right c).In-Some).right

pub put_line-requires : goal.put_line-requires
put_line-requires c =
    let it = turn (goal.at.put_line-requires c).In-Some in
    subst (λ (p : Poly). IsLineSpelled c.args.texts.now p.terms) (sym (it.line c.in-Some.line.now)) (c.requires.lines (length c.loop-step.yielded) c.in-Some.line.now it.in_lines)

pub loop-step-preserved : goal.loop-step-preserved
loop-step-preserved c =
    let steps = c.args.steps.now in
    let lines = polynomials c.args.lines.now in
    let place : ℕ = length c.loop-step.yielded in
    let it = turn (goal.at.loop-step-preserved c).In-Some in
    let in_lines = it.in_lines in
    let as_many : length lines ≡ length c.args.lines.now = length-map c.args.lines.now (λ (p : Poly). p.terms) in
    let long : length (c.loop-step.yielded ++ (c.in-Some.step, c.in-Some.line) ∷ []) ≡ place + 1 = length-append c.loop-step.yielded ((c.in-Some.step, c.in-Some.line) ∷ []) in
    let used : c.put_use.new.out.items ≡ c.loop-step.out.items ++ use_by c.args.texts.now c.in-Some.step.now = search rules in
    let put : c.put_line.new.out.items ≡ c.put_use.new.out.items ++ line_by c.args.texts.now c.in-Some.line.now.terms = search rules in
    step_put c.args.texts.now steps lines place c.in-Some.step.now c.in-Some.line.now.terms c.args.out.now.items c.loop-step.out.items c.put_use.new.out.items c.put_line.new.out.items
    it.in_steps (omega (arith, in_lines, as_many)) (it.step c.in-Some.step.now) (poly_at c.args.lines.now place c.in-Some.line.now it.in_lines (it.line c.in-Some.line.now))
    c.loop-step.invariant used put
    ∙ ap (λ (n : ℕ). c.args.out.now.items ++ flat_map (λ s. use_by c.args.texts.now s.0 ++ line_by c.args.texts.now s.1) (take n (zip steps lines))) (sym long)

pub returns : goal.returns
returns c =
    let steps = c.args.steps.now in
    let lines = polynomials c.args.lines.now in
    let first : iter_rest (zip_first c.into_iter-step-iterator.result) ≡ steps = search rules in
    let second : iter_rest (zip_second c.into_iter-step-iterator.result) ≡ c.args.lines.now = search rules in
    let end = zip_end steps c.args.lines.now c.loop-step.yielded c.into_iter-step-iterator.result c.loop-step.step-iterator c.next.new.self c.next.result first second c.loop-step.yielded_by
    c.in-None.is c.next.ensures.steps in
    let long = length-zip steps lines in
    let as_many : length lines ≡ length c.args.lines.now = length-map c.args.lines.now (λ (p : Poly). p.terms) in
    c.loop-step.invariant
    ∙ ap (λ ps. c.args.out.now.items ++ flat_map (λ s. use_by c.args.texts.now s.0 ++ line_by c.args.texts.now s.1) ps)
    (take_all (length c.loop-step.yielded) (zip steps lines) (omega (arith, end, long, as_many)))
