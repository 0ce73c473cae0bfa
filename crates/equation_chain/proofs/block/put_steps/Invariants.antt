use Rattle.equation_chain.proofs.Prelude.{◌≡◌, ◌++◌, take, length, flat_map, zip, polynomials, use_by, line_by}
use Rattle.equation_chain.proofs.block.put_steps.Given as goal

-- the steps so far, each with its line
abbrev pub invariant-loop-step : goal.invariant-loop-step
invariant-loop-step l =
    l.out.items ≡ l.initial.out.items ++ flat_map (λ s. use_by l.texts s.0 ++ line_by l.texts s.1) (take (length l.yielded) (zip l.steps (polynomials l.lines)))
