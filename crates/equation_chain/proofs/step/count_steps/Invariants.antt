use Rattle.equation_chain.proofs.Prelude.{◌≡◌, ◌≤◌, take, length, steps_in}
use Rattle.equation_chain.proofs.step.count_steps.Given as goal

-- the steps among the rows so far
abbrev pub invariant-loop-row : goal.invariant-loop-row
invariant-loop-row l = record { so_far : l.count ≡ length (steps_in l.problem l.certificate.claim (take l.row-index l.rows)); few : l.count ≤ l.row-index }
