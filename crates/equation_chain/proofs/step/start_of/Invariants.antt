use Rattle.equation_chain.proofs.Prelude.{◌≡◌, ℕ, List, ◌++◌, drop, leads, quiver_of}
use Rattle.equation_chain.proofs.step.start_of.Given as goal

-- from the object on the letters that are left lead as all letters lead from the target
abbrev pub invariant-loop-place : goal.invariant-loop-place
invariant-loop-place l = (u : ℕ) (rest : List ℕ) → leads (quiver_of l.quiver) u l.fn.target.0 (l.word ++ rest) ≡ leads (quiver_of l.quiver) u l.object.0 (drop l.place l.word ++ rest)
