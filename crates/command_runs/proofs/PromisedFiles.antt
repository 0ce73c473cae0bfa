-- The file of a problem has no fault.
use Rattle.command_runs.proofs.Prelude.{ℕ, List, Problem, IsStated, IsFaultlessFile}

pub has_no_fault : (bytes : List ℕ) (problem : Problem) (stated : IsStated bytes problem) → IsFaultlessFile bytes stated.statements
has_no_fault bytes problem stated = record { tree = stated.tree; faultless = stated.elaborated.no_fault }
