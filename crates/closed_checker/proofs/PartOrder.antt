-- The order of words that a problem asks for is admissible.
use Rattle.closed_checker.proofs.Prelude.{ℕ, asked_rank, asked_cmp-admissible, IsAdmissible, Problem, order_of}

pub order_laws : (problem : Problem) (letters : ℕ) → IsAdmissible letters (order_of problem) (asked_rank letters problem.parts.order)
order_laws problem letters = asked_cmp-admissible letters problem.parts.order
