use Rattle.statement_names.proofs.Prelude.{◌≡◌, false, map, get_or, letter, numbers_that}
use Rattle.statement_names.proofs.solved.marked_letters.Given as goal

abbrev pub invariant-loop-number : goal.invariant-loop-number
invariant-loop-number l = l.letters ≡ map letter (numbers_that l.number (λ a. get_or l.marks a false))
