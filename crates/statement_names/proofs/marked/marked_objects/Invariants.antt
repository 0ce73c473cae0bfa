use Rattle.statement_names.proofs.Prelude.{◌≡◌, false, map, get_or, an_object, numbers_that}
use Rattle.statement_names.proofs.marked.marked_objects.Given as goal

abbrev pub invariant-loop-number : goal.invariant-loop-number
invariant-loop-number l = l.objects ≡ map an_object (numbers_that l.number (λ v. get_or l.marks v false))
