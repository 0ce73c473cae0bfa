use Rattle.library_tests.proofs.Prelude.{ℕ, ◌<◌, ◌+◌, List, subst, sym, arith, All}
use Rattle.library_tests.proofs.Below.{below-push}
use Rattle.library_tests.proofs.matching.words_with_one_beginning.Goals as goal

pub loop-number-preserved : goal.loop-number-preserved
loop-number-preserved g c =
    subst (λ (entries : List (List ℕ × ℕ)). All (λ e. e.1 < c.loop-number.number + 1 + 1) entries) (sym c.insert-in-loop-number.ensures)
    (below-push c.loop-number.index _ (c.loop-number.number + 1) (c.loop-number.number + 1 + 1) c.loop-number.invariant (omega arith))
