use Rattle.library_tests.proofs.Prelude.{ℕ, ◌<◌, ◌+◌, List, subst, sym, arith, All, All-take}
use Rattle.library_tests.proofs.Below.{below-push}
use Rattle.library_tests.proofs.matching.compare_all.Goals as goal

pub insert-requires-clause-above : goal.insert-requires-clause-above
insert-requires-clause-above g c =
    let number = c.loop-number.number in
    subst (λ (entries : List (List ℕ × ℕ)). All (λ e. e.1 < number) entries) (sym c.truncate.ensures)
    (All-take (λ e. e.1 < number) _ c.loop-number.index c.loop-number.invariant)

pub loop-number-preserved : goal.loop-number-preserved
loop-number-preserved g c =
    let number = c.loop-number.number in
    let cut : All (λ e. e.1 < number) c.truncate.new.self =
    subst (λ (entries : List (List ℕ × ℕ)). All (λ e. e.1 < number) entries) (sym c.truncate.ensures)
    (All-take (λ e. e.1 < number) _ c.loop-number.index c.loop-number.invariant) in
    subst (λ (entries : List (List ℕ × ℕ)). All (λ e. e.1 < number + 1) entries) (sym c.insert.ensures)
    (below-push c.truncate.new.self _ number (number + 1) cut (omega arith))
