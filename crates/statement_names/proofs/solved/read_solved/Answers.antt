use Rattle.statement_names.proofs.Prelude.{◌≡◌, ◌∙◌, false, IfOk, length, map, replicate, get_or, ap, subst, sym, list_any, take_all, letter_count, Marks, letter, names_letter, solved_names, is_solved, numbers_that}
use Rattle.statement_names.proofs.MarkLemmas.{marked_numbers}
use Rattle.statement_names.proofs.solved.read_solved.Goals as goal

pub returns : goal.returns
returns c =
    let n = letter_count c.args.quiver.now in
    let whole : Marks (replicate n false) c.deref.result.now (is_solved c.args.quiver.now c.args.statements.now) =
    subst (λ marks. Marks (replicate n false) marks (is_solved c.args.quiver.now c.args.statements.now)) (sym c.deref.ensures.value)
    (subst (λ ss. Marks (replicate n false) c.loop-statement.solved.items (λ a. list_any (names_letter c.args.quiver.now a) (solved_names ss)))
    (take_all c.loop-statement.statement-index c.args.statements.now c.loop-statement-test.false) c.loop-statement.invariant.marked) in
    let numbers : numbers_that (length c.deref.result.now) (λ a. get_or c.deref.result.now a false) ≡ numbers_that n (is_solved c.args.quiver.now c.args.statements.now) =
    marked_numbers n c.deref.result.now (is_solved c.args.quiver.now c.args.statements.now) (ap length c.deref.ensures.value ∙ c.loop-statement.invariant.size) whole in
    subst (λ ns. IfOk c.marked_letters.result (λ letters. letters ≡ map letter ns)) numbers c.marked_letters.ensures
