use Rattle.statement_names.proofs.Prelude.{◌≡◌, ◌∙◌, false, IfOk, ◌++◌, length, map, take, drop, replicate, get_or, ap, subst, sym, rules, take-append_seam, object_count, an_object, is_marked, Marks, numbers_that}
use Rattle.statement_names.proofs.MarkLemmas.{marked_numbers}
use Rattle.statement_names.proofs.marked.read_marked.Goals as goal

pub returns : goal.returns
returns c =
    let n = object_count c.args.quiver.now in
    let test = is_marked c.args.quiver.now c.args.statements.now in
    let before : c.deref_mut.result.now ≡ replicate n false = search rules in
    let same : c.in_ok-marks.marks.len ≡ length c.mark_statements.new.marks = search rules in
    let more = drop (length c.mark_statements.new.marks) c.in_ok-marks.marks.items in
    let after : c.deref.result.now ≡ c.mark_statements.new.marks =
    c.deref.ensures.value ∙ ap (λ k. take k (c.mark_statements.new.marks ++ more)) same ∙ take-append_seam c.mark_statements.new.marks more in
    let size : length c.deref.result.now ≡ n = search rules in
    let whole : Marks (replicate n false) c.deref.result.now test =
    subst (λ new. Marks (replicate n false) new test) (sym after)
    (subst (λ old. Marks old c.mark_statements.new.marks test) before c.in_ok-mark_statements.ensures) in
    let numbers : numbers_that (length c.deref.result.now) (λ v. get_or c.deref.result.now v false) ≡ numbers_that n test =
    marked_numbers n c.deref.result.now test size whole in
    subst (λ ns. IfOk c.marked_objects.result (λ objects. objects ≡ map an_object ns)) numbers c.marked_objects.ensures
