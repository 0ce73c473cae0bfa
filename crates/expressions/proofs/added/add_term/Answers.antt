use Rattle.expressions.proofs.Prelude.{◌≡◌, ◌≤◌, length, Ok, Err, rules, sym, ap, subst, ◌∙◌, arith, List, insert, IsBinarySearchResult, IsCoefficient, word_cmp, Term}
use Rattle.expressions.proofs.SumsWithTerm.{sum-inserted}
use Rattle.expressions.proofs.added.add_term.Goals as goal

pub add_at-requires-clause-in_range : goal.add_at-requires-clause-in_range
add_at-requires-clause-in_range c =
    let in_range : IsCoefficient c.args.term.0 = c.requires.nonzero.in_range 0 c.args.term (omega arith) in
    search rules

pub returns-in_ok-insert-in-Err : goal.returns-in_ok-insert-in-Err
returns-in_ok-insert-in-Err c =
    let p = c.args.terms.items in
    let i = c.in-Err.place in
    let t = c.args.term in
    let inside : i ≤ length p = search rules in
    let found = subst (λ (l : List Term). IsBinarySearchResult (λ u. word_cmp t.1 u.1) l (Err i)) c.deref.ensures.value c.in-Err.ensures.place in
    let put : c.from_vec.result ≡ insert p i t = search rules in
    sum-inserted p c.requires.shaped t.0 t.1 i inside found c.requires.nonzero ∙ ap Ok (sym put)
