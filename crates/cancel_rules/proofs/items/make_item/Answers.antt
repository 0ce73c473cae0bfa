use Rattle.cancel_rules.proofs.Prelude.{All, sym, subst, polynomials, letter_count, quiver_of, IsOver}
use Rattle.cancel_rules.proofs.Letters.{lemma_polynomial_over}
use Rattle.cancel_rules.proofs.Outcomes.{cancel_refused}
use Rattle.cancel_rules.proofs.items.make_item.Goals as goal

pub returns-in_ok-make_polynomial-in-Lemma-clause-letters : goal.returns-in_ok-make_polynomial-in-Lemma-clause-letters
returns-in_ok-make_polynomial-in-Lemma-clause-letters c =
    let ds = c.args.problem.now.parts.quiver in
    let readable = rw c.in-Lemma.is at c.requires.readable in
    let is = c.in_ok-make_polynomial-in-Lemma.ensures.polynomial in
    subst (All (λ t. IsOver (letter_count ds) t.1)) (sym is) (rw c.as_slice-generators.ensures (lemma_polynomial_over c.args.problem.now c.args.before.now c.in-Lemma.lemma c.requires.letters readable))

pub returns-in_ok-make_polynomial-in-Lemma-clause-made : goal.returns-in_ok-make_polynomial-in-Lemma-clause-made
returns-in_ok-make_polynomial-in-Lemma-clause-made c = λ proof marked. rw (c.in-Lemma.is, ← c.as_slice-generators.ensures) c.in_ok-make_polynomial-in-Lemma.ensures.made

pub returns-in-Cancel-clause-refused : goal.returns-in-Cancel-clause-refused
returns-in-Cancel-clause-refused c = λ proof marked.
    rw c.in-Cancel.is
    (cancel_refused (quiver_of c.args.problem.now.parts.quiver) proof (polynomials c.args.problem.now.generators) (polynomials c.args.before.now) c.args.rows c.in-Cancel.letter c.in-Cancel.side c.in-Cancel.item
    c.cancel.result (c.cancel.ensures.refused proof c.args.rows marked))
