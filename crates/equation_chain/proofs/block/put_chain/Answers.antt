use Rattle.equation_chain.proofs.Prelude.{rules, ◌≡◌, ◌++◌, List, ℕ, codes, sym, subst, ap, ◌∙◌, All, All-map, IsOver, Poly, letter_count, CertRow, polynomials, opening_text, lines_spelled, IsStepSpelled, IsLineSpelled, lines_text}
use Rattle.equation_chain.proofs.Spelled.{step_spelled, line_spelled, lines_are}
use Rattle.equation_chain.proofs.Blocks.{chain_put}
use Rattle.equation_chain.proofs.block.put_chain.Goals as goal

pub put_lines-requires-clause-steps : goal.put_lines-requires-clause-steps
put_lines-requires-clause-steps c =
    let texts = c.in_ok-texts.texts in
    subst (All (IsStepSpelled texts)) (sym c.as_slice.ensures) (λ k d below. step_spelled c.args.quiver.now texts c.in_ok-texts.ensures _ (c.requires.steps k d below))

pub put_lines-requires-clause-lines : goal.put_lines-requires-clause-lines
put_lines-requires-clause-lines c =
    let texts = c.in_ok-texts.texts in
    subst (All (λ (p : Poly). IsLineSpelled texts p.terms)) (sym c.as_slice-2.ensures) (λ k d below. line_spelled c.args.quiver.now texts c.in_ok-texts.ensures _ (c.requires.lines k d below))

pub returns : goal.returns
returns c =
    let ds = c.args.quiver.now in
    let chain = c.args.chain.now in
    let texts = c.in_ok-texts.texts in
    let before : List ℕ = c.args.out.now.items in
    let steps : c.as_slice.result.now ≡ chain.steps = search rules in
    let lines : c.as_slice-2.result.now ≡ chain.lines = search rules in
    let opening : c.put_opening.new.out.items ≡ before ++ opening_text (codes "chain 1\nclaim ") chain.claim chain.denominator = search rules in
    let spelled : lines_spelled texts chain.steps (polynomials chain.lines) ≡ lines_text ds chain.steps (polynomials chain.lines) =
    lines_are ds texts c.in_ok-texts.ensures chain.steps (polynomials chain.lines) c.requires.steps
    (All-map (λ l. All (λ t. IsOver (letter_count ds) t.1) l) (λ p. p.terms) chain.lines c.requires.lines) in
    let put : c.put_lines.new.out.items ≡ c.put_opening.new.out.items ++ lines_text ds chain.steps (polynomials chain.lines) = c.in_ok-put_lines.ensures ∙ ap (λ (t : List ℕ). c.put_opening.new.out.items ++ t) (ap (λ (l : List CertRow). lines_spelled texts l (polynomials c.as_slice-2.result.now)) steps ∙ ap (λ (l : List Poly). lines_spelled texts chain.steps (polynomials l)) lines ∙ spelled) in
    chain_put c.put.result before (opening_text (codes "chain 1\nclaim ") chain.claim chain.denominator) (lines_text ds chain.steps (polynomials chain.lines)) (codes "end") c.put_opening.new.out.items c.put_lines.new.out.items c.put.new.out.items
    opening put c.put.ensures
