use Rattle.evidence_commands.proofs.Prelude.{rules, arith, ◌≡◌, ◌≤◌, ◌++◌, ℕ, List, length, sym, subst, ap, ◌∙◌, Term, line_before, IsLineSpelled, line_by, line_text, line_over, fewer, line_spelled, line_is_text}
use Rattle.evidence_commands.proofs.ChainTexts.{first_text, whole_text}
use Rattle.evidence_commands.proofs.chain.put_lines.Goals as goal

pub put_line-requires : goal.put_line-requires
put_line-requires c =
    let problem = c.args.problem.now in
    let certificate = c.args.certificate.now in
    subst (λ (line : List Term). IsLineSpelled c.args.texts.now line) (sym c.in_ok-line.ensures.line.terms)
    (line_spelled problem.parts.quiver c.args.texts.now c.requires.texts (line_before problem certificate 0) (line_over problem certificate 0))

pub loop-place-init : goal.loop-place-init
loop-place-init c = record {
  written = λ front is. is;
  line = c.in_ok-line.ensures.line;
  passed = record { at = λ i row below got step. absurd (omega (arith, below)) };
}

pub loop-place-preserved : goal.loop-place-preserved
loop-place-preserved c = record {
  written = λ front is. c.in_ok-line-2.ensures.written front (c.loop-place.invariant.written front is);
  line = c.in_ok-line-2.ensures.line;
  passed = c.in_ok-line-2.ensures.passed;
}

pub returns-clause-written : goal.returns-clause-written
returns-clause-written c =
    let problem = c.args.problem.now in
    let certificate = c.args.certificate.now in
    let ds = problem.parts.quiver in
    let before : List ℕ = c.args.out.now.items in
    let past : length certificate.rows ≤ c.loop-place.place = search rules in
    let put : c.put_line.new.out.items ≡ before ++ line_by c.args.texts.now c.in_ok-line.line.poly.terms = search rules in
    let line_is : line_by c.args.texts.now c.in_ok-line.line.poly.terms ≡ line_text ds (line_before problem certificate 0) =
    ap (line_by c.args.texts.now) c.in_ok-line.ensures.line.terms ∙ line_is_text ds c.args.texts.now c.requires.texts (line_before problem certificate 0) (line_over problem certificate 0) in
    c.loop-place.invariant.written before (put ∙ ap (λ (t : List ℕ). before ++ t) (line_is ∙ sym (first_text problem certificate)))
    ∙ ap (λ (t : List ℕ). before ++ t) (whole_text problem certificate c.loop-place.place past)

pub returns-clause-passed : goal.returns-clause-passed
returns-clause-passed c =
    let past : length c.args.certificate.now.rows ≤ c.loop-place.place = search rules in
    fewer c.args.problem.now c.args.certificate.now (length c.args.certificate.now.rows) c.loop-place.place past c.loop-place.invariant.passed
