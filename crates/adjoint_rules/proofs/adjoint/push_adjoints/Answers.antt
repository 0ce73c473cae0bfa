use Rattle.adjoint_rules.proofs.Prelude.{rules, ◌≡◌, ◌++◌, sym, ap, subst, ◌∙◌, take, ◌+◌, option_to_list, AllZip, flat_map, append-nil, map-append, SamePolynomial, new_adjoint, Poly, quiver_of, polynomials, AllZip-append}
use Rattle.adjoint_rules.proofs.Ranges.{flat_map-take_more}
use Rattle.adjoint_rules.proofs.adjoint.push_adjoints.Goals.{in-Some+in_ok-push, in_default}
use Rattle.adjoint_rules.proofs.adjoint.push_adjoints.Goals as goal

pub loop-assumption-preserved : goal.loop-assumption-preserved
loop-assumption-preserved c =
    let q = quiver_of c.args.parts.now.quiver in
    let p = c.assumption-item.result in
    let old = c.loop-assumption.generators in
    let adjoint : AllZip SamePolynomial (polynomials (option_to_list c.in_ok-adjoint.field-0)) (new_adjoint q p.terms) = c.in_ok-adjoint.ensures q (search rules) in
    let whole : c.match-branch-3.generators ≡ old ++ option_to_list c.in_ok-adjoint.field-0 =
    elim c.match-branch-3.branch [
      | in-Some+in_ok-push w ↦ w.generators-is ∙ w.in_ok-push.ensures.ok ∙ ap (λ r. old ++ option_to_list r) (sym w.in-Some.is)
      | in_default w ↦ w.generators-is ∙ sym (append-nil old) ∙ ap (λ r. old ++ option_to_list r) (sym w.in_default.is)
    ] in
    let appended : polynomials c.match-branch-3.generators ≡ polynomials old ++ polynomials (option_to_list c.in_ok-adjoint.field-0) =
    ap polynomials whole ∙ map-append (λ (f : Poly). f.terms) old (option_to_list c.in_ok-adjoint.field-0) in
    record {
      done = λ before h.
          subst (λ ps. AllZip SamePolynomial ps (before ++ flat_map (new_adjoint q) (polynomials (take (c.loop-assumption.assumption-index + 1) c.args.parts.now.assumptions)))) (sym appended)
          (subst (AllZip SamePolynomial (polynomials old ++ polynomials (option_to_list c.in_ok-adjoint.field-0)))
          (flat_map-take_more (new_adjoint q) (λ (f : Poly). f.terms) before c.args.parts.now.assumptions c.loop-assumption.assumption-index p (search rules) (search rules))
          (AllZip-append SamePolynomial (polynomials old) (polynomials (option_to_list c.in_ok-adjoint.field-0)) (before ++ flat_map (new_adjoint q) (polynomials (take c.loop-assumption.assumption-index c.args.parts.now.assumptions))) (new_adjoint q p.terms)
          (c.loop-assumption.invariant.done before h) adjoint));
    }
