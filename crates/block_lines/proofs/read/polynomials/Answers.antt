use Rattle.block_lines.proofs.Prelude.{◌≡◌, ◌++◌, ◌∷◌, [], length, map, sym, ap, subst, ◌∙◌, arith, append_assoc, All, into_iter_items, map-append, All-head, All-rest, Poly, IsCanonical}
use Rattle.block_lines.proofs.read.polynomials.Goals as goal

-- the terms that are taken are canonical
pub invariant_of-push : goal.invariant_of-push
invariant_of-push c =
    let at = c.loop-terms in
    let rest = into_iter_items c.next.new.self in
    let steps : into_iter_items at.terms-iterator ≡ c.in-Some.terms ∷ rest = c.in-Some.ensures.steps.0 in
    record { canonical = All-head IsCanonical c.in-Some.terms rest (subst (All IsCanonical) steps at.invariant.canonical) }

-- one polynomial more is taken
pub loop-terms-preserved : goal.loop-terms-preserved
loop-terms-preserved c =
    let at = c.loop-terms in
    let rest = into_iter_items c.next.new.self in
    let steps : into_iter_items at.terms-iterator ≡ c.in-Some.terms ∷ rest = c.in-Some.ensures.steps.0 in
    let pushed : map (λ (p : Poly). p.terms) c.push.new.self ≡ map (λ (p : Poly). p.terms) at.polynomials ++ c.in-Some.terms ∷ [] =
    ap (map (λ (p : Poly). p.terms)) c.in_ok-push.ensures.ok ∙ map-append (λ (p : Poly). p.terms) at.polynomials _ in
    record {
      canonical = All-rest IsCanonical c.in-Some.terms rest (into_iter_items at.terms-iterator) steps at.invariant.canonical;
      left = let was = at.invariant.left in let gone = c.in-Some.ensures.steps.1 in let short = ap length steps in omega arith;
      same =
          ap (λ ls. ls ++ rest) pushed ∙ append_assoc (map (λ (p : Poly). p.terms) at.polynomials) (c.in-Some.terms ∷ []) rest
          ∙ ap (λ ls. map (λ (p : Poly). p.terms) at.polynomials ++ ls) (sym steps) ∙ at.invariant.same;
    }
