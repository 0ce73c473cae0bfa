use Rattle.block_lines.proofs.Prelude.{◌≡◌, ◌++◌, ◌∷◌, [], length, map, sym, ap, ◌∙◌, rules, arith, append_assoc, into_iter_items, map-append, All-rest, by_terms, AreCanonical}
use Rattle.block_lines.proofs.read.bases_of.Goals as goal

-- one basis more is taken
pub loop-block-preserved : goal.loop-block-preserved
loop-block-preserved c =
    let at = c.loop-block in
    let rest = into_iter_items c.next.new.self in
    let steps : into_iter_items at.block-iterator ≡ c.in-Some.block ∷ rest = c.in-Some.ensures.steps.0 in
    let made = c.in_ok-basis_of.field-0 in
    let is : by_terms made ≡ c.in-Some.block = c.in_ok-basis_of.ensures in
    let pushed : c.push.new.self ≡ at.bases ++ made ∷ [] = search rules in
    record {
      canonical = All-rest AreCanonical c.in-Some.block rest (into_iter_items at.block-iterator) steps at.invariant.canonical;
      left = let was = at.invariant.left in let gone = c.in-Some.ensures.steps.1 in let short = ap length steps in omega arith;
      same =
          ap (λ bs. map by_terms bs ++ rest) pushed ∙ ap (λ vs. vs ++ rest) (map-append by_terms at.bases (made ∷ []))
          ∙ append_assoc (map by_terms at.bases) (by_terms made ∷ []) rest
          ∙ ap (λ vs. map by_terms at.bases ++ vs) (ap (λ v. v ∷ rest) is ∙ sym steps) ∙ at.invariant.same;
    }
