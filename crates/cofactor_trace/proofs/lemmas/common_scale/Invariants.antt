use Rattle.cofactor_trace.proofs.Prelude.{◌≡◌, ◌<ℤ◌, ◌++◌, ◌∷◌, [], pos, drop, map, IsCoefficient, first_overflow, common_multiple, multiple_products, records}
use Rattle.cofactor_trace.proofs.lemmas.common_scale.Given as goal

abbrev pub invariant-loop-lemma : goal.invariant-loop-lemma
invariant-loop-lemma l = record {
  products : first_overflow (multiple_products l.common (map (λ m. m.scale) (records (drop l.lemma-index l.lemmas) ++ l.goal ∷ [])))
      ≡ first_overflow (multiple_products (pos 1) (map (λ m. m.scale) (records l.lemmas ++ l.goal ∷ [])));
  value : common_multiple l.common (map (λ m. m.scale) (records (drop l.lemma-index l.lemmas) ++ l.goal ∷ []))
      ≡ common_multiple (pos 1) (map (λ m. m.scale) (records l.lemmas ++ l.goal ∷ []));
  positive : pos 0 <ℤ l.common;
  in_range : IsCoefficient l.common;
}
