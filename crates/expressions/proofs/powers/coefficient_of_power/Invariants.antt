use Rattle.expressions.proofs.Prelude.{◌≡◌, ◌≤◌, ◌-◌, [], ◌∷◌, length, replicate, IsCanonical, product_from, product_poly, repeated_word}
use Rattle.expressions.proofs.powers.coefficient_of_power.Given as goal

-- the factors that are left, after the power so far, make the whole power
abbrev pub invariant-loop : goal.invariant-loop
invariant-loop l = record {
  rest : product_from ((l.coefficient, repeated_word l.counter l.term.1) ∷ []) (replicate (l.factors - l.counter) (l.term ∷ [])) ≡ product_poly (replicate l.factors (l.term ∷ []));
  canonical : IsCanonical ((l.coefficient, repeated_word l.counter l.term.1) ∷ []);
  letters : l.letters ≡ length (repeated_word l.counter l.term.1);
  begun : 1 ≤ l.counter;
}
