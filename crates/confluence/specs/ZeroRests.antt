-- What follows where the rest of a reduction is zero.
use Rattle.std.specs.Prelude.{ℕ, List}
use Rattle.std.specs.List.{All}
use Rattle.definitions.specs.Poly.{Term, SamePolynomial}
use Rattle.definitions.specs.Combination.{InRationalIdeal}
use Rattle.word_orders.specs.Admissible.{Compare, IsAdmissible}
use Rattle.rule_reduce.specs.declared.rule.Rule.{Rule}
use Rattle.rule_reduce.specs.declared.state.State.{State}
use Rattle.rule_reduce.specs.RuleLists.{IsRule, polynomials_of}
use Rattle.ambiguities.specs.declared.ambiguity.Ambiguity.{Ambiguity}
use Rattle.ambiguities.specs.Ambiguities.{IsAmbiguity}
use Rattle.ambiguities.specs.Resolved.{s_sum, IsResolved}
use Rattle.confluence.specs.Reductions.{IsZero, IsReduced}

-- A polynomial that is reduced to zero is in the rational ideal of the rules.
abbrev pub ZeroRestsAreInside : Type 0
ZeroRestsAreInside = (letters : ℕ) (compare : Compare) (rules : List Rule) (p : List Term) (s : State)
    → IsReduced letters compare rules p s → IsZero s.rest → InRationalIdeal (polynomials_of rules) p

-- An ambiguity whose S-polynomial is reduced to zero is resolved. The S-polynomial is the sum of its rows by `s_poly` and the
-- law `s_polynomials_balance`.
abbrev pub ZeroRestsAreResolved : Type 0
ZeroRestsAreResolved = (letters : ℕ) (compare : Compare) (rank : List ℕ → List ℕ) (rules : List Rule) (a : Ambiguity) (p : List Term) (s : State)
    → IsAdmissible letters compare rank → All (IsRule letters compare) rules → IsAmbiguity rules a → SamePolynomial p (s_sum rules a)
    → IsReduced letters compare rules p s → IsZero s.rest → IsResolved letters compare rules a

-- Where each generator is in the rational ideal of the polynomials, so is the rational ideal of the generators.
abbrev pub IdealsStayInside : Type 0
IdealsStayInside = (polys generators : List (List Term)) (p : List Term)
    → All (InRationalIdeal polys) generators → InRationalIdeal generators p → InRationalIdeal polys p
