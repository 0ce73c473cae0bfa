-- Normal forms and S-polynomials are sorted, with coefficients in range.
use Rattle.std.specs.Prelude.{◌≡◌, ℕ, List, Ok}
use Rattle.std.specs.List.{All}
use Rattle.definitions.specs.Poly.{Term}
use Rattle.word_core.specs.Letters.{IsOver}
use Rattle.word_orders.specs.Admissible.{Compare}
use Rattle.nc_polynomial.specs.Shape.{IsShaped}
use Rattle.rule_reduce.specs.declared.rule.Rule.{Rule}
use Rattle.rule_reduce.specs.declared.state.State.{State}
use Rattle.rule_reduce.specs.NormalForms.{normal_form_of}
use Rattle.ambiguities.specs.declared.ambiguity.Ambiguity.{Ambiguity}
use Rattle.ambiguities.specs.SPolynomials.{s_polynomial_of}
use Rattle.confluence.specs.Reductions.{HasLettersBelow, IsReduced}

abbrev pub NormalFormsAreShaped : Type 0
NormalFormsAreShaped = (compare : Compare) (rules : List Rule) (p : List Term) (steps : ℕ) (s : State)
    → IsShaped p → normal_form_of compare rules p steps ≡ Ok s → IsShaped s.rest

abbrev pub SPolynomialsAreShaped : Type 0
SPolynomialsAreShaped = (rules : List Rule) (a : Ambiguity) (p : List Term) → s_polynomial_of rules a ≡ Ok p → IsShaped p

-- The letters of the rest are below the number that those of the polynomial are below.
abbrev pub RestsHaveLettersBelow : Type 0
RestsHaveLettersBelow = (letters : ℕ) (compare : Compare) (rules : List Rule) (p : List Term) (s : State)
    → HasLettersBelow letters p → IsReduced letters compare rules p s → IsShaped s.rest → All (λ t. IsOver letters t.1) s.rest
