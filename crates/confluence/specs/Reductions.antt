-- What proofs need of a reduction.
use Rattle.std.specs.Prelude.{◌≡◌, ◌≢◌, ◌<ℤ◌, ℕ, pos, List, length, Ok}
use Rattle.std.specs.List.{All}
use Rattle.definitions.specs.Poly.{Term, coefficient_of}
use Rattle.word_core.specs.Letters.{IsOver}
use Rattle.word_orders.specs.Admissible.{Compare, IsAdmissible}
use Rattle.nc_polynomial.specs.Shape.{IsShaped}
use Rattle.rule_reduce.specs.declared.rule.Rule.{Rule}
use Rattle.rule_reduce.specs.declared.state.State.{State}
use Rattle.rule_reduce.specs.RuleLists.{IsRule}
use Rattle.rule_reduce.specs.NormalForms.{normal_form_of}
use Rattle.rule_reduce.specs.Laws.{Balances, IsByRule, IsIrreducible}
use Rattle.rule_reduce.specs.KeptWords.{EachWord, IsAtMostOf}

-- some word has a nonzero coefficient
pub record IsNonzero (p : List Term) : Type 0 where
  pub word : List ℕ
  pub occurs : coefficient_of p word ≢ pos 0

-- no word has one
pub record IsZero (p : List Term) : Type 0 where
  pub at : (w : List ℕ) → coefficient_of p w ≡ pos 0

-- each word with a nonzero coefficient is over the letters below the number
pub record HasLettersBelow (letters : ℕ) (p : List Term) : Type 0 where
  pub at : (w : List ℕ) → coefficient_of p w ≢ pos 0 → IsOver letters w

-- A positive multiple of the polynomial is the rest plus the sum of the rows, which are multiples of rules. Each word of the
-- rest and of the rows is at most a word of the polynomial, and no leading word occurs in a word of the rest.
pub record IsReduced (letters : ℕ) (compare : Compare) (rules : List Rule) (p : List Term) (s : State) : Type 0 where
  pub positive : pos 0 <ℤ s.multiplier
  pub balances : Balances rules p s
  pub by_rules : All (λ row. IsByRule (length rules) row.from) s.rows
  pub words : EachWord (IsAtMostOf letters compare p) rules s
  pub irreducible : IsIrreducible rules s.rest

-- The normal form is such a reduction.
abbrev pub NormalFormsAreReduced : Type 0
NormalFormsAreReduced = (letters : ℕ) (compare : Compare) (rank : List ℕ → List ℕ) (rules : List Rule) (p : List Term) (steps : ℕ) (s : State)
    → IsAdmissible letters compare rank → All (IsRule letters compare) rules → IsShaped p → All (λ t. IsOver letters t.1) p
    → normal_form_of compare rules p steps ≡ Ok s → IsReduced letters compare rules p s
