-- Where rules are resolved, what comes from them has a reducible greatest word.
use Rattle.std.specs.Prelude.{◌≡◌, ◌≢◌, ◌⊎◌, ℕ, pos, List, Some}
use Rattle.std.specs.List.{All}
use Rattle.definitions.specs.Poly.{Term, coefficient_of}
use Rattle.definitions.specs.Combination.{InRationalIdeal}
use Rattle.word_core.specs.Occurrence.{OccursAt}
use Rattle.word_orders.specs.Admissible.{Compare, IsAdmissible}
use Rattle.word_orders.specs.Orders.{IsBelow}
use Rattle.rule_reduce.specs.declared.rule.Rule.{Rule}
use Rattle.rule_reduce.specs.declared.state.State.{State}
use Rattle.rule_reduce.specs.RuleLists.{IsRule, rule_at, polynomials_of}
use Rattle.ambiguities.specs.Resolved.{ComesBelow, ResolvedBelow, Resolved}
use Rattle.confluence.specs.Reductions.{IsNonzero, IsZero, HasLettersBelow, IsReduced}

-- the leading word of a rule occurs in the word
pub record IsReducible (rules : List Rule) (word : List ℕ) : Type 0 where
  pub number : ℕ
  pub rule : Rule
  pub numbered : rule_at rules number ≡ Some rule
  pub place : ℕ
  pub occurs : OccursAt word rule.lead place

-- The greatest word with a nonzero coefficient is reducible.
pub record HasReducibleGreatest (letters : ℕ) (compare : Compare) (rules : List Rule) (p : List Term) : Type 0 where
  pub word : List ℕ
  pub occurs : coefficient_of p word ≢ pos 0
  pub greatest : (w : List ℕ) → coefficient_of p w ≢ pos 0 → (w ≡ word) ⊎ IsBelow letters compare w word
  pub reducible : IsReducible rules word

-- Where the rules are resolved below a word, what comes from them below it is zero or has a reducible greatest word.
abbrev pub ReducibleBelow : Type 0
ReducibleBelow = (letters : ℕ) (compare : Compare) (rank : List ℕ → List ℕ) (rules : List Rule) (bound : List ℕ) (p : List Term)
    → IsAdmissible letters compare rank → All (IsRule letters compare) rules → ResolvedBelow letters compare rules bound
    → ComesBelow letters compare (polynomials_of rules) bound p → IsNonzero p → HasReducibleGreatest letters compare rules p

-- Where they are resolved, each nonzero element of their rational ideal has such a greatest word. The words of its cofactors may have any letters.
abbrev pub ReducibleInIdeal : Type 0
ReducibleInIdeal = (letters : ℕ) (compare : Compare) (rank : List ℕ → List ℕ) (rules : List Rule) (p : List Term)
    → IsAdmissible letters compare rank → All (IsRule letters compare) rules → Resolved letters compare rules
    → InRationalIdeal (polynomials_of rules) p → HasLettersBelow letters p → IsNonzero p → HasReducibleGreatest letters compare rules p

-- Where the rules are resolved below a word, the rest of what comes from them below it is zero,
abbrev pub RestsBelowAreZero : Type 0
RestsBelowAreZero = (letters : ℕ) (compare : Compare) (rank : List ℕ → List ℕ) (rules : List Rule) (bound : List ℕ) (p : List Term) (s : State)
    → IsAdmissible letters compare rank → All (IsRule letters compare) rules → ResolvedBelow letters compare rules bound
    → ComesBelow letters compare (polynomials_of rules) bound p → IsReduced letters compare rules p s → IsZero s.rest

-- and where they are resolved, that of each element of their rational ideal.
abbrev pub RestsOfIdealAreZero : Type 0
RestsOfIdealAreZero = (letters : ℕ) (compare : Compare) (rank : List ℕ → List ℕ) (rules : List Rule) (p : List Term) (s : State)
    → IsAdmissible letters compare rank → All (IsRule letters compare) rules → Resolved letters compare rules
    → InRationalIdeal (polynomials_of rules) p → HasLettersBelow letters p → IsReduced letters compare rules p s → IsZero s.rest
