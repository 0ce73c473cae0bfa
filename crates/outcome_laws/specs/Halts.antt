-- What it means that a claim follows, and what a halt means.
use Rattle.std.specs.Prelude.{◌≡◌, ℕ, List, Some}
use Rattle.definitions.specs.Combination.{InRationalIdeal}
use Rattle.word_orders.specs.Specified.{asked_cmp}
use Rattle.quiver.specs.Declarations.{letter_count}
use Rattle.cofactor_trace.specs.declared.halt.Place.TheVariants as place
use Rattle.cofactor_trace.specs.declared.halt.Halt.{Halt}
use Rattle.ambiguities.specs.Resolved.{ComesBelow}
use Rattle.adjoint_rules.specs.declared.problem.Problem.{Problem}
use Rattle.adjoint_rules.specs.Problem.{polynomials}
use Rattle.adjoint_rules.specs.Claims.{claim_at}
use Rattle.traced_completion.specs.declared.budget.Budget.{Budget}
use Rattle.outcome_laws.specs.Causes.{CauseMeans}

-- some positive multiple of the claim with this number is a combination of the generators; where there is no such claim, it is zero
abbrev pub Follows : Problem → ℕ → Type 0
Follows problem number = InRationalIdeal (polynomials problem.generators) (claim_at problem number)

-- some positive multiple of it is a combination in which all words are below the word, in the problem's order
abbrev pub FollowsBelow : Problem → List ℕ → ℕ → Type 0
FollowsBelow problem word number =
    ComesBelow (letter_count problem.parts.quiver) (asked_cmp problem.parts.order) (polynomials problem.generators) word (claim_at problem number)

-- The cause is as it says. Below the least pending word the claim is no combination, and where the work stopped in making its certificate it follows.
pub record HaltMeans (problem : Problem) (budget : Budget) (number : ℕ) (h : Halt) : Type 0 where
  pub cause_means : CauseMeans problem budget number h.place h.least h.cause
  pub not_below : (word : List ℕ) → h.least ≡ Some word → FollowsBelow problem word number → ⊥
  pub inside : (round : ℕ) → h.place ≡ place.Certificate round → Follows problem number
