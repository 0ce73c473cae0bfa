-- What closed bases mean, and that each basis has one outcome.
use Rattle.std.specs.Prelude.{◌≡◌, ◌⊎◌}
use Rattle.std.specs.List.{All}
use Rattle.definitions.specs.Combination.{InRationalIdeal}
use Rattle.quiver.specs.Declarations.{letter_count}
use Rattle.rule_reduce.specs.RuleLists.{IsRule, polynomials_of}
use Rattle.ambiguities.specs.Resolved.{Resolved}
use Rattle.adjoint_rules.specs.declared.problem.Problem.{Problem}
use Rattle.adjoint_rules.specs.Problem.{polynomials}
use Rattle.adjoint_rules.specs.declared.basis.Basis.{Basis}
use Rattle.closed_checker.specs.declared.refusal.ClosedRefusal.{ClosedRefusal}
use Rattle.closed_checker.specs.Rests.{order_of, rules_of, claim_of}
use Rattle.closed_checker.specs.Closed.{IsReadableBasis, IsClosedBasis, Refuses, IsMemory}

-- Each basis is closed, or one of its tests is the first that fails.
abbrev pub EachBasisIsJudged : Type 0
EachBasisIsJudged = (problem : Problem) (b : Basis) → IsClosedBasis problem b ⊎ ((refusal : ClosedRefusal) × Refuses problem b refusal × (IsMemory refusal → ⊥))

-- Of one basis there is one refusal at most, apart from want of memory,
abbrev pub BasisRefusalIsUnique : Type 0
BasisRefusalIsUnique = (problem : Problem) (b : Basis) (one other : ClosedRefusal) → Refuses problem b one → Refuses problem b other
    → (IsMemory one → ⊥) → (IsMemory other → ⊥) → one ≡ other

-- and none where it is closed.
abbrev pub ClosedBasisIsNotRefused : Type 0
ClosedBasisIsNotRefused = (problem : Problem) (b : Basis) (refusal : ClosedRefusal) → IsClosedBasis problem b → Refuses problem b refusal → IsMemory refusal

-- Its polynomials are rules that are resolved. Some positive multiple of each generator is a combination of them. No positive multiple of the claim is
-- one, and so none is a combination of the generators.
pub record ClosedMeans (problem : Problem) (b : Basis) : Type 0 where
  pub same : polynomials_of (rules_of problem b) ≡ polynomials b.rules
  pub are_rules : All (IsRule (letter_count problem.parts.quiver) (order_of problem)) (rules_of problem b)
  pub generated : All (InRationalIdeal (polynomials b.rules)) (polynomials problem.generators)
  pub resolved : Resolved (letter_count problem.parts.quiver) (order_of problem) (rules_of problem b)
  pub outside_rules : InRationalIdeal (polynomials b.rules) (claim_of problem b) → ⊥
  pub outside : InRationalIdeal (polynomials problem.generators) (claim_of problem b) → ⊥

-- So it is for each closed basis with letters of the problem's quiver.
abbrev pub ClosedBasesMeanOutside : Type 0
ClosedBasesMeanOutside = (problem : Problem) (b : Basis) → IsReadableBasis problem.parts.quiver b → IsClosedBasis problem b → ClosedMeans problem b
