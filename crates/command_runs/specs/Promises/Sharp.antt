-- ` sharp`, and what a run finds not derivable: the normal forms of rules are a preadditive category in which each positive integer cancels, with a
-- representation in which all generators are zero and the claim isn't; and where the statement is starred, in pairs, one each way, one with an
-- involution, and a star representation.
use Rattle.std.specs.Prelude.{◌<◌, ℕ, IsTrue, List, ◌++◌, codes, decimal}
use Rattle.rule_reduce.specs.declared.rule.Rule.{Rule}
use Rattle.adjoint_rules.specs.declared.problem.Problem.{Problem}
use Rattle.adjoint_rules.specs.Claims.{claim_at}
use Rattle.normal_forms.specs.SharpMeans.{SharpMeans, StarSharpMeans}
use Rattle.stated_problem.specs.Stated.{IsStated}
use Rattle.command_runs.specs.Promises.Lines.{HasLine, claim_line, block_line, number_limit}

-- The bytes are a file without a fault, with this problem, and its claim with this number is not zero in the normal forms of some rules.
pub record IsSharp (bytes : List ℕ) (number : ℕ) : Type 0 where
  pub problem : Problem
  pub stated : IsStated bytes problem
  pub rules : List Rule
  pub sharp : SharpMeans problem.parts rules (claim_at problem number)
  pub star_sharp : IsTrue problem.parts.starred → StarSharpMeans problem.parts rules (claim_at problem number)

-- The promise.
pub record SharpIsMeant (bytes put : List ℕ) : Type 0 where
  pub not_derivable : (number : ℕ) (text : List ℕ) → number < number_limit → HasLine put (claim_line number (codes "not derivable " ++ text)) → IsSharp bytes number
  pub sharp : (block number : ℕ) → number < number_limit → HasLine put (block_line block (codes "closed claim " ++ decimal number ++ codes " sharp")) → IsSharp bytes number
