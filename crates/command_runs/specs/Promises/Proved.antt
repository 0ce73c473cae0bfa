-- `proved` and `explained`: wherever the denominator cancels and all assumptions of the file hold, the claim holds. `bytes` is the statement, `put` what
-- was put. The numbers of rows and of steps are not promised here: they are in the clause `answered` of `run`.
use Rattle.std.specs.Prelude.{◌≡◌, ◌<◌, ◌<ℤ◌, ℕ, ℤ, pos, List, ◌++◌, codes, decimal}
use Rattle.std.specs.Fmt.{signed_decimal}
use Rattle.definitions.specs.Category.{Structure}
use Rattle.statement_syntax.specs.declared.tree.Statement.{Statement}
use Rattle.abbreviations.specs.declared.written.Equation.{Equation}
use Rattle.statement_meaning.specs.Claims.{IsClaim, ProvesClaim}
use Rattle.command_runs.specs.Promises.Faultless.{IsFaultlessFile}
use Rattle.command_runs.specs.Promises.Lines.{HasLine, claim_line, block_line, number_limit}

-- The bytes are a file without a fault with a claim of this number, which is proved in this category with the denominator d, which is positive.
pub record IsProved {Object Arrow : Type 0} (s : Structure Object Arrow) (bytes : List ℕ) (number : ℕ) (d : ℤ) : Type 0 where
  pub statements : List Statement
  pub file : IsFaultlessFile bytes statements
  pub claim : Equation
  pub is_claim : IsClaim statements number claim
  pub positive : pos 0 <ℤ d
  pub proves : ProvesClaim s statements number d

-- denominator D rows R
pub record SaysProved {Object Arrow : Type 0} (s : Structure Object Arrow) (bytes : List ℕ) (number : ℕ) (text : List ℕ) : Type 0 where
  pub d : ℤ
  pub rows : ℕ
  pub says : text ≡ codes "denominator " ++ signed_decimal d ++ codes " rows " ++ decimal rows
  pub proved : IsProved s bytes number d

-- claim N denominator D steps R
pub record SaysExplained {Object Arrow : Type 0} (s : Structure Object Arrow) (bytes text : List ℕ) : Type 0 where
  pub number : ℕ
  pub d : ℤ
  pub steps : ℕ
  pub says : text ≡ codes "claim " ++ decimal number ++ codes " denominator " ++ signed_decimal d ++ codes " steps " ++ decimal steps
  pub proved : IsProved s bytes number d

-- The promise.
pub record ProvedIsMeant {Object Arrow : Type 0} (s : Structure Object Arrow) (bytes put : List ℕ) : Type 0 where
  pub proved : (number : ℕ) (text : List ℕ) → number < number_limit → HasLine put (claim_line number (codes "proved " ++ text)) → SaysProved s bytes number text
  pub explained : (block : ℕ) (text : List ℕ) → HasLine put (block_line block (codes "explained " ++ text)) → SaysExplained s bytes text
