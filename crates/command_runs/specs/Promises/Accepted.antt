-- `accepted`: wherever the denominator cancels, the letters that the line calls monic and epic have such arrows, and all assumptions of the file
-- hold, the claim holds.
use Rattle.std.specs.Prelude.{◌≡◌, ◌<ℤ◌, ℕ, ℤ, pos, false, List, ◌++◌, codes, decimal}
use Rattle.std.specs.Fmt.{signed_decimal}
use Rattle.std.specs.List.{All}
use Rattle.definitions.specs.Category.{Structure, InvolutionLaws}
use Rattle.definitions.specs.Representation.{Representation, Represents, StarRepresents, Cancels}
use Rattle.word_core.specs.declared.letter.Letter.{Letter}
use Rattle.representations.specs.Cancelling.{IsMonic, IsEpic}
use Rattle.statement_syntax.specs.declared.tree.Statement.{Statement}
use Rattle.abbreviations.specs.declared.written.Equation.{Equation}
use Rattle.statement_names.specs.Numbered.{declarations_of}
use Rattle.statement_names.specs.Starred.{is_starred}
use Rattle.statement_meaning.specs.Claims.{quiver_in, read_in, AssumptionsHold, IsClaim, ClaimHolds}
use Rattle.evidence_commands.specs.CalledLetters.{letters_text}
use Rattle.command_runs.specs.Promises.Faultless.{IsFaultlessFile}
use Rattle.command_runs.specs.Promises.Lines.{HasLine, block_line}

-- in the representation d cancels, and these letters have monic and epic arrows
pub record Allows {Object Arrow : Type 0} (s : Structure Object Arrow) (f : Representation Object Arrow) (d : ℤ) (monic epic : List Letter) : Type 0 where
  pub cancels : Cancels s d
  pub monic_arrows : All (λ a. IsMonic s (f.arrow a.0)) monic
  pub epic_arrows : All (λ a. IsEpic s (f.arrow a.0)) epic

-- There the claim holds where the assumptions do; whatever the involution, in each star representation, and, where the file isn't starred, in each
-- representation.
pub record ProvesClaimWith {Object Arrow : Type 0} (s : Structure Object Arrow) (statements : List Statement) (number : ℕ) (d : ℤ) (monic epic : List Letter) : Type 0 where
  pub by_star : (involution : Arrow → Arrow) → InvolutionLaws s involution → (f : Representation Object Arrow)
      → StarRepresents s involution (quiver_in statements) f → Allows s f d monic epic
      → AssumptionsHold (read_in s involution statements f) statements → ClaimHolds (read_in s involution statements f) statements number
  pub plain : is_starred statements ≡ false → (involution : Arrow → Arrow) (f : Representation Object Arrow)
      → Represents s (quiver_in statements) f → Allows s f d monic epic
      → AssumptionsHold (read_in s involution statements f) statements → ClaimHolds (read_in s involution statements f) statements number

-- claim N denominator D, and then the letters that are called monic and epic, where there are any; the bytes are a file without a fault
pub record SaysAccepted {Object Arrow : Type 0} (s : Structure Object Arrow) (bytes text : List ℕ) : Type 0 where
  pub statements : List Statement
  pub file : IsFaultlessFile bytes statements
  pub number : ℕ
  pub d : ℤ
  pub monic : List Letter
  pub epic : List Letter
  pub says : text ≡ codes "claim " ++ decimal number ++ codes " denominator " ++ signed_decimal d ++ letters_text (declarations_of statements) monic epic
  pub claim : Equation
  pub is_claim : IsClaim statements number claim
  pub positive : pos 0 <ℤ d
  pub proves : ProvesClaimWith s statements number d monic epic

-- The promise.
pub record AcceptedIsMeant {Object Arrow : Type 0} (s : Structure Object Arrow) (bytes put : List ℕ) : Type 0 where
  pub accepted : (block : ℕ) (text : List ℕ) → HasLine put (block_line block (codes "accepted " ++ text)) → SaysAccepted s bytes text
