-- The laws of each command of evidence, for users.
use Rattle.std.specs.Prelude.{ℕ, ◌≡◌, List}
use Rattle.std.specs.List.{All, AllByRecursion}
use Rattle.definitions.specs.Category.{Structure}
use Rattle.quiver.specs.Declarations.{Declaration}
use Rattle.adjoint_rules.specs.declared.problem.Problem.{Problem}
use Rattle.adjoint_rules.specs.declared.basis.Basis.{Basis}
use Rattle.adjoint_rules.specs.Bases.{IsBasisOver}
use Rattle.block_lines.specs.Bases.{IsBases}
use Rattle.closed_checker.specs.Closed.{IsReadableBasis}
use Rattle.command_shape.specs.Ending.{Ending, refused_statement}
use Rattle.stated_problem.specs.Statement.{IsRefusedStatement}
use Rattle.stated_problem.specs.Stated.{IsStated}
use Rattle.evidence_commands.specs.Kind.{Kind, AnswersBoth, accepted_lines, Says}

module _ {Block Refusal : Type 0} (kind : Kind Block Refusal) where
  -- blocks that all pass are answered by 0 and a line on each
  abbrev pub PassingAreAnswered : Type 0
  PassingAreAnswered = (statement text : List ℕ) (problem : Problem) (blocks : List Block)
      → IsStated statement problem → kind.AreBlocks problem.parts.quiver text blocks → AllByRecursion (kind.Passes problem) blocks
      → AnswersBoth kind statement text (record { status = 0; report = accepted_lines kind problem 1 blocks })

  -- 0 and the lines on blocks of the text, all of which pass, with what each shows by itself
  pub record AllPass (statement text : List ℕ) (ending : Ending) : Type 0 where
    pub problem : Problem
    pub blocks : List Block
    pub stated : IsStated statement problem
    pub read : kind.AreBlocks problem.parts.quiver text blocks
    pub pass : AllByRecursion (kind.Passes problem) blocks
    pub shown : AllByRecursion (kind.Shown problem) blocks
    pub report : ending.report ≡ accepted_lines kind problem 1 blocks

  -- 0 is the answer to no others
  abbrev pub ZeroIsPassing : Type 0
  ZeroIsPassing = (statement text : List ℕ) (ending : Ending) → AnswersBoth kind statement text ending → ending.status ≡ 0 → AllPass statement text ending

  -- blocks of the text, each with its meaning
  pub record AllMean {Object Arrow : Type 0} (s : Structure Object Arrow) (statement text : List ℕ) : Type 0 where
    pub problem : Problem
    pub blocks : List Block
    pub stated : IsStated statement problem
    pub read : kind.AreBlocks problem.parts.quiver text blocks
    pub each : AllByRecursion (kind.Means Object Arrow s problem) blocks

  -- 0, by the main theorem: each block has its meaning
  abbrev pub ZeroMeans : {Object Arrow : Type 0} → Structure Object Arrow → Type 0
  ZeroMeans s = (statement text : List ℕ) (ending : Ending) → AnswersBoth kind statement text ending
      → Says kind s statement text ending.report → ending.status ≡ 0 → AllMean s statement text

  -- a statement with a fault is answered by 3 and the line on its first fault, whatever the text of evidence
  abbrev pub FaultsAreAnswered : Type 0
  FaultsAreAnswered = (statement text refusal : List ℕ) → IsRefusedStatement statement refusal → AnswersBoth kind statement text (refused_statement refusal)

  -- 3 is the answer to no others
  abbrev pub ThreeIsFaulty : Type 0
  ThreeIsFaulty = (statement text : List ℕ) (ending : Ending) → AnswersBoth kind statement text ending → ending.status ≡ 3
      → (refusal : List ℕ) × IsRefusedStatement statement refusal × (ending ≡ refused_statement refusal)

-- The bases of a text can be checked, where their letters are letters of the quiver. Both is ensured of what `read_bases` gives.
abbrev pub ReadBasesAreReadable : Type 0
ReadBasesAreReadable = (ds : List Declaration) (bytes : List ℕ) (bases : List Basis) → IsBases ds bytes bases → All (IsBasisOver ds) bases
    → All (IsReadableBasis ds) bases
