-- A kind of evidence: what a command reads, judges and prints, and what that means.
use Rattle.std.specs.Prelude.{ℕ, ◌≡◌, List, ◌++◌, Option}
use Rattle.std.specs.List.{AllByRecursion}
use Rattle.definitions.specs.Category.{Structure}
use Rattle.quiver.specs.Declarations.{Declaration}
use Rattle.adjoint_rules.specs.declared.problem.Problem.{Problem}
use Rattle.block_text.specs.Fault.{Fault}
use Rattle.command_shape.specs.Ending.{Ending}
use Rattle.command_shape.specs.Blocks.{OverEvidence, AcceptsBlock, RefusesBlock, Judges, lines_on}
use Rattle.stated_problem.specs.Statement.{OverStatement}
use Rattle.stated_problem.specs.Stated.{IsStated}

pub record Kind (Block Refusal : Type 0) : Type 1 where
  -- the blocks of a text over the letters of a quiver, or its first fault
  pub AreBlocks : List Declaration → List ℕ → List Block → Type 0
  pub IsFirstFault : List Declaration → List ℕ → Fault → Type 0
  -- a block passes all tests, or this one is the first that fails
  pub Passes : Problem → Block → Type 0
  pub IsRefused : Problem → Block → Refusal → Type 0
  -- the text of a block that passes, and why another is refused; no line says that memory is short
  pub shows : Problem → Block → List ℕ
  pub cause : List Declaration → Refusal → Option (List ℕ)
  -- what a block that passes shows by itself, and what it means in a category
  pub Shown : Problem → Block → Type 0
  pub Means : (Object Arrow : Type 0) → Structure Object Arrow → Problem → Block → Type 0

module _ {Block Refusal : Type 0} (kind : Kind Block Refusal) where
  -- a block is accepted, as this text says, or refused for this cause
  abbrev pub Accepts : Problem → Block → List ℕ → Type 0
  Accepts problem block text = AcceptsBlock (kind.Passes problem) (kind.shows problem) block text

  abbrev pub Refuses : Problem → Block → List ℕ → Type 0
  Refuses problem block cause = RefusesBlock (kind.IsRefused problem) (kind.cause problem.parts.quiver) block cause

  -- how a run ends over a problem and a text
  abbrev pub AnswersText : List ℕ → Problem → Ending → Type 0
  AnswersText text problem ending =
      OverEvidence (kind.AreBlocks problem.parts.quiver text) (kind.IsFirstFault problem.parts.quiver text) (Judges (Accepts problem) (Refuses problem)) ending

  -- how a run ends over the two texts
  abbrev pub AnswersBoth : List ℕ → List ℕ → Ending → Type 0
  AnswersBoth statement text ending = OverStatement statement (AnswersText text) ending

  -- the lines on blocks that are all accepted
  abbrev pub accepted_lines : Problem → ℕ → List Block → List ℕ
  accepted_lines problem number blocks = lines_on (kind.shows problem) number blocks

  -- Where the report begins with the lines that accept the first blocks of the text, each of these has its meaning.
  pub record Says {Object Arrow : Type 0} (s : Structure Object Arrow) (statement text report : List ℕ) : Type 0 where
    pub each : (problem : Problem) (first others : List Block) (rest : List ℕ)
        → IsStated statement problem → kind.AreBlocks problem.parts.quiver text (first ++ others) → report ≡ accepted_lines problem 1 first ++ rest
        → AllByRecursion (kind.Means Object Arrow s problem) first
