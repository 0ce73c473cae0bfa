-- Proofs that cancel letters in evidence text: those of bytes, or the first fault of the bytes.
use Rattle.std.specs.Prelude.{ℕ, List, [], ◌∷◌, codes}
use Rattle.quiver.specs.Declarations.{Declaration}
use Rattle.cancel_rules.specs.declared.cancellation.Cancellation.{Cancellation}
use Rattle.block_text.specs.Fault.{Fault}
use Rattle.block_text.specs.Kind.{Kind, kind_of}
use Rattle.block_text.specs.Texts as texts
use Rattle.block_text.specs.Texts.{IsBlocks}
use Rattle.cancellation_text.specs.Blocks.{cancellation_lines, IsCancellationBlock}
use Rattle.cancellation_text.specs.Bounds.{bounds, flaw_of, KeepsOne, IsCancellationOf}

-- blocks of these kinds aren't read
abbrev pub other_words : List (List ℕ)
other_words = codes "certificate" ∷ codes "model" ∷ codes "basis" ∷ []

-- Proofs that cancel letters are a kind of block.
abbrev pub cancellation_kind : List Declaration → Kind Cancellation
cancellation_kind ds = kind_of cancellation_lines (IsCancellationBlock ds) other_words bounds flaw_of (KeepsOne ds) (IsCancellationOf ds)

-- The bytes are UTF-8, their lines are blocks within all bounds, and these are the proofs among them, of which there is at least one.
abbrev pub IsCancellations : List Declaration → List ℕ → List Cancellation → Type 0
IsCancellations ds = IsBlocks (cancellation_kind ds)

-- the first fault of the bytes
abbrev pub IsFirstFault : List Declaration → List ℕ → Fault → Type 0
IsFirstFault ds = texts.IsFirstFault (cancellation_kind ds)
