-- How a reader goes over the lines of blocks. Only the reader's functions and proofs use it; texts of blocks are defined in Texts.
use Rattle.std.specs.Prelude.{ℕ, ◌+◌, List, [], ◌∷◌, ◌++◌, length, nat_le, Option, Some, None, Result, Ok, Err, if◌then◌else◌}
use Rattle.std.specs.Str.{is_utf8}
use Rattle.std.specs.Str.Lines.{lines}
use Rattle.block_text.specs.declared.fault.Flaw.{Flaw}
use Rattle.block_text.specs.declared.fault.Flaw.TheVariants.{BadLine, TooMany}
use Rattle.block_text.specs.declared.place.Place.{Place}
use Rattle.block_text.specs.declared.place.Place.TheVariants as at
use Rattle.block_text.specs.declared.place.Progress.{Progress}
use Rattle.block_text.specs.Fault.{Fault, ◌>>=◌, at_line, not_utf8, truncated, no_block}
use Rattle.block_text.specs.Tokens.{tokens_of, is_skipped}
use Rattle.block_text.specs.Lines.{Line, block_limit, is_end}
use Rattle.block_text.specs.Blocks.{is_other_head}

-- What a reader makes of the head of a block, of a further line and of the line `end`.
pub record Steps (Begun Value : Type 0) : Type 0 where
  pub others : List (List ℕ)
  pub begin : Line → Option Begun
  pub next : Begun → Line → Result Begun Flaw
  pub finish : Begun → Option Value

-- in a block of another kind
abbrev pub skipped_to : {Begun : Type 0} → Line → Place Begun
skipped_to line = if is_end line then at.Outside else at.Skipped

abbrev pub one_or_more : {Value : Type 0} → List Value → Result (List Value) Fault
one_or_more [] = Err no_block
one_or_more (v ∷ vs) = Ok (v ∷ vs)

module _ {Begun Value : Type 0} where
  -- the values that were read, and the place of the next line
  abbrev pub progress : List Value → Place Begun → Progress Begun Value
  progress done place = record { values = done; place = place }

  module _ (steps : Steps Begun Value) where
    -- a block of the kind begins, where there may be one more, or one of another kind
    abbrev pub headed : List Value → Option Begun → Line → Result (Progress Begun Value) Flaw
    headed done (Some o) line = if nat_le block_limit (length done) then Err (TooMany block_limit) else Ok (progress done (at.Inside o))
    headed done None line = if is_other_head steps.others line then Ok (progress done at.Skipped) else Err BadLine

    -- the line `end`
    abbrev pub finished : List Value → Option Value → Result (Progress Begun Value) Flaw
    finished done (Some value) = Ok (progress (done ++ value ∷ []) at.Outside)
    finished done None = Err BadLine

    abbrev pub inside : List Value → Begun → Line → Result (Progress Begun Value) Flaw
    inside done o line = if is_end line then finished done (steps.finish o) else steps.next o line >>= λ p. Ok (progress done (at.Inside p))

    -- the progress after a line at its place, or the line's flaw
    abbrev pub step : List Value → Place Begun → Line → Result (Progress Begun Value) Flaw
    step done at.Outside line = headed done (steps.begin line) line
    step done at.Skipped line = Ok (progress done (skipped_to line))
    step done (at.Inside o) line = inside done o line

    -- blank lines and comments are skipped everywhere
    abbrev pub read_tokens : Progress Begun Value → Line → Result (Progress Begun Value) Flaw
    read_tokens p line = if is_skipped line then Ok p else step p.values p.place line

    -- the lines from this number on
    abbrev pub read_lines : ℕ → Progress Begun Value → List (List ℕ) → Result (Progress Begun Value) Fault
    read_lines number p [] = Ok p
    read_lines number p (line ∷ rest) = at_line number (read_tokens p (tokens_of line)) >>= λ q. read_lines (number + 1) q rest

  -- the text may end only outside of blocks
  abbrev pub ended : List Value → Place Begun → Result (List Value) Fault
  ended done at.Outside = Ok done
  ended done at.Skipped = Err truncated
  ended done (at.Inside o) = Err truncated

  abbrev pub beginning : Progress Begun Value
  beginning = progress [] at.Outside

  module _ (steps : Steps Begun Value) where
    -- the values of a text that may have none
    abbrev pub values_of : List ℕ → Result (List Value) Fault
    values_of bytes = if is_utf8 bytes then (read_lines steps 1 beginning (lines bytes) >>= λ p. ended p.values p.place) else Err not_utf8

    -- the values of the bytes, at least one
    abbrev pub all_values : List ℕ → Result (List Value) Fault
    all_values bytes = values_of bytes >>= one_or_more
