-- Shifts in evidence text: the lines of a block of three, its bounds, what it says, how it is read and how it is written.
use Rattle.std.specs.Prelude.{◌<◌, ◌^◌, ⊤, ℕ, List, [], ◌∷◌, ◌++◌, decimal, Option, IfSome, codes}
use Rattle.quiver.specs.Declarations.{Declaration, letter_count}
use Rattle.word_core.specs.declared.letter.Letter.{Letter}
use Rattle.block_text.specs.declared.fault.Flaw.{Flaw}
use Rattle.block_text.specs.declared.fault.Flaw.TheVariants.{UnknownName, NumberTooLarge}
use Rattle.block_text.specs.Lines.{number_limit, number_of}
use Rattle.block_text.specs.Kind.{Kind}
use Rattle.block_text.specs.Steps.{Steps}
use Rattle.block_lines.specs.declared.section.LinePlace.{LinePlace}
use Rattle.block_lines.specs.LineKinds.{letter_behind, number_line}
use Rattle.block_lines.specs.LineReadings.{letter_read}
use Rattle.block_lines.specs.Sections.{Section, no_lines, line_then, block_kind}
use Rattle.block_lines.specs.SectionSteps.{no_steps, line_steps, block_steps}
use Rattle.block_lines.specs.Written.{letter_line_text}

-- the bounds, in the order in which they count
pub data Bound : Type 0 where
  names : Bound
  numbers : Bound

-- what a line is told for that passes the bound
abbrev pub flaw_of : Bound → Flaw
flaw_of names = UnknownName
flaw_of numbers = NumberTooLarge

-- a letter or none, and a number
abbrev pub Shift : Type 0
Shift = Option Letter × (ℕ × ⊤)

-- letter LETTER, or letter, and then by N
abbrev pub shift_lines : List Declaration → Section Bound Shift
shift_lines ds = line_then (letter_behind names ds (codes "letter")) (line_then (number_line numbers (codes "by") number_limit) no_lines)

-- blocks of these kinds aren't read
abbrev pub other_words : List (List ℕ)
other_words = codes "certificate" ∷ codes "model" ∷ codes "basis" ∷ []

-- shift 1, and the lines
abbrev pub shift_kind : List Declaration → Kind Shift
shift_kind ds = block_kind (codes "shift") (codes "1") other_words (names ∷ numbers ∷ []) flaw_of (shift_lines ds)

-- how a reader goes over them
abbrev pub shift_steps : List Declaration → Steps (LinePlace (Option Letter) (LinePlace ℕ ⊤)) Shift
shift_steps ds = block_steps (codes "shift") (codes "1") other_words (line_steps (letter_read ds (codes "letter")) (line_steps (number_of (codes "by") number_limit) no_steps))

-- a shift as a block of evidence text
abbrev pub shift_text : List Declaration → Shift → List ℕ
shift_text ds s = codes "shift 1\n" ++ (letter_line_text ds (codes "letter") s.0 ++ ((codes "by " ++ decimal s.1.0 ++ codes "\n") ++ codes "end\n"))

-- its letter is one of the quiver
abbrev pub HasLetter : List Declaration → Shift → Type 0
HasLetter ds s = IfSome s.0 (λ a. a.0 < letter_count ds)

-- and its number within its limit
pub record IsWritable (ds : List Declaration) (s : Shift) : Type 0 where
  pub letter : HasLetter ds s
  pub by : s.1.0 < 2 ^ 32
