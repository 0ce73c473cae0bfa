-- How a reader of bases goes over the lines of evidence text. Only the reader's functions and proofs use it; the bases of a text
-- are defined in Bases.
use Rattle.std.specs.Prelude.{⊤, ℕ, List, codes}
use Rattle.definitions.specs.Poly.{Poly}
use Rattle.quiver.specs.Declarations.{Declaration}
use Rattle.block_text.specs.Lines.{number_limit, number_of}
use Rattle.block_text.specs.Steps.{Steps}
use Rattle.block_lines.specs.declared.section.LinePlace.{LinePlace}
use Rattle.block_lines.specs.declared.section.LinesPlace.{LinesPlace}
use Rattle.block_lines.specs.LineReadings.{polynomial_read}
use Rattle.block_lines.specs.SectionSteps.{no_steps, line_steps, lines_steps, block_steps}
use Rattle.block_lines.specs.BasisLines.{BasisTerms}
use Rattle.block_lines.specs.Bases.{other_words}
use Rattle.adjoint_rules.specs.Limits.{rule_limit}

abbrev pub basis_steps : List Declaration → Steps (LinePlace ℕ (LinesPlace Poly (LinePlace Poly ⊤))) BasisTerms
basis_steps ds =
    block_steps (codes "basis") (codes "1") other_words
    (line_steps (number_of (codes "claim") number_limit)
    (lines_steps (codes "rule") rule_limit (polynomial_read ds (codes "rule")) (line_steps (polynomial_read ds (codes "rest")) no_steps)))
