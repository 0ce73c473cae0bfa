-- The lines of bases in evidence text, and the bounds on them in the order in which they are tested.
use Rattle.std.specs.Prelude.{⊤, ℕ, List, [], ◌∷◌, ◌++◌, map, Option, Some, None, codes}
use Rattle.definitions.specs.Poly.{Poly}
use Rattle.quiver.specs.Declarations.{Declaration}
use Rattle.block_text.specs.declared.fault.Flaw.{Flaw}
use Rattle.block_text.specs.declared.fault.Flaw.TheVariants.{TooMany}
use Rattle.block_text.specs.Lines.{number_limit}
use Rattle.block_lines.specs.LineKinds.{number_line, PolynomialBound, names, writing, numbers, terms, words, polynomial_flaw, polynomial_behind}
use Rattle.block_lines.specs.Sections.{Section, no_lines, line_then, lines_then}
use Rattle.adjoint_rules.specs.Limits.{rule_limit}

-- on the polynomials and the claim, and on the number of rules
pub data Bound : Type 0 where
  on_polynomial : PolynomialBound → Bound
  rules : Bound

-- they are tested in this order
abbrev pub bounds : List Bound
bounds = map on_polynomial (names ∷ writing ∷ numbers ∷ terms ∷ words ∷ []) ++ rules ∷ []

-- the flaw of a line that exceeds the bound
abbrev pub flaw_of : Bound → Flaw
flaw_of (on_polynomial bound) = polynomial_flaw bound
flaw_of rules = TooMany rule_limit

abbrev pub part : Bound → Option PolynomialBound
part (on_polynomial bound) = Some bound
part rules = None

-- a claim, rules and the rest, by the terms of the polynomials
abbrev pub BasisTerms : Type 0
BasisTerms = ℕ × (List Poly × (Poly × ⊤))

-- claim N, a line `rule POLYNOMIAL` for each rule, and rest POLYNOMIAL
abbrev pub basis_lines : List Declaration → Section Bound BasisTerms
basis_lines ds =
    line_then (number_line (on_polynomial numbers) (codes "claim") number_limit)
    (lines_then (polynomial_behind ds part (codes "rule")) (line_then (polynomial_behind ds part (codes "rest")) no_lines) rules rule_limit)
