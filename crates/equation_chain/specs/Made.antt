-- A chain while it is made, and as it is returned.
use Rattle.std.specs.Prelude.{◌≡◌, ⊤, ℕ, ◌+◌, ◌<◌, ◌≤◌, List, [], ◌∷◌, ◌++◌, true, false, Some, None, Option, Ok, Err}
use Rattle.definitions.specs.Poly.{Poly}
use Rattle.nc_polynomial.specs.declared.fault.PolyFault.{PolyFault}
use Rattle.nc_polynomial.specs.declared.fault.PolyFault.TheVariants as poly
use Rattle.nc_polynomial.specs.declared.fault.SizeFault.{SizeFault}
use Rattle.std.specs.List.{All}
use Rattle.word_core.specs.Letters.{IsOver}
use Rattle.quiver.specs.Declarations.{Declaration, letter_count}
use Rattle.traced_rows.specs.declared.certificate.CertRow.{CertRow}
use Rattle.traced_rows.specs.declared.certificate.Certificate.{Certificate}
use Rattle.adjoint_rules.specs.declared.problem.Problem.{Problem}
use Rattle.adjoint_rules.specs.Problem.{polynomials}
use Rattle.certificate_text.specs.Evidence.{IsRowOver}
use Rattle.equation_chain.specs.declared.chain.Chain.{Chain}
use Rattle.equation_chain.specs.declared.chain.Making.{Making}
use Rattle.equation_chain.specs.declared.line.Line.{Line}
use Rattle.equation_chain.specs.declared.fault.ChainFault.{ChainFault}
use Rattle.equation_chain.specs.declared.fault.ChainFault.TheVariants as fault
use Rattle.equation_chain.specs.Limits.{letter_limit}
use Rattle.equation_chain.specs.Chains.{less_step}
use Rattle.equation_chain.specs.Steps.{is_step, steps_of}
use Rattle.equation_chain.specs.Lines.{letters_in, lines_by, lines_of}
use Rattle.equation_chain.specs.Faults.{steps_before, line_before, letters_before}

-- a fault of polynomials becomes that of the step in the row with this number
abbrev pub Tells : ℕ → PolyFault → ChainFault → Type 0
Tells number (poly.Overflow overflow) f = f ≡ fault.Overflow number overflow
Tells number (poly.Size size) f = f ≡ fault.Size number
Tells number (poly.Memory failed) f = f ≡ fault.Memory failed

-- The next line is the line less the step over this generator, and the lines up to it are short enough.
pub record IsLineBehind (line : Line) (generator : Poly) (step : CertRow) (next : Line) : Type 0 where
  pub made : less_step line.poly.terms generator step ≡ Ok next.poly.terms
  pub letters : next.letters ≡ line.letters + letters_in next.poly.terms
  pub short : next.letters ≤ letter_limit

-- there is none, or the lines up to it have too many letters
abbrev pub StopsLine : Line → Poly → CertRow → ℕ → ChainFault → Type 0
StopsLine line generator step number (fault.Refused refusal) = ⊥
StopsLine line generator step number (fault.Overflow row overflow) = (row ≡ number) × (less_step line.poly.terms generator step ≡ Err (poly.Overflow overflow))
StopsLine line generator step number (fault.Size row) = (row ≡ number)
    × ((size : SizeFault) × (less_step line.poly.terms generator step ≡ Err (poly.Size size)))
StopsLine line generator step number (fault.Long row) = (row ≡ number)
    × ((next : Poly) × (less_step line.poly.terms generator step ≡ Ok next) × (letter_limit < line.letters + letters_in next))
StopsLine line generator step number (fault.Memory failed) = ⊤

-- The line after the steps among the first i rows, with the letters of the lines up to it.
pub record IsLineBefore (problem : Problem) (c : Certificate) (i : ℕ) (line : Line) : Type 0 where
  pub terms : line.poly.terms ≡ line_before problem c i
  pub letters : line.letters ≡ letters_before problem c i

-- The row is a step, and this is the line after it; or it is none.
abbrev pub GoesOn : Problem → Certificate → ℕ → CertRow → Option Line → Type 0
GoesOn problem c i row (Some next) = (is_step problem c.claim row ≡ true) × IsLineBefore problem c (i + 1) next
GoesOn problem c i row None = is_step problem c.claim row ≡ false

-- After the first i rows: their steps, the lines before the present one, and this one.
pub record IsMaking (problem : Problem) (c : Certificate) (i : ℕ) (making : Making) : Type 0 where
  pub line : IsLineBefore problem c i making.line
  pub steps : making.steps ≡ steps_before problem c i
  pub lines : polynomials making.lines ++ making.line.poly.terms ∷ [] ≡ lines_by problem c (steps_before problem c i)

-- The chain of the certificate: its steps and its lines.
pub record IsChainOf (problem : Problem) (c : Certificate) (chain : Chain) : Type 0 where
  pub claim : chain.claim ≡ c.claim
  pub denominator : chain.denominator ≡ c.denominator
  pub steps : chain.steps ≡ steps_of problem c
  pub lines : polynomials chain.lines ≡ lines_of problem c

-- It can be written: the letters of its steps and of its lines are letters of the quiver.
pub record IsWritable (ds : List Declaration) (chain : Chain) : Type 0 where
  pub steps : All (IsRowOver ds) chain.steps
  pub lines : All (λ p. All (λ t. IsOver (letter_count ds) t.1) p.terms) chain.lines
