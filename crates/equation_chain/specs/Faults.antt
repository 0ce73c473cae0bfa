-- When a certificate has a chain, and its first fault otherwise.
use Rattle.std.specs.Prelude.{◌≡◌, ⊤, ℕ, ◌+◌, ◌<◌, ◌≤◌, true, List, length, take, slice_get, Some, Result, Ok, Err}
use Rattle.coef_int.specs.declared.Overflow.{Overflow}
use Rattle.definitions.specs.Poly.{Poly}
use Rattle.nc_polynomial.specs.declared.fault.PolyFault.{PolyFault}
use Rattle.nc_polynomial.specs.declared.fault.PolyFault.TheVariants as poly
use Rattle.nc_polynomial.specs.declared.fault.SizeFault.{SizeFault}
use Rattle.traced_rows.specs.declared.certificate.CertRow.{CertRow}
use Rattle.traced_rows.specs.declared.certificate.Certificate.{Certificate}
use Rattle.adjoint_rules.specs.declared.problem.Problem.{Problem}
use Rattle.adjoint_rules.specs.Problem.{polynomials}
use Rattle.cofactor_checker.specs.Acceptance.{Accepts, Refuses, IsMemory as IsMemoryRefusal}
use Rattle.equation_chain.specs.declared.fault.ChainFault.{ChainFault}
use Rattle.equation_chain.specs.declared.fault.ChainFault.TheVariants as fault
use Rattle.equation_chain.specs.Limits.{letter_limit}
use Rattle.equation_chain.specs.Steps.{is_step, steps_in}
use Rattle.equation_chain.specs.Lines.{line_less, lines_by, letters_of}
use Rattle.equation_chain.specs.Chains.{next_line}

-- `check` accepts the certificate
abbrev pub IsAccepted : Problem → Certificate → Type 0
IsAccepted problem c = Accepts (polynomials problem.parts.claims) (polynomials problem.generators) c

-- the steps among the first i rows, the line after them, and the letters of the lines up to it
abbrev pub steps_before : Problem → Certificate → ℕ → List CertRow
steps_before problem c i = steps_in problem c.claim (take i c.rows)

abbrev pub line_before : Problem → Certificate → ℕ → Poly
line_before problem c i = line_less problem c (steps_before problem c i)

abbrev pub letters_before : Problem → Certificate → ℕ → ℕ
letters_before problem c i = letters_of (lines_by problem c (steps_before problem c i))

-- the next line, or why it can't be made
abbrev pub result_at : Problem → Certificate → ℕ → CertRow → Result Poly PolyFault
result_at problem c i row = next_line (polynomials problem.generators) (line_before problem c i) row

-- The step after the first i rows passes: the next line is made, and the lines so far have at most 10,000,000 letters.
pub record StepPasses (problem : Problem) (c : Certificate) (i : ℕ) (row : CertRow) : Type 0 where
  pub line : Poly
  pub made : result_at problem c i row ≡ Ok line
  pub letters : letters_before problem c (i + 1) ≤ letter_limit

-- each step among the first n rows passes
pub record StepsPass (problem : Problem) (c : Certificate) (n : ℕ) : Type 0 where
  pub at : (i : ℕ) (row : CertRow) → i < n → slice_get c.rows i ≡ Some row → is_step problem c.claim row ≡ true → StepPasses problem c i row

-- The certificate is accepted, and each of its steps passes.
pub record IsExplained (problem : Problem) (c : Certificate) : Type 0 where
  pub accepted : IsAccepted problem c
  pub steps : StepsPass problem c (length c.rows)

-- The certificate is accepted. The row with this number, counted from 1, follows the first i ones, is a step, and each step before it passes.
pub record Reaches (problem : Problem) (c : Certificate) (number i : ℕ) (row : CertRow) : Type 0 where
  pub accepted : IsAccepted problem c
  pub numbered : number ≡ i + 1
  pub there : slice_get c.rows i ≡ Some row
  pub step : is_step problem c.claim row ≡ true
  pub earlier : StepsPass problem c i

-- The row is the first step that does not pass, because this operation overflows,
pub record Overflows (problem : Problem) (c : Certificate) (number : ℕ) (overflow : Overflow) : Type 0 where
  pub before : ℕ
  pub row : CertRow
  pub reached : Reaches problem c number before row
  pub operation : result_at problem c before row ≡ Err (poly.Overflow overflow)

-- because a word of its generator between its words is too long, or the next line has too many terms,
pub record Outsizes (problem : Problem) (c : Certificate) (number : ℕ) : Type 0 where
  pub before : ℕ
  pub row : CertRow
  pub reached : Reaches problem c number before row
  pub size : SizeFault
  pub outsized : result_at problem c before row ≡ Err (poly.Size size)

-- or because the lines so far have too many letters.
pub record Outgrows (problem : Problem) (c : Certificate) (number : ℕ) : Type 0 where
  pub before : ℕ
  pub row : CertRow
  pub reached : Reaches problem c number before row
  pub line : Poly
  pub made : result_at problem c before row ≡ Ok line
  pub letters : letter_limit < letters_before problem c (before + 1)

-- Each fault is the first one, and want of memory can come at any time.
abbrev pub IsFirstFault : Problem → Certificate → ChainFault → Type 0
IsFirstFault problem c (fault.Refused refusal) = Refuses (polynomials problem.parts.claims) (polynomials problem.generators) c refusal
IsFirstFault problem c (fault.Overflow row overflow) = Overflows problem c row overflow
IsFirstFault problem c (fault.Size row) = Outsizes problem c row
IsFirstFault problem c (fault.Long row) = Outgrows problem c row
IsFirstFault problem c (fault.Memory failed) = ⊤

-- the fault is want of memory
abbrev pub IsMemory : ChainFault → Type 0
IsMemory (fault.Refused refusal) = IsMemoryRefusal refusal
IsMemory (fault.Memory failed) = ⊤
IsMemory other = ⊥
