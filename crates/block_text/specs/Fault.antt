-- What can be wrong with evidence, and how a reader returns it.
use Rattle.std.specs.Prelude.{◌≡◌, ⊤, ℕ, Option, Some, None, Result, Ok, Err}
use Rattle.lists.specs.declared.stop.Stop.{Stop}
use Rattle.lists.specs.declared.stop.Stop.TheVariants as stop
use Rattle.block_text.specs.declared.fault.Flaw.{Flaw}
use Rattle.block_text.specs.declared.fault.Flaw.TheVariants as flaw
use Rattle.block_text.specs.declared.fault.CertFault.{CertFault}
use Rattle.block_text.specs.declared.fault.CertFault.TheVariants as cert_fault

-- the number that is printed for it, and the limit that is exceeded, or 0
abbrev pub code_of : Flaw → ℕ
code_of flaw.BadLine = 2
code_of flaw.UnknownName = 3
code_of flaw.NotAsWritten = 2
code_of flaw.NumberTooLarge = 4
code_of (flaw.TooMany limit) = 5

abbrev pub limit_of : Flaw → ℕ
limit_of flaw.BadLine = 0
limit_of flaw.UnknownName = 0
limit_of flaw.NotAsWritten = 0
limit_of flaw.NumberTooLarge = 0
limit_of (flaw.TooMany limit) = limit

-- its number, the line, and the limit that is exceeded; 0 stands for no line or no limit
pub record Fault : Type 0 where
  pub code : ℕ
  pub line : ℕ
  pub limit : ℕ

abbrev pub not_utf8 : Fault
not_utf8 = record { code = 1; line = 0; limit = 0 }

abbrev pub in_line : ℕ → Flaw → Fault
in_line number f = record { code = code_of f; line = number; limit = limit_of f }

-- the text ends inside a block
abbrev pub truncated : Fault
truncated = record { code = 6; line = 0; limit = 0 }

abbrev pub no_block : Fault
no_block = record { code = 7; line = 0; limit = 0 }

-- the second result, of the value of the first; the first error otherwise
infixl 10 ◌>>=◌
abbrev pub ◌>>=◌ : {A B F : Type 0} → Result A F → (A → Result B F) → Result B F
(Ok x) >>= f = f x
(Err e) >>= f = Err e

-- the value, or this flaw where there is none
abbrev pub asked : {A : Type 0} → Flaw → Option A → Result A Flaw
asked f (Some x) = Ok x
asked f None = Err f

-- the fault of a line: its flaw, with the number of the line
abbrev pub at_line : {A : Type 0} → ℕ → Result A Flaw → Result A Fault
at_line number (Ok x) = Ok x
at_line number (Err f) = Err (in_line number f)

-- it is a fault for which this holds, or want of memory
abbrev pub ExplainsBy : (Fault → Type 0) → CertFault → Type 0
ExplainsBy IsFault (cert_fault.Fault code line limit) = IsFault (record { code = code; line = line; limit = limit })
ExplainsBy IsFault (cert_fault.Memory e) = ⊤

abbrev pub Explains : {A : Type 0} → Result A Fault → CertFault → Type 0
Explains read (cert_fault.Fault code line limit) = read ≡ Err (record { code = code; line = line; limit = limit })
Explains read (cert_fault.Memory e) = ⊤

-- the value of a text, or its fault
abbrev pub ReadsText : {X Y : Type 0} → (X → Y) → Result X CertFault → Result Y Fault → Type 0
ReadsText view (Ok x) read = read ≡ Ok (view x)
ReadsText view (Err e) read = Explains read e

abbrev pub IsMemory : CertFault → Type 0
IsMemory (cert_fault.Fault code line limit) = ⊥
IsMemory (cert_fault.Memory e) = ⊤

-- what a reader returns for a fault
abbrev pub told : Fault → CertFault
told fault = cert_fault.Fault fault.code fault.line fault.limit

-- what a reader of lines returns for a line's flaw
abbrev pub TellsLine : ℕ → Stop Flaw → CertFault → Type 0
TellsLine number (stop.Fault f) result = result ≡ told (in_line number f)
TellsLine number (stop.Memory e) result = IsMemory result
