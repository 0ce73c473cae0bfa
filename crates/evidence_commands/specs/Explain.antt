-- What `explain` reads, judges and prints, and what that means.
use Rattle.std.specs.Prelude.{⊤, ℕ, ℤ, pos, List, ◌++◌, length, codes, decimal, Option, Some, None}
use Rattle.std.specs.Fmt.{signed_decimal}
use Rattle.std.specs.List.{AllByRecursion}
use Rattle.definitions.specs.Category.{Structure}
use Rattle.definitions.specs.Combination.{IsCombination}
use Rattle.quiver.specs.Declarations.{Declaration}
use Rattle.adjoint_rules.specs.declared.problem.Problem.{Problem}
use Rattle.adjoint_rules.specs.Problem.{polynomials}
use Rattle.adjoint_rules.specs.Claims.{claim_at}
use Rattle.traced_rows.specs.declared.certificate.Certificate.{Certificate}
use Rattle.traced_rows.specs.declared.evidence.Evidence.{Evidence}
use Rattle.traced_rows.specs.declared.evidence.Evidence.TheVariants.{Plain, Lemmas}
use Rattle.traced_rows.specs.declared.evidence.Format.TheVariants as format
use Rattle.traced_rows.specs.Rows.{rows_of}
use Rattle.cofactor_checker.specs.ProvedMeans.{MeansZero}
use Rattle.certificate_text.specs.Evidence as text
use Rattle.equation_chain.specs.declared.fault.ChainFault.{ChainFault}
use Rattle.equation_chain.specs.declared.fault.ChainFault.TheVariants as fault
use Rattle.equation_chain.specs.Limits.{letter_limit}
use Rattle.equation_chain.specs.Steps.{steps_of, IsTypedStep}
use Rattle.equation_chain.specs.Lines.{lines_by, lines_of}
use Rattle.equation_chain.specs.Chains.{IsChain}
use Rattle.equation_chain.specs.Faults as chain
use Rattle.equation_chain.specs.Written.{lines_text, chain_text}
use Rattle.evidence_commands.specs.Causes.{operation_text, cause_text, HasLetters}
use Rattle.evidence_commands.specs.Kind.{Kind}

-- the certificate is accepted, and each of its steps passes; no block with lemmas is explained
abbrev pub IsExplained : Problem → Evidence → Type 0
IsExplained problem (Plain c) = chain.IsExplained problem c
IsExplained problem (Lemmas c) = ⊥

-- A block with lemmas is refused for them, with no fault of a chain, even if it has another one. A certificate is refused for its first fault.
abbrev pub IsRefused : Problem → Evidence → Option ChainFault → Type 0
IsRefused problem (Plain c) (Some f) = chain.IsFirstFault problem c f
IsRefused problem (Lemmas c) None = ⊤
IsRefused problem other refusal = ⊥

-- it is want of memory
abbrev pub IsMemory : Option ChainFault → Type 0
IsMemory None = ⊥
IsMemory (Some f) = chain.IsMemory f

-- the text of the first fault of a certificate: what `check` says of it, or which step fails and why; no line says that memory is short
abbrev pub fault_text : List Declaration → ChainFault → Option (List ℕ)
fault_text ds (fault.Refused refusal) = cause_text ds refusal
fault_text ds (fault.Overflow row o) =
    Some (codes "E2 row " ++ (decimal row ++ (codes " " ++ (signed_decimal o.left ++ (operation_text o.product ++ signed_decimal o.right)))))
fault_text ds (fault.Size row) = Some (codes "E3 row " ++ decimal row)
fault_text ds (fault.Long row) = Some (codes "E4 row " ++ (decimal row ++ (codes " limit " ++ decimal letter_limit)))
fault_text ds (fault.Memory failed) = None

-- why a block is refused
abbrev pub refusal_text : List Declaration → Option ChainFault → Option (List ℕ)
refusal_text ds None = Some (codes "E1")
refusal_text ds (Some f) = fault_text ds f

-- the letters that the text of a fault names are letters of the quiver
abbrev pub HasFaultLetters : List Declaration → ChainFault → Type 0
HasFaultLetters ds (fault.Refused refusal) = HasLetters ds refusal
HasFaultLetters ds other = ⊤

-- and those of the text of a block's refusal
abbrev pub HasRefusalLetters : List Declaration → Option ChainFault → Type 0
HasRefusalLetters ds None = ⊤
HasRefusalLetters ds (Some f) = HasFaultLetters ds f

-- the line before a chain: its claim, its denominator, and how many steps it has
abbrev pub head_text : ℕ → ℤ → ℕ → List ℕ
head_text claim denominator steps =
    codes "explained claim " ++ (decimal claim ++ (codes " denominator " ++ (signed_decimal denominator ++ (codes " steps " ++ (decimal steps ++ codes "\n")))))

-- that line, then the chain of a certificate
abbrev pub certificate_explained : Problem → Certificate → List ℕ
certificate_explained problem c =
    head_text c.claim c.denominator (length (steps_of problem c)) ++ chain_text problem.parts.quiver c.claim c.denominator
    (steps_of problem c) (lines_of problem c)

-- the text of an explained block; of one with lemmas, which is never explained, that line alone
abbrev pub explained_text : Problem → Evidence → List ℕ
explained_text problem (Plain c) = certificate_explained problem c
explained_text problem (Lemmas c) = head_text c.claim c.denominator 0

-- the lines after the first i rows, with the steps between them; only private functions use it
abbrev pub text_before : Problem → Certificate → ℕ → List ℕ
text_before problem c i = lines_text problem.parts.quiver (chain.steps_before problem c i) (lines_by problem c (chain.steps_before problem c i))

-- What an explained certificate means: its chain leads from its denominator times the claim that it names to zero.
pub record ExplainedMeans {Object Arrow : Type 0} (s : Structure Object Arrow) (problem : Problem) (c : Certificate) : Type 0 where
  -- the steps alone add up to the denominator times the claim, which makes the claim zero
  pub sum : IsCombination (polynomials problem.generators) (rows_of (steps_of problem c)) c.denominator (claim_at problem c.claim)
  pub means : MeansZero s problem c.denominator (claim_at problem c.claim)
  -- all words of each step are paths of the claim's signature
  pub typed : AllByRecursion (IsTypedStep problem c.claim) (steps_of problem c)
  -- the first line is that multiple of the claim, each later one the one before less its step, and the last one is zero
  pub lines : IsChain problem c (lines_of problem c)
  -- and each is zero wherever the generators are: 1 cancels in every category
  pub each : AllByRecursion (MeansZero s problem (pos 1)) (lines_of problem c)

-- a block that is explained is a certificate of rows over generators alone, whose lines are a chain
abbrev pub IsChained : Problem → Evidence → Type 0
IsChained problem (Plain c) = IsChain problem c (lines_of problem c)
IsChained problem (Lemmas c) = ⊥

-- with its meaning
abbrev pub BlockMeans : {Object Arrow : Type 0} → Structure Object Arrow → Problem → Evidence → Type 0
BlockMeans s problem (Plain c) = ExplainedMeans s problem c
BlockMeans s problem (Lemmas c) = ⊥

-- certificates of both formats, each explained by its chain, or refused with its cause
abbrev pub chains : Kind Evidence (Option ChainFault)
chains = record {
  AreBlocks = text.IsEvidence format.Lemmas;
  IsFirstFault = text.IsFirstFault format.Lemmas;
  Passes = IsExplained;
  IsRefused = IsRefused;
  shows = explained_text;
  cause = refusal_text;
  Shown = IsChained;
  Means = λ Object Arrow s problem e. BlockMeans s problem e;
}
