-- The laws of chains, for users.
use Rattle.std.specs.Prelude.{◌≡◌, ◌⊎◌, pos}
use Rattle.std.specs.List.{AllByRecursion}
use Rattle.definitions.specs.Category.{Structure}
use Rattle.definitions.specs.Quiver.{IsTyped}
use Rattle.definitions.specs.Combination.{IsCombination}
use Rattle.definitions.specs.Soundness.{MakesZero}
use Rattle.quiver.specs.Declarations.{quiver_of}
use Rattle.traced_rows.specs.declared.certificate.Certificate.{Certificate}
use Rattle.traced_rows.specs.Rows.{rows_of}
use Rattle.adjoint_rules.specs.declared.problem.Problem.{Problem}
use Rattle.adjoint_rules.specs.Problem.{polynomials}
use Rattle.equation_chain.specs.declared.fault.ChainFault.{ChainFault}
use Rattle.equation_chain.specs.Steps.{steps_of, claim_ends, IsTypedStep}
use Rattle.equation_chain.specs.Lines.{claim_in, lines_of}
use Rattle.equation_chain.specs.Chains.{IsChain}
use Rattle.equation_chain.specs.Faults.{IsAccepted, IsExplained, IsFirstFault, IsMemory}

-- Each certificate has a chain or a first fault.
abbrev pub EachCertificateIsExplained : Type 0
EachCertificateIsExplained = (problem : Problem) (c : Certificate) → IsExplained problem c ⊎ ((f : ChainFault) × IsFirstFault problem c f × (IsMemory f → ⊥))

-- It has at most one first fault, apart from want of memory,
abbrev pub FirstFaultIsUnique : Type 0
FirstFaultIsUnique = (problem : Problem) (c : Certificate) (e f : ChainFault) → IsFirstFault problem c e → IsFirstFault problem c f
    → (IsMemory e → ⊥) → (IsMemory f → ⊥) → e ≡ f

-- and none where it has a chain.
abbrev pub ExplainedHasNoFault : Type 0
ExplainedHasNoFault = (problem : Problem) (c : Certificate) (f : ChainFault) → IsExplained problem c → IsFirstFault problem c f → IsMemory f

-- All words of each step are paths of the claim's signature.
abbrev pub StepsAreTyped : Type 0
StepsAreTyped = (problem : Problem) (c : Certificate) → AllByRecursion (IsTypedStep problem c.claim) (steps_of problem c)

-- The steps of an accepted certificate add up to its denominator times its claim.
abbrev pub StepsAddUp : Type 0
StepsAddUp = (problem : Problem) (c : Certificate) → IsAccepted problem c
    → IsCombination (polynomials problem.generators) (rows_of (steps_of problem c)) c.denominator (claim_in problem c)

-- The lines of an explained one lead from that multiple of the claim to zero, and neighbours differ by one step.
abbrev pub LinesAreAChain : Type 0
LinesAreAChain = (problem : Problem) (c : Certificate) → IsExplained problem c → IsChain problem c (lines_of problem c)

-- Each line of an accepted one has the claim's signature,
abbrev pub LinesAreTyped : Type 0
LinesAreTyped = (problem : Problem) (c : Certificate) → IsAccepted problem c
    → AllByRecursion (λ line. IsTyped (quiver_of problem.parts.quiver) (claim_ends problem c.claim).0 (claim_ends problem c.claim).1 line) (lines_of problem c)

-- and is zero wherever the generators are.
abbrev pub LinesVanish : {Object Arrow : Type 0} → Structure Object Arrow → Type 0
LinesVanish s = (problem : Problem) (c : Certificate) → IsAccepted problem c
    → AllByRecursion (λ line. MakesZero s (quiver_of problem.parts.quiver) (polynomials problem.generators) (pos 1) line) (lines_of problem c)
