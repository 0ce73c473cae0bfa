-- What `check` reads, judges and prints, and what that means.
use Rattle.std.specs.Prelude.{ℕ, List}
use Rattle.definitions.specs.Category.{Structure}
use Rattle.adjoint_rules.specs.declared.problem.Problem.{Problem}
use Rattle.adjoint_rules.specs.Problem.{polynomials}
use Rattle.traced_rows.specs.declared.evidence.Evidence.{Evidence}
use Rattle.traced_rows.specs.declared.evidence.Evidence.TheVariants.{Plain, Lemmas}
use Rattle.traced_rows.specs.declared.evidence.Format.TheVariants as format
use Rattle.traced_rows.specs.LemmaRows.{denominator_of}
use Rattle.cofactor_checker.specs.declared.refusal.Refusal.{Refusal}
use Rattle.cofactor_checker.specs.Evidence.{AcceptsEvidence, RefusesEvidence}
use Rattle.cofactor_checker.specs.ProvedMeans.{EvidenceAddsUp, ProvedMeans}
use Rattle.certificate_text.specs.Evidence.{IsEvidence, IsFirstFault}
use Rattle.evidence_commands.specs.Causes.{claim_text, cause_text}
use Rattle.evidence_commands.specs.Kind.{Kind}

-- the number of the claim that the evidence names
abbrev pub claim_number : Evidence → ℕ
claim_number (Plain c) = c.claim
claim_number (Lemmas c) = c.claim

-- the claim that it names, and its denominator
abbrev pub named_text : Evidence → List ℕ
named_text e = claim_text (claim_number e) (denominator_of e)

-- no test of the evidence fails
abbrev pub IsAccepted : Problem → Evidence → Type 0
IsAccepted problem e = AcceptsEvidence (polynomials problem.parts.claims) (polynomials problem.generators) e

-- this one is the first that fails
abbrev pub IsRefused : Problem → Evidence → Refusal → Type 0
IsRefused problem e refusal = RefusesEvidence (polynomials problem.parts.claims) (polynomials problem.generators) e refusal

-- What an accepted certificate means: it proves the claim that it names.
abbrev pub AcceptedMeans : {Object Arrow : Type 0} → Structure Object Arrow → Problem → Evidence → Type 0
AcceptedMeans s problem e = ProvedMeans s problem (claim_number e) e

-- Certificates of both formats, each accepted with its claim and its denominator, or refused with its cause. One that is accepted adds up
-- to the claim that it names.
abbrev pub certificates : Kind Evidence Refusal
certificates = record {
  AreBlocks = IsEvidence format.Lemmas;
  IsFirstFault = IsFirstFault format.Lemmas;
  Passes = IsAccepted;
  IsRefused = IsRefused;
  shows = λ problem e. named_text e;
  cause = cause_text;
  Shown = λ problem e. EvidenceAddsUp problem (claim_number e) e;
  Means = λ Object Arrow s problem e. AcceptedMeans s problem e;
}
