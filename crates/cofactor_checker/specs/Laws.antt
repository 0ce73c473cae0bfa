-- What accepted evidence shows, and that each certificate and each evidence has one outcome.
use Rattle.std.specs.Prelude.{◌≡◌, ◌⊎◌, List}
use Rattle.definitions.specs.Poly.{Poly}
use Rattle.traced_rows.specs.declared.certificate.Certificate.{Certificate}
use Rattle.traced_rows.specs.declared.evidence.Evidence.{Evidence}
use Rattle.cofactor_checker.specs.declared.refusal.Refusal.{Refusal}
use Rattle.cofactor_checker.specs.Acceptance.{Accepts, Refuses, IsMemory}
use Rattle.cofactor_checker.specs.Evidence.{AcceptsEvidence, RefusesEvidence, ShowsClaim}

-- Each certificate is accepted, or one of its tests is the first that fails.
abbrev pub EachCertificateIsJudged : Type 0
EachCertificateIsJudged =
    (claims generators : List Poly) (c : Certificate)
    → Accepts claims generators c ⊎ ((refusal : Refusal) × Refuses claims generators c refusal × (IsMemory refusal → ⊥))

-- Of one certificate there is one refusal at most, apart from want of memory.
abbrev pub RefusalIsUnique : Type 0
RefusalIsUnique =
    (claims generators : List Poly) (c : Certificate) (e f : Refusal) → Refuses claims generators c e → Refuses claims generators c f
    → (IsMemory e → ⊥) → (IsMemory f → ⊥) → e ≡ f

-- Evidence that passes each test adds up to the claim that it names.
abbrev pub AcceptedEvidenceAddsUp : Type 0
AcceptedEvidenceAddsUp = (claims generators : List Poly) (e : Evidence) → AcceptsEvidence claims generators e → ShowsClaim claims generators e

-- Of one evidence there is one refusal at most, apart from want of memory.
abbrev pub EvidenceRefusalIsUnique : Type 0
EvidenceRefusalIsUnique =
    (claims generators : List Poly) (evidence : Evidence) (e f : Refusal)
    → RefusesEvidence claims generators evidence e → RefusesEvidence claims generators evidence f
    → (IsMemory e → ⊥) → (IsMemory f → ⊥) → e ≡ f

-- Evidence that passes each test is refused for want of memory alone.
abbrev pub AcceptedEvidenceIsNotRefused : Type 0
AcceptedEvidenceIsNotRefused =
    (claims generators : List Poly) (evidence : Evidence) (e : Refusal)
    → AcceptsEvidence claims generators evidence → RefusesEvidence claims generators evidence e → IsMemory e

-- Each evidence is accepted, or one of its tests is the first that fails.
abbrev pub EvidenceIsJudged : Type 0
EvidenceIsJudged =
    (claims generators : List Poly) (evidence : Evidence)
    → AcceptsEvidence claims generators evidence ⊎ ((refusal : Refusal) × RefusesEvidence claims generators evidence refusal × (IsMemory refusal → ⊥))
