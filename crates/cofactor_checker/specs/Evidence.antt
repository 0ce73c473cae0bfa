-- When evidence of either format is accepted, and else the first test that fails.
use Rattle.std.specs.Prelude.{◌≡◌, ◌≤◌, List, length}
use Rattle.std.specs.List.{All}
use Rattle.coef_int.specs.Range.{IsCoefficient}
use Rattle.definitions.specs.Poly.{Poly}
use Rattle.definitions.specs.Combination.{IsCombination}
use Rattle.traced_rows.specs.declared.certificate.Certificate.{Certificate}
use Rattle.traced_rows.specs.declared.evidence.Evidence.{Evidence}
use Rattle.traced_rows.specs.declared.evidence.Evidence.TheVariants.{Plain, Lemmas}
use Rattle.traced_rows.specs.LemmaRows.{IsEvidenceOf}
use Rattle.traced_rows.specs.Rows.{rows_of}
use Rattle.cofactor_checker.specs.declared.accepted.Accepted.{Accepted}
use Rattle.cofactor_checker.specs.declared.refusal.Refusal.{Refusal}
use Rattle.cofactor_checker.specs.Acceptance.{claim_of, Accepts, Refuses}
use Rattle.cofactor_checker.specs.LemmaAcceptance.{goal_claim, all_polynomials, AcceptsLemmas, RefusesLemmaCertificate, IsReadable}

-- each test of the evidence passes
abbrev pub AcceptsEvidence : List Poly → List Poly → Evidence → Type 0
AcceptsEvidence claims generators (Plain c) = Accepts claims generators c
AcceptsEvidence claims generators (Lemmas c) = AcceptsLemmas claims generators c

-- what accepted evidence shows of the claim that it names
abbrev pub ShowsClaim : List Poly → List Poly → Evidence → Type 0
ShowsClaim claims generators (Plain c) = IsCombination generators (rows_of c.rows) c.denominator (claim_of claims c)
ShowsClaim claims generators (Lemmas c) = IsEvidenceOf generators (all_polynomials generators c) c (goal_claim claims c)

-- it names the claim and the denominator of the evidence
abbrev pub NamesClaim : Evidence → Accepted → Type 0
NamesClaim (Plain c) accepted = accepted ≡ record { claim = c.claim; denominator = c.denominator }
NamesClaim (Lemmas c) accepted = accepted ≡ record { claim = c.claim; denominator = c.denominator }

-- a refusal of evidence is that of its certificate
abbrev pub RefusesEvidence : List Poly → List Poly → Evidence → Refusal → Type 0
RefusesEvidence claims generators (Plain c) e = Refuses claims generators c e
RefusesEvidence claims generators (Lemmas c) e = RefusesLemmaCertificate claims generators c e

-- What a reader keeps of a certificate of rows over generators alone: all numbers are coefficients, and rows can be numbered.
pub record IsReadablePlain (c : Certificate) : Type 0 where
  pub few_rows : length c.rows ≤ 4294967295
  pub denominator : IsCoefficient c.denominator
  pub coefficients : All (λ r. IsCoefficient r.coef) c.rows

-- the same of evidence of either format
abbrev pub IsReadableEvidence : Evidence → Type 0
IsReadableEvidence (Plain c) = IsReadablePlain c
IsReadableEvidence (Lemmas c) = IsReadable c
