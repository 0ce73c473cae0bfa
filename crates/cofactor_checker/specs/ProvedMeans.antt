-- When evidence adds up to a claim of a problem, and what that means in a category.
use Rattle.std.specs.Prelude.{ℕ, ℤ, ◌≡◌, false, List}
use Rattle.std.specs.List.{AllByRecursion}
use Rattle.definitions.specs.Category.{Structure, InvolutionLaws}
use Rattle.definitions.specs.Combination.{IsCombination}
use Rattle.definitions.specs.Poly.{Term}
use Rattle.definitions.specs.Quiver.{Quiver}
use Rattle.definitions.specs.Representation.{Representation, StarRepresents, Cancels}
use Rattle.definitions.specs.Soundness.{HasSignature, HasValueZero, MakesZero}
use Rattle.quiver.specs.Declarations.{quiver_of}
use Rattle.traced_rows.specs.declared.certificate.Certificate.{Certificate}
use Rattle.traced_rows.specs.declared.evidence.LemmaCertificate.{LemmaCertificate}
use Rattle.traced_rows.specs.declared.evidence.Evidence.{Evidence}
use Rattle.traced_rows.specs.declared.evidence.Evidence.TheVariants as evidence
use Rattle.traced_rows.specs.Rows.{rows_of}
use Rattle.traced_rows.specs.LemmaRows.{IsEvidenceOf, denominator_of}
use Rattle.adjoint_rules.specs.declared.problem.Problem.{Problem}
use Rattle.adjoint_rules.specs.Problem.{polynomials, generators_in}
use Rattle.adjoint_rules.specs.Claims.{claim_at}

-- The certificate names the claim, and its rows over the generators add up to its denominator, which is positive, times the claim.
pub record CertificateAddsUp (problem : Problem) (number : ℕ) (c : Certificate) : Type 0 where
  pub claim : c.claim ≡ number
  pub combination : IsCombination (polynomials problem.generators) (rows_of c.rows) c.denominator (claim_at problem number)

-- The certificate names the claim, and there are polynomials of its lemmas with which it is evidence of the claim.
pub record LemmaCertificateAddsUp (problem : Problem) (number : ℕ) (c : LemmaCertificate) : Type 0 where
  pub claim : c.claim ≡ number
  pub lemmas : List (List Term)
  pub evidence : IsEvidenceOf (polynomials problem.generators) lemmas c (claim_at problem number)

-- The evidence is the claim's, and it adds up.
abbrev pub EvidenceAddsUp : Problem → ℕ → Evidence → Type 0
EvidenceAddsUp problem number (evidence.Plain c) = CertificateAddsUp problem number c
EvidenceAddsUp problem number (evidence.Lemmas c) = LemmaCertificateAddsUp problem number c

-- Whatever the involution, each star representation in which d cancels and the assumptions have the value zero gives the claim the value zero.
pub record MakesZeroByStar {Object Arrow : Type 0} (s : Structure Object Arrow) (q : Quiver) (assumptions : List (List Term)) (d : ℤ)
    (claim : List Term) : Type 0 where
  pub zero : (adjoint : Arrow → Arrow) → InvolutionLaws s adjoint
      → (f : Representation Object Arrow) → StarRepresents s adjoint q f → Cancels s d → AllByRecursion (HasValueZero s q f) assumptions
      → HasValueZero s q f claim

-- What it means in a category that d times the claim is a combination of the generators of the problem.
pub record MeansZero {Object Arrow : Type 0} (s : Structure Object Arrow) (problem : Problem) (d : ℤ) (claim : List Term) : Type 0 where
  -- the claim is typed of its signature
  pub typed : HasSignature (quiver_of problem.parts.quiver) claim
  -- each representation in which d cancels and all generators of the statement have the value zero gives the claim the value zero
  pub zero : MakesZero s (quiver_of problem.parts.quiver) (generators_in problem.parts) d claim
  -- in a star representation it is enough that the assumptions of the statement have the value zero,
  pub by_star : MakesZeroByStar s (quiver_of problem.parts.quiver) (polynomials problem.parts.assumptions) d claim
  -- and in a statement that isn't starred it is enough in every representation, without an involution
  pub plain : problem.parts.starred ≡ false → MakesZero s (quiver_of problem.parts.quiver) (polynomials problem.parts.assumptions) d claim

-- What it means in a category that the claim with this number is proved by this evidence.
pub record ProvedMeans {Object Arrow : Type 0} (s : Structure Object Arrow) (problem : Problem) (number : ℕ) (e : Evidence) : Type 0 where
  -- the evidence adds up to the claim, whether or not its rows are typed: its rows, over generators alone, to its denominator d times the
  -- claim, or its lemmas and its goal, each to its scale times what it gives
  pub sum : EvidenceAddsUp problem number e
  -- which makes the claim zero
  pub means : MeansZero s problem (denominator_of e) (claim_at problem number)
