-- What `cancel` reads, judges and prints, and what that means.
use Rattle.std.specs.Prelude.{⊤, ℕ, ◌≡◌, false, List, ◌++◌, codes, decimal, Option, Some}
use Rattle.std.specs.List.{AllByRecursion}
use Rattle.definitions.specs.Category.{Structure, InvolutionLaws}
use Rattle.definitions.specs.Poly.{Term}
use Rattle.definitions.specs.Quiver.{Quiver}
use Rattle.definitions.specs.Representation.{Representation, StarRepresents, Cancels}
use Rattle.definitions.specs.Soundness.{HasSignature, HasValueZero}
use Rattle.quiver.specs.Declarations.{Declaration, quiver_of}
use Rattle.adjoint_rules.specs.declared.problem.Problem.{Problem}
use Rattle.adjoint_rules.specs.Problem.{polynomials, generators_in}
use Rattle.adjoint_rules.specs.Claims.{claim_at}
use Rattle.cancel_rules.specs.declared.cancellation.Cancellation.{Cancellation}
use Rattle.cancel_rules.specs.declared.refusal.CancelRefusal.{CancelRefusal}
use Rattle.cancel_rules.specs.declared.refusal.CancelRefusal.TheVariants as refusal
use Rattle.cancel_rules.specs.Acceptance.{IsAccepted, IsRefused}
use Rattle.cancel_rules.specs.Cancellations.{IsCancellationOf}
use Rattle.cancel_rules.specs.Meaning.{AreMonic, AreEpic, MakesZeroByCancelling}
use Rattle.cancellation_text.specs.Cancellations.{IsCancellations, IsFirstFault}
use Rattle.evidence_commands.specs.CalledLetters.{letters_text}
use Rattle.evidence_commands.specs.Causes.{claim_text, cause_text, HasLetters}
use Rattle.evidence_commands.specs.Kind.{Kind}

-- the text of an accepted proof: its claim, its denominator, and the letters that it calls monic and epic
abbrev pub accepted_text : List Declaration → Cancellation → List ℕ
accepted_text ds p = claim_text p.claim p.denominator ++ letters_text ds p.monic p.epic

-- why a proof is refused: what `check` says of certificates, or at which item a letter can't be cancelled; no line says that memory is short
abbrev pub refusal_text : List Declaration → CancelRefusal → Option (List ℕ)
refusal_text ds (refusal.Common e) = cause_text ds e
refusal_text ds (refusal.NoSuchItem item) = Some (codes "X1 item " ++ decimal item)
refusal_text ds (refusal.NotDeclared item) = Some (codes "X2 item " ++ decimal item)
refusal_text ds (refusal.NotTyped item) = Some (codes "X3 item " ++ decimal item)
refusal_text ds (refusal.NotStripped item) = Some (codes "X4 item " ++ decimal item)

-- the letters that it names are letters of the quiver
abbrev pub HasRefusalLetters : List Declaration → CancelRefusal → Type 0
HasRefusalLetters ds (refusal.Common e) = HasLetters ds e
HasRefusalLetters ds other = ⊤

-- Whatever the involution, each star representation in which the denominator cancels, the letters that the proof calls monic and
-- epic have such arrows, and the assumptions have the value zero, gives the claim the value zero.
pub record MakesZeroByStar {Object Arrow : Type 0} (s : Structure Object Arrow)
    (q : Quiver) (proof : Cancellation) (assumptions : List (List Term)) (claim : List Term) : Type 0 where
  pub zero : (adjoint : Arrow → Arrow) → InvolutionLaws s adjoint
      → (f : Representation Object Arrow) → StarRepresents s adjoint q f → Cancels s proof.denominator → AreMonic s f proof.monic → AreEpic s f proof.epic
      → AllByRecursion (HasValueZero s q f) assumptions → HasValueZero s q f claim

-- What an accepted proof means.
pub record CancelledMeans {Object Arrow : Type 0} (s : Structure Object Arrow) (problem : Problem) (proof : Cancellation) : Type 0 where
  -- its items, one after another, and its goal lead to the claim that it names, over the generators of the problem
  pub items : List (List Term)
  pub shows : IsCancellationOf (quiver_of problem.parts.quiver) (polynomials problem.generators) items proof (claim_at problem proof.claim)
  -- the claim has its signature
  pub typed : HasSignature (quiver_of problem.parts.quiver) (claim_at problem proof.claim)
  -- each representation in which the denominator cancels, the letters that it calls monic and epic have such arrows, and all
  -- generators of the statement have the value zero, gives the claim the value zero
  pub zero : MakesZeroByCancelling s (quiver_of problem.parts.quiver) proof (generators_in problem.parts) (claim_at problem proof.claim)
  -- in a star representation it is enough that the assumptions of the statement have the value zero,
  pub by_star : MakesZeroByStar s (quiver_of problem.parts.quiver) proof (polynomials problem.parts.assumptions) (claim_at problem proof.claim)
  -- and in a statement that isn't starred it is enough in every representation, without an involution
  pub plain : problem.parts.starred ≡ false
      → MakesZeroByCancelling s (quiver_of problem.parts.quiver) proof (polynomials problem.parts.assumptions) (claim_at problem proof.claim)

-- its items, one after another, and its goal lead to the claim that it names, over the generators of the problem
abbrev pub LeadsToClaim : Problem → Cancellation → Type 0
LeadsToClaim problem proof = (items : List (List Term))
    × IsCancellationOf (quiver_of problem.parts.quiver) (polynomials problem.generators) items proof (claim_at problem proof.claim)

-- proofs that cancel letters, each accepted with its claim, its denominator and the letters that it calls monic and epic, or refused with its cause
abbrev pub cancellations : Kind Cancellation CancelRefusal
cancellations = record {
  AreBlocks = IsCancellations;
  IsFirstFault = IsFirstFault;
  Passes = IsAccepted;
  IsRefused = IsRefused;
  shows = λ problem p. accepted_text problem.parts.quiver p;
  cause = refusal_text;
  Shown = LeadsToClaim;
  Means = λ Object Arrow s problem p. CancelledMeans s problem p;
}
