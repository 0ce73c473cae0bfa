-- What the parts of a search for breaking candidates find. Only private functions use it.
use Rattle.std.specs.Prelude.{◌≡◌, ◌<◌, ◌≤◌, ◌+◌, ◌↔◌, ℕ, Bool, true, false, List, length, get_or}
use Rattle.std.specs.Prelude.{Option, Some, None, IfSome, IsNone, IsTrue, MatchOption, Result, Ok, Err, IfOk}
use Rattle.std.specs.List.{All, AllByRecursion, AllZip, range_with_len}
use Rattle.quiver.specs.Declarations.{quiver_of}
use Rattle.matrix_models.specs.declared.model.Model.{Model}
use Rattle.adjoint_rules.specs.declared.parts.Shape.{Shape}
use Rattle.adjoint_rules.specs.declared.problem.Problem.{Problem}
use Rattle.model_search.specs.declared.found.Found.{Found}
use Rattle.model_candidates.specs.declared.plan.Plan.{Plan}
use Rattle.model_checker.specs.Models.{IsClaimNumber, IsZeroIn, assumptions_of, claim_polynomial, Refutes}
use Rattle.model_candidates.specs.Plans.{IsPlan}
use Rattle.model_candidates.specs.Candidates.{IsShapeOf, candidate_count, naming, Breaks, IsEarlier, IsLeastBreaking}

-- The numbers of claims, and that of a candidate of the plan's shape.
pub record CanBeTested (problem : Problem) (claims : List ℕ) (plan : Plan) (k : ℕ) : Type 0 where
  pub claims_are : All (IsClaimNumber problem) claims
  pub plan_is : IsPlan problem plan
  pub shape : Shape
  pub numbered : IsShapeOf problem plan.number shape
  pub in_range : k < candidate_count (quiver_of problem.parts.quiver) shape

-- the candidate with this number of the shape breaks the claim, or doesn't
abbrev pub BreaksAt : Problem → ℕ → ℕ → ℕ → ℕ → Type 0
BreaksAt problem claim seed number k = (m : Model) × Breaks problem claim seed number k m

abbrev pub NoneBreaksAt : Problem → ℕ → ℕ → ℕ → ℕ → Type 0
NoneBreaksAt problem claim seed number k = (m : Model) → ¬ Breaks problem claim seed number k m

-- whether it does
abbrev pub TellsBreaks : Problem → ℕ → ℕ → ℕ → ℕ → Bool → Type 0
TellsBreaks problem claim seed number k true = BreaksAt problem claim seed number k
TellsBreaks problem claim seed number k false = NoneBreaksAt problem claim seed number k

-- For each claim that has no candidate yet, whether it isn't zero in the model.
pub record AreOfClaims (problem : Problem) (m : Model) (claims : List ℕ) (found : List (Option Found)) (flags : List Bool) : Type 0 where
  pub one_each : length flags ≡ length claims
  pub each : (place : ℕ) → place < length claims → IsNone (get_or found place None)
      → IsTrue (get_or flags place false) ↔ (¬ IsZeroIn problem m (claim_polynomial problem (get_or claims place 0)))

-- For each claim that has no candidate yet, whether the model refutes it.
pub record AreFlags (problem : Problem) (m : Model) (claims : List ℕ) (found : List (Option Found)) (flags : List Bool) : Type 0 where
  pub one_each : length flags ≡ length claims
  pub each : (place : ℕ) → place < length claims → IsNone (get_or found place None)
      → IsTrue (get_or flags place false) ↔ Refutes problem (naming (get_or claims place 0) m)

-- these are the flags, or some assumption isn't zero in the model
abbrev pub AreBroken : Problem → Model → List ℕ → List (Option Found) → Option (List Bool) → Type 0
AreBroken problem m claims found None = ¬ AllByRecursion (IsZeroIn problem m) (assumptions_of problem)
AreBroken problem m claims found (Some flags) = AreFlags problem m claims found flags

-- the flag of the claim at this place
abbrev pub flag_at : ℕ → Option (List Bool) → Bool
flag_at place None = false
flag_at place (Some flags) = get_or flags place false

-- For each claim that has no candidate yet, whether the candidate with this number breaks it.
pub record IsTested (problem : Problem) (seed number : ℕ) (claims : List ℕ) (found : List (Option Found)) (k : ℕ)
    (broken : Option (List Bool)) : Type 0 where
  pub one_each : IfSome broken (λ flags. length flags ≡ length claims)
  pub each : (place : ℕ) → place < length claims → IsNone (get_or found place None)
      → TellsBreaks problem (get_or claims place 0) seed number k (flag_at place broken)

-- the answers for this many candidates, from this number on
abbrev pub AreTested : {E : Type 0} → Problem → ℕ → ℕ → List ℕ → List (Option Found) → ℕ → ℕ
    → List (Result (Option (List Bool)) E) → Type 0
AreTested problem seed number claims found first count answers =
    AllZip (λ k answer. IfOk answer (IsTested problem seed number claims found k)) (range_with_len first count) answers

-- the answer has a flag for each claim up to this place
abbrev pub HasFlag : {E : Type 0} → ℕ → Result (Option (List Bool)) E → Type 0
HasFlag place answer = IfOk answer (λ broken. IfSome broken (λ flags. place < length flags))

-- this is its flag of the claim at this place
abbrev pub IsFlag : {E : Type 0} → ℕ → Bool → Result (Option (List Bool)) E → Type 0
IsFlag place flag (Ok broken) = flag_at place broken ≡ flag
IsFlag place flag (Err e) = ⊥

-- by the first answers the claim at this place isn't broken
abbrev pub AreUnbroken : {E : Type 0} → ℕ → ℕ → List (Result (Option (List Bool)) E) → Type 0
AreUnbroken place count answers = (j : ℕ) → j < count → IsFlag place false (get_or answers j (Ok None))

-- This is the first answer by which the claim is broken.
pub record IsFirstBroken {E : Type 0} (place : ℕ) (answers : List (Result (Option (List Bool)) E)) (number : ℕ) : Type 0 where
  pub within : number < length answers
  pub broken : IsFlag place true (get_or answers number (Ok None))
  pub earlier : AreUnbroken place number answers

-- By the answers the candidates from this number on break the claim at this place or don't.
pub record AreTold {E : Type 0} (problem : Problem) (claim seed number first place : ℕ)
    (answers : List (Result (Option (List Bool)) E)) : Type 0 where
  pub flags : All (HasFlag place) answers
  pub each : (j : ℕ) → j < length answers
      → IfOk (get_or answers j (Ok None)) (λ broken. TellsBreaks problem claim seed number (first + j) (flag_at place broken))

-- the candidate with this number of the shape breaks the claim, with this model
pub record IsFoundAt (problem : Problem) (claim seed number k : ℕ) (f : Found) : Type 0 where
  pub shape_is : f.shape ≡ number
  pub candidate_is : f.candidate ≡ k
  pub breaks : Breaks problem claim seed number k f.model

-- It is the first of the candidates of the shape from this number on that breaks the claim.
pub record IsFirstFrom (problem : Problem) (claim seed number first : ℕ) (f : Found) : Type 0 where
  pub found : IsFoundAt problem claim seed number f.candidate f
  pub least : first ≤ f.candidate
  pub earlier : (k : ℕ) → first ≤ k → k < f.candidate → NoneBreaksAt problem claim seed number k

-- no candidate before this one breaks the claim
abbrev pub NoneBefore : Problem → ℕ → ℕ → ℕ → ℕ → Type 0
NoneBefore problem claim seed number k = (n j : ℕ) → IsEarlier n j number k → NoneBreaksAt problem claim seed n j

-- the least candidate that breaks the claim is found, or none before this one does
abbrev pub IsSearchedTo : Problem → ℕ → ℕ → ℕ → ℕ → Option Found → Type 0
IsSearchedTo problem claim seed number k found = MatchOption found (NoneBefore problem claim seed number k)
    (λ f. IsLeastBreaking problem claim seed f.shape f.candidate f.model)

-- Each claim was searched up to this candidate.
pub record AreSearchedTo (problem : Problem) (seed number k : ℕ) (claims : List ℕ) (found : List (Option Found)) : Type 0 where
  pub one_each : length found ≡ length claims
  pub each : (place : ℕ) → place < length claims → IsSearchedTo problem (get_or claims place 0) seed number k (get_or found place None)
