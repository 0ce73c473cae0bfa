-- What all candidates of a shape share, for private functions.
use Rattle.std.specs.Prelude.{◌≡◌, Bool, not, ◌&&◌, if◌then◌else◌, ℕ, ◌<◌, ◌≤◌, List, [], length, filter, get_or, nat_le, IsTrue}
use Rattle.std.specs.List.{All, AllByRecursion, list_all}
use Rattle.definitions.specs.Poly.{Poly}
use Rattle.definitions.specs.Quiver.{Quiver, IsTyped}
use Rattle.definitions.specs.Soundness.{HasValueZeroAt}
use Rattle.word_core.specs.declared.letter.Letter.{Letter}
use Rattle.quiver.specs.Declarations.{object_count, quiver_of}
use Rattle.matrix_models.specs.Matrices.{matrices}
use Rattle.matrix_models.specs.declared.model.Model.{Model}
use Rattle.adjoint_rules.specs.declared.parts.Shape.{Shape}
use Rattle.adjoint_rules.specs.declared.problem.Problem.{Problem}
use Rattle.adjoint_rules.specs.Problem.{polynomials}
use Rattle.model_candidates.specs.declared.plan.LinearAssumption.{LinearAssumption}
use Rattle.model_candidates.specs.declared.plan.Plan.{Plan}
use Rattle.model_checker.specs.Models.{IsZeroIn}
use Rattle.model_checker.specs.Representations.{representation_of}
use Rattle.model_candidates.specs.Candidates.{IsShapeOf, entries_of, is_exhaustive, is_linear, solved_count}
use Rattle.model_candidates.specs.Unknowns.{set_count, solved_flags}
use Rattle.model_candidates.specs.LetterNumbers.{numbers_of_letters}
use Rattle.model_candidates.specs.Tables.{AreTables}

-- the polynomials of the assumptions that are linear in the solved maps
abbrev pub linear_assumptions : Problem → List Poly
linear_assumptions problem = polynomials (filter (is_linear (quiver_of problem.parts.quiver) problem.parts.solved) problem.parts.assumptions)

-- the terms of the assumption that is meant
abbrev pub terms_of : Problem → LinearAssumption → Poly
terms_of problem g = get_or (polynomials problem.parts.assumptions) g.place []

-- whether each word has so many solved letters at most
abbrev pub has_few : Quiver → List Letter → ℕ → Poly → Bool
has_few q solved most p = list_all (λ t. nat_le (solved_count q solved t.1) most) p

-- An assumption of the problem whose words have so many solved letters at most, with a signature of it.
pub record IsAssumption (problem : Problem) (most : ℕ) (g : LinearAssumption) : Type 0 where
  pub place : g.place < length problem.parts.assumptions
  pub few : IsTrue (has_few (quiver_of problem.parts.quiver) problem.parts.solved most (terms_of problem g))
  pub source : g.sig.source.0 < object_count problem.parts.quiver
  pub target : g.sig.target.0 < object_count problem.parts.quiver
  pub typed : IsTyped (quiver_of problem.parts.quiver) g.sig.source.0 g.sig.target.0 (terms_of problem g)

-- it is zero in the model, at the signature
abbrev pub IsZeroAtSignature : Problem → Model → LinearAssumption → Type 0
IsZeroAtSignature problem m g =
    HasValueZeroAt (matrices m.modulus) (quiver_of problem.parts.quiver) (representation_of (quiver_of problem.parts.quiver) m)
    g.sig.source.0 g.sig.target.0 (terms_of problem g)

-- The linear assumptions, those with no solved letter apart: a model in which these are zero at their signatures has all of them zero.
pub record AreLinearAssumptions (problem : Problem) (conditions equations : List LinearAssumption) : Type 0 where
  pub each_condition : All (IsAssumption problem 0) conditions
  pub each : All (IsAssumption problem 1) equations
  pub all : (m : Model) → All (IsZeroAtSignature problem m) conditions → All (IsZeroAtSignature problem m) equations
      → AllByRecursion (IsZeroIn problem m) (linear_assumptions problem)

-- whether the polynomial has no solved letter, or is a linear one that has some
abbrev pub is_asked : Quiver → List Letter → Bool → Poly → Bool
is_asked q solved known p = if known then has_few q solved 0 p else (has_few q solved 1 p && not (has_few q solved 0 p))

-- The assumptions that are asked for: a model in which these are zero at their signatures has all of them zero.
pub record AreAsked (problem : Problem) (known : Bool) (gs : List LinearAssumption) : Type 0 where
  pub each : All (IsAssumption problem (if known then 0 else 1)) gs
  pub all : (m : Model) → All (IsZeroAtSignature problem m) gs → AllByRecursion (IsZeroIn problem m)
      (polynomials (filter (λ p. is_asked (quiver_of problem.parts.quiver) problem.parts.solved known p.terms) problem.parts.assumptions))

-- The plan fits the shape: how many entries there are, whether all lists of values are tried, which entries are solved for and how many,
-- the numbers of these, the linear assumptions, and the tables.
pub record FitsShape (problem : Problem) (s : Shape) (plan : Plan) : Type 0 where
  pub entries : plan.entries ≡ length (entries_of (quiver_of problem.parts.quiver) s)
  pub exhaustive : plan.exhaustive ≡ is_exhaustive (quiver_of problem.parts.quiver) s
  pub solved : plan.solved ≡ solved_flags (quiver_of problem.parts.quiver) s problem.parts.solved
  pub unknowns : plan.unknowns ≡ set_count plan.solved
  pub numbers : plan.numbers ≡ numbers_of_letters (quiver_of problem.parts.quiver) s problem.parts.solved
  pub assumptions : AreLinearAssumptions problem plan.assumptions.conditions plan.assumptions.equations
  pub tables : AreTables problem s plan.tables

-- The plan is that of the shape with its number.
pub record IsPlan (problem : Problem) (plan : Plan) : Type 0 where
  pub least : 1 ≤ plan.number
  pub most : plan.number ≤ length problem.parts.shapes
  pub fits : (s : Shape) → IsShapeOf problem plan.number s → FitsShape problem s plan

-- Values below the modulus, one for each entry of the shape.
pub record AreEntryValues (problem : Problem) (s : Shape) (values : List ℕ) : Type 0 where
  pub one_each : length values ≡ length (entries_of (quiver_of problem.parts.quiver) s)
  pub below : All (λ value. value < s.modulus) values
