-- What holds of a file whose names have no fault.
use Rattle.std.specs.Prelude.{◌<◌, ◌≤◌, List, length, AllPairs}
use Rattle.std.specs.List.{All}
use Rattle.word_orders.specs.Specified.{IsSound}
use Rattle.quiver.specs.Declarations.{Declaration, object_count, letter_count, IsDeclared, ObjectsFirst}
use Rattle.abbreviations.specs.Names.{AreNames}
use Rattle.adjoint_rules.specs.Problem.{IsShape, IsDeclaredMap}
use Rattle.statement_names.specs.Types.{Statement, Equation}
use Rattle.statement_names.specs.Marked.{marked_of}
use Rattle.statement_names.specs.Ordered.{order_of}
use Rattle.statement_names.specs.Shapes.{shapes_of}
use Rattle.statement_names.specs.Solved.{solved_of}
use Rattle.abbreviations.specs.Written.{assumptions_of, claims_of}
use Rattle.adjoint_rules.specs.Limits.{assumption_limit, claim_limit, shape_limit}

-- each name on both sides stands for a map, and each in square brackets for an object
pub record HasNames (ds : List Declaration) (e : Equation) : Type 0 where
  pub left : AreNames ds e.left
  pub right : AreNames ds e.right

-- The declarations, the order, the shapes and the letters of the file are valid.
pub record IsReady (ds : List Declaration) (statements : List Statement) : Type 0 where
  pub declared : IsDeclared ds
  pub objects_first : ObjectsFirst ds
  pub order : IsSound (letter_count ds) (order_of ds statements)
  -- the equations, abbreviations written out
  pub few_assumptions : length (assumptions_of ds statements) ≤ assumption_limit
  pub assumptions : All (HasNames ds) (assumptions_of ds statements)
  pub few_claims : length (claims_of statements) ≤ claim_limit
  pub claims : All (HasNames ds) (claims_of statements)
  -- the identities that are written
  pub marked_objects : All (λ v. v.0 < object_count ds) (marked_of ds statements)
  pub marked_ascending : AllPairs (λ v w. v.0 < w.0) (marked_of ds statements)
  -- the shapes of the models that are searched
  pub some_shape : 1 ≤ length (shapes_of ds statements)
  pub few_shapes : length (shapes_of ds statements) ≤ shape_limit
  pub shapes : All (IsShape (object_count ds)) (shapes_of ds statements)
  pub solved_maps : All (IsDeclaredMap ds) (solved_of ds statements)
  pub solved_ascending : AllPairs (λ a b. a.0 < b.0) (solved_of ds statements)
