-- The shapes of a file in whose names nothing is wrong.
use Rattle.statement_names.proofs.Prelude.{◌≡◌, ℕ, ◌≤◌, Bool, true, false, cond, List, [], ◌∷◌, length, map, replicate, All, Some, None, unwrap_or, refl, sym, subst, arith, flat_map, range_with_len, lookup, bytes_eq, length-replicate, length-map-range_with_len, All-map, All-replicate, Declaration, object_count, object_name, shape_limit, shape_side_limit, IsShape, IsSide, Shape, Name, Number, Statement, StatementKind, statement, Shapes, value_of, name_fault_of, declarations_of, shape, side_in, shapes_in, default_shapes, or_shapes, shapes_of}
use Rattle.statement_names.proofs.Bridge.{within_limits}
use Rattle.statement_names.proofs.Each.{Each, Each-at, Each-weaker, Each-flat_map}
use Rattle.statement_names.proofs.Stated.{AreBetween, IsStated, all_stated}
use Rattle.statement_names.proofs.Tally.{length-shapes}

-- sides
one_side : IsSide 1
one_side = record { least = omega arith; most = omega arith }

two_side : IsSide 2
two_side = record { least = omega arith; most = omega arith }

side_is : (pairs : List (Name × Number)) → AreBetween shape_side_limit pairs → (q : List ℕ) → IsSide (side_in pairs q)
side_is [] between q = one_side
side_is (p ∷ pairs) between q = go (bytes_eq q p.0.text) (side_is pairs between.1 q)
  where
    go : (b : Bool) → IsSide (side_in pairs q) → IsSide (unwrap_or (cond b (Some (value_of p.1.value)) (lookup (bytes_eq q) (map (λ pair. (pair.0.text, value_of pair.1.value)) pairs))) 1)
    go true rest = record { least = between.0.0; most = between.0.1 }
    go false rest = rest

even_shape : (n side : ℕ) → IsSide side → IsShape n (shape 2 (replicate n side))
even_shape n side is = record { modulus = refl; side_of_each = length-replicate n side; sides = All-replicate IsSide n side is }

-- in a file in whose names nothing is wrong
module _ (statements : List Statement) (clean : name_fault_of statements ≡ None) where
  abbrev all : List Declaration
  all = declarations_of statements

  kind_shapes : (k : StatementKind) → IsStated all k → Each (IsShape (object_count all)) (shapes_in all k)
  kind_shapes (statement.Shape m sides) stated = (
    record {
      modulus = stated.0;
      side_of_each = length-map-range_with_len (λ v. side_in sides (object_name all v)) 0 (object_count all);
      sides = All-map IsSide (λ v. side_in sides (object_name all v)) (range_with_len 0 (object_count all)) (λ i d below. side_is sides stated.1.1 _);
    },
    tt,
  )
  kind_shapes k stated = tt

  file_shapes : Each (IsShape (object_count all)) (flat_map (λ s. shapes_in all s.kind) statements)
  file_shapes =
      Each-flat_map (IsShape (object_count all)) (λ s. shapes_in all s.kind) statements
      (Each-weaker (λ s. IsStated all s.kind) (λ s. Each (IsShape (object_count all)) (shapes_in all s.kind)) statements
      (λ s stated. kind_shapes s.kind stated) (all_stated statements clean))

  -- what holds of the shapes that are given and of the default ones
  pub record AreShapes (shapes : List Shape) : Type 0 where
    pub some : 1 ≤ length shapes
    pub few : length shapes ≤ shape_limit
    pub each_shape : All (IsShape (object_count (declarations_of statements))) shapes

  or_default : (given : List Shape) → Each (IsShape (object_count all)) given → length given ≤ shape_limit → AreShapes (or_shapes given (default_shapes all))
  or_default [] good few =
      record {
        some = omega arith;
        few = omega arith;
        each_shape = Each-at (IsShape (object_count all)) (default_shapes all) (even_shape (object_count all) 1 one_side, (even_shape (object_count all) 2 two_side, tt));
      }
  or_default (s ∷ given) good few = record { some = omega arith; few = few; each_shape = Each-at (IsShape (object_count all)) (s ∷ given) good }

  pub shapes_sound : AreShapes (shapes_of (declarations_of statements) statements)
  shapes_sound =
      or_default (flat_map (λ s. shapes_in all s.kind) statements) file_shapes
      (subst (λ n. n ≤ shape_limit) (sym (length-shapes all statements)) (within_limits statements clean Shapes))
