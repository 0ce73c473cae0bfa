-- The conditions on the parts of a statement, and its generators.
use Rattle.std.specs.Prelude.{◌≡◌, ℕ, ◌<◌, ◌≤◌, Bool, ◌&&◌, ◌||◌, nat_eq, nat_lt, nat_le, IsTrue, if◌then◌else◌, List, [], ◌∷◌, length, map, AllPairs}
use Rattle.std.specs.List.{All, AllZip, list_any}
use Rattle.definitions.specs.Poly.{Term, SamePolynomial}
use Rattle.definitions.specs.Quiver.{IsTyped, star}
use Rattle.definitions.specs.Generators.{generators_of}
use Rattle.definitions.specs.Moduli.{IsFieldModulus}
use Rattle.word_core.specs.declared.letter.Object.{Object}
use Rattle.word_core.specs.declared.letter.Letter.{Letter}
use Rattle.word_orders.specs.Specified.{IsSound}
use Rattle.nc_polynomial.specs.declared.poly.Poly.{Poly}
use Rattle.quiver.specs.declared.named.Sig.{Sig}
use Rattle.quiver.specs.Declarations.{Declaration, object_count, letter_count, quiver_of, IsDeclared, ObjectsFirst}
use Rattle.adjoint_rules.specs.declared.parts.Shape.{Shape}
use Rattle.adjoint_rules.specs.declared.parts.Parts.{Parts}
use Rattle.adjoint_rules.specs.Limits.{assumption_limit, claim_limit, shape_limit, shape_side_limit}

-- the lists of terms
abbrev pub polynomials : List Poly → List (List Term)
polynomials ps = map (λ p. p.terms) ps

-- the numbers of objects
abbrev pub numbers : List Object → List ℕ
numbers objects = map (λ v. v.0) objects

-- whether a letter is in play: the identity of a marked object, a declared map, whose number is at most its adjoint's, or, where the
-- statement is starred, the adjoint of one
abbrev pub is_in_play : List Declaration → Bool → List ℕ → ℕ → Bool
is_in_play ds starred marked a =
    nat_lt a (letter_count ds)
    && (if nat_lt a (object_count ds) then list_any (nat_eq a) marked else (starred || nat_le a (star (quiver_of ds) a)))

abbrev pub IsInPlay : List Declaration → Bool → List ℕ → ℕ → Type 0
IsInPlay ds starred marked a = IsTrue (is_in_play ds starred marked a)

-- each letter of each word of the polynomial is in play
abbrev pub HasLettersInPlay : List Declaration → Bool → List ℕ → Poly → Type 0
HasLettersInPlay ds starred marked p = All (λ t. All (IsInPlay ds starred marked) t.1) p.terms

-- a map of the quiver, and not the adjoint of another
pub record IsDeclaredMap (ds : List Declaration) (a : Letter) : Type 0 where
  pub map : object_count ds ≤ a.0
  pub letter : a.0 < letter_count ds
  pub declared : a.0 ≤ star (quiver_of ds) a.0

-- both ends are objects of the quiver
pub record HasObjects (ds : List Declaration) (s : Sig) : Type 0 where
  pub source : s.source.0 < object_count ds
  pub target : s.target.0 < object_count ds

-- the polynomial has the signature
abbrev pub IsTypedOf : List Declaration → Poly → Sig → Type 0
IsTypedOf ds p s = IsTyped (quiver_of ds) s.source.0 s.target.0 p.terms

-- the side of an object
pub record IsSide (side : ℕ) : Type 0 where
  pub least : 1 ≤ side
  pub most : side ≤ shape_side_limit

-- a shape for this number of objects
pub record IsShape (objects : ℕ) (s : Shape) : Type 0 where
  pub modulus : IsFieldModulus s.modulus
  pub side_of_each : length s.sides ≡ objects
  pub sides : All IsSide s.sides

-- The conditions on the parts of a statement. That its declarations are those of a quiver is ensured by `Quiver::objects`.
pub record IsPosed (p : Parts) : Type 0 where
  pub declared : IsDeclared p.quiver
  pub objects_first : ObjectsFirst p.quiver
  pub order : IsSound (letter_count p.quiver) p.order
  -- the identities that are written
  pub marked_objects : All (λ v. v.0 < object_count p.quiver) p.marked
  pub marked_ascending : AllPairs (λ v w. v.0 < w.0) p.marked
  -- the assumptions
  pub few_assumptions : length p.assumptions ≤ assumption_limit
  pub assumptions_typed : AllZip (IsTypedOf p.quiver) p.assumptions p.sigs
  pub assumption_ends : All (HasObjects p.quiver) p.sigs
  pub assumption_letters : All (HasLettersInPlay p.quiver p.starred (numbers p.marked)) p.assumptions
  -- the claims
  pub few_claims : length p.claims ≤ claim_limit
  pub claims_typed : AllZip (IsTypedOf p.quiver) p.claims p.claim_sigs
  pub claim_ends : All (HasObjects p.quiver) p.claim_sigs
  pub claim_letters : All (HasLettersInPlay p.quiver p.starred (numbers p.marked)) p.claims
  -- the shapes of the models that are searched
  pub some_shape : 1 ≤ length p.shapes
  pub few_shapes : length p.shapes ≤ shape_limit
  pub shapes : All (IsShape (object_count p.quiver)) p.shapes
  pub solved_maps : All (IsDeclaredMap p.quiver) p.solved
  pub solved_ascending : AllPairs (λ a b. a.0 < b.0) p.solved

-- the generators of the parts
abbrev pub generators_in : Parts → List (List Term)
generators_in p = generators_of (quiver_of p.quiver) p.starred (numbers p.marked) (polynomials p.assumptions)

-- The polynomials are the generators of the parts, in their order.
pub record IsClosed (p : Parts) (generators : List Poly) : Type 0 where
  pub same : AllZip SamePolynomial (polynomials generators) (generators_in p)

-- The parts have one list of generators.
abbrev pub GeneratorsAreUnique : Type 0
GeneratorsAreUnique = (p : Parts) (generators others : List Poly) → IsClosed p generators → IsClosed p others → polynomials generators ≡ polynomials others
