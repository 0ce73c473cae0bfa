-- The candidates of a shape: which matrices are tried as models of a statement, and in which order.
use Rattle.std.specs.Prelude.{◌≡◌, ◌<◌, ◌≤◌, ℕ, ◌+◌, ◌*◌, ◌/◌, ◌%◌, ◌^◌, Bool, not, ◌&&◌, ◌||◌, nat_eq, nat_lt, nat_le, IsTrue, List, []}
use Rattle.std.specs.Prelude.{◌∷◌, ◌++◌, length, map, filter, take, get_or, position, Option, Some, None, slice_get, ◌⊎◌, if◌then◌else◌}
use Rattle.std.specs.List.{All, AllByRecursion, flat_map, list_all, list_any, range_with_len, sum_by}
use Rattle.definitions.specs.Quiver.{Quiver, letters, source, target, star}
use Rattle.rand_pcg.specs.Lcg.{advance, started, increment_of}
use Rattle.rand_pcg.specs.Pcg.{multiplier_64, pcg32}
use Rattle.quiver.specs.Declarations.{quiver_of}
use Rattle.nc_polynomial.specs.declared.poly.Poly.{Poly}
use Rattle.word_core.specs.declared.letter.Letter.{Letter}
use Rattle.matrix_models.specs.Matrix.{Matrix, matrix_of}
use Rattle.matrix_models.specs.declared.model.Model.{Model}
use Rattle.adjoint_rules.specs.declared.parts.Shape.{Shape}
use Rattle.adjoint_rules.specs.declared.problem.Problem.{Problem}
use Rattle.adjoint_rules.specs.Problem.{polynomials}
use Rattle.model_checker.specs.Models.{IsZeroIn, Refutes}
use Rattle.model_candidates.specs.Limits.{exhaustive_limit, drawn_count}

-- an entry of the matrix of a map, with its row and its column counted from 0
pub record Entry : Type 0 where
  pub map : ℕ
  pub row : ℕ
  pub column : ℕ

abbrev pub entry : ℕ → ℕ → ℕ → Entry
entry a row column = record { map = a; row = row; column = column }

abbrev pub is_same_entry : Entry → Entry → Bool
is_same_entry x y = nat_eq x.map y.map && (nat_eq x.row y.row && nat_eq x.column y.column)

-- the side of the object with this number
abbrev pub side_in : Shape → ℕ → ℕ
side_in s v = get_or s.sides v 1

-- whether the map is its own adjoint
abbrev pub is_self : Quiver → ℕ → Bool
is_self q a = nat_eq (star q a) a

-- whether the letter is a map, and not the adjoint of another
abbrev pub is_declared_map : Quiver → ℕ → Bool
is_declared_map q a = nat_le q.objects a && nat_le a (star q a)

-- the numbers of the declared maps, ascending
abbrev pub declared_maps : Quiver → List ℕ
declared_maps q = filter (is_declared_map q) (range_with_len 0 (letters q))

-- the entries of a row, by columns; of a map that is its own adjoint those on the diagonal and behind it
abbrev pub row_entries : Quiver → Shape → ℕ → ℕ → List Entry
row_entries q s a row = map (entry a row) (filter (λ column. not (is_self q a) || nat_le row column) (range_with_len 0 (side_in s (source q a))))

-- the entries of a map, by rows
abbrev pub map_entries : Quiver → Shape → ℕ → List Entry
map_entries q s a = flat_map (row_entries q s a) (range_with_len 0 (side_in s (target q a)))

-- the entries of the shape, by maps
abbrev pub entries_of : Quiver → Shape → List Entry
entries_of q s = flat_map (map_entries q s) (declared_maps q)

-- the value of the entry, by its place among all entries
abbrev pub value_at : List ℕ → Option ℕ → ℕ
value_at values None = 0
value_at values (Some place) = get_or values place 0

abbrev pub value_of_entry : Quiver → Shape → List ℕ → Entry → ℕ
value_of_entry q s values x = value_at values (position (is_same_entry x) (entries_of q s))

-- the entry that is copied at this row and column: of a map that is its own adjoint, those before the diagonal mirror those behind it
abbrev pub entry_shown : Quiver → ℕ → ℕ → ℕ → Entry
entry_shown q a row column = if is_self q a && nat_lt column row then entry a column row else entry a row column

abbrev pub matrix_by : Quiver → Shape → List ℕ → ℕ → Matrix
matrix_by q s values a = matrix_of s.modulus (side_in s (target q a)) (side_in s (source q a))
    (λ row column. value_of_entry q s values (entry_shown q a row column))

-- the matrix of a declared map
abbrev pub place_by : Quiver → Shape → List ℕ → ℕ → Option Matrix
place_by q s values a = if is_declared_map q a then Some (matrix_by q s values a) else None

-- the model with this claim and these values of the entries
abbrev pub model_by : Quiver → Shape → ℕ → List ℕ → Model
model_by q s claim values = record { claim = claim; modulus = s.modulus; sides = s.sides; maps = map (place_by q s values) (range_with_len 0 (letters q)) }

-- the shape of the problem with this number, counted from 1
pub record IsShapeOf (problem : Problem) (number : ℕ) (s : Shape) : Type 0 where
  pub before : ℕ
  pub numbered : number ≡ before + 1
  pub there : slice_get problem.parts.shapes before ≡ Some s

-- how many lists of values the entries have
abbrev pub value_lists : Quiver → Shape → ℕ
value_lists q s = s.modulus ^ length (entries_of q s)

-- whether all of them are tried
abbrev pub is_exhaustive : Quiver → Shape → Bool
is_exhaustive q s = nat_le (value_lists q s) exhaustive_limit

abbrev pub candidate_count : Quiver → Shape → ℕ
candidate_count q s = if is_exhaustive q s then value_lists q s else drawn_count

-- those of all shapes of the problem
abbrev pub all_candidate_count : Problem → ℕ
all_candidate_count problem = sum_by (candidate_count (quiver_of problem.parts.quiver)) problem.parts.shapes

-- the digit with number j of k in the base of the modulus, the lowest digit first
abbrev pub digit : ℕ → ℕ → ℕ → ℕ
digit m k j = k / m ^ j % m

abbrev pub digits : Quiver → Shape → ℕ → List ℕ
digits q s k = map (digit s.modulus k) (range_with_len 0 (length (entries_of q s)))

-- the word with this number, from 0, of the stream with this number
abbrev pub word_of_stream : ℕ → ℕ → ℕ → ℕ
word_of_stream seed stream n = (pcg32 (advance 64 multiplier_64 n (started 64 multiplier_64 seed (increment_of 64 stream)))).0

-- the draws of candidate k: the words of the stream of the shape with this number, modulo its modulus
abbrev pub draws : Quiver → Shape → ℕ → ℕ → ℕ → List ℕ
draws q s shape seed k =
    let count = length (entries_of q s) in
    map (λ j. word_of_stream seed shape (k * count + j) % s.modulus) (range_with_len 0 count)

-- whether the letter is one of these maps or the adjoint of one
abbrev pub is_solved : Quiver → List Letter → ℕ → Bool
is_solved q solved a = list_any (λ l. nat_eq a l.0 || nat_eq a (star q l.0)) solved

-- how many letters of the word are, counted with repeats
abbrev pub solved_count : Quiver → List Letter → List ℕ → ℕ
solved_count q solved w = length (filter (is_solved q solved) w)

-- each word has one at most
abbrev pub is_linear : Quiver → List Letter → Poly → Bool
is_linear q solved p = list_all (λ t. nat_le (solved_count q solved t.1) 1) p.terms

-- the generators of the problem that are linear in the solved maps
abbrev pub linear_generators : Problem → List Poly
linear_generators problem = filter (is_linear (quiver_of problem.parts.quiver) problem.parts.solved) problem.generators

-- whether the map is one that is solved for
abbrev pub is_solved_map : List Letter → ℕ → Bool
is_solved_map solved a = list_any (λ l. nat_eq a l.0) solved

-- Values below the modulus, one for each entry. Those of the maps that aren't solved for are drawn, and the linear generators are zero.
pub record IsSolution (problem : Problem) (s : Shape) (drawn values : List ℕ) : Type 0 where
  pub one_each : length values ≡ length (entries_of (quiver_of problem.parts.quiver) s)
  pub below : All (λ value. value < s.modulus) values
  pub as_drawn : (place : ℕ) (x : Entry) → position (is_same_entry x) (entries_of (quiver_of problem.parts.quiver) s) ≡ Some place
      → IsTrue (not (is_solved_map problem.parts.solved x.map)) → get_or values place 0 ≡ get_or drawn place 0
  pub zero : AllByRecursion (IsZeroIn problem (model_by (quiver_of problem.parts.quiver) s 0 values)) (polynomials (linear_generators problem))

-- there is a solution that begins with these values
pub record CanBegin (problem : Problem) (s : Shape) (drawn front : List ℕ) : Type 0 where
  pub rest : List ℕ
  pub solution : IsSolution problem s drawn (front ++ rest)

-- there is a solution with the values before this place, and this value at it
abbrev pub CanTake : Problem → Shape → List ℕ → List ℕ → ℕ → ℕ → Type 0
CanTake problem s drawn values place value = CanBegin problem s drawn (take place values ++ value ∷ [])

-- A solution in which, in order, each entry has its draw where there is a solution with the entries before it as they are and this one so, and else the least
-- value for which there is one.
pub record IsGreedy (problem : Problem) (s : Shape) (drawn values : List ℕ) : Type 0 where
  pub solution : IsSolution problem s drawn values
  pub drawn_where_it_can : (place : ℕ) → place < length values → CanTake problem s drawn values place (get_or drawn place 0)
      → get_or values place 0 ≡ get_or drawn place 0
  pub else_least : (place value : ℕ) → place < length values → ¬ CanTake problem s drawn values place (get_or drawn place 0)
      → CanTake problem s drawn values place value
      → get_or values place 0 ≤ value

-- Candidate k of the shape with this number, counted from 1, for a seed, or that it has no model.
pub data IsCandidate (problem : Problem) (number : ℕ) (s : Shape) (seed k : ℕ) (candidate : Option Model) : Type 0 where
  numbered : IsTrue (is_exhaustive (quiver_of problem.parts.quiver) s)
      → candidate ≡ Some (model_by (quiver_of problem.parts.quiver) s 0 (digits (quiver_of problem.parts.quiver) s k))
      → IsCandidate problem number s seed k candidate
  drawn : IsTrue (not (is_exhaustive (quiver_of problem.parts.quiver) s)) → (values : List ℕ)
      → IsGreedy problem s (draws (quiver_of problem.parts.quiver) s number seed k) values
      → candidate ≡ Some (model_by (quiver_of problem.parts.quiver) s 0 values) → IsCandidate problem number s seed k candidate
  unsolvable : IsTrue (not (is_exhaustive (quiver_of problem.parts.quiver) s))
      → ((values : List ℕ) → ¬ IsSolution problem s (draws (quiver_of problem.parts.quiver) s number seed k) values) → candidate ≡ None
      → IsCandidate problem number s seed k candidate

-- the model with a claim's number
abbrev pub naming : ℕ → Model → Model
naming claim m = record m { claim = claim }

-- Of the shape with this number, counted from 1, candidate k is a model in which the assumptions of the file are zero and the claim isn't.
pub record Breaks (problem : Problem) (claim seed number k : ℕ) (m : Model) : Type 0 where
  pub shape : Shape
  pub numbered : IsShapeOf problem number shape
  pub in_range : k < candidate_count (quiver_of problem.parts.quiver) shape
  pub candidate : Model
  pub is_candidate : IsCandidate problem number shape seed k (Some candidate)
  pub named : m ≡ naming claim candidate
  pub refutes : Refutes problem m

-- an earlier shape, or an earlier candidate of the same
abbrev pub IsEarlier : ℕ → ℕ → ℕ → ℕ → Type 0
IsEarlier number k number' k' = (number < number') ⊎ ((number ≡ number') × (k < k'))

-- It breaks the claim, and no earlier candidate does.
pub record IsLeastBreaking (problem : Problem) (claim seed number k : ℕ) (m : Model) : Type 0 where
  pub breaks : Breaks problem claim seed number k m
  pub least : (number' k' : ℕ) (m' : Model) → IsEarlier number' k' number k → ¬ Breaks problem claim seed number' k' m'

-- no candidate of any shape breaks the claim
abbrev pub NoneBreaks : Problem → ℕ → ℕ → Type 0
NoneBreaks problem claim seed = (number k : ℕ) (m : Model) → ¬ Breaks problem claim seed number k m
