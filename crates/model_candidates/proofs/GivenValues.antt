-- Values of the entries of a shape of a problem, and the model that they make.
use Rattle.model_candidates.proofs.Prelude.{◌≡◌, ℕ, ◌*◌, ◌<◌, ℤ, true, List, sym, subst, arith, AllByRecursion, All-weaker, recursion_from_All, IsArrow, Quiver, IsQuiver, letters, leads, Representation, Represents, object_count, quiver_of, letters-quiver_of, Matrix, IsModulus, entry_at, matrices, IsObject, matrices_laws, Model, Shape, Problem, IsShape, IsDeclaredMap, posed_quiver, IsMap, IsModel, HaveMatrices, representation_of, represents, EntryValues, model_by, side_in, letters_product, residue, AreEntryValues, AreTabled}
use Rattle.model_candidates.proofs.CandidateModels.{modulus_of_shape, model_by_is_model, model_by_has_matrices, side_is_object}
use Rattle.model_candidates.proofs.WordProducts.{product_is_arrow}

-- The shape is one for the objects of the problem, and the values are ones of its entries.
pub record AreGiven (problem : Problem) (s : Shape) (values : List ℕ) : Type 0 where
  pub shape : IsShape (object_count problem.parts.quiver) s
  pub entries : AreEntryValues problem s values

pub given_of : {x : EntryValues} → AreTabled x → AreGiven x.problem.now x.shape.now x.values.now
given_of is = record { shape = is.shape; entries = is.values }

-- the maps that are solved for
pub solved_maps : (problem : Problem) → AllByRecursion (λ l. IsMap (quiver_of problem.parts.quiver) l.0) problem.parts.solved
solved_maps problem =
    let q = quiver_of problem.parts.quiver in
    recursion_from_All (λ l. IsMap q l.0) problem.parts.solved
    (All-weaker (IsDeclaredMap problem.parts.quiver) (λ l. IsMap q l.0) (λ l is. record {
      map = is.map;
      letter = subst (λ k. l.0 < k) (sym (letters-quiver_of problem.parts.quiver)) is.letter;
      declared = is.declared;
    }) problem.parts.solved problem.posed.solved_maps)

module _ {problem : Problem} {s : Shape} {values : List ℕ} (given : AreGiven problem s values) where
  abbrev q : Quiver
  q = quiver_of problem.parts.quiver

  abbrev pub model : Model
  model = model_by q s 0 values

  abbrev pub f : Representation ℕ Matrix
  f = representation_of q model

  pub quiver : IsQuiver q
  quiver = posed_quiver problem.parts problem.posed

  pub is_modulus : IsModulus s.modulus
  is_modulus = modulus_of_shape q s quiver given.shape

  pub positive : 0 < s.modulus
  positive = let least = is_modulus.at_least in omega (arith, least)

  pub side_object : {v : ℕ} → v < q.objects → IsObject s.modulus (side_in s v)
  side_object inside = side_is_object q s quiver given.shape inside

  pub model_is : IsModel q model
  model_is = model_by_is_model q s quiver given.shape 0 values

  pub maps_are : HaveMatrices q model (letters q)
  maps_are = model_by_has_matrices q s quiver given.shape values given.entries.one_each given.entries.below 0

  pub represented : Represents (matrices s.modulus) q f
  represented = represents q quiver model model_is maps_are

  -- the product of the letters of a word
  abbrev pub product : ℕ → List ℕ → Matrix
  product u w = letters_product (matrices s.modulus) f u w

  pub product_ends : {u : ℕ} (v : ℕ) (w : List ℕ) → u < q.objects → leads q u v w ≡ true
      → IsArrow (matrices s.modulus) (side_in s u) (side_in s v) (product u w)
  product_ends {u} v w in_u path = product_is_arrow (matrices_laws s.modulus) q f represented u v w in_u path

  -- what a term adds to an entry of the value of a polynomial
  abbrev pub term : ℕ → ℕ → ℕ → ℤ × List ℕ → ℕ
  term u i k t = residue s.modulus t.0 * entry_at (product u t.1) i k
