-- Values below the modulus, one for each entry of a shape, make a model.
use Rattle.model_candidates.proofs.Prelude.{◌≡◌, ℕ, ◌<◌, ◌≤◌, ◌&&◌, true, cond, List, [], ◌∷◌, length, Option, Some, None, ◌⊎◌, inl, inr, refl, sym, ap, ap₂, subst, ◌∙◌, eq-eqb, arith, All, AllByRecursion, position, cases_order, le-leb, All-get_or, All-weaker, get_or-map-range_with_len, length-map-range_with_len, position-Some, field_moduli, Quiver, IsQuiver, letters, source, target, star, Shape, IsShape, IsModulus, IsMatrix, entry_at, transpose, IsObject, entry_at-matrix_of, matrix_of_is_matrix, same_matrix, transpose_laws, any_of, IsModel, IsMap, HaveMatrices, map_at, Entry, entry, is_same_entry, is_self, side_in, is_declared_map, entries_of, value_at, value_of_entry, entry_shown, matrix_by, place_by, model_by}
use Rattle.adjoint_rules.specs.Problem as problem
use Rattle.matrix_models.specs.Matrix.{IsSide}
use Rattle.model_candidates.proofs.EntryPlaces.{shown_mirrored, shown_behind}

-- the modulus
within : (m : ℕ) → 2 ≤ m → m ≤ 65537 → IsModulus m
within m least most = record { at_least = least; at_most = omega arith }

each_is_modulus : AllByRecursion IsModulus field_moduli
each_is_modulus =
    let large : AllByRecursion IsModulus (101 ∷ 32003 ∷ 65537 ∷ []) =
    (within 101 (omega arith) (omega arith), (within 32003 (omega arith) (omega arith), (within 65537 (omega arith) (omega arith), tt))) in
    let middle : AllByRecursion IsModulus (5 ∷ 7 ∷ 101 ∷ 32003 ∷ 65537 ∷ []) =
    (within 5 (omega arith) (omega arith), (within 7 (omega arith) (omega arith), large)) in
    (within 2 (omega arith) (omega arith), (within 3 (omega arith) (omega arith), middle))

-- a map that is its own adjoint shows the same entry at a place and at its mirror image
shown_either_way : (q : Quiver) (a i j : ℕ) → is_self q a ≡ true → entry_shown q a j i ≡ entry_shown q a i j
shown_either_way q a i j self = go (cases_order i j)
  where
    go : (i ≡ j) ⊎ ((i < j) ⊎ (j < i)) → entry_shown q a j i ≡ entry_shown q a i j
    go (inl same) = ap₂ (entry_shown q a) (sym same) same
    go (inr (inl less)) = shown_mirrored q a self less ∙ sym (shown_behind q a i j (omega (arith, less)))
    go (inr (inr less)) = shown_behind q a j i (omega (arith, less)) ∙ sym (shown_mirrored q a self less)

pub is_declared : {q : Quiver} {a : ℕ} → IsMap q a → is_declared_map q a ≡ true
is_declared {q} {a} is = ap₂ ◌&&◌ (le-leb q.objects a is.map) (le-leb a (star q a) is.declared)

-- a declared map has the matrix of its entries, whatever the values are
pub map_at-model_by : {q : Quiver} (s : Shape) (claim : ℕ) (values : List ℕ) {a : ℕ} → IsMap q a
    → map_at (model_by q s claim values) a ≡ Some (matrix_by q s values a)
map_at-model_by {q} s claim values {a} is =
    get_or-map-range_with_len (place_by q s values) 0 (letters q) a a None is.letter (omega arith)
    ∙ ap (λ b. cond b (Some (matrix_by q s values a)) None) (is_declared is)

module _ (q : Quiver) (s : Shape) (quiver : IsQuiver q) (shape : IsShape q.objects s) where
  pub modulus_of_shape : IsModulus s.modulus
  modulus_of_shape = any_of IsModulus s.modulus field_moduli each_is_modulus shape.modulus

  each_side : All IsSide s.sides
  each_side =
      All-weaker problem.IsSide IsSide (λ side is. record { positive = is.least; at_most = let most = is.most in omega arith })
      s.sides shape.sides

  pub side_is_object : {v : ℕ} → v < q.objects → IsObject s.modulus (side_in s v)
  side_is_object {v} inside = record {
    is_modulus = modulus_of_shape;
    is_side = All-get_or IsSide s.sides v 1 (subst (λ n. v < n) (sym shape.side_of_each) inside) each_side;
  }

  -- whatever the claim and the values are
  pub model_by_is_model : (claim : ℕ) (values : List ℕ) → IsModel q (model_by q s claim values)
  model_by_is_model claim values = record {
    modulus = modulus_of_shape;
    side_of_each = shape.side_of_each;
    sides = each_side;
    place_of_each = length-map-range_with_len (place_by q s values) 0 (letters q);
  }

  module _ (values : List ℕ) (one_each : length values ≡ length (entries_of q s)) (below : All (λ value. value < s.modulus) values) where
    pub value_below : (x : Entry) → value_of_entry q s values x < s.modulus
    value_below x = go (position (is_same_entry x) (entries_of q s)) refl
      where
        go : (place : Option ℕ) → position (is_same_entry x) (entries_of q s) ≡ place → value_at values place < s.modulus
        go None is = let least = modulus_of_shape.at_least in omega arith
        go (Some place) is =
            let inside : place < length (entries_of q s) = (position-Some (is_same_entry x) (entries_of q s) place (entry 0 0 0) is).0 in
            All-get_or (λ value. value < s.modulus) values place 0 (subst (λ n. place < n) (sym one_each) inside) below

    matrix_by_is_matrix : {a : ℕ} → a < letters q → IsMatrix s.modulus (matrix_by q s values a)
    matrix_by_is_matrix {a} letter = matrix_of_is_matrix s.modulus (side_in s (target q a))
        (side_in s (source q a)) (λ row column. value_of_entry q s values (entry_shown q a row column))
        (side_is_object (quiver.target_is_object a letter)) (side_is_object (quiver.source_is_object a letter))
        (λ i j in_rows in_columns. value_below (entry_shown q a i j))

    matrix_by_is_symmetric : {a : ℕ} → a < letters q → star q a ≡ a → transpose s.modulus (matrix_by q s values a) ≡ matrix_by q s values a
    matrix_by_is_symmetric {a} letter self =
        let m = s.modulus in
        let x = matrix_by q s values a in
        let value : ℕ → ℕ → ℕ = λ row column. value_of_entry q s values (entry_shown q a row column) in
        let is = matrix_by_is_matrix letter in
        let square : x.columns ≡ x.rows = ap (side_in s) (ap (source q) (sym self) ∙ quiver.star_source a letter) in
        same_matrix m (transpose m x) x ((transpose_laws m).star_is_arrow x.columns x.rows x
        (record { arrow = is; source = refl; target = refl })).arrow is square (sym square)
        (λ i j in_rows in_columns. entry_at-matrix_of m x.columns x.rows
        (λ row column. entry_at x column row) i j in_rows in_columns
        ∙ entry_at-matrix_of m x.rows x.columns value j i in_columns in_rows
        ∙ ap (value_of_entry q s values) (shown_either_way q a i j (eq-eqb (star q a) a self))
        ∙ sym (entry_at-matrix_of m x.rows x.columns value i j (subst (λ n. i < n) square in_rows)
        (subst (λ n. j < n) (sym square) in_columns)))

    pub model_by_has_matrices : (claim : ℕ) → HaveMatrices q (model_by q s claim values) (letters q)
    model_by_has_matrices claim = record {
      each = λ a letter is. record {
        matrix = matrix_by q s values a;
        there = map_at-model_by s claim values is;
        ends = record { matrix = matrix_by_is_matrix letter; rows = refl; columns = refl };
        self_transposed = record { same = matrix_by_is_symmetric letter };
      };
    }
