-- The entries of a polynomial's value in the model by values, as sums over its terms.
use Rattle.model_candidates.proofs.Prelude.{◌≡◌, ℕ, ℤ, ◌+◌, ◌*◌, ◌%◌, ◌<◌, cond, true, List, [], ◌∷◌, length, get_or, take, drop, Some, slice_get, sym, ap, ap₂, subst, ◌∙◌, arith, AllByRecursion, sum_by, take_all, get_or-map, sum_by_more, sum_by-cons, get_or_from_slice_get, slice_get_within, recursion_from_All, mod-eq_of_lt, IsArrow, Quiver, leads, is_path, IsTyped, multiple, word_value, HasValueZeroAt, IsCanonical, quiver_of, value_is_arrow, words_are_paths, Matrix, entry_at, matrices, matrix_sum, zero_matrix, entry_at-matrix_of, same_matrix, matrices_laws, add_mod, add_alike, Shape, Problem, all_at, side_in, residue, residues}
use Rattle.definitions.specs.Representation.{value_at}
use Rattle.model_candidates.proofs.GivenValues.{AreGiven, f, positive, product, product_ends, represented, side_object, term}
use Rattle.model_candidates.proofs.ProductEntries.{multiple_columns, multiple_entry, multiple_rows, residue_below}
use Rattle.model_candidates.proofs.WordProducts.{leads_of_path, word_value-product}

-- all letters of a word
pub whole_word : (w : List ℕ) {to : ℕ} → to ≡ length w → drop 0 (take to w) ≡ w
whole_word w {to} all = take_all to w (omega (arith, all))

module _ {problem : Problem} {s : Shape} {values : List ℕ} (given : AreGiven problem s values) (u v : ℕ)
    (in_u : u < (quiver_of problem.parts.quiver).objects) (in_v : v < (quiver_of problem.parts.quiver).objects) where
  abbrev q : Quiver
  q = quiver_of problem.parts.quiver

  abbrev m : ℕ
  m = s.modulus

  abbrev rows : ℕ
  rows = side_in s v

  abbrev columns : ℕ
  columns = side_in s u

  abbrev none : Matrix
  none = zero_matrix m rows columns

  abbrev pub value : List (ℤ × List ℕ) → Matrix
  value p = value_at (matrices m) q (f given) u v p

  word_leads : (w : List ℕ) {to : ℕ} → to ≡ length w → is_path q u v w ≡ true → leads q u v (drop 0 (take to w)) ≡ true
  word_leads w all path = subst (λ xs. leads q u v xs ≡ true) (sym (whole_word w all)) (leads_of_path q u v w path)

  pub value_ends : (p : List (ℤ × List ℕ)) → IsArrow (matrices m) columns rows (value p)
  value_ends p = value_is_arrow (matrices_laws m) q (f given) (represented given) u v in_u in_v p

  module _ (i k : ℕ) (in_rows : i < rows) (in_columns : k < columns) where
    -- one term
    word_entry : (w : List ℕ) → is_path q u v w ≡ true → (c : ℤ)
        → entry_at (multiple (matrices m) c (word_value (matrices m) (f given) none w)) i
        k ≡ (residue m c * entry_at (product given u w) i k) % m
    word_entry w path c =
        let ends = product_ends given v w in_u (leads_of_path q u v w path) in
        ap (λ y. entry_at (multiple (matrices m) c y) i k)
        (word_value-product (matrices_laws m) q (f given) (represented given) u v w none path)
        ∙ multiple_entry m c (product given u w) i k (positive given) (subst (λ n. i < n) (sym ends.target) in_rows)
        (subst (λ n. k < n) (sym ends.source) in_columns)

    pub value_entry : (p : List (ℤ × List ℕ)) → AllByRecursion (λ t. is_path q u v t.1 ≡ true) p
        → entry_at (value p) i k ≡ sum_by (term given u i k) p % m
    value_entry [] paths = entry_at-matrix_of m rows columns (λ row column. 0) i k in_rows in_columns ∙ sym (mod-eq_of_lt (positive given))
    value_entry (t ∷ p) paths =
        let ends = product_ends given v t.1 in_u (leads_of_path q u v t.1 paths.0) in
        let word = word_value (matrices m) (f given) none t.1 in
        let word_is = word_value-product (matrices_laws m) q (f given) (represented given) u v t.1 none paths.0 in
        let a = multiple (matrices m) t.0 word in
        let rest = value p in
        let rows_are : a.rows ≡ rows = multiple_rows m t.0 word ∙ ap (λ y. y.rows) word_is ∙ ends.target in
        let columns_are : a.columns ≡ columns = multiple_columns m t.0 word ∙ ap (λ y. y.columns) word_is ∙ ends.source in
        ap (λ b. entry_at (cond b (matrix_sum m a rest) rest) i k) paths.0
        ∙ entry_at-matrix_of m a.rows a.columns (λ row column. (entry_at a row column + entry_at rest row column) % m) i k
        (subst (λ n. i < n) (sym rows_are) in_rows) (subst (λ n. k < n) (sym columns_are) in_columns)
        ∙ ap₂ (λ y z. (y + z) % m) (word_entry t.1 paths.0 t.0) (value_entry p paths.1)
        ∙ add_mod m (term given u i k t) (sum_by (term given u i k) p)
        ∙ ap (λ y. y % m) (sym (sum_by-cons (term given u i k) t p))

  -- the term at a place
  module _ (p : List (ℤ × List ℕ)) (place : ℕ) (t : ℤ × List ℕ) (there : slice_get p place ≡ Some t) where
    here : get_or p place t ≡ t
    here = get_or_from_slice_get p place t t there

    pub path_at : IsCanonical p → IsTyped q u v p → is_path q u v t.1 ≡ true
    path_at canonical typed = all_at (λ y. is_path q u v y.1 ≡ true) p place t (words_are_paths q u v p canonical typed) there

    pub coefficient_at : (coefficients : List ℕ) → coefficients ≡ residues m p → get_or coefficients place 0 ≡ residue m t.0
    coefficient_at coefficients are =
        ap (λ xs. get_or xs place 0) are ∙ get_or-map (λ y. residue m y.0) p place t 0 (slice_get_within p place t there)
        ∙ ap (λ y. residue m y.0) here

    pub coefficient_below : (coefficients : List ℕ) → coefficients ≡ residues m p → get_or coefficients place 0 < m
    coefficient_below coefficients are = subst (λ y. y < m) (sym (coefficient_at coefficients are)) (residue_below m t.0 (positive given))

    pub leads_at : IsCanonical p → IsTyped q u v p → {to : ℕ} → to ≡ length t.1 → leads q u v (drop 0 (take to t.1)) ≡ true
    leads_at canonical typed all = word_leads t.1 all (path_at canonical typed)

    pub sum_more : (i k : ℕ) → sum_by (term given u i k) (take (place + 1) p) ≡ sum_by (term given u i k) (take place p) + term given u i k
        t
    sum_more i k =
        sum_by_more (term given u i k) p place t (slice_get_within p place t there)
        ∙ ap (λ y. sum_by (term given u i k) (take place p) + term given u i k y) here

    -- the sum after the term, by its coefficient and the entry of the product
    pub next_sum : (coefficients : List ℕ) → coefficients ≡ residues m p → (by i k old new : ℕ) {entry : ℕ}
        → entry ≡ entry_at (product given u t.1) i k → old % by ≡ sum_by (term given u i k) (take place p) % by
        → new % by ≡ (old + get_or coefficients place 0 * entry) % by → new % by ≡ sum_by (term given u i k) (take (place + 1) p) % by
    next_sum coefficients are by i k old new {entry} entry_is so_far added =
        added ∙ add_alike by old (sum_by (term given u i k) (take place p)) (get_or coefficients place 0 * entry) (term given u i k t)
        so_far
        (ap (λ y. y % by) (ap₂ ◌*◌ (coefficient_at coefficients are) entry_is)) ∙ ap (λ y. y % by) (sym (sum_more i k))

  pub paths_of : {p : List (ℤ × List ℕ)} → IsCanonical p → IsTyped q u v p → AllByRecursion (λ t. is_path q u v t.1 ≡ true) p
  paths_of {p} canonical typed = recursion_from_All (λ t. is_path q u v t.1 ≡ true) p (words_are_paths q u v p canonical typed)

  -- zero, where all entries are
  abbrev IsZeroThere : List (ℤ × List ℕ) → Type 0
  IsZeroThere p = HasValueZeroAt (matrices m) q (f given) u v p

  pub entry_of_zero : (p : List (ℤ × List ℕ)) → IsZeroThere p → {i k : ℕ} → i < rows → k < columns → entry_at (value p) i k ≡ 0
  entry_of_zero p zero {i} {k} in_rows in_columns =
      ap (λ y. entry_at y i k) zero ∙ entry_at-matrix_of m rows columns (λ row column. 0) i k in_rows in_columns

  pub zero_by_entries : (p : List (ℤ × List ℕ)) → ((i k : ℕ) → i < rows → k < columns → entry_at (value p) i k ≡ 0) → IsZeroThere p
  zero_by_entries p each =
      let ends = value_ends p in
      let zero = (matrices_laws m).zero_is_arrow columns rows (side_object given in_u) (side_object given in_v) in
      same_matrix m (value p) none ends.arrow zero.arrow ends.target ends.source (λ i k in_rows in_columns.
      each i k (subst (λ n. i < n) ends.target in_rows) (subst (λ n. k < n) ends.source in_columns)
      ∙ sym (entry_at-matrix_of m rows columns (λ row column. 0) i k (subst (λ n. i < n) ends.target in_rows)
      (subst (λ n. k < n) ends.source in_columns)))
