-- Rows times matrices modulo m, and the product of the letters of a path, of which a row is multiplied letter by letter.
use Rattle.model_candidates.proofs.Prelude.{◌≡◌, ℕ, ◌+◌, ◌*◌, ◌%◌, ◌<◌, ◌≤◌, cond, eqb, true, List, [], ◌∷◌, length, get_or, take, drop, Option, Some, None, ◌⊎◌, inl, inr, sym, ap, subst, ◌∙◌, arith, mul_comm, eqb-true, eq-eqb, ne_eqb, All, cases_eq, cases_lt, mul-le, mul-mod_first, mul-mod_second, drop_all, get_or_past, length-take-le, All-get_or, length-map-range_with_len, mod-eq_of_lt, IsArrow, Quiver, letters, source, target, leads, Step, step, letter_count, letters-quiver_of, entry_at, identity_matrix, matrices, total, entry_at-matrix_of, total_mod, total_pick, total_same, total_swap, shape_side_limit, IsSide, arrow_of-identity, EntryValues, LetterTable, side_in, letter_values, IsTable, letter_table, value_in_table, AreTabled, IsRow, matrix_in, model_in, product_in, quiver_in}
use Rattle.model_candidates.proofs.GivenValues.{AreGiven, given_of, positive, product_ends, quiver, represented}
use Rattle.model_candidates.proofs.LetterTables.{entry_in_table, has_none, has_table, is_table}
use Rattle.model_candidates.proofs.SolvedPlaces.{letters_from}

-- an identity
flipped : (i k : ℕ) → eqb i k ≡ eqb k i
flipped i k = go (cases_eq i k)
  where
    go : (i ≡ k) ⊎ (i ≡ k → ⊥) → eqb i k ≡ eqb k i
    go (inl same) = eq-eqb i k same ∙ sym (eq-eqb k i (sym same))
    go (inr other) = ne_eqb i k other ∙ sym (ne_eqb k i (λ same. other (sym same)))

pub identity_entry : (m : ℕ) {side i k : ℕ} → i < side → k < side → entry_at (identity_matrix m side) i k ≡ cond (eqb i k) 1 0
identity_entry m {side} {i} {k} in_rows in_columns =
    entry_at-matrix_of m side side (λ row column. cond (eqb row column) 1 0) i k in_rows in_columns

-- a row times an identity
pub row_times_identity : {m side : ℕ} (row : List ℕ) {k : ℕ} → k < side → get_or row k 0 < m
    → total side (λ j. get_or row j 0 * entry_at (identity_matrix m side) j k) % m ≡ get_or row k 0
row_times_identity {m} {side} row {k} inside below =
    ap (λ x. x % m) (total_same side _ (λ j. cond (eqb k j) 1 0 * get_or row j 0) (λ j within.
    ap (λ x. get_or row j 0 * x) (identity_entry m within inside ∙ ap (λ b. cond b 1 0) (flipped j k))
    ∙ mul_comm (get_or row j 0) (cond (eqb k j) 1 0))
    ∙ total_pick side k (λ j. get_or row j 0) inside)
    ∙ mod-eq_of_lt below

-- a row times a matrix, and then another, is the row times their product
pub row_step : (m n p : ℕ) (r : ℕ → ℕ) (a : ℕ → ℕ → ℕ) (b : ℕ → ℕ)
    → total p (λ j. (total n (λ l. r l * a l j) % m) * b j) % m ≡ total n (λ l. r l * (total p (λ j. a l j * b j) % m)) % m
row_step m n p r a b =
    total_mod m p (λ j. (total n (λ l. r l * a l j) % m) * b j) (λ j. total n (λ l. r l * a l j) * b j)
    (λ j inside. mul-mod_first (total n (λ l. r l * a l j)) (b j) m)
    ∙ ap (λ x. x % m) (total_swap p n r b a)
    ∙ sym (total_mod m n (λ l. r l * (total p (λ j. a l j * b j) % m)) (λ l. r l * total p (λ j. a l j * b j))
    (λ l inside. mul-mod_second (r l) (total p (λ j. a l j * b j)) m))

-- The row is that of the letters before the place: times the letters from there on it is that of all letters.
pub record IsSoFar (x : EntryValues) (u i : ℕ) (w : List ℕ) (from place : ℕ) (row : List ℕ) : Type 0 where
  pub middle : ℕ
  pub path : leads (quiver_in x) u middle (drop place w) ≡ true
  pub below : All (λ entry. entry < x.shape.now.modulus) row
  pub each : (k : ℕ) → k < side_in x.shape.now u
      → total (side_in x.shape.now middle) (λ j. get_or row j 0 * entry_at (product_in x u (drop place w)) j k) % x.shape.now.modulus
      ≡ entry_at (product_in x u (drop from w)) i k

-- The table is that of the letter.
pub record FitsLetter (x : EntryValues) (a : ℕ) (t : LetterTable) : Type 0 where
  pub table : IsTable (length x.values.now) t
  pub rows : t.rows ≡ side_in x.shape.now (target (quiver_in x) a)
  pub columns : t.columns ≡ side_in x.shape.now (source (quiver_in x) a)
  pub entries : (i j : ℕ) → i < t.rows → j < t.columns → value_in_table x.values.now t i j ≡ entry_at (matrix_in x a) i j

-- The letter is the identity of an object.
pub record IsUnit (x : EntryValues) (a : ℕ) : Type 0 where
  pub matrix : matrix_in x a ≡ identity_matrix x.shape.now.modulus (side_in x.shape.now a)
  pub source_is : source (quiver_in x) a ≡ a
  pub target_is : target (quiver_in x) a ≡ a

module _ (x : EntryValues) (is : AreTabled x) where
  abbrev q : Quiver
  q = quiver_in x

  abbrev m : ℕ
  m = x.shape.now.modulus

  abbrev side : ℕ → ℕ
  side v = side_in x.shape.now v

  abbrev given : AreGiven x.problem.now x.shape.now x.values.now
  given = given_of is

  pub letter_ends : {a : ℕ} → a < letters q → IsArrow (matrices m) (side (source q a)) (side (target q a)) (matrix_in x a)
  letter_ends {a} letter = (represented given).arrows a letter

  -- entries of a row, and zeros behind them
  pub entry_below : (row : List ℕ) (k : ℕ) → All (λ entry. entry < m) row → get_or row k 0 < m
  entry_below row k below = go (cases_lt k (length row))
    where
      go : (k < length row) ⊎ (length row ≤ k) → get_or row k 0 < m
      go (inl inside) = All-get_or (λ entry. entry < m) row k 0 inside below
      go (inr past) = subst (λ e. e < m) (sym (get_or_past row k 0 past)) (positive given)

  -- letters
  pub letter_inside : {a : ℕ} → a < letter_count x.problem.now.parts.quiver → a < letters q
  letter_inside {a} inside = subst (λ n. a < n) (sym (letters-quiver_of x.problem.now.parts.quiver)) inside

  pub letter_counted : {a : ℕ} → a < letters q → a < letter_count x.problem.now.parts.quiver
  letter_counted {a} inside = subst (λ n. a < n) (letters-quiver_of x.problem.now.parts.quiver) inside

  pub tables_long : {a : ℕ} → a < letters q → {place : ℕ} → place ≡ a → place < length x.tables.now
  tables_long letter {place} same =
      subst (λ n. place < n) (sym (ap length is.tables ∙ length-map-range_with_len (letter_table q x.shape.now) 0 (letters q)))
      (subst (λ n. n < letters q) (sym same) letter)

  module _ (a : ℕ) (letter : a < letters q) (found : Option LetterTable) (read : found ≡ letter_table q x.shape.now a) where
    pub fits_letter : {t : LetterTable} → found ≡ Some t → FitsLetter x a t
    fits_letter some =
        let s = x.shape.now in
        let has = has_table q s a (sym read ∙ some) in
        record {
          table = subst (IsTable (length x.values.now)) (sym has.same)
              (is_table q (quiver given) s is.shape a letter has.map is.values.one_each);
          rows = ap (λ y. y.rows) has.same;
          columns = ap (λ y. y.columns) has.same;
          entries = λ i j in_rows in_columns.
              ap (λ y. value_in_table x.values.now y i j) has.same
              ∙ sym (entry_in_table q (quiver given) s is.shape a letter has.map i j
              (subst (λ n. i < n) (ap (λ y. y.rows) has.same) in_rows)
              (subst (λ n. j < n) (ap (λ y. y.columns) has.same) in_columns) x.values.now);
        }

    pub is_unit : found ≡ None → IsUnit x a
    is_unit none =
        let identity = has_none q x.shape.now a (sym read ∙ none) in
        record {
          matrix = arrow_of-identity q (model_in x) a identity;
          source_is = (quiver given).identity_source a identity;
          target_is = (quiver given).identity_target a identity;
        }

  pub side_few : {v : ℕ} → v < q.objects → side v ≤ shape_side_limit
  side_few {v} inside =
      (All-get_or IsSide x.shape.now.sides v 1 (subst (λ n. v < n) (sym is.shape.side_of_each) inside) is.shape.sides).most

  -- a letter's matrix has few entries
  pub few_numbers : (numbers : List ℕ) {a : ℕ} → a < letters q → length (letter_values q x.shape.now numbers a) ≤ shape_side_limit * shape_side_limit
  few_numbers numbers {a} letter =
      let size = side (target q a) * side (source q a) in
      subst (λ n. n ≤ shape_side_limit * shape_side_limit) (sym (length-map-range_with_len _ 0 size))
      (mul-le _ _ _ _ (side_few ((quiver given).target_is_object a letter)) (side_few ((quiver given).source_is_object a letter)))

  -- the product of a letter and more
  product_entry : (u v a : ℕ) (w : List ℕ) → u < q.objects → leads q u v (a ∷ w) ≡ true → (i k : ℕ) → i < side v → k < side u
      → entry_at (product_in x u (a ∷ w)) i k
      ≡ total (side (source q a)) (λ j. entry_at (matrix_in x a) i j * entry_at (product_in x u w) j k) % m
  product_entry u v a w in_u path i k in_rows in_columns =
      let first = step q u v a w path in
      let left = letter_ends first.letter in
      let right = product_ends given (source q a) w in_u first.rest in
      let sum : ℕ → ℕ → ℕ → ℕ = λ n row column. total n (λ j. entry_at (matrix_in x a) row j * entry_at (product_in x u w) j column) in
      entry_at-matrix_of m (matrix_in x a).rows (product_in x u w).columns (λ row column. sum (matrix_in x a).columns row column % m) i k
      (subst (λ n. i < n) (sym (left.target ∙ ap side first.target)) in_rows) (subst (λ n. k < n) (sym right.source) in_columns)
      ∙ ap (λ n. sum n i k % m) left.source

  module _ (u v i : ℕ) (w : List ℕ) (from to : ℕ) (in_u : u < q.objects) (within : to ≤ length w) where
    abbrev front : List ℕ
    front = take to w

    -- the letter at a place
    pub step_at : {place : ℕ} (middle : ℕ) → place < to → leads q u middle (drop place front) ≡ true
        → Step q u middle (get_or w place 0) (drop (place + 1) front)
    step_at {place} middle before path = step q u middle (get_or w place 0) (drop (place + 1) front)
        (subst (λ xs. leads q u middle xs ≡ true) (letters_from w before within) path)

    -- the row of the first letter
    pub so_far_first : {row : List ℕ} → from < to → leads q u v (drop from front) ≡ true → i < side v
        → IsRow (matrix_in x (get_or w from 0)) i (side (source q (get_or w from 0))) row → All (λ entry. entry < m) row
        → IsSoFar x u i front from (from + 1) row
    so_far_first {row} before path in_rows row_is below =
        let a = get_or w from 0 in
        let rest = drop (from + 1) front in
        let here = letters_from w before within in
        let first = step_at v before path in
        record {
          middle = source q a;
          path = first.rest;
          below = below;
          each = λ k in_columns.
              ap (λ y. y % m) (total_same (side (source q a)) (λ j. get_or row j 0 * entry_at (product_in x u rest) j k)
              (λ j. entry_at (matrix_in x a) i j * entry_at (product_in x u rest) j k)
              (λ j inside. ap (λ y. y * entry_at (product_in x u rest) j k) (row_is j inside)))
              ∙ sym (product_entry u v a rest in_u (subst (λ xs. leads q u v xs ≡ true) here path) i k in_rows in_columns)
              ∙ ap (λ xs. entry_at (product_in x u xs) i k) (sym here);
        }

    -- with one more letter
    pub so_far_next : {place : ℕ} {row next : List ℕ} → place < to → IsSoFar x u i front from place row
        → ((k : ℕ) → k < side (source q (get_or w place 0)) → get_or next k 0
        ≡ total (side (target q (get_or w place 0))) (λ j. get_or row j 0 * entry_at (matrix_in x (get_or w place 0)) j k) % m)
        → All (λ entry. entry < m) next → IsSoFar x u i front from (place + 1) next
    so_far_next {place} {row} {next} before now next_is below =
        let a = get_or w place 0 in
        let rest = drop (place + 1) front in
        let here = letters_from w before within in
        let first = step_at now.middle before now.path in
        let after : ℕ → ℕ → ℕ = λ j k. entry_at (product_in x u rest) j k in
        let inner : ℕ → ℕ → ℕ = λ l k. total (side (source q a)) (λ j. entry_at (matrix_in x a) l j * after j k) % m in
        record {
          middle = source q a;
          path = first.rest;
          below = below;
          each = λ k in_columns.
              ap (λ y. y % m) (total_same (side (source q a)) (λ j. get_or next j 0 * after j k)
              (λ j. (total (side (target q a)) (λ l. get_or row l 0 * entry_at (matrix_in x a) l j) % m) * after j k)
              (λ j inside. ap (λ y. y * after j k) (next_is j inside)))
              ∙ row_step m (side (target q a)) (side (source q a)) (λ l. get_or row l 0) (λ l j. entry_at (matrix_in x a) l j) (λ j. after j k)
              ∙ ap (λ t. total (side t) (λ l. get_or row l 0 * inner l k) % m) first.target
              ∙ ap (λ y. y % m) (total_same (side now.middle) (λ l. get_or row l 0 * inner l k)
              (λ l. get_or row l 0 * entry_at (product_in x u (drop place front)) l k)
              (λ l inside. ap (λ y. get_or row l 0 * y)
              (sym (product_entry u now.middle a rest in_u (subst (λ xs. leads q u now.middle xs ≡ true) here now.path) l k inside in_columns)
              ∙ ap (λ xs. entry_at (product_in x u xs) l k) (sym here))))
              ∙ now.each k in_columns;
        }

    -- with all letters
    pub so_far_all : {row : List ℕ} → IsSoFar x u i front from to row → IsRow (product_in x u (drop from front)) i (side u) row
    so_far_all {row} now k in_columns =
        let none : drop to front ≡ [] = drop_all to front (omega (arith, length-take-le to w within)) in
        let same : u ≡ now.middle = eqb-true u now.middle (subst (λ xs. leads q u now.middle xs ≡ true) none now.path) in
        sym (row_times_identity row in_columns (entry_below row k now.below))
        ∙ ap (λ t. total (side t) (λ j. get_or row j 0 * entry_at (product_in x u []) j k) % m) same
        ∙ ap (λ xs. total (side now.middle) (λ j. get_or row j 0 * entry_at (product_in x u xs) j k) % m) (sym none)
        ∙ now.each k in_columns

  -- with no letter
  pub unit_is_row : (u v : ℕ) {i : ℕ} (w : List ℕ) {from to : ℕ} (row : List ℕ) → to ≤ length w → from ≡ to → leads q u v (drop from (take to w)) ≡ true → i < side v
      → ((k : ℕ) → get_or row k 0 ≡ cond (eqb i k) 1 0) → IsRow (product_in x u (drop from (take to w))) i (side u) row
  unit_is_row u v {i} w {from} {to} row within all path in_rows unit k in_columns =
      let none : drop from (take to w) ≡ [] = drop_all from (take to w) (omega (arith, length-take-le to w within, all)) in
      let same : u ≡ v = eqb-true u v (subst (λ xs. leads q u v xs ≡ true) none path) in
      unit k ∙ sym (identity_entry m (subst (λ t. i < side t) (sym same) in_rows) in_columns)
      ∙ ap (λ xs. entry_at (product_in x u xs) i k) (sym none)
