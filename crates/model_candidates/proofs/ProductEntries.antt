-- The entries of a product of three matrices modulo m, as sums over the entries of the one between, and those of a multiple.
use Rattle.model_candidates.proofs.Prelude.{◌≡◌, ℕ, zero, suc, ◌+◌, ◌-◌, ◌*◌, ◌%◌, ◌<◌, ℤ, pos, negsuc, refl, sym, ap, ◌∙◌, arith, mod-lt, add-mul, zero-mul, mul-mod_first, mul-mod_second, mod-mod, mod-eq_of_lt, mod_self, add-mod-mod, mul-mod_right, natural_multiple, multiple, Matrix, entry_at, total, matrices, matrix_product, entry_at-matrix_of, total_mul, total_mod, add_cancel, residue}

pub residue_below : (m : ℕ) (k : ℤ) → 0 < m → residue m k < m
residue_below m (pos n) positive = mod-lt n positive
residue_below m (negsuc n) positive = mod-lt (m - suc n % m) positive

-- multiples have the sides of the matrix
pub multiple_rows : (m : ℕ) (k : ℤ) (a : Matrix) → (multiple (matrices m) k a).rows ≡ a.rows
multiple_rows m (pos zero) a = refl
multiple_rows m (pos (suc n)) a = refl
multiple_rows m (negsuc n) a = refl

pub multiple_columns : (m : ℕ) (k : ℤ) (a : Matrix) → (multiple (matrices m) k a).columns ≡ a.columns
multiple_columns m (pos zero) a = refl
multiple_columns m (pos (suc n)) a = refl
multiple_columns m (negsuc n) a = refl

module _ (m : ℕ) where
  -- products
  product_entry : (a b : Matrix) (i j : ℕ) → i < a.rows → j < b.columns
      → entry_at (matrix_product m a b) i j ≡ total a.columns (λ k. entry_at a i k * entry_at b k j) % m
  product_entry a b i j = entry_at-matrix_of m a.rows b.columns (λ row column. total a.columns (λ k. entry_at a row k * entry_at b k column) % m) i j

  -- each entry of the matrix between, times what stands beside it
  abbrev pub entry_sum : (left between right : Matrix) → ℕ → ℕ → ℕ
  entry_sum left between right i j =
      total between.rows (λ k. total between.columns (λ l. entry_at left i k * (entry_at between k l * entry_at right l j)))

  pub triple_entry : (left between right : Matrix) (i j : ℕ) → left.columns ≡ between.rows → i < left.rows → j < right.columns
      → entry_at (matrix_product m left (matrix_product m between right)) i j ≡ entry_sum left between right i j % m
  triple_entry left between right i j meet in_rows in_columns =
      let inner : ℕ → ℕ = λ k. total between.columns (λ l. entry_at between k l * entry_at right l j) in
      product_entry left (matrix_product m between right) i j in_rows in_columns
      ∙ ap (λ n. total n (λ k. entry_at left i k * entry_at (matrix_product m between right) k j) % m) meet
      ∙ total_mod m between.rows (λ k. entry_at left i k * entry_at (matrix_product m between right) k j)
      (λ k. total between.columns (λ l. entry_at left i k * (entry_at between k l * entry_at right l j))) (λ k inside.
      ap (λ x. (entry_at left i k * x) % m) (product_entry between right k j inside in_columns)
      ∙ mul-mod_second (entry_at left i k) (inner k) m
      ∙ ap (λ x. x % m) (total_mul between.columns (entry_at left i k) (λ l. entry_at between k l * entry_at right l j)))

  -- multiples
  natural_entry : (n : ℕ) (a : Matrix) (i j : ℕ) → 0 < m → i < a.rows → j < a.columns
      → entry_at (natural_multiple (matrices m) n a) i j ≡ (n * entry_at a i j) % m
  natural_entry zero a i j positive in_rows in_columns =
      entry_at-matrix_of m a.rows a.columns (λ row column. 0) i j in_rows in_columns
      ∙ sym (ap (λ x. x % m) (zero-mul (entry_at a i j)) ∙ mod-eq_of_lt positive)
  natural_entry (suc n) a i j positive in_rows in_columns =
      let x = entry_at a i j in
      let whole : suc n * x ≡ x + n * x = grind arith in
      entry_at-matrix_of m a.rows a.columns (λ row column. (entry_at a row column + entry_at (natural_multiple (matrices m) n a) row column) % m)
      i j in_rows in_columns
      ∙ ap (λ y. (x + y) % m) (natural_entry n a i j positive in_rows in_columns)
      ∙ add-mod-mod x (n * x) m ∙ sym (ap (λ y. y % m) whole)

  -- the negative of a multiple
  negative_times : (n x : ℕ) → 0 < m → (m - (n * x) % m) % m ≡ ((m - n % m) % m * x) % m
  negative_times n x positive =
      let small : (n * x) % m < m = mod-lt (n * x) positive in
      let few : n % m < m = mod-lt n positive in
      let first : m - (n * x) % m + (n * x) % m ≡ m = omega (arith, small) in
      let second : (m - n % m) * x + n % m * x ≡ m * x = sym (add-mul (m - n % m) (n % m) x) ∙ ap (λ y. y * x) (omega (arith, few)) in
      let none : (m * x) % m ≡ m % m = mul-mod_right m x ∙ sym (mod_self m) in
      add_cancel m (m - (n * x) % m) ((m - n % m) * x) ((n * x) % m) (n % m * x) positive
      (ap (λ y. y % m) first ∙ sym (ap (λ y. y % m) second ∙ none)) (mod-mod (n * x) m ∙ sym (mul-mod_first n x m))
      ∙ sym (mul-mod_first (m - n % m) x m)

  pub multiple_entry : (k : ℤ) (a : Matrix) (i j : ℕ) → 0 < m → i < a.rows → j < a.columns
      → entry_at (multiple (matrices m) k a) i j ≡ (residue m k * entry_at a i j) % m
  multiple_entry (pos n) a i j positive in_rows in_columns =
      natural_entry n a i j positive in_rows in_columns ∙ sym (mul-mod_first n (entry_at a i j) m)
  multiple_entry (negsuc n) a i j positive in_rows in_columns =
      entry_at-matrix_of m a.rows a.columns (λ row column. (m - entry_at (natural_multiple (matrices m) (suc n) a) row column) % m) i j
      in_rows in_columns
      ∙ ap (λ y. (m - y) % m) (natural_entry (suc n) a i j positive in_rows in_columns)
      ∙ negative_times (suc n) (entry_at a i j) positive
