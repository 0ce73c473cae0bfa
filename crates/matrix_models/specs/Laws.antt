-- Matrices modulo m are an involutive category.
use Rattle.std.proofs.Common.{◌≡◌, ℕ, ◌+◌, ◌-◌, ◌*◌, ◌%◌, ◌<◌, Bool, true, false, cond, eqb, ◌⊎◌, inl, inr, sym, refl, ap, ap₂, subst, ◌∙◌}
use Rattle.std.proofs.Common.{arith, mod-lt, mod-eq_of_lt, mul_comm, eq-eqb, ne_eqb, add-mul, mul-add}
use Rattle.std.proofs.lemmas.Nat.{mul-mod_first, mul-mod_second}
use Rattle.std.proofs.lemmas.Bool.{cases_eq}
use Rattle.std.proofs.Math.Nat.{mod-add-mod, mod_self}
use Rattle.definitions.specs.Category.{PreadditiveLaws, InvolutionLaws}
use Rattle.matrix_models.specs.Matrix.{Matrix, entry_at, IsMatrix}
use Rattle.matrix_models.specs.Matrices.{total, identity_matrix, zero_matrix, matrix_sum, matrix_negative, matrix_product, transpose, IsObject, matrices}
use Rattle.matrix_models.specs.Totals.{total_same, total_add, total_swap, add_mod, total_mod, total_pick}
use Rattle.matrix_models.specs.Entries.{rows_object, columns_object, entry_at-matrix_of, matrix_of_is_matrix, entry_at_below, same_matrix}

-- x + (y mod m), modulo m
mod_right : (x y m : ℕ) → (x + y % m) % m ≡ (x + y) % m
mod_right x y m =
    let flip : x + y % m ≡ y % m + x = omega arith in
    let back : y + x ≡ x + y = omega arith in
    ap (λ z. z % m) flip ∙ mod-add-mod y m x ∙ ap (λ z. z % m) back

eqb_flip : (i j : ℕ) → eqb i j ≡ eqb j i
eqb_flip i j = go (cases_eq i j)
  where
    go : (i ≡ j) ⊎ (i ≡ j → ⊥) → eqb i j ≡ eqb j i
    go (inl e) = eq-eqb i j e ∙ sym (eq-eqb j i (sym e))
    go (inr d) = ne_eqb i j d ∙ sym (ne_eqb j i (λ e. d (sym e)))

module _ (m : ℕ) where
  positive : (x : ℕ) → IsObject m x → 0 < m
  positive x p = let modulus = p.is_modulus in omega arith

  unit_below : (x : ℕ) → IsObject m x → (b : Bool) → cond b 1 0 < m
  unit_below x p true = let modulus = p.is_modulus in omega arith
  unit_below x p false = positive x p

  identity_is_matrix : (x : ℕ) → IsObject m x → IsMatrix m (identity_matrix m x)
  identity_is_matrix x p = matrix_of_is_matrix m x x (λ i j. cond (eqb i j) 1 0) p p (λ i j h k. unit_below x p (eqb i j))

  zero_is_matrix : (x y : ℕ) → IsObject m x → IsObject m y → IsMatrix m (zero_matrix m y x)
  zero_is_matrix x y p q = matrix_of_is_matrix m y x (λ i j. 0) q p (λ i j h k. positive x p)

  sum_is_matrix : (a b : Matrix) → IsMatrix m a → IsMatrix m (matrix_sum m a b)
  sum_is_matrix a b p = matrix_of_is_matrix m a.rows a.columns (λ i j. (entry_at a i j + entry_at b i j) % m) (rows_object p)
      (columns_object p) (λ i j h k. mod-lt (entry_at a i j + entry_at b i j) (positive a.rows (rows_object p)))

  negative_is_matrix : (a : Matrix) → IsMatrix m a → IsMatrix m (matrix_negative m a)
  negative_is_matrix a p = matrix_of_is_matrix m a.rows a.columns (λ i j. (m - entry_at a i j) % m) (rows_object p) (columns_object p)
      (λ i j h k. mod-lt (m - entry_at a i j) (positive a.rows (rows_object p)))

  product_is_matrix : (a b : Matrix) → IsMatrix m a → IsMatrix m b → IsMatrix m (matrix_product m a b)
  product_is_matrix a b p q = matrix_of_is_matrix m a.rows b.columns _ (rows_object p) (columns_object q)
      (λ i j h k. mod-lt (total a.columns (λ n. entry_at a i n * entry_at b n j)) (positive a.rows (rows_object p)))

  entry_at-product : (a b : Matrix) (i j : ℕ) → i < a.rows → j < b.columns → entry_at (matrix_product m a b) i j ≡ total a.columns
      (λ n. entry_at a i n * entry_at b n j) % m
  entry_at-product a b i j h k = entry_at-matrix_of m a.rows b.columns (λ i j. total a.columns (λ n. entry_at a i n * entry_at b n j) % m) i j h k

  entry_at-sum : (a b : Matrix) (i j : ℕ) → i < a.rows → j < a.columns → entry_at (matrix_sum m a b) i j ≡ (entry_at a i j + entry_at b i j) % m
  entry_at-sum a b i j h k = entry_at-matrix_of m a.rows a.columns (λ i j. (entry_at a i j + entry_at b i j) % m) i j h k

  assoc : (a b c : Matrix) → IsMatrix m a → IsMatrix m b → IsMatrix m c → a.columns ≡ b.rows → b.columns ≡ c.rows
      → matrix_product m (matrix_product m a b) c ≡ matrix_product m a (matrix_product m b c)
  assoc a b c p q r ab bc =
      let abm = product_is_matrix a b p q in
      let bcm = product_is_matrix b c q r in
      same_matrix m _ _ (product_is_matrix (matrix_product m a b) c abm r) (product_is_matrix a (matrix_product m b c) p bcm) refl refl each
    where
      each : (i j : ℕ) → i < a.rows → j < c.columns → entry_at (matrix_product m (matrix_product m a b) c) i j ≡ entry_at
          (matrix_product m a (matrix_product m b c)) i j
      each i j h k =
          entry_at-product (matrix_product m a b) c i j h k
          ∙ ap (λ x. x % m) (total_same b.columns (λ n. entry_at (matrix_product m a b) i n * entry_at c n j)
          (λ n. (total a.columns (λ l. entry_at a i l * entry_at b l n) % m) * entry_at c n j)
          (λ n l. ap (λ x. x * entry_at c n j) (entry_at-product a b i n h l)))
          ∙ total_mod m b.columns (λ n. (total a.columns (λ l. entry_at a i l * entry_at b l n) % m) * entry_at c n j)
          (λ n. total a.columns (λ l. entry_at a i l * entry_at b l n) * entry_at c n j)
          (λ n within. mul-mod_first (total a.columns (λ l. entry_at a i l * entry_at b l n)) (entry_at c n j) m)
          ∙ ap (λ x. x % m) (total_swap b.columns a.columns (λ l. entry_at a i l) (λ n. entry_at c n j) (λ l n. entry_at b l n))
          ∙ sym (total_mod m a.columns (λ l. entry_at a i l * (total b.columns (λ n. entry_at b l n * entry_at c n j) % m))
          (λ l. entry_at a i l * total b.columns (λ n. entry_at b l n * entry_at c n j))
          (λ l within. mul-mod_second (entry_at a i l) (total b.columns (λ n. entry_at b l n * entry_at c n j)) m))
          ∙ sym (ap (λ x. x % m) (total_same a.columns (λ l. entry_at a i l * entry_at (matrix_product m b c) l j)
          (λ l. entry_at a i l * (total b.columns (λ n. entry_at b l n * entry_at c n j) % m))
          (λ l h'. ap (λ x. entry_at a i l * x) (entry_at-product b c l j (subst (λ x. l < x) ab h') k))))
          ∙ sym (entry_at-product a (matrix_product m b c) i j h k)

  unit_left : (y : ℕ) (a : Matrix) → IsObject m y → IsMatrix m a → a.rows ≡ y → matrix_product m (identity_matrix m y) a ≡ a
  unit_left y a side p is = same_matrix m _ a (product_is_matrix (identity_matrix m y) a (identity_is_matrix y side) p) p (sym is) refl each
    where
      each : (i j : ℕ) → i < y → j < a.columns → entry_at (matrix_product m (identity_matrix m y) a) i j ≡ entry_at a i j
      each i j h k =
          entry_at-product (identity_matrix m y) a i j h k
          ∙ ap (λ x. x % m) (total_same y (λ n. entry_at (identity_matrix m y) i n * entry_at a n j)
          (λ n. cond (eqb i n) 1 0 * entry_at a n j)
          (λ n l. ap (λ x. x * entry_at a n j) (entry_at-matrix_of m y y (λ i j. cond (eqb i j) 1 0) i n h l))
          ∙ total_pick y i (λ n. entry_at a n j) h)
          ∙ mod-eq_of_lt (entry_at_below m a i j p (subst (λ x. i < x) (sym is) h) k)

  unit_right : (x : ℕ) (a : Matrix) → IsObject m x → IsMatrix m a → a.columns ≡ x → matrix_product m a (identity_matrix m x) ≡ a
  unit_right x a side p is = same_matrix m _ a (product_is_matrix a (identity_matrix m x) p (identity_is_matrix x side)) p refl (sym is) each
    where
      each : (i j : ℕ) → i < a.rows → j < x → entry_at (matrix_product m a (identity_matrix m x)) i j ≡ entry_at a i j
      each i j h k =
          let k' : j < a.columns = subst (λ n. j < n) (sym is) k in
          entry_at-product a (identity_matrix m x) i j h k
          ∙ ap (λ z. z % m) (total_same a.columns (λ n. entry_at a i n * entry_at (identity_matrix m x) n j) (λ n. cond (eqb j n) 1 0 * entry_at a i n)
          (λ n l. ap (λ z. entry_at a i n * z) (entry_at-matrix_of m x x (λ i j. cond (eqb i j) 1 0) n j (subst (λ z. n < z) is l) k
          ∙ ap (λ b. cond b 1 0) (eqb_flip n j)) ∙ mul_comm (entry_at a i n) (cond (eqb j n) 1 0))
          ∙ total_pick a.columns j (λ n. entry_at a i n) k')
          ∙ mod-eq_of_lt (entry_at_below m a i j p h k')

  sum_assoc : (a b c : Matrix) → IsMatrix m a → IsMatrix m b → IsMatrix m c → a.rows ≡ b.rows → a.columns ≡ b.columns
      → matrix_sum m (matrix_sum m a b) c ≡ matrix_sum m a (matrix_sum m b c)
  sum_assoc a b c p q r rows columns = same_matrix m _ _ (sum_is_matrix (matrix_sum m a b) c (sum_is_matrix a b p))
      (sum_is_matrix a (matrix_sum m b c) p) refl refl each
    where
      each : (i j : ℕ) → i < a.rows → j < a.columns → entry_at (matrix_sum m (matrix_sum m a b) c) i j ≡ entry_at (matrix_sum m a (matrix_sum m b c)) i j
      each i j h k =
          let x = entry_at a i j in
          let y = entry_at b i j in
          let z = entry_at c i j in
          let same : (x + y) + z ≡ x + (y + z) = omega arith in
          entry_at-sum (matrix_sum m a b) c i j h k
          ∙ ap (λ v. (v + z) % m) (entry_at-sum a b i j h k) ∙ mod-add-mod (x + y) m z ∙ ap (λ v. v % m) same ∙ sym (mod_right x (y + z) m)
          ∙ ap (λ v. (x + v) % m) (sym (entry_at-sum b c i j (subst (λ n. i < n) rows h) (subst (λ n. j < n) columns k)))
          ∙ sym (entry_at-sum a (matrix_sum m b c) i j h k)

  sum_comm : (a b : Matrix) → IsMatrix m a → IsMatrix m b → a.rows ≡ b.rows → a.columns ≡ b.columns → matrix_sum m a b ≡ matrix_sum m b a
  sum_comm a b p q rows columns = same_matrix m _ _ (sum_is_matrix a b p) (sum_is_matrix b a q) rows columns each
    where
      each : (i j : ℕ) → i < a.rows → j < a.columns → entry_at (matrix_sum m a b) i j ≡ entry_at (matrix_sum m b a) i j
      each i j h k =
          let same : entry_at a i j + entry_at b i j ≡ entry_at b i j + entry_at a i j = omega arith in
          entry_at-sum a b i j h k ∙ ap (λ v. v % m) same ∙ sym (entry_at-sum b a i j (subst (λ n. i < n) rows h) (subst (λ n. j < n) columns k))

  sum_zero : (x y : ℕ) (a : Matrix) → IsMatrix m a → a.columns ≡ x → a.rows ≡ y → matrix_sum m a (zero_matrix m y x) ≡ a
  sum_zero x y a p columns rows = same_matrix m _ a (sum_is_matrix a (zero_matrix m y x) p) p refl refl each
    where
      each : (i j : ℕ) → i < a.rows → j < a.columns → entry_at (matrix_sum m a (zero_matrix m y x)) i j ≡ entry_at a i j
      each i j h k =
          let same : entry_at a i j + 0 ≡ entry_at a i j = omega arith in
          entry_at-sum a (zero_matrix m y x) i j h k
          ∙ ap (λ v. (entry_at a i j + v) % m) (entry_at-matrix_of m y x (λ i j. 0) i j (subst (λ n. i < n) rows h) (subst (λ n. j < n) columns k))
          ∙ ap (λ v. v % m) same ∙ mod-eq_of_lt (entry_at_below m a i j p h k)

  sum_negate : (x y : ℕ) (a : Matrix) → IsMatrix m a → a.columns ≡ x → a.rows ≡ y → matrix_sum m a (matrix_negative m a) ≡ zero_matrix m y x
  sum_negate x y a p columns rows =
      same_matrix m _ _ (sum_is_matrix a (matrix_negative m a) p) (zero_is_matrix x y (subst (IsObject m) columns (columns_object p))
      (subst (IsObject m) rows (rows_object p))) rows columns each
    where
      each : (i j : ℕ) → i < a.rows → j < a.columns → entry_at (matrix_sum m a (matrix_negative m a)) i j ≡ entry_at (zero_matrix m y x) i j
      each i j h k =
          let below = entry_at_below m a i j p h k in
          let whole : entry_at a i j + (m - entry_at a i j) ≡ m = omega arith in
          entry_at-sum a (matrix_negative m a) i j h k
          ∙ ap (λ v. (entry_at a i j + v) % m) (entry_at-matrix_of m a.rows a.columns (λ i j. (m - entry_at a i j) % m) i j h k)
          ∙ mod_right (entry_at a i j) (m - entry_at a i j) m ∙ ap (λ v. v % m) whole ∙ mod_self m
          ∙ sym (entry_at-matrix_of m y x (λ i j. 0) i j (subst (λ n. i < n) rows h) (subst (λ n. j < n) columns k))

  left_additive : (a b c : Matrix) → IsMatrix m a → IsMatrix m b → IsMatrix m c → a.rows ≡ b.rows → a.columns ≡ b.columns
      → matrix_product m (matrix_sum m a b) c ≡ matrix_sum m (matrix_product m a c) (matrix_product m b c)
  left_additive a b c p q r rows columns =
      same_matrix m _ _ (product_is_matrix (matrix_sum m a b) c (sum_is_matrix a b p) r)
      (sum_is_matrix (matrix_product m a c) (matrix_product m b c) (product_is_matrix a c p r)) refl refl each
    where
      each : (i j : ℕ) → i < a.rows → j < c.columns → entry_at (matrix_product m (matrix_sum m a b) c) i j ≡ entry_at
          (matrix_sum m (matrix_product m a c) (matrix_product m b c)) i j
      each i j h k =
          let A = λ (n : ℕ). entry_at a i n * entry_at c n j in
          let B = λ (n : ℕ). entry_at b i n * entry_at c n j in
          entry_at-product (matrix_sum m a b) c i j h k
          ∙ ap (λ v. v % m) (total_same a.columns (λ n. entry_at (matrix_sum m a b) i n * entry_at c n j)
          (λ n. ((entry_at a i n + entry_at b i n) % m) * entry_at c n j) (λ n l. ap (λ v. v * entry_at c n j) (entry_at-sum a b i n h l)))
          ∙ total_mod m a.columns (λ n. ((entry_at a i n + entry_at b i n) % m) * entry_at c n j)
          (λ n. entry_at a i n * entry_at c n j + entry_at b i n * entry_at c n j)
          (λ n within. mul-mod_first (entry_at a i n + entry_at b i n) (entry_at c n j) m ∙ ap (λ v. v % m)
          (add-mul (entry_at a i n) (entry_at b i n) (entry_at c n j)))
          ∙ ap (λ v. v % m) (sym (total_add a.columns (λ n. entry_at a i n * entry_at c n j) (λ n. entry_at b i n * entry_at c n j)))
          ∙ sym (add_mod m (total a.columns (λ n. entry_at a i n * entry_at c n j)) (total a.columns (λ n. entry_at b i n * entry_at c n j)))
          ∙ ap (λ v. (total a.columns (λ n. entry_at a i n * entry_at c n j) % m + total v (λ n. entry_at b i n * entry_at c n j) % m) % m) columns
          ∙ ap₂ (λ u v. (u + v) % m) (sym (entry_at-product a c i j h k)) (sym (entry_at-product b c i j (subst (λ n. i < n) rows h) k))
          ∙ sym (entry_at-sum (matrix_product m a c) (matrix_product m b c) i j h k)

  right_additive : (a b c : Matrix) → IsMatrix m a → IsMatrix m b → IsMatrix m c → a.columns ≡ b.rows → b.rows ≡ c.rows → b.columns ≡ c.columns
      → matrix_product m a (matrix_sum m b c) ≡ matrix_sum m (matrix_product m a b) (matrix_product m a c)
  right_additive a b c p q r middle rows columns =
      same_matrix m _ _ (product_is_matrix a (matrix_sum m b c) p (sum_is_matrix b c q))
      (sum_is_matrix (matrix_product m a b) (matrix_product m a c) (product_is_matrix a b p q)) refl refl each
    where
      each : (i j : ℕ) → i < a.rows → j < b.columns → entry_at (matrix_product m a (matrix_sum m b c)) i j ≡ entry_at
          (matrix_sum m (matrix_product m a b) (matrix_product m a c)) i j
      each i j h k =
          entry_at-product a (matrix_sum m b c) i j h k
          ∙ ap (λ v. v % m) (total_same a.columns (λ n. entry_at a i n * entry_at (matrix_sum m b c) n j)
          (λ n. entry_at a i n * ((entry_at b n j + entry_at c n j) % m))
          (λ n l. ap (λ v. entry_at a i n * v) (entry_at-sum b c n j (subst (λ z. n < z) middle l) k)))
          ∙ total_mod m a.columns (λ n. entry_at a i n * ((entry_at b n j + entry_at c n j) % m))
          (λ n. entry_at a i n * entry_at b n j + entry_at a i n * entry_at c n j)
          (λ n within. mul-mod_second (entry_at a i n) (entry_at b n j + entry_at c n j) m ∙ ap (λ v. v % m)
          (mul-add (entry_at a i n) (entry_at b n j) (entry_at c n j)))
          ∙ ap (λ v. v % m) (sym (total_add a.columns (λ n. entry_at a i n * entry_at b n j) (λ n. entry_at a i n * entry_at c n j)))
          ∙ sym (add_mod m (total a.columns (λ n. entry_at a i n * entry_at b n j)) (total a.columns (λ n. entry_at a i n * entry_at c n j)))
          ∙ ap₂ (λ u v. (u + v) % m) (sym (entry_at-product a b i j h k)) (sym (entry_at-product a c i j h (subst (λ n. j < n) columns k)))
          ∙ sym (entry_at-sum (matrix_product m a b) (matrix_product m a c) i j h k)

  pub matrices_laws : PreadditiveLaws (matrices m)
  matrices_laws = record {
    source_is_object = λ a p. columns_object p;
    target_is_object = λ a p. rows_object p;
    identity_is_arrow = λ x p. record { arrow = identity_is_matrix x p; source = refl; target = refl };
    zero_is_arrow = λ x y p q. record { arrow = zero_is_matrix x y p q; source = refl; target = refl };
    add_is_arrow = λ x y a b p q. record { arrow = sum_is_matrix a b p.arrow; source = p.source; target = p.target };
    negate_is_arrow = λ x y a p. record { arrow = negative_is_matrix a p.arrow; source = p.source; target = p.target };
    compose_is_arrow = λ x y z a b p q. record { arrow = product_is_matrix a b p.arrow q.arrow; source = q.source; target = p.target };
    compose_assoc = λ w x y z a b c p q r. assoc a b c p.arrow q.arrow r.arrow (p.source ∙ sym q.target) (q.source ∙ sym r.target);
    identity_left = λ x y a p. unit_left y a (subst (IsObject m) p.target (rows_object p.arrow)) p.arrow p.target;
    identity_right = λ x y a p. unit_right x a (subst (IsObject m) p.source (columns_object p.arrow)) p.arrow p.source;
    add_assoc = λ x y a b c p q r. sum_assoc a b c p.arrow q.arrow r.arrow (p.target ∙ sym q.target) (p.source ∙ sym q.source);
    add_comm = λ x y a b p q. sum_comm a b p.arrow q.arrow (p.target ∙ sym q.target) (p.source ∙ sym q.source);
    add_zero = λ x y a p. sum_zero x y a p.arrow p.source p.target;
    add_negate = λ x y a p. sum_negate x y a p.arrow p.source p.target;
    compose_add_left = λ x y z a b c p q r. left_additive a b c p.arrow q.arrow r.arrow (p.target ∙ sym q.target) (p.source ∙ sym q.source);
    compose_add_right = λ x y z a b c p q r. right_additive a b c p.arrow q.arrow r.arrow (p.source ∙ sym q.target)
        (q.target ∙ sym r.target) (q.source ∙ sym r.source);
  }

  -- transposes
  transpose_is_matrix : (a : Matrix) → IsMatrix m a → IsMatrix m (transpose m a)
  transpose_is_matrix a p = matrix_of_is_matrix m a.columns a.rows (λ i j. entry_at a j i) (columns_object p) (rows_object p)
      (λ i j h k. entry_at_below m a j i p k h)

  entry_at-transpose : (a : Matrix) (i j : ℕ) → i < a.columns → j < a.rows → entry_at (transpose m a) i j ≡ entry_at a j i
  entry_at-transpose a i j h k = entry_at-matrix_of m a.columns a.rows (λ i j. entry_at a j i) i j h k

  transpose-product : (a b : Matrix) → IsMatrix m a → IsMatrix m b → a.columns ≡ b.rows
      → transpose m (matrix_product m a b) ≡ matrix_product m (transpose m b) (transpose m a)
  transpose-product a b p q middle =
      same_matrix m _ _ (transpose_is_matrix (matrix_product m a b) (product_is_matrix a b p q))
      (product_is_matrix (transpose m b) (transpose m a) (transpose_is_matrix b q) (transpose_is_matrix a p)) refl refl each
    where
      each : (i j : ℕ) → i < b.columns → j < a.rows → entry_at (transpose m (matrix_product m a b)) i j ≡ entry_at
          (matrix_product m (transpose m b) (transpose m a)) i j
      each i j h k =
          entry_at-transpose (matrix_product m a b) i j h k
          ∙ entry_at-product a b j i k h
          ∙ ap (λ v. total v (λ n. entry_at a j n * entry_at b n i) % m) middle
          ∙ ap (λ v. v % m) (total_same b.rows (λ n. entry_at a j n * entry_at b n i) (λ n. entry_at (transpose m b) i n * entry_at (transpose m a) n j)
          (λ n l. mul_comm (entry_at a j n) (entry_at b n i) ∙ ap₂ ◌*◌ (sym (entry_at-transpose b i n h l))
          (sym (entry_at-transpose a n j (subst (λ z. n < z) (sym middle) l) k))))
          ∙ sym (entry_at-product (transpose m b) (transpose m a) i j h k)

  pub transpose_laws : InvolutionLaws (matrices m) (transpose m)
  transpose_laws = record {
    star_is_arrow = λ x y a p. record { arrow = transpose_is_matrix a p.arrow; source = p.target; target = p.source };
    star_star = λ a p. same_matrix m _ a (transpose_is_matrix (transpose m a) (transpose_is_matrix a p)) p refl refl
        (λ i j h k. entry_at-transpose (transpose m a) i j h k ∙ entry_at-transpose a j i k h);
    star_compose = λ x y z a b p q. transpose-product a b p.arrow q.arrow (p.source ∙ sym q.target);
    star_add = λ x y a b p q.
        same_matrix m _ _ (transpose_is_matrix (matrix_sum m a b) (sum_is_matrix a b p.arrow))
        (sum_is_matrix (transpose m a) (transpose m b) (transpose_is_matrix a p.arrow)) refl refl
        (λ i j h k.
        entry_at-transpose (matrix_sum m a b) i j h k ∙ entry_at-sum a b j i k h
        ∙ ap₂ (λ u v. (u + v) % m) (sym (entry_at-transpose a i j h k))
        (sym (entry_at-transpose b i j (subst (λ n. i < n) (p.source ∙ sym q.source) h) (subst (λ n. j < n) (p.target ∙ sym q.target) k)))
        ∙ sym (entry_at-sum (transpose m a) (transpose m b) i j h k));
    star_identity = λ x p.
        same_matrix m _ _ (transpose_is_matrix (identity_matrix m x) (identity_is_matrix x p)) (identity_is_matrix x p) refl refl
        (λ i j h k.
        entry_at-transpose (identity_matrix m x) i j h k ∙ entry_at-matrix_of m x x (λ i j. cond (eqb i j) 1 0) j i k h
        ∙ ap (λ b. cond b 1 0) (eqb_flip j i) ∙ sym (entry_at-matrix_of m x x (λ i j. cond (eqb i j) 1 0) i j h k));
  }
