-- Sums of numbers, and modulo m.
use Rattle.std.proofs.Common.{◌≡◌, ℕ, zero, suc, ◌+◌, ◌*◌, ◌%◌, ◌<◌, cond, eqb, ◌⊎◌, inl, inr, sym, refl, ap, ap₂, ◌∙◌, arith, mul-add}
use Rattle.std.proofs.Common.{add-mul, mul-zero, zero-mul, mul_assoc, eq-eqb, ne_eqb, one-mul}
use Rattle.std.proofs.lemmas.Bool.{cases_eq}
use Rattle.std.proofs.Math.Nat.{mod-add-mod}
use Rattle.matrix_models.specs.Matrices.{total}

pub total_same : (n : ℕ) (f g : ℕ → ℕ) → ((k : ℕ) → k < n → f k ≡ g k) → total n f ≡ total n g
total_same zero f g h = refl
total_same (suc n) f g h = ap₂ ◌+◌ (total_same n f g (λ k l. h k (omega arith))) (h n (omega arith))

pub total_zero : (n : ℕ) (f : ℕ → ℕ) → ((k : ℕ) → k < n → f k ≡ 0) → total n f ≡ 0
total_zero zero f h = refl
total_zero (suc n) f h = omega (arith, total_zero n f (λ k l. h k (omega arith)), h n (omega arith))

pub total_add : (n : ℕ) (f g : ℕ → ℕ) → total n f + total n g ≡ total n (λ k. f k + g k)
total_add zero f g = refl
total_add (suc n) f g = omega (arith, total_add n f g)

pub total_mul : (n x : ℕ) (f : ℕ → ℕ) → x * total n f ≡ total n (λ k. x * f k)
total_mul zero x f = mul-zero x
total_mul (suc n) x f = mul-add x (total n f) (f n) ∙ ap (λ y. y + x * f n) (total_mul n x f)

pub total_mul_right : (n x : ℕ) (f : ℕ → ℕ) → total n f * x ≡ total n (λ k. f k * x)
total_mul_right zero x f = zero-mul x
total_mul_right (suc n) x f = add-mul (total n f) (f n) x ∙ ap (λ y. y + f n * x) (total_mul_right n x f)

-- the sums of a product of three in either order
pub total_swap : (n p : ℕ) (u w : ℕ → ℕ) (v : ℕ → ℕ → ℕ) → total n (λ k. total p (λ l. u l * v l k) * w k) ≡ total p (λ l. u l * total n (λ k. v l k * w k))
total_swap zero p u w v = sym (total_zero p (λ l. u l * 0) (λ l h. mul-zero (u l)))
total_swap (suc n) p u w v =
    ap₂ ◌+◌ (total_swap n p u w v) (total_mul_right p (w n) (λ l. u l * v l n))
    ∙ total_add p (λ l. u l * total n (λ k. v l k * w k)) (λ l. u l * v l n * w n)
    ∙ total_same p _ _ (λ l h. ap (λ y. u l * total n (λ k. v l k * w k) + y) (mul_assoc (u l) (v l n) (w n))
    ∙ sym (mul-add (u l) (total n (λ k. v l k * w k)) (v l n * w n)))

-- modulo m
pub add_mod : (m x y : ℕ) → (x % m + y % m) % m ≡ (x + y) % m
add_mod m x y =
    let flip : x + y % m ≡ y % m + x = omega arith in
    let back : y + x ≡ x + y = omega arith in
    mod-add-mod x m (y % m) ∙ ap (λ z. z % m) flip ∙ mod-add-mod y m x ∙ ap (λ z. z % m) back

pub total_mod : (m n : ℕ) (f g : ℕ → ℕ) → ((k : ℕ) → k < n → f k % m ≡ g k % m) → total n f % m ≡ total n g % m
total_mod m zero f g h = refl
total_mod m (suc n) f g h = sym (add_mod m (total n f) (f n)) ∙ ap₂ (λ x y. (x + y) % m) (total_mod m n f g (λ k l. h k (omega arith)))
    (h n (omega arith)) ∙ add_mod m (total n g) (g n)

-- one of the terms
pub total_pick : (n i : ℕ) (f : ℕ → ℕ) → i < n → total n (λ k. cond (eqb i k) 1 0 * f k) ≡ f i
total_pick zero i f h = absurd (omega arith)
total_pick (suc n) i f h = go (cases_eq i n) (total_pick n i f)
  where
    off : (k : ℕ) → (i ≡ k → ⊥) → cond (eqb i k) 1 0 * f k ≡ 0
    off k d = ap (λ b. cond b 1 0 * f k) (ne_eqb i k d) ∙ zero-mul (f k)

    go : (i ≡ n) ⊎ (i ≡ n → ⊥) → (i < n → total n (λ k. cond (eqb i k) 1 0 * f k) ≡ f i)
        → total n (λ k. cond (eqb i k) 1 0 * f k) + cond (eqb i n) 1 0 * f n ≡ f i
    go (inl e) ih =
        let none : total n (λ k. cond (eqb i k) 1 0 * f k) ≡ 0 = total_zero n _ (λ k l. off k (λ same. absurd (omega arith))) in
        let last : cond (eqb i n) 1 0 * f n ≡ f i = ap (λ b. cond b 1 0 * f n) (eq-eqb i n e) ∙ one-mul (f n) ∙ ap f (sym e) in
        omega (arith, none, last)
    go (inr d) ih =
        let here : i < n = omega arith in
        omega (arith, ih here, off n d)
