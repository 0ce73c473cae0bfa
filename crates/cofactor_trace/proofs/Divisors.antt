-- Quotients, products and least common multiples of positive integers are positive; common divisors divide, and least common
-- multiples are divided by, each number.
use Rattle.cofactor_trace.proofs.Prelude.{◌≡◌, ◌<◌, ℕ, zero, suc, List, [], ◌∷◌, ◌/◌, ℤ, pos, negsuc, ◌<ℤ◌, ◌*ℤ◌, ◌*◌, refl, sym, ap, subst, subst₂, ◌∙◌, arith, *ℤ-zero, All, AllByRecursion, fold, ◌∣◌, unsigned_abs, ints, unsigned_abs-mul, dvd_refl, dvd_trans, dvd-zero, All-nil, All-cons, All-head, All-tail, dvd-mul_right, dvd_of_mul-dvd-mul_right, eq-zero_of_zero-dvd, mul-dvd-mul_right, mul_assoc, mul_comm, quotient_times, gcd_of, gcd_of-IsGcd, gcd_of-positive, gcd_of-scaled, MultiplesAreLeast, lcm_of, common_multiple, int_div}

-- a quotient by a divisor of a positive integer is positive
pub quotient_positive : (y d : ℤ) → pos 0 <ℤ y → pos 0 <ℤ d → unsigned_abs d ∣ unsigned_abs y → pos 0 <ℤ int_div y d
quotient_positive (pos y) (pos d) y_in d_in divides =
    let times = quotient_times (pos y) (pos d) divides in
    go (y / d) times
  where
    go : (q : ℕ) → pos d *ℤ pos q ≡ pos y → pos 0 <ℤ pos q
    go zero e = absurd (omega (arith, ints, e, *ℤ-zero (pos d)))
    go (suc q) e = omega (arith, ints)
quotient_positive (pos y) (negsuc d) y_in d_in divides = absurd (omega (arith, ints))
quotient_positive (negsuc y) d y_in d_in divides = absurd (omega (arith, ints))

pub product_positive : (x y : ℤ) → pos 0 <ℤ x → pos 0 <ℤ y → pos 0 <ℤ (x *ℤ y)
product_positive (pos zero) y x_in y_in = absurd (omega (arith, ints))
product_positive (pos (suc x)) (pos zero) x_in y_in = absurd (omega (arith, ints))
product_positive (pos (suc x)) (pos (suc y)) x_in y_in = omega (arith, ints)
product_positive (pos (suc x)) (negsuc y) x_in y_in = absurd (omega (arith, ints))
product_positive (negsuc x) y x_in y_in = absurd (omega (arith, ints))

pub lcm_of-positive : (x y : ℤ) → pos 0 <ℤ x → pos 0 <ℤ y → pos 0 <ℤ lcm_of x y
lcm_of-positive x y x_in y_in = product_positive x (int_div y (gcd_of x y)) x_in (quotient_positive y (gcd_of x y) y_in (gcd_of-positive x y x_in) (gcd_of-IsGcd x y).1)

-- the common divisor of numbers divides the first one and each other
pub content-first : (d : ℤ) (cs : List ℤ) → unsigned_abs (fold gcd_of d cs) ∣ unsigned_abs d
content-first d [] = dvd_refl (unsigned_abs d)
content-first d (c ∷ cs) = dvd_trans (unsigned_abs (fold gcd_of (gcd_of d c) cs)) (content-first (gcd_of d c) cs) (gcd_of-IsGcd d c).0

pub content-each : (d : ℤ) (cs : List ℤ) → AllByRecursion (λ c. unsigned_abs (fold gcd_of d cs) ∣ unsigned_abs c) cs
content-each d [] = tt
content-each d (c ∷ cs) = (dvd_trans (unsigned_abs (fold gcd_of (gcd_of d c) cs)) (content-first (gcd_of d c) cs) (gcd_of-IsGcd d c).1, content-each (gcd_of d c) cs)

pub content-positive : (d : ℤ) (cs : List ℤ) → pos 0 <ℤ d → pos 0 <ℤ fold gcd_of d cs
content-positive d [] h = h
content-positive d (c ∷ cs) h = content-positive (gcd_of d c) cs (gcd_of-positive d c h)

-- a least common multiple is a multiple of both, and that of several integers one of each
lcm_of-left : (x y : ℤ) → unsigned_abs x ∣ unsigned_abs (lcm_of x y)
lcm_of-left x y =
    let q = int_div y (gcd_of x y) in
    subst (λ n. unsigned_abs x ∣ n) (sym (unsigned_abs-mul x q)) (dvd-mul_right (unsigned_abs x) (unsigned_abs q))

divisor_times : (x y : ℤ) → unsigned_abs (gcd_of x y) * unsigned_abs (int_div y (gcd_of x y)) ≡ unsigned_abs y
divisor_times x y =
    let g = gcd_of x y in
    sym (unsigned_abs-mul g (int_div y g)) ∙ ap unsigned_abs (quotient_times y g (gcd_of-IsGcd x y).1)

lcm_of-right : (x y : ℤ) → unsigned_abs y ∣ unsigned_abs (lcm_of x y)
lcm_of-right x y =
    let g = gcd_of x y in
    let q = int_div y g in
    subst₂ (λ m n. m ∣ n) (divisor_times x y) (sym (unsigned_abs-mul x q)) (mul-dvd-mul_right (unsigned_abs g) (gcd_of-IsGcd x y).0 (unsigned_abs q))

-- and it divides each multiple of both: times the greatest common divisor it is their product
lcm_of-times : (x y : ℤ) → unsigned_abs (lcm_of x y) * unsigned_abs (gcd_of x y) ≡ unsigned_abs x * unsigned_abs y
lcm_of-times x y =
    let g = unsigned_abs (gcd_of x y) in
    let q = unsigned_abs (int_div y (gcd_of x y)) in
    ap (λ n. n * g) (unsigned_abs-mul x (int_div y (gcd_of x y)))
    ∙ mul_assoc (unsigned_abs x) q g
    ∙ ap (λ n. unsigned_abs x * n) (mul_comm q g ∙ divisor_times x y)

lcm_of-least : (x y : ℤ) (m : ℕ) → unsigned_abs x ∣ m → unsigned_abs y ∣ m → unsigned_abs (lcm_of x y) ∣ m
lcm_of-least x y m of_x of_y = go (unsigned_abs (gcd_of x y)) refl
  where
    behind_x : unsigned_abs x * unsigned_abs y ∣ m * unsigned_abs x
    behind_x = subst (λ n. n ∣ m * unsigned_abs x) (mul_comm (unsigned_abs y) (unsigned_abs x)) (mul-dvd-mul_right (unsigned_abs y) of_y (unsigned_abs x))

    product : unsigned_abs (lcm_of x y) * unsigned_abs (gcd_of x y) ∣ m * unsigned_abs (gcd_of x y)
    product =
        subst (λ n. n ∣ m * unsigned_abs (gcd_of x y)) (sym (lcm_of-times x y))
        (gcd_of-scaled x y m (unsigned_abs x * unsigned_abs y) behind_x (mul-dvd-mul_right (unsigned_abs x) of_x (unsigned_abs y)))

    go : (g : ℕ) → g ≡ unsigned_abs (gcd_of x y) → unsigned_abs (lcm_of x y) ∣ m
    go zero none =
        let x_none : unsigned_abs x ≡ zero = eq-zero_of_zero-dvd (subst (λ n. n ∣ unsigned_abs x) (sym none) (gcd_of-IsGcd x y).0) in
        let m_none : m ≡ zero = eq-zero_of_zero-dvd (subst (λ n. n ∣ m) x_none of_x) in
        subst (λ n. unsigned_abs (lcm_of x y) ∣ n) (sym m_none) (dvd-zero (unsigned_abs (lcm_of x y)))
    go (suc g) some =
        let above : zero < unsigned_abs (gcd_of x y) = omega (arith, some) in
        dvd_of_mul-dvd-mul_right (unsigned_abs (lcm_of x y)) above product

common_multiple-first : (x : ℤ) (ys : List ℤ) → unsigned_abs x ∣ unsigned_abs (common_multiple x ys)
common_multiple-first x [] = dvd_refl (unsigned_abs x)
common_multiple-first x (y ∷ ys) = dvd_trans (unsigned_abs x) (lcm_of-left x y) (common_multiple-first (lcm_of x y) ys)

pub common_multiple-each : (x : ℤ) (ys : List ℤ) → All (λ y. unsigned_abs y ∣ unsigned_abs (common_multiple x ys)) ys
common_multiple-each x [] = All-nil (λ z. unsigned_abs z ∣ unsigned_abs x)
common_multiple-each x (y ∷ ys) =
    All-cons (λ z. unsigned_abs z ∣ unsigned_abs (common_multiple x (y ∷ ys))) y ys (dvd_trans (unsigned_abs y) (lcm_of-right x y) (common_multiple-first (lcm_of x y) ys)) (common_multiple-each (lcm_of x y) ys)

pub common_multiple-positive : (x : ℤ) (ys : List ℤ) → pos 0 <ℤ x → All (λ y. pos 0 <ℤ y) ys → pos 0 <ℤ common_multiple x ys
common_multiple-positive x [] h each = h
common_multiple-positive x (y ∷ ys) h each = common_multiple-positive (lcm_of x y) ys (lcm_of-positive x y h (All-head (λ z. pos 0 <ℤ z) y ys each)) (All-tail (λ z. pos 0 <ℤ z) y ys each)

common_multiple-least : (x : ℤ) (ys : List ℤ) (m : ℕ) → unsigned_abs x ∣ m → All (λ y. unsigned_abs y ∣ m) ys
    → unsigned_abs (common_multiple x ys) ∣ m
common_multiple-least x [] m of_x each = of_x
common_multiple-least x (y ∷ ys) m of_x each = common_multiple-least (lcm_of x y) ys m (lcm_of-least x y m of_x (All-head (λ z. unsigned_abs z ∣ m) y ys each)) (All-tail (λ z. unsigned_abs z ∣ m) y ys each)

pub multiples_are_least : MultiplesAreLeast
multiples_are_least x ys = record {
  each = All-cons (λ z. unsigned_abs z ∣ unsigned_abs (common_multiple x ys)) x ys (common_multiple-first x ys) (common_multiple-each x ys);
  least = λ m divides. common_multiple-least x ys m (All-head (λ z. unsigned_abs z ∣ m) x ys divides) (All-tail (λ z. unsigned_abs z ∣ m) x ys divides);
  positive = λ above. common_multiple-positive x ys (All-head (λ z. pos 0 <ℤ z) x ys above) (All-tail (λ z. pos 0 <ℤ z) x ys above);
}
