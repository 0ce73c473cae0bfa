-- Sums and products of numbers that are congruent modulo m.
use Rattle.matrix_models.proofs.Prelude.{◌≡◌, ℕ, ◌+◌, ◌-◌, ◌*◌, ◌/◌, ◌%◌, ◌<◌, sym, ap, ap₂, ◌∙◌, arith, mod-lt, div-add-mod', mul_comm, mul_assoc, add-mul, one-mul, add-mul-mod_self_right, add-mod-mod, mul-mod_second, add_mod}

pub add_alike : (m a b c d : ℕ) → a % m ≡ b % m → c % m ≡ d % m → (a + c) % m ≡ (b + d) % m
add_alike m a b c d first second = sym (add_mod m a c) ∙ ap₂ (λ x y. (x + y) % m) first second ∙ add_mod m b d

pub mul_alike : (m t a b : ℕ) → a % m ≡ b % m → (t * a) % m ≡ (t * b) % m
mul_alike m t a b same = sym (mul-mod_second t a m) ∙ ap (λ x. (t * x) % m) same ∙ mul-mod_second t b m

-- what brings c to a multiple of m
pub complete : (m a c : ℕ) → 0 < m → (a + c + (m - c % m)) % m ≡ a % m
complete m a c positive =
    let whole = div-add-mod' c m in
    let below : c % m < m = mod-lt c positive in
    let multiple : (c / m + 1) * m ≡ c / m * m + m = add-mul (c / m) 1 m ∙ ap (λ x. c / m * m + x) (one-mul m) in
    let sum : a + c + (m - c % m) ≡ a + (c / m + 1) * m = omega (arith, whole, below, multiple) in
    ap (λ x. x % m) sum ∙ add-mul-mod_self_right a (c / m + 1) m

pub add_cancel : (m a b c d : ℕ) → 0 < m → (a + c) % m ≡ (b + d) % m → c % m ≡ d % m → a % m ≡ b % m
add_cancel m a b c d positive sums second =
    sym (complete m a c positive)
    ∙ add_alike m (a + c) (b + d) (m - c % m) (m - d % m) sums (ap (λ x. (m - x) % m) second)
    ∙ complete m b d positive

-- a factor that has an inverse
undone : (m a u f : ℕ) → (f * u) % m ≡ 1 → (f * (a * u)) % m ≡ a % m
undone m a u f inverse =
    let turned : f * (a * u) ≡ a * (f * u) = sym (mul_assoc f a u) ∙ ap (λ x. x * u) (mul_comm f a) ∙ mul_assoc a f u in
    ap (λ x. x % m) turned ∙ sym (mul-mod_second a (f * u) m) ∙ ap (λ x. (a * x) % m) inverse ∙ ap (λ x. x % m) (mul_comm a 1 ∙ one-mul a)

pub mul_cancel : (m a b u f : ℕ) → (f * u) % m ≡ 1 → (a * u) % m ≡ (b * u) % m → a % m ≡ b % m
mul_cancel m a b u f inverse products = sym (undone m a u f inverse) ∙ mul_alike m f (a * u) (b * u) products ∙ undone m b u f inverse

-- what a sum leaves of a number
pub left_over : (m a b : ℕ) → 0 < m → (a + (b + m - a % m) % m) % m ≡ b % m
left_over m a b positive =
    let small : a % m < m = mod-lt a positive in
    let turned : a + (b + m - a % m) ≡ b + a + (m - a % m) = omega (arith, small) in
    add-mod-mod a (b + m - a % m) m ∙ ap (λ x. x % m) turned ∙ complete m b a positive
