-- Sums that are kept below the square of m.
use Rattle.matrix_models.proofs.Prelude.{◌≡◌, ℕ, suc, ◌+◌, ◌-◌, ◌*◌, ◌%◌, ◌≤◌, sym, ap, ◌∙◌, arith, add-mul-mod_self_right, total}
use Rattle.matrix_models.proofs.Congruences.{add_alike}

-- up to a multiple of m
pub total-next : (m n : ℕ) (f : ℕ → ℕ) (sum x next : ℕ) → sum % m ≡ total n f % m → x ≡ f n → next % m ≡ (sum + x) % m
    → next % m ≡ total (n + 1) f % m
total-next m n f sum x next sum_is last next_is =
    let more : suc n ≡ n + 1 = omega arith in
    next_is ∙ add_alike m sum (total n f) x (f n) sum_is (ap (λ y. y % m) last) ∙ ap (λ k. total k f % m) more

-- less the square of m
pub less_square : (m x : ℕ) → m * m ≤ x → (x - m * m) % m ≡ x % m
less_square m x reached =
    let whole : x - m * m + m * m ≡ x = omega (arith, reached) in
    sym (add-mul-mod_self_right (x - m * m) m m) ∙ ap (λ y. y % m) whole
