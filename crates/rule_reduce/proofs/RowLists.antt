-- Rows, or numbers, that are written over one after another.
use Rattle.rule_reduce.proofs.Prelude.{◌≡◌, ◌<◌, ◌≤◌, ℕ, ◌+◌, ◌-◌, ℤ, ◌*ℤ◌, List, ◌∷◌, ◌++◌, length, map, take, drop, set, get_or, Some, sym, ap, ◌∙◌, arith, drop_more, get_or-append_right, get_or-drop, length-append, length-drop, length-map, length-take, length-take-le, map_over_more, IsCoefficient, product_of, first_overflow, first-fits, first-fails}

-- one row more is written over
pub written_more : {A : Type 0} (f : A → A) (xs ys : List A) (i : ℕ) (row written : A) → i < length xs → ys ≡ map f (take i xs) ++ drop i xs → row ≡ get_or ys i row → written ≡ f row
    → set ys i written ≡ map f (take (i + 1) xs) ++ drop (i + 1) xs
written_more f xs ys i row written below so_far is same = ap (set ys i) same ∙ map_over_more f xs ys i row below so_far is

-- the row that is written over is the one that stood there at first
pub still_there : {A : Type 0} (f : A → A) (xs ys : List A) (i : ℕ) (row : A) → i < length xs → ys ≡ map f (take i xs) ++ drop i xs → row ≡ get_or ys i row → row ≡ get_or xs i row
still_there f xs ys i row below so_far is =
    let front : length (map f (take i xs)) ≡ i = length-map (take i xs) f ∙ length-take-le i xs (omega arith) in
    let no_more : i + (i - i) ≡ i = omega arith in
    is ∙ ap (λ zs. get_or zs i row) so_far ∙ get_or-append_right (map f (take i xs)) (drop i xs) i i row front (omega arith)
    ∙ get_or-drop i xs (i - i) row ∙ ap (λ n. get_or xs n row) no_more

-- all rows are written over
pub all_written : {A : Type 0} (f : A → A) (xs ys : List A) (i : ℕ) → ys ≡ map f (take i xs) ++ drop i xs → length ys ≤ i → length xs ≤ i
all_written f xs ys i so_far most = omega (arith, most, ap length so_far ∙ length-append (map f (take i xs)) (drop i xs), length-map (take i xs) f, length-take i xs, length-drop i xs)

-- no product before it overflows, nor its own
pub none_before : {A : Type 0} (number : A → ℤ) (xs : List A) (i : ℕ) (row : A) (by : ℤ) → i < length xs → row ≡ get_or xs i row → IsCoefficient (number row *ℤ by)
    → first_overflow (map (λ x. product_of (number x) by) (drop i xs)) ≡ first_overflow (map (λ x. product_of (number x) by) (drop (i + 1) xs))
none_before number xs i row by below is fits =
    ap (λ rows. first_overflow (map (λ x. product_of (number x) by) rows)) (drop_more xs i row below ∙ ap (λ r. r ∷ drop (i + 1) xs) (sym is))
    ∙ first-fits (product_of (number row) by) (map (λ x. product_of (number x) by) (drop (i + 1) xs)) fits

-- the product of a row that is no coefficient is the first from it on
pub overflow_at : {A : Type 0} (number : A → ℤ) (xs : List A) (i : ℕ) (row : A) (by : ℤ) → i < length xs → row ≡ get_or xs i row → (IsCoefficient (number row *ℤ by) → ⊥)
    → first_overflow (map (λ x. product_of (number x) by) (drop i xs)) ≡ Some (product_of (number row) by)
overflow_at number xs i row by below is too_large =
    ap (λ rows. first_overflow (map (λ x. product_of (number x) by) rows)) (drop_more xs i row below ∙ ap (λ r. r ∷ drop (i + 1) xs) (sym is))
    ∙ first-fails (product_of (number row) by) (map (λ x. product_of (number x) by) (drop (i + 1) xs)) too_large
