-- Sums modulo m that are taken term by term.
use Rattle.model_candidates.proofs.Prelude.{◌≡◌, ℕ, zero, suc, ◌+◌, ◌-◌, ◌*◌, ◌/◌, ◌%◌, ◌<◌, ◌++◌, ◌∷◌, [], cond, nat_eq, List, length, get_or, set, map, take, ◌⊎◌, inl, inr, refl, sym, ap, ap₂, ◌∙◌, arith, mod-lt, mul-zero, zero-mul, eq-eqb, ne_eqb, All, sum_by, range_with_len, mod-mod, mod-eq_of_lt, cases_eq, div-mul-add, mod-mul-add, mul-mod_first, get_or-set_same, get_or-set_other, take_more, All-get_or, fill_by_all, length-map-range_with_len, sum_by_push, Matrix, entry_at, total, IsEquation, total_zero, add_alike, SolvedTerm, line_factor, place_factor, term_factor, terms_factor, row_with}
use Rattle.model_candidates.proofs.Ranges.{all_of_range}

-- Numbers below m, so many, that are what the unknowns add in these terms.
pub record AreSums (m n : ℕ) (ts : List SolvedTerm) (i j : ℕ) (factors : List ℕ) : Type 0 where
  pub size : length factors ≡ n
  pub below : All (λ factor. factor < m) factors
  pub each : (k : ℕ) → k < n → get_or factors k 0 % m ≡ terms_factor ts i j k % m

-- a product is added where the unknown is
product_added : (m c x y f start sum : ℕ) → f % m ≡ (start + c * sum) % m
    → ((f + (c * x) % m * y) % m) % m ≡ (start + c * (sum + 1 * (x * y))) % m
product_added m c x y f start sum so_far =
    let more : (start + c * sum) + (c * x) * y ≡ start + c * (sum + 1 * (x * y)) = grind arith in
    mod-mod (f + (c * x) % m * y) m
    ∙ add_alike m f (start + c * sum) ((c * x) % m * y) ((c * x) * y) so_far (mul-mod_first (c * x) y m)
    ∙ ap (λ z. z % m) more

total_more : (n : ℕ) (f : ℕ → ℕ) → total (n + 1) f ≡ total n f + f n
total_more n f =
    let next : n + 1 ≡ suc n = omega arith in
    ap (λ k. total k f) next

-- sums over rows
pub total_split : (a b : ℕ) (f : ℕ → ℕ) → total (a + b) f ≡ total a f + total b (λ k. f (a + k))
total_split a zero f =
    let none : a + 0 ≡ a = omega arith in
    let same : total a f ≡ total a f + 0 = omega arith in
    ap (λ n. total n f) none ∙ same
total_split a (suc b) f =
    let next : a + suc b ≡ suc (a + b) = omega arith in
    let sum : total a f + total b (λ k. f (a + k)) + f (a + b) ≡ total a f + (total b (λ k. f (a + k)) + f (a + b)) = omega arith in
    ap (λ n. total n f) next ∙ ap (λ x. x + f (a + b)) (total_split a b f) ∙ sum

-- a place with nothing behind it adds nothing
pub place_skipped : (t : SolvedTerm) (i j inner : ℕ) {other : ℕ} (k : ℕ) → entry_at t.right other j ≡ 0 → other < t.right.rows
    → line_factor t i j k inner other ≡ line_factor t i j k inner (other + 1)
place_skipped t i j inner {other} k none in_width =
    let place = inner * t.right.rows + other in
    let beside : entry_at t.left i (place / t.right.rows) * entry_at t.right (place % t.right.rows) j ≡ 0 =
    ap (λ y. entry_at t.left i (place / t.right.rows) * entry_at t.right y j) (mod-mul-add inner t.right.rows other in_width)
    ∙ ap (λ y. entry_at t.left i (place / t.right.rows) * y) none ∙ mul-zero _ in
    let nothing : place_factor t i j k place ≡ 0 =
    ap (λ y. cond (nat_eq (get_or t.numbers place 0) k) 1 0 * y) beside ∙ mul-zero _ in
    omega (arith, nothing) ∙ sym (total_more other (λ l. place_factor t i j k (inner * t.right.rows + l)))

-- the factors after one place more of a row
module _ (m : ℕ) (t : SolvedTerm) (i j inner : ℕ) (start factors : List ℕ) (other number times before behind : ℕ)
    (number_is : get_or t.numbers (inner * t.right.rows + other) 0 ≡ number) (times_is : times ≡ (t.coefficient * before) % m)
    (before_is : before ≡ entry_at t.left i inner)
    (behind_is : behind ≡ entry_at t.right other j) (in_width : other < t.right.rows) (within : number < length factors)
    (so_far : (k : ℕ) → k < length start
    → get_or factors k 0 % m ≡ (get_or start k 0 + t.coefficient * line_factor t i j k inner other) % m) where
  abbrev value : ℕ
  value = (get_or factors number 0 + times * behind) % m

  abbrev place : ℕ
  place = inner * t.right.rows + other

  abbrev beside : ℕ
  beside = entry_at t.left i (place / t.right.rows) * entry_at t.right (place % t.right.rows) j

  beside_is : beside ≡ before * behind
  beside_is =
      ap₂ (λ x y. entry_at t.left i x * entry_at t.right y j) (div-mul-add inner t.right.rows other in_width) (mod-mul-add inner t.right.rows other in_width)
      ∙ ap₂ ◌*◌ (sym before_is) (sym behind_is)

  pub place_added : (k : ℕ) → k < length start
      → get_or (set factors number value) k 0 % m ≡ (get_or start k 0 + t.coefficient * line_factor t i j k inner (other + 1)) % m
  place_added k inside =
      go (cases_eq number k) ∙ ap (λ x. (get_or start k 0 + t.coefficient * x) % m)
      (sym (total_more other (λ l. place_factor t i j k (inner * t.right.rows + l))))
    where
      sum : ℕ
      sum = line_factor t i j k inner other

      go : (number ≡ k) ⊎ (number ≡ k → ⊥)
          → get_or (set factors number value) k 0 % m ≡ (get_or start k 0 + t.coefficient * (sum + place_factor t i j k place)) % m
      go (inl same) =
          let one : place_factor t i j k place ≡ 1 * (before * behind) =
          ap₂ (λ b x. cond b 1 0 * x) (ap (λ x. nat_eq x k) number_is ∙ eq-eqb number k same) beside_is in
          let here : get_or (set factors number value) k 0 ≡ value =
          ap (λ x. get_or (set factors number value) x 0) (sym same) ∙ get_or-set_same factors number value 0 within in
          let old : get_or factors number 0 % m ≡ (get_or start k 0 + t.coefficient * sum) % m =
          ap (λ x. get_or factors x 0 % m) same ∙ so_far k inside in
          ap (λ x. x % m) (here ∙ ap (λ x. (get_or factors number 0 + x * behind) % m) times_is)
          ∙ product_added m t.coefficient before behind (get_or factors number 0) (get_or start k 0) sum old
          ∙ ap (λ x. (get_or start k 0 + t.coefficient * (sum + x)) % m) (sym one)
      go (inr other_number) =
          let none : place_factor t i j k place ≡ 0 * beside =
          ap (λ b. cond b 1 0 * beside) (ap (λ x. nat_eq x k) number_is ∙ ne_eqb number k other_number) in
          ap (λ x. x % m) (get_or-set_other factors number k value 0 (λ same. other_number (sym same)))
          ∙ so_far k inside ∙ ap (λ x. x % m) (grind arith)
          ∙ ap (λ x. (get_or start k 0 + t.coefficient * (sum + x)) % m) (sym none)

-- a row behind an entry that is 0
pub line_nothing : (t : SolvedTerm) (i j k inner : ℕ) → entry_at t.left i inner ≡ 0 → line_factor t i j k inner t.right.rows ≡ 0
line_nothing t i j k inner none =
    total_zero t.right.rows (λ other. place_factor t i j k (inner * t.right.rows + other)) (λ other in_width.
    let place = inner * t.right.rows + other in
    let here : entry_at t.left i (place / t.right.rows) ≡ 0 =
    ap (entry_at t.left i) (div-mul-add inner t.right.rows other in_width) ∙ none in
    ap (λ x. cond (nat_eq (get_or t.numbers place 0) k) 1 0 * (x * entry_at t.right (place % t.right.rows) j)) here
    ∙ ap (λ x. cond (nat_eq (get_or t.numbers place 0) k) 1 0 * x) (zero-mul (entry_at t.right (place % t.right.rows) j)) ∙ mul-zero (cond (nat_eq (get_or t.numbers place 0) k) 1 0))

-- the factors after one row more
pub line_added : (m : ℕ) (t : SolvedTerm) (i j k inner old new start : ℕ)
    → old % m ≡ (start + t.coefficient * total (inner * t.right.rows) (place_factor t i j k)) % m
    → new % m ≡ (old + t.coefficient * line_factor t i j k inner t.right.rows) % m
    → new % m ≡ (start + t.coefficient * total ((inner + 1) * t.right.rows) (place_factor t i j k)) % m
line_added m t i j k inner old new start so_far added =
    let width = t.right.rows in
    let sum = total (inner * width) (place_factor t i j k) in
    let line = line_factor t i j k inner width in
    let next : (inner + 1) * width ≡ inner * width + width = grind arith in
    let both : (start + t.coefficient * sum) + t.coefficient * line ≡ start + t.coefficient * (sum + line) = grind arith in
    added ∙ add_alike m old (start + t.coefficient * sum) (t.coefficient * line) (t.coefficient * line) so_far refl
    ∙ ap (λ x. x % m) (both ∙ ap (λ x. start + t.coefficient * x)
    (sym (ap (λ n. total n (place_factor t i j k)) next ∙ total_split (inner * width) width (place_factor t i j k))))

-- the sum with one term more
pub term_added : (m i j k old new : ℕ) {index : ℕ} (ts : List SolvedTerm) {t : SolvedTerm} → index < length ts → t ≡ get_or ts index t
    → new % m ≡ (old + term_factor t i j k) % m → old % m ≡ terms_factor (take index ts) i j k % m
    → new % m ≡ terms_factor (take (index + 1) ts) i j k % m
term_added m i j k old new {index} ts {t} inside is added so_far =
    let f : SolvedTerm → ℕ = λ x. term_factor x i j k in
    added ∙ add_alike m old (sum_by f (take index ts)) (f t) (f t) so_far refl
    ∙ ap (λ x. x % m) (sym (sum_by_push f (take index ts) t) ∙ ap (λ x. sum_by f (take index ts ++ x ∷ [])) is
    ∙ ap (sum_by f) (sym (take_more ts index t inside)))

-- a list of residues
pub residues : {m n : ℕ} (f : ℕ → ℕ) {xs : List ℕ} → length xs ≡ n → All (λ x. x < m) xs → ((k : ℕ) → k < n → get_or xs k 0 % m ≡ f k % m)
    → xs ≡ map (λ k. f k % m) (range_with_len 0 n)
residues {m} {n} f {xs} size below each = fill_by_all (λ k. f k % m) xs n 0 size (λ k within.
    sym (mod-eq_of_lt (All-get_or (λ x. x < m) xs k 0 (omega (arith, within, size)) below)) ∙ each k within)

-- the row of an entry is one of an equation
pub row_is_equation : (n : ℕ) (value : Matrix) (ts : List SolvedTerm) (place : ℕ) → 0 < value.modulus
    → IsEquation value.modulus n (row_with n value ts place)
row_is_equation n value ts place positive =
    let i = place / value.columns in
    let j = place % value.columns in
    let f : ℕ → ℕ = λ k. terms_factor ts i j k % value.modulus in record {
      one_each = length-map-range_with_len f 0 n;
      factors_below = all_of_range (λ factor. factor < value.modulus) f n (λ k inside. mod-lt (terms_factor ts i j k) positive);
      right_below = mod-lt (value.modulus - entry_at value i j) positive;
    }
