-- What elimination keeps: a row is a list of factors with the right side behind them.
use Rattle.std.specs.Prelude.{◌≡◌, ◌↔◌, ℕ, ◌+◌, ◌-◌, ◌*◌, ◌%◌, ◌<◌, ◌≤◌, List, [], ◌∷◌, ◌++◌, take, length, get_or, Option, Some, None, All}
use Rattle.matrix_models.specs.Matrices.{total}
use Rattle.matrix_models.specs.declared.system.LinearRow.{LinearRow}

-- the equation of a row with n unknowns holds modulo m at these numbers
abbrev pub Meets : ℕ → ℕ → (ℕ → ℕ) → List ℕ → Type 0
Meets m n w row = total n (λ k. get_or row k 0 * w k) % m ≡ get_or row n 0 % m

-- the equation of each pivot does
abbrev pub MeetsAll : ℕ → ℕ → (ℕ → ℕ) → List (Option (List ℕ)) → Type 0
MeetsAll m n w pivots = (place : ℕ) (row : List ℕ) → get_or pivots place None ≡ Some row → Meets m n w row

-- The unknown at this place has the factor 1, and each one after it the factor 0.
pub record IsPivot (n place : ℕ) (row : List ℕ) : Type 0 where
  pub size : length row ≡ n + 1
  pub one : get_or row place 0 ≡ 1
  pub last : (k : ℕ) → place < k → k < n → get_or row k 0 ≡ 0

abbrev pub ArePivots : ℕ → List (Option (List ℕ)) → Type 0
ArePivots n pivots = (place : ℕ) (row : List ℕ) → get_or pivots place None ≡ Some row → IsPivot n place row

-- all factors and right sides of the pivots are below the modulus
abbrev pub AreSmall : ℕ → List (Option (List ℕ)) → Type 0
AreSmall m pivots = (place : ℕ) (row : List ℕ) → get_or pivots place None ≡ Some row → All (λ entry. entry < m) row

-- the unknown at this place has no pivot
pub record IsFree (pivots : List (Option (List ℕ))) (place : ℕ) : Type 0 where
  pub within : place < length pivots
  pub none : get_or pivots place None ≡ None

-- The unknown at this place is the last one whose factor isn't 0.
pub record HasLast (n : ℕ) (row : List ℕ) (place : ℕ) : Type 0 where
  pub within : place < n
  pub nonzero : 0 < get_or row place 0
  pub last : (k : ℕ) → place < k → k < n → get_or row k 0 ≡ 0

-- the first n factors are 0, which are all of them where there are n unknowns
abbrev pub HasNoFactor : ℕ → List ℕ → Type 0
HasNoFactor n row = (k : ℕ) → k < n → get_or row k 0 ≡ 0

-- The row lies in the unknowns from the first to the last one: of its n factors all others are 0.
pub record LiesIn (n first last : ℕ) (row : List ℕ) : Type 0 where
  pub order : first ≤ last
  pub before : HasNoFactor first row
  pub behind : (k : ℕ) → last < k → k < n → get_or row k 0 ≡ 0

-- There is a place for each unknown, and all factors of its pivot before that place are 0.
pub record AreFirsts (pivots : List (Option (List ℕ))) (firsts : List ℕ) : Type 0 where
  pub size : length firsts ≡ length pivots
  pub none_before : (place : ℕ) (row : List ℕ) → get_or pivots place None ≡ Some row → HasNoFactor (get_or firsts place 0) row

-- where the pivots hold, the two rows say the same
abbrev pub MeetsAlike : ℕ → ℕ → List (Option (List ℕ)) → List ℕ → List ℕ → Type 0
MeetsAlike m n pivots row other = (w : ℕ → ℕ) → MeetsAll m n w pivots → Meets m n w row ↔ Meets m n w other

-- the new pivots say what the old ones and the row do
abbrev pub IsAdded : ℕ → ℕ → List ℕ → List (Option (List ℕ)) → List (Option (List ℕ)) → Type 0
IsAdded m n row old new = (w : ℕ → ℕ) → (MeetsAll m n w old × Meets m n w row) ↔ MeetsAll m n w new

-- the row never holds where the pivots do
abbrev pub IsAgainst : ℕ → ℕ → List ℕ → List (Option (List ℕ)) → Type 0
IsAgainst m n row pivots = (w : ℕ → ℕ) → MeetsAll m n w pivots → ¬ Meets m n w row

-- the row of an equation
abbrev pub row_of : LinearRow → List ℕ
row_of equation = equation.factors ++ equation.right ∷ []

-- the equation of a row
abbrev pub equation_of : List ℕ → LinearRow
equation_of row = let n = length row - 1 in record { factors = take n row; right = get_or row n 0 }
