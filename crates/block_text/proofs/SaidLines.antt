-- Lines whose tokens say a value: what was read of one, what was wrong with one, and one that is read but for a bound.
use Rattle.block_text.proofs.Prelude.{◌≡◌, ◌≤◌, ◌⊎◌, ℕ, true, List, [], ◌∷◌, Option, Some, Ok, Err, IsTrue, arith, refl, nat_le, inl, inr, digits_value, nat_tests, cond_some, Flaw, BadLine, NumberTooLarge, asked, is_number, number_within, Line, said, number_behind, number_of}
use Rattle.block_text.proofs.LineTrees.{number_is}
use Rattle.block_text.proofs.Meets.{Meets, asked_meets}
use Rattle.block_text.proofs.Results.{bind_ok, bind_err, asked_ok, asked_err}

module _ {T A : Type 0} (tokens : Line → Option T) (value : T → Option A) where
  pub said_ok : (flaw : Flaw) (line : Line) (x : A) → said tokens value flaw line ≡ Ok x → (t : T) × (tokens line ≡ Some t) × (value t ≡ Some x)
  said_ok flaw line x read =
      bind_ok (asked BadLine (tokens line)) _ x read (λ t t_is known. (t, asked_ok BadLine (tokens line) t t_is, asked_ok flaw (value t) x known))

  pub said_err : (flaw : Flaw) (line : Line) (told : Flaw) → said tokens value flaw line ≡ Err told → (told ≡ BadLine) ⊎ ((t : T) × (tokens line ≡ Some t) × (told ≡ flaw))
  said_err flaw line told read =
      bind_err (asked BadLine (tokens line)) _ told read (λ e. inl (asked_err BadLine (tokens line) told e))
      (λ t t_is none. inr (t, asked_ok BadLine (tokens line) t t_is, asked_err flaw (value t) told none))

  -- the value is there where the bound is kept
  pub said_meets : {Bound : Type 0} {flaw_of : Bound → Flaw} (K : Bound → Type 0) (b : Bound) (line : Line) (t : T) → tokens line ≡ Some t → (K b → (x : A) × (value t ≡ Some x))
      → Meets flaw_of K (λ x. value t ≡ Some x) (said tokens value (flaw_of b) line)
  said_meets K b line t is there = rw is (asked_meets K b (value t) there)

-- a number that is read has its value, which is within the limit
pub within_limit : (limit : ℕ) (digits : List ℕ) (n : ℕ) → number_within limit digits ≡ Some n → (digits_value 10 digits ≡ n) × (digits_value 10 digits ≤ limit)
within_limit limit digits n read =
    let found = cond_some (nat_le (digits_value 10 digits) limit) (digits_value 10 digits) n read in
    (found.1, grind (arith, nat_tests, found.0))

-- a number within the limit is read
pub number_found : (limit : ℕ) (digits : List ℕ) → digits_value 10 digits ≤ limit → (n : ℕ) × (number_within limit digits ≡ Some n)
number_found limit digits within =
    let small : nat_le (digits_value 10 digits) limit ≡ true = grind (arith, nat_tests, within) in
    (digits_value 10 digits, rw small refl)

-- the line is these
pub record IsNumberLine (word : List ℕ) (line : Line) : Type 0 where
  pub digits : List ℕ
  pub is : line ≡ word ∷ digits ∷ []
  pub number : IsTrue (is_number digits)

module _ {A : Type 0} (word : List ℕ) (value : List ℕ → Option A) (line : Line) where
  -- what was read of it
  pub number_said : (x : A) → said (number_behind word) value NumberTooLarge line ≡ Ok x → (there : IsNumberLine word line) × (value there.digits ≡ Some x)
  number_said x read =
      let found = said_ok (number_behind word) value NumberTooLarge line x read in
      let known = number_is word line found.0 found.1 in
      (record { digits = found.0; is = known.0; number = known.1 }, found.2)

  -- what was wrong with it: it is no such line, or its number is too large
  pub number_unsaid : (told : Flaw) → said (number_behind word) value NumberTooLarge line ≡ Err told → (told ≡ BadLine) ⊎ ((told ≡ NumberTooLarge) × IsNumberLine word line)
  number_unsaid told read = by_cases (said_err (number_behind word) value NumberTooLarge line told read)
    where
      by_cases : (told ≡ BadLine) ⊎ ((digits : List ℕ) × (number_behind word line ≡ Some digits) × (told ≡ NumberTooLarge)) → (told ≡ BadLine) ⊎ ((told ≡ NumberTooLarge) × IsNumberLine word line)
      by_cases (inl bad) = inl bad
      by_cases (inr found) = let known = number_is word line found.0 found.1 in inr (found.2, record { digits = found.0; is = known.0; number = known.1 })

-- a number within a limit that was read
pub record IsNumberRead (word : List ℕ) (most : ℕ) (line : Line) (n : ℕ) : Type 0 where
  pub there : IsNumberLine word line
  pub value : digits_value 10 there.digits ≡ n
  pub within : digits_value 10 there.digits ≤ most

pub number_read : (word : List ℕ) (most : ℕ) (line : Line) (n : ℕ) → number_of word most line ≡ Ok n → IsNumberRead word most line n
number_read word most line n read =
    let found = number_said word (number_within most) line n read in
    let value = within_limit most found.0.digits n found.1 in
    record { there = found.0; value = value.0; within = value.1 }
