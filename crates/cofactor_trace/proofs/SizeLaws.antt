-- Counts that stop at the greatest number say which limit is exceeded.
use Rattle.cofactor_trace.proofs.Prelude.{sym, ◌<◌, ◌≡◌, ℕ, ◌+◌, ◌-◌, ◌^◌, ◌≤◌, ◌||◌, min, Bool, true, false, List, [], ◌∷◌, length, nat_lt, Option, Some, None, ap, ◌∙◌, arith, or-false, if◌then◌else◌, nat_tests, sum_by-cons, CertRow, Size, ExpandFault, has_long_word, limit_fault, measured, measured_all}
use Rattle.cofactor_trace.specs.declared.fault.ExpandFault.TheVariants as fault
use Rattle.cofactor_trace.specs.Expansion.{letter_count}
use Rattle.cofactor_trace.specs.Sizes.{limit_of}

-- no rows
abbrev pub no_size : Size
no_size = record { long = false; rows = 0; letters = 0 }

-- what is measured of rows, from any size on
long_is : (size : Size) (rows : List CertRow) → (measured_all size rows).long ≡ size.long || has_long_word rows
long_is size [] = sym (or-false size.long)
long_is size (r ∷ rows) = let rest = long_is (measured size r) rows in grind arith

rows_is : (size : Size) (rows : List CertRow) → size.rows ≤ 2 ^ 64 - 1 → (measured_all size rows).rows ≡ min (size.rows + length rows) (2 ^ 64 - 1)
rows_is size [] h = omega arith
rows_is size (r ∷ rows) h =
    let rest = rows_is (measured size r) rows (omega arith) in
    omega arith

letters_is : (size : Size) (rows : List CertRow) → size.letters ≤ 2 ^ 64 - 1 → (measured_all size rows).letters ≡ min (size.letters + letter_count rows) (2 ^ 64 - 1)
letters_is size [] h = omega arith
letters_is size (r ∷ rows) h =
    let rest = letters_is (measured size r) rows (omega arith) in
    let more : letter_count (r ∷ rows) ≡ (length r.left + length r.right) + letter_count rows = sum_by-cons (λ (x : CertRow). length x.left + length x.right) r rows in
    omega arith

-- the limits
limits : Bool → Bool → Bool → Option ExpandFault
limits long rows letters = if long then Some fault.Size else (if rows then Some (fault.Rows false) else (if letters then Some (fault.Rows true) else None))

pub below_cap : (limit n : ℕ) → limit < 2 ^ 64 - 1 → nat_lt limit (min (0 + n) (2 ^ 64 - 1)) ≡ nat_lt limit n
below_cap limit n h = grind (arith, nat_tests)

pub limit_of-measured : (rows : List CertRow) → limit_of (measured_all no_size rows) ≡ limit_fault rows
unfolding limits
limit_of-measured rows =
    let size = measured_all no_size rows in
    let a = long_is no_size rows in
    let b = ap (nat_lt 200000) (rows_is no_size rows (omega arith)) ∙ below_cap 200000 (length rows) (omega arith) in
    let c = ap (nat_lt 1000000) (letters_is no_size rows (omega arith)) ∙ below_cap 1000000 (letter_count rows) (omega arith) in
    λ i. limits (a i) (b i) (c i)
