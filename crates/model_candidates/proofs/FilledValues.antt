-- What stands at a place of drawn values that values have been filled into: a drawn value, or one of these.
use Rattle.model_candidates.proofs.Prelude.{◌≡◌, ℕ, suc, ◌<◌, ◌≤◌, Bool, true, false, cond, eqb, List, [], ◌∷◌, length, get_or, refl, ap, ◌∙◌, arith, ne_eqb, All, All-nil, All-cons, All-head, All-tail, get_or-map-range_with_len, length-map-range_with_len, set_count, filled, unit_values}
use Rattle.model_candidates.proofs.Ranges.{all_of_range}
use Rattle.model_candidates.proofs.SolvedEntries.{AreChosen, before, before_within, filled_set}

-- as a list
pub length-filled : (flags : List Bool) (drawn values : List ℕ) → length drawn ≡ length flags
    → length (filled flags drawn values) ≡ length drawn
length-filled [] [] values same = refl
length-filled [] (d ∷ drawn) values same = absurd (omega (arith, same))
length-filled (flag ∷ flags) [] values same = refl
length-filled (false ∷ flags) (d ∷ drawn) values same = ap suc (length-filled flags drawn values (omega (arith, same)))
length-filled (true ∷ flags) (d ∷ drawn) [] same = ap suc (length-filled flags drawn [] (omega (arith, same)))
length-filled (true ∷ flags) (d ∷ drawn) (x ∷ values) same = ap suc (length-filled flags drawn values (omega (arith, same)))

pub All-filled : (P : ℕ → Type 0) (flags : List Bool) (drawn values : List ℕ) → All P drawn → All P values
    → All P (filled flags drawn values)
All-filled P [] drawn values of_drawn of_values = All-nil P
All-filled P (flag ∷ flags) [] values of_drawn of_values = All-nil P
All-filled P (false ∷ flags) (d ∷ drawn) values of_drawn of_values =
    All-cons P d (filled flags drawn values) (All-head P d drawn of_drawn)
    (All-filled P flags drawn values (All-tail P d drawn of_drawn) of_values)
All-filled P (true ∷ flags) (d ∷ drawn) [] of_drawn of_values =
    All-cons P d (filled flags drawn []) (All-head P d drawn of_drawn) (All-filled P flags drawn [] (All-tail P d drawn of_drawn) of_values)
All-filled P (true ∷ flags) (d ∷ drawn) (x ∷ values) of_drawn of_values =
    All-cons P x (filled flags drawn values) (All-head P x values of_values)
    (All-filled P flags drawn values (All-tail P d drawn of_drawn) (All-tail P x values of_values))

-- filled with the same values again it stays what it is
pub filled_again : (flags : List Bool) (drawn values : List ℕ) → filled flags drawn values ≡ filled flags (filled flags drawn values) values
filled_again [] drawn values = refl
filled_again (flag ∷ flags) [] values = refl
filled_again (false ∷ flags) (d ∷ drawn) values = ap (λ xs. d ∷ xs) (filled_again flags drawn values)
filled_again (true ∷ flags) (d ∷ drawn) [] = ap (λ xs. d ∷ xs) (filled_again flags drawn [])
filled_again (true ∷ flags) (d ∷ drawn) (x ∷ values) = ap (λ xs. x ∷ xs) (filled_again flags drawn values)

-- units
pub length-unit_values : (n k : ℕ) → length (unit_values n k) ≡ n
length-unit_values n k = length-map-range_with_len (λ j. cond (eqb j k) 1 0) 0 n

pub unit_at : {n : ℕ} (k : ℕ) {j : ℕ} → j < n → get_or (unit_values n k) j 0 ≡ cond (eqb j k) 1 0
unit_at {n} k {j} inside = get_or-map-range_with_len (λ j. cond (eqb j k) 1 0) 0 n j j 0 inside (omega arith)

pub unit_values_below : {m : ℕ} (n k : ℕ) → 2 ≤ m → All (λ value. value < m) (unit_values n k)
unit_values_below {m} n k least = all_of_range (λ value. value < m) (λ j. cond (eqb j k) 1 0) n (λ j within. one_or_none (eqb j k))
  where
    one_or_none : (b : Bool) → cond b 1 0 < m
    one_or_none true = omega (arith, least)
    one_or_none false = omega (arith, least)

-- where units are filled in of which none is 1, the values are 0
pub zeros_there : (flags : List Bool) (drawn : List ℕ) → length drawn ≡ length flags
    → AreChosen flags [] (filled flags drawn (unit_values (set_count flags) (set_count flags)))
zeros_there flags drawn same place inside set =
    let n = set_count flags in
    let within = before_within flags place inside set in
    filled_set flags drawn (unit_values n n) place same (length-unit_values n n) inside set ∙ unit_at n within
    ∙ ap (λ b. cond b 1 0) (ne_eqb (before flags place) n (λ is. omega (arith, is, within)))
