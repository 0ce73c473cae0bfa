-- Products with one term: the words stay in their order, so that each step puts its term after the sum so far.
use Rattle.nc_polynomial.proofs.Prelude.{lt-ltb, ◌≡◌, ◌≢◌, ℕ, ◌+◌, ◌<◌, ◌≤◌, pos, ◌+ℤ◌, ◌*ℤ◌, true, false, cond, ◌||◌, List, [], ◌∷◌, ◌++◌, length, get_or, map, None, Result, Ok, Err, sym, refl, ap, subst, ◌∙◌, arith, length-append, length-map, map-append, All-nil, All-cons, All-tail, All-push, All-map, +ℤ_idl, All, Greater, Overflow, IsCoefficient, product_of, sum_of, first_overflow, word_cmp, Term, coefficient_of, poly_between, coefficient_of-append, PolyFault, sum_result, Explains, checked, unless_overflow, sized, size_fault, and_then, product_step, product_from, product_result, IsShaped, IsCanonical, products, shifted, added, sums}
use Rattle.std.proofs.Common.{append-nil}
use Rattle.nc_polynomial.specs.declared.fault.PolyFault.TheVariants as fault
use Rattle.nc_polynomial.proofs.Around.{word_cmp-around}
use Rattle.nc_polynomial.proofs.Chains.{first-fits, first-fails}
use Rattle.nc_polynomial.proofs.Checked.{checked-fits, keep-nonzero}
use Rattle.nc_polynomial.proofs.Distinct.{none_listed, apart-before}
use Rattle.nc_polynomial.proofs.Kept.{product_nonzero}
use Rattle.nc_polynomial.proofs.Products.{step_adds, step_fails, canonical_sum}
use Rattle.nc_polynomial.proofs.RunningSums.{not_long, few_enough, sum_alone_sized}
use Rattle.nc_polynomial.proofs.Shapes.{Descends, IsBelow, IsInRange, IsNonzero, descends_one, over-front, all_middle, IsDescending-from_recursion, recursion_from_IsDescending}
use Rattle.nc_polynomial.proofs.TableSums.{first-sums_with, added_is}

-- one term on the left
and_no_more : (r : Result (List Term) PolyFault) → and_then r (λ next. Ok next) ≡ r
and_no_more (Ok p) = refl
and_no_more (Err e) = refl

-- the one step is the whole product, and nothing but its size is left to ask
pub one-left : (t : Term) (q v : List Term) → IsShaped v → product_step [] t q ≡ sum_result [] v → product_result (t ∷ []) q ≡ sized v
one-left t q v shaped step = and_no_more (product_step [] t q) ∙ step ∙ sum_alone_sized v shaped

pub one-left_fault : (t : Term) (q : List Term) (e : PolyFault) → Explains (product_step [] t q) e → Explains (product_result (t ∷ []) q) e
one-left_fault t q e why = subst (λ r. Explains r e) (sym (and_no_more (product_step [] t q))) why

-- all words of the list are above the word
abbrev pub AreOver : List ℕ → List Term → Type 0
AreOver w p = All (λ u. word_cmp u.1 w ≡ Greater) p

descending-push : (p : List Term) (m : Term) → Descends p → AreOver m.1 p → Descends (p ++ m ∷ [])
descending-push [] m d over = descends_one m
descending-push (t ∷ p) m d over = (All-push (IsBelow t.1) p m d.0 (over 0 t (omega arith)), descending-push p m d.1 (All-tail (λ (u : Term). word_cmp u.1 m.1 ≡ Greater) t p over))

short_one : (m : Term) → length m.1 ≤ 500 → All (λ t. length t.1 ≤ 500) (m ∷ [])
short_one m short = All-cons (λ (t : Term). length t.1 ≤ 500) m [] short (All-nil (λ (t : Term). length t.1 ≤ 500))

-- a term below all others goes to the end
module _ (sum : List Term) (m : Term) (canonical : IsCanonical sum) (fits : IsCoefficient m.0) (nonzero : m.0 ≢ pos 0) (short : length m.1 ≤ 500) (over : AreOver m.1 sum) (room : length sum < 20000) where
  down : Descends sum
  down = recursion_from_IsDescending sum canonical.shaped.descending

  down_more : Descends (sum ++ m ∷ [])
  down_more = descending-push sum m down over

  shaped_one : IsShaped (m ∷ [])
  shaped_one = record {
    descending = IsDescending-from_recursion (m ∷ []) (descends_one m);
    nonzero = All-cons IsNonzero m [] nonzero (All-nil IsNonzero);
    in_range = All-cons IsInRange m [] fits (All-nil IsInRange);
  }

  no_overflow : first_overflow (sums sum (m ∷ [])) ≡ None
  no_overflow =
      let none : coefficient_of sum m.1 ≡ pos 0 = none_listed m.1 sum (apart-before sum m [] down_more) in
      first-sums_with sum (m ∷ []) canonical.shaped.in_range down (descends_one m)
      ∙ first-fits (sum_of (coefficient_of sum m.1) m.0) [] (subst IsCoefficient (sym (ap (λ k. k +ℤ m.0) none ∙ +ℤ_idl m.0)) fits)

  whole : checked (sums sum (m ∷ [])) (added sum (m ∷ [])) ≡ Ok (sum ++ m ∷ [])
  whole =
      ap (λ o. unless_overflow o (Ok (added sum (m ∷ [])))) no_overflow
      ∙ ap Ok (added_is sum (m ∷ []) (sum ++ m ∷ []) down (descends_one m) down_more
      (All-push IsNonzero sum m canonical.shaped.nonzero nonzero) (coefficient_of-append sum (m ∷ [])))

  pub sum-behind : sum_result sum (m ∷ []) ≡ Ok (sum ++ m ∷ [])
  sum-behind =
      let count : length (sum ++ m ∷ []) ≡ length sum + 1 = length-append sum (m ∷ []) in
      few_enough sum (m ∷ []) (sum ++ m ∷ []) canonical.short (short_one m short) whole (omega (arith, count, room))

  pub canonical-behind : IsCanonical (sum ++ m ∷ [])
  canonical-behind = canonical_sum sum (m ∷ []) (sum ++ m ∷ []) canonical.shaped shaped_one sum-behind

-- a step that fails ends the product
pub from-step_fault : (sum : List Term) (t : Term) (more q : List Term) (e : PolyFault) → Explains (product_step sum t q) e → Explains (product_from sum (t ∷ more) q) e
from-step_fault sum t more q (fault.Memory m) why = tt
from-step_fault sum t more q _ why = ap (λ r. and_then r (λ next. product_from next more q)) why

abbrev pub behind : Term → Term → Term
behind y t = (t.0 *ℤ y.0, t.1 ++ y.1)

-- the product with it
abbrev pub times_term : Term → List Term → List Term
times_term y p = map (behind y) p

pub canonical_none : IsCanonical []
canonical_none = record {
  shaped = record { descending = λ i j x h k. absurd (omega arith); nonzero = λ i x h. absurd (omega arith); in_range = λ i x h. absurd (omega arith) };
  short = λ i x h. absurd (omega arith);
  few = omega arith;
}

module _ (y : Term) (nonzero : y.0 ≢ pos 0) where
  one_moved : (w : List ℕ) → poly_between w (y ∷ []) [] ≡ (y.0, w ++ y.1) ∷ []
  one_moved w = ap (λ v. (y.0, w ++ v) ∷ []) (append-nil y.1)

  sized_one : (m : Term) → length m.1 ≤ 500 → sized (m ∷ []) ≡ Ok (m ∷ [])
  sized_one m short = ap (λ b. cond b (Err (size_fault true)) (Ok (m ∷ []))) (not_long (m ∷ []) (short_one m short))

  pub long_word : (t : Term) → 500 < length t.1 + length y.1 → sized (poly_between t.1 (y ∷ []) []) ≡ Err (size_fault true)
  long_word t long =
      let count : length (t.1 ++ y.1) ≡ length t.1 + length y.1 = length-append t.1 y.1 in
      ap sized (one_moved t.1) ∙ ap (λ b. cond (b || false) (Err (size_fault true)) (Ok ((y.0, t.1 ++ y.1) ∷ []))) (lt-ltb 500 (length (t.1 ++ y.1)) (omega (arith, count, long)))

  short-behind : (t : Term) → length t.1 + length y.1 ≤ 500 → length (t.1 ++ y.1) ≤ 500
  short-behind t short =
      let count : length (t.1 ++ y.1) ≡ length t.1 + length y.1 = length-append t.1 y.1 in
      omega (arith, count, short)

  within-one : (w : List ℕ) → length (w ++ y.1) ≤ 500 → sized (poly_between w (y ∷ []) []) ≡ Ok (poly_between w (y ∷ []) [])
  within-one w short = subst (λ p. sized p ≡ Ok p) (sym (one_moved w)) (sized_one (y.0, w ++ y.1) short)

  -- a product that is no coefficient
  pub overflows-one : (sum : List Term) (t : Term) (o : Overflow) → IsShaped sum → length t.1 + length y.1 ≤ 500 → o ≡ product_of t.0 y.0 → ¬ IsCoefficient (t.0 *ℤ y.0) → product_step sum t (y ∷ []) ≡ Err (fault.Overflow o)
  overflows-one sum t o shaped short is over =
      step_fails sum t.0 t.1 (y ∷ []) (fault.Overflow o) shaped (within-one t.1 (short-behind t short))
      (ap (λ r. unless_overflow r (Ok (shifted t.0 t.1 (y ∷ []) []))) (first-fails (product_of t.0 y.0) [] over) ∙ ap (λ x. Err (fault.Overflow x)) (sym is))

  multiple-one : (t : Term) → t.0 ≢ pos 0 → IsCoefficient (t.0 *ℤ y.0) → checked (products t.0 (y ∷ [])) (shifted t.0 t.1 (y ∷ []) []) ≡ Ok (behind y t ∷ [])
  multiple-one t left fits =
      checked-fits (product_of t.0 y.0) [] (shifted t.0 t.1 (y ∷ []) []) fits
      ∙ ap Ok (keep-nonzero (t.0 *ℤ y.0) (t.1 ++ (y.1 ++ [])) [] (product_nonzero t.0 y.0 left nonzero) ∙ ap (λ v. (t.0 *ℤ y.0, t.1 ++ v) ∷ []) (append-nil y.1))

  over-behind : (t : Term) (front : List Term) → AreOver t.1 front → AreOver (t.1 ++ y.1) (times_term y front)
  over-behind t front h = All-map (λ (u : Term). word_cmp u.1 (t.1 ++ y.1) ≡ Greater) (behind y) front (λ i u lt. word_cmp-around [] (get_or front i u).1 t.1 y.1 ∙ h i u lt)

  -- one step
  module _ (front : List Term) (t : Term) (more : List Term) (sum : List Term) (left : IsCanonical (front ++ t ∷ more)) (made : sum ≡ times_term y front) (canonical : IsCanonical sum)
      (fits : IsCoefficient (t.0 *ℤ y.0)) (short : length t.1 + length y.1 ≤ 500) where
    nonzero_left : t.0 ≢ pos 0
    nonzero_left = all_middle IsNonzero front t more left.shaped.nonzero

    short_word : length (t.1 ++ y.1) ≤ 500
    short_word = short-behind t short

    over_sum : AreOver (t.1 ++ y.1) sum
    over_sum = subst (AreOver (t.1 ++ y.1)) (sym made) (over-behind t front (over-front front t more (recursion_from_IsDescending (front ++ t ∷ more) left.shaped.descending)))

    room : length sum < 20000
    room =
        let count : length (front ++ t ∷ more) ≡ length front + length (t ∷ more) = length-append front (t ∷ more) in
        let same : length sum ≡ length front = ap length made ∙ length-map front (behind y) in
        omega (arith, count, same, left.few)

    pub step-behind : product_step sum t (y ∷ []) ≡ Ok (sum ++ behind y t ∷ [])
    step-behind =
        step_adds sum t.0 t.1 (y ∷ []) (behind y t ∷ []) canonical.shaped (within-one t.1 short_word) (multiple-one t nonzero_left fits)
        ∙ sum-behind sum (behind y t) canonical fits (product_nonzero t.0 y.0 nonzero_left nonzero) short_word over_sum room

    pub canonical-step : IsCanonical (sum ++ behind y t ∷ [])
    canonical-step = canonical-behind sum (behind y t) canonical fits (product_nonzero t.0 y.0 nonzero_left nonzero) short_word over_sum room

    pub made-step : sum ++ behind y t ∷ [] ≡ times_term y (front ++ t ∷ [])
    made-step = ap (λ p. p ++ behind y t ∷ []) made ∙ sym (map-append (behind y) front (t ∷ []))

    pub from-step : product_from sum (t ∷ more) (y ∷ []) ≡ product_from (sum ++ behind y t ∷ []) more (y ∷ [])
    from-step = ap (λ r. and_then r (λ next. product_from next more (y ∷ []))) step-behind
