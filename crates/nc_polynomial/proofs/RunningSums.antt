-- A table to which descending terms are added, as a sum of two descending lists.
use Rattle.nc_polynomial.proofs.Prelude.{le-ltb, lt-ltb, ◌≡◌, ℕ, ◌<◌, ◌≤◌, ℤ, pos, ◌+ℤ◌, true, false, cond, ◌||◌, nat_lt, List, [], ◌∷◌, ◌++◌, length, None, Ok, Err, sym, refl, ap, ap₂, subst, ◌∙◌, arith, BTreeMap, IsOrdered, All, +ℤ_idl, All-nil, All-tail, IsCoefficient, sum_of, first_overflow, word_cmp, Term, coefficient_of, PolyFault, sum_result, coefficient_in, Explains, checked, unless_overflow, sized, has_long_word, size_fault, IsRunning, terms_in, IsShaped, IsCanonical, aligned, added, sums}
use Rattle.nc_polynomial.proofs.Chains.{ends, value_is, explains-first, first-fits}
use Rattle.nc_polynomial.proofs.Shapes.{Descends, IsInRange, recursion_from_IsDescending, all-aligned, all-totals}
use Rattle.nc_polynomial.proofs.Tables.{shaped-running, descending-table, nonzero-table, coefficient_of-table}
use Rattle.nc_polynomial.proofs.TableSums.{sums_with, first-sums_with, sums-with_same, added_is, sums-next}

module _ (table : BTreeMap (List ℕ) ℤ) (sorted : IsOrdered word_cmp table) (running : IsRunning table) (q : List Term) (shaped : IsShaped q) where
  abbrev p : List Term
  p = terms_in table

  down_q : Descends q
  down_q = recursion_from_IsDescending q shaped.descending

  first-table : first_overflow (sums p q) ≡ first_overflow (sums_with (coefficient_in table) q)
  first-table =
      first-sums_with p q (shaped-running table sorted running).in_range (descending-table table sorted) down_q
      ∙ ap first_overflow (sums-with_same (coefficient_of p) (coefficient_in table) q (coefficient_of-table table sorted))

  -- a sum that overflows is the first that does
  pub table-fault : (now : List ℕ → ℤ) (front : List Term) (t : Term) (more : List Term) → front ++ t ∷ more ≡ q → ((w : List ℕ) → now w ≡ coefficient_in table w +ℤ coefficient_of front w)
      → first_overflow (sums_with (coefficient_in table) q) ≡ first_overflow (sums_with (coefficient_in table) (t ∷ more))
      → (e : PolyFault) → Explains (checked (sum_of (now t.1) t.0 ∷ []) t.0) e → Explains (checked (sums p q) (added p q)) e
  table-fault now front t more splits so_far rest e why =
      let start = coefficient_in table in
      let from_here : first_overflow (sums p q) ≡ first_overflow (sum_of (now t.1) t.0 ∷ sums_with start more) = first-table ∙ rest ∙ sums-next start now q front t more splits down_q so_far in
      subst (λ o. Explains (unless_overflow o (Ok (added p q))) e) (sym from_here)
      (explains-first (sum_of (now t.1) t.0 ∷ []) (sums_with start more) t.0 (Ok (added p q)) e why)

  -- where none does, the table has the sum
  pub table-sum : (new : BTreeMap (List ℕ) ℤ) → IsOrdered word_cmp new → ((w : List ℕ) → coefficient_in new w ≡ coefficient_in table w +ℤ coefficient_of q w)
      → first_overflow (sums_with (coefficient_in table) q) ≡ None → checked (sums p q) (added p q) ≡ Ok (terms_in new)
  table-sum new sorted_new same none =
      ap (λ o. unless_overflow o (Ok (added p q))) (first-table ∙ none)
      ∙ ap Ok (added_is p q (terms_in new) (descending-table table sorted) down_q (descending-table new sorted_new) (nonzero-table new sorted_new)
      (λ w. coefficient_of-table new sorted_new w ∙ same w ∙ ap (λ k. k +ℤ coefficient_of q w) (sym (coefficient_of-table table sorted w))))

-- limits
pub not_long : (p : List Term) → All (λ t. length t.1 ≤ 500) p → has_long_word p ≡ false
not_long [] h = refl
not_long (t ∷ p) h = ap₂ ◌||◌ (le-ltb 500 (length t.1) (h 0 t (omega arith))) (not_long p (All-tail (λ (u : Term). length u.1 ≤ 500) t p h))

-- a sum of short words has short words, so that only the number of its terms can be too large
module _ (p q v : List Term) (short_p : All (λ t. length t.1 ≤ 500) p) (short_q : All (λ t. length t.1 ≤ 500) q) (total : checked (sums p q) (added p q) ≡ Ok v) where
  short_sum : has_long_word v ≡ false
  short_sum =
      ap has_long_word (sym (value_is (sums p q) (added p q) v total))
      ∙ not_long (added p q) (all-totals (λ w. length w ≤ 500) (aligned p q) (all-aligned (λ w. length w ≤ 500) p q short_p short_q))

  by_count : sum_result p q ≡ cond (nat_lt 20000 (length v)) (Err (size_fault false)) (Ok v)
  by_count = ends (sums p q) (added p q) v total ∙ ap (λ b. cond b (Err (size_fault true)) (cond (nat_lt 20000 (length v)) (Err (size_fault false)) (Ok v))) short_sum

  pub too_many : 20000 < length v → sum_result p q ≡ Err (size_fault false)
  too_many large = by_count ∙ ap (λ b. cond b (Err (size_fault false)) (Ok v)) (lt-ltb 20000 (length v) large)

  pub few_enough : length v ≤ 20000 → sum_result p q ≡ Ok v
  few_enough small = by_count ∙ ap (λ b. cond b (Err (size_fault false)) (Ok v)) (le-ltb 20000 (length v) small)

-- a sum that begins with zero
fits-alone : (q : List Term) → All (λ t. IsCoefficient t.0) q → first_overflow (sums [] q) ≡ None
fits-alone [] h = refl
fits-alone (y ∷ q) h = first-fits (sum_of (pos 0) y.0) (sums [] q) (subst IsCoefficient (sym (+ℤ_idl y.0)) (h 0 y (omega arith))) ∙ fits-alone q (All-tail IsInRange y q h)

sum_alone : (q : List Term) → IsShaped q → checked (sums [] q) (added [] q) ≡ Ok q
sum_alone q h =
    let down = recursion_from_IsDescending q h.descending in
    ap (λ o. unless_overflow o (Ok (added [] q))) (fits-alone q h.in_range)
    ∙ ap Ok (added_is [] q q tt down down h.nonzero (λ w. sym (+ℤ_idl (coefficient_of q w))))

pub sum_alone_sized : (q : List Term) → IsShaped q → sum_result [] q ≡ sized q
sum_alone_sized q h = ends (sums [] q) (added [] q) q (sum_alone q h)

pub sum_with_none : (q : List Term) → IsCanonical q → sum_result [] q ≡ Ok q
sum_with_none q h = few_enough [] q q (All-nil (λ (t : Term). length t.1 ≤ 500)) h.short (sum_alone q h.shaped) h.few
