-- A step that is computed is a step, and its operations are those of one.
use Rattle.outcome_laws.proofs.Prelude.{◌≡◌, ◌≢◌, ◌⊎◌, inl, inr, ℕ, ℤ, pos, neg_ℤ, ◌+ℤ◌, ◌*ℤ◌, Bool, true, false, cond, List, [], ◌∷◌, ◌++◌, Some, None, Ok, refl, sym, ap, ap₂, ◌∙◌, subst, arith, Contains, All, ints, All-map, Contains-append_cases, same_Some, *ℤ_comm, Overflow, product_of, sum_of, first_overflow, gcd_of, divisors_are_greatest, Term, word_eq, coefficient_of, poly_multiple, poly_between, coefficient_of-append, coefficient_of-multiple, IsFirstPlace, Compare, IsDescending, keep, scaled, multiplied, multiplications, negated, shifted, products, sums, checked, unless_overflow, IsShaped, shaped-between, ranged_multiply, shaped_add, coefficient_of-added, coefficient_of-scaled, quotient_times, scaled-between, shaped_shift, Descends, IsBelow, IsDescending-from_recursion, recursion_from_IsDescending, descending-scaled, nonzero-scaled, shaped-negated, Row, Rule, State, Choice, rule_at, IsChoice, Move, row_operations, state_operations, less_operations, moved, move_operations, move_of, Reduced, Next, IsStep, IsOfStep, of_multiplier, of_rest, of_taken, of_rule, of_difference, contains-cases}
use Rattle.outcome_laws.proofs.Listed.{value_of, sum_at}
use Rattle.outcome_laws.proofs.Results.{fits_first, none_append}

-- how far a state has come
abbrev pub reduced_of : State → Reduced
reduced_of s = record { multiplier = s.multiplier; rest = s.rest; taken = s.rows }

-- coefficients
pub multiplied-scaled : (p : List Term) (k : ℤ) → multiplied p k ≡ scaled k p
multiplied-scaled [] k = refl
multiplied-scaled (t ∷ p) k = ap₂ (λ z rest. keep z t.1 rest) (*ℤ_comm t.0 k) (multiplied-scaled p k)

coefficient_of-negated : (p : List Term) (w : List ℕ) → coefficient_of (negated p) w ≡ neg_ℤ (coefficient_of p w)
coefficient_of-negated [] w = refl
coefficient_of-negated (t ∷ p) w = go (word_eq t.1 w) (coefficient_of-negated p w)
  where
    go : (b : Bool) → coefficient_of (negated p) w ≡ neg_ℤ (coefficient_of p w) → cond b (neg_ℤ t.0) (pos 0) +ℤ coefficient_of (negated p) w ≡ neg_ℤ (cond b t.0 (pos 0) +ℤ coefficient_of p w)
    go true rest = omega (arith, ints)
    go false rest = omega (arith, ints)

multiplied_at : (p : List Term) (k : ℤ) (w : List ℕ) → coefficient_of (multiplied p k) w ≡ coefficient_of p w *ℤ k
multiplied_at p k w = ap (λ q. coefficient_of q w) (multiplied-scaled p k) ∙ coefficient_of-scaled k p w ∙ *ℤ_comm k (coefficient_of p w)

shifted_at : (k : ℤ) (l : List ℕ) (g : List Term) (r w : List ℕ) → coefficient_of (negated (shifted k l g r)) w ≡ neg_ℤ (k *ℤ coefficient_of (poly_between l g r) w)
shifted_at k l g r w = coefficient_of-negated (shifted k l g r) w ∙ ap (λ q. neg_ℤ (coefficient_of q w)) (sym (scaled-between k l g r)) ∙ ap neg_ℤ (coefficient_of-scaled k (poly_between l g r) w)

-- lists without zeros, each word once
multiplied_shaped : (p : List Term) (k : ℤ) → IsShaped p → first_overflow (multiplications p k) ≡ None → IsShaped (multiplied p k)
multiplied_shaped p k shaped none = record {
  descending = subst IsDescending (sym (multiplied-scaled p k)) (IsDescending-from_recursion (scaled k p) (descending-scaled k p (recursion_from_IsDescending p shaped.descending)));
  nonzero = subst (All (λ t. t.0 ≢ pos 0)) (sym (multiplied-scaled p k)) (nonzero-scaled k p);
  in_range = ranged_multiply p k (multiplied p k) (ap (λ o. unless_overflow o (Ok (multiplied p k))) none);
}

descends_multiplied : (p : List Term) (k : ℤ) → IsShaped p → Descends (multiplied p k)
descends_multiplied p k shaped = subst Descends (sym (multiplied-scaled p k)) (descending-scaled k p (recursion_from_IsDescending p shaped.descending))

descends_negated : (p : List Term) → Descends p → Descends (negated p)
descends_negated [] d = tt
descends_negated (t ∷ p) d = (All-map (IsBelow t.1) (λ (u : Term). (neg_ℤ u.0, u.1)) p d.0, descends_negated p d.1)

descends_shifted : (k : ℤ) (l : List ℕ) (g : List Term) (r : List ℕ) → IsShaped g → Descends (negated (shifted k l g r))
descends_shifted k l g r shaped =
    descends_negated (shifted k l g r)
    (subst Descends (scaled-between k l g r) (descending-scaled k (poly_between l g r) (recursion_from_IsDescending (poly_between l g r) (shaped-between l r g shaped).descending)))

-- the step by a rule
module _ (compare : Compare) (rules : List Rule) (s : State) (shaped : IsShaped s.rest) (c : Choice) (chosen : IsChoice compare rules s.rest c) (g : Rule) (numbered : rule_at rules c.number ≡ Some g) where
  pub same_rule : chosen.rule ≡ g
  same_rule = same_Some chosen.rule g (sym chosen.numbered ∙ numbered)

  abbrev pub by_rule : IsChoice compare rules s.rest c
  by_rule = record {
    term = chosen.term;
    rule = g;
    numbered = numbered;
    greatest = chosen.greatest;
    least = chosen.least;
    leftmost = subst (λ (r : Rule). IsFirstPlace c.word r.lead c.place) same_rule chosen.leftmost;
  }

  abbrev pub move : Move
  move = move_of c g

  abbrev pub next_step : Next compare rules s.rest
  next_step = record {
    choice = c;
    chosen = by_rule;
    divisor = gcd_of c.coefficient g.leading;
    greatest = divisors_are_greatest c.coefficient g.leading;
    by = move.by;
    by_is = quotient_times g.leading (gcd_of c.coefficient g.leading) (divisors_are_greatest c.coefficient g.leading).right;
    times = move.times;
    times_is = quotient_times c.coefficient (gcd_of c.coefficient g.leading) (divisors_are_greatest c.coefficient g.leading).left;
    around = poly_between move.left g.poly.terms move.right;
    around_is = refl;
  }

  -- what is left
  left_at : (w : List ℕ) → coefficient_of (moved move s).rest w ≡ coefficient_of s.rest w *ℤ move.by +ℤ neg_ℤ (move.times *ℤ coefficient_of (poly_between move.left g.poly.terms move.right) w)
  left_at w =
      coefficient_of-added w (multiplied s.rest move.by) (negated (shifted move.times move.left g.poly.terms move.right))
      ∙ ap₂ ◌+ℤ◌ (multiplied_at s.rest move.by w) (shifted_at move.times move.left g.poly.terms move.right w)

  balance : (w : List ℕ) → coefficient_of ((moved move s).rest ++ poly_multiple move.times (poly_between move.left g.poly.terms move.right)) w ≡ coefficient_of (poly_multiple move.by s.rest) w
  balance w =
      coefficient_of-append (moved move s).rest (poly_multiple move.times (poly_between move.left g.poly.terms move.right)) w
      ∙ ap₂ ◌+ℤ◌ (left_at w) (coefficient_of-multiple move.times (poly_between move.left g.poly.terms move.right) w)
      ∙ (omega (arith, ints))
      ∙ *ℤ_comm (coefficient_of s.rest w) move.by ∙ sym (coefficient_of-multiple move.by s.rest w)

  module _ (none : first_overflow (move_operations move s) ≡ None) where
    fits : {A : Type 0} (os : List Overflow) (x : A) → first_overflow os ≡ None → checked os x ≡ Ok x
    fits os x h = ap (λ o. unless_overflow o (Ok x)) h

    rest_shaped : IsShaped (moved move s).rest
    rest_shaped =
        let both = none_append (state_operations move.by s) (less_operations move.times move.left move.rule move.right (multiplied s.rest move.by)) none in
        let state = none_append (multiplications s.rest move.by) (row_operations s.rows move.by) (fits_first (product_of s.multiplier move.by) (multiplications s.rest move.by ++ row_operations s.rows move.by) both.0).1 in
        let less = none_append (products move.times move.rule) (sums (multiplied s.rest move.by) (negated (shifted move.times move.left move.rule move.right))) both.1 in
        let taken = shaped_shift move.times move.left move.rule move.right (shifted move.times move.left move.rule move.right) g.poly.canonical.shaped (fits (products move.times move.rule) (shifted move.times move.left move.rule move.right) less.0) in
        shaped_add (multiplied s.rest move.by) (negated (shifted move.times move.left move.rule move.right)) (moved move s).rest (multiplied_shaped s.rest move.by shaped state.0) (shaped-negated (shifted move.times move.left move.rule move.right) taken)
        (fits (sums (multiplied s.rest move.by) (negated (shifted move.times move.left move.rule move.right))) (moved move s).rest less.1)

    pub step_made : IsStep compare rules (reduced_of s) (reduced_of (moved move s))
    step_made = record { next = next_step; multiplier = refl; shaped = rest_shaped; rest = record { at = balance }; taken = refl }

  -- its products and sums
  abbrev OfStep : Overflow → Type 0
  OfStep o = IsOfStep (reduced_of s) move.by move.times g.poly.terms (poly_between move.left g.poly.terms move.right) o

  pub of_step : (o : Overflow) → Contains (move_operations move s) o → OfStep o
  of_step o at = by_part (Contains-append_cases (state_operations move.by s) (less_operations move.times move.left move.rule move.right (multiplied s.rest move.by)) o at)
    where
      difference : Contains (sums (multiplied s.rest move.by) (negated (shifted move.times move.left move.rule move.right))) o → OfStep o
      difference in_sums =
          let sum = sum_at (multiplied s.rest move.by) (negated (shifted move.times move.left move.rule move.right)) (descends_multiplied s.rest move.by shaped)
          (descends_shifted move.times move.left move.rule move.right g.poly.canonical.shaped) o in_sums in
          of_difference sum.word (sum.is ∙ (λ n. sum_of (multiplied_at s.rest move.by sum.word n) (shifted_at move.times move.left g.poly.terms move.right sum.word n)))

      of_product : Contains (products move.times move.rule) o → OfStep o
      of_product in_products = let v = value_of (λ (t : Term). product_of move.times t.0) move.rule o in_products in of_rule v.argument v.listed v.is

      of_coefficient : Contains (multiplications s.rest move.by) o → OfStep o
      of_coefficient in_rest = let v = value_of (λ (t : Term). product_of t.0 move.by) s.rest o in_rest in of_rest v.argument v.listed v.is

      of_row : Contains (row_operations s.rows move.by) o → OfStep o
      of_row in_rows = let v = value_of (λ (row : Row). product_of row.coef move.by) s.rows o in_rows in of_taken v.argument v.listed v.is

      by_state : (product_of s.multiplier move.by ≡ o) ⊎ Contains (multiplications s.rest move.by ++ row_operations s.rows move.by) o → OfStep o
      by_state (inl same) = of_multiplier (sym same)
      by_state (inr later) = by_rows (Contains-append_cases (multiplications s.rest move.by) (row_operations s.rows move.by) o later)
        where
          by_rows : Contains (multiplications s.rest move.by) o ⊎ Contains (row_operations s.rows move.by) o → OfStep o
          by_rows (inl in_rest) = of_coefficient in_rest
          by_rows (inr in_rows) = of_row in_rows

      by_less : Contains (products move.times move.rule) o ⊎ Contains (sums (multiplied s.rest move.by) (negated (shifted move.times move.left move.rule move.right))) o → OfStep o
      by_less (inl in_products) = of_product in_products
      by_less (inr in_sums) = difference in_sums

      by_part : Contains (state_operations move.by s) o ⊎ Contains (less_operations move.times move.left move.rule move.right (multiplied s.rest move.by)) o → OfStep o
      by_part (inl in_state) = by_state (contains-cases (product_of s.multiplier move.by) (multiplications s.rest move.by ++ row_operations s.rows move.by) o in_state)
      by_part (inr in_less) = by_less (Contains-append_cases (products move.times move.rule) (sums (multiplied s.rest move.by) (negated (shifted move.times move.left move.rule move.right))) o in_less)
