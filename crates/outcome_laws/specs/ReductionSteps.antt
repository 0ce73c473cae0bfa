-- A reduction step by step, and the products and sums of a step.
use Rattle.std.specs.Prelude.{◌≡◌, ◌<◌, ◌≤◌, ℕ, zero, suc, ◌+◌, ℤ, pos, neg_ℤ, ◌*ℤ◌, Bool, true, false, List, [], ◌∷◌, ◌++◌, map, length, take, drop, Contains}
use Rattle.std.specs.List.{Any}
use Rattle.coef_int.specs.declared.Overflow.{Overflow}
use Rattle.coef_int.specs.Operations.{product_of, sum_of}
use Rattle.coef_int.specs.Laws.{IsGreatestDivisor}
use Rattle.definitions.specs.Poly.{Term, coefficient_of, SamePolynomial, poly_sum, poly_multiple, poly_between}
use Rattle.word_orders.specs.Admissible.{Compare}
use Rattle.nc_polynomial.specs.Limits.{word_limit, term_limit}
use Rattle.nc_polynomial.specs.Shape.{IsShaped}
use Rattle.traced_rows.specs.declared.Origin.TheVariants as origin
use Rattle.traced_rows.specs.declared.Row.{Row}
use Rattle.traced_rows.specs.Traces.{origin_poly}
use Rattle.rule_reduce.specs.declared.rule.Rule.{Rule}
use Rattle.rule_reduce.specs.declared.state.Choice.{Choice}
use Rattle.rule_reduce.specs.RuleLists.{polynomials_of}
use Rattle.rule_reduce.specs.Choices.{IsChoice}
use Rattle.rule_reduce.specs.Laws.{IsIrreducible}

-- The state of a reduction: by what its polynomial was multiplied, the rest, and the rows of what was subtracted.
pub record Reduced : Type 0 where
  pub multiplier : ℤ
  pub rest : List Term
  pub taken : List Row

abbrev pub unreduced : List Term → Reduced
unreduced p = record { multiplier = pos 1; rest = p; taken = [] }

-- a row times an integer
abbrev pub row_times : ℤ → Row → Row
row_times by row = record row { coef = row.coef *ℤ by }

-- The next step: the greatest word in which a leading word occurs is l m r, where m is the leading word of the rule g with the
-- least number, at its leftmost place. With c the coefficient of the word, k that of m in g, and q their greatest common divisor, the
-- polynomial is multiplied by k/q, and c/q l g r is subtracted.
pub record Next (compare : Compare) (rules : List Rule) (p : List Term) : Type 0 where
  pub choice : Choice
  pub chosen : IsChoice compare rules p choice
  pub divisor : ℤ
  pub greatest : IsGreatestDivisor choice.coefficient chosen.rule.leading divisor
  pub by : ℤ
  pub by_is : divisor *ℤ by ≡ chosen.rule.leading
  pub times : ℤ
  pub times_is : divisor *ℤ times ≡ choice.coefficient
  -- l g r
  pub around : List Term
  pub around_is : around ≡ poly_between (take choice.place choice.word) chosen.rule.poly.terms (drop (choice.place + length chosen.rule.lead) choice.word)

-- the row of c/q l g r
abbrev pub next_row : {compare : Compare} {rules : List Rule} {p : List Term} → Next compare rules p → Row
next_row next = record {
  coef = next.times;
  left = take next.choice.place next.choice.word;
  from = origin.Rule next.choice.number;
  right = drop (next.choice.place + length next.chosen.rule.lead) next.choice.word;
}

-- The step is made.
pub record IsStep (compare : Compare) (rules : List Rule) (before after : Reduced) : Type 0 where
  pub next : Next compare rules before.rest
  pub multiplier : after.multiplier ≡ before.multiplier *ℤ next.by
  pub shaped : IsShaped after.rest
  pub rest : SamePolynomial (poly_sum after.rest (poly_multiple next.times next.around)) (poly_multiple next.by before.rest)
  pub taken : after.taken ≡ map (row_times next.by) before.taken ++ next_row next ∷ []

-- A step is made, and then the later ones.
pub record IsStepThen (compare : Compare) (rules : List Rule) (Later : Reduced → Type 0) (before : Reduced) : Type 0 where
  pub after : Reduced
  pub step : IsStep compare rules before after
  pub later : Later after

-- This many steps are made, one after another.
abbrev pub Goes : Compare → List Rule → ℕ → Reduced → Reduced → Type 0
Goes compare rules zero before after = before ≡ after
Goes compare rules (suc n) before after = IsStepThen compare rules (λ r. Goes compare rules n r after) before

-- One of the products and sums of a step: of the multiplier, of a coefficient of the rest and of that of a row, each by k/q on
-- the right; of c/q and a coefficient of g; and the difference of the coefficients of a word.
pub data IsOfStep (r : Reduced) (by times : ℤ) (g around : List Term) (o : Overflow) : Type 0 where
  of_multiplier : o ≡ product_of r.multiplier by → IsOfStep r by times g around o
  of_rest : (t : Term) → Contains r.rest t → o ≡ product_of t.0 by → IsOfStep r by times g around o
  of_taken : (row : Row) → Contains r.taken row → o ≡ product_of row.coef by → IsOfStep r by times g around o
  of_rule : (t : Term) → Contains g t → o ≡ product_of times t.0 → IsOfStep r by times g around o
  of_difference : (w : List ℕ) → o ≡ sum_of (coefficient_of r.rest w *ℤ by) (neg_ℤ (times *ℤ coefficient_of around w)) → IsOfStep r by times g around o

-- This many steps are made, and there is one more.
pub record HasOneMore (compare : Compare) (rules : List Rule) (steps : ℕ) (start : Reduced) : Type 0 where
  pub now : Reduced
  pub goes : Goes compare rules steps start now
  pub next : Next compare rules now.rest

-- It is one of the products and sums of a step, of which at most this many are made.
pub record IsOfReduction (compare : Compare) (rules : List Rule) (steps : ℕ) (start : Reduced) (o : Overflow) : Type 0 where
  pub earlier : ℕ
  pub few : earlier < steps
  pub reaches : HasOneMore compare rules earlier start
  pub of_step : IsOfStep reaches.now reaches.next.by reaches.next.times reaches.next.chosen.rule.poly.terms reaches.next.around o

-- a word has more letters than the limit of polynomials, or else there are more terms than the limit
abbrev pub IsTooLarge : Bool → List Term → Type 0
IsTooLarge true p = Any (λ t. word_limit < length t.1) p
IsTooLarge false p = term_limit < length p

-- After a step, of which at most this many are made, the rest is too large.
pub record GetsTooLarge (compare : Compare) (rules : List Rule) (steps : ℕ) (start : Reduced) (letters : Bool) : Type 0 where
  pub earlier : ℕ
  pub few : earlier < steps
  pub now : Reduced
  pub goes : Goes compare rules (suc earlier) start now
  pub large : IsTooLarge letters now.rest

-- After some steps, at most this many, this is the rest, in which no leading word occurs.
pub record Leaves (compare : Compare) (rules : List Rule) (steps : ℕ) (start now : Reduced) : Type 0 where
  pub made : ℕ
  pub few : made ≤ steps
  pub goes : Goes compare rules made start now
  pub irreducible : IsIrreducible rules now.rest

-- l g r of a row c l g r over the rules
abbrev pub row_words : List Rule → Row → List Term
row_words rules row = poly_between row.left (origin_poly [] (polynomials_of rules) row.from) row.right

-- One of the products and sums of a p + b q: of a and a coefficient of p, of b and one of q, and the sum of both at a word.
pub data IsOfSum (a : ℤ) (p : List Term) (b : ℤ) (q : List Term) (o : Overflow) : Type 0 where
  of_left : (t : Term) → Contains p t → o ≡ product_of a t.0 → IsOfSum a p b q o
  of_right : (t : Term) → Contains q t → o ≡ product_of b t.0 → IsOfSum a p b q o
  of_both : (w : List ℕ) → o ≡ sum_of (a *ℤ coefficient_of p w) (b *ℤ coefficient_of q w) → IsOfSum a p b q o
