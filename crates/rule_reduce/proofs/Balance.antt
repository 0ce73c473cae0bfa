-- Each step keeps the multiplier times the polynomial equal to the rest plus the sum of the rows.
use Rattle.rule_reduce.proofs.Exits.{multiplied-scaled}
use Rattle.std.proofs.Common.{◌≡◌, ℕ, ℤ, ◌+ℤ◌, ◌*ℤ◌, neg_ℤ, List, [], ◌∷◌, ◌++◌, map, sym, ap, ap₂, ◌∙◌, arith, negsuc}
use Rattle.std.proofs.Math.IntN.{*ℤ_comm, +ℤ_idl, +ℤ_idr, +ℤ_assoc, zero-*ℤ}
use Rattle.std.proofs.lemmas.Int.{ints}
use Rattle.definitions.proofs.Coefficients.{coefficient_of-append, coefficient_of-multiple}
use Rattle.definitions.proofs.Integers.{*ℤ_assoc, +ℤ-*ℤ}
use Rattle.definitions.specs.Combination.{generator_at}
use Rattle.definitions.specs.Poly.{Term, coefficient_of, poly_multiple, poly_between}
use Rattle.traced_rows.specs.Traces.{origin_poly, traced_poly, traced_sum}
use Rattle.traced_rows.specs.declared.Row.{Row}
use Rattle.nc_polynomial.proofs.CoefficientLaws.{coefficient_of-added, coefficient_of-scaled}
use Rattle.nc_polynomial.proofs.Products.{scaled-between}
use Rattle.nc_polynomial.proofs.Values.{negated-multiple}
use Rattle.nc_polynomial.specs.Terms.{multiplied, negated, shifted}
use Rattle.rule_reduce.specs.Laws.{ReductionsBalance}
use Rattle.rule_reduce.specs.NormalForms.{start_of}
use Rattle.rule_reduce.specs.RuleLists.{polynomials_of}
use Rattle.rule_reduce.specs.Steps.{Move, move_row, multiplied_row, moved, move_of}
use Rattle.rule_reduce.specs.declared.rule.Rule.{Rule}
use Rattle.rule_reduce.specs.declared.state.State.{State}
use Rattle.rule_reduce.proofs.Numbers.{rule_at-polynomial}
use Rattle.rule_reduce.proofs.Runs.{reduction_keeps}

-- coefficients of the parts of a step
coefficient_of-negated : (p : List Term) (w : List ℕ) → coefficient_of (negated p) w ≡ neg_ℤ (coefficient_of p w)
coefficient_of-negated p w =
    let scaled_by = coefficient_of-multiple (negsuc 0) p w in
    ap (λ q. coefficient_of q w) (negated-multiple p) ∙ omega (arith, ints, scaled_by)

coefficient_of-multiplied : (p : List Term) (k : ℤ) (w : List ℕ) → coefficient_of (multiplied p k) w ≡ coefficient_of p w *ℤ k
coefficient_of-multiplied p k w = ap (λ q. coefficient_of q w) (multiplied-scaled p k) ∙ coefficient_of-scaled k p w ∙ *ℤ_comm k (coefficient_of p w)

-- the multiple of a rule, without zeros, is the polynomial of its row
coefficient_of-shifted : (k : ℤ) (l : List ℕ) (g : List Term) (r w : List ℕ) → coefficient_of (shifted k l g r) w ≡ coefficient_of (poly_multiple k (poly_between l g r)) w
coefficient_of-shifted k l g r w =
    ap (λ p. coefficient_of p w) (sym (scaled-between k l g r))
    ∙ coefficient_of-scaled k (poly_between l g r) w ∙ sym (coefficient_of-multiple k (poly_between l g r) w)

moves_out : (a b c : ℤ) → (a *ℤ b) *ℤ c ≡ (a *ℤ c) *ℤ b
moves_out a b c = *ℤ_assoc a b c ∙ ap (λ x. a *ℤ x) (*ℤ_comm b c) ∙ sym (*ℤ_assoc a c b)

module _ (rules : List Rule) where
  abbrev polys : List (List Term)
  polys = polynomials_of rules

  coefficient_of-row : (k : ℤ) (row : Row) (w : List ℕ) → coefficient_of (traced_poly [] polys (multiplied_row k row)) w ≡ coefficient_of (traced_poly [] polys row) w *ℤ k
  coefficient_of-row k row w =
      let g = poly_between row.left (origin_poly [] polys row.from) row.right in
      coefficient_of-multiple (row.coef *ℤ k) g w ∙ moves_out row.coef k (coefficient_of g w)
      ∙ ap (λ z. z *ℤ k) (sym (coefficient_of-multiple row.coef g w))

  coefficient_of-rows : (k : ℤ) (rows : List Row) (w : List ℕ) → coefficient_of (traced_sum [] polys (map (multiplied_row k) rows)) w ≡ coefficient_of (traced_sum [] polys rows) w *ℤ k
  coefficient_of-rows k [] w = sym (zero-*ℤ k)
  coefficient_of-rows k (row ∷ rows) w =
      coefficient_of-append (traced_poly [] polys (multiplied_row k row)) (traced_sum [] polys (map (multiplied_row k) rows)) w
      ∙ ap₂ ◌+ℤ◌ (coefficient_of-row k row w) (coefficient_of-rows k rows w)
      ∙ sym (+ℤ-*ℤ (coefficient_of (traced_poly [] polys row) w) (coefficient_of (traced_sum [] polys rows) w) k)
      ∙ ap (λ z. z *ℤ k) (sym (coefficient_of-append (traced_poly [] polys row) (traced_sum [] polys rows) w))

  rows-append : (rows more : List Row) (w : List ℕ) → coefficient_of (traced_sum [] polys (rows ++ more)) w ≡ coefficient_of (traced_sum [] polys rows) w +ℤ coefficient_of (traced_sum [] polys more) w
  rows-append [] more w = sym (+ℤ_idl (coefficient_of (traced_sum [] polys more) w))
  rows-append (row ∷ rows) more w =
      coefficient_of-append (traced_poly [] polys row) (traced_sum [] polys (rows ++ more)) w
      ∙ ap (λ z. coefficient_of (traced_poly [] polys row) w +ℤ z) (rows-append rows more w)
      ∙ sym (+ℤ_assoc (coefficient_of (traced_poly [] polys row) w) (coefficient_of (traced_sum [] polys rows) w) (coefficient_of (traced_sum [] polys more) w))
      ∙ ap (λ z. z +ℤ coefficient_of (traced_sum [] polys more) w) (sym (coefficient_of-append (traced_poly [] polys row) (traced_sum [] polys rows) w))

  -- the balance at one word
  abbrev BalancesAt : List Term → State → List ℕ → Type 0
  BalancesAt f s w = s.multiplier *ℤ coefficient_of f w ≡ coefficient_of s.rest w +ℤ coefficient_of (traced_sum [] polys s.rows) w

  -- whatever it multiplies by, a move keeps the balance
  moved_balances : (f : List Term) (m : Move) (s : State) (w : List ℕ) → generator_at polys m.number ≡ m.rule → BalancesAt f s w → BalancesAt f (moved m s) w
  moved_balances f m s w is_rule balance =
      let taken = coefficient_of (shifted m.times m.left m.rule m.right) w in
      let old : coefficient_of (moved m s).rest w ≡ coefficient_of s.rest w *ℤ m.by +ℤ neg_ℤ taken =
      coefficient_of-added w (multiplied s.rest m.by) (negated (shifted m.times m.left m.rule m.right))
      ∙ ap₂ ◌+ℤ◌ (coefficient_of-multiplied s.rest m.by w) (coefficient_of-negated (shifted m.times m.left m.rule m.right) w) in
      let last : coefficient_of (traced_sum [] polys (move_row m ∷ [])) w ≡ taken =
      coefficient_of-append (traced_poly [] polys (move_row m)) [] w ∙ +ℤ_idr (coefficient_of (traced_poly [] polys (move_row m)) w)
      ∙ ap (λ g. coefficient_of (poly_multiple m.times (poly_between m.left g m.right)) w) is_rule
      ∙ sym (coefficient_of-shifted m.times m.left m.rule m.right w) in
      let new : coefficient_of (traced_sum [] polys (moved m s).rows) w ≡ coefficient_of (traced_sum [] polys s.rows) w *ℤ m.by +ℤ taken =
      rows-append (map (multiplied_row m.by) s.rows) (move_row m ∷ []) w ∙ ap₂ ◌+ℤ◌ (coefficient_of-rows m.by s.rows w) last in
      let whole : (s.multiplier *ℤ m.by) *ℤ coefficient_of f w ≡ coefficient_of s.rest w *ℤ m.by +ℤ coefficient_of (traced_sum [] polys s.rows) w *ℤ m.by =
      moves_out s.multiplier m.by (coefficient_of f w) ∙ ap (λ z. z *ℤ m.by) balance ∙ +ℤ-*ℤ (coefficient_of s.rest w) (coefficient_of (traced_sum [] polys s.rows) w) m.by in
      omega (arith, ints, old, new, whole)

-- the multiplier 1, no rows
start_balances : (rules : List Rule) (p : List Term) (w : List ℕ) → BalancesAt rules p (start_of p) w
start_balances rules p w = omega (arith, ints)

-- the law
pub reductions_balance : ReductionsBalance
reductions_balance compare rules p steps s ends = record {
  at = λ w.
      coefficient_of-multiple s.multiplier p w
      ∙ (reduction_keeps (λ t. BalancesAt rules p t w) compare rules
      (λ c g t chosen has balance. moved_balances rules p (move_of c g) t w (rule_at-polynomial rules c.number g has) balance)
      steps steps (start_of p) s ends (start_balances rules p w)).kept
      ∙ sym (coefficient_of-append s.rest (traced_sum [] (polynomials_of rules) s.rows) w);
}
