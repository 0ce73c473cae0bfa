-- One step of a reduction, and its arithmetic in order.
use Rattle.std.specs.Prelude.{ℕ, ◌+◌, ℤ, ◌*ℤ◌, List, [], ◌∷◌, ◌++◌, map, length, take, drop, int_div, Option, Some, None, Result, Ok, Err}
use Rattle.std.specs.List.{All}
use Rattle.coef_int.specs.declared.Overflow.{Overflow}
use Rattle.coef_int.specs.Range.{IsCoefficient}
use Rattle.coef_int.specs.Operations.{product_of, first_overflow}
use Rattle.definitions.specs.Poly.{Term}
use Rattle.nc_polynomial.specs.declared.fault.PolyFault.{PolyFault}
use Rattle.nc_polynomial.specs.Terms.{multiplied, multiplications, negated, shifted, products, added, sums}
use Rattle.nc_polynomial.specs.Faults.{unless_overflow, sized}
use Rattle.nc_polynomial.specs.Shape.{IsCanonical}
use Rattle.traced_rows.specs.declared.Origin.TheVariants as origin
use Rattle.traced_rows.specs.declared.Row.{Row}
use Rattle.rule_reduce.specs.declared.rule.Rule.{Rule}
use Rattle.rule_reduce.specs.declared.state.State.{State}
use Rattle.rule_reduce.specs.declared.state.Choice.{Choice}
use Rattle.coef_int.specs.Divisor.{gcd_of}
use Rattle.rule_reduce.specs.RuleLists.{rule_at}

-- what a step multiplies by, and the multiple of a rule that it takes away
pub record Move : Type 0 where
  pub by : ℤ
  pub times : ℤ
  pub left : List ℕ
  pub rule : List Term
  pub number : ℕ
  pub right : List ℕ

-- the row of the multiple that is taken away
abbrev pub move_row : Move → Row
move_row m = record { coef = m.times; left = m.left; from = origin.Rule m.number; right = m.right }

abbrev pub multiplied_row : ℤ → Row → Row
multiplied_row by row = record row { coef = row.coef *ℤ by }

abbrev pub row_operations : List Row → ℤ → List Overflow
row_operations rows by = map (λ row. product_of row.coef by) rows

-- everything times a number, and its products: of the multiplier, of the polynomial, of the rows
abbrev pub multiplied_state : ℤ → State → State
multiplied_state by s = record s { multiplier = s.multiplier *ℤ by; rest = multiplied s.rest by; rows = map (multiplied_row by) s.rows }

abbrev pub state_operations : ℤ → State → List Overflow
state_operations by s = product_of s.multiplier by ∷ (multiplications s.rest by ++ row_operations s.rows by)

-- p - k l g r, and its products and sums
abbrev pub less_multiple : ℤ → List ℕ → List Term → List ℕ → List Term → List Term
less_multiple k l g r p = added p (negated (shifted k l g r))

abbrev pub less_operations : ℤ → List ℕ → List Term → List ℕ → List Term → List Overflow
less_operations k l g r p = products k g ++ sums p (negated (shifted k l g r))

-- everything times the one factor, less the multiple of the rule, whose row is the last one
abbrev pub moved : Move → State → State
moved m s = record {
  multiplier = s.multiplier *ℤ m.by;
  rest = less_multiple m.times m.left m.rule m.right (multiplied s.rest m.by);
  rows = map (multiplied_row m.by) s.rows ++ move_row m ∷ [];
  used = s.used + 1;
}

abbrev pub move_operations : Move → State → List Overflow
move_operations m s = state_operations m.by s ++ less_operations m.times m.left m.rule m.right (multiplied s.rest m.by)

-- a value, unless a polynomial is too large
abbrev pub if_sized : {A : Type 0} → Result (List Term) PolyFault → A → Result A PolyFault
if_sized (Ok p) x = Ok x
if_sized (Err e) x = Err e

-- the first overflow, else the limit that the new polynomial passes, else the state after the move
abbrev pub move_result : Move → State → Result State PolyFault
move_result m s = unless_overflow (first_overflow (move_operations m s)) (if_sized (sized (moved m s).rest) (moved m s))

-- Both coefficients are divided by their greatest common divisor. The words on either side of the leading word stay.
abbrev pub move_of : Choice → Rule → Move
move_of c g = record {
  by = int_div g.leading (gcd_of c.coefficient g.leading);
  times = int_div c.coefficient (gcd_of c.coefficient g.leading);
  left = take c.place c.word;
  rule = g.poly.terms;
  number = c.number;
  right = drop (c.place + length g.lead) c.word;
}

-- the step with this rule; a choice has the number of one
abbrev pub step_by : Option Rule → Choice → State → Result State PolyFault
step_by None c s = Ok s
step_by (Some g) c s = move_result (move_of c g) s

abbrev pub step_result : List Rule → Choice → State → Result State PolyFault
step_result rules c s = step_by (rule_at rules c.number) c s

-- the multiplier and the coefficients of the rows are in range, and the polynomial is canonical
pub record IsInRange (s : State) : Type 0 where
  pub multiplier : IsCoefficient s.multiplier
  pub rest : IsCanonical s.rest
  pub rows : All (λ row. IsCoefficient row.coef) s.rows
