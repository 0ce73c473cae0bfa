-- Reductions of whose rows a store keeps something.
use Rattle.std.specs.Prelude.{◌≡◌, ℕ, ℤ, List, map, Result, Ok, Err}
use Rattle.std.specs.List.{All}
use Rattle.coef_int.specs.declared.Overflow.{Overflow}
use Rattle.coef_int.specs.Range.{IsCoefficient}
use Rattle.coef_int.specs.Operations.{product_of}
use Rattle.definitions.specs.Poly.{Term}
use Rattle.nc_polynomial.specs.Shape.{IsCanonical}
use Rattle.traced_rows.specs.declared.Row.{Row}
use Rattle.rule_reduce.specs.declared.state.State.{State}
use Rattle.rule_reduce.specs.declared.state.Progress.{Progress}

-- the coefficients of rows, and the products of coefficients with a number
abbrev pub coefficients : List Row → List ℤ
coefficients rows = map (λ row. row.coef) rows

abbrev pub products_by : ℤ → List ℤ → List Overflow
products_by by numbers = map (λ z. product_of z by) numbers

-- how far a reduction has come, with these rows
abbrev pub with_rows : {S : Type 0} → Progress S → List Row → State
with_rows p rows = record { multiplier = p.multiplier; rest = p.rest; rows = rows; used = p.used }

-- what comes out is this, with rows of which the store keeps what it has
pub record Shows {S E : Type 0} (of : List Row → S) (r : Result State E) (p : Progress S) : Type 0 where
  pub rows : List Row
  pub kept : p.rows ≡ of rows
  pub is : r ≡ Ok (with_rows p rows)

-- the multiplier and the coefficients that are kept are in range, and the polynomial is canonical
pub record IsBounded {S : Type 0} (numbers : S → List ℤ) (p : Progress S) : Type 0 where
  pub multiplier : IsCoefficient p.multiplier
  pub rest : IsCanonical p.rest
  pub rows : All IsCoefficient (numbers p.rows)

-- a normal form without its rows: the multiplier, the rest and the number of steps
abbrev pub without_rows : {E : Type 0} → Result State E → Result (ℤ × List Term × ℕ) E
without_rows (Ok s) = Ok (s.multiplier, s.rest, s.used)
without_rows (Err e) = Err e
