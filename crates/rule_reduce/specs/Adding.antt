-- Sums that are made in the place of one of the lists, from its greatest word on.
use Rattle.std.specs.Prelude.{◌≡◌, ℕ, ℤ, pos, List, [], ◌++◌, length, take, drop, get_or, Result}
use Rattle.definitions.specs.Poly.{Term}
use Rattle.nc_polynomial.specs.declared.fault.PolyFault.{PolyFault}
use Rattle.nc_polynomial.specs.Terms.{keep, added, sums}
use Rattle.nc_polynomial.specs.Faults.{checked}

-- the terms in front of a place as they are, and behind them the sum of those from it on and others
abbrev pub sum_from : ℕ → List Term → List Term → Result (List Term) PolyFault
sum_from at p q = checked (sums (drop at p) q) (take at p ++ added (drop at p) q)

-- the term at a place
abbrev pub term_at : List Term → ℕ → Term
term_at p place = get_or p place (pos 0, [])

-- The list is a front, a term unless its coefficient is zero, and the terms behind it, which begin at the place.
pub record IsPut (front : List Term) (coefficient : ℤ) (word : List ℕ) (behind : List Term) (next : ℕ) (p : List Term) : Type 0 where
  pub whole : p ≡ (front ++ keep coefficient word []) ++ behind
  pub begins : next ≡ length (front ++ keep coefficient word [])
