-- The leading term of a polynomial in an order of words.
use Rattle.std.specs.Prelude.{List, [], ◌∷◌, Option, Some, None}
use Rattle.word_orders.specs.Admissible.{Compare}
use Rattle.definitions.specs.Poly.{Term}
use Rattle.nc_polynomial.specs.Terms.{by_order}

-- of two terms the one with the greater word
abbrev pub greater_term : Compare → Term → Term → Term
greater_term compare best t = by_order (compare t.1 best.1) best best t

abbrev pub greatest_from : Compare → Term → List Term → Term
greatest_from compare best [] = best
greatest_from compare best (t ∷ p) = greatest_from compare (greater_term compare best t) p

-- the term with the greatest word; the polynomial zero has none
abbrev pub leading_term : Compare → List Term → Option Term
leading_term compare [] = None
leading_term compare (t ∷ p) = Some (greatest_from compare t p)
