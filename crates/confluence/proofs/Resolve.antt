-- Bounds for the words of rows.
use Rattle.std.proofs.Common.{◌≢◌, inl, refl, List, pos}
use Rattle.definitions.specs.Poly.{coefficient_of, Word, Term}
use Rattle.word_orders.specs.Orders.{Order}
use Rattle.confluence.proofs.Meets.{Allowed}
use Rattle.confluence.proofs.Outside.{at_most_of}
use Rattle.confluence.proofs.LedRules.{Bounded, bounded_from}

-- the bounds
abbrev pub everything : (o : Order) → Allowed o
everything o = record { May = λ _. Unit {0}; closed = λ _ _ _ _. tt }

abbrev pub below : (o : Order) → Word → Allowed o
below o W = record { May = λ u. o.Less u W; closed = λ u v h k. o.less_trans u v W h k }

abbrev pub InRange : (o : Order) → List Term → Type 0
InRange o p = (w : Word) → coefficient_of p w ≢ pos 0 → o.Range w

module _ (o : Order) where
  -- each word of a polynomial in range is at most one of its own
  pub bounded_self : (p : List Term) → InRange o p → Bounded o (at_most_of o p) p
  bounded_self p r = bounded_from o (at_most_of o p) p (λ w n. (r w n, record { word = w; occurs = n; at_most = inl refl }))
