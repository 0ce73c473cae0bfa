-- What comes from rules below a word, as sums of rows, and back.
use Rattle.std.proofs.Common.{ℕ, List, [], ◌∷◌, ◌++◌, arith}
use Rattle.std.proofs.lemmas.List.Elements.{All-nil, All-cons, All-tail}
use Rattle.std.specs.List.{All}
use Rattle.definitions.specs.Combination.{RowsAreBelow}
use Rattle.definitions.specs.Poly.{Word, Term, coefficient_of}
use Rattle.word_orders.proofs.Orders.{order_from_laws, below_less, less_below}
use Rattle.word_orders.specs.Admissible.{Compare, IsAdmissible}
use Rattle.word_orders.specs.Orders.{Order}
use Rattle.rule_reduce.specs.RuleLists.{IsRule, polynomials_of}
use Rattle.rule_reduce.specs.declared.rule.Rule.{Rule}
use Rattle.ambiguities.specs.Resolved.{is_below, ComesBelow}
use Rattle.definitions.specs.Combination.{Row}
use Rattle.confluence.proofs.Led.{IsAskedRow, Comes}
use Rattle.confluence.proofs.Tests.{below_from_test, test_from_below}
use Rattle.confluence.proofs.LedRules.{leds_are, ordered}
use Rattle.confluence.proofs.Outside.{AnyRow}
use Rattle.confluence.proofs.Resolve.{below}
use Rattle.confluence.proofs.Spans.{Span}
use Rattle.confluence.proofs.SumRows.{comes_from_span, span_from_comes}

module _ (letters : ℕ) (compare : Compare) (rank : List ℕ → List ℕ) (laws : IsAdmissible letters compare rank) where
  abbrev order : Order
  order = order_from_laws letters compare rank laws

  -- rows below a word, by the test and in the order
  abbrev Within : List (List Term) → Word → List Row → Type 0
  Within polys bound = All (IsAskedRow polys (λ w. order.Less w bound))

  within : (polys : List (List Term)) (bound : Word) (rows : List Row) → RowsAreBelow (is_below letters compare) polys bound rows → Within polys bound rows
  within polys bound [] each = All-nil (IsAskedRow polys (λ w. order.Less w bound))
  within polys bound (r ∷ rows) each = All-cons (IsAskedRow polys (λ w. order.Less w bound)) r rows
      (λ w some. below_less letters compare rank laws (r.left ++ (w ++ r.right)) bound (below_from_test letters compare (r.left ++ (w ++ r.right)) bound (each.0 w some))) (within polys bound rows each.1)

  tested : (polys : List (List Term)) (bound : Word) (rows : List Row) → Within polys bound rows → RowsAreBelow (is_below letters compare) polys bound rows
  tested polys bound [] each = tt
  tested polys bound (r ∷ rows) each = (
    λ w some. test_from_below letters compare (r.left ++ (w ++ r.right)) bound (less_below letters compare rank laws (r.left ++ (w ++ r.right)) bound (each 0 r (omega arith) w some)),
    tested polys bound rows (All-tail (IsAskedRow polys (λ w. order.Less w bound)) r rows each),
  )

  pub comes_from_below : (polys : List (List Term)) (bound : Word) (p : List Term) → ComesBelow letters compare polys bound p → Comes polys (λ w. order.Less w bound) p
  comes_from_below polys bound p below = record { multiplier = below.denominator; rows = below.rows; combination = below.combination.combination; within = within polys bound below.rows below.combination.rows_below }

  pub below_from_comes : (polys : List (List Term)) (bound : Word) (p : List Term) → Comes polys (λ w. order.Less w bound) p → ComesBelow letters compare polys bound p
  below_from_comes polys bound p c = record { denominator = c.multiplier; rows = c.rows; combination = record { combination = c.combination; rows_below = tested polys bound c.rows c.within } }

  module _ (rules : List Rule) (are : All (IsRule letters compare) rules) where
    -- what comes below a word is a sum of rows below it
    pub below_span : (bound : Word) (p : List Term) → ComesBelow letters compare (polynomials_of rules) bound p
        → Span (AnyRow order (ordered letters compare rank laws rules are) (below order bound)) (coefficient_of p)
    below_span bound p comes =
        span_from_comes order rules (leds_are letters compare rank laws rules are)
        (below order bound) (λ w. order.Less w bound) (λ u less. (order.less_range u bound less, less)) p
        (comes_from_below (polynomials_of rules) bound p comes)

    -- and back
    pub below_from_span : (bound : Word) (p : List Term) → Span (AnyRow order (ordered letters compare rank laws rules are)
        (below order bound)) (coefficient_of p) → ComesBelow letters compare (polynomials_of rules) bound p
    below_from_span bound p sp =
        below_from_comes (polynomials_of rules) bound p
        (comes_from_span order rules
        (leds_are letters compare rank laws rules are) (below order bound) (λ w. order.Less w bound) (λ u range less. less) p sp)
