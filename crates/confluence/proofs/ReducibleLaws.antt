-- Sums of rows over resolved rules have a reducible greatest word.
use Rattle.std.proofs.Common.{◌≡◌, ◌≢◌, ◌⊎◌, inl, inr, ℕ, pos, List, ◌++◌, length, sym, ap, ◌∙◌, subst}
use Rattle.std.specs.List.{All}
use Rattle.definitions.specs.Poly.{Word, Term, coefficient_of}
use Rattle.word_core.proofs.Places.{OccursAt-between}
use Rattle.word_core.specs.Occurrence.{OccursAt}
use Rattle.word_orders.proofs.Orders.{order_from_laws, over_range, less_below}
use Rattle.word_orders.specs.Admissible.{Compare, IsAdmissible}
use Rattle.word_orders.specs.Orders.{Order, IsBelow}
use Rattle.rule_reduce.specs.RuleLists.{IsRule, polynomials_of}
use Rattle.rule_reduce.specs.declared.rule.Rule.{Rule}
use Rattle.ambiguities.specs.Ambiguities.{overlap_word_of}
use Rattle.confluence.specs.Reducible.{IsReducible, HasReducibleGreatest, ReducibleBelow, ReducibleInIdeal}
use Rattle.confluence.specs.Reductions.{IsNonzero}
use Rattle.confluence.proofs.Led.{led_at-is}
use Rattle.confluence.proofs.LedRules.{leds_are, ordered}
use Rattle.confluence.proofs.Spans.{Coefs, Span}
use Rattle.confluence.proofs.Confluence.{HasTopRow}
use Rattle.confluence.proofs.Meets.{Allowed, Row, Resolved}
use Rattle.confluence.proofs.Closed.{setting, zero_or_reducible}
use Rattle.confluence.proofs.Outside.{AnyRow, span_word}
use Rattle.confluence.proofs.Resolve.{everything, below}
use Rattle.confluence.proofs.Resolved.{all_resolved}
use Rattle.confluence.proofs.FreeRows.{ideal_span, free_span}
use Rattle.confluence.proofs.BelowSpans.{below_span}

module _ (letters : ℕ) (compare : Compare) (rank : List ℕ → List ℕ) (laws : IsAdmissible letters compare rank) (rules : List Rule) (are : All (IsRule letters compare) rules) where
  abbrev order : Order
  order = order_from_laws letters compare rank laws

  -- where a row ends at a word, the leading word of its rule occurs there
  reducible_row : (q : Allowed order) (word : Word) (b : Coefs) → Row order (ordered letters compare rank laws rules are) q word b → IsReducible rules word
  reducible_row q word b row = let (g, numbered) = row.has in
      record {
        number = row.number;
        rule = g;
        numbered = numbered;
        place = length row.left;
        occurs = subst (λ w. OccursAt w g.lead (length row.left)) (sym (row.top ∙ ap (λ r. row.left ++ (r.lead ++ row.right)) (led_at-is rules row.number g numbered))) (OccursAt-between row.left g.lead row.right);
      }

  pub reducible_span : (q : Allowed order) → Resolved order (ordered letters compare rank laws rules are) q → (p : List Term) → Span (AnyRow order (ordered letters compare rank laws rules are) q) (coefficient_of p) → IsNonzero p → HasReducibleGreatest letters compare rules p
  reducible_span q res p sp some = go (zero_or_reducible order (ordered letters compare rank laws rules are) q res (coefficient_of p) sp)
    where
      go : ((w : Word) → coefficient_of p w ≡ pos 0) ⊎ HasTopRow (setting order (ordered letters compare rank laws rules are) q res) (coefficient_of p) → HasReducibleGreatest letters compare rules p
      go (inl zero) = absurd (some.occurs (zero some.word))
      go (inr top) = record {
        word = top.word;
        occurs = top.occurs;
        greatest = λ w occurs. at_most w occurs (order.compare w top.word (in_range w occurs) (in_range top.word top.occurs));
        reducible = reducible_row q top.word top.row.0 top.row.1;
      }
        where
          in_range : (w : Word) → coefficient_of p w ≢ pos 0 → order.Range w
          in_range w occurs = elim (span_word order (ordered letters compare rank laws rules are) q (coefficient_of p) sp w) [
            | inl zero ↦ absurd (occurs zero)
            | inr held ↦ held.0
          ]

          at_most : (w : Word) → coefficient_of p w ≢ pos 0 → (w ≡ top.word) ⊎ (order.Less w top.word ⊎ order.Less top.word w) → (w ≡ top.word) ⊎ IsBelow letters compare w top.word
          at_most w occurs (inl same) = inl same
          at_most w occurs (inr (inl less)) = inr (less_below letters compare rank laws w top.word less)
          at_most w occurs (inr (inr more)) = absurd (occurs (top.greatest w more))

pub reducible_below : ReducibleBelow
reducible_below letters compare rank rules bound p laws are resolved comes some =
    let o = order_from_laws letters compare rank laws in
    reducible_span letters compare rank laws rules are (below o bound)
    (all_resolved letters compare rank laws rules are (below o bound) (λ a is less. resolved.each a is (less_below letters compare rank laws (overlap_word_of rules a) bound less)))
    p (below_span letters compare rank laws rules are bound p comes) some

pub reducible_in_ideal : ReducibleInIdeal
reducible_in_ideal letters compare rank rules p laws are resolved inside over some =
    let o = order_from_laws letters compare rank laws in
    reducible_span letters compare rank laws rules are (everything o) (all_resolved letters compare rank laws rules are (everything o) (λ a is any. resolved.each a is)) p
    (free_span o rules (leds_are letters compare rank laws rules are) p (λ w occurs. over_range letters compare rank laws w (over.at w occurs))
    (ideal_span (polynomials_of rules) p inside)) some
