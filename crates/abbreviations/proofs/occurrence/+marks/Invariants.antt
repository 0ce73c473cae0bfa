use Rattle.abbreviations.proofs.Prelude.{◌≡◌, drop, list_any, has_quote_in_term}
use Rattle.abbreviations.proofs.Trees.{has_quote_in_factor}
use Rattle.abbreviations.proofs.occurrence.+marks.Given as goal

abbrev pub invariant-has_quote-loop-term : goal.invariant-has_quote-loop-term
invariant-has_quote-loop-term l = list_any has_quote_in_term (drop l.term-index l.term-items) ≡ list_any has_quote_in_term l.term-items

abbrev pub invariant-has_quote_in_term-loop-factor : goal.invariant-has_quote_in_term-loop-factor
invariant-has_quote_in_term-loop-factor l = list_any has_quote_in_factor (drop l.factor-index l.factor-items) ≡ list_any has_quote_in_factor l.factor-items
