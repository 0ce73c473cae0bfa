-- What the proofs here take from std, from the crates below and from this crate's definitions, each name once.
pub use Rattle.std.proofs.Common.{Bool, Contains, Err, IsSomeAnd, List, None, Ok, Option, Result, Some, [], ap, append-nil, append_assoc, ap₂, arith, cond, drop, false, get_or, inl, inr, int_div, length, map, nat_lt, neg_ℤ, negsuc, pos, refl, slice_get, subst, suc, sym, take, true, zero, ℕ, ℤ, ◌*ℤ◌, ◌++◌, ◌+ℤ◌, ◌+◌, ◌<ℤ◌, ◌<◌, ◌∙◌, ◌∷◌, ◌≡◌, ◌≢◌, ◌≤◌, ◌⊎◌}
pub use Rattle.std.proofs.Math.IntN.{+ℤ_idr, zero-*ℤ}
pub use Rattle.std.proofs.lemmas.Bool.{and_from, and_parts}
pub use Rattle.std.proofs.lemmas.Int.{ints}
pub use Rattle.std.proofs.lemmas.List.{length-append, nil_from_length, take-append-drop, take_at}
pub use Rattle.std.proofs.lemmas.List.Elements.{All-cons, All-contains, All-from_recursion, All-head, All-nil, All-push, All-tail, All-take, All-weaker}
pub use Rattle.std.proofs.lemmas.List.Folds.{list_all-append}
pub use Rattle.std.proofs.lemmas.Nat.Gcd.{dvd-zero, dvd_trans}
pub use Rattle.std.proofs.lemmas.Option.{slice_get_within}
pub use Rattle.std.specs.Int.{IsNonNegative, ◌∣◌}
pub use Rattle.std.specs.Int.RustNames.{unsigned_abs}
pub use Rattle.std.specs.List.{All, AllByRecursion, list_all}
pub use Rattle.std.specs.Option.{option_map}
pub use Rattle.std.specs.declared.cmp.Ordering.TheVariants.{Greater}
pub use Rattle.definitions.proofs.Coefficients.{coefficient_of-append, coefficient_of-multiple}
pub use Rattle.definitions.specs.Combination.{InRationalIdeal, generator_at}
pub use Rattle.definitions.specs.Poly.{SamePolynomial, Term, Word, coefficient_of, poly_between, poly_multiple}
pub use Rattle.definitions.specs.Quiver.{IsPath, Quiver}
pub use Rattle.coef_int.proofs.Divisors.{gcd_of-IsGcd}
pub use Rattle.coef_int.specs.Divisor.{gcd_of}
pub use Rattle.coef_int.specs.Operations.{first_overflow, product_of}
pub use Rattle.coef_int.specs.Range.{IsCoefficient}
pub use Rattle.coef_int.specs.declared.Overflow.{Overflow}
pub use Rattle.word_core.proofs.CanonicalLaws.{word_cmp-admissible}
pub use Rattle.word_core.specs.Canonical.{word_cmp}
pub use Rattle.word_core.specs.Letters.{IsOver}
pub use Rattle.word_core.specs.Occurrence.{OccursNowhere}
pub use Rattle.traced_rows.proofs.Lists.{all_one, all_two}
pub use Rattle.traced_rows.specs.Traces.{traced_sum}
pub use Rattle.traced_rows.specs.declared.Made.{Made}
pub use Rattle.traced_rows.specs.declared.Origin.{Origin}
pub use Rattle.traced_rows.specs.declared.Row.{Row}
pub use Rattle.cofactor_trace.specs.Laws.{AreTraces, Traces}
pub use Rattle.nc_polynomial.proofs.Around.{shaped-between}
pub use Rattle.nc_polynomial.proofs.Chains.{finished-value, first-append, or_first, ranged_multiply, shaped_add, shaped_scale, sized-value}
pub use Rattle.nc_polynomial.proofs.Distinct.{distinct-descending, words_listed}
pub use Rattle.nc_polynomial.proofs.Divisors.{content-zero, quotient_times}
pub use Rattle.nc_polynomial.proofs.Kept.{product_nonzero}
pub use Rattle.nc_polynomial.proofs.Products.{canonical_sized, shaped_shift}
pub use Rattle.nc_polynomial.proofs.Shapes.{Descends, IsDescending-from_recursion, descending-scaled, nonzero-scaled, recursion_from_IsDescending, shaped-negated}
pub use Rattle.nc_polynomial.specs.Arithmetic.{combined}
pub use Rattle.nc_polynomial.specs.Content.{IsContent}
pub use Rattle.nc_polynomial.specs.Faults.{IsMemory, checked, has_long_word, size_fault, sized, unless_overflow}
pub use Rattle.nc_polynomial.specs.Limits.{term_limit}
pub use Rattle.nc_polynomial.specs.Product.{and_then}
pub use Rattle.nc_polynomial.specs.Shape.{IsCanonical, IsShaped}
pub use Rattle.nc_polynomial.specs.Terms.{IsDescending, added, multiplications, multiplied, negated, products, scaled, shifted, sums}
pub use Rattle.nc_polynomial.specs.declared.fault.PolyFault.{PolyFault}
pub use Rattle.word_orders.proofs.Orders.{less_below, order_from_laws, over_range}
pub use Rattle.word_orders.specs.Admissible.{Compare, IsAdmissible}
pub use Rattle.word_orders.specs.Orders.{IsBelow, Order}
pub use Rattle.word_orders.specs.Rank.{rank_of}
pub use Rattle.rule_reduce.proofs.AtMost.{leading-all}
pub use Rattle.rule_reduce.proofs.Exits.{multiplied-scaled}
pub use Rattle.rule_reduce.proofs.KeptWordLaws.{letters_are_kept, types_are_kept}
pub use Rattle.rule_reduce.proofs.Numbers.{rule_at-all, rule_at-polynomial}
pub use Rattle.rule_reduce.proofs.Runs.{move_result-value}
pub use Rattle.rule_reduce.proofs.WordsKept.{words_with_coefficients}
pub use Rattle.rule_reduce.specs.Choices.{choice_of}
pub use Rattle.rule_reduce.specs.KeptWords.{IsAtMostOf, IsInPlay, IsPolyInPlay, IsTypedRule}
pub use Rattle.rule_reduce.specs.Laws.{IsByRule, IsIrreducible}
pub use Rattle.rule_reduce.specs.Leading.{leading_term}
pub use Rattle.rule_reduce.specs.NormalForms.{at_limit, halt_of, normal_form_of, one_step, reduction, start_of, then_next}
pub use Rattle.rule_reduce.specs.RuleLists.{IsRule, entries_of, polynomials_of, rule_at, rule_from}
pub use Rattle.rule_reduce.specs.Steps.{Move, if_sized, less_operations, move_of, move_operations, move_result, moved, row_operations, state_operations, step_by, step_result}
pub use Rattle.rule_reduce.specs.declared.fault.ReduceFault.{ReduceFault}
pub use Rattle.rule_reduce.specs.declared.rule.Rule.{Rule}
pub use Rattle.rule_reduce.specs.declared.state.Choice.{Choice}
pub use Rattle.rule_reduce.specs.declared.state.State.{State}
pub use Rattle.ambiguities.proofs.Balance.{s_polynomials_balance}
pub use Rattle.ambiguities.proofs.Bounds.{coefficient_of-s_polynomial, of_either}
pub use Rattle.ambiguities.proofs.Joined.{first_splits, lead_at-is, leading_at-is, overlap_word-is, second_splits}
pub use Rattle.ambiguities.proofs.Multiples.{leading_coefficient, passed}
pub use Rattle.ambiguities.proofs.Numbers.{rule_at-first, rule_at-last}
pub use Rattle.ambiguities.proofs.Signatures.{s_polynomials_are_typed}
pub use Rattle.ambiguities.specs.Ambiguities.{IsAmbiguity, MeetsAs, joined_word, lead_at, overlap_word_of}
pub use Rattle.ambiguities.specs.Resolved.{ComesBelow, IsResolved, Resolved, s_sum}
pub use Rattle.ambiguities.specs.SPolynomials.{first_row, leading_at, row_multiple, s_polynomial_of, s_rows_of, second_row}
pub use Rattle.ambiguities.specs.declared.ambiguity.Ambiguity.{Ambiguity}
pub use Rattle.ambiguities.specs.declared.ambiguity.Kind.{Kind}
pub use Rattle.ambiguities.specs.declared.ambiguity.Kind.TheVariants.{Inclusion, Overlap}
pub use Rattle.confluence.specs.Conclusions.{AreAllDone, NonzeroIsNotBelow, NonzeroIsOutside, NothingPending, ResolvedBelowPending, ResolvedWhereClosed}
pub use Rattle.confluence.specs.Kept.{AmbiguitiesAreKept, AreApart, AreRecorded, GeneratorsAreKept, HaveLettersBelow, IsReached, IsRecorded, Kept, ResolvedAtOnceIsKept, StartIsKept}
pub use Rattle.confluence.specs.Making.{PushedRulesAreMade}
pub use Rattle.confluence.specs.Places.{IsApart, IsFromAmbiguity, IsOnePlace, IsPlace, Place, PlacesOfOneWord, RowsApartDiffer, place_poly}
pub use Rattle.confluence.specs.Reductions.{HasLettersBelow, IsNonzero, IsReduced, IsZero}
pub use Rattle.confluence.specs.Rests.{AddsUpTo, IsAppended, IsEarlier, IsMadeOf, generator_rows, nothing_left, rows_less, rule_made, signed, signed_rows}
pub use Rattle.confluence.specs.Shapes.{NormalFormsAreShaped, RestsHaveLettersBelow, SPolynomialsAreShaped}
pub use Rattle.confluence.specs.Typed.{AreTypedInPlay, IsTypedInPlay, NormalFormsStayTyped, RulesStayTyped, SPolynomialsStayTyped, TypedHasNoEmptyWord}
