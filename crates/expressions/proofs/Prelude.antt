-- What the proofs here take from std, from the crates below and from this crate's definitions, each name once.
pub use Rattle.std.proofs.Common.{Bool, Err, IfErr, IfOk, List, MatchResult, None, Ok, Option, Result, Some, [], ap, append_assoc, ap₂, arith, cond, drop, eq-eqb, eqb-true, false, get_or, inl, inr, length, lt-ltb, map, nat_eq, nat_lt, neg_ℤ, negsuc, not, of_z, pos, refl, replicate, rules, set, slice_get, subst, suc, sym, take, to_z, true, zero, ℕ, ℤ, ◌%◌, ◌&&◌, ◌*ℤ◌, ◌*◌, ◌++◌, ◌+ℤ◌, ◌+◌, ◌-◌, ◌/◌, ◌<◌, ◌^◌, ◌||◌, ◌∙◌, ◌∷◌, ◌≡◌, ◌≢◌, ◌≤◌, ◌⊎◌}
pub use Rattle.std.proofs.Math.IntN.{+ℤ_idl, +ℤ_idr, negsuc-*ℤ-negsuc, negsuc-*ℤ-pos}
pub use Rattle.std.proofs.Math.Seq.{drop-cons}
pub use Rattle.std.proofs.lemmas.Bool.{and_from, and_parts, cases_lt, cond_both, le-ltb, ltb-false, ltb-true, or_left, or_right}
pub use Rattle.std.proofs.lemmas.Bool.Decides.{nat_tests}
pub use Rattle.std.proofs.lemmas.Cmp.{back_total}
pub use Rattle.std.proofs.lemmas.Fn.{always_returns_same}
pub use Rattle.std.proofs.lemmas.Int.{ints}
pub use Rattle.std.proofs.lemmas.List.{append-nil, drop_all, get_or-drop, get_or_default, get_or_past, length-append, length-drop, length-map, map-append, nil_from_length, set_split, take_all}
pub use Rattle.std.proofs.lemmas.List.Elements.{All-append, All-cons, All-drop, All-head, All-map, All-nil, All-push, All-replicate, All-tail, All-weaker}
pub use Rattle.std.proofs.lemmas.List.Sorted.{searchable_from_sorted}
pub use Rattle.std.specs.Cmp.{both_ways}
pub use Rattle.std.specs.Int.{w128}
pub use Rattle.std.specs.Int.RustNames.{unsigned_abs}
pub use Rattle.std.specs.List.{All, AllByRecursion, AllWithin, HoldsAt, insert, list_all, list_any, remove}
pub use Rattle.std.specs.List.Sorted.{IsBinarySearchResult, IsNonDecreasingBy}
pub use Rattle.std.specs.Map.{lookup}
pub use Rattle.std.specs.Option.{option_map}
pub use Rattle.std.specs.Ordering.{is_lt, ordering_index}
pub use Rattle.std.specs.Str.{bytes_eq}
pub use Rattle.std.specs.Vec.Iter.{into_iter_items, into_iter_len}
pub use Rattle.std.specs.declared.cmp.Ordering.{Ordering}
pub use Rattle.std.specs.declared.cmp.Ordering.TheVariants.{Equal, Greater, Less}
pub use Rattle.definitions.proofs.Adjoints.{adjoint_word-append, is_path-adjoint_word}
pub use Rattle.definitions.proofs.Linear.{word_eq-same, word_eq-true}
pub use Rattle.definitions.proofs.Paths.{leads-append}
pub use Rattle.definitions.specs.Generators.{adjoint_poly, adjoint_word}
pub use Rattle.definitions.specs.Poly.{Poly, Term, Term as term, coefficient_of, poly_between, word_eq}
pub use Rattle.definitions.specs.Quiver.{IsQuiver, Quiver, is_path, letters, source, star, target}
pub use Rattle.coef_int.specs.Operations.{first_overflow, product_of, sum_of}
pub use Rattle.coef_int.specs.Range.{IsCoefficient, is_coefficient}
pub use Rattle.coef_int.specs.declared.Overflow.{Overflow}
pub use Rattle.word_core.proofs.Order.{word_cmp-itself, word_cmp-same, word_cmp-turned, word_cmp-turned_back}
pub use Rattle.word_core.specs.Canonical.{word_cmp, word_cmp_total}
pub use Rattle.word_core.specs.Letters.{IsOver}
pub use Rattle.word_core.specs.declared.letter.Letter.{Letter}
pub use Rattle.nc_polynomial.proofs.Around.{shaped-between}
pub use Rattle.nc_polynomial.proofs.Chains.{finished-value, first-fails, first-fits, no_error, shaped_add, sized-value}
pub use Rattle.nc_polynomial.proofs.Checked.{checked-fits, join, keep-append, keep-nonzero, total_from}
pub use Rattle.nc_polynomial.proofs.CollectedTerms.{coefficient_of-collected, collected-end, descending-collected, nonzero-collected}
pub use Rattle.nc_polynomial.proofs.Distinct.{AreDistinct, coefficient-ranged, distinct-descending, none_listed, ranged-descending}
pub use Rattle.nc_polynomial.proofs.OneTerm.{behind, canonical-step, canonical_none, from-step, long_word, made-step, one-left_fault, overflows-one, times_term}
pub use Rattle.nc_polynomial.proofs.Products.{canonical_sized, step_refuses}
pub use Rattle.nc_polynomial.proofs.RunningSums.{not_long, sum_with_none}
pub use Rattle.nc_polynomial.proofs.Shapes.{IsDescending-from_recursion, IsInRange, all-aligned, all-scaled, all-totals, all_middle, recursion_from_IsDescending, shaped-negated}
pub use Rattle.nc_polynomial.proofs.Steps.{drop_next}
pub use Rattle.nc_polynomial.proofs.Units.{one-*ℤ}
pub use Rattle.nc_polynomial.proofs.Words.{word_eq-turned}
pub use Rattle.nc_polynomial.specs.Arithmetic.{combined, difference_result, multiple_result, sum_result}
pub use Rattle.nc_polynomial.specs.Collected.{additions, collected, collection_result}
pub use Rattle.nc_polynomial.specs.Faults.{Explains, checked, has_long_word, size_fault, sized, unless_overflow}
pub use Rattle.nc_polynomial.specs.Limits.{term_limit, word_limit}
pub use Rattle.nc_polynomial.specs.Product.{and_then, product_result, product_step}
pub use Rattle.nc_polynomial.specs.Shape.{IsCanonical, IsShaped}
pub use Rattle.nc_polynomial.specs.Terms.{Pair, added, aligned, aligned_at, by_order, keep, negated, only_right, products, scaled, sums, total_operations, totals}
pub use Rattle.nc_polynomial.specs.declared.fault.PolyFault.{PolyFault}
pub use Rattle.quiver.proofs.Counts.{letters-quiver_of}
pub use Rattle.quiver.proofs.Found.{is_named}
pub use Rattle.quiver.proofs.Growth.{letter_in_seam, letters_from, longer, names_from}
pub use Rattle.quiver.proofs.Identities.{identity_in_range, identity_is, is_quiver}
pub use Rattle.quiver.proofs.Letters.{in_range_from_table, letter_is, star-quiver_of}
pub use Rattle.quiver.proofs.TypedTerms.{typed_from_paths}
pub use Rattle.quiver.specs.Declarations.{Declaration, IsDeclared, LetterEntry, ObjectsFirst, arrow, identity_in, is_arrow, letter_at, letter_count, letter_table, letters_of, named_in, object, object_count, objects_first, quiver_of}
pub use Rattle.quiver.specs.Tables.{letter_in}
pub use Rattle.quiver.specs.declared.named.Named.{Named}
pub use Rattle.quiver.specs.declared.named.Named.TheVariants.{Map, Object}
pub use Rattle.quiver.specs.declared.named.Sig.{Sig}
pub use Rattle.statement_tokens.specs.declared.place.Spot.{Spot}
pub use Rattle.statement_syntax.specs.declared.tree.Factor.{Factor}
pub use Rattle.statement_syntax.specs.declared.tree.Mark.{Mark}
pub use Rattle.statement_syntax.specs.declared.tree.Mark.TheVariants.{Adjoint, Power}
pub use Rattle.statement_syntax.specs.declared.tree.Name.{Name}
pub use Rattle.statement_syntax.specs.declared.tree.Number.{Number}
pub use Rattle.statement_syntax.specs.declared.tree.Primary.{Bracket, Identity, Letter as letter, Primary}
pub use Rattle.statement_syntax.specs.declared.tree.Sum.{Row_of-Term, Sum, Sum', end_of-Term, items-the_row-Term, items_shown-the_row-Term-0, more_of-Term, out-Sum, the_lemmas}
pub use Rattle.statement_syntax.specs.declared.tree.Term.{Row_of-Factor, Term', end_of-Factor, items-the_row-Factor, items_shown-the_row-Factor-1, more_of-Factor, out-Term, out-roll-Term, outs-Term', roll-Term}
pub use Rattle.adjoint_rules.proofs.Stars.{stars_are_involution}
pub use Rattle.abbreviations.proofs.Trees.{names_of_the_factor, names_of_the_term, of_sum, of_term}
pub use Rattle.abbreviations.specs.Names.{are_names, are_names_of_factors, are_names_of_primary, are_names_of_term, are_names_of_terms, is_map, is_object, letter_number, letter_of, object_number, object_of}
pub use Rattle.abbreviations.specs.Occurrences.{has_identity, has_identity_in_factors, has_identity_in_primary, has_identity_in_term, has_identity_in_terms, has_quote, has_quote_in_factors, has_quote_in_primary, has_quote_in_term, has_quote_in_terms, is_adjoint, is_the_object}
pub use Rattle.expressions.specs.Begun.{product_begun}
pub use Rattle.expressions.specs.Due.{due_marked, due_poly}
pub use Rattle.expressions.specs.Laws.{EquationsAreTyped, IsWritten, LettersAreWritten}
pub use Rattle.expressions.specs.Polynomials.{Summand, equation_poly, factor_poly, factor_polys, is_negative, letter_poly, mark_poly, marked_poly, power_poly, primary_poly, product_from, product_poly, scaled_by, signed, sum_poly, summands, term_poly, total}
pub use Rattle.expressions.specs.Repeated.{repeated_word}
pub use Rattle.expressions.specs.Results.{◌>>=◌}
pub use Rattle.expressions.specs.Signatures.{HasObjects, Part, equation_signature, factor_signature, from_to, is_repeated, letter_signature, mark_signature, marked_signature, not_composable, open_zero, product_signature, repeated, same_ends, sides_signature, sum_at, sum_from, sum_mismatch, sum_signature, sum_step, term_at, term_signature, turned}
pub use Rattle.expressions.specs.declared.fault.SignatureFault.{SignatureFault}
pub use Rattle.expressions.specs.declared.powers.Marked.{Marked}
