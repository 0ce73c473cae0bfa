-- What the proofs here take from std, from the crates below and from this crate's definitions, each name once.
pub use Rattle.std.proofs.Common.{Bool, Err, FitsSigned, IfErr, IfOk, List, MatchResult, None, Ok, Option, Result, Some, [], ap, append_assoc, ap₂, arith, cond, drop, false, get_or, inl, inr, length, map, nat_le, nat_lt, neg_ℤ, negsuc, of_z, pos, refl, rules, subst, sym, take, to_z, true, unwrap_or, ℕ, ℤ, ◌*ℤ◌, ◌++◌, ◌+ℤ◌, ◌+◌, ◌-◌, ◌<◌, ◌^◌, ◌||◌, ◌∙◌, ◌∷◌, ◌≡◌, ◌≢◌, ◌≤◌}
pub use Rattle.std.proofs.Math.IntN.{*ℤ-zero, +ℤ_comm, +ℤ_idl, +ℤ_idr}
pub use Rattle.std.proofs.lemmas.Bool.{and_from, cases_Bool, cases_lt, cond_both, le-leb, le-ltb, leb-true, lt-ltb}
pub use Rattle.std.proofs.lemmas.Grind.{common_steps}
pub use Rattle.std.proofs.lemmas.Int.{fits_signed_from_abs, ints, to_z-of_z}
pub use Rattle.std.proofs.lemmas.List.{append-nil, drop_all, drop_more, get_or_past, length-append, length-map, map-append, nil_from_length, take-append-drop, take_all, take_more}
pub use Rattle.std.proofs.lemmas.List.Edits.{map_over_more}
pub use Rattle.std.proofs.lemmas.List.Elements.{All-cons, All-head, All-map, All-nil, All-push, All-set, All-tail}
pub use Rattle.std.proofs.lemmas.Slice.Eq.{slice_eq-Decides}
pub use Rattle.std.specs.BTreeMap.{BTreeMap, IsOrdered, Updates, btree_map_len, get}
pub use Rattle.std.specs.Cmp.{both_ways}
pub use Rattle.std.specs.Int.{IsGcd, w128, ◌∣◌}
pub use Rattle.std.specs.Int.RustNames.{int_div, unsigned_abs}
pub use Rattle.std.specs.List.{All, AllByRecursion, list_all}
pub use Rattle.std.specs.Ordering.{is_eq}
pub use Rattle.std.specs.Prelude.{option_to_list}
pub use Rattle.std.specs.Result.{IsErrAnd}
pub use Rattle.std.specs.Vec.Iter.{into_iter_items, into_iter_len}
pub use Rattle.std.specs.declared.cmp.Ordering.{Ordering}
pub use Rattle.std.specs.declared.cmp.Ordering.TheVariants.{Equal, Greater, Less}
pub use Rattle.definitions.proofs.Coefficients.{Same_refl, at_word, coefficient_of-append}
pub use Rattle.definitions.proofs.Linear.{coefficient_other, word_eq-same, word_eq-true}
pub use Rattle.definitions.specs.Generators.{adjoint_poly, adjoint_word}
pub use Rattle.definitions.specs.Poly.{SamePolynomial, Term, coefficient_of, poly_between, poly_multiple, word_eq}
pub use Rattle.definitions.specs.Quiver.{Quiver}
pub use Rattle.lists.specs.declared.stop.Stop.{Stop}
pub use Rattle.coef_int.specs.Operations.{first_overflow, product_of, sum_of}
pub use Rattle.coef_int.specs.Range.{IsCoefficient, is_coefficient}
pub use Rattle.coef_int.specs.declared.Overflow.{Overflow}
pub use Rattle.word_core.proofs.Order.{word_cmp-same, word_cmp-turned}
pub use Rattle.word_core.specs.Canonical.{word_cmp}
pub use Rattle.nc_polynomial.specs.Adjoint.{IsAdjoint, IsInvolution, numbers_of, reversed_star, star_in}
pub use Rattle.nc_polynomial.specs.Arithmetic.{combined, difference_result, sum_result}
pub use Rattle.nc_polynomial.specs.Ascending.{reversed}
pub use Rattle.nc_polynomial.specs.Collected.{additions, coefficient_in, collected, collection_result}
pub use Rattle.nc_polynomial.specs.Content.{IsContent}
pub use Rattle.nc_polynomial.specs.Faults.{Explains, checked, has_long_word, size_fault, sized, unless_overflow}
pub use Rattle.nc_polynomial.specs.Product.{and_then, product_from, product_result, product_step}
pub use Rattle.nc_polynomial.specs.Running.{Adds, IsRunning, terms_in}
pub use Rattle.nc_polynomial.specs.Shape.{IsCanonical, IsShaped}
pub use Rattle.nc_polynomial.specs.Stops.{IsSameFault, IsStoppedBy}
pub use Rattle.nc_polynomial.specs.Terms.{Pair, added, aligned, aligned_at, by_order, keep, multiplications, multiplied, negated, only_right, products, scaled, shifted, sums, total_operations, totals}
pub use Rattle.nc_polynomial.specs.declared.fault.PolyFault.{PolyFault}
