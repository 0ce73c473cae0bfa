-- What the proofs here take from std, from the crates below and from this crate's definitions, each name once.
pub use Rattle.std.proofs.Common.{Bool, List, [], ap, append_assoc, ap₂, arith, cond, drop, eq-eqb, eqb, eqb-true, false, get_or, inl, inr, leb, length, lt-ltb, ltb, ltb-true, map, neg_ℤ, negsuc, option_to_list, refl, rules, subst, suc, sym, take, true, zero, ℕ, ℤ, ◌*◌, ◌++◌, ◌+◌, ◌-◌, ◌<◌, ◌||◌, ◌∙◌, ◌∷◌, ◌≡◌, ◌≤◌, ◌⊎◌}
pub use Rattle.std.proofs.lemmas.Bool.{and_from, and_parts, cases_lt, false_from_ne_true, or_left, or_right}
pub use Rattle.std.proofs.lemmas.List.{append-nil, flat_map_more, length-append, length-map, map-append, take_all, take_more}
pub use Rattle.std.proofs.lemmas.List.Concat.{length-flat_map}
pub use Rattle.std.proofs.lemmas.List.Elements.{All-head, All-map, All-tail, All-weaker, length_all_zip}
pub use Rattle.std.proofs.lemmas.List.Folds.{list_all-append}
pub use Rattle.std.proofs.lemmas.List.FromFn.{length-range_with_len}
pub use Rattle.std.proofs.lemmas.List.Sums.{list_all-from_AllPass, sum_by-cons}
pub use Rattle.std.specs.List.{All, AllByRecursion, AllPairs, AllPass, AllZip, flat_map, list_all, list_any, range_with_len, sum_by}
pub use Rattle.std.specs.Ordering.{is_gt, nat_cmp}
pub use Rattle.std.specs.Prelude.{IsTrue, if◌then◌else◌, nat_eq, nat_le, pos}
pub use Rattle.definitions.proofs.Adjoints.{adjoint_word-adjoint_word, adjoint_word-append, coefficient_of-adjoint_poly}
pub use Rattle.definitions.proofs.Coefficients.{SamePolynomial-poly_eq, Same_refl, Same_sym, Same_trans, poly_eq-true}
pub use Rattle.definitions.proofs.StarSound.{all-append}
pub use Rattle.definitions.specs.Generators.{adjoint_poly, adjoint_word, generators_of, left_unit, letter_units, new_adjoint, right_unit, units}
pub use Rattle.definitions.specs.Poly.{SamePolynomial, Term, coefficient_of, poly_eq, poly_multiple}
pub use Rattle.definitions.specs.Quiver.{IsQuiver, Quiver, letters, source, star, target}
pub use Rattle.lists.proofs.Zips.{AllZip-append}
pub use Rattle.word_core.specs.declared.letter.Letter.{Letter}
pub use Rattle.word_core.specs.declared.letter.Object.{Object}
pub use Rattle.nc_polynomial.proofs.Shapes.{shaped-negated}
pub use Rattle.nc_polynomial.specs.Adjoint.{IsInvolution, numbers_of}
pub use Rattle.nc_polynomial.specs.Shape.{IsCanonical}
pub use Rattle.nc_polynomial.specs.Terms.{negated}
pub use Rattle.nc_polynomial.specs.declared.poly.Poly.{Poly}
pub use Rattle.quiver.proofs.Counts.{few_letters, length-letter_table, letters-quiver_of}
pub use Rattle.quiver.proofs.Letters.{in_range_from_table, letter_is, star-quiver_of}
pub use Rattle.quiver.specs.Declarations.{Declaration, IsDeclared, LetterEntry, arrow, letter_at, letter_count, letter_table, object, object_count, quiver_of}
pub use Rattle.adjoint_rules.specs.Laws.{AdjointsAreAnInvolution}
pub use Rattle.adjoint_rules.specs.Limits.{generator_limit}
pub use Rattle.adjoint_rules.specs.Parts.{adjoints_in, units_in}
pub use Rattle.adjoint_rules.specs.Problem.{IsClosed, IsPosed, generators_in, is_in_play, numbers, polynomials}
pub use Rattle.adjoint_rules.specs.declared.parts.Parts.{Parts}
