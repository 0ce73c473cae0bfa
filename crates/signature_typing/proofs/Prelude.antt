-- What the proofs here take from std, from the crates below and from this crate's definitions, each name once.
pub use Rattle.std.proofs.Common.{Bool, Err, List, MatchResult, None, Ok, Option, Result, Some, [], ap, append-nil, append_assoc, ap₂, arith, cond, drop, eq-eqb, eqb, eqb-true, false, get_or, inl, inr, leb, length, ltb-true, map, map-id, nat_eq, nat_le, nat_lt, negsuc, pos, refl, replicate, rules, subst, suc, sym, take, tests, true, zero, zero-add, ℕ, ℤ, ◌&&◌, ◌++◌, ◌+◌, ◌<◌, ◌||◌, ◌∙◌, ◌∷◌, ◌≡◌, ◌≢◌, ◌≤◌, ◌⊎◌}
pub use Rattle.std.proofs.Math.Bool.{or-false}
pub use Rattle.std.proofs.lemmas.Bool.{and_parts, cond_both, lt-ltb, or_left, or_right}
pub use Rattle.std.proofs.lemmas.List.{get_or-map, length-map, map-append, take_all}
pub use Rattle.std.proofs.lemmas.List.Concat.{flat_map-append}
pub use Rattle.std.proofs.lemmas.List.Elements.{All-cons, All-from_recursion, All-head, All-nil, All-replicate, All-tail, All-weaker, recursion_from_All}
pub use Rattle.std.proofs.lemmas.List.Folds.{list_any-append, list_any_at}
pub use Rattle.std.proofs.lemmas.List.FromFn.{get_or-range_with_len, length-range_with_len}
pub use Rattle.std.proofs.lemmas.Map.Views.{any-filter_same}
pub use Rattle.std.proofs.lemmas.Result.{err_from_is_err_and}
pub use Rattle.std.specs.List.{All, AllByRecursion, AllZip, flat_map, list_any, range_with_len}
pub use Rattle.std.specs.Option.{IfSome, option_map, option_or}
pub use Rattle.std.specs.Prelude.{⊤}
pub use Rattle.std.specs.declared.cmp.Ordering.TheVariants.{Greater}
pub use Rattle.definitions.proofs.Adjoints.{adjoint_word-adjoint_word}
pub use Rattle.definitions.proofs.UnitSound.{all-append, all-flat_map}
pub use Rattle.definitions.specs.Generators.{adjoint_poly, generators_of, left_unit, letter_units, new_adjoint, units}
pub use Rattle.definitions.specs.Poly.{Poly, SamePolynomial, Term as term, poly_between, poly_eq, poly_multiple}
pub use Rattle.definitions.specs.Quiver.{IsQuiver, Quiver, source, star, target}
pub use Rattle.lists.proofs.Zips.{AllZip-append}
pub use Rattle.coef_int.specs.Operations.{first_overflow}
pub use Rattle.coef_int.specs.Range.{IsCoefficient}
pub use Rattle.coef_int.specs.declared.Overflow.{Overflow}
pub use Rattle.word_core.specs.Canonical.{word_cmp}
pub use Rattle.nc_polynomial.proofs.Around.{shaped-between}
pub use Rattle.nc_polynomial.proofs.Chains.{first-append, or_first}
pub use Rattle.nc_polynomial.proofs.CollectedTerms.{coefficient_of-collected}
pub use Rattle.nc_polynomial.proofs.OneTerm.{canonical_none}
pub use Rattle.nc_polynomial.proofs.Products.{canonical_sized}
pub use Rattle.nc_polynomial.proofs.Shapes.{Descends, IsBelow, IsDescending-from_recursion, IsInRange, IsNonzero, descends_one, shaped-added, shaped-scaled}
pub use Rattle.nc_polynomial.specs.Arithmetic.{combined, difference_result, multiple_result, sum_result}
pub use Rattle.nc_polynomial.specs.Collected.{additions, collected}
pub use Rattle.nc_polynomial.specs.Faults.{finished, has_long_word, size_fault, sized, unless_overflow}
pub use Rattle.nc_polynomial.specs.Product.{product_result, product_step}
pub use Rattle.nc_polynomial.specs.Shape.{IsCanonical, IsShaped}
pub use Rattle.nc_polynomial.specs.Terms.{added, negated, products, scaled, sums}
pub use Rattle.quiver.proofs.Found.{is_named}
pub use Rattle.quiver.proofs.Identities.{is_quiver}
pub use Rattle.quiver.proofs.Letters.{letter_is, source-quiver_of, target-quiver_of}
pub use Rattle.quiver.specs.Declarations.{Declaration, IsDeclared, identity_in, letter_count, named_in, object_count, quiver_of}
pub use Rattle.statement_syntax.specs.Nodes.{term_of}
pub use Rattle.adjoint_rules.proofs.Counted.{few_closed}
pub use Rattle.adjoint_rules.proofs.Generators.{generators_are_unique, posed_quiver}
pub use Rattle.adjoint_rules.proofs.NewAdjoints.{each_same}
pub use Rattle.adjoint_rules.specs.Parts.{units_in}
pub use Rattle.adjoint_rules.specs.Problem.{HasLettersInPlay, HasObjects, IsClosed, IsInPlay, IsPosed, IsTypedOf, generators_in, numbers, polynomials}
pub use Rattle.abbreviations.proofs.Trees.{has_quote_in_factor, mark-sum, mark-term}
pub use Rattle.abbreviations.specs.Names.{AreNames, are_names_of_factors, are_names_of_primary, are_names_of_term, are_names_of_terms, is_map, is_object, letter_number, letter_of, object_number, object_of}
pub use Rattle.abbreviations.specs.Occurrences.{has_quote, has_quote_in_term}
pub use Rattle.abbreviations.specs.Written.{abbreviation_of, assumptions_of, claims_in, claims_of, equation, equations_of, product_at}
pub use Rattle.statement_names.proofs.Apart.{both_none}
pub use Rattle.statement_names.proofs.Each.{Each, Each-append, Each-at, Each-left, Each-right, Each-weaker}
pub use Rattle.statement_names.proofs.FileReady.{file_ready}
pub use Rattle.statement_names.proofs.Items.{flat_next, items_split, take_next}
pub use Rattle.statement_names.proofs.KindsFound.{option_or-nothing}
pub use Rattle.statement_names.specs.Faults.{name_fault_of}
pub use Rattle.statement_names.specs.Marked.{all_equations, an_object, is_marked, marked_of, stated_by, writes_identity}
pub use Rattle.statement_names.specs.Numbered.{declarations_of}
pub use Rattle.statement_names.specs.Ordered.{order_of}
pub use Rattle.statement_names.specs.Ready.{HasNames, IsReady}
pub use Rattle.statement_names.specs.Shapes.{shapes_of}
pub use Rattle.statement_names.specs.Solved.{numbers_that, solved_of}
pub use Rattle.statement_names.specs.Starred.{is_starred, is_starred_in}
pub use Rattle.expressions.proofs.Canonical.{canonical-negated}
pub use Rattle.expressions.proofs.Totals.{canonical-signed}
pub use Rattle.expressions.proofs.TwoAdjoints.{canonical-adjoint}
pub use Rattle.expressions.proofs.Typed.{equations_are_typed}
pub use Rattle.expressions.proofs.Written.{letters_are_written}
pub use Rattle.expressions.specs.Laws.{EquationsAreTyped, IsWritten, LettersAreWritten}
pub use Rattle.expressions.specs.Polynomials.{Summand, equation_poly, factor_polys, letter_poly, mark_poly, marked_poly, power_poly, primary_poly, product_poly, scaled_by, signed, sum_poly, summands, term_poly, total}
pub use Rattle.expressions.specs.Results.{◌>>=◌}
pub use Rattle.expressions.specs.Signatures.{Part, equation_signature, factors_parts, from_to, is_repeated, letter_signature, mark_signature, marked_signature, primary_signature, product_from, product_signature, repeated, same_ends, sides_signature, sum_at, sum_from, sum_signature, sum_step, term_at, term_signature, terms_parts}
pub use Rattle.signature_typing.specs.Fault.{Explains, IsMemory, no_claim, told_name, told_polynomial, told_signature}
pub use Rattle.signature_typing.specs.First.{first_among}
pub use Rattle.signature_typing.specs.Laws.{EachStatementHasAProblemOrAFault}
pub use Rattle.signature_typing.specs.Named.{AreNamed, HasFaultObjects}
pub use Rattle.signature_typing.specs.Types.{Adjoint, Bracket, Equation, Factor, Fault, Identity, Mark, Memory, Named, Number, Parts, Placed, PolyFault, Power, Primary, Problem, Row_of-Factor, Row_of-Term, Sig, SignatureFault, Spot, Statement, StatementKind, Sum, Sum', Term, Term', TypeFault, end_of-Factor, end_of-Term, more_of-Factor, more_of-Term, named, out-roll-Sum, out-roll-Term, polynomial, statement}
pub use Rattle.signature_typing.specs.Typing.{ArePartsOf, IsProblemOf, equation_fault, equations_in, fault_in, fault_of, made_of, polynomial_fault, polynomial_in, polynomials_of, signature_fault, signature_in, signatures_of, value_in, wrong_claims, wrong_in, wrong_polynomial, wrong_signature}
pub use Rattle.signature_typing.specs.Unique.{ProblemIsUnique}
