-- What the proofs here take from std, from the crates below and from this crate's definitions, each name once.
pub use Rattle.std.proofs.Common.{Bool, Err, List, None, Ok, Option, Result, Some, [], ap, ap₂, arith, cond, eq-eqb, eqb, eqb-true, false, get_or, inl, inr, length, map, negsuc, pos, refl, replicate, slice_get, subst, suc, sym, true, true≢false, zero, ℕ, ℤ, ◌*ℤ◌, ◌++◌, ◌<◌, ◌||◌, ◌↔◌, ◌∙◌, ◌∷◌, ◌≡◌, ◌≤◌, ◌⊎◌}
pub use Rattle.std.proofs.lemmas.Bool.{and_parts, cases_lt, or_left, or_right}
pub use Rattle.std.proofs.lemmas.List.{append-nil, append_assoc, length-map}
pub use Rattle.std.proofs.lemmas.List.Elements.{All-append, All-head, All-nil, All-replicate, All-tail}
pub use Rattle.std.specs.List.{All, AllByRecursion, AllZip, list_any}
pub use Rattle.std.specs.Option.{option_map}
pub use Rattle.definitions.proofs.Adjoints.{is_path-adjoint_word, leads-star}
pub use Rattle.definitions.proofs.Coefficients.{SamePolynomial-append, Same_refl, Same_trans}
pub use Rattle.definitions.proofs.Group.{IsGroup, negate-negate, negate_unique}
pub use Rattle.definitions.proofs.Linear.{linear-append, linear-none, linear-scale, linear_agree, linear_in, linear_same}
pub use Rattle.definitions.proofs.Multiples.{additive-none, additive-times, times, times-*ℤ, times-add, times-none, times_in}
pub use Rattle.definitions.proofs.Paths.{step}
pub use Rattle.definitions.proofs.Rows.{path_value-append}
pub use Rattle.definitions.proofs.Typed.{signature_from_path}
pub use Rattle.definitions.proofs.Values.{group_at, letter_is_arrow, multiple-times, path_value_is_arrow, value_at-linear, word_at, word_at_is_arrow, word_value_is_arrow}
pub use Rattle.definitions.specs.Category.{InvolutionLaws, IsArrow, PreadditiveLaws, Structure}
pub use Rattle.definitions.specs.Generators.{adjoint_poly, adjoint_word}
pub use Rattle.definitions.specs.Poly.{Poly, SamePolynomial, poly_multiple, poly_product, poly_sum}
pub use Rattle.definitions.specs.Quiver.{IsQuiver, IsTyped, Quiver, is_path, leads, letters, source, star, target}
pub use Rattle.definitions.specs.Representation.{Representation, Represents, StarRepresents, multiple, path_value, value_at, word_value}
pub use Rattle.definitions.specs.Soundness.{HasValueZero}
pub use Rattle.nc_polynomial.proofs.Chains.{finished-value}
pub use Rattle.nc_polynomial.proofs.CollectedTerms.{coefficient_of-collected}
pub use Rattle.nc_polynomial.proofs.Products.{product_value}
pub use Rattle.nc_polynomial.proofs.Units.{difference_value}
pub use Rattle.nc_polynomial.proofs.Values.{SamePolynomial-scaled, negated-multiple}
pub use Rattle.nc_polynomial.specs.Arithmetic.{difference_result, multiple_result}
pub use Rattle.nc_polynomial.specs.Collected.{additions, collected, collection_result}
pub use Rattle.nc_polynomial.specs.Product.{product_result}
pub use Rattle.nc_polynomial.specs.Terms.{negated, products, scaled}
pub use Rattle.matrix_models.specs.Laws.{matrices_laws, transpose_laws}
pub use Rattle.matrix_models.specs.Matrices.{matrices, transpose}
pub use Rattle.matrix_models.specs.declared.model.Model.{Model}
pub use Rattle.quiver.proofs.Counts.{letters-quiver_of}
pub use Rattle.quiver.proofs.Found.{is_named}
pub use Rattle.quiver.proofs.Identities.{identity_is, is_quiver}
pub use Rattle.quiver.specs.Declarations.{Declaration, IsDeclared, ObjectsFirst, identity_in, named_in, object_count, quiver_of}
pub use Rattle.quiver.specs.declared.named.Named.{Named}
pub use Rattle.quiver.specs.declared.named.Sig.{Sig}
pub use Rattle.statement_tokens.specs.Language.{language_of}
pub use Rattle.statement_tokens.specs.declared.place.Spot.{Spot}
pub use Rattle.statement_syntax.proofs.FileReads.{lines_run}
pub use Rattle.statement_syntax.proofs.FirstLine.{divided, file_language}
pub use Rattle.statement_syntax.proofs.Stopping.{is_only}
pub use Rattle.statement_syntax.specs.Grammar.{IsFileOf, StatedLine, file_tokens}
pub use Rattle.statement_syntax.specs.Lines.{file_step}
pub use Rattle.statement_syntax.specs.Stages.{AllRead, begun, first_statements, left}
pub use Rattle.statement_syntax.specs.Steps.{run}
pub use Rattle.statement_syntax.specs.Texts.{IsStatements}
pub use Rattle.statement_syntax.specs.Tree.{file_tree}
pub use Rattle.statement_syntax.specs.declared.tree.Mark.{Mark}
pub use Rattle.statement_syntax.specs.declared.tree.Mark.TheVariants.{Adjoint, Power}
pub use Rattle.statement_syntax.specs.declared.tree.Number.{Number}
pub use Rattle.statement_syntax.specs.declared.tree.Primary.{Bracket, Identity, Letter, Primary}
pub use Rattle.statement_syntax.specs.declared.tree.Statement.{Statement}
pub use Rattle.statement_syntax.specs.declared.tree.Sum.{Row_of-Term, Sum, Sum', end_of-Term, more_of-Term}
pub use Rattle.statement_syntax.specs.declared.tree.Term.{Row_of-Factor, Term, Term', end_of-Factor, more_of-Factor}
pub use Rattle.adjoint_rules.specs.Claims.{claim_at}
pub use Rattle.adjoint_rules.specs.Problem.{polynomials}
pub use Rattle.adjoint_rules.specs.declared.problem.Problem.{Problem}
pub use Rattle.abbreviations.specs.Names.{are_names, are_names_of_factors, are_names_of_primary, are_names_of_term, are_names_of_terms, is_map, is_object, letter_number, letter_of, object_number, object_of}
pub use Rattle.abbreviations.specs.Occurrences.{has_quote, has_quote_in_factors, has_quote_in_primary, has_quote_in_term, has_quote_in_terms, is_adjoint}
pub use Rattle.abbreviations.specs.Written.{assumptions_of, claims_in, claims_of, equations_of}
pub use Rattle.abbreviations.specs.declared.written.Equation.{Equation}
pub use Rattle.statement_names.proofs.FileReady.{file_ready}
pub use Rattle.statement_names.specs.Numbered.{declarations_of}
pub use Rattle.statement_names.specs.Ready.{HasNames, IsReady}
pub use Rattle.statement_names.specs.Starred.{is_starred}
pub use Rattle.signature_typing.proofs.Each.{each_with_both}
pub use Rattle.signature_typing.proofs.EachStatement.{names_clean, none_wrong}
pub use Rattle.signature_typing.proofs.InPlay.{IsCounted, assumptions_counted, claims_counted}
pub use Rattle.signature_typing.proofs.Values.{AreValues, IsValue, all_values, length-values, values, zipped}
pub use Rattle.signature_typing.specs.Fault.{told_polynomial, told_signature}
pub use Rattle.signature_typing.specs.First.{first_among}
pub use Rattle.signature_typing.specs.Typing.{IsProblemOf, polynomial_in, polynomials_of, signature_in, wrong_polynomial, wrong_signature}
pub use Rattle.expressions.proofs.Sequences.{OfValues, bound, same_value, values-bind, values-ok}
pub use Rattle.expressions.proofs.Typed.{equations_are_typed, typed-sum}
pub use Rattle.expressions.proofs.TypedParts.{IsPathOf, joins, meets_passed, no_fault, path-append, path-letter, product_passed, same_passed, sum_passed}
pub use Rattle.expressions.proofs.Words.{Words, words-adjoint, words-collection, words-multiple, words-negated, words-product}
pub use Rattle.expressions.specs.Polynomials.{Summand, letter_poly, mark_poly, marked_poly, power_poly, product_from, product_poly, scaled_by, signed}
pub use Rattle.expressions.specs.Results.{◌>>=◌}
pub use Rattle.expressions.specs.Signatures.{Part, from_to, is_repeated, letter_signature, mark_signature, marked_signature, repeated, sides_signature, sum_at, turned}
pub use Rattle.expressions.specs.declared.fault.SignatureFault.{SignatureFault}
pub use Rattle.model_checker.specs.Representations.{representation_of}
pub use Rattle.statement_meaning.specs.Claims.{AssumptionsHold, ClaimHolds, IsClaim}
pub use Rattle.statement_meaning.specs.Laws.{AreRead, EquationsAreRead, FilesHaveOneTree, IsEquation, IsRead, StarredEquationsAreRead, StarredStatementsAreRead, StatementsAreRead, reading}
pub use Rattle.statement_meaning.specs.Meanings.{ProvedClaimsHold, RefutedClaimsFail}
pub use Rattle.statement_meaning.specs.Values.{AreSame, Holds, Reading, after, composite, factor_values, iterated, marked, marks_value, plus, power, primary_value, scaled_value, signed_value, sum_value, term_value, terms_value}
