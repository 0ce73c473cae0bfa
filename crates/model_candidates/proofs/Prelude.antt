-- What the proofs here take from std, from the crates below and from this crate's definitions, each name once.
pub use Rattle.rand_pcg.specs.Lcg.{Lcg, advance, increment_of, next, next_state, started}
unfoldable pub use Rattle.rand_pcg.specs.Lcg.{state_after}
pub use Rattle.rand_pcg.specs.Pcg.{multiplier_64, pcg32}
pub use Rattle.std.proofs.Common.{Bool, Err, IfNone, IfOk, IfSome, IsFalse, IsTrue, List, None, Ok, Option, Result, Some, [], add-mul, ap, ap₂, arith, cond, div-lt_iff_lt-mul, drop, eq-eqb, eqb, eqb-true, false, filter, get_or, if◌then◌else◌, inl, inr, length, ltb, map, mod-lt, mul-zero, mul_comm, nat_eq, nat_le, nat_lt, ne_eqb, negsuc, not, one-mul, option_map, pos, refl, replicate, rules, set, slice_get, subst, suc, sym, take, true, true≢false, zero, zero-mul, ℕ, ℤ, ◌%◌, ◌&&◌, ◌*◌, ◌++◌, ◌+◌, ◌-◌, ◌/◌, ◌<◌, ◌^◌, ◌||◌, ◌↔◌, ◌∙◌, ◌∷◌, ◌≡◌, ◌≢◌, ◌≤◌, ◌⊎◌}
pub use Rattle.std.proofs.Math.Bool.{and-false}
pub use Rattle.std.proofs.Math.Nat.{add-mod-mod, div-div-eq-div-mul, mod-add-mod, mod-eq_of_lt, mod-mod, mod_self, mul-mod_right}
pub use Rattle.std.proofs.Math.Seq.{drop-append_seam, drop-cons, set-append_seam, take-append_seam}
pub use Rattle.std.proofs.lemmas.Bool.{and_from, and_parts, cases_eq, cases_lt, cases_order, false_from_ne_true, false≢true, le-leb, le-ltb, leb-false, leb-true, lt-leb, lt-ltb, not-true, or_cases}
pub use Rattle.std.proofs.lemmas.Bool.Decides.{Decides-eqb}
pub use Rattle.std.proofs.lemmas.Grind.{flat_map-append, pow_more}
pub use Rattle.std.proofs.lemmas.Iterator.{YieldsList-from_range, items_from_collect}
pub use Rattle.std.proofs.lemmas.List.{append-nil, append_assoc, drop_all, get_or-append-add, get_or-map, get_or-set_other, get_or-set_same, get_or-take, get_or_append_left, get_or_past, length-append, length-map, length-replicate, length-set, length-take-le, map-append, map_push, take-append-drop, take_all, take_at, take_more}
pub use Rattle.std.proofs.lemmas.List.Concat.{flat_map_single}
pub use Rattle.std.proofs.lemmas.List.Elements.{All-append, All-cons, All-drop, All-from_get_or, All-from_recursion, All-get_or, All-head, All-nil, All-push, All-set, All-tail, All-take, All-weaker, filter-append, recursion_from_All}
pub use Rattle.std.proofs.lemmas.List.Folds.{list_all_at, list_all_more}
pub use Rattle.std.proofs.lemmas.List.FromFn.{fill_by_all, get_or-map-range_with_len, get_or-range_with_len, length-map-range_with_len, length-range_with_len, map-range_with_len_more}
pub use Rattle.std.proofs.lemmas.List.Quantifiers.{position-Some}
pub use Rattle.std.proofs.lemmas.List.Sums.{fails_before_first, list_all-from_AllPass, position_or_len_is, sum_by-append, sum_by-cons, sum_by_more, sum_by_push}
pub use Rattle.std.proofs.lemmas.Nat.{div-mul-add, mod-mul-add, mul-le, mul-mod_first, mul-mod_second}
pub use Rattle.std.proofs.lemmas.Option.{get_or_from_slice_get, none-some, same_Some, slice_get-get_or, slice_get-map, slice_get_cases, slice_get_within}
pub use Rattle.std.proofs.lemmas.Result.{IfOk-weaker}
pub use Rattle.std.proofs.lemmas.Slice.Zip.{AllZip-long}
pub use Rattle.std.specs.List.{All, AllByRecursion, AllZip, flat_map, list_all, list_any, position, position_or_len, range_with_len, sum_by}
pub use Rattle.std.specs.Result.{IsErrOf}
pub use Rattle.definitions.proofs.Adjoints.{adjoint_word-adjoint_word, coefficient_of-adjoint_poly, star_star_each}
pub use Rattle.definitions.proofs.Linear.{coefficient_other, word_eq-true}
pub use Rattle.definitions.proofs.Paths.{Step, split, step}
pub use Rattle.definitions.proofs.StarSound.{star_sound}
pub use Rattle.definitions.proofs.UnitSound.{all-append, all-flat_map}
pub use Rattle.definitions.proofs.Values.{letter_is_arrow}
pub use Rattle.definitions.specs.Category.{IsArrow, PreadditiveLaws, Structure}
pub use Rattle.definitions.specs.Generators.{adjoint_poly, adjoint_word, new_adjoint, units}
pub use Rattle.definitions.specs.Moduli.{field_moduli}
pub use Rattle.definitions.specs.Poly.{SamePolynomial, coefficient_of, poly_eq, poly_multiple, word_eq}
pub use Rattle.definitions.specs.Quiver.{IsQuiver, IsTyped, Quiver, is_path, leads, letters, source, star, target}
pub use Rattle.definitions.specs.Representation.{Representation, Represents, StarRepresents, multiple, natural_multiple, path_value, word_value}
pub use Rattle.definitions.specs.Soundness.{HasSignature, HasValueZeroAt, IsStarSound}
pub use Rattle.lists.proofs.Decided.{IsDecided, both_decided, decided_by, lt_decided}
pub use Rattle.lists.proofs.FirstFailure.{each_decided}
pub use Rattle.word_core.specs.declared.letter.Letter.{Letter}
pub use Rattle.representations.proofs.Suffixes.{letter_within}
pub use Rattle.representations.proofs.TermSums.{value_is_arrow}
pub use Rattle.representations.proofs.TypedTerms.{words_are_paths}
pub use Rattle.representations.proofs.ValueLoop.{term_is_path}
pub use Rattle.traced_rows.proofs.Lists.{all_front, all_push, last_in}
pub use Rattle.nc_polynomial.proofs.Distinct.{distinct-descending, words_listed}
pub use Rattle.nc_polynomial.proofs.Shapes.{recursion_from_IsDescending}
pub use Rattle.nc_polynomial.proofs.Unique.{canonical_unique}
pub use Rattle.nc_polynomial.specs.Shape.{IsCanonical}
pub use Rattle.nc_polynomial.specs.declared.poly.Poly.{Poly}
pub use Rattle.matrix_models.proofs.AddedEquations.{add-both, against-before, against-behind}
pub use Rattle.matrix_models.proofs.Congruences.{add_alike, add_cancel}
pub use Rattle.matrix_models.proofs.GreedyLists.{Begins, IsGreedyList, greedy_or_none, one_greedy}
pub use Rattle.matrix_models.proofs.Primes.{any_of}
pub use Rattle.matrix_models.proofs.Products.{less_square, total-next}
pub use Rattle.matrix_models.proofs.Reduction.{equation_of-row_of, length-row_of, row_of-below}
pub use Rattle.matrix_models.specs.Elimination.{equation_of}
pub use Rattle.matrix_models.specs.Entries.{entry_at-matrix_of, entry_at_below, matrix_of_is_matrix, same_matrix}
pub use Rattle.matrix_models.specs.Laws.{matrices_laws, transpose_laws}
pub use Rattle.matrix_models.specs.Matrices.{IsObject, identity_matrix, matrices, matrix_product, matrix_sum, total, transpose, zero_matrix}
pub use Rattle.matrix_models.specs.Matrix.{IsMatrix, IsModulus, Matrix, entry_at}
pub use Rattle.matrix_models.specs.Pivots.{Add, AreAgainst, AreGreedyFor, StandFor}
pub use Rattle.matrix_models.specs.Systems.{AreValues, HasNoSolution, Holds, IsEquation, Solves}
pub use Rattle.matrix_models.specs.Totals.{add_mod, total_add, total_mod, total_mul, total_pick, total_same, total_swap, total_zero}
pub use Rattle.matrix_models.specs.declared.fault.MatrixFault.TheVariants.{EntryTooLarge}
pub use Rattle.matrix_models.specs.declared.model.Model.{Model}
pub use Rattle.matrix_models.specs.declared.system.LinearRow.{LinearRow}
pub use Rattle.matrix_models.specs.declared.system.System.{System}
pub use Rattle.quiver.proofs.Counts.{letters-quiver_of}
pub use Rattle.quiver.specs.Declarations.{Declaration, letter_count, object_count, quiver_of}
pub use Rattle.quiver.specs.declared.named.Sig.{Sig}
pub use Rattle.adjoint_rules.proofs.Generators.{assumptions_have_signatures, generators_have_signatures, marked_are_objects, posed_quiver, zero_along}
pub use Rattle.adjoint_rules.proofs.Ranges.{flat_map-range_more}
pub use Rattle.adjoint_rules.specs.Limits.{shape_side_limit}
pub use Rattle.adjoint_rules.specs.Problem.{HasObjects, IsDeclaredMap, IsShape, IsSide, IsTypedOf, generators_in, numbers, polynomials}
pub use Rattle.adjoint_rules.specs.declared.parts.Shape.{Shape}
pub use Rattle.adjoint_rules.specs.declared.problem.Problem.{Problem}
pub use Rattle.model_checker.proofs.Arrows.{adjoint_is_map, arrow_of-adjoint, arrow_of-identity, arrow_of-map, represents, star_represents}
pub use Rattle.model_checker.proofs.Decided.{matrix_decided}
pub use Rattle.model_checker.proofs.Places.{all_at, generator_at-number, item_at, one_more, zip_at}
pub use Rattle.model_checker.proofs.Values.{zero_from_value}
pub use Rattle.model_checker.specs.Models.{HaveMatrices, IsMap, IsModel, IsZeroIn, assumptions_of, claim_polynomial}
pub use Rattle.model_checker.specs.Representations.{arrow_of, map_at, matrix_or_zero, representation_of, side_of}
pub use Rattle.model_candidates.specs.Candidates.{CanBegin, CanTake, Entry, IsCandidate, IsGreedy, IsShapeOf, IsSolution, candidate_count, digit, digits, draws, entries_of, entry, entry_shown, is_declared_map, is_exhaustive, is_linear, is_same_entry, is_self, is_solved, is_solved_map, linear_generators, map_entries, matrix_by, model_by, place_by, row_entries, side_in, solved_count, value_at, value_of_entry, word_of_stream}
pub use Rattle.model_candidates.specs.EntryPlaces.{entries_before, is_kept, piece, pieces, place_within, row_pieces}
pub use Rattle.model_candidates.specs.Equations.{system_for}
pub use Rattle.model_candidates.specs.Factors.{FitsTerm, HasSides, assumption_value, equations_of, letters_product, line_factor, listed, place_factor, residue, row_with, rows_with, solved_term, solved_terms, system_in, term_around, term_factor, terms_factor}
pub use Rattle.model_candidates.specs.Known.{AreZeros, IsKnown, numbers_in}
pub use Rattle.model_candidates.specs.LetterNumbers.{letter_numbers, letter_value, letter_values, map_behind, number_at, numbers_of_letters}
pub use Rattle.model_candidates.specs.LetterTables.{IsTable, entry_numbers, letter_table, letter_tables, value_in_table}
pub use Rattle.model_candidates.specs.Limits.{exhaustive_limit}
pub use Rattle.model_candidates.specs.Plans.{AreAsked, AreEntryValues, AreLinearAssumptions, FitsShape, IsAssumption, IsPlan, IsZeroAtSignature, has_few, is_asked, linear_assumptions, terms_of}
pub use Rattle.model_candidates.specs.Residues.{residues}
pub use Rattle.model_candidates.specs.Unknowns.{filled, picked, set_count, solved_flags, unit_values, unknown_numbers}
pub use Rattle.model_candidates.specs.WordRows.{AreTabled, IsRow, matrix_in, model_in, product_in, quiver_in, term_entry, value_in}
pub use Rattle.model_candidates.specs.declared.letter_tables.LetterTable.{LetterTable}
pub use Rattle.model_candidates.specs.declared.plan.LinearAssumption.{LinearAssumption}
pub use Rattle.model_candidates.specs.declared.plan.Plan.{Plan}
pub use Rattle.model_candidates.specs.declared.solved_terms.Known.{Known}
pub use Rattle.model_candidates.specs.declared.solved_terms.SolvedTerm.{SolvedTerm}
pub use Rattle.model_candidates.specs.declared.word_rows.EntryValues.{EntryValues}
