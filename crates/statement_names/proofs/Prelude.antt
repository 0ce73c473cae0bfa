-- What the proofs here take from std, from the crates below and from this crate's definitions, each name once.
pub use Rattle.indexmap.proofs.CallerLemmas.{insert_entry-new}
pub use Rattle.indexmap.specs.IndexMap.{insert_entry}
pub use Rattle.std.proofs.Common.{All, AllPairs, Bool, Err, Global, IfOk, IsTrue, List, None, Ok, Option, Result, Some, String, [], add-one, ap, append_assoc, ap₂, arith, cond, drop, drop-cons, false, get_or, get_or-set_other, get_or-set_same, if◌then◌else◌, is_some, length, map, nat_eq, nat_le, nat_lt, not, pos, position, refl, replicate, rules, set, string_bytes, subst, suc, sym, take, true, unwrap_or, zero, ℕ, ◌&&◌, ◌++◌, ◌+◌, ◌-◌, ◌<◌, ◌||◌, ◌∙◌, ◌∷◌, ◌≡◌, ◌≢◌, ◌≤◌}
pub use Rattle.std.proofs.Math.ListN.{length-set}
pub use Rattle.std.proofs.Math.Seq.{take-append_seam}
pub use Rattle.std.proofs.lemmas.Bool.{and_parts, le-leb, leb-true, lt-ltb}
pub use Rattle.std.proofs.lemmas.Bool.Decides.{Decides-eqb, nat_tests}
pub use Rattle.std.proofs.lemmas.Grind.{common_steps, flat_map-append}
pub use Rattle.std.proofs.lemmas.List.{append-nil, ext_get_or, get_or-map, length-append, length-map, length-replicate, map-append, take-append-drop, take-map, take_all, take_more}
pub use Rattle.std.proofs.lemmas.List.Elements.{All-filter, All-map, All-replicate, filter-append, filter_passes}
pub use Rattle.std.proofs.lemmas.List.Folds.{Any-from_list_any, list_all-append}
pub use Rattle.std.proofs.lemmas.List.FromFn.{get_or-map-range_with_len, get_or-range_with_len, length-map-range_with_len, length-range_with_len}
pub use Rattle.std.proofs.lemmas.List.Kept.{AllPairs-filter}
pub use Rattle.std.proofs.lemmas.List.Sorted.{IsPermutation-filter_both, IsPermutation-map}
pub use Rattle.std.proofs.lemmas.List.Sums.{AllPass-from_list_all, fold-append, sum_by-append, sum_by-cons, sum_by_push}
pub use Rattle.std.proofs.lemmas.Map.Entries.{lookup-filter-values, option_filter}
pub use Rattle.std.proofs.lemmas.Map.Keys.{IsDistinct-IsPermutation, IsDistinct-head, IsDistinct-push, IsDistinct-tail}
pub use Rattle.std.proofs.lemmas.Map.Made.{AllPairs-from_IsDistinct, IsDistinct-from_AllPairs, is_some-lookup}
pub use Rattle.std.proofs.lemmas.Simd.{map-map}
pub use Rattle.std.proofs.lemmas.Slice.Eq.{bytes_eq-Decides}
pub use Rattle.std.specs.Cmp.{IsEquivalence}
pub use Rattle.std.specs.List.{filter, flat_map, list_all, list_any, position_or_len, range_with_len, sum_by}
unfoldable pub use Rattle.std.specs.List.{IsDistinct}
pub use Rattle.std.specs.Map.{keys_of, lookup}
pub use Rattle.std.specs.Option.{option_map, option_or}
pub use Rattle.std.specs.Result.{result_err}
pub use Rattle.std.specs.Str.{bytes_eq}
pub use Rattle.std.specs.String.{string_eq}
pub use Rattle.definitions.specs.Moduli.{field_moduli, is_field_modulus}
pub use Rattle.definitions.specs.Quiver.{IsQuiver, source, star, target}
pub use Rattle.lists.specs.Stop.{Explains, Gives}
pub use Rattle.word_orders.proofs.BlockReading.{get_or-replicate_default}
pub use Rattle.word_orders.specs.Faults.{HasNoFault, block_fault, entry_fault, is_weight, letter_fault}
pub use Rattle.word_orders.specs.Limits.{weight_limit}
pub use Rattle.word_orders.specs.Lists.{is_listed}
pub use Rattle.word_orders.specs.Specified.{IsSound}
pub use Rattle.word_orders.specs.declared.fault.OrderFault.TheVariants.{BadWeight, NoSuchLetter, RepeatedLetter}
pub use Rattle.quiver.proofs.Counts.{letter_count-append, letters-quiver_of, map_count-append, object_count-append}
pub use Rattle.quiver.proofs.Found.{is_named, letter_at-split, letter_name-split, object_name-split, plus_zero}
pub use Rattle.quiver.proofs.Growth.{names_from, naming_table-append}
pub use Rattle.quiver.proofs.Identities.{is_quiver}
pub use Rattle.quiver.proofs.Letters.{ends_of, star-quiver_of}
pub use Rattle.quiver.specs.Declarations.{Declaration, IsDeclared, ObjectsFirst, Turn, arrow, has_ends, is_arrow, letter_at, letter_count, letter_name, letters_of, map_count, name_of, named_by, named_in, naming_table, object, object_count, object_name, objects_first, objects_of, quiver_of}
pub use Rattle.quiver.specs.Limits.{map_limit, object_limit}
pub use Rattle.quiver.specs.Refusals.{map_fault, object_fault}
pub use Rattle.quiver.specs.declared.fault.QuiverFault.TheVariants.{DoubleName, NotSquare, TooMany}
pub use Rattle.statement_syntax.specs.Nodes.{factor_of, term_of}
pub use Rattle.adjoint_rules.specs.Limits.{assumption_limit, claim_limit, shape_limit, shape_side_limit}
pub use Rattle.adjoint_rules.specs.Problem.{IsDeclaredMap, IsShape, IsSide}
pub use Rattle.abbreviations.proofs.Trees.{are_names_of_factor, has_identity_in_factor, identity-sum, identity-term, names-sum, names-term, of_sum, of_term}
pub use Rattle.abbreviations.specs.Names.{AreNames, are_names, are_names_of_factors, are_names_of_primary, are_names_of_term, are_names_of_terms, is_map, is_object, letter_number, letter_of, object_number, object_of}
pub use Rattle.abbreviations.specs.Occurrences.{has_identity_in_term}
pub use Rattle.abbreviations.specs.Written.{adjoint_at, adjoint_equation, assumptions_of, claims_in, claims_of, end_name, equation, equations_in, equations_of, identity_at, identity_equation, inner_equation, marked_letter, product_at, projection_equations, source_name, target_name, word_at}
pub use Rattle.statement_names.specs.Faults.{Assumptions, Claims, Counted, Maps, Objects, Orders, Shapes, amount, are_two_objects, declared_by, declared_in, fault_of, first_fault, is_among, is_between, is_kind, kind_in, kind_within, known_behind, limit_of, name_fault_of, or_else, short_of, value_of}
pub use Rattle.statement_names.specs.Limits.{map_limit_after, map_limit_of}
pub use Rattle.statement_names.specs.Marked.{all_equations, an_object, is_marked, writes_identity}
pub use Rattle.statement_names.specs.Marks.{Marks}
pub use Rattle.statement_names.specs.Numbered.{AreFirst, HasEnds, declarations_of, declared_maps, declared_objects, maps_in, objects_in}
pub use Rattle.statement_names.specs.Occurrences.{Occurrence, begins_assumptions, begins_claim, begins_order, begins_shape, counts, declares_map, declares_object, factor_occurrences, factors_occurrences, kind_occurrences, lists, mark_occurrences, modulus, names_behind, occurrences_of, pairs_behind, primary_occurrences, sides_occurrences, statement_occurrences, sum_occurrences, term_occurrences, terms_occurrences, uses}
pub use Rattle.statement_names.specs.Ordered.{letter, letters_for, order_of, order_or, weights_of, with_star}
pub use Rattle.statement_names.specs.Ready.{HasNames, IsReady}
pub use Rattle.statement_names.specs.Shapes.{default_shapes, or_shapes, shape, shapes_in, shapes_of, side_in, sides_of}
pub use Rattle.statement_names.specs.Solved.{is_solved, is_the_letter, names_letter, numbers_that, solved_names}
pub use Rattle.statement_names.specs.Starred.{is_starred}
pub use Rattle.statement_names.specs.Survey.{behind, declared_before, declared_count, fault_at, goes_on, kinded, kinds_by, names_in, room_of, run, with_kind, with_kinds}
pub use Rattle.statement_names.specs.Types.{Adjoint, BadNumber, Block, Bracket, Double, Factor, Identity, Kind, Letter, Map, Mark, Name, Named, Number, Object, OrderSpec, Placed, Power, Primary, Row_of-Factor, Row_of-Term, Shape, Spot, Statement, StatementKind, Stop, Sum, Sum', Survey, Term, Term', Unknown, end_of-Factor, end_of-Term, items-the_row-Factor, items-the_row-Term, more_of-Factor, more_of-Term, named, out-Sum, out-Term, out-roll-Sum, out-roll-Term, placed, statement, stop}
pub use Rattle.statement_names.specs.Uses.{map_use, object_use}
pub use Rattle.statement_names.specs.declared.kinds.Kinds.TheInside.{Inside}
