-- What the proofs here take from std, from the crates below and from this crate's definitions, each name once.
pub use Rattle.std.proofs.Common.{All, Bool, Err, IfErr, IfOk, IfSome, IsTrue, List, None, Ok, OnOk, Option, Result, Some, [], ap, append_assoc, ap₂, arith, cond, drop, false, get_or, inl, inr, int_div, is_some, length, lt-ltb, ltb, ltb-true, map, nat_eq, nat_lt, neg_ℤ, negsuc, not, of_z, pos, refl, rules, slice_get, subst, suc, sym, take, to_z, true, true≢false, unwrap_or, zero, ℕ, ℤ, ◌%◌, ◌*ℤ◌, ◌++◌, ◌+ℤ◌, ◌+◌, ◌-◌, ◌<ℤ◌, ◌<◌, ◌^◌, ◌||◌, ◌↔◌, ◌∙◌, ◌∷◌, ◌≡◌, ◌≢◌, ◌≤ℤ◌, ◌≤◌, ◌⊎◌}
pub use Rattle.std.proofs.Math.IntN.{*ℤ-zero, +ℤ_assoc, +ℤ_comm, +ℤ_idl, +ℤ_idr}
pub use Rattle.std.proofs.Math.Nat.{dvd-mul_right}
pub use Rattle.std.proofs.lemmas.Bool.{and_from, and_parts, cases_eq, cases_lt, false_from_ne_true}
pub use Rattle.std.proofs.lemmas.Bool.Decides.{Decides-int_eq, nat_tests}
pub use Rattle.std.proofs.lemmas.Cmp.{eq_by_cmp_equiv, tied_itself}
pub use Rattle.std.proofs.lemmas.Int.{ints, unsigned_abs-mul}
pub use Rattle.std.proofs.lemmas.List.{append-nil, append_cancel_left, append_cancel_right, at_drop_all, at_drop_more, get_or-append-add, get_or_append_left, get_or_at, get_or_default, length-append, length-map, nil_from_length, take_all, take_more}
pub use Rattle.std.proofs.lemmas.List.Elements.{All-cons, All-head, All-map, All-nil, All-push, All-tail, All-weaker}
pub use Rattle.std.proofs.lemmas.List.Folds.{list_all-append}
pub use Rattle.std.proofs.lemmas.List.Sums.{AllPass-from_list_all, list_all-from_AllPass}
pub use Rattle.std.proofs.lemmas.Map.Entries.{length-keys_of}
pub use Rattle.std.proofs.lemmas.Map.Keys.{IsDistinct-cons, IsDistinct-head, IsDistinct-tail, sorted_head, sorted_tail}
pub use Rattle.std.proofs.lemmas.Map.Made.{is_some-lookup, length-from_same_keys}
pub use Rattle.std.proofs.lemmas.Map.Views.{All-values_from_lookup}
pub use Rattle.std.proofs.lemmas.Nat.Gcd.{dvd_of_mod-eq-zero, mod-eq-zero_of_dvd}
pub use Rattle.std.proofs.lemmas.Option.{get_or_from_slice_get, slice_get-map, slice_get_read, slice_get_within}
pub use Rattle.std.specs.BTreeMap.{BTreeMap, IsEmpty, IsOrdered, Updates, is_at}
pub use Rattle.std.specs.Cmp.{IsEquivalence}
pub use Rattle.std.specs.HashMap.{IsUnique, get, hash_map_len, keys}
pub use Rattle.std.specs.Int.{◌∣◌}
pub use Rattle.std.specs.Int.RustNames.{unsigned_abs}
pub use Rattle.std.specs.List.{AllByRecursion, list_all}
unfoldable pub use Rattle.std.specs.List.{IsDistinct}
pub use Rattle.std.specs.List.Sorted.{IsStrictlySortedBy}
pub use Rattle.std.specs.Map.{keys_of, lookup, values_of}
pub use Rattle.std.specs.Option.{option_map}
pub use Rattle.std.specs.Ordering.{eq_by_cmp, int_eq, is_eq}
pub use Rattle.std.specs.Set.{is_member}
pub use Rattle.std.specs.declared.alloc.AllocError.{AllocError}
pub use Rattle.std.specs.declared.cmp.Ordering.{Ordering}
pub use Rattle.std.specs.declared.cmp.Ordering.TheVariants.{Equal, Greater, Less}
pub use Rattle.definitions.proofs.Coefficients.{coefficient_of-append, coefficient_of-multiple}
pub use Rattle.definitions.proofs.Integers.{*ℤ-+ℤ, *ℤ-neg_ℤ, *ℤ_zero}
pub use Rattle.definitions.proofs.Linear.{coefficient_other, word_eq-same, word_eq-true}
pub use Rattle.definitions.proofs.Paths.{step}
pub use Rattle.definitions.proofs.Projection.{coefficient_of-between_zero}
pub use Rattle.definitions.proofs.StarSound.{star_sound}
pub use Rattle.definitions.proofs.UnitSound.{all-append, unit_sound}
pub use Rattle.definitions.specs.Category.{PreadditiveLaws, Structure}
pub use Rattle.definitions.specs.Combination.{IsCombination, Row, generator_at, row_poly, row_sum}
pub use Rattle.definitions.specs.Generators.{generators_of}
pub use Rattle.definitions.specs.Poly.{SamePolynomial, Term, coefficient_of, poly_between, poly_multiple, poly_sum, word_eq}
pub use Rattle.definitions.specs.Quiver.{Quiver, is_path, leads, letters, source}
pub use Rattle.definitions.specs.Representation.{Representation, Represents}
pub use Rattle.definitions.specs.Soundness.{HasSignature, HasValueZero, IsSound, MakesZero}
pub use Rattle.lists.proofs.Decided.{IsDecided, both_decided, decided_by, le_decided}
pub use Rattle.lists.proofs.FirstFailure.{FailsFirst, HasOneOutcome, PassUpTo, each_decided, each_test, item_test, no_test, one_test, reworded, tests_up_to, then_test, value_test}
pub use Rattle.lists.specs.First.{FirstNot}
pub use Rattle.lists.specs.declared.stop.Stop.{Stop}
pub use Rattle.coef_int.specs.Operations.{exact_value, first_overflow, product_of, sum_of}
pub use Rattle.coef_int.specs.Range.{IsCoefficient, is_coefficient}
pub use Rattle.coef_int.specs.declared.Overflow.{Overflow}
pub use Rattle.word_core.proofs.Order.{word_cmp-cases, word_cmp-itself, word_cmp-same, word_cmp-trans, word_cmp-turned, word_cmp-turned_back}
pub use Rattle.word_core.specs.Canonical.{word_cmp, word_cmp_total}
pub use Rattle.word_core.specs.Letters.{IsOver}
pub use Rattle.representations.specs.Evidence.{IsEvidenceSound}
pub use Rattle.traced_rows.specs.LemmaRows.{AddsUpTo, AreOfLemmas, IsEvidenceOf, IsShareOf, cert_poly, denominator_of, lemma_sum}
pub use Rattle.traced_rows.specs.Rows.{row_of, rows_of}
pub use Rattle.traced_rows.specs.declared.certificate.CertRow.{CertRow}
pub use Rattle.traced_rows.specs.declared.certificate.Certificate.{Certificate}
pub use Rattle.traced_rows.specs.declared.evidence.CertFrom.{CertFrom}
pub use Rattle.traced_rows.specs.declared.evidence.Evidence.{Evidence}
pub use Rattle.traced_rows.specs.declared.evidence.Evidence.TheVariants.{Lemmas, Plain}
pub use Rattle.traced_rows.specs.declared.evidence.Lemma.{Lemma}
pub use Rattle.traced_rows.specs.declared.evidence.LemmaCertificate.{LemmaCertificate}
pub use Rattle.traced_rows.specs.declared.evidence.LemmaRow.{LemmaRow}
pub use Rattle.nc_polynomial.proofs.Chains.{sized-value}
pub use Rattle.nc_polynomial.proofs.CollectedTerms.{coefficient_of-collected, descending-collected, nonzero-collected}
pub use Rattle.nc_polynomial.proofs.Distinct.{distinct-descending, first_coefficient, none_listed, words_listed}
pub use Rattle.nc_polynomial.proofs.Divisors.{quotient_times}
pub use Rattle.nc_polynomial.proofs.Results.{err_whole}
pub use Rattle.nc_polynomial.proofs.Shapes.{Descends}
pub use Rattle.nc_polynomial.proofs.Steps.{drop_next, take_next}
pub use Rattle.nc_polynomial.proofs.Tables.{coefficient_of-table, descending-table, nonzero-table, shaped-table}
pub use Rattle.nc_polynomial.proofs.Unique.{descending_unique}
pub use Rattle.nc_polynomial.proofs.Updates.{adds_from_update, running_from_update}
pub use Rattle.nc_polynomial.proofs.Words.{word_eq-cmp, word_eq-turned}
pub use Rattle.nc_polynomial.specs.Ascending.{reversed}
pub use Rattle.nc_polynomial.specs.Collected.{coefficient_in, collected}
pub use Rattle.nc_polynomial.specs.Content.{DividesEach}
pub use Rattle.nc_polynomial.specs.Faults.{Explains, has_long_word, size_fault, sized}
pub use Rattle.nc_polynomial.specs.Shape.{IsShaped}
pub use Rattle.nc_polynomial.specs.Terms.{IsDescending, products}
pub use Rattle.nc_polynomial.specs.declared.fault.PolyFault.{PolyFault}
pub use Rattle.nc_polynomial.specs.declared.fault.SizeFault.{SizeFault}
pub use Rattle.nc_polynomial.specs.declared.poly.Poly.{Poly}
pub use Rattle.quiver.proofs.Counts.{letters-quiver_of}
pub use Rattle.quiver.specs.Declarations.{letter_count, quiver_of}
pub use Rattle.adjoint_rules.proofs.Generators.{claims_have_signatures, generators_are_zero, generators_have_signatures, makes_zero, marked_are_objects, posed_quiver}
pub use Rattle.adjoint_rules.specs.Claims.{claim_at}
pub use Rattle.adjoint_rules.specs.Problem.{generators_in, numbers, polynomials}
pub use Rattle.adjoint_rules.specs.declared.problem.Problem.{Problem}
pub use Rattle.cofactor_checker.specs.Acceptance.{Accepts, AddsUp, Begins, IsMemory, IsPosed, Refuses, SumDiffers, claim_of}
pub use Rattle.cofactor_checker.specs.Difference.{IsComparison, IsLeastDifference}
pub use Rattle.cofactor_checker.specs.Evidence.{AcceptsEvidence, RefusesEvidence}
pub use Rattle.cofactor_checker.specs.Goals.{ReachesClaim, RefusesGoal}
pub use Rattle.cofactor_checker.specs.Laws.{AcceptedEvidenceAddsUp, AcceptedEvidenceIsNotRefused, EachCertificateIsJudged, EvidenceIsJudged, EvidenceRefusalIsUnique, RefusalIsUnique}
pub use Rattle.cofactor_checker.specs.LemmaAcceptance.{AcceptsLemmas, GoalBegins, HasLemmas, HasLooseGoal, HasScale, HasShares, IsFirstLoose, IsPositive, IsTight, RefusesBlock, RefusesLemmaCertificate, all_polynomials, goal_claim}
pub use Rattle.cofactor_checker.specs.Lemmas.{HasLeastIndivisible, IsDivisible, IsLeastIndivisible, IsMade, LeavesRest, LemmaPasses, LemmaRowsPass, LemmasPass, RefusesLemma, RefusesLemmaRows, RefusesLemmas, kept_limit, lemma_polynomial, lemma_polynomials, row_count, term_total}
pub use Rattle.cofactor_checker.specs.Operations.{adding_operations, row_operations}
pub use Rattle.cofactor_checker.specs.PlainRows.{IsGenerator, IsLemma, place_of, plain_row, plain_rows, plain_sum}
pub use Rattle.cofactor_checker.specs.ProvedMeans.{EvidenceAddsUp, MakesZeroByStar, MeansZero, ProvedMeans}
pub use Rattle.cofactor_checker.specs.RowRefusals.{StopsAt, lacks, memory, outgrows, overflows, tell_generator, tell_lacking}
pub use Rattle.cofactor_checker.specs.Rows.{IsNumberUpTo, LacksGenerator, Reaches, RowPasses, RowsPass, sum_limit, term_count}
pub use Rattle.cofactor_checker.specs.Running.{IsRunning, IsStoppedBy, IsSumOf}
pub use Rattle.cofactor_checker.specs.Starts.{ArePositive, AreTight, IsLoose, Starts, TellsStart, multiple}
pub use Rattle.cofactor_checker.specs.Table.{Adds, IsTable, Table, coefficient_at, digest}
pub use Rattle.cofactor_checker.specs.declared.accepted.Accepted.{Accepted}
pub use Rattle.cofactor_checker.specs.declared.compare.Difference.{Difference}
pub use Rattle.cofactor_checker.specs.declared.refusal.Refusal.{Refusal}
