-- What the proofs here take from std, from the crates below and from this crate's definitions, each name once.
pub use Rattle.std.proofs.Common.{All, Bool, Err, IfErr, IfNone, IfSome, IsErrAnd, List, None, Ok, Option, Result, Some, [], ap, append-nil, append_assoc, ap₂, arith, cond, drop, eq-eqb, eqb, eqb-true, false, get_or, inl, inr, is_some, length, length-drop, of_z, pos, refl, rules, set, slice_get, subst, suc, sym, take, to_z, true, zero, ℕ, ℤ, ◌&&◌, ◌++◌, ◌+ℤ◌, ◌+◌, ◌-◌, ◌<◌, ◌∙◌, ◌∷◌, ◌≡◌, ◌≢◌, ◌≤◌, ◌⊎◌}
pub use Rattle.std.proofs.Math.Seq.{take-append_seam}
pub use Rattle.std.proofs.lemmas.Bool.{and_from, cases_eq, cases_lt}
pub use Rattle.std.proofs.lemmas.Int.{ints}
pub use Rattle.std.proofs.lemmas.List.{get_or-set_other, get_or-set_same, length-append, length-set, length-take, take_all, take_more}
pub use Rattle.std.proofs.lemmas.List.Elements.{All-cons, All-contains, All-drop, All-head, All-map, All-nil, All-push, All-tail, All-take, Contains-append_cases, Contains-append_left, Contains-append_right, Contains-push, Contains-push_cases}
pub use Rattle.std.proofs.lemmas.Option.{get_or_from_slice_get, slice_get_within}
pub use Rattle.std.specs.List.{AllByRecursion, Contains, list_all}
pub use Rattle.std.specs.declared.alloc.AllocError.{AllocError}
pub use Rattle.std.specs.declared.cmp.Ordering.TheVariants.{Greater}
pub use Rattle.definitions.proofs.Coefficients.{at_word}
pub use Rattle.definitions.proofs.Linear.{additive-linear, linear, linear-between, linear_agree, linear_in, linear_same, word_eq-same, word_eq-true}
pub use Rattle.definitions.proofs.Paths.{split, step}
pub use Rattle.definitions.proofs.Rows.{between_is_zero, path_value-append}
pub use Rattle.definitions.proofs.StarSound.{all-append, star_sound}
pub use Rattle.definitions.proofs.Typed.{signature_from_path}
pub use Rattle.definitions.proofs.Values.{group_at, value_at-linear, word_at, word_at_is_arrow}
pub use Rattle.definitions.specs.Category.{InvolutionLaws, IsArrow, PreadditiveLaws, Structure}
pub use Rattle.definitions.specs.Combination.{generator_at}
pub use Rattle.definitions.specs.Poly.{SamePolynomial, Term, coefficient_of, poly_between, word_eq}
pub use Rattle.definitions.specs.Quiver.{IsQuiver, IsTyped, Quiver, is_path, leads, letters, signature_of, source, target}
pub use Rattle.definitions.specs.Representation.{Cancels, Representation, Represents, path_value}
pub use Rattle.definitions.specs.Soundness.{HasSignature, HasValueZero}
pub use Rattle.lists.proofs.Decided.{IsDecided, le_decided}
pub use Rattle.lists.proofs.FirstFailure.{HasOneOutcome, each_decided, no_test, one_test, reworded, then_test}
pub use Rattle.coef_int.specs.Operations.{first_overflow}
pub use Rattle.coef_int.specs.Range.{IsCoefficient}
pub use Rattle.word_core.proofs.CanonicalLaws.{word_cmp-around}
pub use Rattle.word_core.specs.Canonical.{word_cmp}
pub use Rattle.word_core.specs.Letters.{IsOver}
pub use Rattle.word_core.specs.declared.letter.Letter.{Letter}
pub use Rattle.representations.specs.Cancelling.{IsEpic, IsMonic}
pub use Rattle.traced_rows.proofs.Between.{between-nothing}
pub use Rattle.traced_rows.specs.LemmaRows.{AddsUpTo, IsShareOf}
pub use Rattle.traced_rows.specs.declared.evidence.Lemma.{Lemma}
pub use Rattle.nc_polynomial.proofs.CollectedTerms.{coefficient_of-collected, descending-collected, nonzero-collected}
pub use Rattle.nc_polynomial.proofs.Distinct.{distinct-descending, words_listed}
pub use Rattle.nc_polynomial.proofs.Shapes.{Descends, IsDescending-from_recursion, recursion_from_IsDescending}
pub use Rattle.nc_polynomial.proofs.Steps.{drop_next, take_next}
pub use Rattle.nc_polynomial.specs.Collected.{collected}
pub use Rattle.nc_polynomial.specs.Shape.{IsCanonical}
pub use Rattle.nc_polynomial.specs.Terms.{products}
pub use Rattle.nc_polynomial.specs.declared.poly.Poly.{Poly}
pub use Rattle.cofactor_checker.proofs.Each.{all_more, all_whole, at_item, clash}
pub use Rattle.cofactor_checker.proofs.Judged.{start_outcome}
pub use Rattle.cofactor_checker.proofs.LemmaSteps.{polynomials_more, total_more}
pub use Rattle.cofactor_checker.proofs.LemmaSums.{lemma_adds_up, sums_agree}
pub use Rattle.cofactor_checker.proofs.LemmaTests.{divides_or, lemma_outcome, positive_or}
pub use Rattle.cofactor_checker.proofs.LetterSums.{IsLemmaOver, Lists, Stays, claim_stays, difference_is_over, drawn, generators_stay, is_over, lemma_lists, listed_stays, over_word, plain_stays, rest_is_over, word_over}
pub use Rattle.cofactor_checker.proofs.RowSums.{Names, length-polynomials, named}
pub use Rattle.cofactor_checker.proofs.RowTests.{goal_outcome, memory_decided, numbered_or}
pub use Rattle.cofactor_checker.specs.Goals.{ReachesClaim, RefusesGoal}
pub use Rattle.cofactor_checker.specs.LemmaAcceptance.{HasScale, IsTight}
pub use Rattle.cofactor_checker.specs.Lemmas.{kept_limit, lemma_polynomial, term_total}
pub use Rattle.cofactor_checker.specs.PlainRows.{plain_sum}
pub use Rattle.cofactor_checker.specs.Rows.{IsNumberUpTo}
pub use Rattle.cofactor_checker.specs.Starts.{ArePositive, AreTight, IsLoose, Starts, TellsStart}
pub use Rattle.cofactor_checker.specs.declared.refusal.Refusal.{Refusal}
pub use Rattle.quiver.proofs.Counts.{letters-quiver_of}
pub use Rattle.quiver.proofs.TypedTerms.{typed_from_paths}
pub use Rattle.quiver.specs.Declarations.{Declaration, letter_count, quiver_of}
pub use Rattle.quiver.specs.Over.{IsPolyOver}
pub use Rattle.quiver.specs.Signatures.{HasPaths}
pub use Rattle.quiver.specs.declared.named.Sig.{Sig}
pub use Rattle.adjoint_rules.proofs.Generators.{posed_quiver}
pub use Rattle.adjoint_rules.specs.Problem.{polynomials}
pub use Rattle.adjoint_rules.specs.declared.problem.Problem.{Problem}
pub use Rattle.cancel_rules.specs.Acceptance.{AcceptsCancellation, CancelBegins, CancelHasLooseGoal, CancelHasShares, HasItems, HasPositiveScales, IsFirstLooseItem, IsMemory, IsReadableCancellation, IsReadableItem, IsReadableLemma, IsRefused, OfLemma, RefusesBeginning, RefusesCancellation, RefusesCommon, RefusesParts, all_items, claim_named}
pub use Rattle.cancel_rules.specs.Cancellations.{AreOfItems, IsOfItem, declared_for, put_back, with_letter}
pub use Rattle.cancel_rules.specs.Inner.{IsMadeItem, MarksDeclared, MarksLetters}
pub use Rattle.cancel_rules.specs.Items.{CancelPasses, ComesOff, HasAtEnd, InCommon, IsDeclaredLetter, IsTypedItem, ItemPasses, ItemsPass, RefusesCancel, RefusesItem, RefusesItems, item_polynomial, item_polynomials, row_total, rows_in, stripped, word_without}
pub use Rattle.cancel_rules.specs.Laws.{AcceptedCancellationIsNotRefused, AcceptedCancellationLeads, CancellationIsJudged, CancellationRefusalIsUnique}
pub use Rattle.cancel_rules.specs.Meaning.{AreEpic, AreMonic, IsCancellationSound, IsCancellationStarSound}
pub use Rattle.cancel_rules.specs.declared.cancellation.Cancellation.{Cancellation}
pub use Rattle.cancel_rules.specs.declared.cancellation.Item.{Item}
pub use Rattle.cancel_rules.specs.declared.cancellation.Side.{Side}
pub use Rattle.cancel_rules.specs.declared.refusal.CancelRefusal.{CancelRefusal}
pub use Rattle.cancel_rules.specs.declared.refusal.CancelRefusal.TheVariants.{Common}
