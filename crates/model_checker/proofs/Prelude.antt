-- What the proofs here take from std, from the crates below and from this crate's definitions, each name once.
pub use Rattle.std.proofs.Common.{All, IfNone, IfOk, IfSome, List, MatchOption, None, Option, Some, [], ap, ap₂, arith, cond, eq-eqb, eqb-true, get_or, inl, inr, length, map, nat_le, option_map, refl, rules, slice_get, subst, suc, sym, take, true, true≢false, ℕ, ℤ, ◌*◌, ◌++◌, ◌+◌, ◌-◌, ◌<◌, ◌∙◌, ◌∷◌, ◌≡◌, ◌≤◌, ◌⊎◌}
pub use Rattle.std.proofs.lemmas.Bool.{cases_eq, cases_lt, le-leb, le-ltb, lt-leb, lt-ltb}
pub use Rattle.std.proofs.lemmas.List.{get_or_past, length-map, take_more}
pub use Rattle.std.proofs.lemmas.List.Elements.{All-from_recursion, All-get_or, recursion_from_All}
pub use Rattle.std.proofs.lemmas.List.FromFn.{get_or-map-range_with_len, length-map-range_with_len, map-range_with_len_more}
pub use Rattle.std.proofs.lemmas.Option.{get_or_from_slice_get, slice_get-get_or, slice_get-map, slice_get_cases, slice_get_read, slice_get_within}
pub use Rattle.std.proofs.lemmas.Result.{IfOk-weaker}
pub use Rattle.std.proofs.lemmas.Slice.Zip.{AllZip-left, AllZip-long}
pub use Rattle.std.specs.List.{AllByRecursion, AllZip, range_with_len}
pub use Rattle.std.specs.Option.{IsSomeAnd}
pub use Rattle.definitions.proofs.Sound.{sound}
pub use Rattle.definitions.proofs.StarSound.{star_sound}
pub use Rattle.definitions.proofs.Typed.{signature_from_path}
pub use Rattle.definitions.proofs.UnitSound.{all-append}
pub use Rattle.definitions.specs.Category.{IsArrow, Structure}
pub use Rattle.definitions.specs.Combination.{generator_at}
pub use Rattle.definitions.specs.Quiver.{IsQuiver, IsTyped, Quiver, is_path, letters, source, star, target}
pub use Rattle.definitions.specs.Representation.{Representation, Represents, StarRepresents, value_at}
pub use Rattle.definitions.specs.Soundness.{HasValueZero, HasValueZeroAt}
pub use Rattle.lists.proofs.Decided.{IsDecided, both_decided, decided_by, le_decided, lt_decided}
pub use Rattle.lists.proofs.FirstFailure.{FailsFirst, HasOneOutcome, PassUpTo, each_decided, each_test, found_test, not_each, one_test, reworded, tests_up_to, then_test, where_test}
pub use Rattle.lists.specs.First.{FirstNot}
pub use Rattle.representations.proofs.TypedTerms.{words_are_paths}
pub use Rattle.representations.specs.Listed.{IsRepresentation, IsValue, listed}
pub use Rattle.nc_polynomial.specs.Shape.{IsCanonical}
pub use Rattle.nc_polynomial.specs.declared.poly.Poly.{Poly}
pub use Rattle.matrix_models.specs.Laws.{matrices_laws, transpose_laws}
pub use Rattle.matrix_models.specs.Limits.{modulus_limit, side_limit}
pub use Rattle.matrix_models.specs.Matrices.{IsObject, identity_matrix, matrices, transpose, zero_matrix}
pub use Rattle.matrix_models.specs.Matrix.{HasShape, IsMatrix, IsModulus, IsSide, Matrix}
pub use Rattle.matrix_models.specs.declared.model.Model.{Model}
pub use Rattle.quiver.proofs.Counts.{letters-quiver_of}
pub use Rattle.quiver.specs.Declarations.{quiver_of}
pub use Rattle.quiver.specs.declared.named.Sig.{Sig}
pub use Rattle.adjoint_rules.proofs.Generators.{generators_are_zero, generators_have_signatures, marked_are_objects, posed_quiver}
pub use Rattle.adjoint_rules.specs.Problem.{HasObjects, IsTypedOf, numbers, polynomials}
pub use Rattle.adjoint_rules.specs.declared.problem.Problem.{Problem}
pub use Rattle.model_checker.specs.Laws.{EachModelIsJudged, HasOtherValue, ModelRefusalIsUnique, RefutedClaimsDoNotFollow, RefutingModelIsNotRefused, RefutingModelsAreCounterexamples}
pub use Rattle.model_checker.specs.Listed.{AreOfModel}
pub use Rattle.model_checker.specs.Memory.{IsMemory}
pub use Rattle.model_checker.specs.Models.{HasEnds, HaveMatrices, IsClaimNumber, IsMap, IsModel, IsSelfTransposed, IsZeroIn, Refutes, assumptions_of, claim_polynomial}
pub use Rattle.model_checker.specs.Refusals.{IsAtMap, IsFirstNotZero, RefusesMap, RefusesModel}
pub use Rattle.model_checker.specs.RefutedMeans.{RefutedMeans}
pub use Rattle.model_checker.specs.Representations.{arrow_of, map_at, matrix_or_zero, representation_of, side_of}
pub use Rattle.model_checker.specs.declared.refusal.ModelRefusal.{ModelRefusal}
