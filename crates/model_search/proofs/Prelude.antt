-- What the proofs here take from std, from the crates below and from this crate's definitions, each name once.
pub use Rattle.std.proofs.Common.{Bool, Err, IfNone, IfOk, IfSome, IsNone, IsTrue, List, MatchOption, None, Ok, Option, Result, Some, [], ap, arith, false, get_or, inl, inr, is_none, length, not, refl, replicate, rules, set, slice_get, subst, suc, sym, true, true≢false, zero, ℕ, ◌++◌, ◌+◌, ◌-◌, ◌<◌, ◌↔◌, ◌∙◌, ◌∷◌, ◌≡◌, ◌≤◌, ◌⊎◌}
pub use Rattle.std.proofs.lemmas.Bool.{cases_eq, cases_lt}
pub use Rattle.std.proofs.lemmas.Iterator.{YieldsList-from_range, items_from_collect}
pub use Rattle.std.proofs.lemmas.List.{get_or-set_other, get_or-set_same, get_or_append_left, get_or_default, get_or_push, length-set, length_push, take_at}
pub use Rattle.std.proofs.lemmas.List.Elements.{All-get_or}
pub use Rattle.std.proofs.lemmas.List.Folds.{list_any_at}
pub use Rattle.std.proofs.lemmas.List.FromFn.{get_or-range_with_len, length-range_with_len}
pub use Rattle.std.proofs.lemmas.Option.{same_Some, slice_get_within}
pub use Rattle.std.proofs.lemmas.Slice.Zip.{AllZip-long}
pub use Rattle.std.specs.List.{All, AllByRecursion, AllZip, list_any, range_with_len}
pub use Rattle.std.specs.Option.{option_map}
pub use Rattle.definitions.specs.Quiver.{Quiver, letters}
pub use Rattle.lists.proofs.Decided.{IsDecided}
pub use Rattle.matrix_models.specs.declared.model.Model.{Model}
pub use Rattle.quiver.proofs.Counts.{letters-quiver_of}
pub use Rattle.quiver.specs.Declarations.{object_count, quiver_of}
pub use Rattle.adjoint_rules.proofs.Generators.{posed_quiver}
pub use Rattle.adjoint_rules.specs.Problem.{IsShape}
pub use Rattle.adjoint_rules.specs.declared.parts.Shape.{Shape}
pub use Rattle.adjoint_rules.specs.declared.problem.Problem.{Problem}
pub use Rattle.model_checker.proofs.Judged.{refutes_decided}
pub use Rattle.model_checker.proofs.RefutedMeans.{refuted_means}
pub use Rattle.model_checker.specs.Models.{HaveMatrices, IsClaimNumber, IsFitting, IsModel, IsZeroIn, Refutes, assumptions_of, claim_polynomial}
pub use Rattle.model_checker.specs.RefutedMeans.{RefutedMeans}
pub use Rattle.model_candidates.proofs.CandidateLaws.{candidate_is_unique, each_number_has_a_candidate}
pub use Rattle.model_candidates.proofs.CandidateModels.{model_by_has_matrices, model_by_is_model, modulus_of_shape}
pub use Rattle.model_candidates.proofs.GivenValues.{AreGiven, quiver}
pub use Rattle.model_candidates.proofs.NumberedShapes.{digits_are_values, shape_is, shape_is_one, shape_of_number}
pub use Rattle.model_candidates.proofs.TestedValues.{linear_in_candidate}
pub use Rattle.model_candidates.specs.Candidates.{Breaks, IsCandidate, IsEarlier, IsLeastBreaking, IsShapeOf, NoneBreaks, candidate_count, digits, model_by, naming}
pub use Rattle.model_candidates.specs.Plans.{AreEntryValues}
pub use Rattle.model_search.specs.LeastBreaking.{LeastBreaks}
pub use Rattle.model_search.specs.SearchLaws.{BreakingCandidatesRefute, EachSearchHasAnAnswer, HasLeastBreaking, IsRefutingModel, LeastBreakingIsUnique, NoneBreaksLeavesNoLeast}
pub use Rattle.model_search.specs.Searches.{AreBroken, AreFlags, AreOfClaims, AreSearchedTo, AreTested, AreTold, AreUnbroken, BreaksAt, CanBeTested, HasFlag, IsFirstBroken, IsFirstFrom, IsFlag, IsFoundAt, IsSearchedTo, IsTested, NoneBefore, NoneBreaksAt, TellsBreaks, flag_at}
pub use Rattle.model_search.specs.declared.found.Found.{Found}
