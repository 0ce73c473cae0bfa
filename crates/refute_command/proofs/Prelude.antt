-- What the proofs here take from std, from the crates below and from this crate's definitions, each name once.
pub use Rattle.std.proofs.Common.{IfNone, IfSome, IsTrue, List, Option, [], ap, append-nil, append_assoc, arith, get_or, inl, inr, length, refl, rules, subst, sym, ℕ, ◌++◌, ◌+◌, ◌<◌, ◌∙◌, ◌∷◌, ◌≡◌, ◌≤◌, ◌⊎◌}
pub use Rattle.std.proofs.lemmas.Iterator.{YieldsList-from_range, items_from_collect}
pub use Rattle.std.proofs.lemmas.List.{nil_from_length}
pub use Rattle.std.proofs.lemmas.List.Elements.{All-cons, All-nil, All-weaker}
pub use Rattle.std.proofs.lemmas.List.FromFn.{get_or-range_with_len, length-range_with_len}
pub use Rattle.std.proofs.lemmas.Slice.Zip.{AllZip-long}
pub use Rattle.std.specs.List.{All, AllZip, list_all}
pub use Rattle.std.specs.Vec.Iter.{into_iter_items, into_iter_len}
pub use Rattle.lists.proofs.Zips.{AllZip-unique, AllZip-weaker, zip_ends, zip_push, zip_right}
pub use Rattle.matrix_models.specs.declared.model.Model.{Model}
pub use Rattle.command_shape.proofs.Stops.{memory_ends}
pub use Rattle.command_shape.specs.Ending.{Ending}
pub use Rattle.stated_problem.proofs.Over.{over_stated}
pub use Rattle.stated_problem.proofs.Owed.{OwesEnding, owed_over}
pub use Rattle.stated_problem.specs.Stated.{IsStated}
pub use Rattle.stated_problem.specs.Statement.{OverStatement}
pub use Rattle.adjoint_rules.specs.Claims.{claim_numbers}
pub use Rattle.adjoint_rules.specs.declared.problem.Problem.{Problem}
pub use Rattle.block_text.specs.Back.{is_named}
pub use Rattle.model_text.specs.Back.{IsWritableModel}
pub use Rattle.report_text.proofs.Statuses.{verdicts_status}
pub use Rattle.report_text.specs.Report.{IsVerdictOver, report_of, status_of}
pub use Rattle.report_text.specs.declared.verdict.Verdict.{Verdict}
pub use Rattle.model_checker.specs.Models.{IsClaimNumber, Refutes}
pub use Rattle.model_candidates.specs.Candidates.{IsLeastBreaking, NoneBreaks, all_candidate_count}
pub use Rattle.model_search.proofs.LeastBreaking.{least_means, least_once, least_or_none, least_refutes, none_least}
pub use Rattle.model_search.specs.LeastBreaking.{IsFoundFor, LeastBreaks}
pub use Rattle.model_search.specs.declared.found.Found.{Found}
pub use Rattle.report_readback.proofs.Declared.{declared_names_are_names}
pub use Rattle.report_readback.proofs.OwnEvidence.{search_is_evidence}
pub use Rattle.report_readback.proofs.WritableCandidates.{breaking_candidates_are_writable}
pub use Rattle.report_readback.specs.ModelsReadBack.{refuted_in}
pub use Rattle.report_readback.specs.OwnEvidence.{IsItsOwnEvidence}
pub use Rattle.report_readback.specs.ReadBack.{IsWritableVerdict, proved_in}
pub use Rattle.refute_command.specs.Answers.{AnswersSearch, IsSearchedOn, not_refuted, refuted}
pub use Rattle.refute_command.specs.Says.{PrintsSearched, SaysSearched, SearchMeans}
