-- What the proofs here take from std, from the crates below and from this crate's definitions, each name once.
pub use Rattle.std.proofs.Common.{Bool, IfNone, IfSome, IsSome, IsTrue, List, None, Option, Some, [], ap, append-nil, append_assoc, arith, codes, decimal, false, get_or, inl, inr, length, refl, rules, subst, suc, sym, take, true, true≢false, zero, ℕ, ◌*◌, ◌++◌, ◌+◌, ◌-◌, ◌<◌, ◌∙◌, ◌∷◌, ◌≡◌, ◌≤◌, ◌⊎◌}
pub use Rattle.std.proofs.lemmas.Fmt.{length-decimal-le}
pub use Rattle.std.proofs.lemmas.List.{length-append, length-map, length-take-le, nil_from_length, take_more}
pub use Rattle.std.proofs.lemmas.List.Elements.{All-cons, All-nil, All-weaker}
pub use Rattle.std.proofs.lemmas.List.FromFn.{length-range_with_len}
pub use Rattle.std.proofs.lemmas.Slice.Zip.{AllZip-long}
pub use Rattle.std.specs.List.{All, AllZip, flat_map, list_all, range_with_len}
pub use Rattle.std.specs.Option.{option_flatten, option_to_list}
pub use Rattle.std.specs.Vec.Iter.{into_iter_items, into_iter_len}
pub use Rattle.definitions.specs.Category.{PreadditiveLaws, Structure}
pub use Rattle.definitions.specs.Soundness.{IsSound}
pub use Rattle.lists.proofs.Zips.{AllZip-unique, zip_right}
pub use Rattle.representations.specs.Evidence.{IsEvidenceSound}
pub use Rattle.traced_rows.specs.declared.evidence.Evidence.{Evidence}
pub use Rattle.cofactor_trace.specs.declared.halt.Halt.{Halt}
pub use Rattle.nc_polynomial.specs.declared.poly.Poly.{Poly}
pub use Rattle.cofactor_checker.proofs.ProvedMeans.{proved_means}
pub use Rattle.matrix_models.specs.declared.model.Model.{Model}
pub use Rattle.command_shape.proofs.Stops.{memory_ends}
pub use Rattle.command_shape.specs.Ending.{Ending}
pub use Rattle.command_shape.specs.FileWords.{statement_limit}
pub use Rattle.command_shape.specs.Limits.{size_limit}
pub use Rattle.stated_problem.proofs.Over.{over_stated, over_statement}
pub use Rattle.stated_problem.proofs.Owed.{OwesEnding, OwesOver, owed_over}
pub use Rattle.stated_problem.specs.Stated.{IsStated}
pub use Rattle.stated_problem.specs.Statement.{OverStatement}
pub use Rattle.adjoint_rules.specs.Claims.{claim_at, claim_numbers}
pub use Rattle.adjoint_rules.specs.Problem.{polynomials}
pub use Rattle.adjoint_rules.specs.declared.problem.Problem.{Problem}
pub use Rattle.block_text.specs.Back.{is_named}
pub use Rattle.model_text.specs.Back.{IsWritableModel}
pub use Rattle.report_text.proofs.Statuses.{verdicts_status}
pub use Rattle.report_text.specs.Bench.{assumption_of_step, bench_statement, maps_of_step, numbered, there_and_back}
pub use Rattle.report_text.specs.Report.{IsVerdictOver, report_of, status_of}
pub use Rattle.report_text.specs.declared.verdict.Verdict.{Verdict}
pub use Rattle.traced_completion.specs.PlainRun.{setting_of}
pub use Rattle.claim_decider.proofs.UniqueOutcomes.{outcomes_unique}
pub use Rattle.claim_decider.proofs.UniqueRules.{last_rules_unique}
pub use Rattle.claim_decider.specs.Decided.{AreLastRules, AreOutcomesOf}
pub use Rattle.claim_decider.specs.Outcomes.{IsOutcomeOf}
pub use Rattle.claim_decider.specs.declared.outcome.Outcome.{Outcome}
pub use Rattle.outcome_laws.proofs.AskedOrders.{asked_cmp-admissible, asked_rank}
pub use Rattle.outcome_laws.proofs.Meanings.{outcomes_mean_what_they_say}
pub use Rattle.outcome_laws.proofs.OutcomeLetters.{last_rules_have_letters, outcomes_have_letters}
pub use Rattle.outcome_laws.proofs.Problems.{each_problem_has_outcomes}
pub use Rattle.outcome_laws.specs.Halts.{HaltMeans}
pub use Rattle.outcome_laws.specs.Meanings.{OutcomeMeans}
pub use Rattle.outcome_laws.specs.OutcomeLetters.{IsOutcomeOver}
pub use Rattle.model_checker.specs.Models.{IsClaimNumber, Refutes}
pub use Rattle.model_candidates.specs.Candidates.{IsLeastBreaking, NoneBreaks}
pub use Rattle.model_search.proofs.LeastBreaking.{least_means, least_once, least_or_none, least_refutes, none_least}
pub use Rattle.model_search.specs.LeastBreaking.{LeastBreaks}
pub use Rattle.model_search.specs.declared.found.Found.{Found}
pub use Rattle.report_readback.proofs.Declared.{declared_names_are_names}
pub use Rattle.report_readback.proofs.OwnEvidence.{run_is_evidence}
pub use Rattle.report_readback.proofs.WritableCandidates.{breaking_candidates_are_writable}
pub use Rattle.report_readback.specs.ModelsReadBack.{refuted_in}
pub use Rattle.report_readback.specs.OwnEvidence.{IsItsOwnEvidence}
pub use Rattle.report_readback.specs.ReadBack.{AreVerdictsOf, IsVerdictOf}
pub use Rattle.prove_command.specs.Answers.{AnswersClaims, AreVerdictsOn, Decides, IsVerdictOn, Print, not_derivable, print_of, proved, refuted, undecided}
pub use Rattle.prove_command.specs.Says.{PrintsMeant, ReportsMeant, SaysDecided, SaysReported, VerdictMeans}
pub use Rattle.prove_command.specs.Searched.{halted_from, searched_from}
pub use Rattle.prove_command.specs.declared.prove.Asked.{Asked}
