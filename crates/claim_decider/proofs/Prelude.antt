-- What the proofs here take from std, from the crates below and from this crate's definitions, each name once.
pub use Rattle.std.proofs.Common.{Bool, Err, IfOk, List, None, Ok, Option, Result, Some, [], ap, append_assoc, arith, drop, false, get_or, inl, inr, length, map, of_z, refl, rules, set, slice_get, subst, suc, sym, take, to_z, true, zero, ℕ, ◌++◌, ◌+◌, ◌-◌, ◌<◌, ◌∙◌, ◌∷◌, ◌≡◌, ◌≤◌, ◌⊎◌}
pub use Rattle.std.proofs.lemmas.Bool.{cases_lt}
pub use Rattle.std.proofs.lemmas.List.{append-nil, drop-set-lt, drop_more, get_or-map, length-map, map-append, nil_from_length, take_more, take_more_set}
pub use Rattle.std.proofs.lemmas.List.Elements.{All-cons, All-contains, All-map, All-nil, All-rest, All-tail, All-weaker, AllZip-get_or, AllZip-push, length_all_zip}
pub use Rattle.std.proofs.lemmas.List.Folds.{list_any_at}
pub use Rattle.std.specs.Int.{w128}
pub use Rattle.std.specs.List.{All, AllZip, list_any, range_with_len}
pub use Rattle.std.specs.Prelude.{⊤}
pub use Rattle.std.specs.Vec.Iter.{into_iter_items, into_iter_len}
pub use Rattle.definitions.specs.Poly.{Term}
pub use Rattle.coef_int.specs.Range.{IsCoefficient}
pub use Rattle.traced_rows.proofs.Lists.{all_one, all_push}
pub use Rattle.traced_rows.specs.declared.Made.{Made}
pub use Rattle.traced_rows.specs.declared.Row.{Row}
pub use Rattle.traced_rows.specs.declared.certificate.Cofactors.{Cofactors}
pub use Rattle.traced_rows.specs.declared.evidence.Format.{Format}
pub use Rattle.traced_rows.specs.declared.evidence.LemmaCertificate.{LemmaCertificate}
pub use Rattle.cofactor_trace.specs.Lemmas.{gathered_of}
pub use Rattle.cofactor_trace.specs.Needed.{AreRecords, IsAmongFirst, IsRecord, expansion_of}
pub use Rattle.cofactor_trace.specs.declared.fault.ExpandFault.{ExpandFault}
pub use Rattle.cofactor_trace.specs.declared.fault.GatherFault.{GatherFault}
pub use Rattle.cofactor_trace.specs.declared.halt.Cause.{Cause}
pub use Rattle.cofactor_trace.specs.declared.halt.Place.{Place}
pub use Rattle.nc_polynomial.specs.declared.poly.Poly.{Poly}
pub use Rattle.word_orders.specs.Admissible.{Compare, IsAdmissible}
pub use Rattle.word_orders.specs.Specified.{asked_cmp, letters_of, made_cmp}
pub use Rattle.word_orders.specs.declared.any.AnyOrder.{AnyOrder}
pub use Rattle.word_orders.specs.declared.any.OrderSpec.{OrderSpec}
pub use Rattle.rule_reduce.proofs.Multipliers.{multipliers_are_positive}
pub use Rattle.rule_reduce.proofs.RowsByRules.{rows_are_by_rules}
pub use Rattle.rule_reduce.specs.Choices.{choice_from, choice_of}
pub use Rattle.rule_reduce.specs.Laws.{IsByRule}
pub use Rattle.rule_reduce.specs.NormalForms.{ExplainsHalt, normal_form_of, reduction, start_of}
pub use Rattle.rule_reduce.specs.RuleLists.{IsRule}
pub use Rattle.rule_reduce.specs.declared.fault.ReduceFault.{ReduceFault}
pub use Rattle.rule_reduce.specs.declared.rule.Rule.{Rule}
pub use Rattle.rule_reduce.specs.declared.state.State.{State}
pub use Rattle.ambiguities.specs.declared.ambiguity.Ambiguity.{Ambiguity}
pub use Rattle.adjoint_rules.specs.Claims.{claim_at}
pub use Rattle.adjoint_rules.specs.Problem.{polynomials}
pub use Rattle.adjoint_rules.specs.declared.problem.Problem.{Problem}
pub use Rattle.traced_completion.proofs.KeptReductions.{among_first}
pub use Rattle.traced_completion.proofs.UniqueRuns.{cause_one, rounds_unique, same_poly, states_unique}
pub use Rattle.traced_completion.specs.Completions.{IsCompletionOf, IsUnchangedAfter, outcome_of, rounds_after, state_of}
pub use Rattle.traced_completion.specs.PlainRun.{IsCauseOf, IsRound, IsRunState, Outcome as Result_of_round, RunState, Setting, closed, setting_of, start, stopped, went}
pub use Rattle.traced_completion.specs.declared.budget.Budget.{Budget}
pub use Rattle.traced_completion.specs.declared.completion.Completion.{Completion}
pub use Rattle.traced_completion.specs.declared.completion.Step.{Step}
pub use Rattle.claim_decider.specs.Cases.{Follows, Gives, HasGot, HasOutcome, IsCase, IsJudged, IsNumber, IsOfProblem, IsOpenWith, IsSettled, OpenFollows, StandingFollows, Stands, case_numbers}
pub use Rattle.claim_decider.specs.Decided.{AreLastRules, AreOutcomesOf, GetsOutcomeAt, GetsOutcomeBy, IsLastRound, OneGetsOutcomeAt, polynomials_in}
pub use Rattle.claim_decider.specs.OutcomeLaws.{LastRulesAreUnique, OutcomesAreUnique}
pub use Rattle.claim_decider.specs.Outcomes.{Expands, Gathers, GetsOutcome, IsCauseOfExpansion, IsCauseOfGathering, IsClosedWith, IsDone, IsDoneBy, IsDoneWith, IsHalted, IsLeft, IsOpen, IsOutcomeOf, IsProved, after_round, at_once, by_closing, by_stop, evidence_of_zero, halted_at, record_of}
pub use Rattle.claim_decider.specs.declared.case.Case.{Case}
pub use Rattle.claim_decider.specs.declared.case.Standing.{Standing}
pub use Rattle.claim_decider.specs.declared.case.Standing.TheVariants.{Open, Settled}
pub use Rattle.claim_decider.specs.declared.outcome.Outcome.{Outcome}
