-- A report on a statement is its own evidence.
use Rattle.report_readback.proofs.Prelude.{◌≡◌, ◌≤◌, ℕ, List, [], length, sym, subst, IsTrue, All, list_all, All-nil, Poly, Evidence, Format, Model, Problem, claim_numbers, Budget, setting_of, Outcome, AreOutcomesOf, AreLastRules, Refutes, last_rules_have_letters, block_limit, is_named, IsWritableModel, Verdict, IsPolyOver, report_of, IsReadAs, proved_in, IsWritableVerdict, AreVerdictsOf, refuted_in, IsAnsweredWithinLimits, IsItsOwnEvidence}
use Rattle.report_readback.proofs.Answers.{reported_evidence_is_answered}
use Rattle.report_readback.proofs.Outcomes.{proved_is_derived, verdicts_writable, few_verdicts, outcome_reports_read_back}
use Rattle.report_readback.proofs.Reports.{reports_read_back}
use Rattle.report_readback.proofs.ModelReports.{reports_read_back_as_models}

module _ (problem : Problem) (names : IsTrue (list_all is_named problem.parts.quiver)) (verdicts : List Verdict)
    (writable : All (IsWritableModel problem.parts.quiver) (refuted_in verdicts)) (refute : All (Refutes problem) (refuted_in verdicts)) where
  -- that of a run
  pub run_is_evidence : (budget : Budget) (form : Format) (outcomes : List Outcome) (rules : List Poly)
      → AreOutcomesOf (setting_of problem budget) form problem (claim_numbers problem) outcomes → AreVerdictsOf problem.parts.quiver outcomes verdicts
      → AreLastRules (setting_of problem budget) form problem (claim_numbers problem) rules
      → IsItsOwnEvidence problem (report_of problem.parts.quiver rules verdicts) verdicts
  run_is_evidence budget form outcomes rules are said last =
      let ds = problem.parts.quiver in
      let same : proved_in verdicts ≡ _ = proved_is_derived ds outcomes verdicts said in
      record {
        evidence = subst (IsReadAs ds (report_of ds rules verdicts)) (sym same) (outcome_reports_read_back problem budget form outcomes verdicts rules are said last names);
        answered = subst (λ (es : List Evidence). All (IsAnsweredWithinLimits problem) es) (sym same) (reported_evidence_is_answered problem budget form outcomes are);
        models = reports_read_back_as_models ds rules verdicts problem.posed.declared names (last_rules_have_letters problem budget form (claim_numbers problem) rules last)
            (verdicts_writable problem budget form outcomes verdicts are said) writable (few_verdicts problem budget form outcomes verdicts are said);
        refute = refute;
      }

  -- that of a search, which proves nothing
  pub search_is_evidence : All (IsWritableVerdict problem.parts.quiver) verdicts → length verdicts ≤ block_limit → proved_in verdicts ≡ []
      → IsItsOwnEvidence problem (report_of problem.parts.quiver [] verdicts) verdicts
  search_is_evidence fit few none =
      let ds = problem.parts.quiver in
      record {
        evidence = reports_read_back ds [] verdicts problem.posed.declared names (All-nil (IsPolyOver ds)) fit few;
        answered = subst (λ (es : List Evidence). All (IsAnsweredWithinLimits problem) es) (sym none) (All-nil (IsAnsweredWithinLimits problem));
        models = reports_read_back_as_models ds [] verdicts problem.posed.declared names (All-nil (IsPolyOver ds)) fit writable few;
        refute = refute;
      }
