-- A report read as models: the models of the claims that are refuted, in their order.
use Rattle.std.specs.Prelude.{◌≡◌, ◌<◌, ◌≤◌, ℕ, List, [], ◌∷◌, length, IsTrue}
use Rattle.std.specs.List.{All, list_all}
use Rattle.nc_polynomial.specs.declared.poly.Poly.{Poly}
use Rattle.quiver.specs.Declarations.{Declaration, IsDeclared}
use Rattle.traced_rows.specs.declared.evidence.Format.{Format}
use Rattle.matrix_models.specs.declared.model.Model.{Model}
use Rattle.adjoint_rules.specs.declared.problem.Problem.{Problem}
use Rattle.adjoint_rules.specs.Claims.{claim_numbers}
use Rattle.statement_syntax.specs.declared.tree.Statement.{Statement}
use Rattle.statement_syntax.specs.Texts.{IsTreeOf}
use Rattle.signature_typing.specs.Typing.{IsProblemOf}
use Rattle.traced_completion.specs.declared.budget.Budget.{Budget}
use Rattle.traced_completion.specs.PlainRun.{setting_of}
use Rattle.claim_decider.specs.declared.outcome.Outcome.{Outcome}
use Rattle.claim_decider.specs.Decided.{AreOutcomesOf, AreLastRules}
use Rattle.model_candidates.specs.Candidates.{Breaks}
use Rattle.block_text.specs.Fault.{no_block}
use Rattle.block_text.specs.Lines.{block_limit}
use Rattle.block_text.specs.Back.{is_named}
use Rattle.quiver.specs.Over.{IsPolyOver}
use Rattle.model_text.specs.Models.{HasModels, IsModels, IsFirstFault}
use Rattle.model_text.specs.Back.{IsWritableModel}
use Rattle.report_text.specs.declared.verdict.Verdict.{Verdict}
use Rattle.report_text.specs.declared.verdict.Verdict.TheVariants as verdict
use Rattle.report_text.specs.Report.{report_of}
use Rattle.report_readback.specs.ReadBack.{IsWritableVerdict, AreVerdictsOf}

-- The text has these models. Where there is at least one, they are what it is read as; where there is none, that is its first fault.
pub record IsReadAsModels (ds : List Declaration) (bytes : List ℕ) (ms : List Model) : Type 0 where
  pub has : HasModels ds bytes ms
  pub some : 0 < length ms → IsModels ds bytes ms
  pub none : ms ≡ [] → IsFirstFault ds bytes no_block

-- the models of the claims that are refuted
abbrev pub refuted_in : List Verdict → List Model
refuted_in [] = []
refuted_in (verdict.Proved e ∷ verdicts) = refuted_in verdicts
refuted_in (verdict.NotDerivable rest ∷ verdicts) = refuted_in verdicts
refuted_in (verdict.Refuted m ∷ verdicts) = m ∷ refuted_in verdicts
refuted_in (verdict.Undecided h ∷ verdicts) = refuted_in verdicts
refuted_in (verdict.NotRefuted candidates ∷ verdicts) = refuted_in verdicts

-- A report of at most 100 verdicts is read as the models of those that are refuted, if these are models of the declarations.
abbrev pub ReportsReadBackAsModels : Type 0
ReportsReadBackAsModels = (ds : List Declaration) (rules : List Poly) (verdicts : List Verdict)
    → IsDeclared ds → IsTrue (list_all is_named ds) → All (IsPolyOver ds) rules → All (IsWritableVerdict ds) verdicts
    → All (IsWritableModel ds) (refuted_in verdicts) → length verdicts ≤ block_limit
    → IsReadAsModels ds (report_of ds rules verdicts) (refuted_in verdicts)

-- So is the report of verdicts by the outcomes of all claims of a statement, with the last rules.
abbrev pub StatementReportsReadBackAsModels : Type 0
StatementReportsReadBackAsModels = (bytes : List ℕ) (statements : List Statement) (problem : Problem) (budget : Budget) (form : Format)
    (outcomes : List Outcome) (verdicts : List Verdict) (rules : List Poly)
    → IsTreeOf bytes statements → IsProblemOf statements problem
    → AreOutcomesOf (setting_of problem budget) form problem (claim_numbers problem) outcomes → AreVerdictsOf problem.parts.quiver outcomes verdicts
    → AreLastRules (setting_of problem budget) form problem (claim_numbers problem) rules → All (IsWritableModel problem.parts.quiver) (refuted_in verdicts)
    → IsReadAsModels problem.parts.quiver (report_of problem.parts.quiver rules verdicts) (refuted_in verdicts)

-- A candidate that breaks a claim of a statement is such a model.
abbrev pub BreakingCandidatesAreWritable : Type 0
BreakingCandidatesAreWritable = (bytes : List ℕ) (statements : List Statement) (problem : Problem) (claim seed number k : ℕ) (m : Model)
    → IsTreeOf bytes statements → IsProblemOf statements problem → Breaks problem claim seed number k m → IsWritableModel problem.parts.quiver m
