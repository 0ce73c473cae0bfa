-- A report read as evidence: the evidence of the claims that are proved, in their order.
use Rattle.std.specs.Prelude.{◌≡◌, ◌<◌, ◌≤◌, ◌⊎◌, ⊤, ℕ, List, [], ◌∷◌, length, IsTrue}
use Rattle.std.specs.List.{All, AllZip, list_all}
use Rattle.nc_polynomial.specs.declared.poly.Poly.{Poly}
use Rattle.quiver.specs.Declarations.{Declaration, IsDeclared}
use Rattle.traced_rows.specs.declared.evidence.Evidence.{Evidence}
use Rattle.traced_rows.specs.declared.evidence.Format.{Format}
use Rattle.traced_rows.specs.declared.evidence.Format.TheVariants.{Lemmas}
use Rattle.cofactor_trace.specs.declared.halt.Halt.{Halt}
use Rattle.matrix_models.specs.declared.model.Model.{Model}
use Rattle.adjoint_rules.specs.declared.problem.Problem.{Problem}
use Rattle.adjoint_rules.specs.Claims.{claim_numbers}
use Rattle.statement_syntax.specs.declared.tree.Statement.{Statement}
use Rattle.statement_syntax.specs.Texts.{IsTreeOf}
use Rattle.signature_typing.specs.Typing.{IsProblemOf}
use Rattle.traced_completion.specs.declared.budget.Budget.{Budget}
use Rattle.traced_completion.specs.PlainRun.{setting_of}
use Rattle.claim_decider.specs.declared.outcome.Outcome.{Outcome}
use Rattle.claim_decider.specs.declared.outcome.Outcome.TheVariants as outcome
use Rattle.claim_decider.specs.Decided.{AreOutcomesOf, AreLastRules}
use Rattle.block_text.specs.Fault.{no_block}
use Rattle.block_text.specs.Lines.{block_limit}
use Rattle.quiver.specs.Over.{IsPolyOver}
use Rattle.certificate_text.specs.Evidence.{HasCertificates, IsEvidence, IsFirstFault}
use Rattle.block_text.specs.Back.{is_named}
use Rattle.certificate_text.specs.Back.{IsWritableEvidence}
use Rattle.model_text.specs.Written.{HasPlaces}
use Rattle.report_text.specs.declared.verdict.Verdict.{Verdict}
use Rattle.report_text.specs.declared.verdict.Verdict.TheVariants as verdict
use Rattle.report_text.specs.Report.{report_of, IsLeastOver}

-- The text has these certificates, of any format. Where there is at least one, it is evidence; where there is none, that is its
-- first fault.
pub record IsReadAs (ds : List Declaration) (bytes : List ℕ) (es : List Evidence) : Type 0 where
  pub has : HasCertificates Lemmas ds bytes es
  pub some : 0 < length es → IsEvidence Lemmas ds bytes es
  pub none : es ≡ [] → IsFirstFault Lemmas ds bytes no_block

-- the evidence of the claims that are proved
abbrev pub proved_in : List Verdict → List Evidence
proved_in [] = []
proved_in (verdict.Proved e ∷ verdicts) = e ∷ proved_in verdicts
proved_in (verdict.NotDerivable rest ∷ verdicts) = proved_in verdicts
proved_in (verdict.Refuted m ∷ verdicts) = proved_in verdicts
proved_in (verdict.Undecided h ∷ verdicts) = proved_in verdicts
proved_in (verdict.NotRefuted candidates ∷ verdicts) = proved_in verdicts

-- its evidence is within the limits of evidence text, letters are letters of the quiver, and a model has its sides and entries
abbrev pub IsWritableVerdict : List Declaration → Verdict → Type 0
IsWritableVerdict ds (verdict.Proved e) = IsWritableEvidence ds e
IsWritableVerdict ds (verdict.NotDerivable rest) = IsPolyOver ds rest
IsWritableVerdict ds (verdict.Refuted m) = HasPlaces ds m
IsWritableVerdict ds (verdict.Undecided h) = IsLeastOver ds h.least
IsWritableVerdict ds (verdict.NotRefuted candidates) = ⊤

-- A report of at most 100 such verdicts is read as the evidence of those that are proved.
abbrev pub ReportsReadBack : Type 0
ReportsReadBack = (ds : List Declaration) (rules : List Poly) (verdicts : List Verdict)
    → IsDeclared ds → IsTrue (list_all is_named ds) → All (IsPolyOver ds) rules → All (IsWritableVerdict ds) verdicts → length verdicts ≤ block_limit
    → IsReadAs ds (report_of ds rules verdicts) (proved_in verdicts)

-- the possible verdicts on a claim whose run stopped: that it is undecided, or that it is refuted, by any model
abbrev pub IsVerdictOfHalt : List Declaration → Halt → Verdict → Type 0
IsVerdictOfHalt ds h v = (v ≡ verdict.Undecided h) ⊎ ((m : Model) × HasPlaces ds m × (v ≡ verdict.Refuted m))

-- the possible verdicts on a claim with this outcome
abbrev pub IsVerdictOf : List Declaration → Outcome → Verdict → Type 0
IsVerdictOf ds (outcome.Derived e) v = v ≡ verdict.Proved e
IsVerdictOf ds (outcome.Closed rest) v = v ≡ verdict.NotDerivable rest
IsVerdictOf ds (outcome.Halted h) v = IsVerdictOfHalt ds h v

-- of each claim
abbrev pub AreVerdictsOf : List Declaration → List Outcome → List Verdict → Type 0
AreVerdictsOf ds outcomes verdicts = AllZip (IsVerdictOf ds) outcomes verdicts

-- the evidence of the claims that are derived
abbrev pub derived_in : List Outcome → List Evidence
derived_in [] = []
derived_in (outcome.Derived e ∷ outcomes) = e ∷ derived_in outcomes
derived_in (outcome.Closed rest ∷ outcomes) = derived_in outcomes
derived_in (outcome.Halted h ∷ outcomes) = derived_in outcomes

-- The report of verdicts by the outcomes of all claims of a problem, with the last rules, is read as the evidence of the claims that
-- are derived, where objects and maps have names of the language.
abbrev pub OutcomeReportsReadBack : Type 0
OutcomeReportsReadBack = (problem : Problem) (budget : Budget) (form : Format) (outcomes : List Outcome) (verdicts : List Verdict) (rules : List Poly)
    → AreOutcomesOf (setting_of problem budget) form problem (claim_numbers problem) outcomes → AreVerdictsOf problem.parts.quiver outcomes verdicts
    → AreLastRules (setting_of problem budget) form problem (claim_numbers problem) rules
    → IsTrue (list_all is_named problem.parts.quiver)
    → IsReadAs problem.parts.quiver (report_of problem.parts.quiver rules verdicts) (derived_in outcomes)

-- So is the report on a statement, whose objects and maps have names of the language.
abbrev pub StatementReportsReadBack : Type 0
StatementReportsReadBack = (bytes : List ℕ) (statements : List Statement) (problem : Problem) (budget : Budget) (form : Format)
    (outcomes : List Outcome) (verdicts : List Verdict) (rules : List Poly)
    → IsTreeOf bytes statements → IsProblemOf statements problem
    → AreOutcomesOf (setting_of problem budget) form problem (claim_numbers problem) outcomes → AreVerdictsOf problem.parts.quiver outcomes verdicts
    → AreLastRules (setting_of problem budget) form problem (claim_numbers problem) rules
    → IsReadAs problem.parts.quiver (report_of problem.parts.quiver rules verdicts) (derived_in outcomes)
