-- A report read as bases: the bases of the claims that aren't derivable, in their order.
use Rattle.std.specs.Prelude.{◌≡◌, ◌<◌, ◌≤◌, ℕ, suc, List, [], ◌∷◌, length, IsTrue}
use Rattle.std.specs.List.{All, list_all}
use Rattle.nc_polynomial.specs.declared.poly.Poly.{Poly}
use Rattle.quiver.specs.Declarations.{Declaration, IsDeclared}
use Rattle.traced_rows.specs.declared.evidence.Format.{Format}
use Rattle.adjoint_rules.specs.declared.problem.Problem.{Problem}
use Rattle.adjoint_rules.specs.Claims.{claim_numbers}
use Rattle.statement_syntax.specs.declared.tree.Statement.{Statement}
use Rattle.statement_syntax.specs.Texts.{IsTreeOf}
use Rattle.signature_typing.specs.Typing.{IsProblemOf}
use Rattle.traced_completion.specs.declared.budget.Budget.{Budget}
use Rattle.traced_completion.specs.PlainRun.{setting_of}
use Rattle.claim_decider.specs.declared.outcome.Outcome.{Outcome}
use Rattle.claim_decider.specs.declared.outcome.Outcome.TheVariants as outcome
use Rattle.claim_decider.specs.Decided.{AreOutcomesOf, AreLastRules}
use Rattle.block_text.specs.Fault.{no_block}
use Rattle.block_text.specs.Lines.{block_limit}
use Rattle.block_text.specs.Back.{is_named}
use Rattle.adjoint_rules.specs.declared.basis.Basis.{Basis}
use Rattle.block_lines.specs.Back.{IsWritableBasis}
use Rattle.block_lines.specs.Bases.{HasBases, IsBases, IsFirstFault}
use Rattle.adjoint_rules.specs.Limits.{rule_limit}
use Rattle.quiver.specs.Over.{IsPolyOver}
use Rattle.report_text.specs.declared.verdict.Verdict.{Verdict}
use Rattle.report_text.specs.declared.verdict.Verdict.TheVariants as verdict
use Rattle.report_text.specs.Report.{report_of}
use Rattle.report_readback.specs.ReadBack.{IsWritableVerdict, AreVerdictsOf}
use Rattle.command_runs.specs.Printed.{IsConfirmedWithinLimits}

-- The text has these bases. Where there is at least one, they are what it is read as; where there is none, that is its first fault.
pub record IsReadAsBases (ds : List Declaration) (bytes : List ℕ) (bases : List Basis) : Type 0 where
  pub has : HasBases ds bytes bases
  pub some : 0 < length bases → IsBases ds bytes bases
  pub none : bases ≡ [] → IsFirstFault ds bytes no_block

-- reports of verdicts

-- the basis of a claim by the rules, with its rest
abbrev pub basis_by : List Poly → ℕ → Poly → Basis
basis_by rules claim rest = record { claim = claim; rules = rules; rest = rest }

-- the bases of those that aren't derivable among the claim with this number and the next ones
abbrev pub bases_from : List Poly → ℕ → List Verdict → List Basis
bases_from rules claim [] = []
bases_from rules claim (verdict.Proved e ∷ verdicts) = bases_from rules (suc claim) verdicts
bases_from rules claim (verdict.NotDerivable rest ∷ verdicts) = basis_by rules claim rest ∷ bases_from rules (suc claim) verdicts
bases_from rules claim (verdict.Refuted m ∷ verdicts) = bases_from rules (suc claim) verdicts
bases_from rules claim (verdict.Undecided h ∷ verdicts) = bases_from rules (suc claim) verdicts
bases_from rules claim (verdict.NotRefuted candidates ∷ verdicts) = bases_from rules (suc claim) verdicts

-- A report of at most 100 verdicts is read as the bases of those that aren't derivable, if these can be written.
abbrev pub ReportsReadBackAsBases : Type 0
ReportsReadBackAsBases = (ds : List Declaration) (rules : List Poly) (verdicts : List Verdict)
    → IsDeclared ds → IsTrue (list_all is_named ds) → All (IsPolyOver ds) rules → All (IsWritableVerdict ds) verdicts
    → All (IsWritableBasis ds) (bases_from rules 1 verdicts) → length verdicts ≤ block_limit
    → IsReadAsBases ds (report_of ds rules verdicts) (bases_from rules 1 verdicts)

-- reports of outcomes

-- the bases of those that are closed
abbrev pub closed_from : List Poly → ℕ → List Outcome → List Basis
closed_from rules claim [] = []
closed_from rules claim (outcome.Derived e ∷ outcomes) = closed_from rules (suc claim) outcomes
closed_from rules claim (outcome.Closed rest ∷ outcomes) = basis_by rules claim rest ∷ closed_from rules (suc claim) outcomes
closed_from rules claim (outcome.Halted h ∷ outcomes) = closed_from rules (suc claim) outcomes

-- So is the report of verdicts by the outcomes of all claims of a statement, with at most 100,000 last rules.
abbrev pub StatementReportsReadBackAsBases : Type 0
StatementReportsReadBackAsBases = (bytes : List ℕ) (statements : List Statement) (problem : Problem) (budget : Budget) (form : Format)
    (outcomes : List Outcome) (verdicts : List Verdict) (rules : List Poly)
    → IsTreeOf bytes statements → IsProblemOf statements problem
    → AreOutcomesOf (setting_of problem budget) form problem (claim_numbers problem) outcomes → AreVerdictsOf problem.parts.quiver outcomes verdicts
    → AreLastRules (setting_of problem budget) form problem (claim_numbers problem) rules → length rules ≤ rule_limit
    → IsReadAsBases problem.parts.quiver (report_of problem.parts.quiver rules verdicts) (closed_from rules 1 outcomes)

-- And each basis that is read from it is closed, or its check stops.
abbrev pub ReportedBasesAreConfirmed : Type 0
ReportedBasesAreConfirmed = (problem : Problem) (budget : Budget) (form : Format) (outcomes : List Outcome) (rules : List Poly)
    → AreOutcomesOf (setting_of problem budget) form problem (claim_numbers problem) outcomes
    → AreLastRules (setting_of problem budget) form problem (claim_numbers problem) rules
    → All (IsConfirmedWithinLimits problem) (closed_from rules 1 outcomes)
