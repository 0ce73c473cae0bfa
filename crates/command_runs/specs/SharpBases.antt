-- The bases that are printed of closed claims are sharp.
use Rattle.std.specs.Prelude.{◌≡◌, ℕ, true, List, IsTrue}
use Rattle.traced_rows.specs.declared.evidence.Format.{Format}
use Rattle.adjoint_rules.specs.declared.problem.Problem.{Problem}
use Rattle.traced_completion.specs.declared.budget.Budget.{Budget}
use Rattle.adjoint_rules.specs.declared.basis.Basis.{Basis}
use Rattle.closed_checker.specs.Rests.{rules_of, claim_of}
use Rattle.normal_forms.specs.SharpMeans.{SharpMeans, StarSharpMeans}
use Rattle.evidence_commands.specs.Kind.{Accepts}
use Rattle.evidence_commands.specs.Confirm.{claim_closed, bases}
use Rattle.command_runs.specs.Printed.{IsPrinted}

-- The text of a basis that is printed and accepted ends with ` sharp`.
abbrev pub PrintedBasesAreSharp : Type 0
PrintedBasesAreSharp = (problem : Problem) (budget : Budget) (form : Format) (b : Basis) (text : List ℕ)
    → IsPrinted problem budget form b → Accepts bases problem b text → text ≡ claim_closed b.claim true

-- And what ` sharp` means holds of each basis that is printed, accepted or not.
abbrev pub PrintedBasesMeanSharp : Type 0
PrintedBasesMeanSharp = (problem : Problem) (budget : Budget) (form : Format) (b : Basis)
    → IsPrinted problem budget form b → SharpMeans problem.parts (rules_of problem b) (claim_of problem b)

-- So does what it means besides where the statement is starred.
abbrev pub PrintedBasesMeanStarSharp : Type 0
PrintedBasesMeanStarSharp = (problem : Problem) (budget : Budget) (form : Format) (b : Basis)
    → IsPrinted problem budget form b → IsTrue problem.parts.starred → StarSharpMeans problem.parts (rules_of problem b) (claim_of problem b)
