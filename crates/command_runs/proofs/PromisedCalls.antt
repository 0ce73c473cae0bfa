-- What the answer of each call says, line by line.
use Rattle.command_runs.proofs.Prelude.{◌≢◌, ℕ, List, ap, Structure, PreadditiveLaws, IsSound, IsEvidenceSound, IsCancellationSound, Problem, Budget, SaysEquations, Call, Prove, Refute, Bench, EvidenceCommand, Ending, OverStatement, stated, IsStated, asked_by, judged_by, AnswersEvidence, are_judged, answers_judged, statement_of, evidence_of, AnswersOver, Answers, SaysOver, budget_of, LinesAreMeant}
use Rattle.command_shape.specs.declared.call.Call.TheVariants.{Evidence}
use Rattle.stated_problem.specs.Statement.{faulty}
use Rattle.command_runs.proofs.Commands.{answers_say}
use Rattle.command_runs.proofs.Promised.{prove_is_meant, bench_is_meant, refute_is_meant}
use Rattle.command_runs.proofs.PromisedEvidence.{text_is_meant}

module _ {Object Arrow : Type 0} {s : Structure Object Arrow} (laws : PreadditiveLaws s) (sound : IsSound s) (with_lemmas : IsEvidenceSound s) (cancelling : IsCancellationSound s) (equations : SaysEquations s) where
  -- over the problem of a statement
  evidence_is_meant : (budget : Budget) (command : EvidenceCommand) (statement evidence : List ℕ) (problem : Problem) → IsStated statement problem → (ending : Ending) → AnswersEvidence command evidence problem ending
      → LinesAreMeant s budget statement evidence ending.report
  evidence_is_meant budget command statement evidence problem is ending ends =
      text_is_meant (judged_by command).kind (are_judged command) laws sound with_lemmas cancelling equations budget statement problem is evidence ending (answers_judged command evidence problem ending ends)

  -- a statement without a fault
  over : (budget : Budget) (statement evidence : List ℕ) (next : Problem → Ending → Type 0) (ending : Ending) → ending.status ≢ 3 → OverStatement statement next ending
      → ((problem : Problem) → IsStated statement problem → next problem ending → LinesAreMeant s budget statement evidence ending.report) → LinesAreMeant s budget statement evidence ending.report
  over budget statement evidence next ending sound_statement (faulty text refused ends) meant = absurd (sound_statement (ap (λ (e : Ending). e.status) ends))
  over budget statement evidence next ending sound_statement (stated problem is leads) meant = meant problem is leads

  call_by : (call : Call) (statement evidence : List ℕ) (ending : Ending) → ending.status ≢ 3 → OverStatement statement (AnswersOver call evidence) ending → SaysOver s call statement evidence ending
      → LinesAreMeant s (budget_of call) statement evidence ending.report
  call_by (Prove p) statement evidence ending fine answer says =
      over (budget_of (Prove p)) statement evidence _ ending fine says (λ problem is reports. prove_is_meant equations statement problem is evidence (asked_by p) ending reports.prints)
  call_by (Refute p) statement evidence ending fine answer says =
      over (budget_of (Refute p)) statement evidence _ ending fine says (λ problem is prints. refute_is_meant equations statement problem is evidence (budget_of (Refute p)) p.seed ending prints)
  call_by (Bench b) statement evidence ending fine answer says =
      over (budget_of (Bench b)) statement evidence _ ending fine says (λ problem is prints. bench_is_meant equations statement problem is evidence ending prints)
  call_by (Evidence command p) statement evidence ending fine answer says =
      over (budget_of (Evidence command p)) statement evidence _ ending fine answer (λ problem is ends. evidence_is_meant (budget_of (Evidence command p)) command statement evidence problem is ending ends)

  pub call_is_meant : (call : Call) (contents : List (List ℕ)) (ending : Ending) → Answers call contents ending → ending.status ≢ 3
      → LinesAreMeant s (budget_of call) (statement_of call contents) (evidence_of contents) ending.report
  call_is_meant call contents ending answer fine =
      call_by call (statement_of call contents) (evidence_of contents) ending fine answer.1 (answers_say laws sound with_lemmas cancelling call contents ending answer).1
