-- What `check` and `model` answer to a report on the same statement.
use Rattle.command_runs.proofs.Prelude.{◌≡◌, ◌⊎◌, inl, inr, ◌+◌, ℕ, List, [], ◌∷◌, ◌++◌, Some, length, refl, sym, ap, subst, ◌∙◌, arith, All, append_assoc, All-head, All-tail, recursion_from_All, Evidence, Model, Problem, Refusal, IsMemory, no_block, Refutes, Verdict, IsReadAs, proved_in, IsReadAsModels, refuted_in, PassesLimit, IsAnsweredWithinLimits, IsItsOwnEvidence, Ending, line, IsStated, refused_text, JudgesFrom, accepted, refused, faulty, read, stated_leads, passing_answered, text_answered_once, claims_are_evidence, search_is_evidence, Accepts, Refuses, accepted_lines, AnswersText, named_text, certificates, models, told, certificates_are_judged, models_are_judged, IsReportOn, of_prove, of_refute, no_blocks, ChecksReport, ConfirmsReport, ReportsAreChecked, ReportsAreConfirmed}
use Rattle.command_shape.specs.Blocks.{block_text}
use Rattle.evidence_commands.specs.Causes.{cause_text}

-- each report is its own evidence
own : (statement : List ℕ) (problem : Problem) (report : Ending) → IsStated statement problem → IsReportOn problem report → (verdicts : List Verdict) × IsItsOwnEvidence problem report.report verdicts
own statement problem report is (of_prove asked answer) = (answer.verdicts, claims_are_evidence asked statement report problem is answer)
own statement problem report is (of_refute seed answer) = (answer.verdicts, search_is_evidence seed statement report problem is answer)

plus_zero : (n : ℕ) → n ≡ n + 0
plus_zero n = omega arith

-- certificates
module _ (problem : Problem) where
  -- the first that is refused
  record IsLimited (number : ℕ) (lines : List ℕ) (status : ℕ) : Type 0 where
    first : List Evidence
    refusal : Refusal
    cause : List ℕ
    passes : PassesLimit refusal
    told : cause_text problem.parts.quiver refusal ≡ Some cause
    lines_are : lines ≡ accepted_lines certificates problem number first ++ line (refused_text (number + length first) cause)
    seven : status ≡ 7

  -- all are accepted, or one is refused
  abbrev IsChecked : ℕ → List Evidence → List ℕ → ℕ → Type 0
  IsChecked number es lines status = ((lines ≡ accepted_lines certificates problem number es) × (status ≡ 0)) ⊎ IsLimited number lines status

  more : (number : ℕ) (e : Evidence) (es : List Evidence) (text rest lines : List ℕ) (status : ℕ) → Accepts certificates problem e text → lines ≡ line (block_text number text) ++ rest
      → IsChecked (number + 1) es rest status → IsChecked number (e ∷ es) lines status
  more number e es text rest lines status holds is (inl others) = inl (is ∙ (λ i. line (block_text number (holds.says i)) ++ others.0 i), others.1)
  more number e es text rest lines status holds is (inr others) =
      let counted : number + 1 + length others.first ≡ number + length (e ∷ others.first) = omega arith in
      inr (record {
        first = e ∷ others.first;
        refusal = others.refusal;
        cause = others.cause;
        passes = others.passes;
        told = others.told;
        lines_are = is ∙ (λ i. line (block_text number (holds.says i)) ++ others.lines_are i)
            ∙ ap (λ n. line (block_text number (named_text e)) ++ (accepted_lines certificates problem (number + 1) others.first ++ line (refused_text n others.cause))) counted
            ∙ sym (append_assoc (line (block_text number (named_text e))) (accepted_lines certificates problem (number + 1) others.first) (line (refused_text (number + length (e ∷ others.first)) others.cause)));
        seven = others.seven;
      })

  checked : (report : List ℕ) (number : ℕ) (es : List Evidence) (lines : List ℕ) (status : ℕ) → All (IsAnsweredWithinLimits problem) es
      → JudgesFrom (Accepts certificates problem) (Refuses certificates problem) number es lines status → IsChecked number es lines status
  checked report number [] lines status answered judges = inl judges
  checked report number (e ∷ es) lines status answered (accepted text holds rest next is) =
      more number e es text rest lines status holds is (checked report (number + 1) es rest status (All-tail (IsAnsweredWithinLimits problem) e es answered) next)
  checked report number (e ∷ es) lines status answered (refused cause because is seven) =
      inr (record {
        first = [];
        refusal = because.refusal;
        cause = cause;
        passes = within ((All-head (IsAnsweredWithinLimits problem) e es answered).no_other because.refusal because.fails);
        told = because.says;
        lines_are = is ∙ ap (λ n. line (refused_text n cause)) (plus_zero number);
        seven = seven;
      })
    where
      within : PassesLimit because.refusal ⊎ IsMemory because.refusal → PassesLimit because.refusal
      within (inl passes) = passes
      within (inr memory) = absurd (told problem.parts.quiver because.refusal cause because.says memory)

  by_checks : (es : List Evidence) (ending : Ending) → IsChecked 1 es ending.report ending.status → ChecksReport problem ending
  by_checks es ending (inl passed) = ChecksReport.all es (λ i. record { status = passed.1 i; report = passed.0 i })
  by_checks es ending (inr stopped) =
      ChecksReport.limit stopped.first stopped.refusal stopped.cause stopped.passes stopped.told (λ i. record { status = stopped.seven i; report = stopped.lines_are i })

  -- where the report is read as this evidence
  module _ (report : List ℕ) (ending : Ending) where
    of_evidence : (es : List Evidence) → IsReadAs problem.parts.quiver report es → All (IsAnsweredWithinLimits problem) es → AnswersText certificates report problem ending → ChecksReport problem ending
    of_evidence [] read_as answered answers =
        ChecksReport.none (text_answered_once (certificates_are_judged.is_kind problem report) ending no_blocks answers (faulty no_block (read_as.none refl) refl))
    of_evidence (e ∷ es) read_as answered (faulty fault is ends) = absurd ((certificates_are_judged.is_kind problem report).no_fault (e ∷ es) fault (read_as.some (omega arith)) is)
    of_evidence (e ∷ es) read_as answered (read bs is judges) =
        let same : bs ≡ e ∷ es = (certificates_are_judged.is_kind problem report).one_list bs (e ∷ es) is (read_as.some (omega arith)) in
        let judged = subst (λ (l : List Evidence). JudgesFrom (Accepts certificates problem) (Refuses certificates problem) 1 l ending.report ending.status) same judges in
        by_checks (e ∷ es) ending (checked report 1 (e ∷ es) ending.report ending.status answered judged)

    -- models
    of_models : (ms : List Model) → IsReadAsModels problem.parts.quiver report ms → All (Refutes problem) ms → AnswersText models report problem ending → ConfirmsReport problem ending
    of_models [] read_as refute answers = ConfirmsReport.none (text_answered_once (models_are_judged.is_kind problem report) ending no_blocks answers (faulty no_block (read_as.none refl) refl))
    of_models (m ∷ ms) read_as refute answers =
        ConfirmsReport.all (m ∷ ms)
        (text_answered_once (models_are_judged.is_kind problem report) ending (record { status = 0; report = accepted_lines models problem 1 (m ∷ ms) }) answers
        (passing_answered (models_are_judged.is_kind problem report) (m ∷ ms) (read_as.some (omega arith)) (recursion_from_All (Refutes problem) (m ∷ ms) refute)))

-- what is answered
pub reports_are_checked : ReportsAreChecked
reports_are_checked statement problem report ending is made answers =
    let evidence = own statement problem report is made in
    of_evidence problem report.report ending (proved_in evidence.0) evidence.1.evidence evidence.1.answered (stated_leads statement (AnswersText certificates report.report) ending problem is answers)

pub reports_are_confirmed : ReportsAreConfirmed
reports_are_confirmed statement problem report ending is made answers =
    let evidence = own statement problem report is made in
    of_models problem report.report ending (refuted_in evidence.0) evidence.1.models evidence.1.refute (stated_leads statement (AnswersText models report.report) ending problem is answers)
