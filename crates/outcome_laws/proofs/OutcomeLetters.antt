-- The letters of outcomes and of last rules are letters of the quiver.
use Rattle.outcome_laws.proofs.Prelude.{◌≡◌, ◌<◌, ℕ, List, Option, Some, None, Ok, refl, sym, subst, All, All-nil, All-append, All-map, All-pop, All-weaker, Term, IsOver, Cofactors, CertRow, LemmaRow, Lemma, LemmaCertificate, Format, expansion_of, gathered_of, parts_of, Rule, IsRule, Declaration, letter_count, Problem, claim_at, IsRowOver, IsLemmaRowOver, IsLemmaOver, IsEvidenceOver, Budget, Setting, RunState, IsRunState, setting_of, Outcome, evidence_of_zero, record_of, certificate_of, IsPolyOver, IsLeastOver, IsOutcomeOver, OutcomesHaveLetters, LastRulesHaveLetters, IsOverRow, reduced_over, open_run}
use Rattle.traced_rows.specs.declared.evidence.Evidence.TheVariants as evidence
use Rattle.traced_rows.specs.declared.evidence.Format.TheVariants as format
use Rattle.outcome_laws.proofs.EvidenceWords.{expanded_words, gathered_words}
use Rattle.outcome_laws.proofs.OutcomeWays.{Way, no_terms, expanded, gathered, left_over, given_up, with_run, way, IsProvedBy}
use Rattle.outcome_laws.proofs.OverRuns.{records_over, least_over}
use Rattle.outcome_laws.proofs.ProblemPolynomials.{claim_is}
use Rattle.outcome_laws.proofs.ProblemStates.{state_kept}

-- the problem
module _ (problem : Problem) (budget : Budget) where
  abbrev ds : List Declaration
  ds = problem.parts.quiver

  abbrev letters_in : ℕ
  letters_in = letter_count problem.parts.quiver

  abbrev setting_in : Setting
  setting_in = setting_of problem budget

  rules_of : (rounds : ℕ) (s : RunState) → IsRunState setting_in rounds s → All (IsRule letters_in setting_in.compare) s.rules
  rules_of rounds s is = (state_kept problem budget rounds s is).kept.are_rules

  -- outcomes
  module _ (form : Format) (number : ℕ) where
    abbrev claim : List Term
    claim = claim_at problem number

    zero_over : (f : Format) → IsEvidenceOver ds (evidence_of_zero f number)
    zero_over format.Plain = All-nil (IsRowOver ds)
    zero_over format.Lemmas = (All-nil (IsLemmaOver ds), All-nil (IsLemmaRowOver ds))

    -- the record of the claim
    target_over : (by : IsProvedBy setting_in claim) → All (IsOverRow letters_in) by.reduced.rows
    target_over by =
        (reduced_over letters_in setting_in.compare by.state.rules (rules_of by.rounds by.state by.run) claim setting_in.budget.steps by.reduced (claim_is problem number).over by.reduction).1

    expanded_over : (by : IsProvedBy setting_in claim) (c : Cofactors) → expansion_of by.state.made (record_of by.reduced) ≡ Ok c → IsEvidenceOver ds (certificate_of number c)
    expanded_over by c ends =
        All-weaker (λ (r : CertRow). IsOver letters_in r.left × IsOver letters_in r.right) (IsRowOver ds) (λ r both. record { left = both.0; right = both.1 }) c.rows
        (expanded_words (IsOver letters_in) (All-nil (λ a. a < letters_in)) (λ u v left right. All-append (λ a. a < letters_in) u v left right) by.state.made (record_of by.reduced) c
        (records_over problem budget by.rounds by.state by.run) (target_over by) ends)

    lemma_over : (l : Lemma) → All (λ (r : LemmaRow). IsOver letters_in r.left × IsOver letters_in r.right) l.rows → IsLemmaOver ds l
    lemma_over l each =
        All-weaker (λ (r : LemmaRow). IsOver letters_in r.left × IsOver letters_in r.right) (IsLemmaRowOver ds) (λ r both. record { left = both.0; right = both.1 }) l.rows each

    gathered_over : (by : IsProvedBy setting_in claim) (c : LemmaCertificate) → gathered_of number by.state.made (record_of by.reduced) ≡ Ok c → IsEvidenceOver ds (evidence.Lemmas c)
    gathered_over by c ends =
        let words = gathered_words (IsOver letters_in) number by.state.made (record_of by.reduced) c (records_over problem budget by.rounds by.state by.run) (target_over by) ends in
        let each = All-weaker (λ (l : Lemma). All (λ (r : LemmaRow). IsOver letters_in r.left × IsOver letters_in r.right) l.rows) (IsLemmaOver ds) lemma_over (parts_of c) words in
        All-pop (IsLemmaOver ds) (parts_of c) c.lemmas (Some c.goal) refl each

    least_is_over : (o : Option (List ℕ)) → ((word : List ℕ) → o ≡ Some word → IsOver letters_in word) → IsLeastOver ds o
    least_is_over None each = tt
    least_is_over (Some word) each = each word refl

    outcome_over : (o : Outcome) → Way setting_in form number claim o → IsOutcomeOver ds o
    outcome_over o (no_terms none is) = subst (IsOutcomeOver ds) (sym is) (zero_over form)
    outcome_over o (expanded by c ends is) = subst (IsOutcomeOver ds) (sym is) (expanded_over by c ends)
    outcome_over o (gathered by c ends is) = subst (IsOutcomeOver ds) (sym is) (gathered_over by c ends)
    outcome_over o (left_over rounds s is_open round rest left is) =
        let over = (reduced_over letters_in setting_in.compare s.rules (rules_of rounds s (open_run setting_in claim rounds s is_open)) claim setting_in.budget.steps left.reduced (claim_is problem number).over left.reduction).0 in
        subst (IsOutcomeOver ds) (sym is) (subst (λ (p : List Term). All (λ t. IsOver letters_in t.1) p) left.rest_is over)
    outcome_over o (given_up at c stops is) = subst (IsOutcomeOver ds) (sym is) tt
    outcome_over o (with_run rounds s halt is_open round is) =
        subst (IsOutcomeOver ds) (sym is) (least_is_over halt.least (least_over problem budget rounds s halt (open_run setting_in claim rounds s is_open) round))

-- the laws
pub outcomes_have_letters : OutcomesHaveLetters
outcomes_have_letters problem budget form number o is = outcome_over problem budget form number o (way (setting_of problem budget) form number (claim_at problem number) o is.rounds is.state is.gets)

pub last_rules_have_letters : LastRulesHaveLetters
last_rules_have_letters problem budget form ns polys are =
    let rules = rules_of problem budget are.rounds are.state are.run in
    subst (All (IsPolyOver problem.parts.quiver)) (sym are.are) (
    All-map (IsPolyOver problem.parts.quiver) (λ (g : Rule). g.poly) are.state.rules
    (All-weaker (IsRule (letter_count problem.parts.quiver) (setting_of problem budget).compare) (λ (g : Rule). IsPolyOver problem.parts.quiver g.poly) (λ g is. is.over) are.state.rules rules)
    )
