-- The letters of records are letters of the problem, and so are those of the least overlap word.
use Rattle.outcome_laws.proofs.Prelude.{◌≡◌, ◌<◌, ℕ, zero, suc, List, ◌∷◌, Some, sym, ap, ◌∙◌, subst, All, All-nil, All-head, IsOver, asked_cmp, letter_count, Made, Halt, words_over, s_words, AreOver, IsOverRow, reduced_over, s_rows_over, Waiting, Problem, Budget, AreAllPending, RunState, stopped, IsRound, IsRunState, setting_of, pending-over}
use Rattle.outcome_laws.proofs.ProblemPolynomials.{generator_is}
use Rattle.outcome_laws.proofs.ProblemStates.{state_kept}
use Rattle.outcome_laws.proofs.RoundEnds.{StopsLater, pairs_spent, gives_up, zero_ends, later_ends}
use Rattle.outcome_laws.proofs.RowsOfRuns.{KeepsRows, records_made}

module _ (problem : Problem) (budget : Budget) where
  abbrev letters : ℕ
  letters = letter_count problem.parts.quiver

  abbrev IsOverMade : Made → Type 0
  IsOverMade m = All (IsOverRow letters) m.rows

  letters_kept : KeepsRows problem budget (AreOver letters) (IsOverRow letters) IsOverMade
  letters_kept = record {
    negative = λ r held. held;
    multiple = λ by r held fits. held;
    reduced = λ rules p s are over ends. reduced_over letters (asked_cmp problem.parts.order) rules are p budget.steps s over ends;
    ambiguous = λ rules a p are is ends. (
      words_over letters p (s_words letters (asked_cmp problem.parts.order) rules are a is p ends),
      s_rows_over letters (asked_cmp problem.parts.order) rules are a is,
    );
    polynomial = λ n. (generator_is problem n).over;
    row = λ n rules s are ends. (All-nil (λ a. a < letters), All-nil (λ a. a < letters));
    makes = λ rest g m made over rows some. rows;
  }

  pub records_over : (rounds : ℕ) (s : RunState) → IsRunState (setting_of problem budget) rounds s → All (λ m. All (IsOverRow letters) m.rows) s.made
  records_over = records_made problem budget (AreOver letters) (IsOverRow letters) IsOverMade letters_kept

  -- the least overlap word
  pub least_over : (rounds : ℕ) (s : RunState) (halt : Halt) → IsRunState (setting_of problem budget) rounds s → IsRound (setting_of problem budget) rounds s (stopped halt)
      → (word : List ℕ) → halt.least ≡ Some word → IsOver letters word
  least_over zero s halt run round word least = absurd (cc (sym (ap (λ (h : Halt). h.least) (zero_ends (setting_of problem budget) s (stopped halt) round).is) ∙ least))
  least_over (suc n) s halt run round word least = go (later_ends (setting_of problem budget) s (suc n) (stopped halt) round)
    where
      first : (w : Waiting) (ws : List Waiting) → AreAllPending (asked_cmp problem.parts.order) s.rules s.treated (w ∷ ws) → halt.least ≡ Some w.word → IsOver letters word
      first w ws all same =
          subst (IsOver letters) (cc (sym same ∙ least))
          (All-head (λ (v : Waiting). IsOver letters v.word) w ws
          (pending-over letters (asked_cmp problem.parts.order) s.rules s.treated (w ∷ ws) (state_kept problem budget (suc n) s run).kept.are_rules all))

      go : StopsLater (setting_of problem budget) s (suc n) halt → IsOver letters word
      go (pairs_spent w ws all spent is) = first w ws all (ap (λ (h : Halt). h.least) is)
      go (gives_up takes stop) = first takes.first takes.others takes.all_pending (ap (λ (h : Halt). h.least) stop.is)
