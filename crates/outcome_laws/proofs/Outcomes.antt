-- With enough pairs a claim that follows below a word is derived, or halted with another cause than the budget of pairs.
use Rattle.outcome_laws.proofs.Prelude.{ℕ, zero, suc, List, [], ◌∷◌, sym, subst, arith, Term, Format, Cause, Place, Halt, Problem, claim_at, Budget, Setting, RunState, stopped, IsRound, setting_of, Outcome, IsOpen, HasEnough, PairsSuffice, PairsAreEnough, PairsAreEnoughForEach}
use Rattle.outcome_laws.proofs.OpenRuns.{closed_outside}
use Rattle.outcome_laws.proofs.FewTreated.{open_runs_treat_few}
use Rattle.outcome_laws.proofs.Stops.{NotPairs, fault_not_pairs, expansion_not_pairs, gathering_not_pairs, zero_not_pairs, later_not_pairs}
use Rattle.outcome_laws.proofs.OutcomeWays.{GivesUp, at_claim, at_expansion, at_gathering, Way, no_terms, expanded, gathered, left_over, given_up, with_run, way}

-- the work on a claim
work_not_pairs : (setting : Setting) (number : ℕ) (claim : List Term) (at : Place) (c : Cause) → GivesUp setting number claim at c → NotPairs c
work_not_pairs setting number claim _ _ (at_claim round rounds s e c some run ends is) = fault_not_pairs e c is
work_not_pairs setting number claim _ _ (at_expansion round by e c ends is) = expansion_not_pairs e c is
work_not_pairs setting number claim _ _ (at_gathering round by e c ends is) = gathering_not_pairs e c is

module _ (problem : Problem) (budget : Budget) (form : Format) (number : ℕ) (word : List ℕ) (has : HasEnough problem budget number word) where
  stop_suffices : (n : ℕ) (s : RunState) (h : Halt) → IsOpen (setting_of problem budget) (claim_at problem number) n s → IsRound (setting_of problem budget) n s (stopped h) → NotPairs h.cause
  stop_suffices zero s h opened round = zero_not_pairs (setting_of problem budget) s h round
  stop_suffices (suc n) s h opened round =
      let few = open_runs_treat_few problem budget number word n s has.shown opened in
      later_not_pairs (setting_of problem budget) n s h (omega (arith, few, has.enough)) round

  way_suffices : (o : Outcome) → Way (setting_of problem budget) form number (claim_at problem number) o → PairsSuffice o
  way_suffices o (no_terms none is) = subst PairsSuffice (sym is) tt
  way_suffices o (expanded by c ends is) = subst PairsSuffice (sym is) tt
  way_suffices o (gathered by c ends is) = subst PairsSuffice (sym is) tt
  way_suffices o (left_over rounds s is_open round rest left is) =
      let follows = has.shown.follows in
      absurd (closed_outside problem budget number rounds s rest.terms is_open round left (record { denominator = follows.denominator; rows = follows.rows; combination = follows.combination.combination }))
  way_suffices o (given_up at c stops is) = subst PairsSuffice (sym is) (work_not_pairs (setting_of problem budget) number (claim_at problem number) at c stops)
  way_suffices o (with_run rounds s halt is_open round is) = subst PairsSuffice (sym is) (stop_suffices rounds s halt is_open round)

-- the laws
pub pairs_are_enough : PairsAreEnough
pairs_are_enough problem budget form number word o has is =
    way_suffices problem budget form number word has o (way (setting_of problem budget) form number (claim_at problem number) o is.rounds is.state is.gets)

pub pairs_are_enough_for_each : PairsAreEnoughForEach
pairs_are_enough_for_each problem budget form [] [] each = tt
pairs_are_enough_for_each problem budget form [] (o ∷ outcomes) each = absurd each
pairs_are_enough_for_each problem budget form (n ∷ claims) [] each = absurd each
pairs_are_enough_for_each problem budget form (n ∷ claims) (o ∷ outcomes) each =
    ((λ word has. pairs_are_enough problem budget form n word o has each.0), pairs_are_enough_for_each problem budget form claims outcomes each.1)
