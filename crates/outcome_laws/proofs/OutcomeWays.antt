-- In what ways a claim gets its outcome: each with the state of the run by whose rules and records it comes.
use Rattle.outcome_laws.proofs.Prelude.{◌≡◌, ◌<◌, length, ℕ, suc, List, [], ◌∷◌, Result, Ok, Err, refl, Term, Poly, Cofactors, Format, LemmaCertificate, ExpandFault, GatherFault, Cause, Place, Halt, expansion_of, gathered_of, State, ReduceFault, normal_form_of, Setting, RunState, closed, stopped, IsCauseOf, IsRound, IsRunState, Outcome, halted_at, IsCauseOfExpansion, IsCauseOfGathering, IsOpen, record_of, certificate_of, Expands, Gathers, IsProved, evidence_of_zero, IsLeft, IsDoneWith, IsDoneBy, IsDone, GetsOutcome, at_once, after_round, by_closing, by_stop, open_run, open_claim}
use Rattle.traced_rows.specs.declared.evidence.Evidence.TheVariants as evidence
use Rattle.traced_rows.specs.declared.evidence.Format.TheVariants as format
use Rattle.cofactor_trace.specs.declared.halt.Place.TheVariants as place
use Rattle.claim_decider.specs.declared.outcome.Outcome.TheVariants as outcome

-- The claim has terms, and is reduced to zero by the rules of a state.
pub record IsProvedBy (setting : Setting) (claim : List Term) : Type 0 where
  pub some : 0 < length claim
  pub rounds : ℕ
  pub state : RunState
  pub run : IsRunState setting rounds state
  pub reduced : State
  pub reduction : normal_form_of setting.compare state.rules claim setting.budget.steps ≡ Ok reduced
  pub none : reduced.rest ≡ []

-- Where the work on a claim stops, and with which cause.
pub data GivesUp (setting : Setting) (number : ℕ) (claim : List Term) : Place → Cause → Type 0 where
  at_claim : (round rounds : ℕ) (s : RunState) (e : ReduceFault) (c : Cause) → 0 < length claim → IsRunState setting rounds s
      → normal_form_of setting.compare s.rules claim setting.budget.steps ≡ Err e → IsCauseOf e c → GivesUp setting number claim (place.Claim round) c
  at_expansion : (round : ℕ) (by : IsProvedBy setting claim) (e : ExpandFault) (c : Cause)
      → expansion_of by.state.made (record_of by.reduced) ≡ Err e → IsCauseOfExpansion e c → GivesUp setting number claim (place.Certificate round) c
  at_gathering : (round : ℕ) (by : IsProvedBy setting claim) (e : GatherFault) (c : Cause)
      → gathered_of number by.state.made (record_of by.reduced) ≡ Err e → IsCauseOfGathering e c → GivesUp setting number claim (place.Certificate round) c

pub data Way (setting : Setting) (form : Format) (number : ℕ) (claim : List Term) (o : Outcome) : Type 0 where
  -- at once
  no_terms : claim ≡ [] → o ≡ outcome.Derived (evidence_of_zero form number) → Way setting form number claim o
  -- with evidence of either format
  expanded : (by : IsProvedBy setting claim) (c : Cofactors) → expansion_of by.state.made (record_of by.reduced) ≡ Ok c → o ≡ outcome.Derived (certificate_of number c) → Way setting form number claim o
  gathered : (by : IsProvedBy setting claim) (c : LemmaCertificate) → gathered_of number by.state.made (record_of by.reduced) ≡ Ok c → o ≡ outcome.Derived (evidence.Lemmas c) → Way setting form number claim o
  -- with a rest
  left_over : (rounds : ℕ) (s : RunState) → IsOpen setting claim rounds s → IsRound setting rounds s closed → (rest : Poly) → IsLeft setting s.rules claim rest.terms
      → o ≡ outcome.Closed rest
      → Way setting form number claim o
  -- in the work on the claim
  given_up : (at : Place) (c : Cause) → GivesUp setting number claim at c → o ≡ halted_at at c → Way setting form number claim o
  -- with the run
  with_run : (rounds : ℕ) (s : RunState) (halt : Halt) → IsOpen setting claim rounds s → IsRound setting rounds s (stopped halt) → o ≡ outcome.Halted halt
      → Way setting form number claim o

module _ (setting : Setting) (form : Format) (number : ℕ) (claim : List Term) (o : Outcome) where
  abbrev Ways : Type 0
  Ways = Way setting form number claim o

  proved_way : (f : Format) (round : ℕ) (by : IsProvedBy setting claim) → IsProved f number (place.Certificate round) by.state.made (record_of by.reduced) o → Ways
  proved_way format.Plain round by is = go (expansion_of by.state.made (record_of by.reduced)) refl is
    where
      go : (r : Result Cofactors ExpandFault) → expansion_of by.state.made (record_of by.reduced) ≡ r → Expands number (place.Certificate round) r o → Ways
      go (Ok c) ends derived = expanded by c ends derived
      go (Err e) ends halted = given_up (place.Certificate round) halted.reason (at_expansion round by e halted.reason ends halted.reason_of) halted.halts
  proved_way format.Lemmas round by is = go (gathered_of number by.state.made (record_of by.reduced)) refl is
    where
      go : (r : Result LemmaCertificate GatherFault) → gathered_of number by.state.made (record_of by.reduced) ≡ r → Gathers (place.Certificate round) r o → Ways
      go (Ok c) ends derived = gathered by c ends derived
      go (Err e) ends halted = given_up (place.Certificate round) halted.reason (at_gathering round by e halted.reason ends halted.reason_of) halted.halts

  done_way : (round rounds : ℕ) (s : RunState) → 0 < length claim → IsRunState setting rounds s → IsDone setting form number round s claim o → Ways
  done_way round rounds s some run done = go (normal_form_of setting.compare s.rules claim setting.budget.steps) refl done
    where
      with_rest : (reduced : State) → normal_form_of setting.compare s.rules claim setting.budget.steps ≡ Ok reduced → (rest : List Term) → reduced.rest ≡ rest → IsDoneWith form number round s.made reduced rest o → Ways
      with_rest reduced ends [] none is = proved_way form round (record { some = some; rounds = rounds; state = s; run = run; reduced = reduced; reduction = ends; none = none }) is
      with_rest reduced ends (t ∷ rest) left is = absurd is

      go : (r : Result State ReduceFault) → normal_form_of setting.compare s.rules claim setting.budget.steps ≡ r → IsDoneBy form number round s.made r o → Ways
      go (Ok reduced) ends is = with_rest reduced ends reduced.rest refl is
      go (Err e) ends halted = given_up (place.Claim round) halted.reason (at_claim round rounds s e halted.reason some run ends halted.reason_of) halted.halts

  pub way : (rounds : ℕ) (s : RunState) → GetsOutcome setting form number claim rounds s o → Ways
  way rounds s (at_once none none_yet at_start is) = no_terms none is
  way rounds s (after_round n before more is_open round done) =
      done_way n (suc n) s (open_claim setting claim n before is_open) (record { before = before; is_before = open_run setting claim n before is_open; round = round }) done
  way rounds s (by_closing is_open round closes) = left_over rounds s is_open round closes.rest closes.left closes.closes
  way rounds s (by_stop halt is_open round is) = with_run rounds s halt is_open round is
