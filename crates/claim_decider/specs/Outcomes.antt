-- The outcome of a claim in a run.
use Rattle.std.specs.Prelude.{◌≡◌, ◌<◌, ℕ, zero, suc, pos, List, [], ◌∷◌, length, true, None, Result, Ok, Err}
use Rattle.definitions.specs.Poly.{Term}
use Rattle.nc_polynomial.specs.declared.poly.Poly.{Poly}
use Rattle.traced_rows.specs.declared.Made.{Made}
use Rattle.traced_rows.specs.declared.certificate.Cofactors.{Cofactors}
use Rattle.traced_rows.specs.declared.evidence.Evidence.{Evidence}
use Rattle.traced_rows.specs.declared.evidence.Evidence.TheVariants as evidence
use Rattle.traced_rows.specs.declared.evidence.Format.{Format}
use Rattle.traced_rows.specs.declared.evidence.Format.TheVariants as format
use Rattle.traced_rows.specs.declared.evidence.LemmaCertificate.{LemmaCertificate}
use Rattle.cofactor_trace.specs.declared.fault.ExpandFault.{ExpandFault}
use Rattle.cofactor_trace.specs.declared.fault.ExpandFault.TheVariants as expand
use Rattle.cofactor_trace.specs.declared.fault.GatherFault.{GatherFault}
use Rattle.cofactor_trace.specs.declared.fault.GatherFault.TheVariants as gather
use Rattle.cofactor_trace.specs.declared.halt.Cause.{Cause}
use Rattle.cofactor_trace.specs.declared.halt.Cause.TheVariants as cause
use Rattle.cofactor_trace.specs.declared.halt.Place.{Place}
use Rattle.cofactor_trace.specs.declared.halt.Place.TheVariants as place
use Rattle.cofactor_trace.specs.declared.halt.Halt.{Halt}
use Rattle.cofactor_trace.specs.Needed.{expansion_of}
use Rattle.cofactor_trace.specs.Lemmas.{gathered_of}
use Rattle.rule_reduce.specs.declared.rule.Rule.{Rule}
use Rattle.rule_reduce.specs.declared.state.State.{State}
use Rattle.rule_reduce.specs.declared.fault.ReduceFault.{ReduceFault}
use Rattle.rule_reduce.specs.NormalForms.{normal_form_of}
use Rattle.traced_completion.specs.PlainRun.{Setting, RunState, start, went, closed, stopped, IsCauseOf, IsRound}
use Rattle.claim_decider.specs.declared.outcome.Outcome.{Outcome}
use Rattle.claim_decider.specs.declared.outcome.Outcome.TheVariants as outcome

-- the cause of a fault of expansion; want of memory has none
abbrev pub IsCauseOfExpansion : ExpandFault → Cause → Type 0
IsCauseOfExpansion (expand.Overflow o) c = c ≡ cause.Overflow o
IsCauseOfExpansion (expand.Rows letters) c = c ≡ cause.Rows letters
IsCauseOfExpansion expand.Size c = c ≡ cause.Size true
IsCauseOfExpansion (expand.Memory e) c = ⊥

-- the cause of a fault of gathering
abbrev pub IsCauseOfGathering : GatherFault → Cause → Type 0
IsCauseOfGathering (gather.Overflow o) c = c ≡ cause.Overflow o
IsCauseOfGathering (gather.Rows letters) c = c ≡ cause.Rows letters
IsCauseOfGathering (gather.Memory e) c = ⊥

-- the claim halts at the place, with this cause
abbrev pub halted_at : Place → Cause → Outcome
halted_at at reason = outcome.Halted (record { cause = reason; place = at; least = None })

-- The claim halts at the place, with the cause of a fault.
pub record IsHalted (IsCause : Cause → Type 0) (at : Place) (o : Outcome) : Type 0 where
  pub reason : Cause
  pub reason_of : IsCause reason
  pub halts : o ≡ halted_at at reason

-- the record of a claim that is reduced to zero: the rows of its reduction add up to the multiplier times the claim
abbrev pub record_of : State → Made
record_of s = record { scale = s.multiplier; rows = s.rows }

-- the certificate of a claim with these cofactors
abbrev pub certificate_of : ℕ → Cofactors → Evidence
certificate_of number c = evidence.Plain (record { claim = number; denominator = c.denominator; rows = c.rows })

-- with the result of expansion
abbrev pub Expands : ℕ → Place → Result Cofactors ExpandFault → Outcome → Type 0
Expands number at (Ok c) o = o ≡ outcome.Derived (certificate_of number c)
Expands number at (Err e) o = IsHalted (IsCauseOfExpansion e) at o

-- with the result of gathering
abbrev pub Gathers : Place → Result LemmaCertificate GatherFault → Outcome → Type 0
Gathers at (Ok c) o = o ≡ outcome.Derived (evidence.Lemmas c)
Gathers at (Err e) o = IsHalted (IsCauseOfGathering e) at o

-- The claim with this number and this record is derived with evidence of the format, or halts with the fault of making it.
abbrev pub IsProved : Format → ℕ → Place → List Made → Made → Outcome → Type 0
IsProved format.Plain number at made claim o = Expands number at (expansion_of made claim) o
IsProved format.Lemmas number at made claim o = Gathers at (gathered_of number made claim) o

-- the evidence of a claim without terms
abbrev pub evidence_of_zero : Format → ℕ → Evidence
evidence_of_zero format.Plain number = evidence.Plain (record { claim = number; denominator = pos 1; rows = [] })
evidence_of_zero format.Lemmas number = evidence.Lemmas
    (record { claim = number; denominator = pos 1; lemmas = []; goal = record { scale = pos 1; rows = [] } })

-- The rest of the claim by the rules isn't zero.
pub record IsLeft (setting : Setting) (rules : List Rule) (claim rest : List Term) : Type 0 where
  pub reduced : State
  pub reduction : normal_form_of setting.compare rules claim setting.budget.steps ≡ Ok reduced
  pub rest_is : reduced.rest ≡ rest
  pub nonzero : 0 < length rest

-- by the rest of the claim
abbrev pub IsDoneWith : Format → ℕ → ℕ → List Made → State → List Term → Outcome → Type 0
IsDoneWith form number round made reduced [] o = IsProved form number (place.Certificate round) made (record_of reduced) o
IsDoneWith form number round made reduced (t ∷ rest) o = ⊥

-- by the reduction of the claim
abbrev pub IsDoneBy : Format → ℕ → ℕ → List Made → Result State ReduceFault → Outcome → Type 0
IsDoneBy form number round made (Ok reduced) o = IsDoneWith form number round made reduced reduced.rest o
IsDoneBy form number round made (Err e) o = IsHalted (IsCauseOf e) (place.Claim round) o

-- After the round the claim has its outcome by the rules: it is halted by the fault of its reduction, or nothing is left of it.
abbrev pub IsDone : Setting → Format → ℕ → ℕ → RunState → List Term → Outcome → Type 0
IsDone setting form number round s claim o =
    IsDoneBy form number round s.made (normal_form_of setting.compare s.rules claim setting.budget.steps) o

-- the state after the round with this number, if it was completed and leaves a rest of the claim
pub record IsOpenAfter (setting : Setting) (claim : List Term) (number : ℕ) (Before : RunState → Type 0) (s : RunState) : Type 0 where
  pub before : RunState
  pub is_before : Before before
  pub round : IsRound setting number before (went s)
  pub rest : List Term
  pub left : IsLeft setting s.rules claim rest

-- The claim has terms, and after each of this many completed rounds it has a rest by the rules.
abbrev pub IsOpen : Setting → List Term → ℕ → RunState → Type 0
IsOpen setting claim zero s = (0 < length claim) × (s ≡ start)
IsOpen setting claim (suc n) s = IsOpenAfter setting claim n (IsOpen setting claim n) s

-- The claim is closed with its rest by the rules.
pub record IsClosedWith (setting : Setting) (rules : List Rule) (claim : List Term) (o : Outcome) : Type 0 where
  pub rest : Poly
  pub left : IsLeft setting rules claim rest.terms
  pub closes : o ≡ outcome.Closed rest

-- The claim with this number gets this outcome after this many completed rounds, where the run has this state.
pub data GetsOutcome (setting : Setting) (form : Format) (number : ℕ) (claim : List Term) (rounds : ℕ) (s : RunState) (o : Outcome) : Type 0 where
  -- at once, where it has no terms
  at_once : claim ≡ [] → rounds ≡ 0 → s ≡ start → o ≡ outcome.Derived (evidence_of_zero form number) → GetsOutcome setting form number claim rounds s o
  -- after a completed round
  after_round : (n : ℕ) (before : RunState) → rounds ≡ suc n → IsOpen setting claim n before → IsRound setting n before (went s)
      → IsDone setting form number n s claim o
      → GetsOutcome setting form number claim rounds s o
  -- where the run closes
  by_closing : IsOpen setting claim rounds s → IsRound setting rounds s closed → IsClosedWith setting s.rules claim o
      → GetsOutcome setting form number claim rounds s o
  -- where the run stops
  by_stop : (halt : Halt) → IsOpen setting claim rounds s → IsRound setting rounds s (stopped halt) → o ≡ outcome.Halted halt
      → GetsOutcome setting form number claim rounds s o

-- The outcome of the claim with this number, by itself.
pub record IsOutcomeOf (setting : Setting) (form : Format) (number : ℕ) (claim : List Term) (o : Outcome) : Type 0 where
  pub rounds : ℕ
  pub state : RunState
  pub gets : GetsOutcome setting form number claim rounds state o
