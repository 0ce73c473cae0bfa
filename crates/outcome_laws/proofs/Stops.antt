-- Causes of halts, and the rounds that stop.
use Rattle.outcome_laws.proofs.Prelude.{◌≢◌, ◌<◌, ℕ, suc, List, length, Option, Some, None, Result, sym, ap, subst, arith, ExpandFault, GatherFault, Cause, Halt, ReduceFault, Recorded, Setting, RunState, stopped, IsCauseOf, IsRound, IsCauseOfExpansion, IsCauseOfGathering, Place}
use Rattle.cofactor_trace.specs.declared.fault.ExpandFault.TheVariants as expand
use Rattle.cofactor_trace.specs.declared.fault.GatherFault.TheVariants as gather
use Rattle.cofactor_trace.specs.declared.halt.Cause.TheVariants as cause
use Rattle.rule_reduce.specs.declared.fault.ReduceFault.TheVariants as fault
use Rattle.cofactor_trace.specs.declared.halt.Place.TheVariants as place
use Rattle.outcome_laws.proofs.RoundEnds.{GivesUp, ZeroTurns, LaterTurns, StopsLater, pairs_spent, gives_up, zero_ends, later_ends}

-- another cause than that the pairs are used up
abbrev pub NotPairs : Cause → Type 0
NotPairs c = (spent : ℕ) → c ≢ cause.Pairs spent

pub fault_not_pairs : (e : ReduceFault) (c : Cause) → IsCauseOf e c → NotPairs c
fault_not_pairs (fault.Steps limit) c is spent same = cc
fault_not_pairs (fault.Overflow o) c is spent same = cc
fault_not_pairs (fault.Size s) c is spent same = cc
fault_not_pairs (fault.Memory e) c is spent same = absurd is

pub expansion_not_pairs : (e : ExpandFault) (c : Cause) → IsCauseOfExpansion e c → NotPairs c
expansion_not_pairs (expand.Overflow o) c is spent same = cc
expansion_not_pairs (expand.Rows passed) c is spent same = cc
expansion_not_pairs expand.Size c is spent same = cc
expansion_not_pairs (expand.Memory e) c is spent same = absurd is

pub gathering_not_pairs : (e : GatherFault) (c : Cause) → IsCauseOfGathering e c → NotPairs c
gathering_not_pairs (gather.Overflow o) c is spent same = cc
gathering_not_pairs (gather.Rows passed) c is spent same = cc
gathering_not_pairs (gather.Memory e) c is spent same = absurd is

-- rounds that stop
stop_not_pairs : (Turns : Result Recorded ReduceFault → Type 0) (at : Place) (least : Option (List ℕ)) (h : Halt) → GivesUp Turns at least h → NotPairs h.cause
stop_not_pairs Turns at least h stop = subst NotPairs (sym (ap (λ (k : Halt). k.cause) stop.is)) (fault_not_pairs stop.fault stop.reason stop.reason_of)

pub zero_not_pairs : (setting : Setting) (s : RunState) (h : Halt) → IsRound setting 0 s (stopped h) → NotPairs h.cause
zero_not_pairs setting s h round = stop_not_pairs (ZeroTurns setting s) (place.Round 0) None h (zero_ends setting s (stopped h) round)

-- where fewer than the budget were treated, a later round stops with another cause
pub later_not_pairs : (setting : Setting) (n : ℕ) (s : RunState) (h : Halt) → length s.treated < setting.budget.pairs → IsRound setting (suc n) s (stopped h) → NotPairs h.cause
later_not_pairs setting n s h few round = go (later_ends setting s (suc n) (stopped h) round)
  where
    go : StopsLater setting s (suc n) h → NotPairs h.cause
    go (pairs_spent w ws all spent is) = absurd (omega (arith, few, spent))
    go (gives_up takes stop) = stop_not_pairs (LaterTurns setting s takes) (place.Round (suc n)) (Some takes.first.word) h stop
