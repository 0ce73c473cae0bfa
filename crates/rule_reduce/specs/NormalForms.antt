-- Steps until no word can be reduced.
use Rattle.std.specs.Prelude.{◌≡◌, ℕ, zero, suc, pos, List, [], Option, Some, None, Result, Ok, Err}
use Rattle.definitions.specs.Poly.{Term}
use Rattle.nc_polynomial.specs.declared.fault.PolyFault.{PolyFault}
use Rattle.nc_polynomial.specs.declared.fault.PolyFault.TheVariants as fault
use Rattle.word_orders.specs.Admissible.{Compare}
use Rattle.rule_reduce.specs.declared.rule.Rule.{Rule}
use Rattle.rule_reduce.specs.declared.state.State.{State}
use Rattle.rule_reduce.specs.declared.state.Choice.{Choice}
use Rattle.rule_reduce.specs.declared.fault.ReduceFault.{ReduceFault}
use Rattle.rule_reduce.specs.declared.fault.ReduceFault.TheVariants as halt
use Rattle.rule_reduce.specs.RuleLists.{entries_of}
use Rattle.rule_reduce.specs.Choices.{choice_of}
use Rattle.rule_reduce.specs.Steps.{step_result}

-- a fault of polynomial arithmetic as that of a reduction
abbrev pub halt_of : PolyFault → ReduceFault
halt_of (fault.Overflow o) = halt.Overflow o
halt_of (fault.Size s) = halt.Size s
halt_of (fault.Memory e) = halt.Memory e

-- after a step the next ones, or the fault of the step
abbrev pub then_next : Result State PolyFault → (State → Result State ReduceFault) → Result State ReduceFault
then_next (Ok s) next = next s
then_next (Err e) next = Err (halt_of e)

-- with no steps left
abbrev pub at_limit : ℕ → Option Choice → State → Result State ReduceFault
at_limit limit None s = Ok s
at_limit limit (Some c) s = Err (halt.Steps limit)

-- with a step left
abbrev pub one_step : List Rule → Option Choice → State → (State → Result State ReduceFault) → Result State ReduceFault
one_step rules None s next = Ok s
one_step rules (Some c) s next = then_next (step_result rules c s) next

-- at most so many steps; the first number is the limit that a refusal names
abbrev pub reduction : ℕ → Compare → List Rule → ℕ → State → Result State ReduceFault
reduction limit compare rules zero s = at_limit limit (choice_of compare (entries_of rules) s.rest) s
reduction limit compare rules (suc n) s = one_step rules (choice_of compare (entries_of rules) s.rest) s (reduction limit compare rules n)

-- once the polynomial, with no rows
abbrev pub start_of : List Term → State
start_of p = record { multiplier = pos 1; rest = p; rows = []; used = 0 }

-- the normal form with at most so many steps
abbrev pub normal_form_of : Compare → List Rule → List Term → ℕ → Result State ReduceFault
normal_form_of compare rules p steps = reduction steps compare rules steps (start_of p)

-- a fault is that of the exact result, but want of memory may come at any time
abbrev pub ExplainsHalt : Result State ReduceFault → ReduceFault → Type 0
ExplainsHalt r (halt.Steps limit) = r ≡ Err (halt.Steps limit)
ExplainsHalt r (halt.Overflow o) = r ≡ Err (halt.Overflow o)
ExplainsHalt r (halt.Size s) = r ≡ Err (halt.Size s)
ExplainsHalt r (halt.Memory e) = Unit {0}

abbrev pub IsMemory : ReduceFault → Type 0
IsMemory (halt.Steps limit) = ⊥
IsMemory (halt.Overflow o) = ⊥
IsMemory (halt.Size s) = ⊥
IsMemory (halt.Memory e) = Unit {0}
