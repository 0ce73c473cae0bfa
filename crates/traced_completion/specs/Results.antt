-- Results of reductions, one after another.
use Rattle.std.specs.Prelude.{◌≡◌, List, [], ◌∷◌, Option, Some, None, Result, Ok, Err, ⊤}
use Rattle.coef_int.specs.declared.Overflow.{Overflow}
use Rattle.nc_polynomial.specs.declared.fault.PolyFault.{PolyFault}
use Rattle.rule_reduce.specs.declared.fault.ReduceFault.{ReduceFault}
use Rattle.rule_reduce.specs.declared.fault.ReduceFault.TheVariants as fault
use Rattle.rule_reduce.specs.NormalForms.{halt_of}

-- the next result, of a value, or the fault
abbrev pub and_then : {A B : Type 0} → Result A ReduceFault → (A → Result B ReduceFault) → Result B ReduceFault
and_then (Ok x) next = next x
and_then (Err e) next = Err e

-- a fault of polynomial arithmetic as that of a reduction
abbrev pub halted : {A : Type 0} → Result A PolyFault → Result A ReduceFault
halted (Ok x) = Ok x
halted (Err e) = Err (halt_of e)

-- a value, unless an operation overflows
abbrev pub unless_overflow : {A : Type 0} → Option Overflow → A → Result A ReduceFault
unless_overflow None x = Ok x
unless_overflow (Some o) x = Err (fault.Overflow o)

-- the values of a function of each item, or the first fault
abbrev pub each_in_turn : {A B : Type 0} → (A → Result B ReduceFault) → List A → Result (List B) ReduceFault
each_in_turn f [] = Ok []
each_in_turn f (x ∷ xs) = and_then (f x) (λ y. and_then (each_in_turn f xs) (λ ys. Ok (y ∷ ys)))

-- a fault is that of the exact result, but want of memory may come at any time
abbrev pub Explains : {A : Type 0} → Result A ReduceFault → ReduceFault → Type 0
Explains r (fault.Steps limit) = r ≡ Err (fault.Steps limit)
Explains r (fault.Overflow o) = r ≡ Err (fault.Overflow o)
Explains r (fault.Size s) = r ≡ Err (fault.Size s)
Explains r (fault.Memory e) = ⊤
