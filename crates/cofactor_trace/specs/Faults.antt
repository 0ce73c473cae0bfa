-- Faults, apart from want of memory, which may come at any time.
use Rattle.std.specs.Prelude.{◌≡◌, ⊤, Option, Some, Result, Err}
use Rattle.coef_int.specs.declared.Overflow.{Overflow}
use Rattle.cofactor_trace.specs.declared.fault.ExpandFault.{ExpandFault}
use Rattle.cofactor_trace.specs.declared.fault.ExpandFault.TheVariants as fault

-- want of memory
abbrev pub IsMemory : ExpandFault → Type 0
IsMemory (fault.Overflow o) = ⊥
IsMemory (fault.Rows letters) = ⊥
IsMemory fault.Size = ⊥
IsMemory (fault.Memory e) = ⊤

-- this overflow
abbrev pub IsOverflow : Overflow → ExpandFault → Type 0
IsOverflow o e = e ≡ fault.Overflow o

-- a fault is that of the exact result, but want of memory may come at any time
abbrev pub Explains : {A : Type 0} → Result A ExpandFault → ExpandFault → Type 0
Explains r (fault.Overflow o) = r ≡ Err (fault.Overflow o)
Explains r (fault.Rows letters) = r ≡ Err (fault.Rows letters)
Explains r fault.Size = r ≡ Err fault.Size
Explains r (fault.Memory e) = ⊤

-- a fault is the first one
abbrev pub IsFirst : Option ExpandFault → ExpandFault → Type 0
IsFirst first (fault.Overflow o) = first ≡ Some (fault.Overflow o)
IsFirst first (fault.Rows letters) = first ≡ Some (fault.Rows letters)
IsFirst first fault.Size = first ≡ Some fault.Size
IsFirst first (fault.Memory e) = ⊤

-- a fault is the overflow of the result
abbrev pub IsOverflowOf : {A : Type 0} → Result A Overflow → ExpandFault → Type 0
IsOverflowOf r (fault.Overflow o) = r ≡ Err o
IsOverflowOf r (fault.Rows letters) = ⊥
IsOverflowOf r fault.Size = ⊥
IsOverflowOf r (fault.Memory e) = ⊤
