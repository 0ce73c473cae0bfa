-- Faults of gathering, apart from want of memory, which may come at any time.
use Rattle.std.specs.Prelude.{◌≡◌, ⊤, Result, Err}
use Rattle.coef_int.specs.declared.Overflow.{Overflow}
use Rattle.cofactor_trace.specs.declared.fault.GatherFault.{GatherFault}
use Rattle.cofactor_trace.specs.declared.fault.GatherFault.TheVariants as fault

-- want of memory
abbrev pub IsMemory : GatherFault → Type 0
IsMemory (fault.Overflow o) = ⊥
IsMemory (fault.Rows letters) = ⊥
IsMemory (fault.Memory e) = ⊤

-- this overflow
abbrev pub IsOverflow : Overflow → GatherFault → Type 0
IsOverflow o e = e ≡ fault.Overflow o

-- a fault is that of the exact result, but want of memory may come at any time
abbrev pub Explains : {A : Type 0} → Result A GatherFault → GatherFault → Type 0
Explains r (fault.Overflow o) = r ≡ Err (fault.Overflow o)
Explains r (fault.Rows letters) = r ≡ Err (fault.Rows letters)
Explains r (fault.Memory e) = ⊤
