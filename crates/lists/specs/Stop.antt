-- Why a call gives no answer: what is wrong with its input, or want of memory.
use Rattle.std.specs.Prelude.{◌≡◌, Result, Ok, Err}
use Rattle.lists.specs.declared.stop.Stop.{Stop}
use Rattle.lists.specs.declared.stop.Stop.TheVariants as stop

-- such a fault, or want of memory
abbrev pub Explains : {E : Type 0} → (E → Type 0) → Stop E → Type 0
Explains P (stop.Fault fault) = P fault
Explains P (stop.Memory error) = Unit {0}

-- want of memory
abbrev pub IsMemory : {E : Type 0} → Stop E → Type 0
IsMemory (stop.Fault fault) = ⊥
IsMemory (stop.Memory error) = Unit {0}

-- the call gives the value of which f makes the wanted one, or the wanted fault, unless memory is short
abbrev pub Gives : {X Y E : Type 0} → (X → Y) → Result X (Stop E) → Result Y E → Type 0
Gives f (Ok x) wanted = wanted ≡ Ok (f x)
Gives f (Err (stop.Fault fault)) wanted = wanted ≡ Err fault
Gives f (Err (stop.Memory error)) wanted = Unit {0}
