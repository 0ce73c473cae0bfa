-- What stops terms from being added one by one.
use Rattle.std.specs.Prelude.{◌≡◌, Option, Some}
use Rattle.coef_int.specs.declared.Overflow.{Overflow}
use Rattle.lists.specs.Stop.{Explains}
use Rattle.lists.specs.declared.stop.Stop.{Stop}
use Rattle.lists.specs.declared.stop.Stop.TheVariants as stop
use Rattle.nc_polynomial.specs.declared.fault.PolyFault.{PolyFault}
use Rattle.nc_polynomial.specs.declared.fault.PolyFault.TheVariants as fault
use Rattle.nc_polynomial.specs.Faults.{IsMemory}

-- the fault is this first overflow, or want of memory
abbrev pub IsStoppedBy : Option Overflow → Stop Overflow → Type 0
IsStoppedBy first = Explains (λ o. first ≡ Some o)

-- the second fault is the first one as a fault of polynomials
abbrev pub IsSameFault : Stop Overflow → PolyFault → Type 0
IsSameFault (stop.Fault o) e = e ≡ fault.Overflow o
IsSameFault (stop.Memory failed) e = IsMemory e
