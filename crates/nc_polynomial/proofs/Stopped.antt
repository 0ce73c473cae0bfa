-- What stops a sum of terms, as a fault of polynomials.
use Rattle.nc_polynomial.proofs.Prelude.{List, Ok, sym, ap, subst, Overflow, first_overflow, Stop, PolyFault, Explains, checked, unless_overflow, IsStoppedBy, IsSameFault}
use Rattle.lists.specs.declared.stop.Stop.TheVariants as stop
use Rattle.nc_polynomial.specs.declared.fault.PolyFault.TheVariants as fault

pub stop-explains : {X : Type 0} (os : List Overflow) (x : X) (s : Stop Overflow) (e : PolyFault) → IsStoppedBy (first_overflow os) s → IsSameFault s e → Explains (checked os x) e
stop-explains os x (stop.Fault o) e stopped same = subst (Explains (checked os x)) (sym same) (ap (λ f. unless_overflow f (Ok x)) stopped)
stop-explains os x (stop.Memory failed) (fault.Overflow o) stopped same = absurd same
stop-explains os x (stop.Memory failed) (fault.Size s) stopped same = absurd same
stop-explains os x (stop.Memory failed) (fault.Memory e) stopped same = tt
