-- The first fault of gathering.
use Rattle.cofactor_trace.proofs.Prelude.{◌≡◌, Option, Some, None, Result, sym, ap, subst, ◌∙◌, GatherFault, unless}
use Rattle.cofactor_trace.specs.declared.fault.GatherFault.TheVariants as fault
use Rattle.cofactor_trace.specs.GatherFaults.{Explains}

-- a fault of the first part is that of the whole
pub explains-some : {A : Type 0} (first : Option GatherFault) (r : Result A GatherFault) (e : GatherFault) → first ≡ Some e → Explains (unless first r) e
explains-some first r (fault.Memory e) h = tt
explains-some first r _ h = ap (λ f. unless f r) h

-- a part without a fault is skipped
pub explains-behind : {A : Type 0} (first : Option GatherFault) (r : Result A GatherFault) (e : GatherFault) → first ≡ None → Explains r e → Explains (unless first r) e
explains-behind first r e none h = subst (λ f. Explains (unless f r) e) (sym none) h

pub ok-behind : {A : Type 0} (first second : Option GatherFault) (r : Result A GatherFault) → first ≡ None → second ≡ None → unless first (unless second r) ≡ r
ok-behind first second r none nothing = ap (λ f. unless f (unless second r)) none ∙ ap (λ f. unless f r) nothing
