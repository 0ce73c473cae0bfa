-- What is left of a part of the check is a polynomial, or there is a fault that isn't want of memory.
use Rattle.closed_checker.proofs.Prelude.{List, Result, Ok, Err, Term, Compare, PolyFault, IsMemory, IsCanonical, Rule, State, ReduceFault, halt_of, normal_form_of, Problem, Basis, Part, step_limit, rest_in, rest_by, polynomial_of, rest_of, rules_of, order_of, Makes, Gives, s_polynomial_makes, normal_form_gives}
use Rattle.nc_polynomial.specs.declared.fault.PolyFault.TheVariants as fault
use Rattle.rule_reduce.specs.NormalForms as reduce
use Rattle.closed_checker.specs.declared.part.Part.TheVariants as part
use Rattle.closed_checker.proofs.ByNumber.{canonical_at}

-- what is reduced
pub polynomial_makes : (problem : Problem) (b : Basis) (p : Part) → Makes IsCanonical (polynomial_of problem b p)
polynomial_makes problem b (part.Generator number) = canonical_at problem.generators number
polynomial_makes problem b (part.Ambiguity a) = s_polynomial_makes (rules_of problem b) a
polynomial_makes problem b part.Claim = canonical_at problem.parts.claims b.claim

halt_memory : (e : PolyFault) → reduce.IsMemory (halt_of e) → IsMemory e
halt_memory (fault.Overflow o) memory = memory
halt_memory (fault.Size s) memory = memory
halt_memory (fault.Memory e) memory = memory

rest_in_gives : (r : Result State ReduceFault) → Gives (λ s. IsCanonical s.rest) r → Gives IsCanonical (rest_in r)
rest_in_gives (Ok s) gives = gives
rest_in_gives (Err e) gives = gives

rest_by_gives : (compare : Compare) (rules : List Rule) (r : Result (List Term) PolyFault) → Makes IsCanonical r → Gives IsCanonical (rest_by compare rules r)
rest_by_gives compare rules (Ok p) canonical =
    rest_in_gives (normal_form_of compare rules p step_limit) (normal_form_gives compare rules p step_limit canonical)
rest_by_gives compare rules (Err e) makes = λ memory. makes (halt_memory e memory)

pub rest_gives : (problem : Problem) (b : Basis) (p : Part) → Gives IsCanonical (rest_of problem b p)
rest_gives problem b p = rest_by_gives (order_of problem) (rules_of problem b) (polynomial_of problem b p) (polynomial_makes problem b p)
