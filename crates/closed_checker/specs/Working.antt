-- What the functions of the check keep, step by step. What a closed basis is, Closed says.
use Rattle.std.specs.Prelude.{◌≡◌, ◌≤◌, ⊤, ℕ, List, Result, Ok, Err}
use Rattle.definitions.specs.Poly.{Term}
use Rattle.nc_polynomial.specs.declared.poly.Poly.{Poly}
use Rattle.quiver.specs.Declarations.{letter_count}
use Rattle.word_orders.specs.declared.any.AnyOrder.{AnyOrder}
use Rattle.word_orders.specs.Specified.{made_cmp, letters_of}
use Rattle.cofactor_trace.specs.declared.halt.Cause.TheVariants as cause
use Rattle.rule_reduce.specs.declared.rule.Rule.{Rule}
use Rattle.rule_reduce.specs.declared.fault.ReduceFault.{ReduceFault}
use Rattle.rule_reduce.specs.declared.fault.ReduceFault.TheVariants as halt
use Rattle.ambiguities.specs.declared.ambiguity.Ambiguity.{Ambiguity}
use Rattle.ambiguities.specs.Ambiguities.{IsAmbiguity}
use Rattle.adjoint_rules.specs.declared.problem.Problem.{Problem}
use Rattle.adjoint_rules.specs.declared.basis.Basis.{Basis}
use Rattle.closed_checker.specs.declared.part.Part.{Part}
use Rattle.closed_checker.specs.declared.part.Part.TheVariants as part
use Rattle.closed_checker.specs.declared.refusal.ClosedRefusal.{ClosedRefusal}
use Rattle.closed_checker.specs.declared.refusal.ClosedRefusal.TheVariants as refusal
use Rattle.closed_checker.specs.Rests.{order_of, rules_of}
use Rattle.closed_checker.specs.Closed.{LeavesZero}

-- the rules that are made of the basis, and their order
pub record AreRulesOf (problem : Problem) (b : Basis) (order : AnyOrder) (rules : List Rule) : Type 0 where
  pub same : rules ≡ rules_of problem b
  pub compares : made_cmp order ≡ order_of problem
  pub letters : letter_count problem.parts.quiver ≤ letters_of order

-- a fault is that of the exact result, but want of memory may come at any time
abbrev pub Explains : Result (List Term) ReduceFault → ReduceFault → Type 0
Explains r (halt.Steps limit) = r ≡ Err (halt.Steps limit)
Explains r (halt.Overflow o) = r ≡ Err (halt.Overflow o)
Explains r (halt.Size s) = r ≡ Err (halt.Size s)
Explains r (halt.Memory e) = ⊤

-- the result is this rest, or this fault
abbrev pub IsAnswer : Result Poly ReduceFault → Result (List Term) ReduceFault → Type 0
IsAnswer (Ok rest) r = r ≡ Ok rest.terms
IsAnswer (Err fault) r = Explains r fault

-- what is told of a fault in the part
abbrev pub refusal_of : Part → ReduceFault → ClosedRefusal
refusal_of p (halt.Steps limit) = refusal.Stopped p (cause.Steps limit)
refusal_of p (halt.Overflow o) = refusal.Stopped p (cause.Overflow o)
refusal_of p (halt.Size s) = refusal.Stopped p (cause.Size s.letters)
refusal_of p (halt.Memory e) = refusal.Memory e

-- nothing is left of the first n generators
pub record GeneratorsPass (problem : Problem) (b : Basis) (n : ℕ) : Type 0 where
  pub at : (number : ℕ) → 1 ≤ number → number ≤ n → LeavesZero problem b (part.Generator number)

-- nothing is left of each ambiguity
pub record AmbiguitiesPass (problem : Problem) (b : Basis) : Type 0 where
  pub at : (a : Ambiguity) → IsAmbiguity (rules_of problem b) a → LeavesZero problem b (part.Ambiguity a)
