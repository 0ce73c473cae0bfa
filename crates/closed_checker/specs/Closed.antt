-- When a basis is closed, and else the first test that fails.
use Rattle.std.specs.Prelude.{◌≡◌, ◌≢◌, ◌<◌, ◌≤◌, ◌+◌, ⊤, ℕ, List, [], length, take, slice_get, Some, Ok, Err}
use Rattle.std.specs.List.{All}
use Rattle.definitions.specs.Poly.{Term}
use Rattle.nc_polynomial.specs.declared.poly.Poly.{Poly}
use Rattle.quiver.specs.Declarations.{Declaration}
use Rattle.cofactor_trace.specs.declared.halt.Cause.{Cause}
use Rattle.cofactor_trace.specs.declared.halt.Cause.TheVariants as cause
use Rattle.rule_reduce.specs.declared.fault.ReduceFault.{ReduceFault}
use Rattle.rule_reduce.specs.declared.fault.ReduceFault.TheVariants as halt
use Rattle.ambiguities.specs.declared.ambiguity.Ambiguity.{Ambiguity}
use Rattle.ambiguities.specs.Ambiguities.{IsAmbiguity}
use Rattle.ambiguities.specs.Order.{IsBeforeByWord}
use Rattle.adjoint_rules.specs.declared.problem.Problem.{Problem}
use Rattle.adjoint_rules.specs.declared.basis.Basis.{Basis}
use Rattle.adjoint_rules.specs.Bases.{IsBasisOver}
use Rattle.adjoint_rules.specs.Limits.{rule_limit}
use Rattle.closed_checker.specs.declared.part.Part.{Part}
use Rattle.closed_checker.specs.declared.part.Part.TheVariants as part
use Rattle.closed_checker.specs.declared.refusal.ClosedRefusal.{ClosedRefusal}
use Rattle.closed_checker.specs.declared.refusal.ClosedRefusal.TheVariants as refusal
use Rattle.closed_checker.specs.Rests.{order_of, rules_of, rest_of, MayBeRule}

-- What is known of each basis that is read: its rules can be numbered, and its letters are letters of the quiver.
pub record IsReadableBasis (ds : List Declaration) (b : Basis) : Type 0 where
  pub few : length b.rules ≤ rule_limit
  pub over : IsBasisOver ds b

-- a number from 1 to the count
pub record IsNumberUpTo (count number : ℕ) : Type 0 where
  pub least : 1 ≤ number
  pub most : number ≤ count

-- the basis names one of the claims
abbrev pub NamesClaim : Problem → Basis → Type 0
NamesClaim problem b = IsNumberUpTo (length problem.parts.claims) b.claim

-- It does, and each of its polynomials may be a rule.
pub record HasRules (problem : Problem) (b : Basis) : Type 0 where
  pub claim : NamesClaim problem b
  pub rules : All (MayBeRule (order_of problem)) b.rules

-- nothing is left of the part
abbrev pub LeavesZero : Problem → Basis → Part → Type 0
LeavesZero problem b p = rest_of problem b p ≡ Ok []

-- The basis is closed: it has rules, they leave nothing of each generator and of the S-polynomial of each ambiguity, and they leave of the claim the
-- rest that the basis says, which is not zero.
pub record IsClosedBasis (problem : Problem) (b : Basis) : Type 0 where
  pub has_rules : HasRules problem b
  pub generators : (number : ℕ) → IsNumberUpTo (length problem.generators) number → LeavesZero problem b (part.Generator number)
  pub ambiguities : (a : Ambiguity) → IsAmbiguity (rules_of problem b) a → LeavesZero problem b (part.Ambiguity a)
  pub claim : rest_of problem b part.Claim ≡ Ok b.rest.terms
  pub nonzero : b.rest.terms ≢ []

-- a generator of the problem, an ambiguity of the rules, or the claim
abbrev pub IsPart : Problem → Basis → Part → Type 0
IsPart problem b (part.Generator number) = IsNumberUpTo (length problem.generators) number
IsPart problem b (part.Ambiguity a) = IsAmbiguity (rules_of problem b) a
IsPart problem b part.Claim = ⊤

-- Generators come by their numbers, ambiguities behind them by their overlap words, and the claim comes last.
abbrev pub ComesBefore : Problem → Basis → Part → Part → Type 0
ComesBefore problem b (part.Generator m) (part.Generator n) = m < n
ComesBefore problem b (part.Generator m) (part.Ambiguity a) = ⊤
ComesBefore problem b (part.Generator m) part.Claim = ⊤
ComesBefore problem b (part.Ambiguity a) (part.Generator n) = ⊥
ComesBefore problem b (part.Ambiguity a) (part.Ambiguity c) = IsBeforeByWord (order_of problem) (rules_of problem b) a c
ComesBefore problem b (part.Ambiguity a) part.Claim = ⊤
ComesBefore problem b part.Claim p = ⊥

-- The basis has rules, the part is one of its check, and nothing is left of those before it.
pub record Reaches (problem : Problem) (b : Basis) (p : Part) : Type 0 where
  pub has_rules : HasRules problem b
  pub part : IsPart problem b p
  pub earlier : (other : Part) → IsPart problem b other → ComesBefore problem b other p → LeavesZero problem b other

-- The basis names a claim, and the polynomial with this number, counted from 1, is the first that may not be a rule.
pub record LacksRule (problem : Problem) (b : Basis) (number : ℕ) : Type 0 where
  pub claim : NamesClaim problem b
  pub before : ℕ
  pub poly : Poly
  pub numbered : number ≡ before + 1
  pub there : slice_get b.rules before ≡ Some poly
  pub earlier : All (MayBeRule (order_of problem)) (take before b.rules)
  pub refused : MayBeRule (order_of problem) poly → ⊥

-- The part is the first of which something is left, which is this.
pub record Leaves (problem : Problem) (b : Basis) (p : Part) (rest : List Term) : Type 0 where
  pub reached : Reaches problem b p
  pub left : rest_of problem b p ≡ Ok rest
  pub nonzero : rest ≢ []

-- Nothing is left of the parts before the claim, and of the claim this is, which isn't what the basis says.
pub record LeavesOther (problem : Problem) (b : Basis) (rest : List Term) : Type 0 where
  pub reached : Reaches problem b part.Claim
  pub left : rest_of problem b part.Claim ≡ Ok rest
  pub other : rest ≢ b.rest.terms

-- Nothing is left of the parts before the claim, and nothing of the claim, as the basis says.
pub record LeavesNoClaim (problem : Problem) (b : Basis) : Type 0 where
  pub reached : Reaches problem b part.Claim
  pub left : LeavesZero problem b part.Claim
  pub said : b.rest.terms ≡ []

-- the cause of a fault of a reduction; want of memory is none
abbrev pub IsCauseOf : ReduceFault → Cause → Type 0
IsCauseOf (halt.Steps limit) c = c ≡ cause.Steps limit
IsCauseOf (halt.Overflow o) c = c ≡ cause.Overflow o
IsCauseOf (halt.Size s) c = c ≡ cause.Size s.letters
IsCauseOf (halt.Memory e) c = ⊥

-- The part is the first that fails, since its S-polynomial or its reduction has a fault, and this is the fault's cause.
pub record Stops (problem : Problem) (b : Basis) (p : Part) (c : Cause) : Type 0 where
  pub reached : Reaches problem b p
  pub fault : ReduceFault
  pub stopped : rest_of problem b p ≡ Err fault
  pub cause : IsCauseOf fault c

-- Each refusal comes where its test is the first that fails, and want of memory can come at any time.
abbrev pub Refuses : Problem → Basis → ClosedRefusal → Type 0
Refuses problem b refusal.NoSuchClaim = NamesClaim problem b → ⊥
Refuses problem b (refusal.NotRule rule) = LacksRule problem b rule
Refuses problem b (refusal.GeneratorLeft number rest) = Leaves problem b (part.Generator number) rest.terms
Refuses problem b (refusal.AmbiguityLeft a rest) = Leaves problem b (part.Ambiguity a) rest.terms
Refuses problem b (refusal.OtherRest rest) = LeavesOther problem b rest.terms
Refuses problem b refusal.ZeroRest = LeavesNoClaim problem b
Refuses problem b (refusal.Stopped p c) = Stops problem b p c
Refuses problem b (refusal.Memory failed) = ⊤

-- the refusal is want of memory
abbrev pub IsMemory : ClosedRefusal → Type 0
IsMemory (refusal.Memory failed) = ⊤
IsMemory other = ⊥
