-- The faults of a file as they are returned.
use Rattle.std.specs.Prelude.{◌≡◌, ℕ, List, Option, Some, None}
use Rattle.signature_typing.specs.Types.{Spot, Sig, Placed, Stop, stop, SignatureFault, PolyFault, polynomial, TypeFault, Fault, Memory}
use Rattle.std.specs.Option.{option_map}
use Rattle.statement_tokens.specs.Fault.{code_of, limit_of, placed}
use Rattle.quiver.specs.Declarations.{Declaration, object_name}

-- a code at a place
abbrev pub fault_at : ℕ → Spot → TypeFault
fault_at code at = Fault code at.line at.column None None 0

-- a fault at its place, with the names of the ends of two signatures that do not fit, where there are two
abbrev pub told : Placed → Option (List ℕ × List ℕ) → Option (List ℕ × List ℕ) → TypeFault
told p left right = Fault (code_of p.fault) p.at.line p.at.column left right (limit_of p.fault)

-- of names, literals and counts
abbrev pub told_name : Placed → TypeFault
told_name p = told p None None

-- of the names of a file, or want of memory
abbrev pub told_stop : Stop Placed → TypeFault
told_stop (stop.Fault fault) = told_name fault
told_stop (stop.Memory e) = Memory e

-- the names of the source and the target
abbrev pub end_names : List Declaration → Sig → List ℕ × List ℕ
end_names ds s = (object_name ds s.source.0, object_name ds s.target.0)

-- of the signatures in an equation, with those that do not fit
abbrev pub told_signature : List Declaration → SignatureFault → TypeFault
told_signature ds f = told (placed f.fault f.at) (option_map (λ both. end_names ds both.0) f.sides) (option_map (λ both. end_names ds both.1) f.sides)

-- of the arithmetic of an equation, whose statement begins at this place
abbrev pub told_polynomial : Spot → PolyFault → TypeFault
told_polynomial at (polynomial.Overflow o) = fault_at 13 at
told_polynomial at (polynomial.Size s) = fault_at 14 at
told_polynomial at (polynomial.Memory e) = Memory e

-- there is no claim
abbrev pub no_claim : TypeFault
no_claim = Fault 15 0 0 None None 0

-- a fault is the one that is found, but want of memory may come at any time
abbrev pub Explains : Option TypeFault → TypeFault → Type 0
Explains found (Fault code line column left right limit) = found ≡ Some (Fault code line column left right limit)
Explains found (Memory e) = Unit {0}

abbrev pub IsMemory : TypeFault → Type 0
IsMemory (Fault code line column left right limit) = ⊥
IsMemory (Memory e) = Unit {0}
