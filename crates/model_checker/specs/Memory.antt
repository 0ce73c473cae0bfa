-- Which refusal is want of memory.
use Rattle.std.specs.Prelude.{⊤}
use Rattle.model_checker.specs.declared.refusal.ModelRefusal.{ModelRefusal}
use Rattle.model_checker.specs.declared.refusal.ModelRefusal.TheVariants as refusal

-- the refusal is want of memory
abbrev pub IsMemory : ModelRefusal → Type 0
IsMemory (refusal.Memory failed) = ⊤
IsMemory refusal.NoSuchClaim = ⊥
IsMemory (refusal.MissingMap letter) = ⊥
IsMemory (refusal.BadShape letter) = ⊥
IsMemory (refusal.NotSymmetric letter) = ⊥
IsMemory (refusal.NotZero number) = ⊥
IsMemory refusal.ClaimZero = ⊥
