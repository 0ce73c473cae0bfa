-- The first fault of several parts.
use Rattle.cofactor_trace.proofs.Prelude.{◌≡◌, List, ◌++◌, Option, Some, None, Result, Ok, refl, sym, ap, subst, ◌∙◌, option_map, Overflow, first_overflow, or_first, first-append, ExpandFault, unless, overflow_in, and_then, IsMemory, Explains, IsFirst}
use Rattle.cofactor_trace.specs.declared.fault.ExpandFault.TheVariants as fault

-- a fault of the first part is that of the whole
pub explains-first : {A : Type 0} (first : Option ExpandFault) (r : Result A ExpandFault) (e : ExpandFault) → IsFirst first e → Explains (unless first r) e
explains-first first r (fault.Memory e) h = tt
explains-first first r _ h = ap (λ f. unless f r) h

-- a part without a fault is skipped
pub explains-later : {A : Type 0} (first : Option ExpandFault) (r : Result A ExpandFault) (e : ExpandFault) → first ≡ None → Explains r e → Explains (unless first r) e
explains-later first r e none h = subst (λ f. Explains (unless f r) e) (sym none) h

pub ok-later : {A : Type 0} (first : Option ExpandFault) (r : Result A ExpandFault) (x : A) → first ≡ None → r ≡ Ok x → unless first r ≡ Ok x
ok-later first r x none h = ap (λ f. unless f r) none ∙ h

-- the first overflow of operations is that of the operations with more after them
pub is_first-append : (os more : List Overflow) (e : ExpandFault) → IsFirst (overflow_in os) e → IsFirst (overflow_in (os ++ more)) e
is_first-append os more e h = subst (λ f. IsFirst (option_map fault.Overflow f) e) (sym (first-append os more)) (go (first_overflow os) e h)
  where
    go : (f : Option Overflow) (e : ExpandFault) → IsFirst (option_map fault.Overflow f) e → IsFirst (option_map fault.Overflow (or_first f (first_overflow more))) e
    go None (fault.Memory e) h = tt
    go None _ h = absurd (cc)
    go (Some o) e h = h

pub memory-explains : {A : Type 0} (r : Result A ExpandFault) (e : ExpandFault) → IsMemory e → Explains r e
memory-explains r (fault.Memory e) h = tt
memory-explains r _ h = absurd h

pub unmapped-none : {A B : Type 0} (f : A → B) (o : Option A) → option_map f o ≡ None → o ≡ None
unmapped-none f None e = refl
unmapped-none f (Some x) e = absurd (cc)

pub unless_ok : {A F : Type 0} (first : Option F) (r : Result A F) (x : A) → unless first r ≡ Ok x → (first ≡ None) × (r ≡ Ok x)
unless_ok None r x h = (refl, h)
unless_ok (Some e) r x h = absurd (cc)

-- a fault of the first of two results is that of both
pub explains-and_then : {A B : Type 0} (r : Result A ExpandFault) (next : A → Result B ExpandFault) (e : ExpandFault) → Explains r e → Explains (and_then r next) e
explains-and_then r next (fault.Memory e) h = tt
explains-and_then r next _ h = ap (λ x. and_then x next) h
