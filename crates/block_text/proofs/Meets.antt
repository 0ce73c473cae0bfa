-- A result of reading within some bounds: a value of which a fact holds, or the flaw of another bound.
use Rattle.block_text.proofs.Prelude.{◌≡◌, Bool, true, false, Option, Some, None, Result, Ok, Err, if◌then◌else◌, refl, Flaw, ◌>>=◌, asked}

-- flaw_of gives the flaw of a line that exceeds a bound, and K says which bounds are met
pub data Meets {Bound A : Type 0} (flaw_of : Bound → Flaw) (K : Bound → Type 0) (P : A → Type 0) (r : Result A Flaw) : Type 0 where
  reads : (x : A) → r ≡ Ok x → P x → Meets flaw_of K P r
  passes : (bound : Bound) → r ≡ Err (flaw_of bound) → (K bound → ⊥) → Meets flaw_of K P r

-- a value that is there where the bound is kept
pub asked_meets : {Bound A : Type 0} {flaw_of : Bound → Flaw} (K : Bound → Type 0) (b : Bound) (o : Option A) → (K b → (x : A) × (o ≡ Some x)) → Meets flaw_of K (λ x. o ≡ Some x) (asked (flaw_of b) o)
asked_meets K b (Some x) there = reads x refl refl
asked_meets K b None there = passes b refl (λ kept. let none = (there kept).1 in absurd (cc))

module _ {Bound : Type 0} {flaw_of : Bound → Flaw} {K : Bound → Type 0} where
  pub then_meets : {A B : Type 0} {P : A → Type 0} {Q : B → Type 0} {r : Result A Flaw} (f : A → Result B Flaw) → Meets flaw_of K P r → ((x : A) → r ≡ Ok x → P x → Meets flaw_of K Q (f x))
      → Meets flaw_of K Q (r >>= f)
  then_meets f (reads x is known) next = rw is (next x is known)
  then_meets f (passes bound is passed) next = passes bound (rw is refl) passed

  pub meets-weaker : {A : Type 0} {P Q : A → Type 0} {r : Result A Flaw} → Meets flaw_of K P r → ((x : A) → r ≡ Ok x → P x → Q x) → Meets flaw_of K Q r
  meets-weaker (reads x is known) weaker = reads x is (weaker x is known)
  meets-weaker (passes bound is passed) weaker = passes bound is passed

  -- a test that fails where the bound is kept
  pub unless_meets : {A : Type 0} {P : A → Type 0} (b : Bound) (t : Bool) (r : Result A Flaw) → (K b → t ≡ false) → Meets flaw_of K P r → Meets flaw_of K P (if t then Err (flaw_of b) else r)
  unless_meets b true r fails met = passes b refl (λ kept. let none = fails kept in absurd (cc))
  unless_meets b false r fails met = met
