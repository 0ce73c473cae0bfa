-- The bounds of a kind, by the flaw of a line that exceeds one.
use Rattle.block_text.proofs.Prelude.{◌≡◌, ◌==◌, ◌&&◌, ℕ, Bool, true, false, List, [], ◌∷◌, ◌++◌, Option, Some, refl, ap, if◌then◌else◌, find, Flaw, limit_of}
use Rattle.block_text.specs.declared.fault.Flaw.TheVariants as flaw

-- those before it
abbrev pub until : {A : Type 0} → (A → Bool) → List A → List A
until p [] = []
until p (x ∷ xs) = if p x then [] else x ∷ until p xs

pub record IsFound {A : Type 0} (p : A → Bool) (xs : List A) (x : A) : Type 0 where
  pub behind : List A
  pub splits : xs ≡ until p xs ++ x ∷ behind

pub is_found : {A : Type 0} (p : A → Bool) (xs : List A) (x : A) → find p xs ≡ Some x → IsFound p xs x
is_found p [] x found = absurd (cc)
is_found p (y ∷ ys) x found = by_first (p y) refl (λ later. is_found p ys x later)
  where
    by_first : (b : Bool) → p y ≡ b → (find p ys ≡ Some x → IsFound p ys x) → IsFound p (y ∷ ys) x
    by_first true is rest =
        let first : y ≡ x = let known : find p (y ∷ ys) ≡ Some y = rw is refl in cc in
        record { behind = ys; splits = rw is (ap (λ z. z ∷ ys) first) }
    by_first false is rest =
        let later = rest (let known : find p (y ∷ ys) ≡ find p ys = rw is refl in cc) in
        record { behind = later.behind; splits = rw is (ap (λ zs. y ∷ zs) later.splits) }

-- which of the five
abbrev form_of : Flaw → ℕ
form_of flaw.BadLine = 0
form_of flaw.UnknownName = 1
form_of flaw.NotAsWritten = 2
form_of flaw.NumberTooLarge = 3
form_of (flaw.TooMany limit) = 4

abbrev pub same_flaw : Flaw → Flaw → Bool
same_flaw f g = (form_of f == form_of g) && (limit_of f == limit_of g)

-- by the flaw of a line that exceeds a bound, and the bounds in the order in which they are tested
module _ {Bound : Type 0} (flaw_of : Bound → Flaw) (bounds : List Bound) where
  -- the bound whose flaw this is
  abbrev pub bound_of : Flaw → Option Bound
  bound_of f = find (λ bound. same_flaw f (flaw_of bound)) bounds

  -- the bounds that are tested before it
  abbrev pub before : Bound → List Bound
  before bound = until (λ other. same_flaw (flaw_of bound) (flaw_of other)) bounds

  -- its place among all
  pub record IsListed (bound : Bound) : Type 0 where
    pub later : List Bound
    pub splits : bounds ≡ before bound ++ bound ∷ later

  pub listed : (bound : Bound) → bound_of (flaw_of bound) ≡ Some bound → IsListed bound
  listed bound told = let found = is_found (λ other. same_flaw (flaw_of bound) (flaw_of other)) bounds bound told in record { later = found.behind; splits = found.splits }
