-- What was read, of which a fact holds, or the flaw that was told, of which another does.
use Rattle.block_lines.proofs.Prelude.{◌≡◌, Bool, true, false, cond, Option, Some, None, Result, Ok, Err, refl, subst, Flaw, ◌>>=◌, asked}

pub data Told {A : Type 0} (Good : A → Type 0) (Bad : Flaw → Type 0) (r : Result A Flaw) : Type 0 where
  gives : (x : A) → r ≡ Ok x → Good x → Told Good Bad r
  refuses : (f : Flaw) → r ≡ Err f → Bad f → Told Good Bad r

pub told_given : {A : Type 0} {Good : A → Type 0} {Bad : Flaw → Type 0} {r : Result A Flaw} → Told Good Bad r → (x : A) → r ≡ Ok x → Good x
told_given {Good = Good} (gives y is known) x read = let same : y ≡ x = cc in subst Good same known
told_given (refuses f is known) x read = absurd (cc)

pub told_refused : {A : Type 0} {Good : A → Type 0} {Bad : Flaw → Type 0} {r : Result A Flaw} → Told Good Bad r → (f : Flaw) → r ≡ Err f → Bad f
told_refused (gives y is known) f read = absurd (cc)
told_refused {Bad = Bad} (refuses g is known) f read = let same : g ≡ f = cc in subst Bad same known

module _ {Bad : Flaw → Type 0} where
  pub then_told : {A B : Type 0} {P : A → Type 0} {Q : B → Type 0} {r : Result A Flaw} (f : A → Result B Flaw) → Told P Bad r → ((x : A) → P x → Told Q Bad (f x)) → Told Q Bad (r >>= f)
  then_told f (gives x is known) next = rw is (next x known)
  then_told f (refuses e is known) next = refuses e (rw is refl) known

  pub result_told : {A : Type 0} (r : Result A Flaw) → ((f : Flaw) → r ≡ Err f → Bad f) → Told (λ x. r ≡ Ok x) Bad r
  result_told (Ok x) none = gives x refl refl
  result_told (Err f) none = refuses f refl (none f refl)

  pub asked_told : {A : Type 0} (f : Flaw) (o : Option A) → (o ≡ None → Bad f) → Told (λ x. o ≡ Some x) Bad (asked f o)
  asked_told f (Some x) none = gives x refl refl
  asked_told f None none = refuses f refl (none refl)

  pub test_told : {A : Type 0} {P : A → Type 0} (b : Bool) (x y : Result A Flaw) → (b ≡ true → Told P Bad x) → (b ≡ false → Told P Bad y) → Told P Bad (cond b x y)
  test_told true x y passes fails = passes refl
  test_told false x y passes fails = fails refl
