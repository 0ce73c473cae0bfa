-- What was read where a reading went well, and what was wrong where it did not.
use Rattle.block_text.proofs.Prelude.{◌≡◌, Bool, true, false, cond, Option, Some, None, Result, Ok, Err, refl, subst, option_map, Flaw, ◌>>=◌, asked}

pub bind_ok : {A B F P : Type 0} (r : Result A F) (f : A → Result B F) (y : B) → (r >>= f) ≡ Ok y → ((x : A) → r ≡ Ok x → f x ≡ Ok y → P) → P
bind_ok (Ok x) f y read use_it = use_it x refl read
bind_ok (Err e) f y read use_it = absurd (cc)

pub bind_err : {A B F P : Type 0} (r : Result A F) (f : A → Result B F) (e : F) → (r >>= f) ≡ Err e → (r ≡ Err e → P) → ((x : A) → r ≡ Ok x → f x ≡ Err e → P) → P
bind_err (Ok x) f e read first second = second x refl read
bind_err (Err d) f e read first second = first (cc)

pub bind_assoc : {A B C F : Type 0} (r : Result A F) (f : A → Result B F) (g : B → Result C F) (h : A → Result C F) → ((x : A) → h x ≡ (f x >>= g)) → (r >>= h) ≡ ((r >>= f) >>= g)
bind_assoc (Ok x) f g h same = same x
bind_assoc (Err e) f g h same = refl

pub bind_same : {A B F : Type 0} (r : Result A F) (f g : A → Result B F) → ((x : A) → f x ≡ g x) → (r >>= f) ≡ (r >>= g)
bind_same (Ok x) f g same = same x
bind_same (Err e) f g same = refl

pub asked_ok : {A : Type 0} (f : Flaw) (o : Option A) (x : A) → asked f o ≡ Ok x → o ≡ Some x
asked_ok f (Some y) x read = cc
asked_ok f None x read = absurd (cc)

pub asked_err : {A : Type 0} (f : Flaw) (o : Option A) (e : Flaw) → asked f o ≡ Err e → e ≡ f
asked_err f (Some y) e read = absurd (cc)
asked_err f None e read = cc

-- by the test that a value hangs on
pub by_test : {A P : Type 0} (b : Bool) (x y z : A) → cond b x y ≡ z → (b ≡ true → x ≡ z → P) → (b ≡ false → y ≡ z → P) → P
by_test true x y z same passes fails = passes refl same
by_test false x y z same passes fails = fails refl same

-- a test that refuses
pub else_ok : {A F P : Type 0} (b : Bool) (e : F) (s : Result A F) (y : A) → cond b (Err e) s ≡ Ok y → (b ≡ false → s ≡ Ok y → P) → P
else_ok true e s y read use_it = absurd (cc)
else_ok false e s y read use_it = use_it refl read

-- what holds of the value that is there holds of what was read
pub ok_has : {A F : Type 0} (P : A → Type 0) (x y : A) → ◌≡◌ {A = Result A F} (Ok x) (Ok y) → P x → P y
ok_has P x y read holds = let same : x ≡ y = cc in subst P same holds

-- options
pub option_map_some : {A B P : Type 0} (f : A → B) (o : Option A) (y : B) → option_map f o ≡ Some y → ((x : A) → o ≡ Some x → f x ≡ y → P) → P
option_map_some f (Some x) y read use_it = use_it x refl (cc)
option_map_some f None y read use_it = absurd (cc)

-- an option after a test
pub cond_option : {A : Type 0} (b : Bool) (o : Option A) (x : A) → cond b o None ≡ Some x → (b ≡ true) × (o ≡ Some x)
cond_option true o x read = (refl, read)
cond_option false o x read = absurd (cc)
