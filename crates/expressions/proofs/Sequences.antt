-- One result after another, and the results for all items of a list.
use Rattle.expressions.proofs.Prelude.{◌≡◌, ◌<◌, ◌≤◌, ◌+◌, ℕ, List, [], ◌∷◌, ◌++◌, length, drop, get_or, Result, Ok, Err, refl, sym, ap, subst, ◌∙◌, append_assoc, drop_next, append-nil, drop_all, ◌>>=◌}
use Rattle.expressions.proofs.Trees.{each}

module _ {A B C E : Type 0} (f : A → Result B E) (k : List B → Result C E) where
  module _ (x : A) (xs : List A) where
    -- where the first item has a result
    pub each-next : (y : B) → f x ≡ Ok y → (each f (x ∷ xs) >>= k) ≡ (each f xs >>= λ ys. k (y ∷ ys))
    each-next y h = ap (λ r. (r >>= λ z. each f xs >>= λ ys. Ok (z ∷ ys)) >>= k) h ∙ go (each f xs)
      where
        go : (r : Result (List B) E) → ((r >>= λ ys. Ok (y ∷ ys)) >>= k) ≡ (r >>= λ ys. k (y ∷ ys))
        go (Ok ys) = refl
        go (Err e) = refl

    -- where it has a fault
    pub each-fault : (e : E) → f x ≡ Err e → (each f (x ∷ xs) >>= k) ≡ Err e
    each-fault e h = ap (λ r. (r >>= λ z. each f xs >>= λ ys. Ok (z ∷ ys)) >>= k) h

  -- in a loop over a list
  module _ (xs : List A) (i : ℕ) (x : A) (inside : i < length xs) (item : x ≡ get_or xs i x) where
    pub loop-next : (y : B) → f x ≡ Ok y → (each f (drop (i + 1) xs) >>= λ ys. k (y ∷ ys)) ≡ (each f (drop i xs) >>= k)
    loop-next y h = sym (each-next x (drop (i + 1) xs) y h) ∙ ap (λ rest. each f rest >>= k) (sym (drop_next xs i x inside item))

    pub loop-fault : (e : E) → f x ≡ Err e → (each f (drop i xs) >>= k) ≡ Err e
    loop-fault e h = ap (λ rest. each f rest >>= k) (drop_next xs i x inside item) ∙ each-fault x (drop (i + 1) xs) e h

  pub loop-end : (xs : List A) (i : ℕ) → length xs ≤ i → (each f (drop i xs) >>= k) ≡ k []
  loop-end xs i past = ap (λ rest. each f rest >>= k) (drop_all i xs past)

-- what comes before a result
pub record Bound {A B E : Type 0} (r : Result A E) (f : A → Result B E) (y : B) : Type 0 where
  pub value : A
  pub is : r ≡ Ok value
  pub then : f value ≡ Ok y

pub bound : {A B E : Type 0} (r : Result A E) (f : A → Result B E) (y : B) → (r >>= f) ≡ Ok y → Bound r f y
bound (Ok x) f y h = record { value = x; is = refl; then = h }
bound (Err e) f y h = absurd (cc)

pub same_value : {A E : Type 0} (x y : A) → ◌≡◌ {A = Result A E} (Ok x) (Ok y) → x ≡ y
same_value x y h = cc

-- what holds of the value of a result, if it has one, and of the values of two results
abbrev pub OfValue : {A E : Type 0} → Result A E → (A → Type 0) → Type 0
OfValue {A} r P = (x : A) → r ≡ Ok x → P x

abbrev pub OfValues : {A B E F : Type 0} → Result A E → Result B F → (A → B → Type 0) → Type 0
OfValues {A} {B} r q P = (x : A) → r ≡ Ok x → (y : B) → q ≡ Ok y → P x y

pub value-ok : {A E : Type 0} (P : A → Type 0) (x : A) → P x → OfValue {A = A} {E = E} (Ok x) P
value-ok P x h y e = subst P (same_value x y e) h

pub values-ok : {A B E F : Type 0} (P : A → B → Type 0) (x : A) (y : B) → P x y → OfValues {A = A} {B = B} {E = E} {F = F} (Ok x) (Ok y) P
values-ok P x y h u e v d = subst (λ a. P a v) (same_value x u e) (subst (P x) (same_value y v d) h)

pub value-bind : {A B E : Type 0} (P : A → Type 0) (Q : B → Type 0) (r : Result A E) (f : A → Result B E) → OfValue r P → ((x : A) → P x → OfValue (f x) Q) → OfValue (r >>= f) Q
value-bind P Q r f h next y e = let x = bound r f y e in next x.value (h x.value x.is) y x.then

pub values-bind : {A B C D E F : Type 0} (P : A → B → Type 0) (Q : C → D → Type 0) (r : Result A E) (f : A → Result C E) (q : Result B F) (g : B → Result D F)
    → OfValues r q P → ((x : A) (y : B) → P x y → OfValues (f x) (g y) Q) → OfValues (r >>= f) (q >>= g) Q
values-bind P Q r f q g h next u e v d =
    let x = bound r f u e in
    let y = bound q g v d in
    next x.value y.value (h x.value x.is y.value y.is) u x.then v y.then

-- none at first
pub made-none : {A B E : Type 0} (f : A → Result B E) (xs : List A) → (each f xs >>= λ rest. Ok ([] ++ rest)) ≡ each f xs
made-none f xs = go (each f xs)
  where
    go : {B E : Type 0} (r : Result (List B) E) → (r >>= λ rest. Ok ([] ++ rest)) ≡ r
    go (Ok rest) = refl
    go (Err e) = refl

module _ {A B E : Type 0} (f : A → Result B E) (xs : List A) (i : ℕ) (made : List B) (before : (each f (drop i xs) >>= λ rest. Ok (made ++ rest)) ≡ each f xs) where
  module _ (x : A) (inside : i < length xs) (item : x ≡ get_or xs i x) where
    pub made-next : (y : B) → f x ≡ Ok y → (each f (drop (i + 1) xs) >>= λ rest. Ok ((made ++ y ∷ []) ++ rest)) ≡ each f xs
    made-next y h = go (each f (drop (i + 1) xs)) ∙ loop-next f (λ rest. Ok (made ++ rest)) xs i x inside item y h ∙ before
      where
        go : (r : Result (List B) E) → (r >>= λ rest. Ok ((made ++ y ∷ []) ++ rest)) ≡ (r >>= λ rest. Ok (made ++ y ∷ rest))
        go (Ok rest) = ap Ok (append_assoc made (y ∷ []) rest)
        go (Err e) = refl

    pub made-fault : (e : E) → f x ≡ Err e → each f xs ≡ Err e
    made-fault e h = sym before ∙ loop-fault f (λ rest. Ok (made ++ rest)) xs i x inside item e h

  pub made-end : length xs ≤ i → each f xs ≡ Ok made
  made-end past = sym before ∙ loop-end f (λ rest. Ok (made ++ rest)) xs i past ∙ ap Ok (append-nil made)
