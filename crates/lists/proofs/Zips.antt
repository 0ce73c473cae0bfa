-- Two lists of which a relation holds place by place.
use Rattle.lists.proofs.Prelude.{◌≡◌, List, [], ◌∷◌, ◌++◌, length, refl, sym, ap₂, All, AllZip, All-nil, All-cons, AllZip-long}

module _ {X Y : Type 0} (R : X → Y → Type 0) where
  -- what holds of no pair, and of one more where it holds of those after it
  pub zip_induction : (P : List X → List Y → Type 0) → P [] [] → ((x : X) (y : Y) (xs : List X) (ys : List Y) → R x y → P xs ys → P (x ∷ xs) (y ∷ ys))
      → (xs : List X) (ys : List Y) → AllZip R xs ys → P xs ys
  zip_induction P none more [] [] zipped = none
  zip_induction P none more [] (y ∷ ys) zipped = absurd zipped
  zip_induction P none more (x ∷ xs) [] zipped = absurd zipped
  zip_induction P none more (x ∷ xs) (y ∷ ys) zipped = more x y xs ys zipped.0 (zip_induction P none more xs ys zipped.1)

  pub AllZip-append : (xs us : List X) (ys vs : List Y) → AllZip R xs ys → AllZip R us vs → AllZip R (xs ++ us) (ys ++ vs)
  AllZip-append xs us ys vs front back = zip_induction (λ fs gs. AllZip R (fs ++ us) (gs ++ vs)) back (λ x y fs gs here rest. (here, rest)) xs ys front

  pub zip_push : (xs : List X) (ys : List Y) (x : X) (y : Y) → AllZip R xs ys → R x y → AllZip R (xs ++ x ∷ []) (ys ++ y ∷ [])
  zip_push xs ys x y front last = AllZip-append xs (x ∷ []) ys (y ∷ []) front (last, tt)

  pub zip_length : (xs : List X) (ys : List Y) → AllZip R xs ys → length xs ≡ length ys
  zip_length xs ys zipped = sym (AllZip-long R xs ys zipped)

  pub AllZip-weaker : (Q : X → Y → Type 0) → ((x : X) (y : Y) → R x y → Q x y) → (xs : List X) (ys : List Y) → AllZip R xs ys → AllZip Q xs ys
  AllZip-weaker Q weaker = zip_induction (AllZip Q) tt (λ x y xs ys here rest. (weaker x y here, rest))

  -- what related elements have all of them have
  pub zip_left : (P : X → Type 0) → ((x : X) (y : Y) → R x y → P x) → (xs : List X) (ys : List Y) → AllZip R xs ys → All P xs
  zip_left P each = zip_induction (λ xs ys. All P xs) (All-nil P) (λ x y xs ys here rest. All-cons P x xs (each x y here) rest)

  pub zip_right : (P : Y → Type 0) → ((x : X) (y : Y) → R x y → P y) → (xs : List X) (ys : List Y) → AllZip R xs ys → All P ys
  zip_right P each = zip_induction (λ xs ys. All P ys) (All-nil P) (λ x y xs ys here rest. All-cons P y ys (each x y here) rest)

  -- a relation in which each element stands to one at most
  pub AllZip-unique : ((x : X) (y z : Y) → R x y → R x z → y ≡ z) → (xs : List X) (ys zs : List Y) → AllZip R xs ys → AllZip R xs zs → ys ≡ zs
  AllZip-unique unique xs ys zs left = zip_induction (λ fs gs. (hs : List Y) → AllZip R fs hs → gs ≡ hs) none more xs ys left zs
    where
      none : (hs : List Y) → AllZip R [] hs → [] ≡ hs
      none [] right = refl
      none (z ∷ hs) right = absurd right

      more : (x : X) (y : Y) (fs : List X) (gs : List Y) → R x y → ((hs : List Y) → AllZip R fs hs → gs ≡ hs) → (hs : List Y) → AllZip R (x ∷ fs) hs → y ∷ gs ≡ hs
      more x y fs gs here rest [] right = absurd right
      more x y fs gs here rest (z ∷ hs) right = ap₂ ◌∷◌ (unique x y z here right.0) (rest hs right.1)

  -- and in which each stands to one
  pub zip_ends : ((x : X) → (y : Y) × R x y) → (xs : List X) → (ys : List Y) × AllZip R xs ys
  zip_ends each [] = ([], tt)
  zip_ends each (x ∷ xs) =
      let here = each x in
      let rest = zip_ends each xs in
      (here.0 ∷ rest.0, (here.1, rest.1))
