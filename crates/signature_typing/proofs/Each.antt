-- What holds of each element of a list, by recursion on it.
use Rattle.signature_typing.proofs.Prelude.{List, [], ◌∷◌, ◌++◌, All, flat_map, Each, Each-at, Each-left, Each-right, Each-append}

module _ {A : Type 0} (P : A → Type 0) where
  -- of two facts one
  pub each_with_both : (Q : A → Type 0) (xs : List A) → All P xs → Each Q xs → All (λ x. P x × Q x) xs
  each_with_both Q xs first second = λ k d below. (first k d below, Each-at Q xs second k d below)

  -- of the parts of each element of another list
  pub each_part : {S : Type 0} (front back : S → List A) (xs : List S) → Each P (flat_map front xs) → Each P (flat_map back xs)
      → Each (λ s. Each P (front s ++ back s)) xs
  each_part front back [] fronts backs = tt
  each_part front back (x ∷ xs) fronts backs = (
    Each-append P (front x) (back x) (Each-left P (front x) (flat_map front xs) fronts) (Each-left P (back x) (flat_map back xs) backs),
    each_part front back xs (Each-right P (front x) (flat_map front xs) fronts) (Each-right P (back x) (flat_map back xs) backs),
  )
