-- What is known of each generator, by its number.
use Rattle.equation_chain.proofs.Prelude.{◌≡◌, ◌≢◌, ◌⊎◌, inl, inr, ℕ, zero, suc, pos, List, [], ◌∷◌, get_or, refl, AllByRecursion, All-nil, IsCoefficient, Term, Quiver, generator_at, HasSignature, Poly, IsShaped, IsDescending-from_recursion, polynomials}

-- one with a signature, or zero
signed_at : (q : Quiver) (gs : List (List Term)) (n : ℕ) → AllByRecursion (HasSignature q) gs → HasSignature q (get_or gs n []) ⊎ (get_or gs n [] ≡ [])
signed_at q [] n all = inr refl
signed_at q (g ∷ gs) zero all = inl all.0
signed_at q (g ∷ gs) (suc n) all = signed_at q gs n all.1

pub signed_or_zero : (q : Quiver) (gs : List (List Term)) (n : ℕ) → AllByRecursion (HasSignature q) gs → HasSignature q (generator_at gs n) ⊎ (generator_at gs n ≡ [])
signed_or_zero q gs zero all = inr refl
signed_or_zero q gs (suc n) all = signed_at q gs n all

-- the polynomial zero is shaped
zero_shaped : IsShaped []
zero_shaped = record {
  descending = IsDescending-from_recursion [] tt;
  nonzero = All-nil (λ (t : Term). t.0 ≢ pos 0);
  in_range = All-nil (λ (t : Term). IsCoefficient t.0);
}

shaped_at : (ps : List Poly) (n : ℕ) → IsShaped (get_or (polynomials ps) n [])
shaped_at [] n = zero_shaped
shaped_at (p ∷ ps) zero = p.canonical.shaped
shaped_at (p ∷ ps) (suc n) = shaped_at ps n

-- each is shaped
pub generator_shaped : (ps : List Poly) (n : ℕ) → IsShaped (generator_at (polynomials ps) n)
generator_shaped ps zero = zero_shaped
generator_shaped ps (suc n) = shaped_at ps n
