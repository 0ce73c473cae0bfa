-- The item with a number, counted from 1.
use Rattle.equation_chain.proofs.Prelude.{◌≡◌, ◌⊎◌, inl, inr, ℕ, zero, suc, ◌-◌, ◌≤◌, ◌<◌, List, [], ◌∷◌, Some, map, length, get_or, slice_get, refl, sym, ap, ◌∙◌, arith, cases_lt, generator_at, Poly, Sig, ends_of, Problem, polynomials, IsNumberUpTo, claim_ends}

less_one : (n : ℕ) → suc n - 1 ≡ n
less_one n = omega arith

ends_there : (sigs : List Sig) (n : ℕ) (s : Sig) → slice_get sigs n ≡ Some s → ends_of s ≡ get_or (map ends_of sigs) n (0, 0)
ends_there [] n s is = absurd cc
ends_there (t ∷ sigs) zero s is = let same : t ≡ s = cc in ap ends_of (sym same)
ends_there (t ∷ sigs) (suc n) s is = ends_there sigs n s is

no_ends : (sigs : List Sig) (n : ℕ) → length sigs ≤ n → (0, 0) ≡ get_or (map ends_of sigs) n (0, 0)
no_ends [] n past = refl
no_ends (t ∷ sigs) zero past = absurd (omega arith)
no_ends (t ∷ sigs) (suc n) past = no_ends sigs n (omega arith)

pub ends_named : (problem : Problem) (n : ℕ) (s : Sig) → slice_get problem.parts.claim_sigs (n - 1) ≡ Some s → IsNumberUpTo (length problem.parts.claim_sigs) n → ends_of s ≡ claim_ends problem n
ends_named problem zero s is number = let least = number.least in absurd (omega arith)
ends_named problem (suc n) s is number = ends_there problem.parts.claim_sigs n s (ap (slice_get problem.parts.claim_sigs) (sym (less_one n)) ∙ is)

pub ends_absent : (problem : Problem) (n : ℕ) → (IsNumberUpTo (length problem.parts.claim_sigs) n → ⊥) → (0, 0) ≡ claim_ends problem n
ends_absent problem zero none = refl
ends_absent problem (suc n) none = no_ends problem.parts.claim_sigs n (past (length problem.parts.claim_sigs) none)
  where
    past : (m : ℕ) → (IsNumberUpTo m (suc n) → ⊥) → m ≤ n
    past m none = by (cases_lt n m)
      where
        by : (n < m) ⊎ (m ≤ n) → m ≤ n
        by (inl within) = absurd (none (record { least = omega arith; most = omega arith }))
        by (inr over) = over

no_poly : (ps : List Poly) (n : ℕ) → length ps ≤ n → get_or (polynomials ps) n [] ≡ []
no_poly [] n past = refl
no_poly (p ∷ ps) zero past = absurd (omega arith)
no_poly (p ∷ ps) (suc n) past = no_poly ps n (omega arith)

poly_there : (ps : List Poly) (n : ℕ) (p : Poly) → slice_get ps n ≡ Some p → p.terms ≡ get_or (polynomials ps) n []
poly_there [] n p is = absurd cc
poly_there (t ∷ ps) zero p is = let same : t ≡ p = cc in ap (λ (x : Poly). x.terms) (sym same)
poly_there (t ∷ ps) (suc n) p is = poly_there ps n p is

pub poly_named : (ps : List Poly) (n : ℕ) (p : Poly) → slice_get ps (n - 1) ≡ Some p → IsNumberUpTo (length ps) n → p.terms ≡ generator_at (polynomials ps) n
poly_named ps zero p is number = let least = number.least in absurd (omega arith)
poly_named ps (suc n) p is number = poly_there ps n p (ap (slice_get ps) (sym (less_one n)) ∙ is)

pub poly_absent : (ps : List Poly) (n : ℕ) → (IsNumberUpTo (length ps) n → ⊥) → generator_at (polynomials ps) n ≡ []
poly_absent ps zero none = refl
poly_absent ps (suc n) none = no_poly ps n (by (cases_lt n (length ps)))
  where
    by : (n < length ps) ⊎ (length ps ≤ n) → length ps ≤ n
    by (inl within) = absurd (none (record { least = omega arith; most = omega arith }))
    by (inr over) = over
