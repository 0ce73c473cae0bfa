-- generators and lemmas in one list
use Rattle.cofactor_checker.proofs.Prelude.{◌≡◌, ℕ, zero, suc, ◌+◌, ◌-◌, ◌<◌, ◌≤◌, ℤ, List, [], ◌∷◌, ◌++◌, length, get_or, slice_get, Some, ◌⊎◌, inl, inr, sym, refl, ap, ◌∙◌, arith, cases_lt, nat_tests, get_or_append_left, get_or-append-add, generator_at, Poly, polynomials, cert_poly, CertFrom, IsNumberUpTo, place_of}
use Rattle.traced_rows.specs.declared.evidence.CertFrom.TheVariants as cert
use Rattle.cofactor_checker.proofs.RowSums.{generator_at_numbered}

pub place-generator : (g l n : ℕ) → n ≤ g → place_of g l (cert.Generator n) ≡ n
place-generator g l n within = grind (arith, nat_tests)

pub place-generator_past : (g l n : ℕ) → g < n → place_of g l (cert.Generator n) ≡ 0
place-generator_past g l n past = grind (arith, nat_tests)

pub place-lemma : (g l n : ℕ) → 0 < n → n ≤ l → place_of g l (cert.Lemma n) ≡ g + n
place-lemma g l n some within = grind (arith, nat_tests)

pub place-lemma_past : (g l n : ℕ) → l < n → place_of g l (cert.Lemma n) ≡ 0
place-lemma_past g l n past = grind (arith, nat_tests)

-- an item of the first list, and one of the second
at_left : (gs ls : List (List (ℤ × List ℕ))) (n : ℕ) → n ≤ length gs → generator_at (gs ++ ls) n ≡ generator_at gs n
at_left gs ls zero within = refl
at_left gs ls (suc k) within = get_or_append_left gs ls [] k (omega arith)

at_right : (gs ls : List (List (ℤ × List ℕ))) (n : ℕ) → 0 < n → generator_at (gs ++ ls) (length gs + n) ≡ generator_at ls n
at_right gs ls zero some = absurd (omega arith)
at_right gs ls (suc k) some = let next : length gs + suc k ≡ suc (length gs + k) = omega arith in rw next (get_or-append-add gs ls k [])

-- none past the end
past_end : (ps : List (List (ℤ × List ℕ))) (k : ℕ) → length ps ≤ k → get_or ps k [] ≡ []
past_end [] k past = refl
past_end (p ∷ ps) zero past = absurd (omega arith)
past_end (p ∷ ps) (suc k) past = past_end ps k (omega arith)

at_past : (ps : List (List (ℤ × List ℕ))) (n : ℕ) → length ps < n → generator_at ps n ≡ []
at_past ps zero past = absurd (omega arith)
at_past ps (suc k) past = past_end ps k (omega arith)

-- the generator or the lemma stands at its place
pub stands_there : (gs ls : List (List (ℤ × List ℕ))) (from : CertFrom) → cert_poly gs ls from ≡ generator_at (gs ++ ls) (place_of (length gs) (length ls) from)
stands_there gs ls (cert.Generator n) = by (cases_lt (length gs) n)
  where
    by : (length gs < n) ⊎ (n ≤ length gs) → generator_at gs n ≡ generator_at (gs ++ ls) (place_of (length gs) (length ls) (cert.Generator n))
    by (inl past) = at_past gs n past ∙ sym (ap (generator_at (gs ++ ls)) (place-generator_past (length gs) (length ls) n past))
    by (inr within) = sym (at_left gs ls n within) ∙ sym (ap (generator_at (gs ++ ls)) (place-generator (length gs) (length ls) n within))
stands_there gs ls (cert.Lemma zero) = refl
stands_there gs ls (cert.Lemma (suc k)) = by (cases_lt (length ls) (suc k))
  where
    by : (length ls < suc k) ⊎ (suc k ≤ length ls) → generator_at ls (suc k) ≡ generator_at (gs ++ ls) (place_of (length gs) (length ls) (cert.Lemma (suc k)))
    by (inl past) = at_past ls (suc k) past ∙ sym (ap (generator_at (gs ++ ls)) (place-lemma_past (length gs) (length ls) (suc k) past))
    by (inr within) = sym (at_right gs ls (suc k) (omega arith)) ∙ sym (ap (generator_at (gs ++ ls)) (place-lemma (length gs) (length ls) (suc k) (omega arith) within))

-- the polynomial that a number names
pub found_generator : (gs ls : List Poly) (n : ℕ) (p : Poly) → IsNumberUpTo (length gs) n → slice_get gs (n - 1) ≡ Some p
    → generator_at (polynomials gs ++ polynomials ls) (place_of (length (polynomials gs)) (length (polynomials ls)) (cert.Generator n)) ≡ p.terms
found_generator gs ls n p numbered there = sym (stands_there (polynomials gs) (polynomials ls) (cert.Generator n)) ∙ generator_at_numbered gs n p numbered there

pub found_lemma : (gs ls : List Poly) (n : ℕ) (p : Poly) → IsNumberUpTo (length ls) n → slice_get ls (n - 1) ≡ Some p
    → generator_at (polynomials gs ++ polynomials ls) (place_of (length (polynomials gs)) (length (polynomials ls)) (cert.Lemma n)) ≡ p.terms
found_lemma gs ls n p numbered there = sym (stands_there (polynomials gs) (polynomials ls) (cert.Lemma n)) ∙ generator_at_numbered ls n p numbered there
