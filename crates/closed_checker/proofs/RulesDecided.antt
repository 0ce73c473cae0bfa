-- Whether a polynomial may be a rule is decided.
use Rattle.closed_checker.proofs.Prelude.{inl, inr, ◌<◌, ◌<ℤ◌, ℕ, zero, suc, ℤ, pos, negsuc, List, [], ◌∷◌, length, Option, Some, None, arith, All, ints, All-nil, All-cons, All-tail, Term, IsDecided, decided_by, both_decided, Compare, IsContent, Poly, leading_term, one_content, has_content, MayBeRule, IsSomeAnd}

-- content, sign and words
primitive_decided : (p : List Term) → IsDecided (IsContent p (pos 1))
primitive_decided p = let found = has_content p in go found.content found.is
  where
    go : (g : ℤ) → IsContent p g → IsDecided (IsContent p (pos 1))
    go (pos zero) is = inr (λ one. omega (arith, ints, one_content p (pos 0) (pos 1) is one))
    go (pos (suc zero)) is = inl is
    go (pos (suc (suc n))) is = inr (λ one. omega (arith, ints, one_content p (pos (suc (suc n))) (pos 1) is one))
    go (negsuc n) is = inr (λ one. omega (arith, ints, one_content p (negsuc n) (pos 1) is one))

positive_decided : (o : Option Term) → IsDecided (IsSomeAnd o (λ t. pos 0 <ℤ t.0))
positive_decided None = inr (λ none. none)
positive_decided (Some t) = go t.0
  where
    go : (z : ℤ) → IsDecided (pos 0 <ℤ z)
    go (pos zero) = inr (λ less. omega (arith, ints, less))
    go (pos (suc n)) = inl (omega (arith, ints))
    go (negsuc n) = inr (λ less. omega (arith, ints, less))

word_decided : (w : List ℕ) → IsDecided (0 < length w)
word_decided [] = inr (λ some. omega (arith, some))
word_decided (a ∷ w) = inl (omega arith)

words_decided : (p : List Term) → IsDecided (All (λ t. 0 < length t.1) p)
words_decided [] = inl (All-nil (λ (t : Term). 0 < length t.1))
words_decided (t ∷ p) = decided_by (λ h. All-cons (λ (u : Term). 0 < length u.1) t p h.0 h.1) (λ all. (all 0 t (omega arith), All-tail (λ (u : Term). 0 < length u.1) t p all)) (both_decided (word_decided t.1) (words_decided p))

-- rules
module _ (compare : Compare) where
  pub rule_decided : (p : Poly) → IsDecided (MayBeRule compare p)
  rule_decided p =
      decided_by (λ h. record { primitive = h.0; positive = h.1.0; nonempty = h.1.1 })
      (λ may. (may.primitive, (may.positive, may.nonempty)))
      (both_decided (primitive_decided p.terms) (both_decided (positive_decided (leading_term compare p.terms)) (words_decided p.terms)))
