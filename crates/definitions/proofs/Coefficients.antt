-- The coefficients of sums, multiples and products by words, and a test of equality.
use Rattle.std.proofs.Common.{◌≡◌, ℕ, ℤ, pos, ◌+ℤ◌, ◌*ℤ◌, Bool, true, false, cond, List, [], ◌∷◌, ◌++◌, sym, refl, ap, ap₂, ◌∙◌, inl, inr, ◌⊎◌}
use Rattle.std.proofs.Math.IntN.{*ℤ-zero, +ℤ_idl, +ℤ_assoc}
use Rattle.std.proofs.lemmas.Bool.{and_parts, and_from}
use Rattle.std.proofs.lemmas.Bool.Decides.{Decides-int_eq}
use Rattle.std.proofs.lemmas.List.Folds.{list_all-append}
use Rattle.std.specs.List.{list_all}
use Rattle.std.specs.Ordering.{int_eq}
use Rattle.definitions.specs.Poly.{word_eq, coefficient_of, SamePolynomial, poly_multiple, poly_eq}
use Rattle.definitions.proofs.Linear.{word_eq-true, coefficient_other}
use Rattle.definitions.proofs.Integers.{*ℤ-+ℤ}

pub Same_refl : (p : List (ℤ × List ℕ)) → SamePolynomial p p
Same_refl p = record { at = λ w. refl }

pub Same_sym : (p q : List (ℤ × List ℕ)) → SamePolynomial p q → SamePolynomial q p
Same_sym p q h = record { at = λ w. sym (h.at w) }

pub Same_trans : (p q r : List (ℤ × List ℕ)) → SamePolynomial p q → SamePolynomial q r → SamePolynomial p r
Same_trans p q r h k = record { at = λ w. h.at w ∙ k.at w }

pub coefficient_of-append : (p q : List (ℤ × List ℕ)) (w : List ℕ) → coefficient_of (p ++ q) w ≡ coefficient_of p w +ℤ coefficient_of q w
coefficient_of-append [] q w = sym (+ℤ_idl (coefficient_of q w))
coefficient_of-append (t ∷ p) q w =
    ap (λ x. cond (word_eq t.1 w) t.0 (pos 0) +ℤ x) (coefficient_of-append p q w)
    ∙ sym (+ℤ_assoc (cond (word_eq t.1 w) t.0 (pos 0)) (coefficient_of p w) (coefficient_of q w))

pub coefficient_of-multiple : (k : ℤ) (p : List (ℤ × List ℕ)) (w : List ℕ) → coefficient_of (poly_multiple k p) w ≡ k *ℤ coefficient_of p w
coefficient_of-multiple k [] w = sym (*ℤ-zero k)
coefficient_of-multiple k (t ∷ p) w =
    ap₂ ◌+ℤ◌ (inside (word_eq t.1 w)) (coefficient_of-multiple k p w) ∙ sym (*ℤ-+ℤ k (cond (word_eq t.1 w) t.0 (pos 0)) (coefficient_of p w))
  where
    inside : (b : Bool) → cond b (k *ℤ t.0) (pos 0) ≡ k *ℤ cond b t.0 (pos 0)
    inside true = refl
    inside false = sym (*ℤ-zero k)

pub SamePolynomial-append : (p p' q q' : List (ℤ × List ℕ)) → SamePolynomial p p' → SamePolynomial q q' → SamePolynomial (p ++ q) (p' ++ q')
SamePolynomial-append p p' q q' h k = record { at = λ w. coefficient_of-append p q w ∙ ap₂ ◌+ℤ◌ (h.at w) (k.at w) ∙ sym (coefficient_of-append p' q' w) }

pub SamePolynomial-multiple : (k : ℤ) (p q : List (ℤ × List ℕ)) → SamePolynomial p q → SamePolynomial (poly_multiple k p) (poly_multiple k q)
SamePolynomial-multiple k p q h = record { at = λ w. coefficient_of-multiple k p w ∙ ap (λ x. k *ℤ x) (h.at w) ∙ sym (coefficient_of-multiple k q w) }

-- a test of words that holds at each term holds at w, or w has no term
pub at_word : (test : List ℕ → Bool) (p : List (ℤ × List ℕ)) (w : List ℕ) → list_all (λ t. test t.1) p ≡ true → (test w ≡ true) ⊎ (coefficient_of p w ≡ pos 0)
at_word test [] w e = inr refl
at_word test (t ∷ p) w e = go (word_eq t.1 w) refl (at_word test p w parts.1)
  where
    parts : (test t.1 ≡ true) × (list_all (λ t. test t.1) p ≡ true)
    parts = and_parts (test t.1) (list_all (λ t. test t.1) p) e

    go : (b : Bool) → word_eq t.1 w ≡ b → (test w ≡ true) ⊎ (coefficient_of p w ≡ pos 0) → (test w ≡ true) ⊎ (coefficient_of (t ∷ p) w ≡ pos 0)
    go true same h = inl (ap test (sym (word_eq-true t.1 w same)) ∙ parts.0)
    go false other (inl h) = inl h
    go false other (inr h) = inr (coefficient_other w t p other ∙ h)

pub poly_eq-true : (p q : List (ℤ × List ℕ)) → poly_eq p q ≡ true → SamePolynomial p q
poly_eq-true p q e = record { at = λ w. go w (at_word test p w halves.0) (at_word test q w halves.1) }
  where
    test : List ℕ → Bool
    test v = int_eq (coefficient_of p v) (coefficient_of q v)

    halves : (list_all (λ t. int_eq (coefficient_of p t.1) (coefficient_of q t.1)) p ≡ true) × (list_all (λ t. int_eq (coefficient_of p t.1) (coefficient_of q t.1)) q ≡ true)
    halves = and_parts _ _ (sym (list_all-append (λ t. int_eq (coefficient_of p t.1) (coefficient_of q t.1)) p q) ∙ e)

    go : (w : List ℕ) → (int_eq (coefficient_of p w) (coefficient_of q w) ≡ true) ⊎ (coefficient_of p w ≡ pos 0) → (int_eq (coefficient_of p w) (coefficient_of q w) ≡ true) ⊎ (coefficient_of q w ≡ pos 0) → coefficient_of p w ≡ coefficient_of q w
    go w (inl h) k = (Decides-int_eq (coefficient_of p w) (coefficient_of q w)).0 h
    go w (inr h) (inl k) = (Decides-int_eq (coefficient_of p w) (coefficient_of q w)).0 k
    go w (inr h) (inr k) = h ∙ sym k

pub SamePolynomial-poly_eq : (p q : List (ℤ × List ℕ)) → SamePolynomial p q → poly_eq p q ≡ true
SamePolynomial-poly_eq p q h = every (p ++ q)
  where
    every : (xs : List (ℤ × List ℕ)) → list_all (λ t. int_eq (coefficient_of p t.1) (coefficient_of q t.1)) xs ≡ true
    every [] = refl
    every (t ∷ xs) = and_from (int_eq (coefficient_of p t.1) (coefficient_of q t.1)) _ ((Decides-int_eq (coefficient_of p t.1) (coefficient_of q t.1)).1 (h.at t.1)) (every xs)
