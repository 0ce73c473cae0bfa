-- Sums over the terms of a polynomial, of the coefficient times what a function gives at the word.
use Rattle.std.proofs.Common.{◌≡◌, ◌≢◌, ℕ, zero, suc, ◌≤◌, ℤ, pos, ◌+ℤ◌, Bool, true, false, ◌&&◌, cond, List, [], ◌∷◌, ◌++◌, length, sym, refl, ap, ap₂, ◌∙◌, arith, eqb, eqb-true, eq-eqb}
use Rattle.std.proofs.Math.IntN.{+ℤ_idl, ℤ_discrete}
use Rattle.std.proofs.lemmas.Bool.{and_parts}
use Rattle.definitions.specs.Poly.{word_eq, coefficient_of, SamePolynomial, poly_multiple, poly_between}
use Rattle.definitions.proofs.Group.{IsGroup, zero_add, add_left_comm}
use Rattle.definitions.proofs.Multiples.{times, times_in, times-+ℤ, times-*ℤ, times-none, times-add, additive-none, additive-times}

-- words
pub word_eq-same : (w : List ℕ) → word_eq w w ≡ true
word_eq-same [] = refl
word_eq-same (a ∷ w) = ap₂ ◌&&◌ (eq-eqb a a refl) (word_eq-same w)

pub word_eq-true : (v w : List ℕ) → word_eq v w ≡ true → v ≡ w
word_eq-true [] [] e = refl
word_eq-true [] (b ∷ w) e = cc
word_eq-true (a ∷ v) [] e = cc
word_eq-true (a ∷ v) (b ∷ w) e =
    let parts = and_parts (eqb a b) (word_eq v w) e in
    ap₂ ◌∷◌ (eqb-true a b parts.0) (word_eq-true v w parts.1)

-- a polynomial without the terms of one word
pub without : List ℕ → List (ℤ × List ℕ) → List (ℤ × List ℕ)
without w [] = []
without w (t ∷ p) = cond (word_eq t.1 w) (without w p) (t ∷ without w p)

at : List ℕ → (ℤ × List ℕ) → ℤ
at w t = cond (word_eq t.1 w) t.0 (pos 0)

-- the step of `without` and of `coefficient`, by the outcome of the test
pub without_at : (w : List ℕ) (t : ℤ × List ℕ) (p : List (ℤ × List ℕ)) → word_eq t.1 w ≡ true → without w (t ∷ p) ≡ without w p
unfolding without
without_at w t p e = ap (λ b. cond b (without w p) (t ∷ without w p)) e

without_other : (w : List ℕ) (t : ℤ × List ℕ) (p : List (ℤ × List ℕ)) → word_eq t.1 w ≡ false → without w (t ∷ p) ≡ t ∷ without w p
unfolding without
without_other w t p e = ap (λ b. cond b (without w p) (t ∷ without w p)) e

pub coefficient_at : (w : List ℕ) (t : ℤ × List ℕ) (p : List (ℤ × List ℕ)) → word_eq t.1 w ≡ true → coefficient_of (t ∷ p) w ≡ t.0 +ℤ coefficient_of p w
coefficient_at w t p e = ap (λ b. cond b t.0 (pos 0) +ℤ coefficient_of p w) e

pub coefficient_other : (w : List ℕ) (t : ℤ × List ℕ) (p : List (ℤ × List ℕ)) → word_eq t.1 w ≡ false → coefficient_of (t ∷ p) w ≡ coefficient_of p w
coefficient_other w t p e = ap (λ b. cond b t.0 (pos 0) +ℤ coefficient_of p w) e ∙ +ℤ_idl (coefficient_of p w)

length_without : (w : List ℕ) (p : List (ℤ × List ℕ)) → length (without w p) ≤ length p
unfolding without
length_without w [] = omega arith
length_without w (t ∷ p) = go (word_eq t.1 w) (length_without w p)
  where
    go : (b : Bool) → length (without w p) ≤ length p → length (cond b (without w p) (t ∷ without w p)) ≤ suc (length p)
    go true h = omega arith
    go false h = omega arith

pub coefficient_of-without_same : (w : List ℕ) (p : List (ℤ × List ℕ)) → coefficient_of (without w p) w ≡ pos 0
unfolding without
coefficient_of-without_same w [] = refl
coefficient_of-without_same w (t ∷ p) = go (word_eq t.1 w) refl (coefficient_of-without_same w p)
  where
    go : (b : Bool) → word_eq t.1 w ≡ b → coefficient_of (without w p) w ≡ pos 0 → coefficient_of (without w (t ∷ p)) w ≡ pos 0
    go true e h = ap (λ q. coefficient_of q w) (without_at w t p e) ∙ h
    go false e h = ap (λ q. coefficient_of q w) (without_other w t p e) ∙ coefficient_other w t (without w p) e ∙ h

-- two words that are the same are tested alike
word_eq-through : (u v w : List ℕ) → word_eq u w ≡ true → word_eq w v ≡ word_eq u v
word_eq-through u v w e = ap (λ x. word_eq x v) (sym (word_eq-true u w e))

pub coefficient_of-without_other : (w v : List ℕ) (p : List (ℤ × List ℕ)) → word_eq w v ≡ false → coefficient_of (without w p) v ≡ coefficient_of p v
unfolding without
coefficient_of-without_other w v [] n = refl
coefficient_of-without_other w v (t ∷ p) n = go (word_eq t.1 w) refl (coefficient_of-without_other w v p n)
  where
    go : (b : Bool) → word_eq t.1 w ≡ b → coefficient_of (without w p) v ≡ coefficient_of p v → coefficient_of (without w (t ∷ p)) v ≡ coefficient_of (t ∷ p) v
    go true e h =
        let other : word_eq t.1 v ≡ false = sym (word_eq-through t.1 v w e) ∙ n in
        ap (λ q. coefficient_of q v) (without_at w t p e) ∙ h ∙ sym (coefficient_other v t p other)
    go false e h = ap (λ q. coefficient_of q v) (without_other w t p e) ∙ ap (λ x. cond (word_eq t.1 v) t.0 (pos 0) +ℤ x) h

-- sums
abbrev pub linear : {A : Type 0} → A → (A → A → A) → (A → A) → (List ℕ → A) → List (ℤ × List ℕ) → A
linear none add negate f [] = none
linear none add negate f (t ∷ p) = add (times none add negate t.0 (f t.1)) (linear none add negate f p)

module _ {A : Type 0} {In : A → Type 0} {none : A} {add : A → A → A} {negate : A → A} (G : IsGroup In none add negate) where
  module _ (f : List ℕ → A) (f_in : (w : List ℕ) → In (f w)) where
    pub linear_in : (p : List (ℤ × List ℕ)) → In (linear none add negate f p)
    linear_in [] = G.zero_in
    linear_in (t ∷ p) = G.add_in (times none add negate t.0 (f t.1)) (linear none add negate f p) (times_in G t.0 (f t.1) (f_in t.1)) (linear_in p)

    pub linear-append : (p q : List (ℤ × List ℕ)) → linear none add negate f (p ++ q) ≡ add (linear none add negate f p) (linear none add negate f q)
    linear-append [] q = sym (zero_add G (linear none add negate f q) (linear_in q))
    linear-append (t ∷ p) q =
        let x = times none add negate t.0 (f t.1) in
        ap (add x) (linear-append p q)
        ∙ sym (G.assoc x (linear none add negate f p) (linear none add negate f q) (times_in G t.0 (f t.1) (f_in t.1)) (linear_in p) (linear_in q))

    pub linear-scale : (k : ℤ) (p : List (ℤ × List ℕ)) → linear none add negate f (poly_multiple k p) ≡ times none add negate k (linear none add negate f p)
    linear-scale k [] = sym (times-none G k)
    linear-scale k (t ∷ p) =
        let x = times none add negate t.0 (f t.1) in
        ap₂ add (times-*ℤ G k t.0 (f t.1) (f_in t.1)) (linear-scale k p)
        ∙ sym (times-add G k x (linear none add negate f p) (times_in G t.0 (f t.1) (f_in t.1)) (linear_in p))

    -- the terms of one word taken out
    pub linear-without : (w : List ℕ) (p : List (ℤ × List ℕ)) → linear none add negate f p ≡ add (times none add negate (coefficient_of p w) (f w)) (linear none add negate f (without w p))
    unfolding without
    linear-without w [] = sym (G.add_zero none G.zero_in)
    linear-without w (t ∷ p) = go (word_eq t.1 w) refl (linear-without w p)
      where
        go : (b : Bool) → word_eq t.1 w ≡ b → linear none add negate f p ≡ add (times none add negate (coefficient_of p w) (f w)) (linear none add negate f (without w p))
            → linear none add negate f (t ∷ p) ≡ add (times none add negate (coefficient_of (t ∷ p) w) (f w)) (linear none add negate f (without w (t ∷ p)))
        go true e h =
            let c = coefficient_of p w in
            let x = times none add negate t.0 (f w) in
            let y = times none add negate c (f w) in
            let z = linear none add negate f (without w p) in
            ap₂ add (ap (λ v. times none add negate t.0 (f v)) (word_eq-true t.1 w e)) h
            ∙ sym (G.assoc x y z (times_in G t.0 (f w) (f_in w)) (times_in G c (f w) (f_in w)) (linear_in (without w p)))
            ∙ ap (λ v. add v z) (sym (times-+ℤ G t.0 c (f w) (f_in w)))
            ∙ ap₂ (λ k q. add (times none add negate k (f w)) (linear none add negate f q)) (sym (coefficient_at w t p e)) (sym (without_at w t p e))
        go false e h =
            let c = coefficient_of p w in
            let x = times none add negate t.0 (f t.1) in
            let y = times none add negate c (f w) in
            let z = linear none add negate f (without w p) in
            ap (add x) h
            ∙ add_left_comm G x y z (times_in G t.0 (f t.1) (f_in t.1)) (times_in G c (f w) (f_in w)) (linear_in (without w p))
            ∙ ap₂ (λ k q. add (times none add negate k (f w)) (linear none add negate f q)) (sym (coefficient_other w t p e)) (sym (without_other w t p e))

  -- what the function gives at a word counts only where the coefficient is not zero
  module _ (f g : List ℕ → A) (f_in : (w : List ℕ) → In (f w)) (g_in : (w : List ℕ) → In (g w)) where
    times_agree : (k : ℤ) (w : List ℕ) → (k ≢ pos 0 → f w ≡ g w) → times none add negate k (f w) ≡ times none add negate k (g w)
    times_agree k w h = go (ℤ_discrete k (pos 0))
      where
        go : Dec (k ≡ pos 0) → times none add negate k (f w) ≡ times none add negate k (g w)
        go (yes e) = ap (λ i. times none add negate i (f w)) e ∙ ap (λ i. times none add negate i (g w)) (sym e)
        go (no n) = ap (times none add negate k) (h n)

    agree_within : (n : ℕ) (p : List (ℤ × List ℕ)) → length p ≤ n → ((w : List ℕ) → coefficient_of p w ≢ pos 0 → f w ≡ g w) → linear none add negate f p ≡ linear none add negate g p
    agree_within n [] l h = refl
    agree_within zero (t ∷ p) l h = absurd (omega arith)
    agree_within (suc n) (t ∷ p) l h =
        let w = t.1 in
        let rest = without w (t ∷ p) in
        let same : rest ≡ without w p = without_at w t p (word_eq-same w) in
        let shorter : length rest ≤ n = omega (arith, ap length same, length_without w p) in
        linear-without f f_in w (t ∷ p)
        ∙ ap₂ add (times_agree (coefficient_of (t ∷ p) w) w (h w)) (agree_within n rest shorter (λ v c. go v (word_eq w v) refl c))
        ∙ sym (linear-without g g_in w (t ∷ p))
      where
        go : (v : List ℕ) (b : Bool) → word_eq t.1 v ≡ b → coefficient_of (without t.1 (t ∷ p)) v ≢ pos 0 → f v ≡ g v
        go v true e c = absurd (c (ap (λ x. coefficient_of (without t.1 (t ∷ p)) x) (sym (word_eq-true t.1 v e)) ∙ coefficient_of-without_same t.1 (t ∷ p)))
        go v false e c = h v (λ z. c (coefficient_of-without_other t.1 v (t ∷ p) e ∙ z))

    pub linear_agree : (p : List (ℤ × List ℕ)) → ((w : List ℕ) → coefficient_of p w ≢ pos 0 → f w ≡ g w) → linear none add negate f p ≡ linear none add negate g p
    linear_agree p h = agree_within (length p) p (omega arith) h

  pub linear-none : (p : List (ℤ × List ℕ)) → linear none add negate (λ w. none) p ≡ none
  linear-none [] = refl
  linear-none (t ∷ p) = ap₂ add (times-none G t.0) (linear-none p) ∙ G.add_zero none G.zero_in

-- Polynomials with the same coefficients have the same sum.
module _ {A : Type 0} {In : A → Type 0} {none : A} {add : A → A → A} {negate : A → A} (G : IsGroup In none add negate) (f : List ℕ → A) (f_in : (w : List ℕ) → In (f w)) where
  zero_within : (p : List (ℤ × List ℕ)) → SamePolynomial [] p → none ≡ linear none add negate f p
  zero_within p h =
      sym (linear_agree G f (λ w. none) f_in (λ w. G.zero_in) p (λ w c. absurd (c (sym (h.at w)))) ∙ linear-none G p)

  same_within : (n : ℕ) (p q : List (ℤ × List ℕ)) → length p ≤ n → SamePolynomial p q → linear none add negate f p ≡ linear none add negate f q
  same_within n [] q l h = zero_within q h
  same_within zero (t ∷ p) q l h = absurd (omega arith)
  same_within (suc n) (t ∷ p) q l h =
      let w = t.1 in
      let rest = without w (t ∷ p) in
      let same : rest ≡ without w p = without_at w t p (word_eq-same w) in
      let shorter : length rest ≤ n = omega (arith, ap length same, length_without w p) in
      linear-without G f f_in w (t ∷ p)
      ∙ ap₂ (λ k x. add (times none add negate k (f w)) x) (h.at w) (same_within n rest (without w q) shorter (record { at = λ v. go v (word_eq w v) refl }))
      ∙ sym (linear-without G f f_in w q)
    where
      go : (v : List ℕ) (b : Bool) → word_eq t.1 v ≡ b → coefficient_of (without t.1 (t ∷ p)) v ≡ coefficient_of (without t.1 q) v
      go v true e =
          ap (coefficient_of (without t.1 (t ∷ p))) (sym (word_eq-true t.1 v e)) ∙ coefficient_of-without_same t.1 (t ∷ p)
          ∙ sym (ap (coefficient_of (without t.1 q)) (sym (word_eq-true t.1 v e)) ∙ coefficient_of-without_same t.1 q)
      go v false e = coefficient_of-without_other t.1 v (t ∷ p) e ∙ h.at v ∙ sym (coefficient_of-without_other t.1 v q e)

  pub linear_same : (p q : List (ℤ × List ℕ)) → SamePolynomial p q → linear none add negate f p ≡ linear none add negate f q
  linear_same p q h = same_within (length p) p q (omega arith) h

  pub linear-between : (l r : List ℕ) (p : List (ℤ × List ℕ)) → linear none add negate f (poly_between l p r) ≡ linear none add negate (λ w. f (l ++ (w ++ r))) p
  linear-between l r [] = refl
  linear-between l r (t ∷ p) = ap (add (times none add negate t.0 (f (l ++ (t.1 ++ r))))) (linear-between l r p)

-- An additive function goes inside.
module _ {A : Type 0} {In : A → Type 0} {none : A} {add : A → A → A} {negate : A → A} (G : IsGroup In none add negate)
    {B : Type 0} {On : B → Type 0} {none' : B} {add' : B → B → B} {negate' : B → B} (H : IsGroup On none' add' negate')
    (f : A → B) (f_in : (a : A) → In a → On (f a)) (f_add : (a b : A) → In a → In b → f (add a b) ≡ add' (f a) (f b))
    (g : List ℕ → A) (g_in : (w : List ℕ) → In (g w)) where
  pub additive-linear : (p : List (ℤ × List ℕ)) → f (linear none add negate g p) ≡ linear none' add' negate' (λ w. f (g w)) p
  additive-linear [] = additive-none G H f f_in f_add
  additive-linear (t ∷ p) =
      f_add (times none add negate t.0 (g t.1)) (linear none add negate g p) (times_in G t.0 (g t.1) (g_in t.1)) (linear_in G g g_in p)
      ∙ ap₂ add' (additive-times G H f f_in f_add t.0 (g t.1) (g_in t.1)) (additive-linear p)
