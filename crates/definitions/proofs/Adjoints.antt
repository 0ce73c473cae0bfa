-- Adjoints of words and polynomials.
use Rattle.std.proofs.Common.{◌≡◌, ℕ, ◌<◌, ◌≤◌, ℤ, pos, ◌+ℤ◌, Bool, true, false, cond, List, [], ◌∷◌, ◌++◌, length, ◌⊎◌, inl, inr, sym, refl, ap, ap₂, subst, ◌∙◌, arith, append_assoc, append-nil, lt-ltb, eq-eqb, eqb-true, ltb}
use Rattle.std.proofs.lemmas.Bool.{and_from, cases_lt}
use Rattle.std.proofs.lemmas.List.{get_or_past}
use Rattle.definitions.specs.Generators.{adjoint_word, adjoint_poly}
use Rattle.definitions.specs.Poly.{word_eq, coefficient_of}
use Rattle.definitions.specs.Quiver.{Quiver, IsQuiver, letters, source, target, star, leads, is_path, IsTyped}
use Rattle.definitions.proofs.Linear.{word_eq-same, word_eq-true, linear}
use Rattle.definitions.proofs.Multiples.{times}
use Rattle.definitions.proofs.Paths.{step, leads-append}

pub adjoint_word-append : (q : Quiver) (v w : List ℕ) → adjoint_word q (v ++ w) ≡ adjoint_word q w ++ adjoint_word q v
adjoint_word-append q [] w = sym (append-nil (adjoint_word q w))
adjoint_word-append q (a ∷ v) w =
    ap (λ x. x ++ (star q a ∷ [])) (adjoint_word-append q v w) ∙ append_assoc (adjoint_word q w) (adjoint_word q v) (star q a ∷ [])

module _ (q : Quiver) (quiver : IsQuiver q) where
  pub star_star_each : (a : ℕ) → star q (star q a) ≡ a
  star_star_each a = go (cases_lt a (letters q))
    where
      go : (a < letters q) ⊎ (letters q ≤ a) → star q (star q a) ≡ a
      go (inl h) = quiver.star_star a h
      go (inr h) =
          let past : length q.stars ≤ a = omega (arith, quiver.star_of_each) in
          let same : star q a ≡ a = get_or_past q.stars a a past in
          ap (star q) same ∙ same

  pub adjoint_word-adjoint_word : (w : List ℕ) → adjoint_word q (adjoint_word q w) ≡ w
  adjoint_word-adjoint_word [] = refl
  adjoint_word-adjoint_word (a ∷ w) =
      adjoint_word-append q (adjoint_word q w) (star q a ∷ []) ∙ ap₂ ◌∷◌ (star_star_each a) (adjoint_word-adjoint_word w)

  pub leads-star : (v a : ℕ) → a < letters q → target q a ≡ v → leads q v (source q a) (star q a ∷ []) ≡ true
  leads-star v a h e =
      and_from (ltb (star q a) (letters q)) _ (lt-ltb (star q a) (letters q) (quiver.star_is_letter a h))
      (and_from _ _ (eq-eqb (target q (star q a)) (source q a) (quiver.star_target a h)) (eq-eqb v (source q (star q a)) (sym e ∙ sym (quiver.star_source a h))))

  pub leads-adjoint_word : (u v : ℕ) (w : List ℕ) → leads q u v w ≡ true → leads q v u (adjoint_word q w) ≡ true
  leads-adjoint_word u v [] e = eq-eqb v u (sym (eqb-true u v e))
  leads-adjoint_word u v (a ∷ w) e =
      let first = step q u v a w e in
      leads-append q v (source q a) u (adjoint_word q w) (star q a ∷ []) (leads-adjoint_word u (source q a) w first.rest) (leads-star v a first.letter first.target)

  is_path-push : (u v a : ℕ) (w : List ℕ) → leads q u v (w ++ (a ∷ [])) ≡ true → is_path q u v (w ++ (a ∷ [])) ≡ true
  is_path-push u v a [] e = e
  is_path-push u v a (b ∷ w) e = e

  pub is_path-adjoint_word : (u v : ℕ) (w : List ℕ) → is_path q u v w ≡ true → is_path q v u (adjoint_word q w) ≡ true
  is_path-adjoint_word u v [] e = absurd (cc)
  is_path-adjoint_word u v (a ∷ w) e = is_path-push v u (star q a) (adjoint_word q w) (leads-adjoint_word u v (a ∷ w) e)

  pub is_path-from_adjoint_word : (u v : ℕ) (w : List ℕ) → is_path q v u (adjoint_word q w) ≡ true → is_path q u v w ≡ true
  is_path-from_adjoint_word u v w e =
      subst (λ x. is_path q u v x ≡ true) (adjoint_word-adjoint_word w) (is_path-adjoint_word v u (adjoint_word q w) e)

  word_eq-adjoint_word : (v w : List ℕ) → word_eq (adjoint_word q v) w ≡ word_eq v (adjoint_word q w)
  word_eq-adjoint_word v w = same (word_eq (adjoint_word q v) w) (word_eq v (adjoint_word q w)) there back
    where
      same : (b c : Bool) → (b ≡ true → c ≡ true) → (c ≡ true → b ≡ true) → b ≡ c
      same true c h k = sym (h refl)
      same false true h k = k refl
      same false false h k = refl

      there : word_eq (adjoint_word q v) w ≡ true → word_eq v (adjoint_word q w) ≡ true
      there e =
          let is : adjoint_word q w ≡ v = ap (adjoint_word q) (sym (word_eq-true (adjoint_word q v) w e)) ∙ adjoint_word-adjoint_word v in
          ap (word_eq v) is ∙ word_eq-same v

      back : word_eq v (adjoint_word q w) ≡ true → word_eq (adjoint_word q v) w ≡ true
      back e =
          let is : adjoint_word q v ≡ w = ap (adjoint_word q) (word_eq-true v (adjoint_word q w) e) ∙ adjoint_word-adjoint_word w in
          ap (λ x. word_eq x w) is ∙ word_eq-same w

  pub coefficient_of-adjoint_poly : (p : List (ℤ × List ℕ)) (w : List ℕ) → coefficient_of (adjoint_poly q p) w ≡ coefficient_of p (adjoint_word q w)
  coefficient_of-adjoint_poly [] w = refl
  coefficient_of-adjoint_poly (t ∷ p) w =
      ap₂ (λ b x. cond b t.0 (pos 0) +ℤ x) (word_eq-adjoint_word t.1 w) (coefficient_of-adjoint_poly p w)

  pub typed-adjoint_poly : (u v : ℕ) (p : List (ℤ × List ℕ)) → IsTyped q u v p → IsTyped q v u (adjoint_poly q p)
  typed-adjoint_poly u v p typed = record {
    at = λ w c. is_path-from_adjoint_word v u w (typed.at (adjoint_word q w) (λ e. c (coefficient_of-adjoint_poly p w ∙ e)));
  }

  pub typed-from_adjoint_poly : (u v : ℕ) (p : List (ℤ × List ℕ)) → IsTyped q v u (adjoint_poly q p) → IsTyped q u v p
  typed-from_adjoint_poly u v p typed = record {
    at = λ w c. is_path-from_adjoint_word u v w (typed.at (adjoint_word q w) (λ e. c (sym (ap (coefficient_of p) (adjoint_word-adjoint_word w)) ∙ sym (coefficient_of-adjoint_poly p (adjoint_word q w)) ∙ e)));
  }

pub linear-adjoint_poly : {A : Type 0} (none : A) (add : A → A → A) (negate : A → A) (f : List ℕ → A) (q : Quiver) (p : List (ℤ × List ℕ))
    → linear none add negate f (adjoint_poly q p) ≡ linear none add negate (λ w. f (adjoint_word q w)) p
linear-adjoint_poly none add negate f q [] = refl
linear-adjoint_poly none add negate f q (t ∷ p) = ap (add (times none add negate t.0 (f (adjoint_word q t.1)))) (linear-adjoint_poly none add negate f q p)
