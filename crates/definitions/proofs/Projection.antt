-- Of rows whose sum is typed, those that are typed have the same sum.
use Rattle.std.proofs.Common.{◌≡◌, ◌≢◌, ℕ, zero, suc, ℤ, pos, negsuc, ◌+ℤ◌, ◌*ℤ◌, neg_ℤ, Bool, true, false, cond, ◌||◌, get_or, List, [], ◌∷◌, ◌++◌, filter, ◌⊎◌, inl, inr, sym, refl, ap, ap₂, ◌∙◌, arith, true≢false}
use Rattle.std.proofs.Math.IntN.{+ℤ_assoc, +ℤ_comm, +ℤ_idl, +ℤ_idr, +ℤ_invr, *ℤ-zero, ℤ_discrete}
use Rattle.std.proofs.lemmas.Bool.{and_from, false_from_ne_true, or_cases, or_left, or_right}
use Rattle.std.proofs.lemmas.Bool.Decides.{Decides-int_eq}
use Rattle.std.specs.List.{list_all, AllByRecursion}
use Rattle.std.specs.Ordering.{int_eq}
use Rattle.definitions.specs.Combination.{Row, generator_at, row_poly, row_sum, is_typed_row}
use Rattle.definitions.specs.Poly.{word_eq, coefficient_of, SamePolynomial, poly_multiple, poly_between}
use Rattle.definitions.specs.Quiver.{Quiver, is_path, IsTyped}
use Rattle.definitions.specs.Soundness.{HasSignature, TypedRowsSuffice}
use Rattle.definitions.proofs.Group.{IsGroup}
use Rattle.definitions.proofs.Multiples.{natural_times, times, times-none}
use Rattle.definitions.proofs.Linear.{linear, linear_agree, linear-none, linear-between, word_eq-true}
use Rattle.definitions.proofs.Coefficients.{at_word, coefficient_of-append, coefficient_of-multiple}
use Rattle.definitions.proofs.Paths.{Fits, fits_from_path, path_from_fits}

-- a coefficient as a sum over the terms
integers : IsGroup (λ z. Unit {0}) (pos 0) ◌+ℤ◌ neg_ℤ
integers = record {
  zero_in = tt;
  add_in = λ a b p q. tt;
  negate_in = λ a p. tt;
  assoc = λ a b c p q r. +ℤ_assoc a b c;
  comm = λ a b p q. +ℤ_comm a b;
  add_zero = λ a p. +ℤ_idr a;
  add_negate = λ a p. +ℤ_invr a;
}

natural_times-one : (n : ℕ) → natural_times (pos 0) ◌+ℤ◌ n (pos 1) ≡ pos n
natural_times-one zero = refl
natural_times-one (suc n) = ap (λ x. pos 1 +ℤ x) (natural_times-one n) ∙ ap pos (omega arith)

times-one : (k : ℤ) → times (pos 0) ◌+ℤ◌ neg_ℤ k (pos 1) ≡ k
times-one (pos n) = natural_times-one n
times-one (negsuc n) = ap neg_ℤ (natural_times-one (suc n))

-- what a word adds to the coefficient of x
abbrev indicator : List ℕ → List ℕ → ℤ
indicator x w = cond (word_eq w x) (pos 1) (pos 0)

coefficient_of-linear : (p : List (ℤ × List ℕ)) (x : List ℕ) → coefficient_of p x ≡ linear (pos 0) ◌+ℤ◌ neg_ℤ (indicator x) p
coefficient_of-linear [] x = refl
coefficient_of-linear (t ∷ p) x = ap₂ ◌+ℤ◌ (go (word_eq t.1 x)) (coefficient_of-linear p x)
  where
    go : (b : Bool) → cond b t.0 (pos 0) ≡ times (pos 0) ◌+ℤ◌ neg_ℤ t.0 (cond b (pos 1) (pos 0))
    go true = sym (times-one t.0)
    go false = sym (times-none integers t.0)

-- l p r has no coefficient at x, where no word of p with a nonzero coefficient makes x
pub coefficient_of-between_zero : (l r x : List ℕ) (p : List (ℤ × List ℕ)) → ((w : List ℕ) → coefficient_of p w ≢ pos 0 → word_eq (l ++ (w ++ r)) x ≡ false) → coefficient_of (poly_between l p r) x ≡ pos 0
coefficient_of-between_zero l r x p h =
    coefficient_of-linear (poly_between l p r) x
    ∙ linear-between integers (indicator x) (λ w. tt) l r p
    ∙ linear_agree integers (λ w. indicator x (l ++ (w ++ r))) (λ w. pos 0) (λ w. tt) (λ w. tt) p (λ w c. ap (λ b. cond b (pos 1) (pos 0)) (h w c))
    ∙ linear-none integers p

-- two words are not the same where one is a path of the signature and the other is not
not_same : (q : Quiver) (u v : ℕ) (y x : List ℕ) → (is_path q u v y ≡ true → is_path q u v x ≡ true → ⊥) → (is_path q u v y ≡ false → is_path q u v x ≡ false → ⊥) → word_eq y x ≡ false
not_same q u v y x both neither = false_from_ne_true (word_eq y x) (λ e. go (is_path q u v y) refl (word_eq-true y x e))
  where
    go : (b : Bool) → is_path q u v y ≡ b → y ≡ x → ⊥
    go true h e = both h (sym (ap (is_path q u v) e) ∙ h)
    go false h e = neither h (sym (ap (is_path q u v) e) ∙ h)

-- typed of two numbers, which need not be objects: the zero polynomial is typed of all
record TypedSomewhere (q : Quiver) (p : List (ℤ × List ℕ)) : Type 0 where
  source : ℕ
  target : ℕ
  typed : IsTyped q source target p

module _ (q : Quiver) (u v : ℕ) (generators : List (List (ℤ × List ℕ))) (r : Row) where
  -- a typed row has typed words
  words_are_paths : is_typed_row q u v generators r ≡ true → (w : List ℕ) → coefficient_of (generator_at generators r.generator) w ≢ pos 0 → is_path q u v (r.left ++ (w ++ r.right)) ≡ true
  words_are_paths typed w c = go (at_word (λ x. int_eq (coefficient_of (generator_at generators r.generator) x) (pos 0) || is_path q u v (r.left ++ (x ++ r.right))) (generator_at generators r.generator) w typed)
    where
      go : ((int_eq (coefficient_of (generator_at generators r.generator) w) (pos 0) || is_path q u v (r.left ++ (w ++ r.right))) ≡ true) ⊎ (coefficient_of (generator_at generators r.generator) w ≡ pos 0) → is_path q u v (r.left ++ (w ++ r.right)) ≡ true
      go (inr nothing) = absurd (c nothing)
      go (inl h) = pick (or_cases _ _ h)
        where
          pick : (int_eq (coefficient_of (generator_at generators r.generator) w) (pos 0) ≡ true) ⊎ (is_path q u v (r.left ++ (w ++ r.right)) ≡ true) → is_path q u v (r.left ++ (w ++ r.right)) ≡ true
          pick (inl nothing) = absurd (c ((Decides-int_eq _ _).0 nothing))
          pick (inr path) = path

  -- and a row that is not typed has no path among its words
  module _ (has : TypedSomewhere q (generator_at generators r.generator)) where
    fits_is_typed : Fits q u v has.source has.target r.left r.right → is_typed_row q u v generators r ≡ true
    fits_is_typed fits = every (generator_at generators r.generator)
      where
        every : (xs : List (ℤ × List ℕ)) → list_all (λ t. int_eq (coefficient_of (generator_at generators r.generator) t.1) (pos 0) || is_path q u v (r.left ++ (t.1 ++ r.right))) xs ≡ true
        every [] = refl
        every (t ∷ xs) = and_from _ _ (go (ℤ_discrete (coefficient_of (generator_at generators r.generator) t.1) (pos 0))) (every xs)
          where
            go : Dec (coefficient_of (generator_at generators r.generator) t.1 ≡ pos 0) → (int_eq (coefficient_of (generator_at generators r.generator) t.1) (pos 0) || is_path q u v (r.left ++ (t.1 ++ r.right))) ≡ true
            go (yes nothing) = or_left _ _ ((Decides-int_eq _ _).1 nothing)
            go (no c) = or_right _ _ (path_from_fits q u v has.source has.target r.left t.1 r.right fits (has.typed.at t.1 c))

    no_word_is_path : is_typed_row q u v generators r ≡ false → (w : List ℕ) → coefficient_of (generator_at generators r.generator) w ≢ pos 0 → is_path q u v (r.left ++ (w ++ r.right)) ≡ true → ⊥
    no_word_is_path untyped w c path =
        true≢false (sym (fits_is_typed (fits_from_path q u v has.source has.target r.left w r.right (has.typed.at w c) path)) ∙ untyped)

    dropped_is_zero : (x : List ℕ) → is_typed_row q u v generators r ≡ false → is_path q u v x ≡ true → coefficient_of (row_poly generators r) x ≡ pos 0
    dropped_is_zero x untyped path =
        let g = generator_at generators r.generator in
        coefficient_of-multiple r.coefficient (poly_between r.left g r.right) x
        ∙ ap (λ k. r.coefficient *ℤ k) (coefficient_of-between_zero r.left r.right x g (λ w c. not_same q u v (r.left ++ (w ++ r.right)) x (λ h _. no_word_is_path untyped w c h) (λ _ h. true≢false (sym path ∙ h))))
        ∙ *ℤ-zero r.coefficient

  kept_is_zero : (x : List ℕ) → is_typed_row q u v generators r ≡ true → is_path q u v x ≡ false → coefficient_of (row_poly generators r) x ≡ pos 0
  kept_is_zero x typed no_path =
      let g = generator_at generators r.generator in
      coefficient_of-multiple r.coefficient (poly_between r.left g r.right) x
      ∙ ap (λ k. r.coefficient *ℤ k) (coefficient_of-between_zero r.left r.right x g (λ w c. not_same q u v (r.left ++ (w ++ r.right)) x (λ _ h. true≢false (sym h ∙ no_path)) (λ h _. true≢false (sym (words_are_paths typed w c) ∙ h))))
      ∙ *ℤ-zero r.coefficient

module _ (q : Quiver) (u v : ℕ) (generators : List (List (ℤ × List ℕ))) (has : (n : ℕ) → TypedSomewhere q (generator_at generators n)) where
  abbrev kept : List Row → List Row
  kept rows = filter (is_typed_row q u v generators) rows

  sum_at_path : (rows : List Row) (x : List ℕ) → is_path q u v x ≡ true → coefficient_of (row_sum generators (kept rows)) x ≡ coefficient_of (row_sum generators rows) x
  sum_at_path [] x path = refl
  sum_at_path (r ∷ rows) x path = go (is_typed_row q u v generators r) refl (sum_at_path rows x path)
    where
      go : (b : Bool) → is_typed_row q u v generators r ≡ b → coefficient_of (row_sum generators (kept rows)) x ≡ coefficient_of (row_sum generators rows) x
          → coefficient_of (row_sum generators (cond b (r ∷ kept rows) (kept rows))) x ≡ coefficient_of (row_sum generators (r ∷ rows)) x
      go true e ih =
          coefficient_of-append (row_poly generators r) (row_sum generators (kept rows)) x ∙ ap (λ k. coefficient_of (row_poly generators r) x +ℤ k) ih
          ∙ sym (coefficient_of-append (row_poly generators r) (row_sum generators rows) x)
      go false e ih =
          ih ∙ sym (+ℤ_idl (coefficient_of (row_sum generators rows) x))
          ∙ ap (λ k. k +ℤ coefficient_of (row_sum generators rows) x) (sym (dropped_is_zero q u v generators r (has r.generator) x e path))
          ∙ sym (coefficient_of-append (row_poly generators r) (row_sum generators rows) x)

  sum_elsewhere : (rows : List Row) (x : List ℕ) → is_path q u v x ≡ false → coefficient_of (row_sum generators (kept rows)) x ≡ pos 0
  sum_elsewhere [] x no_path = refl
  sum_elsewhere (r ∷ rows) x no_path = go (is_typed_row q u v generators r) refl (sum_elsewhere rows x no_path)
    where
      go : (b : Bool) → is_typed_row q u v generators r ≡ b → coefficient_of (row_sum generators (kept rows)) x ≡ pos 0 → coefficient_of (row_sum generators (cond b (r ∷ kept rows) (kept rows))) x ≡ pos 0
      go true e ih =
          coefficient_of-append (row_poly generators r) (row_sum generators (kept rows)) x ∙ ap₂ ◌+ℤ◌ (kept_is_zero q u v generators r x e no_path) ih
      go false e ih = ih

  -- Where the sum of the rows is typed of the signature, that of its typed rows is the same.
  projection : (rows : List Row) (p : List (ℤ × List ℕ)) → IsTyped q u v p → SamePolynomial (row_sum generators rows) p → SamePolynomial (row_sum generators (kept rows)) p
  projection rows p typed same = record { at = λ x. go x (is_path q u v x) refl }
    where
      go : (x : List ℕ) (b : Bool) → is_path q u v x ≡ b → coefficient_of (row_sum generators (kept rows)) x ≡ coefficient_of p x
      go x true e = sum_at_path rows x e ∙ same.at x
      go x false e = sum_elsewhere rows x e ∙ sym (nothing (ℤ_discrete (coefficient_of p x) (pos 0)))
        where
          nothing : Dec (coefficient_of p x ≡ pos 0) → coefficient_of p x ≡ pos 0
          nothing (yes h) = h
          nothing (no c) = absurd (true≢false (sym (typed.at x c) ∙ e))

-- the law over all quivers, generators and claims
typed-multiple : (q : Quiver) (u v : ℕ) (k : ℤ) (p : List (ℤ × List ℕ)) → IsTyped q u v p → IsTyped q u v (poly_multiple k p)
typed-multiple q u v k p typed = record { at = λ w c. typed.at w (λ e. c (coefficient_of-multiple k p w ∙ ap (λ x. k *ℤ x) e ∙ *ℤ-zero k)) }

-- the zero polynomial is typed of all
typed_at_place : (q : Quiver) (generators : List (List (ℤ × List ℕ))) → AllByRecursion (HasSignature q) generators → (n : ℕ) → TypedSomewhere q (get_or generators n [])
typed_at_place q [] typed n = record { source = 0; target = 0; typed = record { at = λ w c. absurd (c refl) } }
typed_at_place q (g ∷ generators) typed zero = record { source = typed.0.source; target = typed.0.target; typed = typed.0.typed }
typed_at_place q (g ∷ generators) typed (suc n) = typed_at_place q generators typed.1 n

typed_by_number : (q : Quiver) (generators : List (List (ℤ × List ℕ))) → AllByRecursion (HasSignature q) generators → (n : ℕ) → TypedSomewhere q (generator_at generators n)
typed_by_number q generators typed zero = record { source = 0; target = 0; typed = record { at = λ w c. absurd (c refl) } }
typed_by_number q generators typed (suc n) = typed_at_place q generators typed n

pub typed_rows_suffice : TypedRowsSuffice
typed_rows_suffice = record {
  combination = λ q u v generators rows d claim has typed combination. record {
    positive = combination.positive;
    sum = projection q u v generators (typed_by_number q generators has) rows (poly_multiple d claim) (typed-multiple q u v d claim typed) combination.sum;
  };
}
