-- The lists of a model's representation, and values in it: the value at one signature decides whether a polynomial is zero.
use Rattle.model_checker.proofs.Prelude.{◌≡◌, ℕ, ◌<◌, ◌≤◌, ℤ, true, List, [], ◌∷◌, length, get_or, Option, Some, ◌⊎◌, inl, inr, sym, refl, ap, subst, ◌∙◌, arith, cases_lt, get_or_past, get_or-map-range_with_len, length-map-range_with_len, get_or_from_slice_get, slice_get-get_or, Structure, IsArrow, Quiver, IsQuiver, letters, source, target, is_path, IsTyped, Representation, Represents, value_at, HasValueZeroAt, HasValueZero, signature_from_path, IsCanonical, listed, IsRepresentation, IsValue, words_are_paths, Matrix, IsObject, matrices, zero_matrix, Model, IsModel, HaveMatrices, side_of, arrow_of, representation_of, AreOfModel}
use Rattle.model_checker.proofs.Arrows.{represents, side_object, arrow_of-past}

-- one signature decides
some_is : (x y : ℕ × ℕ) → ◌≡◌ {A = Option (ℕ × ℕ)} (Some x) (Some y) → x ≡ y
some_is x y e = cc

-- a polynomial with a term has one signature
pub one_signature : (q : Quiver) (p : List (ℤ × List ℕ)) (u v x y : ℕ) → IsCanonical p → (p ≡ [] → ⊥) → IsTyped q u v p → IsTyped q x y p
    → ◌≡◌ {A = ℕ × ℕ} (u, v) (x, y)
one_signature q [] u v x y canonical some typed other = absurd (some refl)
one_signature q (t ∷ p) u v x y canonical some typed other =
    some_is (u, v) (x, y) (sym (signature_from_path q u v t.1 (first u v typed)) ∙ signature_from_path q x y t.1 (first x y other))
  where
    first : (a b : ℕ) → IsTyped q a b (t ∷ p) → is_path q a b t.1 ≡ true
    first a b is = words_are_paths q a b (t ∷ p) canonical is 0 t (omega arith)

pub zero_from_value : {Object Arrow : Type 0} (s : Structure Object Arrow) (q : Quiver) (f : Representation Object Arrow)
    (p : List (ℤ × List ℕ)) → IsCanonical p
    → (u v : ℕ) → IsTyped q u v p → HasValueZeroAt s q f u v p → HasValueZero s q f p
zero_from_value s q f [] canonical u v typed vanishes = record { at = λ x y in_x in_y other. refl }
zero_from_value s q f (t ∷ p) canonical u v typed vanishes = record {
  at = λ x y in_x in_y other.
      subst (λ e. HasValueZeroAt s q f e.0 e.1 (t ∷ p)) (one_signature q (t ∷ p) u v x y canonical (λ e. cc) typed other) vanishes;
}

-- the lists
any_default : {X : Type 0} (xs : List X) (i : ℕ) (d e : X) → i < length xs → get_or xs i d ≡ get_or xs i e
any_default xs i d e h = get_or_from_slice_get xs i (get_or xs i e) d (slice_get-get_or xs i e h)

module _ (q : Quiver) (quiver : IsQuiver q) (m : Model) (model : IsModel q m) (objects : List ℕ) (arrows : List Matrix)
    (lists : AreOfModel q m objects arrows) where
  objects_length : length objects ≡ q.objects
  objects_length = ap length lists.objects_are ∙ model.side_of_each

  arrows_length : length arrows ≡ letters q
  arrows_length = ap length lists.arrows_are ∙ length-map-range_with_len (arrow_of q m) 0 (letters q)

  pub object_is : (v o : ℕ) → v < q.objects → get_or objects v o ≡ side_of m v
  object_is v o h = any_default objects v o 1 (subst (λ n. v < n) (sym objects_length) h) ∙ ap (λ xs. get_or xs v 1) lists.objects_are

  pub object_at : (v : ℕ) → v < q.objects → {side : ℕ} → side ≡ get_or objects v 1 → IsObject m.modulus side
  object_at v h is = subst (IsObject m.modulus) (sym (is ∙ object_is v 1 h)) (side_object q quiver m model v h)

  arrow_is : (n : ℕ) (a : Matrix) → n < letters q → get_or arrows n a ≡ arrow_of q m n
  arrow_is n a h = ap (λ xs. get_or xs n a) lists.arrows_are ∙ get_or-map-range_with_len (arrow_of q m) 0 (letters q) n n a h (omega arith)

  pub listed_is : listed objects arrows 1 (zero_matrix m.modulus 1 1) ≡ representation_of q m
  listed_is = λ i. record { object = λ v. get_or (lists.objects_are i) v 1; arrow = λ n. arrow n i }
    where
      arrow : (n : ℕ) → get_or arrows n (zero_matrix m.modulus 1 1) ≡ arrow_of q m n
      arrow n = go (cases_lt n (letters q))
        where
          go : (n < letters q) ⊎ (letters q ≤ n) → get_or arrows n (zero_matrix m.modulus 1 1) ≡ arrow_of q m n
          go (inl inside) = arrow_is n (zero_matrix m.modulus 1 1) inside
          go (inr past) = get_or_past arrows n (zero_matrix m.modulus 1 1) (omega (arith, arrows_length))
              ∙ sym (arrow_of-past q quiver m model n past)

  pub is_representation : HaveMatrices q m (letters q) → IsRepresentation (matrices m.modulus) q objects arrows
  is_representation maps = record {
    objects_length = objects_length;
    arrows_length = arrows_length;
    represents = λ o a. record {
      objects = λ v h. subst (matrices m.modulus).is_object (sym (object_is v o h)) (rep.objects v h);
      arrows = λ n h.
          subst (λ x. IsArrow (matrices m.modulus) x (get_or objects (target q n) o) (get_or arrows n a))
          (sym (object_is (source q n) o (quiver.source_is_object n h)))
          (subst (λ x. IsArrow (matrices m.modulus) (side_of m (source q n)) x (get_or arrows n a))
          (sym (object_is (target q n) o (quiver.target_is_object n h)))
          (subst (IsArrow (matrices m.modulus) (side_of m (source q n)) (side_of m (target q n))) (sym (arrow_is n a h)) (rep.arrows n h)));
      identities = λ v h. arrow_is v a (quiver.identity_is_letter v h) ∙ rep.identities v h ∙ ap (matrices m.modulus).identity
          (sym (object_is v o h));
    };
  }
    where
      rep : Represents (matrices m.modulus) q (representation_of q m)
      rep = represents q quiver m model maps

  -- the value that the lists give is that of the representation
  pub value_is : (u v : ℕ) (p : List (ℤ × List ℕ)) (x : Matrix) → IsValue (matrices m.modulus) q objects arrows u v p x
      → x ≡ value_at (matrices m.modulus) q (representation_of q m) u v p
  value_is u v p x value = value.at 1 (zero_matrix m.modulus 1 1) ∙ ap (λ f. value_at (matrices m.modulus) q f u v p) listed_is
