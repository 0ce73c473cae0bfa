-- The matrices that a model has for letters are a star representation.
use Rattle.model_checker.proofs.Prelude.{◌≡◌, ℕ, ◌<◌, ◌≤◌, cond, nat_le, get_or, slice_get, None, Some, ◌⊎◌, inl, inr, sym, ap, subst, ◌∙◌, arith, cases_lt, cases_eq, lt-ltb, le-ltb, le-leb, lt-leb, get_or_past, get_or_from_slice_get, All-get_or, IsArrow, Quiver, IsQuiver, letters, source, target, star, Represents, StarRepresents, Matrix, IsSide, matrices, transpose, identity_matrix, IsObject, matrices_laws, transpose_laws, Model, IsModel, IsMap, HaveMatrices, side_of, map_at, matrix_or_zero, arrow_of, representation_of}

-- the side at the place of an object
pub side_read : (m : Model) (place v x : ℕ) → slice_get m.sides place ≡ Some x → place ≡ v → x ≡ side_of m v
side_read m place v x read here = sym (get_or_from_slice_get m.sides place x 1 read) ∙ ap (λ n. get_or m.sides n 1) here

module _ (q : Quiver) (m : Model) where
  -- an identity
  abbrev map_arrow : ℕ → Matrix
  map_arrow a = cond (nat_le a (star q a)) (matrix_or_zero m.modulus (map_at m a)) (transpose m.modulus (matrix_or_zero m.modulus (map_at m (star q a))))

  pub arrow_of-identity : (a : ℕ) → a < q.objects → arrow_of q m a ≡ identity_matrix m.modulus (side_of m a)
  arrow_of-identity a h = ap (λ b. cond b (identity_matrix m.modulus (side_of m a)) (map_arrow a)) (lt-ltb a q.objects h)

  arrow_of-letter : (a : ℕ) → q.objects ≤ a → arrow_of q m a ≡ map_arrow a
  arrow_of-letter a h = ap (λ b. cond b (identity_matrix m.modulus (side_of m a)) (map_arrow a)) (le-ltb a q.objects h)

  -- a declared map, and the adjoint of one
  pub arrow_of-map : (a : ℕ) → q.objects ≤ a → a ≤ star q a → arrow_of q m a ≡ matrix_or_zero m.modulus (map_at m a)
  arrow_of-map a h k =
      arrow_of-letter a h
      ∙ ap (λ b. cond b (matrix_or_zero m.modulus (map_at m a)) (transpose m.modulus (matrix_or_zero m.modulus (map_at m (star q a))))) (le-leb a (star q a) k)

  pub arrow_of-adjoint : (a : ℕ) → q.objects ≤ a → star q a < a → arrow_of q m a ≡ transpose m.modulus (matrix_or_zero m.modulus (map_at m (star q a)))
  arrow_of-adjoint a h k =
      arrow_of-letter a h
      ∙ ap (λ b. cond b (matrix_or_zero m.modulus (map_at m a)) (transpose m.modulus (matrix_or_zero m.modulus (map_at m (star q a))))) (lt-leb a (star q a) k)

module _ (q : Quiver) (quiver : IsQuiver q) (m : Model) (model : IsModel q m) where
  pub side_object : (v : ℕ) → v < q.objects → IsObject m.modulus (side_of m v)
  side_object v h = record {
    is_modulus = model.modulus;
    is_side = All-get_or IsSide m.sides v 1 (subst (λ n. v < n) (sym model.side_of_each) h) model.sides;
  }

  -- the adjoint of a letter that is no declared map is one
  pub adjoint_is_map : (a : ℕ) → q.objects ≤ a → a < letters q → star q a < a → IsMap q (star q a)
  adjoint_is_map a map letter below = record {
    map = go (cases_lt (star q a) q.objects);
    letter = quiver.star_is_letter a letter;
    declared = omega (arith, quiver.star_star a letter);
  }
    where
      go : (star q a < q.objects) ⊎ (q.objects ≤ star q a) → q.objects ≤ star q a
      go (inl small) = absurd (omega (arith, quiver.identity_star (star q a) small, quiver.star_star a letter))
      go (inr large) = large

  module _ (maps : HaveMatrices q m (letters q)) where
    abbrev Ends : ℕ → ℕ → Matrix → Type 0
    Ends x y a = IsArrow (matrices m.modulus) (side_of m x) (side_of m y) a

    matrix_is : (a : ℕ) (h : IsMap q a) → arrow_of q m a ≡ (maps.each a h.letter h).matrix
    matrix_is a h = arrow_of-map q m a h.map h.declared ∙ ap (matrix_or_zero m.modulus) (maps.each a h.letter h).there

    map_is_arrow : (a : ℕ) → IsMap q a → Ends (source q a) (target q a) (arrow_of q m a)
    map_is_arrow a h =
        let has = maps.each a h.letter h in
        subst (Ends (source q a) (target q a)) (sym (matrix_is a h)) (record { arrow = has.ends.matrix; source = has.ends.columns; target = has.ends.rows })

    -- the arrow of an adjoint is the transpose of the map's
    adjoint_is : (a : ℕ) → q.objects ≤ a → star q a < a → IsMap q (star q a) → arrow_of q m a ≡ transpose m.modulus (arrow_of q m (star q a))
    adjoint_is a map below h = arrow_of-adjoint q m a map below ∙ ap (transpose m.modulus) (sym (arrow_of-map q m (star q a) h.map h.declared))

    letter_is_arrow : (a : ℕ) → a < letters q → Ends (source q a) (target q a) (arrow_of q m a)
    letter_is_arrow a letter = go (cases_lt a q.objects) (cases_lt (star q a) a)
      where
        go : (a < q.objects) ⊎ (q.objects ≤ a) → (star q a < a) ⊎ (a ≤ star q a) → Ends (source q a) (target q a) (arrow_of q m a)
        go (inl identity) k =
            let here : Ends a a (arrow_of q m a) = subst (Ends a a) (sym (arrow_of-identity q m a identity)) ((matrices_laws m.modulus).identity_is_arrow (side_of m a) (side_object a identity)) in
            subst (λ v. Ends v (target q a) (arrow_of q m a)) (sym (quiver.identity_source a identity)) (subst (λ v. Ends a v (arrow_of q m a)) (sym (quiver.identity_target a identity)) here)
        go (inr map) (inr declared) = map_is_arrow a (record { map = map; letter = letter; declared = declared })
        go (inr map) (inl below) =
            let h = adjoint_is_map a map letter below in
            let turned = (transpose_laws m.modulus).star_is_arrow (side_of m (source q (star q a))) (side_of m (target q (star q a))) (arrow_of q m (star q a)) (map_is_arrow (star q a) h) in
            subst (Ends (source q a) (target q a)) (sym (adjoint_is a map below h))
            (subst (λ v. Ends v (target q a) (transpose m.modulus (arrow_of q m (star q a)))) (quiver.star_target a letter)
            (subst (λ v. Ends (target q (star q a)) v (transpose m.modulus (arrow_of q m (star q a)))) (quiver.star_source a letter) turned))

    pub represents : Represents (matrices m.modulus) q (representation_of q m)
    represents = record { objects = side_object; arrows = letter_is_arrow; identities = arrow_of-identity q m }

    adjoints : (a : ℕ) → a < letters q → q.objects ≤ a → a ≤ star q a → arrow_of q m (star q a) ≡ transpose m.modulus (arrow_of q m a)
    adjoints a letter map declared = go (cases_eq (star q a) a)
      where
        h : IsMap q a
        h = record { map = map; letter = letter; declared = declared }

        go : (star q a ≡ a) ⊎ (star q a ≡ a → ⊥) → arrow_of q m (star q a) ≡ transpose m.modulus (arrow_of q m a)
        go (inl same) =
            ap (arrow_of q m) same ∙ matrix_is a h ∙ sym ((maps.each a letter h).self_transposed.same same) ∙ ap (transpose m.modulus) (sym (matrix_is a h))
        go (inr other) =
            let back = quiver.star_star a letter in
            arrow_of-adjoint q m (star q a) (omega arith) (omega (arith, back, other)) ∙ ap (λ b. transpose m.modulus (matrix_or_zero m.modulus (map_at m b))) back
            ∙ ap (transpose m.modulus) (sym (arrow_of-map q m a map declared))

    pub star_represents : StarRepresents (matrices m.modulus) (transpose m.modulus) q (representation_of q m)
    star_represents = record { represents = represents; adjoints = adjoints }

  -- after the letters comes a zero matrix
  pub arrow_of-past : (a : ℕ) → letters q ≤ a → arrow_of q m a ≡ matrix_or_zero m.modulus None
  arrow_of-past a past =
      let itself : star q a ≡ a = get_or_past q.stars a a (omega (arith, quiver.star_of_each)) in
      arrow_of-map q m a (objects_first (cases_lt a q.objects)) (omega (arith, itself)) ∙ ap (matrix_or_zero m.modulus) (get_or_past m.maps a None (omega (arith, model.place_of_each)))
    where
      objects_first : (a < q.objects) ⊎ (q.objects ≤ a) → q.objects ≤ a
      objects_first (inl small) = absurd (omega (arith, quiver.identity_is_letter a small))
      objects_first (inr large) = large
