-- The values of sums, multiples and products of polynomials.
use Rattle.statement_meaning.proofs.Prelude.{◌≡◌, ℕ, ◌<◌, ℤ, ◌*ℤ◌, true, cond, List, [], ◌∷◌, ◌++◌, map, sym, ap, ap₂, subst, ◌∙◌, All, All-head, All-tail, Structure, IsArrow, PreadditiveLaws, Poly, SamePolynomial, poly_sum, poly_multiple, poly_product, Quiver, is_path, Representation, Represents, multiple, word_value, value_at, IsGroup, times, times_in, times-*ℤ, times-add, times-none, additive-none, additive-times, linear_in, linear-append, linear-scale, linear_same, multiple-times, word_at, word_at_is_arrow, word_value_is_arrow, group_at, value_at-linear, path_value-append, path-append}
use Rattle.definitions.specs.Poly.{Term}

-- all words are paths of the signature (u, v)
abbrev pub ArePaths : Quiver → ℕ → ℕ → Poly → Type 0
ArePaths q u v p = All (λ t. is_path q u v t.1 ≡ true) p

module _ {Object Arrow : Type 0} {s : Structure Object Arrow} (laws : PreadditiveLaws s) (q : Quiver) (f : Representation Object Arrow) (rep : Represents s q f) where
  abbrev pub zero_at : ℕ → ℕ → Arrow
  zero_at u v = s.zero (f.object u) (f.object v)

  -- what a word is worth between two objects that it leads between
  abbrev pub word_between : ℕ → ℕ → List ℕ → Arrow
  word_between u v w = word_value s f (s.zero (f.object u) (f.object v)) w

  abbrev pub times_at : ℕ → ℕ → ℤ → Arrow → Arrow
  times_at u v k a = times (s.zero (f.object u) (f.object v)) s.add s.negate k a

  word-append : (u k v : ℕ) (l y : List ℕ) → is_path q k v l ≡ true → is_path q u k y ≡ true → word_between u v (l ++ y) ≡ s.compose (word_between k v l) (word_between u k y)
  word-append u k v [] y h m = absurd (cc)
  word-append u k v (a ∷ l) [] h m = absurd (cc)
  word-append u k v (a ∷ l) (b ∷ y) h m = path_value-append laws q f rep u k v a b l y h m

  module _ (u v : ℕ) (in_u : u < q.objects) (in_v : v < q.objects) where
    abbrev group : IsGroup (IsArrow s (f.object u) (f.object v)) (s.zero (f.object u) (f.object v)) s.add s.negate
    group = group_at laws q f rep u v in_u in_v

    word_in : (w : List ℕ) → IsArrow s (f.object u) (f.object v) (word_at laws q f rep u v w)
    word_in = word_at_is_arrow laws q f rep u v in_u in_v

    pub value_in : (p : Poly) → IsArrow s (f.object u) (f.object v) (value_at s q f u v p)
    value_in p = subst (IsArrow s (f.object u) (f.object v)) (sym (value_at-linear laws q f rep u v in_u in_v p)) (linear_in group (word_at laws q f rep u v) word_in p)

    pub value-same : (p r : Poly) → SamePolynomial p r → value_at s q f u v p ≡ value_at s q f u v r
    value-same p r h =
        value_at-linear laws q f rep u v in_u in_v p ∙ linear_same group (word_at laws q f rep u v) word_in p r h ∙ sym (value_at-linear laws q f rep u v in_u in_v r)

    pub value-sum : (p r : Poly) → value_at s q f u v (poly_sum p r) ≡ s.add (value_at s q f u v p) (value_at s q f u v r)
    value-sum p r =
        value_at-linear laws q f rep u v in_u in_v (p ++ r) ∙ linear-append group (word_at laws q f rep u v) word_in p r
        ∙ sym (ap₂ s.add (value_at-linear laws q f rep u v in_u in_v p) (value_at-linear laws q f rep u v in_u in_v r))

    pub value-times : (k : ℤ) (p : Poly) → value_at s q f u v (poly_multiple k p) ≡ times_at u v k (value_at s q f u v p)
    value-times k p =
        value_at-linear laws q f rep u v in_u in_v (poly_multiple k p) ∙ linear-scale group (word_at laws q f rep u v) word_in k p
        ∙ sym (ap (times_at u v k) (value_at-linear laws q f rep u v in_u in_v p))

    pub value-multiple : (k : ℤ) (p : Poly) → value_at s q f u v (poly_multiple k p) ≡ multiple s k (value_at s q f u v p)
    value-multiple k p = value-times k p ∙ sym (multiple-times laws (f.object u) (f.object v) k (value_at s q f u v p) (value_in p))

    -- a term that is a path
    pub value-term : (t : Term) (p : Poly) → is_path q u v t.1 ≡ true → value_at s q f u v (t ∷ p) ≡ s.add (times_at u v t.0 (word_between u v t.1)) (value_at s q f u v p)
    value-term t p e =
        ap (λ b. cond b (s.add (multiple s t.0 (word_between u v t.1)) (value_at s q f u v p)) (value_at s q f u v p)) e
        ∙ ap (λ x. s.add x (value_at s q f u v p)) (multiple-times laws (f.object u) (f.object v) t.0 (word_between u v t.1) (word_value_is_arrow laws q f rep u v t.1 (s.zero (f.object u) (f.object v)) e))

  -- products
  module _ (u k v : ℕ) (in_u : u < q.objects) (in_k : k < q.objects) (in_v : v < q.objects) where
    after_in : (x : Arrow) → IsArrow s (f.object k) (f.object v) x → (a : Arrow) → IsArrow s (f.object u) (f.object k) a → IsArrow s (f.object u) (f.object v) (s.compose x a)
    after_in x h a m = laws.compose_is_arrow (f.object u) (f.object k) (f.object v) x a h m

    -- one word before each word of r
    value-row : (c : ℤ) (w : List ℕ) (r : Poly) → is_path q k v w ≡ true → ArePaths q u k r
        → value_at s q f u v (map (λ t. (c *ℤ t.0, w ++ t.1)) r) ≡ times_at u v c (s.compose (word_between k v w) (value_at s q f u k r))
    value-row c w [] h m =
        let x = word_between k v w in
        let x_in = word_value_is_arrow laws q f rep k v w (s.zero (f.object k) (f.object v)) h in
        sym (ap (times_at u v c) (additive-none (group u k in_u in_k) (group u v in_u in_v) (s.compose x) (after_in x x_in) (λ a b i j. laws.compose_add_right (f.object u) (f.object k) (f.object v) x a b x_in i j))
        ∙ times-none (group u v in_u in_v) c)
    value-row c w (t ∷ r) h m =
        let x = word_between k v w in
        let x_in = word_value_is_arrow laws q f rep k v w (s.zero (f.object k) (f.object v)) h in
        let y = word_between u k t.1 in
        let path = All-head (λ t. is_path q u k t.1 ≡ true) t r m in
        let y_in = word_value_is_arrow laws q f rep u k t.1 (s.zero (f.object u) (f.object k)) path in
        let z = value_at s q f u k r in
        let z_in = value_in u k in_u in_k r in
        let G = group u v in_u in_v in
        let xy_in = after_in x x_in y y_in in
        let xz_in = after_in x x_in z z_in in
        value-term u v in_u in_v (c *ℤ t.0, w ++ t.1) (map (λ t. (c *ℤ t.0, w ++ t.1)) r) (path-append q u k v w t.1 h path)
        ∙ ap₂ s.add (ap (times_at u v (c *ℤ t.0)) (word-append u k v w t.1 h path) ∙ times-*ℤ G c t.0 (s.compose x y) xy_in) (value-row c w r h (All-tail (λ t. is_path q u k t.1 ≡ true) t r m))
        ∙ sym (times-add G c (times_at u v t.0 (s.compose x y)) (s.compose x z) (times_in G t.0 (s.compose x y) xy_in) xz_in)
        ∙ ap (times_at u v c)
        (ap (λ a. s.add a (s.compose x z)) (sym (additive-times (group u k in_u in_k) G (s.compose x) (after_in x x_in) (λ a b i j. laws.compose_add_right (f.object u) (f.object k) (f.object v) x a b x_in i j) t.0 y y_in))
        ∙ sym (laws.compose_add_right (f.object u) (f.object k) (f.object v) x (times_at u k t.0 y) z x_in (times_in (group u k in_u in_k) t.0 y y_in) z_in)
        ∙ ap (s.compose x) (sym (value-term u k in_u in_k t r path)))

    pub value-product : (p r : Poly) → ArePaths q k v p → ArePaths q u k r → value_at s q f u v (poly_product p r) ≡ s.compose (value_at s q f k v p) (value_at s q f u k r)
    value-product [] r h m =
        let z = value_at s q f u k r in
        let z_in = value_in u k in_u in_k r in
        sym (additive-none (group k v in_k in_v) (group u v in_u in_v) (λ a. s.compose a z) (λ a i. after_in a i z z_in) (λ a b i j. laws.compose_add_left (f.object u) (f.object k) (f.object v) a b z i j z_in))
    value-product (t ∷ p) r h m =
        let z = value_at s q f u k r in
        let z_in = value_in u k in_u in_k r in
        let x = word_between k v t.1 in
        let path = All-head (λ t. is_path q k v t.1 ≡ true) t p h in
        let x_in = word_value_is_arrow laws q f rep k v t.1 (s.zero (f.object k) (f.object v)) path in
        let y = value_at s q f k v p in
        let y_in = value_in k v in_k in_v p in
        let H = group k v in_k in_v in
        value-sum u v in_u in_v (map (λ t'. (t.0 *ℤ t'.0, t.1 ++ t'.1)) r) (poly_product p r)
        ∙ ap₂ s.add (value-row t.0 t.1 r path m) (value-product p r (All-tail (λ t. is_path q k v t.1 ≡ true) t p h) m)
        ∙ ap (λ a. s.add a (s.compose y z)) (sym (additive-times H (group u v in_u in_v) (λ a. s.compose a z) (λ a i. after_in a i z z_in) (λ a b i j. laws.compose_add_left (f.object u) (f.object k) (f.object v) a b z i j z_in) t.0 x x_in))
        ∙ sym (laws.compose_add_left (f.object u) (f.object k) (f.object v) (times_at k v t.0 x) y z (times_in H t.0 x x_in) y_in z_in)
        ∙ ap (λ a. s.compose a z) (sym (value-term k v in_k in_v t p path))
