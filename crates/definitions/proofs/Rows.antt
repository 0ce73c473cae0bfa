-- The value of l g r, where g has the value zero.
use Rattle.definitions.proofs.Prelude.{◌≡◌, ℕ, ◌<◌, ℤ, true, cond, List, [], ◌∷◌, ◌++◌, sym, refl, ap, subst, ◌∙◌, eqb-true, append-nil, false_from_ne_true, Structure, IsArrow, PreadditiveLaws, poly_between, Quiver, source, leads, is_path, IsTyped, Representation, Represents, path_value, word_value, value_at}
use Rattle.definitions.proofs.Group.{IsGroup}
use Rattle.definitions.proofs.Multiples.{additive-none}
use Rattle.definitions.proofs.Linear.{linear, linear_agree, linear-none, linear-between, additive-linear}
use Rattle.definitions.proofs.Paths.{step, Fits, fits_from_path, path_from_fits, fits_or_not}
use Rattle.definitions.proofs.Values.{letter_is_arrow, path_value_is_arrow, word_at, word_at_is_arrow, group_at, value_at-linear}

-- what follows an arrow along l, and what comes before it along r
abbrev pub after : {Object Arrow : Type 0} → Structure Object Arrow → Representation Object Arrow → List ℕ → Arrow → Arrow
after s f [] x = x
after s f (a ∷ l) x = s.compose (f.arrow a) (after s f l x)

abbrev pub before : {Object Arrow : Type 0} → Structure Object Arrow → Representation Object Arrow → List ℕ → Arrow → Arrow
before s f [] x = x
before s f (b ∷ r) x = s.compose x (path_value s f b r)

module _ {Object Arrow : Type 0} {s : Structure Object Arrow} (laws : PreadditiveLaws s) (q : Quiver) (f : Representation Object Arrow) (rep : Represents s q f) where
  after_is_arrow : (o : Object) (k v : ℕ) (l : List ℕ) (x : Arrow) → leads q k v l ≡ true → IsArrow s o (f.object k) x → IsArrow s o (f.object v) (after s f l x)
  after_is_arrow o k v [] x e p = subst (λ j. IsArrow s o (f.object j) x) (eqb-true k v e) p
  after_is_arrow o k v (a ∷ l) x e p =
      let first = step q k v a l e in
      laws.compose_is_arrow o (f.object (source q a)) (f.object v) (f.arrow a) (after s f l x)
      (letter_is_arrow laws q f rep v a first.letter first.target) (after_is_arrow o k (source q a) l x first.rest p)

  after-add : (o : Object) (k v : ℕ) (l : List ℕ) (x y : Arrow) → leads q k v l ≡ true → IsArrow s o (f.object k) x → IsArrow s o (f.object k) y → after s f l (s.add x y) ≡ s.add (after s f l x) (after s f l y)
  after-add o k v [] x y e p p' = refl
  after-add o k v (a ∷ l) x y e p p' =
      let first = step q k v a l e in
      ap (s.compose (f.arrow a)) (after-add o k (source q a) l x y first.rest p p')
      ∙ laws.compose_add_right o (f.object (source q a)) (f.object v) (f.arrow a) (after s f l x) (after s f l y)
      (letter_is_arrow laws q f rep v a first.letter first.target) (after_is_arrow o k (source q a) l x first.rest p) (after_is_arrow o k (source q a) l y first.rest p')

  before_is_arrow : (o : Object) (u k : ℕ) (r : List ℕ) (x : Arrow) → leads q u k r ≡ true → IsArrow s (f.object k) o x → IsArrow s (f.object u) o (before s f r x)
  before_is_arrow o u k [] x e p = subst (λ j. IsArrow s (f.object j) o x) (sym (eqb-true u k e)) p
  before_is_arrow o u k (b ∷ r) x e p =
      laws.compose_is_arrow (f.object u) (f.object k) o x (path_value s f b r) p (path_value_is_arrow laws q f rep u k b r e)

  before-add : (o : Object) (u k : ℕ) (r : List ℕ) (x y : Arrow) → leads q u k r ≡ true → IsArrow s (f.object k) o x → IsArrow s (f.object k) o y → before s f r (s.add x y) ≡ s.add (before s f r x) (before s f r y)
  before-add o u k [] x y e p p' = refl
  before-add o u k (b ∷ r) x y e p p' =
      laws.compose_add_left (f.object u) (f.object k) o x y (path_value s f b r) p p' (path_value_is_arrow laws q f rep u k b r e)

  -- the value of a path in three parts
  pub path_value-append : (u k m a b : ℕ) (w r : List ℕ) → leads q k m (a ∷ w) ≡ true → leads q u k (b ∷ r) ≡ true → path_value s f a (w ++ (b ∷ r)) ≡ s.compose (path_value s f a w) (path_value s f b r)
  path_value-append u k m a b [] r e h = refl
  path_value-append u k m a b (c ∷ w) r e h =
      let first = step q k m a (c ∷ w) e in
      ap (s.compose (f.arrow a)) (path_value-append u k (source q a) c b w r first.rest h)
      ∙ sym (laws.compose_assoc (f.object u) (f.object k) (f.object (source q a)) (f.object m) (f.arrow a) (path_value s f c w) (path_value s f b r)
      (letter_is_arrow laws q f rep m a first.letter first.target) (path_value_is_arrow laws q f rep k (source q a) c w first.rest) (path_value_is_arrow laws q f rep u k b r h))

  path_value-before : (u k m a : ℕ) (w r : List ℕ) → leads q k m (a ∷ w) ≡ true → leads q u k r ≡ true → path_value s f a (w ++ r) ≡ before s f r (path_value s f a w)
  path_value-before u k m a w [] e h = ap (path_value s f a) (append-nil w)
  path_value-before u k m a w (b ∷ r) e h = path_value-append u k m a b w r e h

  word_value-after : (l y : List ℕ) (a : ℕ) (none : Arrow) → word_value s f none (l ++ (a ∷ y)) ≡ after s f l (path_value s f a y)
  word_value-after [] y a none = refl
  word_value-after (c ∷ l) y a none = next l ∙ ap (s.compose (f.arrow c)) (word_value-after l y a none)
    where
      next : (l : List ℕ) → path_value s f c (l ++ (a ∷ y)) ≡ s.compose (f.arrow c) (word_value s f none (l ++ (a ∷ y)))
      next [] = refl
      next (d ∷ l) = refl

  module _ (u v k m : ℕ) (in_u : u < q.objects) (in_v : v < q.objects) (in_k : k < q.objects) (in_m : m < q.objects) (l r : List ℕ) where
    -- the value of l w r is that of w between those of l and r, where they fit
    word_at-fits : (w : List ℕ) → Fits q u v k m l r → is_path q k m w ≡ true → word_at laws q f rep u v (l ++ (w ++ r)) ≡ after s f l (before s f r (word_at laws q f rep k m w))
    word_at-fits [] fits e = absurd (cc)
    word_at-fits (a ∷ w) fits e =
        let none = s.zero (f.object u) (f.object v) in
        let none' = s.zero (f.object k) (f.object m) in
        ap (λ b. cond b (word_value s f none (l ++ ((a ∷ w) ++ r))) none) (path_from_fits q u v k m l (a ∷ w) r fits e)
        ∙ word_value-after l (w ++ r) a none
        ∙ ap (after s f l) (path_value-before u k m a w r e fits.right)
        ∙ ap (λ b. after s f l (before s f r (cond b (path_value s f a w) none'))) (sym e)

    -- and for nothing where they do not
    word_at-not_fits : (w : List ℕ) → ¬ (Fits q u v k m l r) → is_path q k m w ≡ true → word_at laws q f rep u v (l ++ (w ++ r)) ≡ s.zero (f.object u) (f.object v)
    word_at-not_fits w not_fits e =
        let none = s.zero (f.object u) (f.object v) in
        let no_path = false_from_ne_true (is_path q u v (l ++ (w ++ r))) (λ h. not_fits (fits_from_path q u v k m l w r e h)) in
        ap (λ b. cond b (word_value s f none (l ++ (w ++ r))) none) no_path

    pub between_is_zero : (g : List (ℤ × List ℕ)) → IsTyped q k m g → value_at s q f k m g ≡ s.zero (f.object k) (f.object m)
        → linear (s.zero (f.object u) (f.object v)) s.add s.negate (word_at laws q f rep u v) (poly_between l g r) ≡ s.zero (f.object u) (f.object v)
    between_is_zero g typed is_zero = linear-between G φ φ_in l r g ∙ go (fits_or_not q u v k m l r)
      where
        none : Arrow
        none = s.zero (f.object u) (f.object v)

        G : IsGroup (IsArrow s (f.object u) (f.object v)) (s.zero (f.object u) (f.object v)) s.add s.negate
        G = group_at laws q f rep u v in_u in_v

        H : IsGroup (IsArrow s (f.object k) (f.object m)) (s.zero (f.object k) (f.object m)) s.add s.negate
        H = group_at laws q f rep k m in_k in_m

        φ : List ℕ → Arrow
        φ = word_at laws q f rep u v

        φ_in : (w : List ℕ) → IsArrow s (f.object u) (f.object v) (word_at laws q f rep u v w)
        φ_in = word_at_is_arrow laws q f rep u v in_u in_v

        go : Dec (Fits q u v k m l r) → linear (s.zero (f.object u) (f.object v)) s.add s.negate (λ w. word_at laws q f rep u v (l ++ (w ++ r))) g ≡ s.zero (f.object u) (f.object v)
        go (no n) =
            linear_agree G (λ w. word_at laws q f rep u v (l ++ (w ++ r))) (λ w. s.zero (f.object u) (f.object v)) (λ w. φ_in (l ++ (w ++ r))) (λ w. G.zero_in) g (λ w c. word_at-not_fits w n (typed.at w c))
            ∙ linear-none G g
        go (yes fits) =
            let T : Arrow → Arrow = λ x. after s f l (before s f r x) in
            let T_in = λ (x : Arrow) (p : IsArrow s (f.object k) (f.object m) x). after_is_arrow (f.object u) m v l (before s f r x) fits.left (before_is_arrow (f.object m) u k r x fits.right p) in
            let T_add = λ (x y : Arrow) (p : IsArrow s (f.object k) (f.object m) x) (p' : IsArrow s (f.object k) (f.object m) y).
            ap (after s f l) (before-add (f.object m) u k r x y fits.right p p')
            ∙ after-add (f.object u) m v l (before s f r x) (before s f r y) fits.left (before_is_arrow (f.object m) u k r x fits.right p) (before_is_arrow (f.object m) u k r y fits.right p') in
            let inner_in = word_at_is_arrow laws q f rep k m in_k in_m in
            linear_agree G (λ w. word_at laws q f rep u v (l ++ (w ++ r))) (λ w. T (word_at laws q f rep k m w)) (λ w. φ_in (l ++ (w ++ r))) (λ w. T_in (word_at laws q f rep k m w) (inner_in w)) g (λ w c. word_at-fits w fits (typed.at w c))
            ∙ sym (additive-linear H G T T_in T_add (word_at laws q f rep k m) inner_in g)
            ∙ ap T (sym (value_at-linear laws q f rep k m in_k in_m g) ∙ is_zero)
            ∙ additive-none H G T T_in T_add
