-- The value of a path is the product of its letters: at each of them, the product before it, its arrow, and the product behind it.
use Rattle.model_candidates.proofs.Prelude.{◌≡◌, ℕ, ◌<◌, true, List, [], ◌∷◌, ◌++◌, sym, ap, subst, ◌∙◌, eqb-true, Structure, IsArrow, PreadditiveLaws, Quiver, letters, source, target, leads, is_path, Representation, Represents, path_value, word_value, step, split, letter_is_arrow, letters_product}

-- a letter of a path
pub leads_of_path : (q : Quiver) (u v : ℕ) (w : List ℕ) → is_path q u v w ≡ true → leads q u v w ≡ true
leads_of_path q u v [] path = absurd (cc)
leads_of_path q u v (a ∷ w) path = path

-- The words before and behind a letter fit it.
pub record FitLetter (q : Quiver) (u v : ℕ) (l : List ℕ) (x : ℕ) (r : List ℕ) : Type 0 where
  pub letter : x < letters q
  pub before : leads q (target q x) v l ≡ true
  pub whole : leads q u (target q x) (x ∷ r) ≡ true
  pub behind : leads q u (source q x) r ≡ true

pub fit_letter : (q : Quiver) (u v : ℕ) (l : List ℕ) (x : ℕ) (r : List ℕ) → is_path q u v (l ++ x ∷ r) ≡ true → FitLetter q u v l x r
fit_letter q u v l x r path =
    let parts = split q u v l (x ∷ r) (leads_of_path q u v (l ++ x ∷ r) path) in
    let here = step q u parts.middle x r parts.right in
    record {
      letter = here.letter;
      before = subst (λ t. leads q t v l ≡ true) (sym here.target) parts.left;
      whole = subst (λ t. leads q u t (x ∷ r) ≡ true) (sym here.target) parts.right;
      behind = here.rest;
    }

module _ {Object Arrow : Type 0} {s : Structure Object Arrow} (laws : PreadditiveLaws s) (q : Quiver) (f : Representation Object Arrow)
    (rep : Represents s q f) where
  pub product_is_arrow : (u v : ℕ) (w : List ℕ) → u < q.objects → leads q u v w ≡ true
      → IsArrow s (f.object u) (f.object v) (letters_product s f u w)
  product_is_arrow u v [] in_u path =
      subst (λ x. IsArrow s (f.object u) (f.object x) (s.identity (f.object u))) (eqb-true u v path)
      (laws.identity_is_arrow (f.object u) (rep.objects u in_u))
  product_is_arrow u v (a ∷ w) in_u path =
      let first = step q u v a w path in
      laws.compose_is_arrow (f.object u) (f.object (source q a)) (f.object v) (f.arrow a) (letters_product s f u w)
      (letter_is_arrow laws q f rep v a first.letter first.target) (product_is_arrow u (source q a) w in_u first.rest)

  -- the value of a path
  path_value-product : (u v a : ℕ) (w : List ℕ) → leads q u v (a ∷ w) ≡ true → path_value s f a w ≡ letters_product s f u (a ∷ w)
  path_value-product u v a [] path =
      let first = step q u v a [] path in
      sym (laws.identity_right (f.object u) (f.object v) (f.arrow a)
      (subst (λ x. IsArrow s (f.object x) (f.object v) (f.arrow a)) (sym (eqb-true u (source q a) first.rest))
      (letter_is_arrow laws q f rep v a first.letter first.target)))
  path_value-product u v a (b ∷ w) path =
      ap (s.compose (f.arrow a)) (path_value-product u (source q a) b w (step q u v a (b ∷ w) path).rest)

  pub word_value-product : (u v : ℕ) (w : List ℕ) (none : Arrow) → is_path q u v w ≡ true → word_value s f none w ≡ letters_product s f u w
  word_value-product u v [] none path = absurd (cc)
  word_value-product u v (a ∷ w) none path = path_value-product u v a w path

  -- two words
  pub product-append : {u t : ℕ} (v : ℕ) (l r : List ℕ) → u < q.objects → t < q.objects → leads q t v l ≡ true → leads q u t r ≡ true
      → letters_product s f u (l ++ r) ≡ s.compose (letters_product s f t l) (letters_product s f u r)
  product-append {u} {t} v [] r in_u in_t left right =
      sym (laws.identity_left (f.object u) (f.object t) (letters_product s f u r) (product_is_arrow u t r in_u right))
  product-append {u} {t} v (a ∷ l) r in_u in_t left right =
      let first = step q t v a l left in
      ap (s.compose (f.arrow a)) (product-append (source q a) l r in_u in_t first.rest right)
      ∙ sym (laws.compose_assoc (f.object u) (f.object t) (f.object (source q a)) (f.object v) (f.arrow a) (letters_product s f t l) (letters_product s f u r)
      (letter_is_arrow laws q f rep v a first.letter first.target) (product_is_arrow t (source q a) l in_t first.rest)
      (product_is_arrow u t r in_u right))
