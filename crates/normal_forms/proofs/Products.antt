-- Products of polynomials with coefficients in a field, and congruent factors.
use Rattle.std.proofs.Common.{◌≡◌, refl, sym, ap, ap₂, ◌∙◌, [], ◌∷◌, ◌++◌, append_assoc, append-nil}
use Rattle.definitions.specs.Poly.{Word}
use Rattle.word_orders.specs.Orders.{Order}
use Rattle.confluence.proofs.Meets.{Rules}
use Rattle.normal_forms.specs.Forms.{Form, with_words, product_form}
use Rattle.normal_forms.proofs.Field.{Field, numbers_of}
use Rattle.normal_forms.proofs.FieldLaws.{middle}
use Rattle.normal_forms.proofs.Forms.{words-append, words-words, words-same, Each, each-append, hit, look, scaled, Alike, scaled-append, scaled-words}
use Rattle.normal_forms.proofs.Congruence.{look-append, alike_sym, Cong, alike, cong_refl, cong_same, cong_append, cong_trans, cong_left, cong_scaled, cong_between}

module _ {K : Type 0} (k : Field K) where
  -- one term times a polynomial, and a polynomial times one term
  abbrev pub front : (K × Word) → Form K → Form K
  front t q = with_words (λ u. t.1 ++ u) (scaled k t.0 q)

  abbrev pub behind : (K × Word) → Form K → Form K
  behind s p = with_words (λ u. u ++ s.1) (scaled k s.0 p)

  abbrev pub product : Form K → Form K → Form K
  product = product_form (numbers_of k)

  pub product-append : (p q r : Form K) → product (p ++ q) r ≡ product p r ++ product q r
  product-append [] q r = refl
  product-append (t ∷ p) q r = ap (λ z. front t r ++ z) (product-append p q r) ∙ sym (append_assoc (front t r) (product p r) (product q r))

  scaled-scaled : (c d : K) (p : Form K) → scaled k (k.times c d) p ≡ scaled k c (scaled k d p)
  scaled-scaled c d [] = refl
  scaled-scaled c d (t ∷ p) = ap₂ (λ x z. (x, t.1) ∷ z) (k.times_assoc c d t.0) (scaled-scaled c d p)

  front-front : (t s : K × Word) (r : Form K) → front (k.times t.0 s.0, t.1 ++ s.1) r ≡ front t (front s r)
  front-front t s r = ap (with_words (λ u. (t.1 ++ s.1) ++ u)) (scaled-scaled t.0 s.0 r)
      ∙ words-same _ (λ u. t.1 ++ (s.1 ++ u)) (scaled k t.0 (scaled k s.0 r)) (λ u. append_assoc t.1 s.1 u)
      ∙ sym (words-words (λ u. t.1 ++ u) (λ u. s.1 ++ u) (scaled k t.0 (scaled k s.0 r)))
      ∙ ap (with_words (λ u. t.1 ++ u)) (sym (scaled-words k t.0 (λ u. s.1 ++ u) (scaled k s.0 r)))

  front-append : (t : K × Word) (p q : Form K) → front t (p ++ q) ≡ front t p ++ front t q
  front-append t p q = ap (with_words (λ u. t.1 ++ u)) (scaled-append k t.0 p q) ∙ words-append (λ u. t.1 ++ u) (scaled k t.0 p) (scaled k t.0 q)

  product-front : (t : K × Word) (q r : Form K) → product (front t q) r ≡ front t (product q r)
  product-front t [] r = refl
  product-front t (s ∷ q) r = ap₂ ◌++◌ (front-front t s r) (product-front t q r) ∙ sym (front-append t (front s r) (product q r))

  pub product-product : (p q r : Form K) → product (product p q) r ≡ product p (product q r)
  product-product [] q r = refl
  product-product (t ∷ p) q r = product-append (front t q) (product p q) r ∙ ap₂ ◌++◌ (product-front t q r) (product-product p q r)

  pub product-none : (p : Form K) → product p [] ≡ []
  product-none [] = refl
  product-none (t ∷ p) = product-none p

  -- the product, written by the terms of the second factor
  pub product-behind : (p : Form K) (s : K × Word) (q : Form K) → Alike k (product p (s ∷ q)) (behind s p ++ product p q)
  product-behind p s q = record { at = λ w. go p w }
    where
      go : (p : Form K) (w : Word) → look k (product p (s ∷ q)) w ≡ look k (behind s p ++ product p q) w
      go [] w = refl
      go (t ∷ p) w = ap₂ k.plus (ap (λ z. k.times z (hit k (t.1 ++ s.1) w)) (k.times_comm t.0 s.0))
          (look-append k (front t q) (product p (s ∷ q)) w
          ∙ ap (λ z. k.plus (look k (front t q) w) z) (go p w ∙ look-append k (behind s p) (product p q) w))
          ∙ sym (k.plus_assoc X F (k.plus B P)) ∙ middle k X F B P
          ∙ sym (look-append k (behind s (t ∷ p)) (front t q ++ product p q) w
          ∙ ap (λ z. k.plus (k.plus X B) z) (look-append k (front t q) (product p q) w))
        where
          X : K
          X = k.times (k.times s.0 t.0) (hit k (t.1 ++ s.1) w)

          F : K
          F = look k (front t q) w

          B : K
          B = look k (behind s p) w

          P : K
          P = look k (product p q) w

  each-front : (P Q R : Word → Type 0) → ((u v : Word) → P u → Q v → R (u ++ v)) → (t : K × Word) (q : Form K) → P t.1 → Each Q q → Each R (front t q)
  each-front P Q R h t [] a b = tt
  each-front P Q R h t (s ∷ q) a b = (h t.1 s.1 a b.0, each-front P Q R h t q a b.1)

  pub each-product : (P Q R : Word → Type 0) → ((u v : Word) → P u → Q v → R (u ++ v)) → (p q : Form K) → Each P p → Each Q q → Each R (product p q)
  each-product P Q R h [] q a b = tt
  each-product P Q R h (t ∷ p) q a b = each-append R (front t q) (product p q) (each-front P Q R h t q a.0 b) (each-product P Q R h p q a.1 b)

  module _ (o : Order) (g : Rules o) (join : (u v : Word) → o.Range u → o.Range v → o.Range (u ++ v)) (empty : o.Range []) where
    pub cong_before : {x : Word} → o.Range x → {p q : Form K} → Cong k o g p q → Cong k o g (with_words (λ u. x ++ u) p) (with_words (λ u. x ++ u) q)
    cong_before {x} r {p} {q} e = cong_trans (cong_same (moved p))
        (cong_trans (cong_between join x [] r empty e) (cong_same (sym (moved q))))
      where
        moved : (p : Form K) → with_words (λ u. x ++ u) p ≡ with_words (λ u. x ++ (u ++ [])) p
        moved p = words-same _ _ p (λ u. ap (λ z. x ++ z) (sym (append-nil u)))

    pub cong_behind : {y : Word} → o.Range y → {p q : Form K} → Cong k o g p q → Cong k o g (with_words (λ u. u ++ y) p) (with_words (λ u. u ++ y) q)
    cong_behind {y} r e = cong_between join [] y empty r e

    pub cong_product_right : (p : Form K) {q q' : Form K} → Each o.Range p → Cong k o g q q' → Cong k o g (product p q) (product p q')
    cong_product_right [] a e = cong_refl []
    cong_product_right (t ∷ p) a e = cong_append (cong_before a.0 (cong_scaled t.0 e)) (cong_product_right p a.1 e)

    pub cong_product_left : {p p' : Form K} (q : Form K) → Each o.Range q → Cong k o g p p' → Cong k o g (product p q) (product p' q)
    cong_product_left {p} {p'} [] a e = cong_same (product-none p ∙ sym (product-none p'))
    cong_product_left {p} {p'} (s ∷ q) a e = cong_left (product-behind p s q) (cong_trans (cong_append
        (cong_behind a.0 (cong_scaled s.0 e)) (cong_product_left q a.1 e)) (alike _ _ (alike_sym (product-behind p' s q))))
