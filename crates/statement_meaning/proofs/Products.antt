-- The value of a product is the composite of the values of its factors.
use Rattle.statement_meaning.proofs.Prelude.{◌≡◌, ℕ, true, List, [], ◌∷◌, Option, Some, None, Ok, sym, refl, ap, ap₂, subst, ◌∙◌, Structure, IsArrow, PreadditiveLaws, Poly, Quiver, is_path, Representation, Represents, product_result, product_value, Sig, Part, from_to, bound, same_value, path-append, no_fault, joins, product_passed, words-product, after, composite}
use Rattle.expressions.specs.Signatures as signatures
use Rattle.expressions.specs.Polynomials as polynomials
use Rattle.statement_meaning.proofs.Polynomials.{ArePaths, value_in, value-same, value-product}
use Rattle.statement_meaning.proofs.Denoted.{value_of, DenotesAt, Denotes}

module _ {Object Arrow : Type 0} {s : Structure Object Arrow} (laws : PreadditiveLaws s) (q : Quiver) (f : Representation Object Arrow) (rep : Represents s q f) where
  -- each factor is denoted by its polynomial
  pub data AreFactors : List Part → List Poly → List (Option Arrow) → Type 0 where
    no_factor : AreFactors [] [] []
    one_factor : (part : Part) (p : Poly) (v : Option Arrow) (parts : List Part) (ps : List Poly) (vs : List (Option Arrow)) → Denotes s q f part.1 p v → AreFactors parts ps vs
        → AreFactors (part ∷ parts) (p ∷ ps) (v ∷ vs)

  -- two factors that fit
  pub denotes-after : (left right : Sig) (p r product : Poly) (a b : Option Arrow) → left.source.0 ≡ right.target.0 → DenotesAt s q f left p a → DenotesAt s q f right r b
      → product_result p r ≡ Ok product → DenotesAt s q f (from_to right.source.0 left.target.0) product (after s a b)
  denotes-after left right p r product a b meet h m e =
      let u = right.source.0 in
      let k = left.source.0 in
      let v = left.target.0 in
      let r_paths : ArePaths q u k r = subst (λ x. ArePaths q u x r) (sym meet) m.paths in
      record {
        source_below = m.source_below;
        target_below = h.target_below;
        paths = words-product (λ w. _) (λ w. _) (λ w. is_path q u v w ≡ true) (λ x y. path-append q u k v x y) p r product h.paths r_paths e;
        same =
            ap₂ (after s) h.same m.same
            ∙ ap (λ x. Some (s.compose (value_of s q f left p) x)) (ap (λ x. value_of s q f (from_to u x) r) (sym meet))
            ∙ ap Some (sym (value-product laws q f rep u k v m.source_below h.source_below h.target_below p r h.paths r_paths))
            ∙ ap Some (sym (value-same laws q f rep u v m.source_below h.target_below product _ (product_value p r product e)));
      }

  -- what follows a first factor: the composite leads to its source
  pub record Follows (left : Sig) (o : Option Sig) (a : Option Arrow) : Type 0 where
    pub source : ℕ
    pub arrow : Arrow
    pub is : a ≡ Some arrow
    pub ends : IsArrow s (f.object source) (f.object left.source.0) arrow

  value_is_arrow : (e : Sig) (x : Poly) (a : Option Arrow) → DenotesAt s q f e x a → IsArrow s (f.object e.source.0) (f.object e.target.0) (value_of s q f e x)
  value_is_arrow e x a d = value_in laws q f rep e.source.0 e.target.0 d.source_below d.target_below x

  -- a first factor that fits, by the rest after it
  fitting : (left : Sig) (part : Part) (parts : List Part) (p : Poly) (v : Option Arrow) (o : Option Sig) {X : Type 0} → Denotes s q f part.1 p v
      → signatures.product_from (signatures.product_step (Ok (Some left)) part.0 part.1) parts ≡ Ok o
      → ((right : Sig) → left.source.0 ≡ right.target.0 → DenotesAt s q f right p v → signatures.product_from (Ok (Some (from_to right.source.0 left.target.0))) parts ≡ Ok o → X) → X
  fitting left part parts p v o d m then =
      let next = joins left part parts o m in
      then next.right next.meet (subst (λ x. Denotes s q f x p v) next.is d) next.rest

  pub follows : (left : Sig) (part : Part) (p : Poly) (v : Option Arrow) (parts : List Part) (ps : List Poly) (vs : List (Option Arrow)) (o : Option Sig)
      → Denotes s q f part.1 p v → AreFactors parts ps vs → signatures.product_from (Ok (Some left)) (part ∷ parts) ≡ Ok o → Follows left o (composite s (v ∷ vs))
  follows left part p v _ _ _ o h no_factor m =
      fitting left part [] p v o h m (λ right meet d r. record {
        source = right.source.0;
        arrow = value_of s q f right p;
        is = d.same;
        ends = subst (λ x. IsArrow s (f.object right.source.0) (f.object x) (value_of s q f right p)) (sym meet) (value_is_arrow right p v d);
      })
  follows left part p v _ _ _ o h (one_factor x y w xs ys ws here k) m =
      fitting left part (x ∷ xs) p v o h m (λ right meet d r.
      let next = follows (from_to right.source.0 left.target.0) x y w xs ys ws o here k r in
      record {
        source = next.source;
        arrow = s.compose (value_of s q f right p) next.arrow;
        is = ap₂ (after s) d.same next.is;
        ends =
            subst (λ z. IsArrow s (f.object next.source) (f.object z) (s.compose (value_of s q f right p) next.arrow)) (sym meet)
            (laws.compose_is_arrow (f.object next.source) (f.object right.source.0) (f.object right.target.0) (value_of s q f right p) next.arrow (value_is_arrow right p v d) next.ends);
      })

  -- the first factor, then the others
  abbrev pub after_all : Option Arrow → List (Option Arrow) → Option Arrow
  after_all a [] = a
  after_all a (v ∷ vs) = after s a (composite s (v ∷ vs))

  denotes-product_from : (left : Sig) (product : Poly) (a : Option Arrow) (parts : List Part) (ps : List Poly) (vs : List (Option Arrow)) (o : Option Sig) (r : Poly)
      → DenotesAt s q f left product a → AreFactors parts ps vs → signatures.product_from (Ok (Some left)) parts ≡ Ok o → polynomials.product_from product ps ≡ Ok r
      → Denotes s q f o r (after_all a vs)
  denotes-product_from left product a _ _ _ o r d no_factor m e =
      subst (λ x. Denotes s q f x r a) (same_value (Some left) o m) (subst (λ x. DenotesAt s q f left x a) (same_value product r e) d)
  denotes-product_from left product a _ _ _ o r d (one_factor part p v parts ps vs here h) m e =
      let step = bound (product_result product p) (λ next. polynomials.product_from next ps) r e in
      fitting left part parts p v o here m (λ right meet k y.
      subst (Denotes s q f o r) (regrouped right meet k parts ps vs h y)
      (denotes-product_from (from_to right.source.0 left.target.0) step.value (after s a v) parts ps vs o r (denotes-after left right product p step.value a v meet d k step.is) h y step.then))
    where
      -- a after v, after the others
      regrouped : (right : Sig) → left.source.0 ≡ right.target.0 → DenotesAt s q f right p v → (parts : List Part) (ps : List Poly) (vs : List (Option Arrow)) → AreFactors parts ps vs
          → signatures.product_from (Ok (Some (from_to right.source.0 left.target.0))) parts ≡ Ok o → after_all (after s a v) vs ≡ after s a (composite s (v ∷ vs))
      regrouped right meet k _ _ _ no_factor y = refl
      regrouped right meet k _ _ _ (one_factor x z w xs zs ws first n) y =
          let next = follows (from_to right.source.0 left.target.0) x z w xs zs ws o first n y in
          let one = value_of s q f left product in
          let two = value_of s q f right p in
          let one_in = value_in laws q f rep left.source.0 left.target.0 d.source_below d.target_below product in
          let two_in = value_in laws q f rep right.source.0 right.target.0 k.source_below k.target_below p in
          let two_to : IsArrow s (f.object right.source.0) (f.object left.source.0) two = subst (λ i. IsArrow s (f.object right.source.0) (f.object i) two) (sym meet) two_in in
          ap₂ (λ i j. after s (after s i j) (composite s (w ∷ ws))) d.same k.same
          ∙ ap (after s (Some (s.compose one two))) next.is
          ∙ ap Some (laws.compose_assoc (f.object next.source) (f.object right.source.0) (f.object left.source.0) (f.object left.target.0) one two next.arrow one_in two_to next.ends)
          ∙ sym (ap₂ (λ i j. after s i (after s j (composite s (w ∷ ws)))) d.same k.same ∙ ap (λ i. after s (Some one) (after s (Some two) i)) next.is)

  -- a product whose factors are denoted is denoted
  pub denotes-product : (parts : List Part) (ps : List Poly) (vs : List (Option Arrow)) (o : Option Sig) (r : Poly) → AreFactors parts ps vs
      → signatures.product_signature parts ≡ Ok o → polynomials.product_poly ps ≡ Ok r → Denotes s q f o r (composite s vs)
  denotes-product _ _ _ o r no_factor m e = subst (λ x. Denotes s q f x r None) (same_value None o m) (sym (same_value [] r e), refl)
  denotes-product _ _ _ o r (one_factor part p v _ _ _ h no_factor) m e = subst (λ x. Denotes s q f o x v) (same_value p r e) (subst (λ x. Denotes s q f x p v) (same_value part.1 o m) h)
  denotes-product _ _ _ o r (one_factor part p v _ _ _ h (one_factor next x w parts ps vs here k)) m e = go part.1 m h
    where
      go : (left : Option Sig) → signatures.product_from (signatures.product_step (Ok None) part.0 left) (next ∷ parts) ≡ Ok o → Denotes s q f left p v → Denotes s q f o r (composite s (v ∷ w ∷ vs))
      go None y d = absurd (no_fault _ _ (product_passed _ (next ∷ parts) o y).1)
      go (Some left) y d = denotes-product_from left p v (next ∷ parts) (x ∷ ps) (w ∷ vs) o r d (one_factor next x w parts ps vs here k) y e
