-- The value of a factor with quotes and carets.
use Rattle.statement_meaning.proofs.Prelude.{◌≡◌, ℕ, zero, suc, ◌<◌, ℤ, pos, negsuc, true, cond, List, [], ◌∷◌, replicate, Option, Some, None, Ok, sym, refl, ap, subst, ◌∙◌, or_left, or_right, option_map, list_any, Structure, IsArrow, PreadditiveLaws, Poly, SamePolynomial, Quiver, IsQuiver, is_path, adjoint_poly, Representation, Represents, value_at, is_path-adjoint_word, product_result, collected, additions, collection_result, finished-value, coefficient_of-collected, Sig, Spot, Mark, Adjoint, Power, is_adjoint, turned, is_repeated, repeated, mark_signature, marked_signature, product_from, product_poly, power_poly, mark_poly, marked_poly, bound, same_value, OfValues, values-ok, values-bind, no_fault, meets_passed, words-collection, words-adjoint, Reading, iterated, power, marked, marks_value}
use Rattle.statement_meaning.proofs.Polynomials.{ArePaths, value_in, value-same}
use Rattle.statement_meaning.proofs.Denoted.{value_of, DenotesAt, Denotes}
use Rattle.statement_meaning.proofs.Products.{denotes-after}

-- adjoint polynomials have adjoint values
abbrev pub AdjointsAre : {Object Arrow : Type 0} → Structure Object Arrow → (Arrow → Arrow) → Quiver → Representation Object Arrow → Type 0
AdjointsAre s star q f = (u v : ℕ) → u < q.objects → v < q.objects → (p : Poly) → ArePaths q u v p → value_at s q f v u (adjoint_poly q p) ≡ star (value_at s q f u v p)

collection_is : (p r : Poly) → collection_result p ≡ Ok r → SamePolynomial r p
collection_is p r e = subst (λ x. SamePolynomial x p) (finished-value (additions [] p) (collected p) r e) (record { at = λ w. coefficient_of-collected p w })

module _ {Object Arrow : Type 0} (r : Reading Object Arrow) (laws : PreadditiveLaws r.category) (q : Quiver) (quiver : IsQuiver q) (rep : Represents r.category q r.maps) where
  abbrev s : Structure Object Arrow
  s = r.category

  abbrev f : Representation Object Arrow
  f = r.maps

  denotes-turned : AdjointsAre s r.involution q f → (o : Option Sig) (p x : Poly) (a : Option Arrow) → Denotes s q f o p a → collection_result (adjoint_poly q p) ≡ Ok x
      → Denotes s q f (option_map turned o) x (option_map r.involution a)
  denotes-turned adjoints None p x a d e =
      (sym (finished-value (additions [] []) (collected []) x (subst (λ y. collection_result (adjoint_poly q y) ≡ Ok x) d.0 e)), ap (option_map r.involution) d.1)
  denotes-turned adjoints (Some i) p x a d e = record {
    source_below = d.target_below;
    target_below = d.source_below;
    paths = words-collection (λ w. is_path q i.target.0 i.source.0 w ≡ true) (adjoint_poly q p) x (words-adjoint (λ w. _) (λ w. is_path q i.target.0 i.source.0 w ≡ true) q (λ w. is_path-adjoint_word q quiver i.source.0 i.target.0 w) p d.paths) e;
    same =
        ap (option_map r.involution) d.same
        ∙ ap Some (sym (adjoints i.source.0 i.target.0 d.source_below d.target_below p d.paths))
        ∙ ap Some (sym (value-same laws q f rep i.target.0 i.source.0 d.target_below d.source_below x (adjoint_poly q p) (collection_is (adjoint_poly q p) x e)));
  }

  -- x, then a n times
  follow : ℕ → Arrow → Arrow → Arrow
  follow zero x a = x
  follow (suc n) x a = follow n (s.compose x a) a

  module _ (o : Object) where
    loops : (b x : Arrow) → IsArrow s o o b → IsArrow s o o x → IsArrow s o o (s.compose b x)
    loops b x h k = laws.compose_is_arrow o o o b x h k

    follow-compose : (n : ℕ) (b x a : Arrow) → IsArrow s o o b → IsArrow s o o x → IsArrow s o o a → follow n (s.compose b x) a ≡ s.compose b (follow n x a)
    unfolding follow
    follow-compose zero b x a h k m = refl
    follow-compose (suc n) b x a h k m =
        ap (λ y. follow n y a) (laws.compose_assoc o o o o b x a h k m) ∙ follow-compose n b (s.compose x a) a h (loops x a k m) m

    follow-iterated : (n : ℕ) (a : Arrow) → IsArrow s o o a → follow n a a ≡ iterated s n a
    unfolding follow
    follow-iterated zero a h = refl
    follow-iterated (suc n) a h = follow-compose n a a a h h h ∙ ap (s.compose a) (follow-iterated n a h)

  -- this many factors of one kind, after a first one
  denotes-copies : (i : Sig) → i.source.0 ≡ i.target.0 → (n : ℕ) (p product x : Poly) (y z : Arrow) → DenotesAt s q f i p (Some y) → DenotesAt s q f i product (Some z)
      → product_from product (replicate n p) ≡ Ok x → DenotesAt s q f i x (Some (follow n z y))
  unfolding follow
  denotes-copies i meet zero p product x y z d k e = subst (λ w. DenotesAt s q f i w (Some z)) (same_value product x e) k
  denotes-copies i meet (suc n) p product x y z d k e =
      let step = bound (product_result product p) (λ next. product_from next (replicate n p)) x e in
      denotes-copies i meet n p step.value x y (s.compose z y) d (denotes-after laws q f rep i i product p step.value (Some z) (Some y) meet k d step.is) step.then

  unchanged : (g : Arrow → Arrow) → ((y : Arrow) → g y ≡ y) → (a : Option Arrow) → option_map g a ≡ a
  unchanged g h None = refl
  unchanged g h (Some y) = ap Some (h y)

  denotes-unchanged : (o o' : Option Sig) (p x : Poly) (a : Option Arrow) (g : Arrow → Arrow) → ((y : Arrow) → g y ≡ y) → Denotes s q f o p a → o ≡ o' → p ≡ x → Denotes s q f o' x (option_map g a)
  denotes-unchanged o o' p x a g h d same is =
      subst (λ b. Denotes s q f o' x b) (sym (unchanged g h a)) (subst (λ t. Denotes s q f o' t a) is (subst (λ t. Denotes s q f t p a) same d))

  repeated-loop : (n : ℕ) (i : Sig) → i.source.0 ≡ i.target.0 → (p x : Poly) (a : Option Arrow) → DenotesAt s q f i p a → product_poly (replicate (suc (suc n)) p) ≡ Ok x
      → DenotesAt s q f i x (option_map (power s (pos (suc (suc n)))) a)
  repeated-loop n i meet p x a d e =
      let y = value_of s q f i p in
      let here : DenotesAt s q f i p (Some y) = subst (λ b. DenotesAt s q f i p b) d.same d in
      let y_in : IsArrow s (f.object i.source.0) (f.object i.source.0) y = subst (λ k. IsArrow s (f.object i.source.0) (f.object k) y) (sym meet) (value_in laws q f rep i.source.0 i.target.0 d.source_below d.target_below p) in
      subst (λ b. DenotesAt s q f i x b) (ap Some (follow-iterated (f.object i.source.0) (suc n) y y_in) ∙ sym (ap (option_map (power s (pos (suc (suc n))))) d.same))
      (denotes-copies i meet (suc n) p p x y y here here e)

  denotes-power : (first caret : Spot) (exponent : ℤ) (o o' : Option Sig) (p x : Poly) (a : Option Arrow) → Denotes s q f o p a
      → cond (is_repeated exponent) (repeated first caret o) (Ok o) ≡ Ok o' → power_poly exponent p ≡ Ok x → Denotes s q f o' x (option_map (power s exponent) a)
  denotes-power first caret (pos zero) o o' p x a d m e = denotes-unchanged o o' p x a (power s (pos zero)) (λ y. refl) d (same_value o o' m) (same_value p x e)
  denotes-power first caret (pos (suc zero)) o o' p x a d m e = denotes-unchanged o o' p x a (power s (pos (suc zero))) (λ y. refl) d (same_value o o' m) (same_value p x e)
  denotes-power first caret (negsuc n) o o' p x a d m e = denotes-unchanged o o' p x a (power s (negsuc n)) (λ y. refl) d (same_value o o' m) (same_value p x e)
  denotes-power first caret (pos (suc (suc n))) None o' p x a d m e = absurd (no_fault o' _ m)
  denotes-power first caret (pos (suc (suc n))) (Some i) o' p x a d m e =
      let both = meets_passed i.source.0 i.target.0 _ _ _ m in
      subst (λ t. Denotes s q f t x (option_map (power s (pos (suc (suc n)))) a)) both.1 (repeated-loop n i both.0 p x a d e)

  denotes-mark : (first : Spot) (m : Mark) → (is_adjoint m ≡ true → AdjointsAre s r.involution q f) → (o : Option Sig) (p : Poly) (a : Option Arrow) → Denotes s q f o p a
      → OfValues (mark_signature first m o) (mark_poly q m p) (λ o' x. Denotes s q f o' x (option_map (marked r m) a))
  denotes-mark first Adjoint adjoints o p a d o' m x e = subst (λ t. Denotes s q f t x (option_map r.involution a)) (same_value (option_map turned o) o' m) (denotes-turned (adjoints refl) o p x a d e)
  denotes-mark first (Power caret exponent) adjoints o p a d o' m x e = denotes-power first caret exponent.value o o' p x a d m e

  pub denotes-marked : (first : Spot) (marks : List Mark) → (list_any is_adjoint marks ≡ true → AdjointsAre s r.involution q f) → (o : Option Sig) (p : Poly) (a : Option Arrow) → Denotes s q f o p a
      → OfValues (marked_signature first marks o) (marked_poly q marks p) (λ o' x. Denotes s q f o' x (marks_value r marks a))
  denotes-marked first [] adjoints o p a d = values-ok (λ o' x. Denotes s q f o' x a) o p d
  denotes-marked first (k ∷ marks) adjoints o p a d =
      values-bind (λ o' x. Denotes s q f o' x (option_map (marked r k) a)) (λ o' x. Denotes s q f o' x (marks_value r (k ∷ marks) a))
      (mark_signature first k o) (marked_signature first marks) (mark_poly q k p) (marked_poly q marks) (denotes-mark first k (λ h. adjoints (or_left _ _ h)) o p a d)
      (λ o' x. denotes-marked first marks (λ h. adjoints (or_right _ _ h)) o' x (option_map (marked r k) a))
