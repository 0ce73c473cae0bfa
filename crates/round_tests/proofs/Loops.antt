-- Representations of one object with two maps from it to itself.
use Rattle.round_tests.proofs.Prelude.{◌≡◌, ◌<◌, ℕ, zero, suc, pos, negsuc, List, [], ◌∷◌, ◌++◌, get_or, sym, refl, ap, subst, ◌∙◌, arith, Structure, IsArrow, PreadditiveLaws, Quiver, IsTyped, source, target, Poly, SamePolynomial, typed_from_terms, IsRepresentation}

-- the letters are the identity and two maps that are their own adjoints
abbrev loops : Quiver
loops = record { objects = 1; ends = (0, 0) ∷ (0, 0) ∷ (0, 0) ∷ []; stars = 0 ∷ 1 ∷ 2 ∷ [] }

module _ {Object Arrow : Type 0} {s : Structure Object Arrow} (laws : PreadditiveLaws s) (x : Object) (is_object : s.is_object x) (a b : Arrow) (a_is : IsArrow s x x a) (b_is : IsArrow s x x b) where
  objects_are : (o : Object) (v : ℕ) → v < 1 → s.is_object (get_or (x ∷ []) v o)
  objects_are o zero within = is_object
  objects_are o (suc v) within = absurd (omega arith)

  arrows_are : (o : Object) (d : Arrow) (n : ℕ) → n < 3 → IsArrow s (get_or (x ∷ []) (source loops n) o) (get_or (x ∷ []) (target loops n) o) (get_or (s.identity x ∷ a ∷ b ∷ []) n d)
  arrows_are o d zero within = laws.identity_is_arrow x is_object
  arrows_are o d (suc zero) within = a_is
  arrows_are o d (suc (suc zero)) within = b_is
  arrows_are o d (suc (suc (suc n))) within = absurd (omega arith)

  identities_are : (o : Object) (d : Arrow) (v : ℕ) → v < 1 → get_or (s.identity x ∷ a ∷ b ∷ []) v d ≡ s.identity (get_or (x ∷ []) v o)
  identities_are o d zero within = refl
  identities_are o d (suc v) within = absurd (omega arith)

  loops_represented : IsRepresentation s loops (x ∷ []) (s.identity x ∷ a ∷ b ∷ [])
  loops_represented = record {
    objects_length = refl;
    arrows_length = refl;
    represents = λ o d. record { objects = objects_are o; arrows = arrows_are o d; identities = identities_are o d };
  }

  pub represents_loops : (q : Quiver) (objects : List Object) (arrows : List Arrow) → q ≡ loops → objects ≡ x ∷ [] → arrows ≡ s.identity x ∷ a ∷ b ∷ [] → IsRepresentation s q objects arrows
  represents_loops q objects arrows q_is objects_are_these arrows_are_these =
      subst (λ r. IsRepresentation s r objects arrows) (sym q_is)
      (subst (λ xs. IsRepresentation s loops xs arrows) (sym objects_are_these) (subst (IsRepresentation s loops (x ∷ [])) (sym arrows_are_these) loops_represented))

-- the lists that the pushes make
pub pushed_once : {A : Type 0} (none one : List A) (x : A) → none ≡ [] → one ≡ none ++ x ∷ [] → one ≡ x ∷ []
pushed_once none one x empty pushed = pushed ∙ ap (λ xs. xs ++ x ∷ []) empty

pub pushed_thrice : {A : Type 0} (none one two three : List A) (x y z : A) → none ≡ [] → one ≡ none ++ x ∷ [] → two ≡ one ++ y ∷ [] → three ≡ two ++ z ∷ [] → three ≡ x ∷ y ∷ z ∷ []
pushed_thrice none one two three x y z empty first second third =
    third ∙ ap (λ xs. xs ++ z ∷ []) (second ∙ ap (λ xs. xs ++ y ∷ []) (pushed_once none one x empty first))

-- 2 a b - a
abbrev difference : Poly
difference = (pos 2, 1 ∷ 2 ∷ []) ∷ (negsuc 0, 1 ∷ []) ∷ []

pub difference_typed : (q : Quiver) (p : Poly) → q ≡ loops → SamePolynomial p difference → IsTyped q 0 0 p
difference_typed q p q_is same =
    let listed : IsTyped loops 0 0 difference = typed_from_terms loops 0 0 difference (refl, (refl, tt)) in
    subst (λ r. IsTyped r 0 0 p) (sym q_is) (record { at = λ w nonzero. listed.at w (λ none. nonzero (same.at w ∙ none)) })
