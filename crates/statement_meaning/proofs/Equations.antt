-- The polynomial of an equation is zero exactly where both sides have the same value.
use Rattle.statement_meaning.proofs.Prelude.{◌≡◌, ℕ, ◌<◌, negsuc, Bool, true, false, ◌||◌, ◌↔◌, List, [], Option, Some, None, Ok, refl, sym, ap, ap₂, subst, ◌∙◌, true≢false, eqb, eqb-true, eq-eqb, or_left, or_right, Structure, IsArrow, PreadditiveLaws, Poly, poly_sum, poly_multiple, Quiver, is_path, IsTyped, Representation, Represents, value_at, HasValueZero, IsGroup, negate_unique, negate-negate, linear_agree, linear-none, signature_from_path, group_at, word_at, word_at_is_arrow, value_at-linear, difference_result, difference_value, Sig, Declaration, quiver_of, is_quiver, Sum, has_quote, ◌>>=◌, sides_signature, sum_at, bound, same_value, no_fault, same_passed, equations_are_typed, Reading, sum_value, AreSame, Holds, IsEquation, reading, EquationsAreRead, StarredEquationsAreRead}
use Rattle.expressions.specs.Signatures as signatures
use Rattle.expressions.specs.Polynomials as polynomials
use Rattle.statement_meaning.proofs.Polynomials.{value_in, value-same, value-sum, value-multiple}
use Rattle.statement_meaning.proofs.Denoted.{value_of, DenotesAt, Denotes}
use Rattle.statement_meaning.proofs.Adjoints.{value-adjoint}
use Rattle.statement_meaning.proofs.Marks.{AdjointsAre}
use Rattle.statement_meaning.proofs.Expressions.{denotes-sum}

module _ {Object Arrow : Type 0} {s : Structure Object Arrow} (laws : PreadditiveLaws s) (q : Quiver) (f : Representation Object Arrow) (rep : Represents s q f) where
  -- a difference of two arrows is zero where they are the same
  module _ (u v : ℕ) (in_u : u < q.objects) (in_v : v < q.objects) where
    abbrev group : IsGroup (IsArrow s (f.object u) (f.object v)) (s.zero (f.object u) (f.object v)) s.add s.negate
    group = group_at laws q f rep u v in_u in_v

    abbrev none : Arrow
    none = s.zero (f.object u) (f.object v)

    difference : (p r x : Poly) → difference_result p r ≡ Ok x → value_at s q f u v x ≡ s.add (value_at s q f u v p) (s.negate (value_at s q f u v r))
    difference p r x e =
        let z = value_at s q f u v r in
        let z_in = value_in laws q f rep u v in_u in_v r in
        let ends = ap₂ s.zero z_in.source z_in.target in
        value-same laws q f rep u v in_u in_v x (poly_sum p (poly_multiple (negsuc 0) r)) (difference_value p r x e)
        ∙ value-sum laws q f rep u v in_u in_v p (poly_multiple (negsuc 0) r)
        ∙ ap (s.add (value_at s q f u v p)) (value-multiple laws q f rep u v in_u in_v (negsuc 0) r ∙ ap s.negate (ap (s.add z) ends ∙ group.add_zero z z_in))

    zero_from_same : (p r x : Poly) → difference_result p r ≡ Ok x → value_at s q f u v p ≡ value_at s q f u v r → value_at s q f u v x ≡ none
    zero_from_same p r x e same =
        difference p r x e ∙ ap (λ y. s.add y (s.negate (value_at s q f u v r))) same ∙ group.add_negate (value_at s q f u v r) (value_in laws q f rep u v in_u in_v r)

    same_from_zero : (p r x : Poly) → difference_result p r ≡ Ok x → value_at s q f u v x ≡ none → value_at s q f u v p ≡ value_at s q f u v r
    same_from_zero p r x e vanish =
        let y = value_at s q f u v p in
        let z = value_at s q f u v r in
        let y_in = value_in laws q f rep u v in_u in_v p in
        let z_in = value_in laws q f rep u v in_u in_v r in
        let negative = group.negate_in z z_in in
        let flat : s.add (s.negate z) y ≡ none = group.comm (s.negate z) y negative y_in ∙ sym (difference p r x e) ∙ vanish in
        negate_unique group (s.negate z) y negative y_in flat ∙ negate-negate group z z_in

    -- both sides denoted at the signature, or one made of 0 alone
    sides : (p r x : Poly) (a b : Option Arrow) → (a ≡ Some (value_at s q f u v p)) → (b ≡ Some (value_at s q f u v r)) → difference_result p r ≡ Ok x
        → (value_at s q f u v x ≡ none) ↔ AreSame s a b
    sides p r x a b left right e = (
      λ vanish. subst (λ i. AreSame s i b) (sym left) (subst (AreSame s (Some (value_at s q f u v p))) (sym right) (same_from_zero p r x e vanish)),
      λ same. zero_from_same p r x e (subst (AreSame s (Some (value_at s q f u v p))) right (subst (λ i. AreSame s i b) left same)),
    )

    zero_ends : (p : Poly) → s.zero (s.source (value_at s q f u v p)) (s.target (value_at s q f u v p)) ≡ none
    zero_ends p = let p_in = value_in laws q f rep u v in_u in_v p in ap₂ s.zero p_in.source p_in.target

    left_alone : (p r x : Poly) (a b : Option Arrow) → (a ≡ Some (value_at s q f u v p)) → (r ≡ []) → (b ≡ None) → difference_result p r ≡ Ok x
        → (value_at s q f u v x ≡ none) ↔ AreSame s a b
    left_alone p r x a b left empty right e =
        let is : value_at s q f u v r ≡ none = ap (value_at s q f u v) empty in (
          λ vanish. subst (λ i. AreSame s i b) (sym left) (subst (AreSame s (Some (value_at s q f u v p))) (sym right) (same_from_zero p r x e vanish ∙ is ∙ sym (zero_ends p))),
          λ same. zero_from_same p r x e (subst (AreSame s (Some (value_at s q f u v p))) right (subst (λ i. AreSame s i b) left same) ∙ zero_ends p ∙ sym is),
        )

    right_alone : (p r x : Poly) (a b : Option Arrow) → (p ≡ []) → (a ≡ None) → (b ≡ Some (value_at s q f u v r)) → difference_result p r ≡ Ok x
        → (value_at s q f u v x ≡ none) ↔ AreSame s a b
    right_alone p r x a b empty left right e =
        let is : value_at s q f u v p ≡ none = ap (value_at s q f u v) empty in (
          λ vanish. subst (λ i. AreSame s i b) (sym left) (subst (AreSame s None) (sym right) (sym (same_from_zero p r x e vanish) ∙ is ∙ sym (zero_ends r))),
          λ same. zero_from_same p r x e (is ∙ sym (zero_ends r) ∙ sym (subst (AreSame s None) right (subst (λ i. AreSame s i b) left same))),
        )

  -- the value at one signature counts: a polynomial other than zero has no other
  at_each : (u v : ℕ) → u < q.objects → v < q.objects → (p : Poly) → IsTyped q u v p → (value_at s q f u v p ≡ s.zero (f.object u) (f.object v)) ↔ HasValueZero s q f p
  at_each u v in_u in_v p typed = (λ vanish. record { at = λ x y in_x in_y other. go vanish x y in_x in_y other }, λ all. all.at u v in_u in_v typed)
    where
      -- where the polynomial has two signatures it is zero
      elsewhere : (x y : ℕ) → x < q.objects → y < q.objects → IsTyped q x y p → ((u ≡ x) × (v ≡ y) → ⊥) → value_at s q f x y p ≡ s.zero (f.object x) (f.object y)
      elsewhere x y in_x in_y other apart =
          let G = group_at laws q f rep x y in_x in_y in
          value_at-linear laws q f rep x y in_x in_y p
          ∙ linear_agree G (word_at laws q f rep x y) (λ w. s.zero (f.object x) (f.object y)) (word_at_is_arrow laws q f rep x y in_x in_y) (λ w. G.zero_in) p
          (λ w c. absurd (apart (same_ends_of w (typed.at w c) (other.at w c))))
          ∙ linear-none G p
        where
          same_ends_of : (w : List ℕ) → is_path q u v w ≡ true → is_path q x y w ≡ true → (u ≡ x) × (v ≡ y)
          same_ends_of w h k = pair (sym (signature_from_path q u v w h) ∙ signature_from_path q x y w k)
            where
              pair : ◌≡◌ {A = Option (ℕ × ℕ)} (Some (u, v)) (Some (x, y)) → (u ≡ x) × (v ≡ y)
              pair e = let same : ◌≡◌ {A = ℕ × ℕ} (u, v) (x, y) = cc in (ap (λ i. i.0) same, ap (λ i. i.1) same)

      go : value_at s q f u v p ≡ s.zero (f.object u) (f.object v) → (x y : ℕ) → x < q.objects → y < q.objects → IsTyped q x y p → value_at s q f x y p ≡ s.zero (f.object x) (f.object y)
      go vanish x y in_x in_y other = by (eqb u x) refl (eqb v y) refl
        where
          by : (i : Bool) → eqb u x ≡ i → (j : Bool) → eqb v y ≡ j → value_at s q f x y p ≡ s.zero (f.object x) (f.object y)
          by true h true k = subst (λ m. value_at s q f m y p ≡ s.zero (f.object m) (f.object y)) (eqb-true u x h) (subst (λ m. value_at s q f u m p ≡ s.zero (f.object u) (f.object m)) (eqb-true v y k) vanish)
          by false h j k = elsewhere x y in_x in_y other (λ both. true≢false (sym (eq-eqb u x both.0) ∙ h))
          by true h false k = elsewhere x y in_x in_y other (λ both. true≢false (sym (eq-eqb v y both.1) ∙ k))

both_ways : {A B C : Type 0} → A ↔ B → B ↔ C → A ↔ C
both_ways h k = (λ a. k.0 (h.0 a), λ c. h.1 (k.1 c))

other_way : {A B : Type 0} → A ↔ B → B ↔ A
other_way h = (h.1, h.0)

module _ {Object Arrow : Type 0} {s : Structure Object Arrow} (laws : PreadditiveLaws s) (involution : Arrow → Arrow) (ds : List Declaration) (left right : Sum) (e : Sig) (p : Poly)
    (f : Representation Object Arrow) (equation : IsEquation ds left right e p) (rep : Represents s (quiver_of ds) f) where
  abbrev q : Quiver
  q = quiver_of ds

  abbrev r : Reading Object Arrow
  r = reading s involution ds f

  pub equation_is_read : ((has_quote left || has_quote right) ≡ true → AdjointsAre s involution q f) → HasValueZero s q f p ↔ Holds r left right
  equation_is_read adjoints =
      let first = bound (signatures.sum_signature ds left) (λ i. signatures.sum_signature ds right >>= λ j. sides_signature (sum_at left) (sum_at right) i j) e equation.signature in
      let second = bound (signatures.sum_signature ds right) (λ j. sides_signature (sum_at left) (sum_at right) first.value j) e first.then in
      let minuend = bound (polynomials.sum_poly ds left) (λ m. polynomials.sum_poly ds right >>= λ n. difference_result m n) p equation.polynomial in
      let subtrahend = bound (polynomials.sum_poly ds right) (λ n. difference_result minuend.value n) p minuend.then in
      let on_left = denotes-sum r laws equation.declared equation.objects_first rep left equation.left_names (λ h. adjoints (or_left (has_quote left) (has_quote right) h)) first.value first.is minuend.value minuend.is in
      let on_right = denotes-sum r laws equation.declared equation.objects_first rep right equation.right_names (λ h. adjoints (or_right (has_quote left) (has_quote right) h)) second.value second.is subtrahend.value subtrahend.is in
      go first.value second.value second.then minuend.value subtrahend.value on_left on_right subtrahend.then
    where
      typed : IsTyped q e.source.0 e.target.0 p
      typed = equations_are_typed ds left right e p equation.declared equation.objects_first equation.left_names equation.right_names equation.signature equation.polynomial

      at : (i : Sig) → i ≡ e → i.source.0 < q.objects → i.target.0 < q.objects → (value_of s q f i p ≡ s.zero (f.object i.source.0) (f.object i.target.0)) ↔ HasValueZero s q f p
      at i is in_u in_v = at_each laws q f rep i.source.0 i.target.0 in_u in_v p (subst (λ k. IsTyped q k.source.0 k.target.0 p) (sym is) typed)

      go : (i j : Option Sig) → sides_signature (sum_at left) (sum_at right) i j ≡ Ok e → (m n : Poly) → Denotes s q f i m (sum_value r left) → Denotes s q f j n (sum_value r right) → difference_result m n ≡ Ok p
          → HasValueZero s q f p ↔ Holds r left right
      go None None k m n d h x = absurd (no_fault e _ k)
      go None (Some j) k m n d h x =
          both_ways (other_way (at j (same_value j e k) h.source_below h.target_below))
          (right_alone laws q f rep j.source.0 j.target.0 h.source_below h.target_below m n p (sum_value r left) (sum_value r right) d.0 d.1 h.same x)
      go (Some i) None k m n d h x =
          both_ways (other_way (at i (same_value i e k) d.source_below d.target_below))
          (left_alone laws q f rep i.source.0 i.target.0 d.source_below d.target_below m n p (sum_value r left) (sum_value r right) d.same h.0 h.1 x)
      go (Some i) (Some j) k m n d h x =
          let both = same_passed i j _ _ _ k in
          let here : DenotesAt s q f i n (sum_value r right) = subst (λ t. DenotesAt s q f t n (sum_value r right)) (sym both.0) h in
          both_ways (other_way (at i both.1 d.source_below d.target_below))
          (sides laws q f rep i.source.0 i.target.0 d.source_below d.target_below m n p (sum_value r left) (sum_value r right) d.same here.same x)

pub equations_are_read : {Object Arrow : Type 0} {s : Structure Object Arrow} → PreadditiveLaws s → EquationsAreRead s
equations_are_read laws involution ds left right e p f equation unmarked rep =
    equation_is_read laws involution ds left right e p f equation rep (λ h. absurd (true≢false (sym h ∙ unmarked)))

pub starred_equations_are_read : {Object Arrow : Type 0} {s : Structure Object Arrow} → PreadditiveLaws s → StarredEquationsAreRead s
starred_equations_are_read laws involution star_laws ds left right e p f equation rep =
    equation_is_read laws involution ds left right e p f equation rep.represents
    (λ h u v in_u in_v x paths. value-adjoint laws star_laws (quiver_of ds) (is_quiver ds equation.declared equation.objects_first) f rep u v in_u in_v x paths)
