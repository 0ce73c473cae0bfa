-- In each representation the relations of identities are zero, and so the assumptions make all generators of a statement zero that isn't starred.
use Rattle.std.proofs.Common.{◌≡◌, ℕ, ◌-◌, ◌<◌, pos, negsuc, Bool, true, false, cond, ◌||◌, List, [], ◌∷◌, ◌++◌, sym, ap, ap₂, subst, ◌∙◌, eqb, eqb-true, eq-eqb, lt-ltb, leb, true≢false, refl}
use Rattle.std.proofs.lemmas.Bool.{false_from_ne_true, and_from}
use Rattle.std.specs.List.{AllByRecursion, flat_map, range_with_len}
use Rattle.definitions.specs.Category.{Structure, IsArrow, PreadditiveLaws}
use Rattle.definitions.specs.Generators.{left_unit, right_unit, letter_units, units}
use Rattle.definitions.specs.Quiver.{Quiver, IsQuiver, letters, source, target, star, leads, is_path}
use Rattle.definitions.specs.Representation.{Representation, Represents, word_value, value_at}
use Rattle.definitions.specs.Soundness.{HasValueZero, IsUnitSound}
use Rattle.definitions.proofs.Group.{IsGroup}
use Rattle.definitions.proofs.Paths.{step, leads-append}
use Rattle.definitions.proofs.Values.{word_at, word_at_is_arrow, group_at, value_at-linear, letter_is_arrow}

-- a fact of each element
pub all-append : {X : Type 0} (P : X → Type 0) (xs ys : List X) → AllByRecursion P xs → AllByRecursion P ys → AllByRecursion P (xs ++ ys)
all-append P [] ys h k = k
all-append P (x ∷ xs) ys h k = (h.0, all-append P xs ys h.1 k)

pub all-flat_map : {X Y : Type 0} (P : Y → Type 0) (g : X → List Y) → ((x : X) → AllByRecursion P (g x)) → (xs : List X) → AllByRecursion P (flat_map g xs)
all-flat_map P g h [] = tt
all-flat_map P g h (x ∷ xs) = all-append P (g x) (flat_map g xs) (h x) (all-flat_map P g h xs)

module _ {Object Arrow : Type 0} {s : Structure Object Arrow} (laws : PreadditiveLaws s) (q : Quiver) (quiver : IsQuiver q) (f : Representation Object Arrow) (plain : Represents s q f) where
  -- the relations of the identities
  module _ (u v : ℕ) (in_u : u < q.objects) (in_v : v < q.objects) where
    abbrev group : IsGroup (IsArrow s (f.object u) (f.object v)) (s.zero (f.object u) (f.object v)) s.add s.negate
    group = group_at laws q f plain u v in_u in_v

    -- w - w' is zero where both count for the same
    difference_is_zero : (w w' : List ℕ) → word_at laws q f plain u v w ≡ word_at laws q f plain u v w' → value_at s q f u v ((pos 1, w) ∷ (negsuc 0, w') ∷ []) ≡ s.zero (f.object u) (f.object v)
    difference_is_zero w w' e =
        let none = s.zero (f.object u) (f.object v) in
        let x = word_at laws q f plain u v w in
        let y = word_at laws q f plain u v w' in
        let p : IsArrow s (f.object u) (f.object v) y = word_at_is_arrow laws q f plain u v in_u in_v w' in
        value_at-linear laws q f plain u v in_u in_v ((pos 1, w) ∷ (negsuc 0, w') ∷ [])
        ∙ ap (λ z. s.add (s.add z none) (s.add (s.negate (s.add y none)) none)) e
        ∙ ap₂ (λ z z'. s.add z z') (group.add_zero y p) (group.add_zero (s.negate (s.add y none)) (group.negate_in (s.add y none) (group.add_in y none p group.zero_in)))
        ∙ ap (λ z. s.add y (s.negate z)) (group.add_zero y p)
        ∙ group.add_negate y p

    -- the identity of x is a path from x to x
    identity_leads : (x : ℕ) → x < q.objects → leads q x x (x ∷ []) ≡ true
    identity_leads x in_x =
        and_from _ _ (lt-ltb x (letters q) (quiver.identity_is_letter x in_x))
        (and_from _ _ (eq-eqb (target q x) x (quiver.identity_target x in_x)) (eq-eqb x (source q x) (sym (quiver.identity_source x in_x))))

    -- both are paths or neither is, and the values agree
    agree : (w : List ℕ) (a : ℕ) → (is_path q u v (a ∷ []) ≡ true → is_path q u v w ≡ true) → (is_path q u v w ≡ true → is_path q u v (a ∷ []) ≡ true)
        → (is_path q u v (a ∷ []) ≡ true → word_value s f (s.zero (f.object u) (f.object v)) w ≡ f.arrow a) → word_at laws q f plain u v w ≡ word_at laws q f plain u v (a ∷ [])
    agree w a there back same = go (is_path q u v (a ∷ [])) refl
      where
        go : (b : Bool) → is_path q u v (a ∷ []) ≡ b → word_at laws q f plain u v w ≡ word_at laws q f plain u v (a ∷ [])
        go true h =
            let none = s.zero (f.object u) (f.object v) in
            ap (λ c. cond c (word_value s f none w) none) (there h) ∙ same h ∙ ap (λ c. cond c (f.arrow a) none) (sym h)
        go false h =
            let none = s.zero (f.object u) (f.object v) in
            let neither : is_path q u v w ≡ false = false_from_ne_true _ (λ k. true≢false (sym (back k) ∙ h)) in
            ap (λ c. cond c (word_value s f none w) none) neither ∙ ap (λ c. cond c (f.arrow a) none) (sym h)

    left_unit_at : (x a : ℕ) → x < q.objects → target q a ≡ x → word_at laws q f plain u v (x ∷ a ∷ []) ≡ word_at laws q f plain u v (a ∷ [])
    left_unit_at x a in_x e =
        agree (x ∷ a ∷ []) a
        (λ h.
        let meet : x ≡ v = sym e ∙ (step q u v a [] h).target in
        leads-append q u x v (x ∷ []) (a ∷ []) (subst (λ y. leads q x y (x ∷ []) ≡ true) meet (identity_leads x in_x)) (subst (λ y. leads q u y (a ∷ []) ≡ true) (sym meet) h))
        (λ h.
        let first = step q u v x (a ∷ []) h in
        let middle : source q x ≡ v = quiver.identity_source x in_x ∙ sym (quiver.identity_target x in_x) ∙ first.target in
        subst (λ y. leads q u y (a ∷ []) ≡ true) middle first.rest)
        (λ h.
        ap (λ y. s.compose y (f.arrow a)) (plain.identities x in_x)
        ∙ laws.identity_left (f.object (source q a)) (f.object x) (f.arrow a) (letter_is_arrow laws q f plain x a (step q u v a [] h).letter e))

    right_unit_at : (x a : ℕ) → x < q.objects → source q a ≡ x → word_at laws q f plain u v (a ∷ x ∷ []) ≡ word_at laws q f plain u v (a ∷ [])
    right_unit_at x a in_x e =
        agree (a ∷ x ∷ []) a
        (λ h.
        let first = step q u v a [] h in
        let start : u ≡ x = eqb-true u (source q a) first.rest ∙ e in
        leads-append q u x v (a ∷ []) (x ∷ []) (subst (λ y. leads q y v (a ∷ []) ≡ true) start h) (subst (λ y. leads q y x (x ∷ []) ≡ true) (sym start) (identity_leads x in_x)))
        (λ h.
        let first = step q u v a (x ∷ []) h in
        let second = step q u (source q a) x [] first.rest in
        let start : u ≡ source q a = eqb-true u (source q x) second.rest ∙ quiver.identity_source x in_x ∙ sym e in
        and_from _ _ (lt-ltb a (letters q) first.letter) (and_from _ _ (eq-eqb (target q a) v first.target) (eq-eqb u (source q a) start)))
        (λ h.
        let first = step q u v a [] h in
        ap (s.compose (f.arrow a)) (plain.identities x in_x)
        ∙ laws.identity_right (f.object x) (f.object v) (f.arrow a) (subst (λ y. IsArrow s (f.object y) (f.object v) (f.arrow a)) e (letter_is_arrow laws q f plain v a first.letter first.target)))

  left_unit_is_zero : (x a : ℕ) → x < q.objects → target q a ≡ x → HasValueZero s q f (left_unit x a)
  left_unit_is_zero x a in_x e = record { at = λ u v in_u in_v typed. difference_is_zero u v in_u in_v (x ∷ a ∷ []) (a ∷ []) (left_unit_at u v in_u in_v x a in_x e) }

  right_unit_is_zero : (x a : ℕ) → x < q.objects → source q a ≡ x → HasValueZero s q f (right_unit x a)
  right_unit_is_zero x a in_x e = record { at = λ u v in_u in_v typed. difference_is_zero u v in_u in_v (a ∷ x ∷ []) (a ∷ []) (right_unit_at u v in_u in_v x a in_x e) }

  letter_units_are_zero : (starred : Bool) (x a : ℕ) → x < q.objects → AllByRecursion (HasValueZero s q f) (letter_units q starred x a)
  letter_units_are_zero starred x a in_x = outer (starred || leb a (star q a))
    where
      left : (b : Bool) → eqb (target q a) x ≡ b → AllByRecursion (HasValueZero s q f) (cond b (left_unit x a ∷ []) [])
      left true e = (left_unit_is_zero x a in_x (eqb-true (target q a) x e), tt)
      left false e = tt

      right : (b : Bool) → eqb (source q a) x ≡ b → AllByRecursion (HasValueZero s q f) (cond b (right_unit x a ∷ []) [])
      right true e = (right_unit_is_zero x a in_x (eqb-true (source q a) x e), tt)
      right false e = tt

      outer : (b : Bool) → AllByRecursion (HasValueZero s q f) (cond b ((cond (eqb (target q a) x) (left_unit x a ∷ []) []) ++ (cond (eqb (source q a) x) (right_unit x a ∷ []) [])) [])
      outer true = all-append (HasValueZero s q f) _ _ (left (eqb (target q a) x) refl) (right (eqb (source q a) x) refl)
      outer false = tt

  units_are_zero : (starred : Bool) (x : ℕ) → x < q.objects → AllByRecursion (HasValueZero s q f) (units q starred x)
  units_are_zero starred x in_x = (
    left_unit_is_zero x x in_x (quiver.identity_target x in_x),
    all-flat_map (HasValueZero s q f) (letter_units q starred x) (λ a. letter_units_are_zero starred x a in_x) (range_with_len q.objects (letters q - q.objects)),
  )

  pub marked_units_are_zero : (starred : Bool) (marked : List ℕ) → AllByRecursion (λ v. v < q.objects) marked → AllByRecursion (HasValueZero s q f) (flat_map (units q starred) marked)
  marked_units_are_zero starred [] h = tt
  marked_units_are_zero starred (x ∷ marked) h =
      all-append (HasValueZero s q f) (units q starred x) (flat_map (units q starred) marked) (units_are_zero starred x h.0) (marked_units_are_zero starred marked h.1)

pub unit_sound : {Object Arrow : Type 0} {s : Structure Object Arrow} → PreadditiveLaws s → IsUnitSound s
unit_sound {s} laws = record {
  generators = λ q marked assumptions quiver in_range f rep h.
      all-append (HasValueZero s q f) assumptions _ h (marked_units_are_zero laws q quiver f rep false marked in_range);
}
