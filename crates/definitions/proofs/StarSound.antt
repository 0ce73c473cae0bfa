-- In each star representation the assumptions make all generators zero.
use Rattle.definitions.proofs.Prelude.{◌≡◌, ℕ, ◌<◌, ◌≤◌, ℤ, negsuc, Bool, true, false, cond, ◌||◌, List, [], ◌∷◌, ◌++◌, ◌⊎◌, inl, inr, sym, refl, ap, ap₂, ◌∙◌, arith, true≢false, cases_lt, false_from_ne_true, AllByRecursion, flat_map, Structure, IsArrow, PreadditiveLaws, InvolutionLaws, poly_eq, poly_multiple, Quiver, IsQuiver, letters, source, star, leads, is_path, Representation, Represents, StarRepresents, path_value, word_value, value_at, adjoint_word, adjoint_poly, new_adjoint, units, generators_of, HasValueZero, IsStarSound}
use Rattle.definitions.proofs.Multiples.{additive-none}
use Rattle.definitions.proofs.Linear.{linear, additive-linear}
use Rattle.definitions.proofs.Paths.{step}
use Rattle.definitions.proofs.Values.{word_at, word_at_is_arrow, group_at, value_at-linear, path_value_is_arrow, letter_is_arrow}
use Rattle.definitions.proofs.Rows.{path_value-append}
pub use Rattle.definitions.proofs.UnitSound.{all-append, all-flat_map}
use Rattle.definitions.proofs.UnitSound.{marked_units_are_zero}
use Rattle.definitions.proofs.Adjoints.{leads-star, is_path-adjoint_word, is_path-from_adjoint_word, typed-from_adjoint_poly, linear-adjoint_poly}

module _ {Object Arrow : Type 0} {s : Structure Object Arrow} (laws : PreadditiveLaws s) {adjoint : Arrow → Arrow} (involution : InvolutionLaws s adjoint) (q : Quiver) (quiver : IsQuiver q) (f : Representation Object Arrow) (rep : StarRepresents s adjoint q f) where
  abbrev plain : Represents s q f
  plain = rep.represents

  -- the adjoint of a letter goes to the adjoint of its arrow
  star_arrow : (a : ℕ) → a < letters q → f.arrow (star q a) ≡ adjoint (f.arrow a)
  star_arrow a h = go (cases_lt a q.objects) (cases_lt (star q a) a)
    where
      go : (a < q.objects) ⊎ (q.objects ≤ a) → (star q a < a) ⊎ (a ≤ star q a) → f.arrow (star q a) ≡ adjoint (f.arrow a)
      go (inl identity) k =
          ap f.arrow (quiver.identity_star a identity)
          ∙ plain.identities a identity
          ∙ sym (involution.star_identity (f.object a) (plain.objects a identity))
          ∙ ap adjoint (sym (plain.identities a identity))
      go (inr map) (inr declared) = rep.adjoints a h map declared
      go (inr map) (inl below) = back (cases_lt (star q a) q.objects)
        where
          b : ℕ
          b = star q a

          is : star q (star q a) ≡ a
          is = quiver.star_star a h

          arrow_b : s.is_arrow (f.arrow (star q a))
          arrow_b = (plain.arrows (star q a) (quiver.star_is_letter a h)).arrow

          back : (star q a < q.objects) ⊎ (q.objects ≤ star q a) → f.arrow (star q a) ≡ adjoint (f.arrow a)
          back (inl small) = absurd (omega (arith, quiver.identity_star (star q a) small, is))
          back (inr large) =
              let declared : star q a ≤ star q (star q a) = omega (arith, is) in
              let other : f.arrow a ≡ adjoint (f.arrow (star q a)) = ap f.arrow (sym is) ∙ rep.adjoints (star q a) (quiver.star_is_letter a h) large declared in
              sym (ap adjoint other ∙ involution.star_star (f.arrow (star q a)) arrow_b)

  word_value-push : (u k m b : ℕ) (w : List ℕ) (none none' : Arrow) → is_path q k m w ≡ true → leads q u k (b ∷ []) ≡ true → word_value s f none (w ++ (b ∷ [])) ≡ s.compose (word_value s f none' w) (f.arrow b)
  word_value-push u k m b [] none none' e h = absurd (cc)
  word_value-push u k m b (a ∷ w) none none' e h = path_value-append laws q f plain u k m a b w [] e h

  word_value-adjoint_word : (u v : ℕ) (w : List ℕ) (none none' : Arrow) → is_path q u v w ≡ true → word_value s f none (adjoint_word q w) ≡ adjoint (word_value s f none' w)
  word_value-adjoint_word u v [] none none' e = absurd (cc)
  word_value-adjoint_word u v (a ∷ []) none none' e = star_arrow a (step q u v a [] e).letter
  word_value-adjoint_word u v (a ∷ b ∷ w) none none' e =
      let first = step q u v a (b ∷ w) e in
      let k = source q a in
      word_value-push v k u (star q a) (adjoint_word q (b ∷ w)) none none (is_path-adjoint_word q quiver u k (b ∷ w) first.rest)
      (leads-star q quiver v a first.letter first.target)
      ∙ ap₂ s.compose (word_value-adjoint_word u k (b ∷ w) none none' first.rest) (star_arrow a first.letter)
      ∙ sym (involution.star_compose (f.object u) (f.object k) (f.object v) (f.arrow a) (path_value s f b w)
      (letter_is_arrow laws q f plain v a first.letter first.target) (path_value_is_arrow laws q f plain u k b w first.rest))

  -- the value of an adjoint word is the adjoint of the word's value
  module _ (u v : ℕ) (in_u : u < q.objects) (in_v : v < q.objects) where
    adjoint_in : (a : Arrow) → IsArrow s (f.object u) (f.object v) a → IsArrow s (f.object v) (f.object u) (adjoint a)
    adjoint_in = involution.star_is_arrow (f.object u) (f.object v)

    adjoint_zero : adjoint (s.zero (f.object u) (f.object v)) ≡ s.zero (f.object v) (f.object u)
    adjoint_zero =
        additive-none (group_at laws q f plain u v in_u in_v) (group_at laws q f plain v u in_v in_u) adjoint adjoint_in (involution.star_add (f.object u) (f.object v))

    word_at-adjoint_word : (w : List ℕ) → word_at laws q f plain v u (adjoint_word q w) ≡ adjoint (word_at laws q f plain u v w)
    word_at-adjoint_word w = go (is_path q u v w) refl
      where
        go : (b : Bool) → is_path q u v w ≡ b → word_at laws q f plain v u (adjoint_word q w) ≡ adjoint (word_at laws q f plain u v w)
        go true e =
            let none = s.zero (f.object u) (f.object v) in
            let none' = s.zero (f.object v) (f.object u) in
            ap (λ c. cond c (word_value s f none' (adjoint_word q w)) none') (is_path-adjoint_word q quiver u v w e)
            ∙ word_value-adjoint_word u v w none' none e
            ∙ ap (λ c. adjoint (cond c (word_value s f none w) none)) (sym e)
        go false e =
            let none = s.zero (f.object u) (f.object v) in
            let none' = s.zero (f.object v) (f.object u) in
            let other : is_path q v u (adjoint_word q w) ≡ false = false_from_ne_true _ (λ h. true≢false (sym (is_path-from_adjoint_word q quiver u v w h) ∙ e)) in
            ap (λ c. cond c (word_value s f none' (adjoint_word q w)) none') other
            ∙ sym adjoint_zero
            ∙ ap (λ c. adjoint (cond c (word_value s f none w) none)) (sym e)

    value_at-adjoint_poly : (p : List (ℤ × List ℕ)) → value_at s q f v u (adjoint_poly q p) ≡ adjoint (value_at s q f u v p)
    value_at-adjoint_poly p =
        let φ = word_at laws q f plain u v in
        value_at-linear laws q f plain v u in_v in_u (adjoint_poly q p)
        ∙ linear-adjoint_poly (s.zero (f.object v) (f.object u)) s.add s.negate (word_at laws q f plain v u) q p
        ∙ ap (λ g. linear (s.zero (f.object v) (f.object u)) s.add s.negate g p) (λ i w. word_at-adjoint_word w i)
        ∙ sym (additive-linear (group_at laws q f plain u v in_u in_v) (group_at laws q f plain v u in_v in_u) adjoint adjoint_in (involution.star_add (f.object u) (f.object v))
        φ (word_at_is_arrow laws q f plain u v in_u in_v) p)
        ∙ ap adjoint (sym (value_at-linear laws q f plain u v in_u in_v p))

  adjoint_poly_is_zero : (p : List (ℤ × List ℕ)) → HasValueZero s q f p → HasValueZero s q f (adjoint_poly q p)
  adjoint_poly_is_zero p vanish = record {
    at = λ x y in_x in_y typed.
        value_at-adjoint_poly y x in_y in_x p
        ∙ ap adjoint (vanish.at y x in_y in_x (typed-from_adjoint_poly q quiver y x p typed))
        ∙ adjoint_zero y x in_y in_x;
  }

  new_adjoint_is_zero : (p : List (ℤ × List ℕ)) → HasValueZero s q f p → AllByRecursion (HasValueZero s q f) (new_adjoint q p)
  new_adjoint_is_zero p vanish = go (poly_eq (adjoint_poly q p) p || poly_eq (adjoint_poly q p) (poly_multiple (negsuc 0) p))
    where
      go : (b : Bool) → AllByRecursion (HasValueZero s q f) (cond b [] (adjoint_poly q p ∷ []))
      go true = tt
      go false = (adjoint_poly_is_zero p vanish, tt)

  new_adjoints_are_zero : (ps : List (List (ℤ × List ℕ))) → AllByRecursion (HasValueZero s q f) ps → AllByRecursion (HasValueZero s q f) (flat_map (new_adjoint q) ps)
  new_adjoints_are_zero [] h = tt
  new_adjoints_are_zero (p ∷ ps) h = all-append (HasValueZero s q f) (new_adjoint q p) (flat_map (new_adjoint q) ps) (new_adjoint_is_zero p h.0) (new_adjoints_are_zero ps h.1)

  pub generators_are_zero : (starred : Bool) (marked : List ℕ) (assumptions : List (List (ℤ × List ℕ))) → AllByRecursion (λ v. v < q.objects) marked
      → AllByRecursion (HasValueZero s q f) assumptions → AllByRecursion (HasValueZero s q f) (generators_of q starred marked assumptions)
  generators_are_zero starred marked assumptions in_range h =
      all-append (HasValueZero s q f) assumptions _ h (all-append (HasValueZero s q f) _ (flat_map (units q starred) marked) (adjoints starred) (marked_units_are_zero laws q quiver f plain starred marked in_range))
    where
      adjoints : (b : Bool) → AllByRecursion (HasValueZero s q f) (cond b (flat_map (new_adjoint q) assumptions) [])
      adjoints true = new_adjoints_are_zero assumptions h
      adjoints false = tt

pub star_sound : {Object Arrow : Type 0} {s : Structure Object Arrow} {adjoint : Arrow → Arrow} → PreadditiveLaws s → InvolutionLaws s adjoint → IsStarSound s adjoint
star_sound laws involution = record {
  generators = λ q starred marked assumptions quiver in_range f rep h. generators_are_zero laws involution q quiver f rep starred marked assumptions in_range h;
}
