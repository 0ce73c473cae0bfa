-- The value of the adjoint of a polynomial is the adjoint of its value, in a star representation.
use Rattle.statement_meaning.proofs.Prelude.{◌≡◌, ℕ, ◌<◌, ◌≤◌, List, [], ◌∷◌, ◌++◌, ◌⊎◌, inl, inr, true, sym, ap, ap₂, ◌∙◌, arith, cases_lt, All-head, All-tail, Structure, IsArrow, PreadditiveLaws, InvolutionLaws, Poly, Quiver, IsQuiver, letters, source, star, leads, is_path, Representation, Represents, StarRepresents, path_value, value_at, adjoint_word, adjoint_poly, IsGroup, times_in, additive-none, additive-times, step, leads-star, is_path-adjoint_word, group_at, path_value_is_arrow, letter_is_arrow, word_value_is_arrow, path_value-append}
use Rattle.statement_meaning.proofs.Polynomials.{ArePaths, word_between, times_at, value_in, value-term}

module _ {Object Arrow : Type 0} {s : Structure Object Arrow} (laws : PreadditiveLaws s) {adjoint : Arrow → Arrow} (involution : InvolutionLaws s adjoint) (q : Quiver) (quiver : IsQuiver q)
    (f : Representation Object Arrow) (rep : StarRepresents s adjoint q f) where
  abbrev plain : Represents s q f
  plain = rep.represents

  -- the adjoint of a letter stands for the adjoint of its arrow
  star_arrow : (a : ℕ) → a < letters q → f.arrow (star q a) ≡ adjoint (f.arrow a)
  star_arrow a h = go (cases_lt a q.objects) (cases_lt (star q a) a)
    where
      go : (a < q.objects) ⊎ (q.objects ≤ a) → (star q a < a) ⊎ (a ≤ star q a) → f.arrow (star q a) ≡ adjoint (f.arrow a)
      go (inl identity) k =
          ap f.arrow (quiver.identity_star a identity) ∙ plain.identities a identity ∙ sym (involution.star_identity (f.object a) (plain.objects a identity)) ∙ ap adjoint (sym (plain.identities a identity))
      go (inr map) (inr declared) = rep.adjoints a h map declared
      go (inr map) (inl below) = back (cases_lt (star q a) q.objects)
        where
          letter : star q a < letters q
          letter = quiver.star_is_letter a h

          back : (star q a < q.objects) ⊎ (q.objects ≤ star q a) → f.arrow (star q a) ≡ adjoint (f.arrow a)
          back (inl small) = absurd (omega (arith, quiver.identity_star (star q a) small, quiver.star_star a h))
          back (inr large) =
              let declared : star q a ≤ star q (star q a) = omega (arith, quiver.star_star a h) in
              let other : f.arrow a ≡ adjoint (f.arrow (star q a)) = ap f.arrow (sym (quiver.star_star a h)) ∙ rep.adjoints (star q a) letter large declared in
              sym (ap adjoint other ∙ involution.star_star (f.arrow (star q a)) (plain.arrows (star q a) letter).arrow)

  word-push : (u k m b : ℕ) (w : List ℕ) (none : Arrow) → is_path q k m w ≡ true → leads q u k (b ∷ []) ≡ true → word_between laws q f plain u m (w ++ (b ∷ [])) ≡ s.compose (word_between laws q f plain k m w) (f.arrow b)
  word-push u k m b [] none e h = absurd (cc)
  word-push u k m b (a ∷ w) none e h = path_value-append laws q f plain u k m a b w [] e h

  word-adjoint : (u v : ℕ) (w : List ℕ) → is_path q u v w ≡ true → word_between laws q f plain v u (adjoint_word q w) ≡ adjoint (word_between laws q f plain u v w)
  word-adjoint u v [] e = absurd (cc)
  word-adjoint u v (a ∷ []) e = star_arrow a (step q u v a [] e).letter
  word-adjoint u v (a ∷ b ∷ w) e =
      let first = step q u v a (b ∷ w) e in
      let k = source q a in
      word-push v k u (star q a) (adjoint_word q (b ∷ w)) (f.arrow a) (is_path-adjoint_word q quiver u k (b ∷ w) first.rest) (leads-star q quiver v a first.letter first.target)
      ∙ ap₂ s.compose (word-adjoint u k (b ∷ w) first.rest) (star_arrow a first.letter)
      ∙ sym (involution.star_compose (f.object u) (f.object k) (f.object v) (f.arrow a) (path_value s f b w) (letter_is_arrow laws q f plain v a first.letter first.target) (path_value_is_arrow laws q f plain u k b w first.rest))

  module _ (u v : ℕ) (in_u : u < q.objects) (in_v : v < q.objects) where
    abbrev there : IsGroup (IsArrow s (f.object u) (f.object v)) (s.zero (f.object u) (f.object v)) s.add s.negate
    there = group_at laws q f plain u v in_u in_v

    abbrev back : IsGroup (IsArrow s (f.object v) (f.object u)) (s.zero (f.object v) (f.object u)) s.add s.negate
    back = group_at laws q f plain v u in_v in_u

    adjoint_in : (a : Arrow) → IsArrow s (f.object u) (f.object v) a → IsArrow s (f.object v) (f.object u) (adjoint a)
    adjoint_in = involution.star_is_arrow (f.object u) (f.object v)

    pub value-adjoint : (p : Poly) → ArePaths q u v p → value_at s q f v u (adjoint_poly q p) ≡ adjoint (value_at s q f u v p)
    value-adjoint [] h = sym (additive-none there back adjoint adjoint_in (involution.star_add (f.object u) (f.object v)))
    value-adjoint (t ∷ p) h =
        let x = word_between laws q f plain u v t.1 in
        let path = All-head (λ r. is_path q u v r.1 ≡ true) t p h in
        let x_in = word_value_is_arrow laws q f plain u v t.1 (s.zero (f.object u) (f.object v)) path in
        let add = involution.star_add (f.object u) (f.object v) in
        value-term laws q f plain v u in_v in_u (t.0, adjoint_word q t.1) (adjoint_poly q p) (is_path-adjoint_word q quiver u v t.1 path)
        ∙ ap₂ s.add (ap (times_at laws q f plain v u t.0) (word-adjoint u v t.1 path) ∙ sym (additive-times there back adjoint adjoint_in add t.0 x x_in)) (value-adjoint p (All-tail (λ r. is_path q u v r.1 ≡ true) t p h))
        ∙ sym (add (times_at laws q f plain u v t.0 x) (value_at s q f u v p) (times_in there t.0 x x_in) (value_in laws q f plain u v in_u in_v p))
        ∙ ap adjoint (sym (value-term laws q f plain u v in_u in_v t p path))
