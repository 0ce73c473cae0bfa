-- Values of words and polynomials as sums in the group of the arrows between two objects.
use Rattle.std.proofs.Common.{◌≡◌, ℕ, zero, suc, ◌<◌, ℤ, pos, negsuc, Bool, true, false, cond, List, [], ◌∷◌, sym, refl, ap, ap₂, subst, ◌∙◌, eqb-true}
use Rattle.definitions.specs.Category.{Structure, IsArrow, PreadditiveLaws}
use Rattle.definitions.specs.Quiver.{Quiver, letters, source, target, leads, is_path}
use Rattle.definitions.specs.Representation.{Representation, Represents, natural_multiple, multiple, path_value, word_value, value_at}
use Rattle.definitions.proofs.Group.{IsGroup, zero_add}
use Rattle.definitions.proofs.Multiples.{natural_times, times, times-none}
use Rattle.definitions.proofs.Linear.{linear, linear_in}
use Rattle.definitions.proofs.Paths.{step}

module _ {Object Arrow : Type 0} {s : Structure Object Arrow} (laws : PreadditiveLaws s) where
  pub hom_group : (x y : Object) → s.is_object x → s.is_object y → IsGroup (IsArrow s x y) (s.zero x y) s.add s.negate
  hom_group x y p q = record {
    zero_in = laws.zero_is_arrow x y p q;
    add_in = laws.add_is_arrow x y;
    negate_in = laws.negate_is_arrow x y;
    assoc = laws.add_assoc x y;
    comm = laws.add_comm x y;
    add_zero = laws.add_zero x y;
    add_negate = laws.add_negate x y;
  }

  natural_multiple-times : (x y : Object) (n : ℕ) (a : Arrow) → IsArrow s x y a → natural_multiple s n a ≡ natural_times (s.zero x y) s.add n a
  natural_multiple-times x y zero a p = ap₂ s.zero p.source p.target
  natural_multiple-times x y (suc n) a p = ap (s.add a) (natural_multiple-times x y n a p)

  pub multiple-times : (x y : Object) (k : ℤ) (a : Arrow) → IsArrow s x y a → multiple s k a ≡ times (s.zero x y) s.add s.negate k a
  multiple-times x y (pos n) a p = natural_multiple-times x y n a p
  multiple-times x y (negsuc n) a p = ap s.negate (natural_multiple-times x y (suc n) a p)

  module _ (q : Quiver) (f : Representation Object Arrow) (rep : Represents s q f) where
    pub letter_is_arrow : (v a : ℕ) → a < letters q → target q a ≡ v → IsArrow s (f.object (source q a)) (f.object v) (f.arrow a)
    letter_is_arrow v a l e = subst (λ x. IsArrow s (f.object (source q a)) (f.object x) (f.arrow a)) e (rep.arrows a l)

    pub path_value_is_arrow : (u v a : ℕ) (w : List ℕ) → leads q u v (a ∷ w) ≡ true → IsArrow s (f.object u) (f.object v) (path_value s f a w)
    path_value_is_arrow u v a [] e =
        let first = step q u v a [] e in
        subst (λ x. IsArrow s (f.object x) (f.object v) (f.arrow a)) (sym (eqb-true u (source q a) first.rest)) (letter_is_arrow v a first.letter first.target)
    path_value_is_arrow u v a (b ∷ w) e =
        let first = step q u v a (b ∷ w) e in
        laws.compose_is_arrow (f.object u) (f.object (source q a)) (f.object v) (f.arrow a) (path_value s f b w)
        (letter_is_arrow v a first.letter first.target) (path_value_is_arrow u (source q a) b w first.rest)

    -- the value of a word at the signature (u, v)
    abbrev pub word_at : ℕ → ℕ → List ℕ → Arrow
    word_at u v w = cond (is_path q u v w) (word_value s f (s.zero (f.object u) (f.object v)) w) (s.zero (f.object u) (f.object v))

    pub word_value_is_arrow : (u v : ℕ) (w : List ℕ) (none : Arrow) → is_path q u v w ≡ true → IsArrow s (f.object u) (f.object v) (word_value s f none w)
    word_value_is_arrow u v [] none e = absurd (cc)
    word_value_is_arrow u v (a ∷ w) none e = path_value_is_arrow u v a w e

    module _ (u v : ℕ) (in_u : u < q.objects) (in_v : v < q.objects) where
      abbrev pub group_at : IsGroup (IsArrow s (f.object u) (f.object v)) (s.zero (f.object u) (f.object v)) s.add s.negate
      group_at = hom_group (f.object u) (f.object v) (rep.objects u in_u) (rep.objects v in_v)

      pub word_at_is_arrow : (w : List ℕ) → IsArrow s (f.object u) (f.object v) (word_at u v w)
      word_at_is_arrow w = go (is_path q u v w) refl
        where
          go : (b : Bool) → is_path q u v w ≡ b → IsArrow s (f.object u) (f.object v) (cond b (word_value s f (s.zero (f.object u) (f.object v)) w) (s.zero (f.object u) (f.object v)))
          go true e = word_value_is_arrow u v w (s.zero (f.object u) (f.object v)) e
          go false e = group_at.zero_in

      pub value_at-linear : (p : List (ℤ × List ℕ)) → value_at s q f u v p ≡ linear (s.zero (f.object u) (f.object v)) s.add s.negate (word_at u v) p
      value_at-linear [] = refl
      value_at-linear (t ∷ p) = go (is_path q u v t.1) refl (value_at-linear p)
        where
          none : Arrow
          none = s.zero (f.object u) (f.object v)

          go : (b : Bool) → is_path q u v t.1 ≡ b → value_at s q f u v p ≡ linear (s.zero (f.object u) (f.object v)) s.add s.negate (word_at u v) p
              → cond b (s.add (multiple s t.0 (word_value s f (s.zero (f.object u) (f.object v)) t.1)) (value_at s q f u v p)) (value_at s q f u v p)
              ≡ s.add (times (s.zero (f.object u) (f.object v)) s.add s.negate t.0 (cond b (word_value s f (s.zero (f.object u) (f.object v)) t.1) (s.zero (f.object u) (f.object v)))) (linear (s.zero (f.object u) (f.object v)) s.add s.negate (word_at u v) p)
          go true e h =
              let w = word_value s f (s.zero (f.object u) (f.object v)) t.1 in
              ap₂ s.add (multiple-times (f.object u) (f.object v) t.0 w (word_value_is_arrow u v t.1 (s.zero (f.object u) (f.object v)) e)) h
          go false e h =
              let rest = linear (s.zero (f.object u) (f.object v)) s.add s.negate (word_at u v) p in
              h ∙ sym (ap (λ x. s.add x rest) (times-none group_at t.0) ∙ zero_add group_at rest (linear_in group_at (word_at u v) word_at_is_arrow p))
