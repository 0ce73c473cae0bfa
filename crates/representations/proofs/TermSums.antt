-- The value of a polynomial with one more term at its end.
use Rattle.representations.proofs.Prelude.{◌≡◌, ◌<◌, ℕ, ℤ, true, cond, List, [], ◌∷◌, ◌++◌, sym, ap, ap₂, subst, ◌∙◌, Structure, IsArrow, PreadditiveLaws, Quiver, is_path, Representation, Represents, multiple, word_value, value_at, times_in, linear_in, linear-append, multiple-times, word_value_is_arrow, word_at, word_at_is_arrow, value_at-linear, group_at}

module _ {Object Arrow : Type 0} {s : Structure Object Arrow} (laws : PreadditiveLaws s) (q : Quiver) (f : Representation Object Arrow) (rep : Represents s q f)
    (u v : ℕ) (in_u : u < q.objects) (in_v : v < q.objects) where
  pub value_is_arrow : (p : List (ℤ × List ℕ)) → IsArrow s (f.object u) (f.object v) (value_at s q f u v p)
  value_is_arrow p =
      subst (IsArrow s (f.object u) (f.object v)) (sym (value_at-linear laws q f rep u v in_u in_v p))
      (linear_in (group_at laws q f rep u v in_u in_v) (word_at laws q f rep u v) (word_at_is_arrow laws q f rep u v in_u in_v) p)

  multiple_is_arrow : (k : ℤ) (a : Arrow) → IsArrow s (f.object u) (f.object v) a → IsArrow s (f.object u) (f.object v) (multiple s k a)
  multiple_is_arrow k a p =
      subst (IsArrow s (f.object u) (f.object v)) (sym (multiple-times laws (f.object u) (f.object v) k a p)) (times_in (group_at laws q f rep u v in_u in_v) k a p)

  single : (t : ℤ × List ℕ) (none : Arrow) → is_path q u v t.1 ≡ true → value_at s q f u v (t ∷ []) ≡ multiple s t.0 (word_value s f none t.1)
  single t none path =
      let zero = s.zero (f.object u) (f.object v) in
      let a = word_value s f zero t.1 in
      ap (λ b. cond b (s.add (multiple s t.0 a) zero) zero) path
      ∙ laws.add_zero (f.object u) (f.object v) (multiple s t.0 a) (multiple_is_arrow t.0 a (word_value_is_arrow laws q f rep u v t.1 zero path))
      ∙ ap (multiple s t.0) (same t.1 path)
    where
      same : (w : List ℕ) → is_path q u v w ≡ true → word_value s f (s.zero (f.object u) (f.object v)) w ≡ word_value s f none w
      same [] e = absurd (cc)
      same (b ∷ w) e = λ i. word_value s f none (b ∷ w)

  pub value_at-push : (p : List (ℤ × List ℕ)) (t : ℤ × List ℕ) (none : Arrow) → is_path q u v t.1 ≡ true
      → value_at s q f u v (p ++ t ∷ []) ≡ s.add (value_at s q f u v p) (multiple s t.0 (word_value s f none t.1))
  value_at-push p t none path =
      let group = group_at laws q f rep u v in_u in_v in
      let at = word_at laws q f rep u v in
      value_at-linear laws q f rep u v in_u in_v (p ++ t ∷ [])
      ∙ linear-append group at (word_at_is_arrow laws q f rep u v in_u in_v) p (t ∷ [])
      ∙ ap₂ s.add (sym (value_at-linear laws q f rep u v in_u in_v p)) (sym (value_at-linear laws q f rep u v in_u in_v (t ∷ [])) ∙ single t none path)
