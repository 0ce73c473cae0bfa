-- A certificate proves its claim in each preadditive category.
use Rattle.definitions.proofs.Prelude.{◌≡◌, ℕ, zero, suc, ◌<◌, ℤ, List, [], ◌∷◌, get_or, sym, refl, ap, ap₂, ◌∙◌, AllByRecursion, Structure, IsArrow, PreadditiveLaws, poly_multiple, poly_between, Quiver, Representation, Represents, Cancels, value_at, multiple, Row, generator_at, row_poly, row_sum, IsCombination, HasSignature, HasValueZero, IsSound}
use Rattle.definitions.proofs.Group.{IsGroup}
use Rattle.definitions.proofs.Multiples.{times, times-none}
use Rattle.definitions.proofs.Linear.{linear, linear_in, linear-append, linear-scale, linear_same}
use Rattle.definitions.proofs.Values.{multiple-times, word_at, word_at_is_arrow, group_at, value_at-linear}
use Rattle.definitions.proofs.Rows.{between_is_zero}

module _ {Object Arrow : Type 0} {s : Structure Object Arrow} (laws : PreadditiveLaws s) (q : Quiver) (f : Representation Object Arrow) (rep : Represents s q f) (u v : ℕ) (in_u : u < q.objects) (in_v : v < q.objects) where
  -- the sum of p at the signature (u, v)
  abbrev sum_at : List (ℤ × List ℕ) → Arrow
  sum_at p = linear (s.zero (f.object u) (f.object v)) s.add s.negate (word_at laws q f rep u v) p

  abbrev group : IsGroup (IsArrow s (f.object u) (f.object v)) (s.zero (f.object u) (f.object v)) s.add s.negate
  group = group_at laws q f rep u v in_u in_v

  word_in : (w : List ℕ) → IsArrow s (f.object u) (f.object v) (word_at laws q f rep u v w)
  word_in = word_at_is_arrow laws q f rep u v in_u in_v

  generator_is_zero : (generators : List (List (ℤ × List ℕ))) (n : ℕ) (l r : List ℕ) → AllByRecursion (HasSignature q) generators → AllByRecursion (HasValueZero s q f) generators
      → sum_at (poly_between l (get_or generators n []) r) ≡ s.zero (f.object u) (f.object v)
  generator_is_zero [] n l r typed vanish = refl
  generator_is_zero (g ∷ generators) zero l r typed vanish =
      let h = typed.0 in
      between_is_zero laws q f rep u v h.source h.target in_u in_v h.source_is_object h.target_is_object l r g h.typed
      (vanish.0.at h.source h.target h.source_is_object h.target_is_object h.typed)
  generator_is_zero (g ∷ generators) (suc n) l r typed vanish = generator_is_zero generators n l r typed.1 vanish.1

  numbered_is_zero : (generators : List (List (ℤ × List ℕ))) (n : ℕ) (l r : List ℕ) → AllByRecursion (HasSignature q) generators → AllByRecursion (HasValueZero s q f) generators
      → sum_at (poly_between l (generator_at generators n) r) ≡ s.zero (f.object u) (f.object v)
  numbered_is_zero generators zero l r typed vanish = refl
  numbered_is_zero generators (suc n) l r typed vanish = generator_is_zero generators n l r typed vanish

  rows_are_zero : (generators : List (List (ℤ × List ℕ))) (rows : List Row) → AllByRecursion (HasSignature q) generators → AllByRecursion (HasValueZero s q f) generators
      → sum_at (row_sum generators rows) ≡ s.zero (f.object u) (f.object v)
  rows_are_zero generators [] typed vanish = refl
  rows_are_zero generators (r ∷ rows) typed vanish =
      let p = poly_between r.left (generator_at generators r.generator) r.right in
      linear-append group (word_at laws q f rep u v) word_in (row_poly generators r) (row_sum generators rows)
      ∙ ap₂ s.add
      (linear-scale group (word_at laws q f rep u v) word_in r.coefficient p
      ∙ ap (times (s.zero (f.object u) (f.object v)) s.add s.negate r.coefficient) (numbered_is_zero generators r.generator r.left r.right typed vanish)
      ∙ times-none group r.coefficient)
      (rows_are_zero generators rows typed vanish)
      ∙ group.add_zero (s.zero (f.object u) (f.object v)) group.zero_in

  pub claim_is_zero : (generators : List (List (ℤ × List ℕ))) (rows : List Row) (d : ℤ) (claim : List (ℤ × List ℕ))
      → AllByRecursion (HasSignature q) generators → IsCombination generators rows d claim → Cancels s d → AllByRecursion (HasValueZero s q f) generators
      → value_at s q f u v claim ≡ s.zero (f.object u) (f.object v)
  claim_is_zero generators rows d claim typed combination cancels vanish =
      let none = s.zero (f.object u) (f.object v) in
      let x = sum_at claim in
      let p : IsArrow s (f.object u) (f.object v) x = linear_in group (word_at laws q f rep u v) word_in claim in
      let ends : none ≡ s.zero (s.source x) (s.target x) = ap₂ s.zero (sym p.source) (sym p.target) in
      let multiplied : multiple s d x ≡ none =
      multiple-times laws (f.object u) (f.object v) d x p
      ∙ sym (linear-scale group (word_at laws q f rep u v) word_in d claim)
      ∙ sym (linear_same group (word_at laws q f rep u v) word_in (row_sum generators rows) (poly_multiple d claim) combination.sum)
      ∙ rows_are_zero generators rows typed vanish in
      value_at-linear laws q f rep u v in_u in_v claim ∙ cancels.at x p.arrow (multiplied ∙ ends) ∙ sym ends

pub sound : {Object Arrow : Type 0} {s : Structure Object Arrow} → PreadditiveLaws s → IsSound s
sound laws = record {
  certificate = λ q generators rows d claim quiver typed combination. record {
    zero = λ f rep cancels vanish. record { at = λ u v in_u in_v claim_typed. claim_is_zero laws q f rep u v in_u in_v generators rows d claim typed combination cancels vanish };
  };
}
