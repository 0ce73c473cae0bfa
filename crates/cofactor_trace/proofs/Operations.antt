-- Operations one after another, and the first of them that overflows.
use Rattle.cofactor_trace.proofs.Prelude.{◌≡◌, ◌↔◌, ℕ, ◌+◌, ◌<◌, ◌≤◌, ℤ, ◌*ℤ◌, Result, Ok, Err, IfOk, IfErr, IsOk, MatchResult, List, [], ◌∷◌, ◌++◌, map, length, drop, get_or, Some, None, refl, sym, subst, ap, ◌∙◌, drop_all, Overflow, IsCoefficient, exact_value, product_of, first_overflow, drop_next, or_first, first-append, first-fits, first-fails}

pub first-behind : (os more : List Overflow) → first_overflow os ≡ None → first_overflow (os ++ more) ≡ first_overflow more
first-behind os more none = first-append os more ∙ ap (λ f. or_first f (first_overflow more)) none

pub first-before : (os more : List Overflow) (o : Overflow) → first_overflow os ≡ Some o → first_overflow (os ++ more) ≡ Some o
first-before os more o some = first-append os more ∙ ap (λ f. or_first f (first_overflow more)) some

-- a product that is checked
pub checked_product : (r : Result ℤ Overflow) (x y : ℤ) → IfOk r (λ z. z ≡ x *ℤ y) → IsOk r ↔ IsCoefficient (x *ℤ y) → IfErr r (λ o. o ≡ product_of x y)
    → MatchResult r (λ z. (first_overflow (product_of x y ∷ []) ≡ None) × (z ≡ x *ℤ y)) (λ o. first_overflow (product_of x y ∷ []) ≡ Some o)
checked_product (Ok z) x y exact fits operands = (first-fits (product_of x y) [] (fits.0 refl), exact)
checked_product (Err o) x y exact fits operands = first-fails (product_of x y) [] (λ inside. let ok = fits.1 inside in absurd (cc)) ∙ ap Some (sym operands)

pub checked_product-in_range : (r : Result ℤ Overflow) (x y : ℤ) → IfOk r (λ z. z ≡ x *ℤ y) → IsOk r ↔ IsCoefficient (x *ℤ y) → IfOk r IsCoefficient
checked_product-in_range (Ok z) x y exact fits = subst IsCoefficient (sym exact) (fits.0 refl)
checked_product-in_range (Err o) x y exact fits = tt

-- one operation for each item of a list
module _ {X : Type 0} (f : X → Overflow) (xs : List X) (i : ℕ) (kept : first_overflow (map f (drop i xs)) ≡ first_overflow (map f xs)) where
  module _ (x : X) (inside : i < length xs) (item : x ≡ get_or xs i x) where
    pub first_next : IsCoefficient (exact_value (f x)) → first_overflow (map f (drop (i + 1) xs)) ≡ first_overflow (map f xs)
    first_next fits = sym (first-fits (f x) (map f (drop (i + 1) xs)) fits) ∙ ap (λ l. first_overflow (map f l)) (sym (drop_next xs i x inside item)) ∙ kept

    pub first_stops : ¬ IsCoefficient (exact_value (f x)) → first_overflow (map f xs) ≡ Some (f x)
    first_stops fails = sym kept ∙ ap (λ l. first_overflow (map f l)) (drop_next xs i x inside item) ∙ first-fails (f x) (map f (drop (i + 1) xs)) fails

  pub first_none : length xs ≤ i → first_overflow (map f xs) ≡ None
  first_none past = sym kept ∙ ap (λ l. first_overflow (map f l)) (drop_all i xs past)
