-- the first overflow of some operations, one operation on
use Rattle.cofactor_checker.proofs.Prelude.{◌≡◌, ◌^◌, ℕ, ◌+◌, ◌<◌, ◌≤◌, ℤ, ◌*ℤ◌, All, List, [], ◌∷◌, length, drop, get_or, Bool, true, false, cond, Option, Some, None, refl, sym, ap, ◌∙◌, arith, unsigned_abs, nat_tests, at_drop_more, at_drop_all, All-nil, All-cons, Overflow, IsCoefficient, is_coefficient, product_of, exact_value, first_overflow, Stop, products, IsStoppedBy}
use borrow.Author.Tests.{ltb-true}
use Rattle.lists.specs.declared.stop.Stop.TheVariants as stop

-- an operation that fits is passed over
pub first-fits : (o : Overflow) (os : List Overflow) → IsCoefficient (exact_value o) → first_overflow (o ∷ os) ≡ first_overflow os
first-fits o os fits = grind (arith, nat_tests)

-- one that does not is the first
pub first-fails : (o : Overflow) (os : List Overflow) → ¬ IsCoefficient (exact_value o) → first_overflow (o ∷ os) ≡ Some o
first-fails o os fails = grind (arith, nat_tests)

-- what stops one operation stops it before others
pub stopped_before : (o : Overflow) (os : List Overflow) (e : Stop Overflow) → IsStoppedBy (first_overflow (o ∷ [])) e → IsStoppedBy (first_overflow (o ∷ os)) e
stopped_before o os (stop.Fault e) stopped = go (is_coefficient (exact_value o)) stopped
  where
    go : (b : Bool) → cond b None (Some o) ≡ Some e → cond b (first_overflow os) (Some o) ≡ Some e
    go true none = absurd (cc)
    go false same = same
stopped_before o os (stop.Memory e) stopped = tt

-- where no product of a multiple overflows, all are coefficients
pub products_fit : (d : ℤ) (p : List (ℤ × List ℕ)) → first_overflow (products d p) ≡ None → All (λ t. IsCoefficient (d *ℤ t.0)) p
products_fit d [] none = All-nil _
products_fit d (t ∷ p) none =
    let parts = one (is_coefficient (d *ℤ t.0)) (product_of d t.0) (first_overflow (products d p)) none in
    All-cons (λ (u : ℤ × List ℕ). IsCoefficient (d *ℤ u.0)) t p (ltb-true (unsigned_abs (d *ℤ t.0)) (2 ^ 127) parts.0) (products_fit d p parts.1)
  where
    one : (b : Bool) (o : Overflow) (later : Option Overflow) → cond b later (Some o) ≡ None → (b ≡ true) × (later ≡ None)
    one true o later none = (refl, none)
    one false o later none = (cc)

-- The products before the place i of a polynomial fit.
module _ (d : ℤ) (p : List (ℤ × List ℕ)) (i : ℕ) (so_far : first_overflow (products d (drop i p)) ≡ first_overflow (products d p)) where
  -- none is left
  pub all_fit : length p ≤ i → first_overflow (products d p) ≡ None
  all_fit all = sym so_far ∙ at_drop_all (λ x. first_overflow (products d x)) p i all

  -- the term is next
  module _ (t : ℤ × List ℕ) (below : i < length p) (is : t ≡ get_or p i t) where
    from_term : first_overflow (products d p) ≡ first_overflow (product_of d t.0 ∷ products d (drop (i + 1) p))
    from_term =
        sym so_far ∙ at_drop_more (λ x. first_overflow (products d x)) p i t below
        ∙ sym (ap (λ x. first_overflow (products d (x ∷ drop (i + 1) p))) is)

    pub term_fits : IsCoefficient (d *ℤ t.0) → first_overflow (products d (drop (i + 1) p)) ≡ first_overflow (products d p)
    term_fits fits = sym (from_term ∙ first-fits (product_of d t.0) (products d (drop (i + 1) p)) fits)

    pub term_fails : ¬ IsCoefficient (d *ℤ t.0) → first_overflow (products d p) ≡ Some (product_of d t.0)
    term_fails fails = from_term ∙ first-fails (product_of d t.0) (products d (drop (i + 1) p)) fails
