-- What is listed: operations of which one overflows, values of a function, and the coefficients of terms.
use Rattle.outcome_laws.proofs.Prelude.{◌≡◌, ◌⊎◌, inl, inr, ℕ, ℤ, Bool, true, false, cond, List, [], ◌∷◌, map, Option, Some, refl, sym, ◌∙◌, subst, arith, Contains, nat_tests, All-map, All-contains, Greater, contains-none, contains-cases, contains-rest, contains-map, Overflow, IsCoefficient, is_coefficient, sum_of, exact_value, first_overflow, Term, word_eq, coefficient_of, coefficient_other, word_cmp, Pair, aligned, sums, coefficient_of-lefts, coefficient_of-rights, AreDistinct, distinct-descending, first_coefficient, word_eq-turned, Descends, IsFalling, falling-aligned}

-- what a listed value is the value of
pub record IsValueOf {X Y : Type 0} (f : X → Y) (xs : List X) (y : Y) : Type 0 where
  pub argument : X
  pub listed : Contains xs argument
  pub is : y ≡ f argument

pub value_of : {X Y : Type 0} (f : X → Y) (xs : List X) (y : Y) → Contains (map f xs) y → IsValueOf f xs y
value_of f [] y at = absurd (contains-none y at)
value_of {X} {Y} f (x ∷ xs) y at = go (contains-cases (f x) (map f xs) y at) (value_of f xs y)
  where
    go : (f x ≡ y) ⊎ Contains (map f xs) y → (Contains (map f xs) y → IsValueOf f xs y) → IsValueOf f (x ∷ xs) y
    go (inl same) later = record { argument = x; listed = (0, omega arith, refl); is = sym same }
    go (inr rest) later = let v = later rest in record { argument = v.argument; listed = contains-rest x xs v.argument v.listed; is = v.is }

-- the first of operations that overflows
pub record IsFailing (os : List Overflow) (o : Overflow) : Type 0 where
  pub listed : Contains os o
  pub fails : IsCoefficient (exact_value o) → ⊥

pub failing : (os : List Overflow) (o : Overflow) → first_overflow os ≡ Some o → IsFailing os o
failing [] o e = absurd (cc)
failing (x ∷ os) o e = go (is_coefficient (exact_value x)) refl e (failing os o)
  where
    same : (y : Overflow) → ◌≡◌ {A = Option Overflow} (Some y) (Some o) → y ≡ o
    same y k = cc

    go : (b : Bool) → is_coefficient (exact_value x) ≡ b → cond b (first_overflow os) (Some x) ≡ Some o → (first_overflow os ≡ Some o → IsFailing os o) → IsFailing (x ∷ os) o
    go true fits k later = let rest = later k in record { listed = contains-rest x os o rest.listed; fails = rest.fails }
    go false out k later = record { listed = (0, omega arith, same x k); fails = subst (λ y. IsCoefficient (exact_value y) → ⊥) (same x k) past }
      where
        past : IsCoefficient (exact_value x) → ⊥
        past fits = grind (arith, nat_tests)

-- a term of a list that has each word once
pub coefficient_listed : (p : List Term) → AreDistinct p → (t : Term) → Contains p t → coefficient_of p t.1 ≡ t.0
coefficient_listed [] apart t at = absurd (contains-none t at)
coefficient_listed (u ∷ p) apart t at = go (contains-cases u p t at) (coefficient_listed p apart.1 t)
  where
    go : (u ≡ t) ⊎ Contains p t → (Contains p t → coefficient_of p t.1 ≡ t.0) → coefficient_of (u ∷ p) t.1 ≡ t.0
    go (inl same) later = subst (λ (v : Term). coefficient_of (u ∷ p) v.1 ≡ v.0) same (first_coefficient u p apart.0)
    go (inr rest) later =
        coefficient_other t.1 u p (word_eq-turned u.1 t.1 ∙ All-contains (λ (v : Term). word_eq v.1 u.1 ≡ false) p t apart.0 rest)
        ∙ later rest

-- one side of the pairs of coefficients of two descending lists
module _ (side : Pair → ℤ) where
  abbrev terms_of : List Pair → List Term
  terms_of pairs = map (λ a. (side a, a.2)) pairs

  falls : (pairs : List Pair) → IsFalling pairs → Descends (terms_of pairs)
  falls [] d = tt
  falls (a ∷ rest) d = (All-map (λ (u : Term). word_cmp a.2 u.1 ≡ Greater) (λ b. (side b, b.2)) rest d.0, falls rest d.1)

  pub side_listed : (pairs : List Pair) → IsFalling pairs → (a : Pair) → Contains pairs a → coefficient_of (terms_of pairs) a.2 ≡ side a
  side_listed pairs falling a at =
      coefficient_listed (terms_of pairs) (distinct-descending (terms_of pairs) (falls pairs falling)) (side a, a.2) (contains-map (λ b. (side b, b.2)) pairs a at)

-- each sum of two descending lists is that of the coefficients of a word
pub record IsSumAt (p q : List Term) (o : Overflow) : Type 0 where
  pub word : List ℕ
  pub is : o ≡ sum_of (coefficient_of p word) (coefficient_of q word)

pub sum_at : (p q : List Term) → Descends p → Descends q → (o : Overflow) → Contains (sums p q) o → IsSumAt p q o
sum_at p q left right o at =
    let v = value_of (λ (a : Pair). sum_of a.0 a.1) (aligned p q) o at in
    let a = v.argument in
    let falling = falling-aligned p q left right in
    let one : coefficient_of p a.2 ≡ a.0 = sym (coefficient_of-lefts a.2 p q) ∙ side_listed (λ b. b.0) (aligned p q) falling a v.listed in
    let other : coefficient_of q a.2 ≡ a.1 = sym (coefficient_of-rights a.2 p q) ∙ side_listed (λ b. b.1) (aligned p q) falling a v.listed in
    record { word = a.2; is = v.is ∙ (λ n. sum_of (sym one n) (sym other n)) }
