-- Items of lists, and lists in which each item is before all later ones.
use Rattle.ambiguities.proofs.Prelude.{◌≡◌, ◌≢◌, ◌⊎◌, inl, inr, ℕ, zero, suc, ◌+◌, ◌<◌, Bool, List, [], ◌∷◌, length, map, drop, get_or, refl, sym, ap, ap₂, ◌∙◌, subst, arith, Decides, AllPairs, Contains, IsPermutation, same_from_decides, get_or-drop, get_or-map, length-drop, length-map, Contains-get_or, IsDistinct-IsPermutation, IsDistinct-from_AllPairs, AllPairs-from_IsDistinct}

pub contains-none : {X : Type 0} (x : X) → Contains [] x → ⊥
contains-none x (k, inside, is) = omega (arith, inside)

-- an item of a longer list is the first one, or one of the rest
pub contains-cases : {X : Type 0} (y : X) (xs : List X) (x : X) → Contains (y ∷ xs) x → (y ≡ x) ⊎ Contains xs x
contains-cases y xs x (zero, inside, is) = inl is
contains-cases y xs x (suc k, inside, is) = inr (k, omega (arith, inside), is)

pub contains-first : {X : Type 0} (y : X) (xs : List X) → Contains (y ∷ xs) y
contains-first y xs = (0, omega arith, refl)

pub contains-rest : {X : Type 0} (y : X) (xs : List X) (x : X) → Contains xs x → Contains (y ∷ xs) x
contains-rest y xs x (k, inside, is) = (suc k, omega (arith, inside), is)

-- items of images
pub record Image {X Y : Type 0} (f : X → Y) (xs : List X) (y : Y) : Type 0 where
  pub item : X
  pub inside : Contains xs item
  pub same : f item ≡ y

pub contains-image : {X Y : Type 0} (f : X → Y) (xs : List X) (d : X) (y : Y) → Contains (map f xs) y → Image f xs y
contains-image f xs d y (k, inside, is) =
    let count : k < length xs = omega (arith, inside, length-map xs f) in
    record { item = get_or xs k d; inside = Contains-get_or xs k d count; same = sym (get_or-map f xs k d y count) ∙ is }

pub contains-map : {X Y : Type 0} (f : X → Y) (xs : List X) (x : X) → Contains xs x → Contains (map f xs) (f x)
contains-map f xs x (k, inside, is) = (k, omega (arith, inside, length-map xs f), get_or-map f xs k x (f x) inside ∙ ap f is)

-- pairs of images, where each image has some item that stands for a missing one
pub pairs-map : {X Y : Type 0} (f : X → Y) (some : Y → X) (R : X → X → Type 0) (Q : Y → Y → Type 0) (xs : List X)
    → ((x y : X) → Contains xs x → Contains xs y → R x y → Q (f x) (f y)) → AllPairs R xs → AllPairs Q (map f xs)
pairs-map {Y = Y} f some R Q xs follows pairs i j d before inside =
    let j_in : j < length xs = omega (arith, inside, length-map xs f) in
    let i_in : i < length xs = omega (arith, before, j_in) in
    let e = some d in
    subst (λ (p : Y × Y). Q p.0 p.1) (λ n. (sym (get_or-map f xs i e d i_in) n, sym (get_or-map f xs j e d j_in) n))
    (follows (get_or xs i e) (get_or xs j e) (Contains-get_or xs i e i_in) (Contains-get_or xs j e j_in) (pairs i j e before j_in))

-- no two items are the same in another order either
pub distinct-permutation : {X : Type 0} (e : X → X → Bool) → ((x y : X) → Decides (e x y) (x ≡ y)) → (xs ys : List X) → IsPermutation xs ys → AllPairs (λ x y. x ≢ y) xs → AllPairs (λ x y. x ≢ y) ys
distinct-permutation {X} e tells xs ys moved distinct = AllPairs-from_IsDistinct tells ys (IsDistinct-IsPermutation e flips xs ys moved (IsDistinct-from_AllPairs tells xs distinct))
  where
    flips : (x y : X) → e x y ≡ e y x
    flips x y = same_from_decides (e x y) (e y x) (tells x y) (λ held. sym ((tells y x).0 held), λ same. (tells y x).1 (sym same))

module _ {X : Type 0} (Before : X → X → Type 0) where
  -- pairs with another relation that follows
  pub pairs-weaker : (After : X → X → Type 0) (xs : List X) → ((x y : X) → Before x y → After x y) → AllPairs Before xs → AllPairs After xs
  pairs-weaker After xs follows pairs i j d before inside = follows (get_or xs i d) (get_or xs j d) (pairs i j d before inside)

  pub distinct-pairs : ((x : X) → Before x x → ⊥) → (xs : List X) → AllPairs Before xs → AllPairs (λ x y. x ≢ y) xs
  distinct-pairs apart xs = pairs-weaker (λ x y. x ≢ y) xs (λ x y before alike. apart x (subst (Before x) (sym alike) before))

  pub first-before : (x : X) (xs : List X) → AllPairs Before (x ∷ xs) → (y : X) → Contains xs y → Before x y
  first-before x xs pairs y (k, inside, is) = subst (Before x) is (pairs 0 (suc k) y (omega arith) (omega (arith, inside)))

  pub rest-pairs : (x : X) (xs : List X) → AllPairs Before (x ∷ xs) → AllPairs Before xs
  rest-pairs x xs pairs i j d before inside = pairs (suc i) (suc j) d (omega (arith, before)) (omega (arith, inside))

  pub drop-pairs : (n : ℕ) (xs : List X) → AllPairs Before xs → AllPairs Before (drop n xs)
  drop-pairs n xs pairs i j d before inside =
      let within : n + j < length xs = omega (arith, inside, length-drop n xs) in
      let later : n + i < n + j = omega (arith, before) in
      subst (λ (p : X × X). Before p.0 p.1) (λ k. (sym (get_or-drop n xs i d) k, sym (get_or-drop n xs j d) k)) (pairs (n + i) (n + j) d later within)

  module _ (apart : (x : X) → Before x x → ⊥) (one_way : (x y : X) → Before x y → Before y x → ⊥) where
    -- two such lists with the same items are the same
    pub ascending-same : (xs ys : List X) → AllPairs Before xs → AllPairs Before ys → ((z : X) → Contains xs z → Contains ys z) → ((z : X) → Contains ys z → Contains xs z) → xs ≡ ys
    ascending-same [] [] left right into back = refl
    ascending-same [] (y ∷ ys) left right into back = absurd (contains-none y (back y (contains-first y ys)))
    ascending-same (x ∷ xs) [] left right into back = absurd (contains-none x (into x (contains-first x xs)))
    ascending-same (x ∷ xs) (y ∷ ys) left right into back =
        ap₂ ◌∷◌ firsts (ascending-same xs ys (rest-pairs x xs left) (rest-pairs y ys right)
        (λ z at. into_by z at (contains-cases y ys z (into z (contains-rest x xs z at))))
        (λ z at. back_by z at (contains-cases x xs z (back z (contains-rest y ys z at)))))
      where
        first_by : (y ≡ x) ⊎ Contains ys x → (x ≡ y) ⊎ Contains xs y → x ≡ y
        first_by (inl same) other = sym same
        first_by (inr in_ys) (inl same) = same
        first_by (inr in_ys) (inr in_xs) = absurd (one_way x y (first-before x xs left y in_xs) (first-before y ys right x in_ys))

        firsts : x ≡ y
        firsts = first_by (contains-cases y ys x (into x (contains-first x xs))) (contains-cases x xs y (back y (contains-first y ys)))

        into_by : (z : X) → Contains xs z → (y ≡ z) ⊎ Contains ys z → Contains ys z
        into_by z at (inl same) = absurd (apart x (subst (Before x) (sym (firsts ∙ same)) (first-before x xs left z at)))
        into_by z at (inr in_ys) = in_ys

        back_by : (z : X) → Contains ys z → (x ≡ z) ⊎ Contains xs z → Contains xs z
        back_by z at (inl same) = absurd (apart y (subst (Before y) (sym (sym firsts ∙ same)) (first-before y ys right z at)))
        back_by z at (inr in_xs) = in_xs
