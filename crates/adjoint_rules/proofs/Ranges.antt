-- One number more of a range.
use Rattle.adjoint_rules.proofs.Prelude.{◌≡◌, ℕ, suc, zero, ◌+◌, ◌-◌, ◌<◌, ◌≤◌, List, [], ◌∷◌, ◌++◌, length, get_or, map, take, sym, ap, ◌∙◌, arith, flat_map, range_with_len, flat_map_more, map-append, take_more}

range_more : (a n : ℕ) → range_with_len a (suc n) ≡ range_with_len a n ++ (a + n) ∷ []
range_more a zero = ap (λ x. x ∷ []) (plus_zero a)
  where
    plus_zero : (b : ℕ) → b ≡ b + 0
    plus_zero b = omega arith
range_more a (suc n) = ap (λ xs. a ∷ xs) (range_more (a + 1) n ∙ ap (λ x. range_with_len (a + 1) n ++ x ∷ []) (plus_suc a n))
  where
    plus_suc : (b m : ℕ) → b + 1 + m ≡ b + suc m
    plus_suc b m = omega arith

-- what a function gives on the numbers from a up to b, and then on b
pub flat_map-range_more : {X : Type 0} (f : ℕ → List X) (before : List X) (a b : ℕ) → a ≤ b
    → (before ++ flat_map f (range_with_len a (b - a))) ++ f b ≡ before ++ flat_map f (range_with_len a (b + 1 - a))
flat_map-range_more f before a b le =
    ap (λ x. (before ++ flat_map f (range_with_len a (b - a))) ++ f x) (sum a b le)
    ∙ flat_map_more f before (range_with_len a (b - a)) (a + (b - a))
    ∙ ap (λ xs. before ++ flat_map f xs) (sym (range_more a (b - a)) ∙ ap (range_with_len a) (next a b le))
  where
    sum : (c d : ℕ) → c ≤ d → d ≡ c + (d - c)
    sum c d h = omega arith

    next : (c d : ℕ) → c ≤ d → suc (d - c) ≡ d + 1 - c
    next c d h = omega arith

-- what a function gives on the first i items, and then on the next one
pub flat_map-take_more : {X Y Z : Type 0} (f : Y → List Z) (g : X → Y) (before : List Z) (xs : List X) (i : ℕ) (x : X) → i < length xs → x ≡ get_or xs i x
    → (before ++ flat_map f (map g (take i xs))) ++ f (g x) ≡ before ++ flat_map f (map g (take (i + 1) xs))
flat_map-take_more f g before xs i x below is =
    flat_map_more f before (map g (take i xs)) (g x)
    ∙ ap (λ ys. before ++ flat_map f ys) (sym (map-append g (take i xs) (x ∷ [])) ∙ ap (map g) (ap (λ y. take i xs ++ y ∷ []) is ∙ sym (take_more xs i x below)))
