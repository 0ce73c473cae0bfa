-- What holds of the numbers before another holds of all that a function gives on them.
use Rattle.model_candidates.proofs.Prelude.{◌≡◌, ℕ, zero, suc, ◌+◌, ◌<◌, List, [], ◌∷◌, ◌++◌, length, map, sym, subst, ap, ◌∙◌, arith, All, range_with_len, append-nil, append_assoc, All-get_or, All-from_get_or, All-drop, All-take, get_or-map-range_with_len, length-map-range_with_len, map-range_with_len_more, take-append_seam, drop-append_seam}

module _ {X : Type 0} (P : X → Type 0) where
  pub all_of_range : (f : ℕ → X) (n : ℕ) → ((k : ℕ) → k < n → P (f k)) → All P (map f (range_with_len 0 n))
  all_of_range f n each = All-from_get_or P (map f (range_with_len 0 n)) (f 0) (λ k inside.
      let within : k < n = subst (λ x. k < x) (length-map-range_with_len f 0 n) inside in
      subst P (sym (get_or-map-range_with_len f 0 n k k (f 0) within (omega arith))) (each k within))

  pub range_of_all : (f : ℕ → X) (n : ℕ) → All P (map f (range_with_len 0 n)) → (k : ℕ) → k < n → P (f k)
  range_of_all f n all k within = subst P (get_or-map-range_with_len f 0 n k k (f 0) within (omega arith))
      (All-get_or P (map f (range_with_len 0 n)) k (f 0) (subst (λ x. k < x) (sym (length-map-range_with_len f 0 n)) within) all)

  -- parts of a list
  pub all_front : (xs ys : List X) → All P (xs ++ ys) → All P xs
  all_front xs ys all = subst (All P) (take-append_seam xs ys) (All-take P (length xs) (xs ++ ys) all)

  pub all_back : (xs ys : List X) → All P (xs ++ ys) → All P ys
  all_back xs ys all = subst (All P) (drop-append_seam xs ys) (All-drop P (length xs) (xs ++ ys) all)

pub map_range_split : {X : Type 0} (f : ℕ → X) (a b : ℕ)
    → map f (range_with_len 0 (a + b)) ≡ map f (range_with_len 0 a) ++ map (λ k. f (a + k)) (range_with_len 0 b)
map_range_split f a zero =
    let none : a + 0 ≡ a = omega arith in
    ap (λ n. map f (range_with_len 0 n)) none ∙ sym (append-nil (map f (range_with_len 0 a)))
map_range_split f a (suc b) =
    let next : a + suc b ≡ a + b + 1 = omega arith in
    let more : b + 1 ≡ suc b = omega arith in
    ap (λ n. map f (range_with_len 0 n)) next ∙ map-range_with_len_more f 0 (a + b) (a + b) (omega arith)
    ∙ ap (λ xs. xs ++ f (a + b) ∷ []) (map_range_split f a b)
    ∙ append_assoc (map f (range_with_len 0 a)) (map (λ k. f (a + k)) (range_with_len 0 b)) (f (a + b) ∷ [])
    ∙ ap (λ xs. map f (range_with_len 0 a) ++ xs) (sym (map-range_with_len_more (λ k. f (a + k)) 0 b b (omega arith))
    ∙ ap (λ n. map (λ k. f (a + k)) (range_with_len 0 n)) more)
