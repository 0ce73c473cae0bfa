-- Two lists that agree place by place.
use Rattle.in_order_parallel.proofs.Prelude.{◌≡◌, ℕ, ◌<◌, ◌+◌, List, [], ◌∷◌, ◌++◌, length, get_or, take, drop, sym, subst, ap, ◌∙◌, AllZip, take_more, take-append-drop}

module _ {A B : Type 0} (R : A → B → Type 0) where
  -- one pair of such lists after another
  pub AllZip-append : (xs us : List A) (ys vs : List B) → AllZip R xs ys → AllZip R us vs → AllZip R (xs ++ us) (ys ++ vs)
  AllZip-append [] us [] vs first second = second
  AllZip-append [] us (y ∷ ys) vs first second = absurd first
  AllZip-append (x ∷ xs) us [] vs first second = absurd first
  AllZip-append (x ∷ xs) us (y ∷ ys) vs first second = (first.0, AllZip-append xs us ys vs first.1 second)

  -- one place more
  pub AllZip-more : (xs : List A) (ys : List B) (i : ℕ) (x : A) (y : B) → i < length xs → x ≡ get_or xs i x → AllZip R (take i xs) ys → R x y → AllZip R (take (i + 1) xs) (ys ++ y ∷ [])
  AllZip-more xs ys i x y within is_here so_far agrees =
      let grown : take (i + 1) xs ≡ take i xs ++ x ∷ [] = take_more xs i x within ∙ ap (λ a. take i xs ++ a ∷ []) (sym is_here) in
      rw grown (AllZip-append (take i xs) (x ∷ []) ys (y ∷ []) so_far (agrees, tt))

  -- a list that was cut in two
  pub AllZip-halves : (xs : List A) (ys zs : List B) (n : ℕ) → AllZip R (take n xs) ys → AllZip R (drop n xs) zs → AllZip R xs (ys ++ zs)
  AllZip-halves xs ys zs n front back = subst (λ l. AllZip R l (ys ++ zs)) (take-append-drop n xs) (AllZip-append (take n xs) (drop n xs) ys zs front back)
