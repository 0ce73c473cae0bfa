-- One step of a loop over a list.
use Rattle.nc_polynomial.proofs.Prelude.{◌≡◌, ℕ, ◌+◌, ◌<◌, List, [], ◌∷◌, ◌++◌, length, take, drop, get_or, sym, ap, ◌∙◌, take_more, drop_more}

module _ {X : Type 0} (xs : List X) (i : ℕ) (x : X) (inside : i < length xs) (item : x ≡ get_or xs i x) where
  pub take_next : take (i + 1) xs ≡ take i xs ++ x ∷ []
  take_next = take_more xs i x inside ∙ ap (λ y. take i xs ++ y ∷ []) (sym item)

  pub drop_next : drop i xs ≡ x ∷ drop (i + 1) xs
  drop_next = drop_more xs i x inside ∙ ap (λ y. y ∷ drop (i + 1) xs) (sym item)
