-- The next of some items, between those before it and those after it.
use Rattle.statement_names.proofs.Prelude.{◌≡◌, ℕ, ◌+◌, ◌<◌, List, [], ◌∷◌, ◌++◌, length, map, take, drop, get_or, sym, ap, ◌∙◌, add-one, drop-cons, append_assoc, flat_map, flat_map-append, map-append, take-append-drop, take_more, append-nil}

module _ {A : Type 0} (items : List A) (i : ℕ) (x : A) (below : i < length items) (at : x ≡ get_or items i x) where
  pub rest_is : drop i items ≡ x ∷ drop (i + 1) items
  rest_is = drop-cons items i x below ∙ ap (λ n. get_or items i x ∷ drop n items) (sym (add-one i)) ∙ ap (λ y. y ∷ drop (i + 1) items) (sym at)

  pub items_split : items ≡ take i items ++ x ∷ drop (i + 1) items
  items_split = sym (take-append-drop i items) ∙ ap (λ rest. take i items ++ rest) rest_is

  pub take_next : take (i + 1) items ≡ take i items ++ x ∷ []
  take_next = take_more items i x below ∙ ap (λ y. take i items ++ y ∷ []) (sym at)

  module _ {B : Type 0} (f : A → B) (front : List B) where
    pub map_split : front ++ map f items ≡ (front ++ map f (take i items)) ++ f x ∷ map f (drop (i + 1) items)
    map_split =
        ap (λ xs. front ++ map f xs) items_split
        ∙ ap (λ xs. front ++ xs) (map-append f (take i items) (x ∷ drop (i + 1) items))
        ∙ sym (append_assoc front (map f (take i items)) (f x ∷ map f (drop (i + 1) items)))

  module _ {B : Type 0} (f : A → List B) where
    pub flat_next : flat_map f (take (i + 1) items) ≡ flat_map f (take i items) ++ f x
    flat_next =
        ap (flat_map f) take_next ∙ flat_map-append f (take i items) (x ∷ []) ∙ ap (λ ys. flat_map f (take i items) ++ ys) (append-nil (f x))
