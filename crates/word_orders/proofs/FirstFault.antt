-- The first fault of a list that is read from the front.
use Rattle.word_orders.proofs.Prelude.{◌≡◌, ◌⊎◌, inl, inr, List, [], ◌∷◌, ◌++◌, Option, None, ℕ, suc, ◌<◌, length, take, drop, get_or, refl, sym, ap, ap₂, ◌∙◌, arith, drop-cons, length-append, take-append-drop, OrderFault, BadWeight, RepeatedLetter, NoSuchLetter, Memory, HasNoFault, IsFirstFault, Explains}

module _ {A : Type 0} where
  not_empty : (before : List A) (item : A) (after : List A) → [] ≡ before ++ (item ∷ after) → ⊥
  not_empty before item after e = omega (arith, ap length e, length-append before (item ∷ after))

  head_is : (x y : A) (xs ys : List A) → x ∷ xs ≡ y ∷ ys → x ≡ y
  head_is x y xs ys e = cc

  tail_is : (x y : A) (xs ys : List A) → x ∷ xs ≡ y ∷ ys → xs ≡ ys
  tail_is x y xs ys e = cc

  -- a list is the items before a place, the item there, and the rest
  pub split_at : (xs : List A) (i : ℕ) (d : A) → i < length xs → take i xs ++ (get_or xs i d ∷ drop (suc i) xs) ≡ xs
  split_at xs i d inside = ap (λ rest. take i xs ++ rest) (sym (drop-cons xs i d inside)) ∙ take-append-drop i xs

  -- where a list with one more item is cut at an item: at the last one, or inside the list
  pub record CutInside (xs before : List A) (item : A) : Type 0 where
    rest : List A
    splits : xs ≡ before ++ (item ∷ rest)

  cut_more : (xs : List A) (x : A) (before : List A) (item : A) (after : List A) → xs ++ (x ∷ []) ≡ before ++ (item ∷ after) → ((xs ≡ before) × (x ≡ item)) ⊎ CutInside xs before item
  cut_more [] x [] item after e = inl (refl, head_is x item [] after e)
  cut_more [] x (b ∷ before) item after e = absurd (not_empty before item after (tail_is x b [] _ e))
  cut_more (y ∷ xs) x [] item after e = inr (record { rest = xs; splits = ap (λ z. z ∷ xs) (head_is y item _ after e) })
  cut_more (y ∷ xs) x (b ∷ before) item after e = behind (cut_more xs x before item after (tail_is y b _ _ e))
    where
      same : y ≡ b
      same = head_is y b _ _ e

      behind : ((xs ≡ before) × (x ≡ item)) ⊎ CutInside xs before item → (((y ∷ xs) ≡ (b ∷ before)) × (x ≡ item)) ⊎ CutInside (y ∷ xs) (b ∷ before) item
      behind (inl last) = inl (ap₂ (λ z zs. z ∷ zs) same last.0, last.1)
      behind (inr inside) = inr (record { rest = inside.rest; splits = ap₂ (λ z zs. z ∷ zs) same inside.splits })

  module _ (fault_of : List A → A → Option OrderFault) where
    pub HasNoFault-nil : HasNoFault fault_of []
    HasNoFault-nil before item after e = absurd (not_empty before item after e)

    pub HasNoFault-more : (xs : List A) (x : A) → HasNoFault fault_of xs → fault_of xs x ≡ None → HasNoFault fault_of (xs ++ (x ∷ []))
    HasNoFault-more xs x sound none before item after e = go (cut_more xs x before item after e)
      where
        go : ((xs ≡ before) × (x ≡ item)) ⊎ CutInside xs before item → fault_of before item ≡ None
        go (inl last) = sym (ap₂ fault_of last.0 last.1) ∙ none
        go (inr inside) = sound before item inside.rest inside.splits

    pub Explains-first : (items : List A) (fault : OrderFault) → IsFirstFault fault_of items fault → Explains fault_of items fault
    Explains-first items (BadWeight letter) first = first
    Explains-first items (RepeatedLetter letter) first = first
    Explains-first items (NoSuchLetter letter) first = first
    Explains-first items (Memory e) first = tt
