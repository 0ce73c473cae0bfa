-- The places in the squares over short words, as the words of the place's two numbers and the word's letters.
use Rattle.outcome_laws.proofs.Prelude.{◌≡◌, ℕ, ◌+◌, ◌*◌, ◌^◌, ◌≤◌, ◌<◌, zero, suc, ◌⊎◌, inl, inr, refl, arith, subst, sym, ap, ◌∙◌, List, [], ◌∷◌, ◌++◌, map, length, cases_lt, length-append, length-map, length-range_with_len, pow-zero, pow-suc, Contains, flat_map, range_with_len, Word, short_ambiguities, Contains-append_left, Contains-append_right, contains-none, contains-cases, contains-first, contains-map}
use Rattle.outcome_laws.proofs.Turns.{contains_number}

-- what is listed for an item is listed for all
contains_flat_map : {A B : Type 0} (f : A → List B) (x : A) (y : B) (xs : List A) → Contains xs x → Contains (f x) y → Contains (flat_map f xs) y
contains_flat_map f x y [] at here = absurd (contains-none x at)
contains_flat_map {A} {B} f x y (z ∷ xs) at here = go (contains-cases z xs x at) (λ later. contains_flat_map f x y xs later here)
  where
    go : (z ≡ x) ⊎ Contains xs x → (Contains xs x → Contains (flat_map f xs) y) → Contains (flat_map f (z ∷ xs)) y
    go (inl same) later = Contains-append_left (f z) (flat_map f xs) y (subst (λ v. Contains (f v) y) (sym same) here)
    go (inr inside) later = Contains-append_right (f z) (flat_map f xs) y (later inside)

-- lists of one length
length_flat_map : {A B : Type 0} (f : A → List B) (c : ℕ) → ((x : A) → length (f x) ≡ c) → (xs : List A) → length (flat_map f xs) ≡ length xs * c
length_flat_map f c e [] = zero_times c
  where
    zero_times : (c : ℕ) → 0 ≡ 0 * c
    zero_times c = omega arith
length_flat_map f c e (x ∷ xs) = length-append (f x) (flat_map f xs) ∙ added (length (f x)) (length (flat_map f xs)) (length xs) c (e x) (length_flat_map f c e xs)
  where
    added : (a b n c : ℕ) → a ≡ c → b ≡ n * c → a + b ≡ suc n * c
    added a b n c p q = grind arith

-- the numbers below a number
abbrev below : ℕ → List ℕ
below m = range_with_len 0 m

contains_below : (m k : ℕ) → k < m → Contains (below m) k
contains_below m k inside = contains_number 0 m k (omega arith) (omega (arith, inside))

-- all letters are in the list
abbrev pub AllIn : List ℕ → Word → Type 0
AllIn letters [] = Unit {0}
AllIn letters (a ∷ w) = Contains letters a × AllIn letters w

module _ (letters : List ℕ) where
  -- the words of a length
  abbrev words : ℕ → List Word
  words zero = [] ∷ []
  words (suc m) = flat_map (λ a. map (λ w. a ∷ w) (words m)) letters

  length_words : (m : ℕ) → length (words m) ≡ length letters ^ m
  length_words zero = sym (pow-zero (length letters))
  length_words (suc m) =
      length_flat_map (λ a. map (λ w. a ∷ w) (words m)) (length letters ^ m) (λ a. length-map (words m) (λ w. a ∷ w) ∙ length_words m) letters
      ∙ (omega arith) ∙ sym (pow-suc (length letters) m)

  contains_words : (w : Word) → AllIn letters w → Contains (words (length w)) w
  contains_words [] h = contains-first [] []
  contains_words (a ∷ w) h =
      contains_flat_map (λ b. map (λ v. b ∷ v) (words (length w))) a (a ∷ w) letters h.0 (contains-map (λ v. a ∷ v) (words (length w)) w (contains_words w h.1))

  -- the places in the squares over the words of a length
  abbrev row_of : ℕ → Word → ℕ → List Word
  row_of m w x = map (λ y. x ∷ y ∷ w) (below m)

  abbrev square_of : ℕ → Word → List Word
  square_of m w = flat_map (row_of m w) (below m)

  abbrev squares : ℕ → List Word
  squares m = flat_map (square_of m) (words m)

  length_squares : (m : ℕ) → length (squares m) ≡ length letters ^ m * m * m
  length_squares m = length_flat_map (square_of m) (m * m) length_square (words m) ∙ ap (λ z. z * (m * m)) (length_words m) ∙ (grind arith)
    where
      length_row : (w : Word) (x : ℕ) → length (row_of m w x) ≡ m
      length_row w x = length-map (below m) (λ y. x ∷ y ∷ w) ∙ length-range_with_len 0 m

      length_square : (w : Word) → length (square_of m w) ≡ m * m
      length_square w = length_flat_map (row_of m w) m (length_row w) (below m) ∙ ap (λ z. z * m) (length-range_with_len 0 m)

  contains_squares : (w : Word) (x y : ℕ) → AllIn letters w → x < length w → y < length w → Contains (squares (length w)) (x ∷ y ∷ w)
  contains_squares w x y a hx hy =
      let m = length w in
      contains_flat_map (square_of m) w (x ∷ y ∷ w) (words m) (contains_words w a)
      (contains_flat_map (row_of m w) x (x ∷ y ∷ w) (below m) (contains_below m x hx) (contains-map (λ z. x ∷ z ∷ w) (below m) y (contains_below m y hy)))

  -- those over the words up to a length
  abbrev pub places : ℕ → List Word
  places zero = []
  places (suc n) = places n ++ squares (suc n)

  pub length_places : (n : ℕ) → length (places n) ≡ short_ambiguities (length letters) n
  length_places zero = refl
  length_places (suc n) =
      length-append (places n) (squares (suc n))
      ∙ added (length (places n)) (length (squares (suc n))) (short_ambiguities (length letters) n) (length letters ^ suc n * suc n * suc n) (length_places n) (length_squares (suc n))
    where
      added : (a b c d : ℕ) → a ≡ c → b ≡ d → a + b ≡ c + d
      added a b c d p q = omega arith

  pub contains_places : (n : ℕ) (w : Word) (x y : ℕ) → AllIn letters w → length w ≤ n → x < length w → y < length w → Contains (places n) (x ∷ y ∷ w)
  contains_places zero w x y a h hx hy = absurd (omega arith)
  contains_places (suc n) w x y a h hx hy = go (cases_lt (length w) (suc n)) (λ shorter. contains_places n w x y a shorter hx hy)
    where
      go : (length w < suc n) ⊎ (suc n ≤ length w) → (length w ≤ n → Contains (places n) (x ∷ y ∷ w)) → Contains (places n ++ squares (suc n)) (x ∷ y ∷ w)
      go (inl less) earlier = Contains-append_left (places n) (squares (suc n)) (x ∷ y ∷ w) (earlier (omega (arith, less)))
      go (inr longest) earlier =
          let same : length w ≡ suc n = omega (arith, longest, h) in
          Contains-append_right (places n) (squares (suc n)) (x ∷ y ∷ w) (subst (λ m. Contains (squares m) (x ∷ y ∷ w)) same (contains_squares w x y a hx hy))
