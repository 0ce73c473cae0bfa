-- Products with words: letters in a row are one word first.
use Rattle.expressions.proofs.Prelude.{◌≡◌, ◌≢◌, ℕ, ◌+◌, ◌<◌, ◌≤◌, pos, ℤ, ◌*ℤ◌, Bool, true, false, cond, ◌||◌, nat_lt, List, [], ◌∷◌, ◌++◌, length, Result, Ok, Err, sym, refl, ap, ap₂, subst, ◌∙◌, arith, append_assoc, le-ltb, ltb-true, ltb-false, or_right, nat_tests, ints, length-append, length-map, IsCoefficient, Term, poly_between, combined, sized, has_long_word, size_fault, and_then, product_result, IsCanonical, word_limit, term_limit, shaped-between, behind, times_term, canonical_none, long_word, from-step, canonical-step, made-step, canonical_sized, not_long, all_middle, ◌>>=◌}
use Rattle.std.proofs.Common.{append-nil}
use Rattle.nc_polynomial.specs.Product.{product_from}

-- with so few terms only a long word is refused
by_words : (p : List Term) → length p ≤ term_limit → sized p ≡ cond (has_long_word p) (Err (size_fault true)) (Ok p)
by_words p small = ap (λ b. cond (has_long_word p) (Err (size_fault true)) (cond b (Err (size_fault false)) (Ok p))) (le-ltb term_limit (length p) small)

pub sized-canonical : (p : List Term) → IsCanonical p → sized p ≡ Ok p
sized-canonical p canonical =
    by_words p canonical.few
    ∙ ap (λ b. cond b (Err (size_fault true)) (Ok p)) (not_long p canonical.short)

-- a word after
abbrev one : List ℕ → Term
one w = (pos 1, w)

times_one : (k : ℤ) → k *ℤ pos 1 ≡ k
times_one k = omega (arith, ints)

times-word : (w : List ℕ) (p : List Term) → times_term (one w) p ≡ poly_between [] p w
times-word w [] = refl
times-word w (t ∷ p) = ap₂ (λ c ts. (c, t.1 ++ w) ∷ ts) (times_one t.0) (times-word w p)

module _ (w : List ℕ) where
  abbrev y : Term
  y = one w

  nonzero : pos 1 ≢ pos 0
  nonzero e = absurd (cc)

  abbrev Made : List Term → List Term → Type 0
  Made front more = product_from (times_term y front) more (y ∷ []) ≡ cond (has_long_word (times_term y more)) (Err (size_fault true)) (Ok (times_term y front ++ times_term y more))

  step : (front : List Term) (t : Term) (more : List Term) → IsCanonical (front ++ t ∷ more) → IsCanonical (times_term y front)
      → (length t.1 + length w ≤ word_limit → IsCanonical (times_term y (front ++ t ∷ [])) → Made (front ++ t ∷ []) more)
      → (b : Bool) → nat_lt word_limit (length (t.1 ++ w)) ≡ b → Made front (t ∷ more)
  step front t more left canonical later true over =
      let count : length (t.1 ++ w) ≡ length t.1 + length w = length-append t.1 w in
      let larger : word_limit < length (t.1 ++ w) = ltb-true word_limit (length (t.1 ++ w)) over in
      let refused : sized (poly_between t.1 (y ∷ []) []) ≡ Err (size_fault true) = long_word y nonzero t (omega (arith, count, larger)) in
      ap (λ r. and_then (and_then r (λ moved. combined (pos 1) (times_term y front) t.0 moved)) (λ next. product_from next more (y ∷ []))) refused
      ∙ ap (λ b. cond (b || has_long_word (times_term y more)) (Err (size_fault true)) (Ok (times_term y front ++ times_term y (t ∷ more)))) (sym over)
  step front t more left canonical later false under =
      let count : length (t.1 ++ w) ≡ length t.1 + length w = length-append t.1 w in
      let small : length (t.1 ++ w) ≤ word_limit = ltb-false word_limit (length (t.1 ++ w)) under in
      let within : length t.1 + length w ≤ word_limit = omega (arith, count, small) in
      let fits : IsCoefficient (t.0 *ℤ pos 1) = subst IsCoefficient (sym (times_one t.0)) (all_middle (λ u. IsCoefficient u.0) front t more left.shaped.in_range) in
      let sum = times_term y front in
      let made : sum ++ behind y t ∷ [] ≡ times_term y (front ++ t ∷ []) = made-step y nonzero front t more sum left refl canonical fits within in
      let next = later within (subst IsCanonical made (canonical-step y nonzero front t more sum left refl canonical fits within)) in
      from-step y nonzero front t more sum left refl canonical fits within
      ∙ ap (λ s. product_from s more (y ∷ [])) made
      ∙ next
      ∙ ap (λ s. cond (has_long_word (times_term y more)) (Err (size_fault true)) (Ok (s ++ times_term y more))) (sym made)
      ∙ ap₂ (λ b s. cond (b || has_long_word (times_term y more)) (Err (size_fault true)) (Ok s)) (sym under) (append_assoc sum (behind y t ∷ []) (times_term y more))

  each_step : (front more : List Term) → IsCanonical (front ++ more) → IsCanonical (times_term y front) → Made front more
  each_step front [] left canonical = ap Ok (sym (append-nil (times_term y front)))
  each_step front (t ∷ more) left canonical =
      step front t more left canonical
      (λ within done. each_step (front ++ t ∷ []) more (subst IsCanonical (sym (append_assoc front (t ∷ []) more)) left) done)
      (nat_lt word_limit (length (t.1 ++ w))) refl

  -- the product with the word moves each word before it
  pub word-behind : (p : List Term) → IsCanonical p → product_result p ((pos 1, w) ∷ []) ≡ sized (poly_between [] p w)
  word-behind p canonical =
      let count : length (times_term y p) ≡ length p = length-map p (behind y) in
      each_step [] p canonical canonical_none
      ∙ sym (by_words (times_term y p) (omega (arith, count, canonical.few)))
      ∙ ap sized (times-word w p)

-- two words
between-twice : (u v : List ℕ) (p : List Term) → poly_between [] (poly_between [] p u) v ≡ poly_between [] p (u ++ v)
between-twice u v [] = refl
between-twice u v (t ∷ p) = ap₂ (λ x ts. (t.0, x) ∷ ts) (append_assoc t.1 u v) (between-twice u v p)

-- a word that is too long is so with more after it
longer : (u v : List ℕ) (p : List Term) → has_long_word (poly_between [] p u) ≡ true → has_long_word (poly_between [] p (u ++ v)) ≡ true
longer u v [] h = absurd (cc)
longer u v (t ∷ p) h = go (nat_lt word_limit (length (t.1 ++ u))) refl h (longer u v p)
  where
    long_after : (m n : ℕ) → nat_lt word_limit m ≡ true → m ≤ n → nat_lt word_limit n ≡ true
    long_after m n h k = grind (arith, nat_tests)

    go : (b : Bool) → nat_lt word_limit (length (t.1 ++ u)) ≡ b → (b || has_long_word (poly_between [] p u)) ≡ true
        → (has_long_word (poly_between [] p u) ≡ true → has_long_word (poly_between [] p (u ++ v)) ≡ true) → has_long_word (poly_between [] (t ∷ p) (u ++ v)) ≡ true
    go true over k rest =
        let first : length (t.1 ++ u) ≡ length t.1 + length u = length-append t.1 u in
        let second : length (t.1 ++ (u ++ v)) ≡ length t.1 + length (u ++ v) = length-append t.1 (u ++ v) in
        let third : length (u ++ v) ≡ length u + length v = length-append u v in
        ap (λ b. b || has_long_word (poly_between [] p (u ++ v))) (long_after (length (t.1 ++ u)) (length (t.1 ++ (u ++ v))) over (omega (arith, first, second, third)))
    go false under k rest = ap (λ b. nat_lt word_limit (length (t.1 ++ (u ++ v))) || b) (rest k) ∙ or_right _ true refl

module _ (u v : List ℕ) (p : List Term) (canonical : IsCanonical p) where
  abbrev pub moved : List Term
  moved = poly_between [] p u

  moved_few : length moved ≤ term_limit
  moved_few =
      let count : length moved ≡ length p = length-map p (λ (t : Term). (t.0, t.1 ++ u)) in
      omega (arith, count, canonical.few)

  both_few : length (poly_between [] p (u ++ v)) ≤ term_limit
  both_few =
      let count : length (poly_between [] p (u ++ v)) ≡ length p = length-map p (λ (t : Term). (t.0, t.1 ++ (u ++ v))) in
      omega (arith, count, canonical.few)

  -- a word and then another are one word
  pub words-behind : (sized moved >>= λ q. product_result q ((pos 1, v) ∷ [])) ≡ sized (poly_between [] p (u ++ v))
  words-behind = go (has_long_word moved) refl
    where
      go : (b : Bool) → has_long_word moved ≡ b → (sized moved >>= λ q. product_result q ((pos 1, v) ∷ [])) ≡ sized (poly_between [] p (u ++ v))
      go true over =
          ap (λ r. r >>= λ q. product_result q ((pos 1, v) ∷ [])) (by_words moved moved_few ∙ ap (λ b. cond b (Err (size_fault true)) (Ok moved)) over)
          ∙ sym (by_words (poly_between [] p (u ++ v)) both_few ∙ ap (λ b. cond b (Err (size_fault true)) (Ok (poly_between [] p (u ++ v)))) (longer u v p over))
      go false under =
          let within : sized moved ≡ Ok moved = by_words moved moved_few ∙ ap (λ b. cond b (Err (size_fault true)) (Ok moved)) under in
          ap (λ r. r >>= λ q. product_result q ((pos 1, v) ∷ [])) within
          ∙ word-behind v moved (canonical_sized moved moved (shaped-between [] u p canonical.shaped) within)
          ∙ ap sized (between-twice u v p)

-- no word after
pub no-word : (p : List Term) → IsCanonical p → sized (poly_between [] p []) ≡ Ok p
no-word p canonical = ap sized (same p) ∙ sized-canonical p canonical
  where
    same : (q : List Term) → poly_between [] q [] ≡ q
    same [] = refl
    same (t ∷ q) = ap₂ (λ w ts. (t.0, w) ∷ ts) (append-nil t.1) (same q)

-- one result after another
pub bind-assoc : {A B C E : Type 0} (r : Result A E) (f : A → Result B E) (g : B → Result C E) → ((r >>= f) >>= g) ≡ (r >>= λ x. f x >>= g)
bind-assoc (Ok x) f g = refl
bind-assoc (Err e) f g = refl
