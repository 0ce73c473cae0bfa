-- Texts for numbers that follow one another.
use Rattle.model_text.proofs.Prelude.{◌≡◌, ◌+◌, ℕ, zero, suc, List, [], ◌∷◌, ◌++◌, arith, refl, ap, ◌∙◌, subst, zero-add, flat_map, range_with_len, append-nil, append_assoc, flat_map-append}

-- one number more
pub range_more : (a n : ℕ) → range_with_len a (n + 1) ≡ range_with_len a n ++ (a + n) ∷ []
range_more a zero =
    let same : a + 0 ≡ a = omega arith in
    rw same refl
range_more a (suc n) =
    let next : a + 1 + n ≡ a + suc n = omega arith in
    let count : suc n + 1 ≡ suc (n + 1) = omega arith in
    rw count (ap (λ xs. a ∷ xs) (range_more (a + 1) n ∙ ap (λ b. range_with_len (a + 1) n ++ b ∷ []) next))

-- the text of the next number is appended to what is written
pub text_put : (f : ℕ → List ℕ) (n : ℕ) (front before after : List ℕ) → before ≡ front ++ flat_map f (range_with_len 0 n) → after ≡ before ++ f n
    → after ≡ front ++ flat_map f (range_with_len 0 (n + 1))
text_put f n front before after before_is after_is =
    let more : range_with_len 0 (n + 1) ≡ range_with_len 0 n ++ n ∷ [] = range_more 0 n ∙ ap (λ k. range_with_len 0 n ++ k ∷ []) (zero-add n) in
    rw (after_is, before_is, more, flat_map-append f (range_with_len 0 n) (n ∷ []), append-nil (f n))
    (append_assoc front (flat_map f (range_with_len 0 n)) (f n))

-- numbers after others
pub range-append : (a n m : ℕ) → range_with_len a n ++ range_with_len (a + n) m ≡ range_with_len a (n + m)
range-append a zero m =
    let same : a + 0 ≡ a = omega arith in
    let count : m ≡ 0 + m = omega arith in
    λ j. range_with_len (same j) (count j)
range-append a (suc n) m =
    let next : a + 1 + n ≡ a + suc n = omega arith in
    let count : suc (n + m) ≡ suc n + m = omega arith in
    ap (λ xs. a ∷ xs) (subst (λ (b : ℕ). range_with_len (a + 1) n ++ range_with_len b m ≡ range_with_len (a + 1) (n + m)) next (range-append (a + 1) n m))
    ∙ ap (range_with_len a) count
