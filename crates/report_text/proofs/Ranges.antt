-- Texts for numbers that follow one another.
use Rattle.report_text.proofs.Prelude.{◌≡◌, ◌+◌, ℕ, zero, suc, List, [], ◌∷◌, ◌++◌, arith, refl, ap, ◌∙◌, flat_map, range_with_len, append-nil, append_assoc, flat_map-append}

-- one number more
range_more : (a n : ℕ) → range_with_len a (n + 1) ≡ range_with_len a n ++ (a + n) ∷ []
range_more a zero =
    let same : a + 0 ≡ a = omega arith in
    rw same refl
range_more a (suc n) =
    let next : a + 1 + n ≡ a + suc n = omega arith in
    let count : suc n + 1 ≡ suc (n + 1) = omega arith in
    rw count (ap (λ xs. a ∷ xs) (range_more (a + 1) n ∙ ap (λ b. range_with_len (a + 1) n ++ b ∷ []) next))

-- the text of the next number is appended to what is written
pub text_put : (f : ℕ → List ℕ) (a n : ℕ) (front before after : List ℕ) → before ≡ front ++ flat_map f (range_with_len a n) → after ≡ before ++ f (a + n)
    → after ≡ front ++ flat_map f (range_with_len a (n + 1))
text_put f a n front before after before_is after_is =
    rw (after_is, before_is, range_more a n, flat_map-append f (range_with_len a n) ((a + n) ∷ []), append-nil (f (a + n)))
    (append_assoc front (flat_map f (range_with_len a n)) (f (a + n)))
