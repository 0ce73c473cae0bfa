-- Tables of marks, and the numbers that are marked.
use Rattle.statement_names.proofs.Prelude.{◌≡◌, ℕ, zero, suc, ◌+◌, ◌<◌, ◌≤◌, Bool, false, cond, ◌||◌, List, [], ◌∷◌, ◌++◌, length, get_or, replicate, refl, ap, ap₂, sym, subst, ◌∙◌, arith, add-one, range_with_len, length-replicate, filter-append, get_or-replicate_default, Marks, numbers_that, filter}

-- the numbers that pass a test
range_more : (a n : ℕ) → range_with_len a (n + 1) ≡ range_with_len a n ++ (a + n) ∷ []
range_more a zero = let here : a ≡ a + 0 = omega arith in ap (λ k. k ∷ []) here
range_more a (suc n) =
    let there : a + 1 + n ≡ a + suc n = omega arith in
    ap (range_with_len a) (add-one (suc n)) ∙ ap (λ m. a ∷ range_with_len (a + 1) m) (sym (add-one n)) ∙ ap (λ ks. a ∷ ks) (range_more (a + 1) n)
    ∙ ap (λ k. a ∷ (range_with_len (a + 1) n ++ k ∷ [])) there

pub numbers_more : (n : ℕ) (test : ℕ → Bool) → numbers_that (n + 1) test ≡ numbers_that n test ++ cond (test n) (n ∷ []) []
numbers_more n test =
    let last : 0 + n ≡ n = omega arith in
    ap (filter test) (range_more 0 n ∙ ap (λ k. range_with_len 0 n ++ k ∷ []) last) ∙ filter-append test (range_with_len 0 n) (n ∷ [])

filter_same : (a n : ℕ) (p q : ℕ → Bool) → ((k : ℕ) → a ≤ k → k < a + n → p k ≡ q k) → filter p (range_with_len a n) ≡ filter q (range_with_len a n)
filter_same a zero p q same = refl
filter_same a (suc n) p q same =
    let here : a < a + suc n = omega arith in
    ap₂ (λ b ks. cond b (a ∷ ks) ks) (same a (omega arith) here)
    (filter_same (a + 1) n p q (λ k least most. let more : k < a + suc n = omega arith in same k (omega arith) more))

pub numbers_same : (n : ℕ) (p q : ℕ → Bool) → ((k : ℕ) → k < n → p k ≡ q k) → numbers_that n p ≡ numbers_that n q
numbers_same n p q same = filter_same 0 n p q (λ k least most. let below : k < n = omega arith in same k below)

-- the numbers that are marked in a table that was without marks
pub marked_numbers : (n : ℕ) (marks : List Bool) (test : ℕ → Bool) → length marks ≡ n → Marks (replicate n false) marks test → numbers_that (length marks) (λ k. get_or marks k false) ≡ numbers_that n test
marked_numbers n marks test len is =
    ap (λ m. numbers_that m (λ k. get_or marks k false)) len
    ∙ numbers_same n (λ k. get_or marks k false) test
    (λ k below. is k (subst (λ m. k < m) (sym (length-replicate n false)) below) ∙ ap (λ b. b || test k) (get_or-replicate_default n k false))
