-- The canonical order is admissible.
use Rattle.std.proofs.Common.{◌≡◌, ◌⊎◌, inl, inr, ◌<◌, ◌≤◌, ◌++◌, ◌+◌, ◌*◌, ◌^◌, ℕ, suc, List, [], ◌∷◌, length, refl, sym, ap, ap₂, ◌∙◌, arith}
use Rattle.std.proofs.Math.Nat.{pow-zero, pow-suc, suc-mul}
use Rattle.std.proofs.lemmas.Nat.{mul-add-lt, mul-le}
use Rattle.std.proofs.lemmas.Bool.Decides.{nat_tests}
use Rattle.std.proofs.lemmas.Cmp.{tied_itself, nat_cmp_total, nat_list_cmp_total, ranked}
use Rattle.std.proofs.lemmas.List.{length-append}
use Rattle.std.proofs.lemmas.List.Elements.{All-head, All-tail}
use Rattle.std.specs.Ordering.{nat_cmp, ordering_then}
use Rattle.std.specs.Cmp.Lexicographic.{slice_cmp}
use Rattle.std.specs.declared.cmp.Ordering.{Ordering}
use Rattle.std.specs.declared.cmp.Ordering.TheVariants.{Less, Equal, Greater}
use Rattle.word_core.specs.Canonical.{word_cmp, word_cmp_total}
use Rattle.word_core.specs.Letters.{IsOver}
use Rattle.word_core.proofs.Order.{word_cmp-same, word_cmp-shorter}
use Rattle.word_core.specs.Admissible.{IsAdmissible}
use Rattle.word_core.specs.Rank.{number_of, rank_of}

-- the same letters on either side change nothing, where the words are equally long
slice_cmp-front : (l u v : List ℕ) → slice_cmp nat_cmp (l ++ u) (l ++ v) ≡ slice_cmp nat_cmp u v
slice_cmp-front [] u v = refl
slice_cmp-front (x ∷ l) u v = ap₂ ordering_then (tied_itself nat_cmp_total x) (slice_cmp-front l u v)

slice_cmp-back : (u v r : List ℕ) → length u ≡ length v → slice_cmp nat_cmp (u ++ r) (v ++ r) ≡ slice_cmp nat_cmp u v
slice_cmp-back [] [] r same = tied_itself nat_list_cmp_total r
slice_cmp-back [] (y ∷ v) r same = absurd (omega arith)
slice_cmp-back (x ∷ u) [] r same = absurd (omega arith)
slice_cmp-back (x ∷ u) (y ∷ v) r same = ap (ordering_then (nat_cmp x y)) (slice_cmp-back u v r (omega arith))

length-around : (l u r : List ℕ) → length (l ++ (u ++ r)) ≡ length l + (length u + length r)
length-around l u r = length-append l (u ++ r) ∙ ap (λ n. length l + n) (length-append u r)

pub nat_cmp-shifted : (a b m n : ℕ) → nat_cmp (a + (m + b)) (a + (n + b)) ≡ nat_cmp m n
nat_cmp-shifted a b m n = grind (arith, nat_tests)

-- words around two words change nothing
pub word_cmp-around : (l u v r : List ℕ) → word_cmp (l ++ (u ++ r)) (l ++ (v ++ r)) ≡ word_cmp u v
word_cmp-around l u v r = go (nat_cmp (length u) (length v)) refl
  where
    longer_left : List ℕ
    longer_left = l ++ (u ++ r)

    longer_right : List ℕ
    longer_right = l ++ (v ++ r)

    lengths : nat_cmp (length (l ++ (u ++ r))) (length (l ++ (v ++ r))) ≡ nat_cmp (length u) (length v)
    lengths = ap₂ nat_cmp (length-around l u r) (length-around l v r) ∙ nat_cmp-shifted (length l) (length r) (length u) (length v)

    go : (o : Ordering) → o ≡ nat_cmp (length u) (length v) → word_cmp (l ++ (u ++ r)) (l ++ (v ++ r)) ≡ word_cmp u v
    go Less e = ap (λ p. ordering_then p (slice_cmp nat_cmp (l ++ (u ++ r)) (l ++ (v ++ r)))) (lengths ∙ sym e) ∙ ap (λ p. ordering_then p (slice_cmp nat_cmp u v)) e
    go Greater e = ap (λ p. ordering_then p (slice_cmp nat_cmp (l ++ (u ++ r)) (l ++ (v ++ r)))) (lengths ∙ sym e) ∙ ap (λ p. ordering_then p (slice_cmp nat_cmp u v)) e
    go Equal e =
        let same : length u ≡ length v = ranked (length u) (length v) Equal e in
        ap₂ ordering_then lengths (slice_cmp-front l (u ++ r) (v ++ r) ∙ slice_cmp-back u v r same)

-- a word as a number has at most as many digits as letters
number_below : (n : ℕ) (w : List ℕ) → IsOver n w → number_of n w < n ^ length w
number_below n [] over = rw pow-zero (omega arith)
number_below n (x ∷ xs) over =
    rw (pow-suc n (length xs)) (mul-add-lt x (n ^ length xs) (number_of n xs) n (All-head (λ a. a < n) x xs over) (number_below n xs (All-tail (λ a. a < n) x xs over)))

row_below : (x y k : ℕ) → x < y → x * k + k ≤ y * k
row_below x y k below = rw (← suc-mul x k) (mul-le (suc x) k y k (omega arith) (omega arith))

nat_cmp-leading : (a m n : ℕ) → nat_cmp (a + m) (a + n) ≡ nat_cmp m n
nat_cmp-leading a m n = grind (arith, nat_tests)

-- two digits before numbers below k
nat_cmp-digit : (k x y v w : ℕ) (o : Ordering) → o ≡ nat_cmp x y → v < k → w < k → nat_cmp (x * k + v) (y * k + w) ≡ ordering_then o (nat_cmp v w)
nat_cmp-digit k x y v w Less e v_below w_below =
    let below : x < y = ranked x y Less e in
    let far : x * k + k ≤ y * k = row_below x y k below in
    grind (arith, nat_tests)
nat_cmp-digit k x y v w Equal e v_below w_below =
    let same : x ≡ y = ranked x y Equal e in
    rw same (nat_cmp-leading (y * k) v w)
nat_cmp-digit k x y v w Greater e v_below w_below =
    let below : y < x = ranked x y Greater e in
    let far : y * k + k ≤ x * k = row_below y x k below in
    grind (arith, nat_tests)

-- equally long words compare as their numbers
slice_cmp-number : (n : ℕ) (u v : List ℕ) → length u ≡ length v → IsOver n u → IsOver n v → slice_cmp nat_cmp u v ≡ nat_cmp (number_of n u) (number_of n v)
slice_cmp-number n [] [] same p q = sym (tied_itself nat_cmp_total 0)
slice_cmp-number n [] (y ∷ v) same p q = absurd (omega arith)
slice_cmp-number n (x ∷ u) [] same p q = absurd (omega arith)
slice_cmp-number n (x ∷ u) (y ∷ v) same p q =
    let rest : length u ≡ length v = omega arith in
    let u_over = All-tail (λ a. a < n) x u p in
    let v_over = All-tail (λ a. a < n) y v q in
    ap (ordering_then (nat_cmp x y)) (slice_cmp-number n u v rest u_over v_over)
    ∙ sym (nat_cmp-digit (n ^ length v) x y (number_of n u) (number_of n v) (nat_cmp x y) refl (rw (← rest) (number_below n u u_over)) (number_below n v v_over))
    ∙ ap (λ k. nat_cmp (x * n ^ k + number_of n u) (y * n ^ length v + number_of n v)) (sym rest)

ordering_then-equal : (o : Ordering) → ordering_then o Equal ≡ o
ordering_then-equal Less = refl
ordering_then-equal Equal = refl
ordering_then-equal Greater = refl

-- the order of words over n letters is the order of their ranks
pub word_cmp-ranked : (n : ℕ) (u v : List ℕ) → IsOver n u → IsOver n v → word_cmp u v ≡ slice_cmp nat_cmp (rank_of n u) (rank_of n v)
word_cmp-ranked n u v p q = go (nat_cmp (length u) (length v)) refl
  where
    go : (o : Ordering) → o ≡ nat_cmp (length u) (length v) → word_cmp u v ≡ slice_cmp nat_cmp (rank_of n u) (rank_of n v)
    go Less e = ap (λ o. ordering_then o (slice_cmp nat_cmp u v)) (sym e) ∙ ap (λ o. ordering_then o (ordering_then (nat_cmp (number_of n u) (number_of n v)) Equal)) e
    go Greater e = ap (λ o. ordering_then o (slice_cmp nat_cmp u v)) (sym e) ∙ ap (λ o. ordering_then o (ordering_then (nat_cmp (number_of n u) (number_of n v)) Equal)) e
    go Equal e =
        ap (ordering_then (nat_cmp (length u) (length v)))
        (slice_cmp-number n u v (ranked (length u) (length v) Equal e) p q ∙ sym (ordering_then-equal (nat_cmp (number_of n u) (number_of n v))))

pub word_cmp-least : (u : List ℕ) → (u ≡ []) ⊎ (word_cmp [] u ≡ Less)
word_cmp-least [] = inl refl
word_cmp-least (x ∷ u) = inr (word_cmp-shorter [] (x ∷ u) (omega arith))

-- for words over the letters below any number
pub word_cmp-admissible : (letters : ℕ) → IsAdmissible letters word_cmp (rank_of letters)
word_cmp-admissible letters = record {
  total = word_cmp_total;
  same = word_cmp-same;
  least = word_cmp-least;
  around = λ l u v r below. word_cmp-around l u v r ∙ below;
  rank_short = λ u. omega arith;
  rank_length = λ u v. refl;
  ranked = word_cmp-ranked letters;
}
