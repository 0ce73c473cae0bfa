-- Words that begin with the same letters.
use Rattle.closed_checker.proofs.Prelude.{◌≡◌, ◌↔◌, ℕ, suc, ◌<◌, ◌≤◌, true, false, List, [], ◌∷◌, ◌++◌, length, take, drop, refl, sym, ap, ap₂, ◌∙◌, arith, nat_cmp_is, slice_cmp, is_lt, nat_cmp, ordering_then, Ordering, Less, Equal, Greater, ranked, append-nil, take-append-drop, length-drop, length-take-le, drop_all, take_all, take-take, rank_of, rank_at}

-- the word begins with these letters
abbrev pub BeginsWith : List ℕ → List ℕ → Type 0
BeginsWith front word = take (length front) word ≡ front

-- one letter more
pub begins-more : (front : List ℕ) (letter : ℕ) (word : List ℕ)
    → BeginsWith (front ++ letter ∷ []) word ↔ (BeginsWith front word × (rank_at (length front) word ≡ suc letter))
begins-more [] letter [] = (λ e. absurd (cc), λ both. absurd (omega (arith, both.1)))
begins-more [] letter (x ∷ word) = (λ e. (refl, cc), λ both. let same : x ≡ letter = omega (arith, both.1) in ap (λ n. n ∷ []) same)
begins-more (f ∷ front) letter [] = (λ e. absurd (cc), λ both. let e = both.0 in absurd (cc))
begins-more (f ∷ front) letter (x ∷ word) = (
  λ e.
      let same : x ≡ f = cc in
      let rest = (begins-more front letter word).0 (cc) in (ap₂ ◌∷◌ same rest.0, rest.1),
  λ both.
      let e = both.0 in
      let same : x ≡ f = cc in
      let tail : take (length front) word ≡ front = cc in
      ap₂ ◌∷◌ same ((begins-more front letter word).1 (tail, both.1)),
)

-- where two words begin alike and the second isn't below the first, letter by letter, it isn't at the next letter
pub ranks_ascend : (front first second : List ℕ) → is_lt (slice_cmp nat_cmp second first) ≡ false → BeginsWith front first → BeginsWith front second
    → rank_at (length front) first ≤ rank_at (length front) second
ranks_ascend [] [] second sorted one other = omega arith
ranks_ascend [] (x ∷ first) [] sorted one other = absurd (cc)
ranks_ascend [] (x ∷ first) (y ∷ second) sorted one other = go (nat_cmp y x) refl
  where
    go : (o : Ordering) → o ≡ nat_cmp y x → suc x ≤ suc y
    go Less e =
        let less : is_lt (ordering_then (nat_cmp y x) (slice_cmp nat_cmp second first)) ≡ true =
        ap (λ r. is_lt (ordering_then r (slice_cmp nat_cmp second first))) (sym e) in
        absurd (cc)
    go Equal e = let same : y ≡ x = ranked y x Equal e in omega (arith, same)
    go Greater e = let above : x < y = ranked y x Greater e in omega (arith, above)
ranks_ascend (f ∷ front) [] second sorted one other = absurd (cc)
ranks_ascend (f ∷ front) (x ∷ first) [] sorted one other = absurd (cc)
ranks_ascend (f ∷ front) (x ∷ first) (y ∷ second) sorted one other =
    let same : y ≡ x = cc in
    let level : nat_cmp y x ≡ Equal = sym (nat_cmp_is y x Equal same) in
    ranks_ascend front first second (sym (ap (λ o. is_lt (ordering_then o (slice_cmp nat_cmp second first))) level) ∙ sorted) (cc) (cc)

-- ranks and lengths
rank_of-nil : (w : List ℕ) → rank_of w ≡ 0 → w ≡ []
rank_of-nil [] e = refl
rank_of-nil (x ∷ w) e = absurd (omega (arith, e))

rank_of-some : (w : List ℕ) → 0 < length w → 0 < rank_of w
rank_of-some [] some = absurd (omega (arith, some))
rank_of-some (x ∷ w) some = omega arith

length-some : (w : List ℕ) → 0 < rank_of w → 0 < length w
length-some [] some = absurd (omega (arith, some))
length-some (x ∷ w) some = omega arith

pub rank_at-longer : (n : ℕ) (w : List ℕ) → n < length w → 0 < rank_at n w
rank_at-longer n w longer = rank_of-some (drop n w) (omega (arith, longer, length-drop n w))

pub longer-by_rank : (n : ℕ) (w : List ℕ) → 0 < rank_at n w → n < length w
longer-by_rank n w some = omega (arith, length-some (drop n w) some, length-drop n w)

-- what ends behind the letters that it begins with is these
pub ended-is : (front w : List ℕ) → BeginsWith front w → rank_at (length front) w ≡ 0 → w ≡ front
ended-is front w begins ended =
    sym (take-append-drop (length front) w) ∙ ap₂ ◌++◌ begins (rank_of-nil (drop (length front) w) ended) ∙ append-nil front

pub rank_at-itself : (w : List ℕ) (n : ℕ) → length w ≡ n → rank_at n w ≡ 0
rank_at-itself w n is = ap rank_of (drop_all n w (omega (arith, is)))

pub begins-itself : (w : List ℕ) → BeginsWith w w
begins-itself w = take_all (length w) w (omega arith)

-- the first letters of the letters with which a word begins
pub begins-shorter : (n : ℕ) (front w : List ℕ) → n ≤ length front → BeginsWith front w → BeginsWith (take n front) w
begins-shorter n front w within begins =
    ap (λ m. take m w) (length-take-le n front within)
    ∙ sym (take-take n (length front) w within)
    ∙ ap (take n) begins
