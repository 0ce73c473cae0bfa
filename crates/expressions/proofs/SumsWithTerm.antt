-- Descending terms and one more, which is inserted after all that are above it.
use Rattle.expressions.proofs.Prelude.{◌≡◌, ◌≢◌, ℕ, zero, suc, ◌+◌, ◌<◌, ◌≤◌, ℤ, pos, ◌+ℤ◌, List, [], ◌∷◌, ◌++◌, length, take, drop, get_or, Option, Some, None, Result, Ok, Err, sym, refl, ap, subst, ◌∙◌, arith, +ℤ_idl, +ℤ_idr, drop-cons, back_total, get_or-drop, length-drop, All-head, All-tail, All-drop, searchable_from_sorted, All, AllWithin, HoldsAt, insert, IsNonDecreasingBy, IsBinarySearchResult, is_lt, ordering_index, Ordering, Less, Equal, Greater, Overflow, IsCoefficient, sum_of, first_overflow, word_cmp, word_cmp_total, word_cmp-same, word_cmp-itself, word_cmp-turned, word_cmp-turned_back, Term, PolyFault, Pair, keep, by_order, aligned, totals, total_operations, unless_overflow, IsShaped, first-fails, join, total_from, checked-fits, keep-append, keep-nonzero}
use Rattle.nc_polynomial.specs.declared.fault.PolyFault.TheVariants as fault

-- terms put before a sum
join-none : (r : Result (List Term) PolyFault) → r ≡ join [] r
join-none (Ok xs) = refl
join-none (Err e) = refl

join-more : (x : Term) (out : List Term) (r : Result (List Term) PolyFault) → join (x ∷ []) (join out r) ≡ join (x ∷ out) r
join-more x out (Ok xs) = refl
join-more x out (Err e) = refl

-- a sum that fits makes a term, unless it is zero
sum-fits : (a b : ℤ) (w : List ℕ) (rest : List Pair) → IsCoefficient (a +ℤ b) → total_from ((a, b, w) ∷ rest) ≡ join (keep (a +ℤ b) w []) (total_from rest)
sum-fits a b w rest fits = checked-fits (sum_of a b) (total_operations rest) (keep (a +ℤ b) w (totals rest)) fits ∙ go (first_overflow (total_operations rest))
  where
    go : (o : Option Overflow) → unless_overflow o (Ok (keep (a +ℤ b) w (totals rest))) ≡ join (keep (a +ℤ b) w []) (unless_overflow o (Ok (totals rest)))
    go None = ap Ok (keep-append (a +ℤ b) w (totals rest))
    go (Some o) = refl

sum-fails : (a b : ℤ) (w : List ℕ) (rest : List Pair) → ¬ IsCoefficient (a +ℤ b) → total_from ((a, b, w) ∷ rest) ≡ Err (fault.Overflow (sum_of a b))
sum-fails a b w rest fails = ap (λ o. unless_overflow o (Ok (totals ((a, b, w) ∷ rest)))) (first-fails (sum_of a b) (total_operations rest) fails)

-- a coefficient other than zero, and its sum with zero
abbrev IsTerm : Term → Type 0
IsTerm t = IsCoefficient t.0 × (t.0 ≢ pos 0)

term-stays : (a b : ℤ) (t : Term) (rest : List Pair) → a +ℤ b ≡ t.0 → IsTerm t → total_from ((a, b, t.1) ∷ rest) ≡ join (t ∷ []) (total_from rest)
term-stays a b t rest total is =
    sum-fits a b t.1 rest (subst IsCoefficient (sym total) is.0)
    ∙ ap (λ out. join out (total_from rest)) (ap (λ z. keep z t.1 []) total ∙ keep-nonzero t.0 t.1 [] is.1)

alone : (p : List Term) → All IsTerm p → total_from (aligned p []) ≡ Ok p
alone [] terms = refl
alone (x ∷ p) terms = term-stays x.0 (pos 0) x (aligned p []) (+ℤ_idr x.0) (All-head IsTerm x p terms) ∙ ap (join (x ∷ [])) (alone p (All-tail IsTerm x p terms))

module _ (c : ℤ) (w : List ℕ) where
  abbrev sum_with : List Term → Result (List Term) PolyFault
  sum_with p = total_from (aligned p ((c, w) ∷ []))

  -- the first term is below the word, or has it, or is above it
  abbrev pairs : Term → List Term → Ordering → List Pair
  pairs x p o = by_order o ((pos 0, c, w) ∷ aligned (x ∷ p) []) ((x.0, c, x.1) ∷ aligned p []) ((x.0, pos 0, x.1) ∷ aligned p ((c, w) ∷ []))

  behind : (p : List Term) (i : ℕ) → All IsTerm p → AllWithin (λ t. word_cmp w t.1 ≡ Less) p 0 i → sum_with p ≡ join (take i p) (sum_with (drop i p))
  behind p zero terms above = join-none (sum_with p)
  behind [] (suc i) terms above = join-none (sum_with [])
  behind (x ∷ p) (suc i) terms above =
      ap (λ o. total_from (pairs x p o)) (word_cmp-turned w x.1 (above 0 x (omega arith) (omega arith)))
      ∙ term-stays x.0 (pos 0) x (aligned p ((c, w) ∷ [])) (+ℤ_idr x.0) (All-head IsTerm x p terms)
      ∙ ap (join (x ∷ [])) (behind p i (All-tail IsTerm x p terms) (λ k d low high. above (suc k) d (omega arith) (omega arith)))
      ∙ join-more x (take i p) (sum_with (drop i p))

  before : (p : List Term) → All IsTerm p → ((d : Term) → 0 < length p → word_cmp w (get_or p 0 d).1 ≡ Greater) → IsTerm (c, w) → sum_with p ≡ Ok ((c, w) ∷ p)
  before [] terms below is = term-stays (pos 0) c (c, w) [] (+ℤ_idl c) is
  before (x ∷ p) terms below is =
      ap (λ o. total_from (pairs x p o)) (word_cmp-turned_back w x.1 (below x (omega arith)))
      ∙ term-stays (pos 0) c (c, w) (aligned (x ∷ p) []) (+ℤ_idl c) is
      ∙ ap (join ((c, w) ∷ [])) (alone (x ∷ p) terms)

  at_word : (x : Term) (p : List Term) → w ≡ x.1 → sum_with (x ∷ p) ≡ total_from ((x.0, c, w) ∷ aligned p [])
  at_word x p same =
      ap (λ o. total_from (pairs x p o)) (ap (word_cmp x.1) same ∙ word_cmp-itself x.1)
      ∙ ap (λ v. total_from ((x.0, c, v) ∷ aligned p [])) (sym same)

module _ (p : List Term) (shaped : IsShaped p) (c : ℤ) (w : List ℕ) (i : ℕ) where
  terms_from : (n : ℕ) → All IsTerm (drop n p)
  terms_from n = All-drop IsTerm n p (λ k d inside. (shaped.in_range k d inside, shaped.nonzero k d inside))

  rises : IsNonDecreasingBy (λ t. ordering_index (word_cmp w t.1)) p
  rises = searchable_from_sorted (back_total word_cmp_total) (λ t. t.1) p w (λ k d low high. ap is_lt (shaped.descending k (k + 1) d (omega arith) high))

  -- where no term has the word, it is put between those above it and those below it
  pub sum-inserted : i ≤ length p → IsBinarySearchResult (λ t. word_cmp w t.1) p (Err i) → IsShaped ((c, w) ∷ []) → sum_with c w p ≡ Ok (insert p i (c, w))
  sum-inserted inside found term =
      behind c w p i (terms_from 0) (found rises).0
      ∙ ap (join (take i p)) (before c w (drop i p) (terms_from i) below (term.in_range 0 (c, w) (omega arith), term.nonzero 0 (c, w) (omega arith)))
    where
      below : (d : Term) → 0 < length (drop i p) → word_cmp w (get_or (drop i p) 0 d).1 ≡ Greater
      below d some =
          let short = length-drop i p in
          rw (get_or-drop i p 0 d) ((found rises).1 (i + 0) d (omega arith) (omega arith))

  module _ (inside : i < length p) (there : HoldsAt (λ t. word_cmp w t.1 ≡ Equal) p i) (x : Term) (is : x ≡ get_or p i x) where
    same : (d : Term) → w ≡ (get_or p i d).1
    same d = word_cmp-same w (get_or p i d).1 (there d)

    sum-there : sum_with c w p ≡ join (take i p) (total_from ((x.0, c, w) ∷ aligned (drop (suc i) p) []))
    sum-there =
        behind c w p i (terms_from 0) above
        ∙ ap (join (take i p)) (ap (sum_with c w) (drop-cons p i x inside ∙ ap (λ t. t ∷ drop (suc i) p) (sym is)) ∙ at_word c w x (drop (suc i) p) (same x ∙ ap (λ (t : Term). t.1) (sym is)))
      where
        above : AllWithin (λ t. word_cmp w t.1 ≡ Less) p 0 i
        above k d low high = ap (λ v. word_cmp v (get_or p k d).1) (same d) ∙ word_cmp-turned_back (get_or p k d).1 (get_or p i d).1 (shaped.descending k i d high inside)

    -- where one has the word, its coefficient becomes the sum of both
    pub sum-changed : IsCoefficient (x.0 +ℤ c) → sum_with c w p ≡ Ok (take i p ++ keep (x.0 +ℤ c) w (drop (suc i) p))
    sum-changed fits =
        let back = drop (suc i) p in
        sum-there
        ∙ ap (join (take i p)) (sum-fits x.0 c w (aligned back []) fits ∙ ap (join (keep (x.0 +ℤ c) w [])) (alone back (terms_from (suc i))))
        ∙ ap (λ l. Ok (take i p ++ l)) (sym (keep-append (x.0 +ℤ c) w back))

    pub sum-overflows : ¬ IsCoefficient (x.0 +ℤ c) → sum_with c w p ≡ Err (fault.Overflow (sum_of x.0 c))
    sum-overflows fails = sum-there ∙ ap (join (take i p)) (sum-fails x.0 c w (aligned (drop (suc i) p) []) fails)
