-- Sums that are made in the place of one of the lists.
use Rattle.rule_reduce.proofs.Prelude.{+ℤ_idl, cases_lt, back_total, All-drop, searchable_from_sorted, ◌≡◌, ◌≢◌, inl, inr, ℕ, ◌+◌, ◌<◌, ◌≤◌, ℤ, pos, ◌+ℤ◌, List, [], ◌∷◌, ◌++◌, length, take, drop, get_or, true, Some, None, Result, Ok, Err, refl, sym, ap, ap₂, ◌∙◌, subst, arith, append_assoc, All, AllWithin, HoldsAt, IsPartitionedBy, IsPartitionPoint, IsBinarySearchResult, is_gt, is_lt, Ordering, Less, Equal, Greater, append-nil, get_or-take, get_or-drop, length-take, length-drop, length-append, take_all, drop_all, drop_more, take-append-drop, take-take, drop-take, drop-drop, take_at, drop_at, IsCoefficient, sum_of, first_overflow, Term, word_cmp, word_cmp_total, word_cmp-same, word_cmp-itself, word_cmp-turned, word_cmp-turned_back, word_cmp-trans, PolyFault, IsDescending, aligned, aligned_at, by_order, keep, added, totals, total_operations, unless_overflow, IsShaped, join, keep-nonzero, one-fits, one-fails, total_from, sum_from, term_at, IsPut}
use Rattle.nc_polynomial.specs.declared.fault.PolyFault.TheVariants as fault
use Rattle.rule_reduce.proofs.InFront.{in_front}

-- a term that is no zero is put behind a front
pub put_nonzero : (front behind p : List Term) (z : ℤ) (w : List ℕ) (next : ℕ) → z ≢ pos 0 → p ≡ front ++ (z, w) ∷ behind → next ≡ length front + 1 → IsPut front z w behind next p
put_nonzero front behind p z w next nonzero is count =
    let one : front ++ keep z w [] ≡ front ++ (z, w) ∷ [] = ap (λ l. front ++ l) (keep-nonzero z w [] nonzero) in
    record {
      whole = is ∙ sym (ap (λ l. l ++ behind) one ∙ append_assoc front ((z, w) ∷ []) behind);
      begins = count ∙ sym (ap length one ∙ length-append front ((z, w) ∷ []));
    }

-- and one that is zero is left out
pub put_zero : (front behind p : List Term) (z : ℤ) (w : List ℕ) (next : ℕ) → z ≡ pos 0 → p ≡ front ++ behind → next ≡ length front → IsPut front z w behind next p
put_zero front behind p z w next zero is count =
    let none : front ++ keep z w [] ≡ front = ap (λ y. front ++ keep y w []) zero ∙ append-nil front in
    record { whole = is ∙ sym (ap (λ l. l ++ behind) none); begins = count ∙ sym (ap length none) }

-- what stands in front of the place, and from it on
put_front : (front behind p : List Term) (z : ℤ) (w : List ℕ) (next : ℕ) → IsPut front z w behind next p → take next p ≡ front ++ keep z w []
put_front front behind p z w next put = ap (take next) put.whole ∙ take_at (front ++ keep z w []) behind next (sym put.begins)

pub put_behind : (front behind p : List Term) (z : ℤ) (w : List ℕ) (next : ℕ) → IsPut front z w behind next p → drop next p ≡ behind
put_behind front behind p z w next put = ap (drop next) put.whole ∙ drop_at (front ++ keep z w []) behind next (sym put.begins)

-- the sum from a place on stands behind what is in front of the place
pub sum_from-join : (at : ℕ) (p q : List Term) → sum_from at p q ≡ join (take at p) (total_from (aligned (drop at p) q))
sum_from-join at p q =
    elim (first_overflow (total_operations (aligned (drop at p) q))) as (λ o. unless_overflow o (Ok (take at p ++ added (drop at p) q)) ≡ join (take at p) (unless_overflow o (Ok (added (drop at p) q))))
    [ None ↦ refl | Some o ↦ refl ]

join-join : (a b : List Term) (r : Result (List Term) PolyFault) → join a (join b r) ≡ join (a ++ b) r
join-join a b (Ok xs) = ap Ok (sym (append_assoc a b xs))
join-join a b (Err e) = refl

-- the sum goes on behind a term that is put
pub put_on : (front behind p : List Term) (a b : ℤ) (w : List ℕ) (next : ℕ) → IsPut front (a +ℤ b) w behind next p → IsCoefficient (a +ℤ b) → (q : List Term)
    → join front (total_from ((a, b, w) ∷ aligned behind q)) ≡ sum_from next p q
put_on front behind p a b w next put fits q =
    one-fits (sum_of a b) (total_operations (aligned behind q)) w front (totals (aligned behind q)) fits
    ∙ ap₂ (λ l m. join l (total_from (aligned m q))) (sym (put_front front behind p (a +ℤ b) w next put)) (sym (put_behind front behind p (a +ℤ b) w next put))
    ∙ sym (sum_from-join next p q)

-- two fronts one behind the other
fronts : (n i : ℕ) (p : List Term) → take n p ++ take i (drop n p) ≡ take (n + i) p
fronts n i p = ap₂ (λ l m. l ++ m) (sym (take-take n (n + i) p (omega arith))) (sym (drop-take n i p)) ∙ take-append-drop n (take (n + i) p)

-- terms above a word are passed over
pub passed_over : (n i : ℕ) (p q : List Term) (c : ℤ) (w : List ℕ) → IsShaped (drop n p) → All (λ t. word_cmp t.1 w ≡ Greater) (take i (drop n p))
    → sum_from n p ((c, w) ∷ q) ≡ join (take (n + i) p) (total_from (aligned (drop (n + i) p) ((c, w) ∷ q)))
passed_over n i p q c w shaped above =
    sum_from-join n p ((c, w) ∷ q)
    ∙ ap (join (take n p)) (in_front i (drop n p) ((c, w) ∷ q) shaped above)
    ∙ join-join (take n p) (take i (drop n p)) (total_from (aligned (drop i (drop n p)) ((c, w) ∷ q)))
    ∙ ap₂ (λ l m. join l (total_from (aligned m ((c, w) ∷ q)))) (fronts n i p) (drop-drop i n p)

is_greater : (o : Ordering) → is_gt o ≡ true → o ≡ Greater
is_greater o h = grind arith

-- the first terms that are above a word
pub all_above : (p : List Term) (w : List ℕ) (n : ℕ) → AllWithin (λ t. is_gt (word_cmp t.1 w) ≡ true) p 0 n → All (λ t. word_cmp t.1 w ≡ Greater) (take n p)
all_above p w n each k d below =
    let inside : k < n = omega (arith, below, length-take n p) in
    subst (λ (t : Term). word_cmp t.1 w ≡ Greater) (sym (get_or-take n p k d inside)) (is_greater (word_cmp (get_or p k d).1 w) (each k d (omega arith) inside))

pub parted_by : (p : List Term) (w : List ℕ) → IsDescending p → IsPartitionedBy (λ t. is_gt (word_cmp t.1 w)) p
parted_by p w descends i j d low high above = elim (cases_lt i j) [
  | inl before ↦ ap is_gt (word_cmp-trans (get_or p i d).1 (get_or p j d).1 w (descends i j d before high) (is_greater (word_cmp (get_or p j d).1 w) above))
  | inr past ↦ let same : i ≡ j = omega arith in subst (λ n. is_gt (word_cmp (get_or p n d).1 w) ≡ true) (sym same) above
]

-- what is behind a place keeps its shape
pub shaped-drop : (n : ℕ) (p : List Term) → IsShaped p → IsShaped (drop n p)
shaped-drop n p shaped = record {
  descending = λ i j d low high.
      let short = length-drop n p in
      ap₂ (λ (t u : Term). word_cmp t.1 u.1) (get_or-drop n p i d) (get_or-drop n p j d) ∙ shaped.descending (n + i) (n + j) d (omega (arith, low)) (omega (arith, high, short));
  nonzero = All-drop (λ t. t.0 ≢ pos 0) n p shaped.nonzero;
  in_range = All-drop (λ t. IsCoefficient t.0) n p shaped.in_range;
}

-- where nothing is left to be added, all stays
pub all_added : (at : ℕ) (p : List Term) → IsShaped (drop at p) → sum_from at p [] ≡ Ok p
all_added at p shaped =
    let back = drop at p in
    let none : drop (length back) back ≡ [] = drop_all (length back) back (omega arith) in
    let all : take (length back) back ≡ back = take_all (length back) back (omega arith) in
    sum_from-join at p []
    ∙ ap (join (take at p)) (in_front (length back) back [] shaped tt ∙ ap₂ (λ l m. join l (total_from (aligned m []))) all none ∙ ap Ok (append-nil back))
    ∙ ap Ok (take-append-drop at p)

-- a term c w is added to those of p from the place n on
module _ (p : List Term) (n : ℕ) (shaped : IsShaped (drop n p)) (c : ℤ) (w : List ℕ) (i : ℕ) where
  -- one of them has its word
  module _ (inside : n + i < length p) (there : HoldsAt (λ t. word_cmp w t.1 ≡ Equal) (drop n p) i) where
    same : (d : Term) → w ≡ (get_or (drop n p) i d).1
    same d = word_cmp-same w (get_or (drop n p) i d).1 (there d)

    above_found : All (λ t. word_cmp t.1 w ≡ Greater) (take i (drop n p))
    above_found k d below =
        let back = drop n p in
        let before : k < i = omega (arith, below, length-take i back) in
        let last : i < length back = omega (arith, inside, length-drop n p) in
        subst (λ (t : Term). word_cmp t.1 w ≡ Greater) (sym (get_or-take i back k d before))
        (subst (λ v. word_cmp (get_or back k d).1 v ≡ Greater) (sym (same d)) (shaped.descending k i d before last))

    found_pairs : (q : List Term) → aligned (drop (n + i) p) ((c, w) ∷ q) ≡ ((term_at p (n + i)).0, c, (term_at p (n + i)).1) ∷ aligned (drop (n + i + 1) p) q
    found_pairs q =
        let x = term_at p (n + i) in
        let rest = drop (n + i + 1) p in
        let is : w ≡ x.1 = same (pos 0, []) ∙ ap (λ (t : Term). t.1) (get_or-drop n p i (pos 0, [])) in
        let equal : word_cmp x.1 w ≡ Equal = ap (word_cmp x.1) is ∙ word_cmp-itself x.1 in
        ap (λ l. aligned l ((c, w) ∷ q)) (drop_more p (n + i) (pos 0, []) inside)
        ∙ ap (λ o. by_order o ((pos 0, c, w) ∷ aligned_at x q (aligned rest)) ((x.0, c, x.1) ∷ aligned rest q) ((x.0, pos 0, x.1) ∷ aligned rest ((c, w) ∷ q))) equal

    found_step : (q : List Term) → sum_from n p ((c, w) ∷ q) ≡ join (take (n + i) p) (total_from (((term_at p (n + i)).0, c, (term_at p (n + i)).1) ∷ aligned (drop (n + i + 1) p) q))
    found_step q = passed_over n i p q c w shaped above_found ∙ ap (λ pairs. join (take (n + i) p) (total_from pairs)) (found_pairs q)

    pub added_found : (next : ℕ) (r : List Term) → IsPut (take (n + i) p) ((term_at p (n + i)).0 +ℤ c) (term_at p (n + i)).1 (drop (n + i + 1) p) next r → IsCoefficient ((term_at p (n + i)).0 +ℤ c)
        → (q : List Term) → sum_from n p ((c, w) ∷ q) ≡ sum_from next r q
    added_found next r put fits q = found_step q ∙ put_on (take (n + i) p) (drop (n + i + 1) p) r (term_at p (n + i)).0 c (term_at p (n + i)).1 next put fits q

    pub found_fails : ¬ IsCoefficient ((term_at p (n + i)).0 +ℤ c) → (q : List Term) → sum_from n p ((c, w) ∷ q) ≡ Err (fault.Overflow (sum_of (term_at p (n + i)).0 c))
    found_fails fails q =
        let x = term_at p (n + i) in
        let rest = aligned (drop (n + i + 1) p) q in
        found_step q ∙ one-fails (sum_of x.0 c) (total_operations rest) (take (n + i) p) (keep (x.0 +ℤ c) x.1 (totals rest)) fails

  -- none of them has it
  module _ (found : IsBinarySearchResult (λ t. word_cmp w t.1) (drop n p) (Err i)) (inside : i ≤ length (drop n p)) where
    parts : IsPartitionPoint (λ t. word_cmp w t.1 ≡ Less) (λ t. word_cmp w t.1 ≡ Greater) (drop n p) i
    parts = found (searchable_from_sorted (back_total word_cmp_total) (λ t. t.1) (drop n p) w (λ k d low high. ap is_lt (shaped.descending k (k + 1) d (omega arith) high)))

    above_absent : All (λ t. word_cmp t.1 w ≡ Greater) (take i (drop n p))
    above_absent k d below =
        let back = drop n p in
        let before : k < i = omega (arith, below, length-take i back) in
        subst (λ (t : Term). word_cmp t.1 w ≡ Greater) (sym (get_or-take i back k d before)) (word_cmp-turned w (get_or back k d).1 (parts.0 k d (omega arith) before))

    below_absent : (d : Term) → 0 < length (drop i (drop n p)) → word_cmp w (get_or (drop i (drop n p)) 0 d).1 ≡ Greater
    below_absent d some =
        let short = length-drop i (drop n p) in
        subst (λ (t : Term). word_cmp w t.1 ≡ Greater) (sym (get_or-drop i (drop n p) 0 d)) (parts.1 (i + 0) d (omega arith) (omega (arith, some, short)))

    first_pair : (l q : List Term) → ((d : Term) → 0 < length l → word_cmp w (get_or l 0 d).1 ≡ Greater) → aligned l ((c, w) ∷ q) ≡ (pos 0, c, w) ∷ aligned l q
    first_pair [] q below = refl
    first_pair (x ∷ l) q below =
        ap (λ o. by_order o ((pos 0, c, w) ∷ aligned_at x q (aligned l)) ((x.0, c, x.1) ∷ aligned l q) ((x.0, pos 0, x.1) ∷ aligned l ((c, w) ∷ q))) (word_cmp-turned_back w x.1 (below x (omega arith)))

    absent_step : (q : List Term) → sum_from n p ((c, w) ∷ q) ≡ join (take (n + i) p) (total_from ((pos 0, c, w) ∷ aligned (drop (n + i) p) q))
    absent_step q =
        passed_over n i p q c w shaped above_absent
        ∙ ap (λ pairs. join (take (n + i) p) (total_from pairs))
        (subst (λ l. aligned l ((c, w) ∷ q) ≡ (pos 0, c, w) ∷ aligned l q) (drop-drop i n p) (first_pair (drop i (drop n p)) q below_absent))

    pub added_absent : (next : ℕ) (r : List Term) → IsPut (take (n + i) p) c w (drop (n + i) p) next r → IsCoefficient c → (q : List Term) → sum_from n p ((c, w) ∷ q) ≡ sum_from next r q
    added_absent next r put fits q =
        let same : pos 0 +ℤ c ≡ c = +ℤ_idl c in
        absent_step q ∙ put_on (take (n + i) p) (drop (n + i) p) r (pos 0) c w next
        (subst (λ z. IsPut (take (n + i) p) z w (drop (n + i) p) next r) (sym same) put) (subst IsCoefficient (sym same) fits) q
