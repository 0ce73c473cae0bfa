-- Two adjoints change nothing: the adjoint of an adjoint is the polynomial itself, and none of them is a fault.
use Rattle.expressions.proofs.Prelude.{◌≡◌, ℕ, zero, suc, ◌+◌, ◌<◌, ◌≤◌, ◌⊎◌, inl, inr, pos, negsuc, ℤ, ◌+ℤ◌, Bool, true, false, not, cond, List, [], ◌∷◌, ◌++◌, length, map, get_or, None, Ok, sym, refl, ap, ap₂, subst, ◌∙◌, arith, append_assoc, +ℤ_idl, cases_lt, length-append, length-map, get_or_past, All-nil, All-cons, All-head, All-tail, All-map, both_ways, All, Ordering, Less, Equal, Greater, sum_of, first_overflow, IsCoefficient, word_cmp, adjoint_word, adjoint_poly, Poly, Term, word_eq, coefficient_of, Quiver, star, adjoint_word-append, word_eq-same, word_eq-true, collected, additions, collection_result, unless_overflow, sized, IsCanonical, Pair, only_right, keep, by_order, aligned, aligned_at, totals, first-fits, coefficient_of-collected, descending-collected, nonzero-collected, collected-end, AreDistinct, none_listed, distinct-descending, ranged-descending, coefficient-ranged, IsInRange, IsDescending-from_recursion, recursion_from_IsDescending, all_middle, word_eq-turned, Declaration, IsDeclared, quiver_of, stars_are_involution, Mark, Adjoint, Marked, due_poly, due_marked, mark_poly, marked_poly, ◌>>=◌}
use Rattle.nc_polynomial.specs.declared.poly.Poly as code
use Rattle.expressions.proofs.Canonical.{in_range-adjoint_poly}
use Rattle.expressions.proofs.Words.{words-adjoint, words-collected}
use Rattle.expressions.proofs.WordRuns.{sized-canonical, bind-assoc}

-- the size of what terms add up to
length-keep : (z : ℤ) (w : List ℕ) (p : Poly) → length (keep z w p) ≤ length p + 1
length-keep (pos zero) w p = omega arith
length-keep (pos (suc n)) w p = omega arith
length-keep (negsuc n) w p = omega arith

length-totals : (pairs : List Pair) → length (totals pairs) ≤ length pairs
length-totals [] = omega arith
length-totals (a ∷ rest) = omega (arith, length-keep (a.0 +ℤ a.1) a.2 (totals rest), length-totals rest)

length-aligned_at : (x : Term) (n : ℕ) (rest : Poly → List Pair) → ((q : Poly) → length (rest q) ≤ n + length q) → (q : Poly) → length (aligned_at x q rest) ≤ n + length q + 1
length-aligned_at x n rest h [] = omega (arith, h [])
length-aligned_at x n rest h (y ∷ q) = go (word_cmp x.1 y.1) (length-aligned_at x n rest h q) (h q) (h (y ∷ q))
  where
    go : (o : Ordering) → length (aligned_at x q rest) ≤ n + length q + 1 → length (rest q) ≤ n + length q → length (rest (y ∷ q)) ≤ n + length (y ∷ q)
        → length (by_order o ((pos 0, y.0, y.1) ∷ aligned_at x q rest) ((x.0, y.0, x.1) ∷ rest q) ((x.0, pos 0, x.1) ∷ rest (y ∷ q))) ≤ n + length (y ∷ q) + 1
    go Less a b c = omega arith
    go Equal a b c = omega arith
    go Greater a b c = omega arith

length-aligned : (p q : Poly) → length (aligned p q) ≤ length p + length q
length-aligned [] q = let same : length (map only_right q) ≡ length q = length-map q only_right in omega (arith, same)
length-aligned (x ∷ p) q = omega (arith, length-aligned_at x (length p) (aligned p) (length-aligned p) q)

pub length-collected : (p : Poly) → length (collected p) ≤ length p
length-collected [] = omega arith
length-collected (t ∷ p) = omega (arith, length-totals (aligned (t ∷ []) (collected p)), length-aligned (t ∷ []) (collected p), length-collected p)

pub length-adjoint_word : (q : Quiver) (w : List ℕ) → length (adjoint_word q w) ≡ length w
length-adjoint_word q [] = refl
length-adjoint_word q (a ∷ w) = let more : length (adjoint_word q w ++ (star q a ∷ [])) ≡ length (adjoint_word q w) + 1 = length-append (adjoint_word q w) (star q a ∷ []) in omega (arith, more, length-adjoint_word q w)

-- terms with different words add up without a sum
before_last : (done : List Term) (t : Term) (rest : List Term) → AreDistinct (done ++ t ∷ rest) → All (λ u. word_eq u.1 t.1 ≡ false) done
before_last [] t rest d = All-nil _
before_last (u ∷ done) t rest d = All-cons (λ x. word_eq x.1 t.1 ≡ false) u done (word_eq-turned u.1 t.1 ∙ all_middle (λ x. word_eq x.1 u.1 ≡ false) done t rest d.0) (before_last done t rest d.1)

additions-fit : (done rest : List Term) → AreDistinct (done ++ rest) → All (λ t. IsCoefficient t.0) rest → first_overflow (additions done rest) ≡ None
additions-fit done [] d h = refl
additions-fit done (t ∷ rest) d h =
    let none : coefficient_of done t.1 ≡ pos 0 = none_listed t.1 done (before_last done t rest d) in
    first-fits (sum_of (coefficient_of done t.1) t.0) (additions (done ++ t ∷ []) rest) (subst IsCoefficient (sym (ap (λ k. k +ℤ t.0) none ∙ +ℤ_idl t.0)) (All-head IsInRange t rest h))
    ∙ additions-fit (done ++ t ∷ []) rest (subst AreDistinct (sym (append_assoc done (t ∷ []) rest)) d) (All-tail IsInRange t rest h)

-- adjoints
module _ (q : Quiver) (twice : (w : List ℕ) → adjoint_word q (adjoint_word q w) ≡ w) where
  word_eq-adjoint : (v w : List ℕ) → word_eq (adjoint_word q v) w ≡ word_eq v (adjoint_word q w)
  word_eq-adjoint v w = both_ways (word_eq (adjoint_word q v) w) (word_eq v (adjoint_word q w))
      (λ same. ap (word_eq v) (ap (adjoint_word q) (sym (word_eq-true (adjoint_word q v) w same)) ∙ twice v) ∙ word_eq-same v)
      (λ same. ap (λ x. word_eq x w) (ap (adjoint_word q) (word_eq-true v (adjoint_word q w) same) ∙ twice w) ∙ word_eq-same w)

  coefficient_of-adjoint : (p : Poly) (w : List ℕ) → coefficient_of (adjoint_poly q p) w ≡ coefficient_of p (adjoint_word q w)
  coefficient_of-adjoint [] w = refl
  coefficient_of-adjoint (t ∷ p) w = ap₂ (λ b x. cond b t.0 (pos 0) +ℤ x) (word_eq-adjoint t.1 w) (coefficient_of-adjoint p w)

  distinct-adjoint : (p : Poly) → AreDistinct p → AreDistinct (adjoint_poly q p)
  distinct-adjoint [] d = tt
  distinct-adjoint (t ∷ p) d = (
    All-map (λ (u : Term). word_eq u.1 (adjoint_word q t.1) ≡ false) _ p
        (λ k u below. let w = (get_or p k u).1 in word_eq-adjoint w (adjoint_word q t.1) ∙ ap (word_eq w) (twice t.1) ∙ d.0 k u below),
    distinct-adjoint p d.1,
  )

  module _ (p : Poly) (canonical : IsCanonical p) where
    abbrev pub adjoint_of : Poly
    adjoint_of = collected (adjoint_poly q p)

    falls : AreDistinct p
    falls = distinct-descending p (recursion_from_IsDescending p canonical.shaped.descending)

    same : (w : List ℕ) → coefficient_of adjoint_of w ≡ coefficient_of p (adjoint_word q w)
    same w = coefficient_of-collected (adjoint_poly q p) w ∙ coefficient_of-adjoint p w

    pub canonical-adjoint : IsCanonical adjoint_of
    canonical-adjoint = record {
      shaped = record {
        descending = IsDescending-from_recursion adjoint_of (descending-collected (adjoint_poly q p));
        nonzero = nonzero-collected (adjoint_poly q p);
        in_range = ranged-descending adjoint_of (descending-collected (adjoint_poly q p)) (λ w.
            subst IsCoefficient (sym (same w)) (coefficient-ranged p falls canonical.shaped.in_range (adjoint_word q w)));
      };
      short = words-collected (λ w. length w ≤ 500) (adjoint_poly q p)
          (words-adjoint (λ w. length w ≤ 500) (λ w. length w ≤ 500) q (λ w less. omega (arith, less, length-adjoint_word q w)) p canonical.short);
      few = let count : length (adjoint_poly q p) ≡ length p = length-map p _ in omega (arith, canonical.few, count, length-collected (adjoint_poly q p));
    }

    -- an adjoint is no fault
    pub adjoint-fits : collection_result (adjoint_poly q p) ≡ Ok adjoint_of
    adjoint-fits =
        ap (λ o. unless_overflow o (sized adjoint_of)) (additions-fit [] (adjoint_poly q p) (distinct-adjoint p falls) (in_range-adjoint_poly q p canonical.shaped.in_range))
        ∙ sized-canonical adjoint_of canonical-adjoint

  -- the adjoint of an adjoint
  pub adjoint-twice : (p : Poly) → (canonical : IsCanonical p) → collection_result (adjoint_poly q (adjoint_of p canonical)) ≡ Ok p
  adjoint-twice p canonical =
      let r = adjoint_of p canonical in
      let r_canonical = canonical-adjoint p canonical in
      collected-end (adjoint_poly q r) p
      (additions-fit [] (adjoint_poly q r) (distinct-adjoint r (falls r r_canonical)) (in_range-adjoint_poly q r r_canonical.shaped.in_range))
      (recursion_from_IsDescending p canonical.shaped.descending)
      canonical.shaped.nonzero
      (λ w. sym (coefficient_of-adjoint r w ∙ same p canonical (adjoint_word q w) ∙ ap (coefficient_of p) (twice w)))
      ∙ sized-canonical p canonical

-- adjoints of a polynomial over declared letters
module _ (ds : List Declaration) (declared : IsDeclared ds) where
  star_star : (a : ℕ) → star (quiver_of ds) (star (quiver_of ds) a) ≡ a
  star_star a = go (cases_lt a (length (quiver_of ds).stars))
    where
      go : (a < length (quiver_of ds).stars) ⊎ (length (quiver_of ds).stars ≤ a) → star (quiver_of ds) (star (quiver_of ds) a) ≡ a
      go (inl h) = (stars_are_involution ds declared).twice a h
      go (inr h) =
          let same : star (quiver_of ds) a ≡ a = get_or_past (quiver_of ds).stars a a h in
          ap (star (quiver_of ds)) same ∙ same

  turned_twice : (w : List ℕ) → adjoint_word (quiver_of ds) (adjoint_word (quiver_of ds) w) ≡ w
  turned_twice [] = refl
  turned_twice (a ∷ w) =
      adjoint_word-append (quiver_of ds) (adjoint_word (quiver_of ds) w) (star (quiver_of ds) a ∷ []) ∙ ap₂ ◌∷◌ (star_star a) (turned_twice w)

  adjoint-back : (p : Poly) → IsCanonical p → (collection_result (adjoint_poly (quiver_of ds) p) >>= mark_poly (quiver_of ds) Adjoint) ≡ Ok p
  adjoint-back p canonical =
      ap (λ r. r >>= mark_poly (quiver_of ds) Adjoint) (adjoint-fits (quiver_of ds) turned_twice p canonical)
      ∙ adjoint-twice (quiver_of ds) turned_twice p canonical

  -- a quote makes an adjoint due, and none where one was
  pub due-turned : (p : code.Poly) (due : Bool) → due_poly (quiver_of ds) (record { poly = p; due = not due }) ≡ due_marked (quiver_of ds) (record { poly = p; due = due }) Adjoint
  due-turned p false = refl
  due-turned p true = sym (adjoint-back p.terms p.canonical)

-- the marks that are left, after a polynomial with one more mark
pub due-next : (q : Quiver) (m next : Marked) (mark : Mark) (more : List Mark) → due_poly q next ≡ due_marked q m mark → (due_poly q next >>= marked_poly q more) ≡ (due_poly q m >>= marked_poly q (mark ∷ more))
due-next q m next mark more is = ap (λ r. r >>= marked_poly q more) is ∙ bind-assoc (due_poly q m) (mark_poly q mark) (marked_poly q more)
