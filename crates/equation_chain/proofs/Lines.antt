-- A line less a step is the next line.
use Rattle.equation_chain.proofs.Prelude.{◌≡◌, ◌≢◌, ℕ, zero, suc, ◌+◌, ◌≤◌, ℤ, pos, negsuc, ◌+ℤ◌, ◌*ℤ◌, neg_ℤ, List, [], ◌∷◌, ◌++◌, map, take, length, Result, Ok, Err, sym, refl, ap, ap₂, subst, ◌∙◌, arith, All, range_with_len, ints, *ℤ_comm, *ℤ-neg_ℤ, length-append, take-append-le, sum_by-cons, sum_by-append, map-range_with_len_more, length-map-range_with_len, Term, coefficient_of, SamePolynomial, poly_sum, poly_multiple, poly_between, row_poly, row_sum, coefficient_of-append, coefficient_of-multiple, PolyFault, scaled, products, added, sums, sized, combined, moved_result, and_then, Descends, recursion_from_IsDescending, descending-scaled, descending-added, nonzero-scaled, nonzero-added, descending_unique, coefficient_of-collected, descending-collected, nonzero-collected, SamePolynomial-added, SamePolynomial-scaled, sized-value, finished-value, shaped-between, CertRow, Certificate, row_of, rows_of, Problem, polynomials, generator_of, claim_in, line_less, lines_by, letters_in, letters_of, less_step, next_line, IsLess}
use Rattle.equation_chain.proofs.Generators.{generator_shaped}

-- where the generator could be moved, it was
pub after_moved : (l : List ℕ) (g : List Term) (r : List ℕ) (next : List Term → Result (List Term) PolyFault) (p : List Term)
    → and_then (moved_result l g r) next ≡ Ok p → next (poly_between l g r) ≡ Ok p
after_moved l g r next p made = go (sized (poly_between l g r)) refl made
  where
    go : (x : Result (List Term) PolyFault) → sized (poly_between l g r) ≡ x → and_then x next ≡ Ok p → next (poly_between l g r) ≡ Ok p
    go (Ok m) is made = subst (λ (n : List Term). next n ≡ Ok p) (sym (sized-value (poly_between l g r) m is)) made
    go (Err e) is made = absurd cc

-- the sum of both multiples
abbrev difference : List Term → List Term → CertRow → List Term
difference line g step = added (scaled (pos 1) line) (scaled (neg_ℤ step.coef) (poly_between step.left g step.right))

pub made_is : (line g : List Term) (step : CertRow) (p : List Term) → less_step line g step ≡ Ok p → difference line g step ≡ p
made_is line g step p made =
    let m : List Term = poly_between step.left g step.right in
    finished-value (products (pos 1) line ++ (products (neg_ℤ step.coef) m ++ sums (scaled (pos 1) line) (scaled (neg_ℤ step.coef) m))) (difference line g step) p
    (after_moved step.left g step.right (λ moved. combined (pos 1) line (neg_ℤ step.coef) moved) p made)

turned : (k m : ℤ) → neg_ℤ k *ℤ m ≡ negsuc 0 *ℤ (k *ℤ m)
turned k m =
    *ℤ_comm (neg_ℤ k) m ∙ *ℤ-neg_ℤ m k ∙ ap neg_ℤ (*ℤ_comm m k) ∙ negative (k *ℤ m)
  where
    negative : (n : ℤ) → neg_ℤ n ≡ negsuc 0 *ℤ n
    negative n = omega (arith, ints)

once : (k : ℤ) → pos 1 *ℤ k ≡ k
once k = omega (arith, ints)

-- it is the line less the step
difference_less : (line g : List Term) (step : CertRow) (w : List ℕ)
    → coefficient_of (difference line g step) w ≡ coefficient_of line w +ℤ coefficient_of (poly_multiple (negsuc 0) (poly_multiple step.coef (poly_between step.left g step.right))) w
difference_less line g step w =
    let m : List Term = poly_between step.left g step.right in
    (SamePolynomial-added (scaled (pos 1) line) (scaled (neg_ℤ step.coef) m)).at w
    ∙ coefficient_of-append (scaled (pos 1) line) (scaled (neg_ℤ step.coef) m) w
    ∙ ap₂ ◌+ℤ◌
    ((SamePolynomial-scaled (pos 1) line).at w ∙ coefficient_of-multiple (pos 1) line w ∙ once (coefficient_of line w))
    ((SamePolynomial-scaled (neg_ℤ step.coef) m).at w ∙ coefficient_of-multiple (neg_ℤ step.coef) m w ∙ turned step.coef (coefficient_of m w)
    ∙ sym (coefficient_of-multiple (negsuc 0) (poly_multiple step.coef m) w ∙ ap (λ k. negsuc 0 *ℤ k) (coefficient_of-multiple step.coef m w)))

-- the lines of a certificate
module _ (problem : Problem) (c : Certificate) where
  abbrev gs : List (List Term)
  gs = polynomials problem.generators

  -- the coefficients of a line
  pub less_at : (steps : List CertRow) (w : List ℕ)
      → coefficient_of (line_less problem c steps) w ≡ c.denominator *ℤ coefficient_of (claim_in problem c) w +ℤ negsuc 0 *ℤ coefficient_of (row_sum gs (rows_of steps)) w
  less_at steps w =
      let multiple : List Term = poly_multiple c.denominator (claim_in problem c) in
      let sum : List Term = row_sum gs (rows_of steps) in
      coefficient_of-collected (poly_sum multiple (poly_multiple (negsuc 0) sum)) w
      ∙ coefficient_of-append multiple (poly_multiple (negsuc 0) sum) w
      ∙ ap₂ ◌+ℤ◌ (coefficient_of-multiple c.denominator (claim_in problem c) w) (coefficient_of-multiple (negsuc 0) sum w)

  pub line_descends : (steps : List CertRow) → Descends (line_less problem c steps)
  line_descends steps = descending-collected (poly_sum (poly_multiple c.denominator (claim_in problem c)) (poly_multiple (negsuc 0) (row_sum gs (rows_of steps))))

  pub line_nonzero : (steps : List CertRow) → All (λ t. t.0 ≢ pos 0) (line_less problem c steps)
  line_nonzero steps = nonzero-collected (poly_sum (poly_multiple c.denominator (claim_in problem c)) (poly_multiple (negsuc 0) (row_sum gs (rows_of steps))))

  -- a descending list with its coefficients is the line
  pub line_is : (steps : List CertRow) (p : List Term) → Descends p → All (λ t. t.0 ≢ pos 0) p
      → ((w : List ℕ) → coefficient_of p w ≡ coefficient_of (line_less problem c steps) w) → p ≡ line_less problem c steps
  line_is steps p descends nonzero same = descending_unique p (line_less problem c steps) descends (line_descends steps) nonzero (line_nonzero steps) (record { at = same })

  -- a step more
  sum_more : (done : List CertRow) (step : CertRow) (w : List ℕ)
      → coefficient_of (row_sum gs (rows_of (done ++ step ∷ []))) w ≡ coefficient_of (row_sum gs (rows_of done)) w +ℤ coefficient_of (row_poly gs (row_of step)) w
  sum_more [] step w = coefficient_of-append (row_poly gs (row_of step)) [] w ∙ swap (coefficient_of (row_poly gs (row_of step)) w)
    where
      swap : (k : ℤ) → k +ℤ pos 0 ≡ pos 0 +ℤ k
      swap k = omega (arith, ints)
  sum_more (d ∷ done) step w =
      coefficient_of-append (row_poly gs (row_of d)) (row_sum gs (rows_of (done ++ step ∷ []))) w
      ∙ ap (λ k. coefficient_of (row_poly gs (row_of d)) w +ℤ k) (sum_more done step w)
      ∙ group (coefficient_of (row_poly gs (row_of d)) w) (coefficient_of (row_sum gs (rows_of done)) w) (coefficient_of (row_poly gs (row_of step)) w)
      ∙ ap (λ k. k +ℤ coefficient_of (row_poly gs (row_of step)) w) (sym (coefficient_of-append (row_poly gs (row_of d)) (row_sum gs (rows_of done)) w))
    where
      group : (a b k : ℤ) → a +ℤ (b +ℤ k) ≡ (a +ℤ b) +ℤ k
      group a b k = omega (arith, ints)

  -- the line after a step more is the line less that step
  pub less_more : (done : List CertRow) (step : CertRow) → SamePolynomial (line_less problem c (done ++ step ∷ [])) (poly_sum (line_less problem c done) (poly_multiple (negsuc 0) (row_poly gs (row_of step))))
  less_more done step = record {
    at = λ w.
        less_at (done ++ step ∷ []) w
        ∙ ap (λ k. c.denominator *ℤ coefficient_of (claim_in problem c) w +ℤ negsuc 0 *ℤ k) (sum_more done step w)
        ∙ spread (c.denominator *ℤ coefficient_of (claim_in problem c) w) (coefficient_of (row_sum gs (rows_of done)) w) (coefficient_of (row_poly gs (row_of step)) w)
        ∙ sym (coefficient_of-append (line_less problem c done) (poly_multiple (negsuc 0) (row_poly gs (row_of step))) w
        ∙ ap₂ ◌+ℤ◌ (less_at done w) (coefficient_of-multiple (negsuc 0) (row_poly gs (row_of step)) w));
  }
    where
      spread : (a b k : ℤ) → a +ℤ negsuc 0 *ℤ (b +ℤ k) ≡ (a +ℤ negsuc 0 *ℤ b) +ℤ negsuc 0 *ℤ k
      spread a b k = omega (arith, ints)

  -- what a step makes of a line is the line after it
  pub next_is : (done : List CertRow) (step : CertRow) (p : List Term) → next_line gs (line_less problem c done) step ≡ Ok p → p ≡ line_less problem c (done ++ step ∷ [])
  next_is done step p made =
      let line : List Term = line_less problem c done in
      let g : List Term = generator_of problem step in
      let m : List Term = poly_between step.left g step.right in
      let is : difference line g step ≡ p = made_is line g step p made in
      let shaped = shaped-between step.left step.right g (generator_shaped problem.generators step.generator) in
      sym is
      ∙ line_is (done ++ step ∷ []) (difference line g step)
      (descending-added (scaled (pos 1) line) (scaled (neg_ℤ step.coef) m) (descending-scaled (pos 1) line (line_descends done))
      (descending-scaled (neg_ℤ step.coef) m (recursion_from_IsDescending m shaped.descending)))
      (nonzero-added (scaled (pos 1) line) (scaled (neg_ℤ step.coef) m))
      (λ w. difference_less line g step w ∙ sym (coefficient_of-append line (poly_multiple (negsuc 0) (row_poly gs (row_of step))) w) ∙ sym ((less_more done step).at w))

  pub is_less : (done : List CertRow) (step : CertRow) (p : List Term) → next_line gs (line_less problem c done) step ≡ Ok p
      → IsLess gs (line_less problem c done) step (line_less problem c (done ++ step ∷ []))
  is_less done step p made = record { exact = made ∙ ap Ok (next_is done step p made); less = less_more done step }

  -- the first line
  pub first_is : Descends (claim_in problem c) → scaled c.denominator (claim_in problem c) ≡ line_less problem c []
  first_is descends =
      line_is [] (scaled c.denominator (claim_in problem c)) (descending-scaled c.denominator (claim_in problem c) descends) (nonzero-scaled c.denominator (claim_in problem c))
      (λ w. (SamePolynomial-scaled c.denominator (claim_in problem c)).at w ∙ coefficient_of-multiple c.denominator (claim_in problem c) w
      ∙ none (c.denominator *ℤ coefficient_of (claim_in problem c) w) ∙ sym (less_at [] w))
    where
      none : (k : ℤ) → k ≡ k +ℤ negsuc 0 *ℤ pos 0
      none k = omega (arith, ints)

  -- what follows makes no difference
  firsts : (xs ys : List CertRow) (a n : ℕ) → a + n ≤ length xs + 1
      → map (λ k. line_less problem c (take k (xs ++ ys))) (range_with_len a n) ≡ map (λ k. line_less problem c (take k xs)) (range_with_len a n)
  firsts xs ys a zero within = refl
  firsts xs ys a (suc n) within =
      ap₂ (λ (l : List Term) (ls : List (List Term)). l ∷ ls) (ap (line_less problem c) (take-append-le a xs ys (omega arith))) (firsts xs ys (a + 1) n (omega arith))

  whole : (xs : List CertRow) → take (length xs) xs ≡ xs
  whole [] = refl
  whole (x ∷ xs) = ap (λ (ys : List CertRow). x ∷ ys) (whole xs)

  -- one more step has one more line
  pub lines_more : (done : List CertRow) (step : CertRow) → lines_by problem c (done ++ step ∷ []) ≡ lines_by problem c done ++ line_less problem c (done ++ step ∷ []) ∷ []
  lines_more done step =
      let more : List CertRow = done ++ step ∷ [] in
      let long : length more ≡ length done + 1 = length-append done (step ∷ []) in
      let f : ℕ → List Term = λ k. line_less problem c (take k more) in
      ap (λ n. map f (range_with_len 0 (n + 1))) long
      ∙ map-range_with_len_more f 0 (length done + 1) (length done + 1) (omega arith)
      ∙ ap₂ (λ (ls : List (List Term)) (l : List Term). ls ++ l ∷ []) (firsts done (step ∷ []) 0 (length done + 1) (omega arith))
      (ap (λ n. line_less problem c (take n more)) (sym long) ∙ ap (line_less problem c) (whole more))

  pub lines_long : (steps : List CertRow) → length (lines_by problem c steps) ≡ length steps + 1
  lines_long steps = length-map-range_with_len (λ k. line_less problem c (take k steps)) 0 (length steps + 1)

letters_append : (ls : List (List Term)) (l : List Term) → letters_of (ls ++ l ∷ []) ≡ letters_of ls + letters_in l
letters_append ls l =
    let both = sum_by-append letters_in ls (l ∷ []) in
    let one = sum_by-cons letters_in l [] in
    omega (arith, both, one)

-- and their letters
pub letters_more : (problem : Problem) (c : Certificate) (done : List CertRow) (step : CertRow)
    → letters_of (lines_by problem c (done ++ step ∷ [])) ≡ letters_of (lines_by problem c done) + letters_in (line_less problem c (done ++ step ∷ []))
letters_more problem c done step = ap letters_of (lines_more problem c done step) ∙ letters_append (lines_by problem c done) (line_less problem c (done ++ step ∷ []))
