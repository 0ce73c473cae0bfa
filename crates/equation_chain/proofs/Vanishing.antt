-- Each line has the claim's signature, and is zero wherever the generators are.
use Rattle.equation_chain.proofs.Prelude.{◌≡◌, ◌≢◌, ℕ, zero, suc, ◌+◌, ℤ, pos, negsuc, ◌+ℤ◌, ◌*ℤ◌, Bool, true, false, List, [], ◌∷◌, ◌++◌, map, take, drop, length, sym, refl, ap, ap₂, ◌∙◌, arith, true≢false, All, AllByRecursion, range_with_len, false_from_ne_true, ints, take-append-drop, All-head, All-tail, All-take, *ℤ-zero, ℤ_discrete, Structure, PreadditiveLaws, Term, word_eq, coefficient_of, poly_between, Quiver, is_path, IsTyped, row_poly, row_sum, IsCombination, MakesZero, coefficient_of-append, coefficient_of-multiple, word_eq-true, coefficient_of-between_zero, sound, quiver_of, CertRow, Certificate, row_of, rows_of, Problem, polynomials, posed_quiver, generators_have_signatures, claim_ends, generator_of, is_typed, is_step, counts, steps_in, steps_of, claim_in, line_less, IsAccepted, LinesAreTyped, LinesVanish, and_parts}
use Rattle.equation_chain.proofs.Typed.{words_are_paths, all_kept}
use Rattle.equation_chain.proofs.Sums.{claim_typed, steps_add_up}
use Rattle.equation_chain.proofs.Lines.{less_at}

-- what holds at each place of a range
pub all_in_range : {X : Type 0} (P : X → Type 0) (f : ℕ → X) → ((k : ℕ) → P (f k)) → (a n : ℕ) → AllByRecursion P (map f (range_with_len a n))
all_in_range P f each a zero = tt
all_in_range P f each a (suc n) = (each a, all_in_range P f each (a + 1) n)

module _ (problem : Problem) (c : Certificate) where
  abbrev q : Quiver
  q = quiver_of problem.parts.quiver

  abbrev u : ℕ
  u = (claim_ends problem c.claim).0

  abbrev v : ℕ
  v = (claim_ends problem c.claim).1

  abbrev gs : List (List Term)
  gs = polynomials problem.generators

  -- a word that is no path of the signature has no coefficient
  abbrev Stays : List Term → Type 0
  Stays p = (x : List ℕ) → is_path q u v x ≡ false → coefficient_of p x ≡ pos 0

  stays_typed : (p : List Term) → Stays p → IsTyped q u v p
  stays_typed p stays = record { at = λ w there. go w there (is_path q u v w) refl }
    where
      go : (w : List ℕ) → coefficient_of p w ≢ pos 0 → (b : Bool) → is_path q u v w ≡ b → is_path q u v w ≡ true
      go w there true is = is
      go w there false is = absurd (there (stays w is))

  typed_stays : (p : List Term) → IsTyped q u v p → Stays p
  typed_stays p typed x no_path = go (ℤ_discrete (coefficient_of p x) (pos 0))
    where
      go : Dec (coefficient_of p x ≡ pos 0) → coefficient_of p x ≡ pos 0
      go (yes nothing) = nothing
      go (no there) = absurd (true≢false (sym (typed.at x there) ∙ no_path))

  row_stays : (row : CertRow) → is_typed problem c.claim row ≡ true → Stays (row_poly gs (row_of row))
  row_stays row typed x no_path =
      let g : List Term = generator_of problem row in
      coefficient_of-multiple row.coef (poly_between row.left g row.right) x
      ∙ ap (λ k. row.coef *ℤ k) (coefficient_of-between_zero row.left row.right x g (λ w there. false_from_ne_true (word_eq (row.left ++ (w ++ row.right)) x) (λ same.
      true≢false (sym (words_are_paths q u v gs (row_of row) typed w there) ∙ ap (is_path q u v) (word_eq-true (row.left ++ (w ++ row.right)) x same) ∙ no_path))))
      ∙ *ℤ-zero row.coef

  abbrev Typed : CertRow → Type 0
  Typed r = is_typed problem c.claim r ≡ true

  sum_stays : (rows : List CertRow) → All Typed rows → Stays (row_sum gs (rows_of rows))
  sum_stays [] all x no_path = refl
  sum_stays (r ∷ rows) all x no_path =
      coefficient_of-append (row_poly gs (row_of r)) (row_sum gs (rows_of rows)) x ∙ ap₂ ◌+ℤ◌ (row_stays r (All-head Typed r rows all) x no_path) (sum_stays rows (All-tail Typed r rows all) x no_path)

  pub typed_in : (rows : List CertRow) → All Typed (steps_in problem c.claim rows)
  typed_in rows = all_kept Typed (is_step problem c.claim) (λ r is. (and_parts (counts gs (row_of r)) (is_typed problem c.claim r) is).1) rows

  pub line_typed : (steps : List CertRow) → All Typed steps → IsTyped q u v (line_less problem c steps)
  line_typed steps all = stays_typed (line_less problem c steps) (λ x no_path.
      less_at problem c steps x
      ∙ ap₂ (λ a b. c.denominator *ℤ a +ℤ negsuc 0 *ℤ b) (typed_stays (claim_in problem c) (claim_typed problem c.claim) x no_path) (sum_stays steps all x no_path)
      ∙ ap (λ k. k +ℤ pos 0) (*ℤ-zero c.denominator))

  pub typed_line : (k : ℕ) → IsTyped q u v (line_less problem c (take k (steps_of problem c)))
  typed_line k = line_typed (take k (steps_of problem c)) (All-take Typed k (steps_of problem c) (typed_in c.rows))

  -- a line is the sum of the steps that are left
  rest_at : (front back : List CertRow) (w : List ℕ)
      → coefficient_of (row_sum gs (rows_of (front ++ back))) w ≡ coefficient_of (row_sum gs (rows_of front)) w +ℤ coefficient_of (row_sum gs (rows_of back)) w
  rest_at [] back w = alone (coefficient_of (row_sum gs (rows_of back)) w)
    where
      alone : (k : ℤ) → k ≡ pos 0 +ℤ k
      alone k = omega (arith, ints)
  rest_at (r ∷ front) back w =
      coefficient_of-append (row_poly gs (row_of r)) (row_sum gs (rows_of (front ++ back))) w
      ∙ ap (λ k. coefficient_of (row_poly gs (row_of r)) w +ℤ k) (rest_at front back w)
      ∙ group (coefficient_of (row_poly gs (row_of r)) w) (coefficient_of (row_sum gs (rows_of front)) w) (coefficient_of (row_sum gs (rows_of back)) w)
      ∙ ap (λ k. k +ℤ coefficient_of (row_sum gs (rows_of back)) w) (sym (coefficient_of-append (row_poly gs (row_of r)) (row_sum gs (rows_of front)) w))
    where
      group : (a b k : ℤ) → a +ℤ (b +ℤ k) ≡ (a +ℤ b) +ℤ k
      group a b k = omega (arith, ints)

  left_over : (a b k : ℤ) → b +ℤ k ≡ a → k ≡ pos 1 *ℤ (a +ℤ negsuc 0 *ℤ b)
  left_over a b k is = omega (arith, ints, is)

  line_combines : IsAccepted problem c → (k : ℕ) → IsCombination gs (rows_of (drop k (steps_of problem c))) (pos 1) (line_less problem c (take k (steps_of problem c)))
  line_combines accepted k =
      let steps : List CertRow = steps_of problem c in
      let line : List Term = line_less problem c (take k steps) in
      let whole = steps_add_up problem c accepted in
      record {
        positive = omega (arith, ints);
        sum = record {
          at = λ w.
              left_over (c.denominator *ℤ coefficient_of (claim_in problem c) w) (coefficient_of (row_sum gs (rows_of (take k steps))) w) (coefficient_of (row_sum gs (rows_of (drop k steps))) w)
              (sym (rest_at (take k steps) (drop k steps) w) ∙ ap (λ rows. coefficient_of (row_sum gs (rows_of rows)) w) (take-append-drop k steps) ∙ whole.sum.at w
              ∙ coefficient_of-multiple c.denominator (claim_in problem c) w)
              ∙ ap (λ n. pos 1 *ℤ n) (sym (less_at problem c (take k steps) w)) ∙ sym (coefficient_of-multiple (pos 1) line w);
        };
      }

  pub line_vanishes : {Object Arrow : Type 0} {s : Structure Object Arrow} → PreadditiveLaws s → IsAccepted problem c → (k : ℕ) → MakesZero s q gs (pos 1) (line_less problem c (take k (steps_of problem c)))
  line_vanishes laws accepted k =
      (sound laws).certificate q gs (rows_of (drop k (steps_of problem c))) (pos 1) (line_less problem c (take k (steps_of problem c)))
      (posed_quiver problem.parts problem.posed) (generators_have_signatures problem.parts problem.posed problem.generators problem.closed) (line_combines accepted k)

-- the laws
pub lines_typed : LinesAreTyped
lines_typed problem c accepted =
    all_in_range (λ line. IsTyped (quiver_of problem.parts.quiver) (claim_ends problem c.claim).0 (claim_ends problem c.claim).1 line) (λ k. line_less problem c (take k (steps_of problem c)))
    (typed_line problem c) 0 (length (steps_of problem c) + 1)

pub lines_vanish : {Object Arrow : Type 0} {s : Structure Object Arrow} → PreadditiveLaws s → LinesVanish s
lines_vanish {s} laws problem c accepted =
    all_in_range (λ line. MakesZero s (quiver_of problem.parts.quiver) (polynomials problem.generators) (pos 1) line) (λ k. line_less problem c (take k (steps_of problem c)))
    (line_vanishes problem c laws accepted) 0 (length (steps_of problem c) + 1)
