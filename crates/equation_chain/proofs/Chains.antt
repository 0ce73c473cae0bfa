-- The lines of an explained certificate are a chain.
use Rattle.equation_chain.proofs.Prelude.{◌≡◌, suc, ◌+◌, ◌<◌, ℤ, pos, negsuc, ◌+ℤ◌, ◌*ℤ◌, Bool, true, false, cond, List, [], ◌∷◌, ◌++◌, map, take, length, slice_get, Some, sym, refl, ap, ap₂, subst, ◌∙◌, arith, range_with_len, ints, append-nil, append_assoc, All-nil, filter-append, take-append_seam, take-append-add, Term, coefficient_of, coefficient_of-multiple, Descends, recursion_from_IsDescending, CertRow, Certificate, Problem, polynomials, is_step, steps_in, steps_of, claim_in, line_less, lines_by, IsLess, LeadsToZero, IsChain, IsAccepted, steps_before, StepsPass, LinesAreAChain}
use Rattle.equation_chain.proofs.Generators.{generator_shaped}
use Rattle.equation_chain.proofs.Sums.{steps_add_up}
use Rattle.equation_chain.proofs.Lines.{less_at, line_is, is_less, first_is}

-- an item after the first ones
pub there_behind : {X : Type 0} (front : List X) (x : X) (back : List X) → slice_get (front ++ x ∷ back) (length front) ≡ Some x
there_behind [] x back = refl
there_behind (y ∷ front) x back = there_behind front x back

pub inside : {X : Type 0} (front : List X) (x : X) (back : List X) → length front < length (front ++ x ∷ back)
inside [] x back = omega arith
inside (y ∷ front) x back = let rest = inside front x back in omega (arith, rest)

module _ (problem : Problem) (c : Certificate) where
  abbrev gs : List (List Term)
  gs = polynomials problem.generators

  -- the lines after these steps, one by one
  abbrev later : List CertRow → List CertRow → List (List Term)
  later done [] = []
  later done (step ∷ steps) = line_less problem c (done ++ step ∷ []) ∷ later (done ++ step ∷ []) steps

  later_are : (done steps : List CertRow) → map (λ k. line_less problem c (take k (done ++ steps))) (range_with_len (length done + 1) (length steps)) ≡ later done steps
  later_are done [] = refl
  later_are done (step ∷ steps) =
      let more : List CertRow = done ++ step ∷ [] in
      let split : done ++ step ∷ steps ≡ more ++ steps = sym (append_assoc done (step ∷ []) steps) in
      ap₂ (λ (l : List Term) (ls : List (List Term)). l ∷ ls)
      (ap (line_less problem c) (take-append-add done (step ∷ steps) 1))
      (ap (λ xs. map (λ k. line_less problem c (take k xs)) (range_with_len (length done + 1 + 1) (length steps))) split
      ∙ ap (λ n. map (λ k. line_less problem c (take k (more ++ steps))) (range_with_len (n + 1) (length steps))) (sym (long done)) ∙ later_are more steps)
    where
      long : (xs : List CertRow) → length (xs ++ step ∷ []) ≡ length xs + 1
      long [] = refl
      long (x ∷ xs) = let rest = long xs in omega (arith, rest)

  lines_are : (steps : List CertRow) → lines_by problem c steps ≡ line_less problem c [] ∷ later [] steps
  lines_are steps =
      let more : length steps + 1 ≡ suc (length steps) = omega arith in
      ap (λ n. map (λ k. line_less problem c (take k steps)) (range_with_len 0 n)) more ∙ ap (λ (ls : List (List Term)). line_less problem c [] ∷ ls) (later_are [] steps)

  -- nothing is left after the last step
  last_is_zero : IsAccepted problem c → line_less problem c (steps_of problem c) ≡ []
  last_is_zero accepted =
      let steps : List CertRow = steps_of problem c in
      let whole = steps_add_up problem c accepted in
      sym (line_is problem c steps [] tt (All-nil _) (λ w. sym (less_at problem c steps w
      ∙ ap (λ k. c.denominator *ℤ coefficient_of (claim_in problem c) w +ℤ negsuc 0 *ℤ k) (whole.sum.at w ∙ coefficient_of-multiple c.denominator (claim_in problem c) w)
      ∙ nothing (c.denominator *ℤ coefficient_of (claim_in problem c) w))))
    where
      nothing : (k : ℤ) → k +ℤ negsuc 0 *ℤ k ≡ pos 0
      nothing k = omega (arith, ints)

  -- the rows after the first ones lead on
  leads : StepsPass problem c (length c.rows) → line_less problem c (steps_of problem c) ≡ [] → (front rows : List CertRow) → c.rows ≡ front ++ rows
      → LeadsToZero gs (line_less problem c (steps_in problem c.claim front)) (steps_in problem c.claim rows) (later (steps_in problem c.claim front) (steps_in problem c.claim rows))
  leads pass last front [] is = subst (λ (rows : List CertRow). line_less problem c (steps_in problem c.claim rows) ≡ []) (is ∙ append-nil front) last
  leads pass last front (row ∷ rows) is = go (leads pass last (front ++ row ∷ []) rows (is ∙ sym (append_assoc front (row ∷ []) rows))) (is_step problem c.claim row) refl
    where
      done : List CertRow
      done = steps_in problem c.claim front

      more : steps_in problem c.claim (front ++ row ∷ []) ≡ done ++ steps_in problem c.claim (row ∷ [])
      more = filter-append (is_step problem c.claim) front (row ∷ [])

      there : slice_get c.rows (length front) ≡ Some row
      there = ap (λ rs. slice_get rs (length front)) is ∙ there_behind front row rows

      below : length front < length c.rows
      below = subst (λ (rs : List CertRow). length front < length rs) (sym is) (inside front row rows)

      before : steps_before problem c (length front) ≡ done
      before = ap (λ rs. steps_in problem c.claim (take (length front) rs)) is ∙ ap (steps_in problem c.claim) (take-append_seam front (row ∷ rows))

      go : LeadsToZero gs (line_less problem c (steps_in problem c.claim (front ++ row ∷ []))) (steps_in problem c.claim rows) (later (steps_in problem c.claim (front ++ row ∷ [])) (steps_in problem c.claim rows))
          → (b : Bool) → is_step problem c.claim row ≡ b
          → LeadsToZero gs (line_less problem c done) (cond b (row ∷ steps_in problem c.claim rows) (steps_in problem c.claim rows)) (later done (cond b (row ∷ steps_in problem c.claim rows) (steps_in problem c.claim rows)))
      go next true step =
          let passes = pass.at (length front) row below there step in
          let one : steps_in problem c.claim (front ++ row ∷ []) ≡ done ++ row ∷ [] = more ∙ ap (λ b. done ++ cond b (row ∷ []) []) step in (
            subst (λ (d : List CertRow). IsLess gs (line_less problem c d) row (line_less problem c (d ++ row ∷ []))) before (is_less problem c (steps_before problem c (length front)) row passes.line passes.made),
            subst (λ (d : List CertRow). LeadsToZero gs (line_less problem c d) (steps_in problem c.claim rows) (later d (steps_in problem c.claim rows))) one next,
          )
      go next false step =
          let none : steps_in problem c.claim (front ++ row ∷ []) ≡ done = more ∙ ap (λ b. done ++ cond b (row ∷ []) []) step ∙ append-nil done in
          subst (λ (d : List CertRow). LeadsToZero gs (line_less problem c d) (steps_in problem c.claim rows) (later d (steps_in problem c.claim rows))) none next

pub claim_descends : (problem : Problem) (c : Certificate) → Descends (claim_in problem c)
claim_descends problem c = recursion_from_IsDescending (claim_in problem c) (generator_shaped problem.parts.claims c.claim).descending

pub lines_are_a_chain : LinesAreAChain
lines_are_a_chain problem c explained =
    subst (IsChain problem c) (sym (lines_are problem c (steps_of problem c)))
    (sym (first_is problem c (claim_descends problem c)), leads problem c explained.steps (last_is_zero problem c explained.accepted) [] c.rows refl)
