-- The text of a chain, a row at a time.
use Rattle.evidence_commands.proofs.Prelude.{◌≡◌, ℕ, ◌+◌, ◌≤◌, true, false, List, [], ◌∷◌, ◌++◌, length, slice_get, Some, sym, ap, ◌∙◌, append-nil, take_all, CertRow, Certificate, Problem, is_step, steps_in, steps_of, line_less, lines_by, lines_of, line_before, steps_before, line_text, use_text, lines_text, none_before, some_before, lines_long, lines_more, lines_text_more, text_before}
use Rattle.std.proofs.lemmas.List.{append_assoc}
use Rattle.definitions.specs.Poly.{Poly}

module _ (problem : Problem) (c : Certificate) where
  -- the first line alone
  pub first_text : text_before problem c 0 ≡ line_text problem.parts.quiver (line_before problem c 0)
  first_text = append-nil (line_text problem.parts.quiver (line_before problem c 0))

  -- the lines of steps
  abbrev lines_text_of : List CertRow → List ℕ
  lines_text_of steps = lines_text problem.parts.quiver steps (lines_by problem c steps)

  module _ (i : ℕ) (row : CertRow) (there : slice_get c.rows i ≡ Some row) where
    -- a row that is no step adds nothing
    pub same_text : is_step problem c.claim row ≡ false → text_before problem c (i + 1) ≡ text_before problem c i
    same_text is = ap lines_text_of (none_before problem c i row there is)

    -- a step is written, and the line after it
    pub next_text : is_step problem c.claim row ≡ true
        → text_before problem c (i + 1) ≡ text_before problem c i ++ (use_text problem.parts.quiver row ++ line_text problem.parts.quiver (line_before problem c (i + 1)))
    next_text is =
        let ds = problem.parts.quiver in
        let done : List CertRow = steps_before problem c i in
        let more = some_before problem c i row there is in
        ap lines_text_of more
        ∙ ap (lines_text ds (done ++ row ∷ [])) (lines_more problem c done row)
        ∙ lines_text_more ds done (lines_by problem c done) row _ (lines_long problem c done)
        ∙ ap (λ (line : Poly). text_before problem c i ++ (use_text ds row ++ line_text ds line)) (ap (line_less problem c) (sym more))

    pub next_put : is_step problem c.claim row ≡ true → (front old used now : List ℕ) → old ≡ front ++ text_before problem c i → used ≡ old ++ use_text problem.parts.quiver row
        → now ≡ used ++ line_text problem.parts.quiver (line_before problem c (i + 1)) → now ≡ front ++ text_before problem c (i + 1)
    next_put is front old used now old_is used_is now_is =
        let step : List ℕ = use_text problem.parts.quiver row in
        let line : List ℕ = line_text problem.parts.quiver (line_before problem c (i + 1)) in
        now_is
        ∙ ap (λ (t : List ℕ). t ++ line) (used_is ∙ ap (λ (t : List ℕ). t ++ step) old_is)
        ∙ append_assoc (front ++ text_before problem c i) step line
        ∙ append_assoc front (text_before problem c i) (step ++ line)
        ∙ ap (λ (t : List ℕ). front ++ t) (sym (next_text is))

  -- after all rows
  pub whole_text : (i : ℕ) → length c.rows ≤ i → text_before problem c i ≡ lines_text problem.parts.quiver (steps_of problem c) (lines_of problem c)
  whole_text i past = ap (λ (rows : List CertRow). lines_text_of (steps_in problem c.claim rows)) (take_all i c.rows past)
