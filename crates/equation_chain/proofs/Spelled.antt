-- Chains are written a step and a line at a time.
use Rattle.equation_chain.proofs.Prelude.{◌≡◌, ◌<◌, ◌+◌, ℕ, List, [], ◌∷◌, ◌++◌, arith, refl, sym, ap, ap₂, subst, ◌∙◌, length, map, get_or, codes, append_assoc, append-nil, All-head, All-tail, get_or-map-range_with_len, length-map-range_with_len, map-range_with_len_more, signed_decimal, decimal, All, flat_map, zip, range_with_len, flat_map-append, Term, IsOver, Declaration, letter_count, CertRow, IsRowOver, letter_text, words_agree, polys_agree, line_text, use_text, steps_text, lines_text, AreTexts, text_in, line_by, use_by, steps_by, lines_spelled, IsStepSpelled, IsLineSpelled}
use Rattle.definitions.specs.Poly.{Poly}

-- the table is that of the quiver
pub table_more : (ds : List Declaration) (n : ℕ) (texts more : List (List ℕ)) (text : List ℕ) → texts ≡ map (letter_text ds) (range_with_len 0 n) → text ≡ letter_text ds n → more ≡ texts ++ text ∷ []
    → more ≡ map (letter_text ds) (range_with_len 0 (n + 1))
table_more ds n texts more text is one more_is =
    more_is ∙ ap₂ (λ (ts : List (List ℕ)) (t : List ℕ). ts ++ t ∷ []) is one ∙ sym (map-range_with_len_more (letter_text ds) 0 n n (omega arith))

module _ (ds : List Declaration) (texts : List (List ℕ)) (are : AreTexts ds texts) where
  pub texts_long : length texts ≡ letter_count ds
  texts_long = ap length are ∙ length-map-range_with_len (letter_text ds) 0 (letter_count ds)

  letter_is : (a : ℕ) → a < letter_count ds → text_in texts a ≡ letter_text ds a
  letter_is a inside = ap (λ (ts : List (List ℕ)). get_or ts a []) are ∙ get_or-map-range_with_len (letter_text ds) 0 (letter_count ds) a a [] inside (omega arith)

  abbrev IsTermOver : Term → Type 0
  IsTermOver t = IsOver (letter_count ds) t.1

  pub line_is_text : (line : List Term) → All IsTermOver line → line_by texts line ≡ line_text ds line
  line_is_text line all = ap (λ (p : List ℕ). codes "line " ++ (p ++ codes "\n")) (polys_agree (letter_count ds) (text_in texts) (letter_text ds) letter_is line all)

  pub use_is_text : (step : CertRow) → IsRowOver ds step → use_by texts step ≡ use_text ds step
  use_is_text step over =
      ap₂ (λ (l r : List ℕ). codes "use " ++ signed_decimal step.coef ++ codes " (" ++ l ++ codes ") " ++ decimal step.generator ++ codes " (" ++ r ++ codes ")\n")
      (words_agree (letter_count ds) (text_in texts) (letter_text ds) letter_is step.left over.left) (words_agree (letter_count ds) (text_in texts) (letter_text ds) letter_is step.right over.right)

  -- what is over the letters of the quiver has texts
  spelled : (w : List ℕ) → IsOver (letter_count ds) w → IsOver (length texts) w
  spelled w over = subst (λ (n : ℕ). IsOver n w) (sym texts_long) over

  pub step_spelled : (step : CertRow) → IsRowOver ds step → IsStepSpelled texts step
  step_spelled step over = record { left = spelled step.left over.left; right = spelled step.right over.right }

  pub line_spelled : (line : List Term) → All IsTermOver line → IsLineSpelled texts line
  line_spelled line over = λ k d below. spelled (get_or line k d).1 (over k d below)

  steps_are : (steps : List CertRow) (lines : List (List Term)) → All (IsRowOver ds) steps → All (All IsTermOver) lines → steps_by texts steps lines ≡ steps_text ds steps lines
  steps_are [] lines over all = refl
  steps_are (s ∷ steps) [] over all = refl
  steps_are (s ∷ steps) (l ∷ lines) over all =
      ap₂ ◌++◌ (ap₂ ◌++◌ (use_is_text s (All-head (IsRowOver ds) s steps over)) (line_is_text l (All-head (All IsTermOver) l lines all)))
      (steps_are steps lines (All-tail (IsRowOver ds) s steps over) (All-tail (All IsTermOver) l lines all))

  pub lines_are : (steps : List CertRow) (lines : List (List Term)) → All (IsRowOver ds) steps → All (All IsTermOver) lines → lines_spelled texts steps lines ≡ lines_text ds steps lines
  lines_are steps [] over all = refl
  lines_are steps (l ∷ lines) over all = ap₂ ◌++◌ (line_is_text l (All-head (All IsTermOver) l lines all)) (steps_are steps lines over (All-tail (All IsTermOver) l lines all))

-- step by step
zip_more : (steps : List CertRow) (lines : List Poly) (step : CertRow) (line : Poly) → length steps ≡ length lines → zip (steps ++ step ∷ []) (lines ++ line ∷ []) ≡ zip steps lines ++ (step, line) ∷ []
zip_more [] [] step line same = refl
zip_more [] (l ∷ lines) step line same = absurd (omega (arith, same))
zip_more (s ∷ steps) [] step line same = absurd (omega (arith, same))
zip_more (s ∷ steps) (l ∷ lines) step line same = ap (λ (ps : List (CertRow × Poly)). (s, l) ∷ ps) (zip_more steps lines step line (omega (arith, same)))

steps_more : (ds : List Declaration) (steps : List CertRow) (lines : List Poly) (step : CertRow) (line : Poly) → length steps ≡ length lines
    → steps_text ds (steps ++ step ∷ []) (lines ++ line ∷ []) ≡ steps_text ds steps lines ++ (use_text ds step ++ line_text ds line)
steps_more ds steps lines step line same =
    let f : CertRow × Poly → List ℕ = λ s. use_text ds s.0 ++ line_text ds s.1 in
    ap (flat_map f) (zip_more steps lines step line same)
    ∙ flat_map-append f (zip steps lines) ((step, line) ∷ [])
    ∙ ap (λ (t : List ℕ). steps_text ds steps lines ++ t) (append-nil (use_text ds step ++ line_text ds line))

-- a step more is written after the others
pub lines_text_more : (ds : List Declaration) (steps : List CertRow) (lines : List Poly) (step : CertRow) (line : Poly) → length lines ≡ length steps + 1
    → lines_text ds (steps ++ step ∷ []) (lines ++ line ∷ []) ≡ lines_text ds steps lines ++ (use_text ds step ++ line_text ds line)
lines_text_more ds steps [] step line long = absurd (omega (arith, long))
lines_text_more ds steps (first ∷ lines) step line long =
    ap (λ (t : List ℕ). line_text ds first ++ t) (steps_more ds steps lines step line (omega (arith, long)))
    ∙ sym (append_assoc (line_text ds first) (steps_text ds steps lines) (use_text ds step ++ line_text ds line))
