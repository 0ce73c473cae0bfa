-- Chains are put a step at a time.
use Rattle.equation_chain.proofs.Prelude.{◌≡◌, ◌<◌, ◌+◌, ℕ, List, ◌++◌, Result, Ok, Err, OnOk, arith, sym, ap, ap₂, ◌∙◌, length, take, get_or, flat_map, zip, append_assoc, get_or-map, length-zip, get_or-zip, Polynomial, CertRow, polynomials, each_put, use_by, line_by}
use Rattle.definitions.specs.Poly.{Poly}

-- a polynomial of a list by its terms
pub poly_at : (ps : List Polynomial) (place : ℕ) (p : Polynomial) → place < length ps → p ≡ get_or ps place p → p.terms ≡ get_or (polynomials ps) place p.terms
poly_at ps place p inside is = ap (λ (q : Polynomial). q.terms) is ∙ sym (get_or-map (λ (q : Polynomial). q.terms) ps place p p.terms inside)

-- a step and its line are appended to those before
pub step_put : (texts : List (List ℕ)) (steps : List CertRow) (lines : List Poly) (place : ℕ) (step : CertRow) (line : Poly) (before so_far used now : List ℕ)
    → place < length steps → place < length lines → step ≡ get_or steps place step → line ≡ get_or lines place line
    → so_far ≡ before ++ flat_map (λ s. use_by texts s.0 ++ line_by texts s.1) (take place (zip steps lines)) → used ≡ so_far ++ use_by texts step → now ≡ used ++ line_by texts line
    → now ≡ before ++ flat_map (λ s. use_by texts s.0 ++ line_by texts s.1) (take (place + 1) (zip steps lines))
step_put texts steps lines place step line before so_far used now in_steps in_lines is_step is_line far use_put line_put =
    let long = length-zip steps lines in
    each_put (λ s. use_by texts s.0 ++ line_by texts s.1) (zip steps lines) place (step, line) before so_far now (omega (arith, long))
    (ap₂ (λ (s : CertRow) (l : Poly). (s, l)) is_step is_line ∙ sym (get_or-zip steps lines place (step, line) in_steps in_lines))
    far
    (line_put ∙ ap (λ (t : List ℕ). t ++ line_by texts line) use_put ∙ append_assoc so_far (use_by texts step) (line_by texts line))

-- the opening, the lines and the end are put one after the other
pub chain_put : {E : Type 0} (r : Result (Unit {0}) E) (before opening lines end one two last : List ℕ) → one ≡ before ++ opening → two ≡ one ++ lines → OnOk r (last ≡ two ++ end)
    → OnOk r (last ≡ before ++ (opening ++ (lines ++ end)))
chain_put (Ok done) before opening lines end one two last one_is two_is last_is =
    last_is ∙ ap (λ (t : List ℕ). t ++ end) (two_is ∙ ap (λ (t : List ℕ). t ++ lines) one_is) ∙ append_assoc (before ++ opening) lines end ∙ append_assoc before opening (lines ++ end)
chain_put (Err e) before opening lines end one two last one_is two_is last_is = tt
