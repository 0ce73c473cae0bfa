-- A chain is made a row at a time.
use Rattle.equation_chain.proofs.Prelude.{◌≡◌, ℕ, ◌+◌, ◌≤◌, List, [], ◌∷◌, ◌++◌, length, slice_get, Some, Result, Ok, Err, OnOk, IfErr, sym, refl, ap, ap₂, ◌∙◌, arith, true, false, take_all, Term, Poly, CertRow, Certificate, Problem, polynomials, ChainFault, Chain, Making, Line, is_step, steps_of, line_less, lines_by, lines_of, letters_of, steps_before, StepsPass, IsAccepted, IsExplained, IsFirstFault, IsMemory, IsLineBefore, IsMaking}
use Rattle.equation_chain.proofs.Lines.{lines_more}
use Rattle.equation_chain.proofs.Outcomes.{explained_has_no_fault}
use Rattle.equation_chain.proofs.Going.{none_before, some_before}

-- a list with one polynomial more
pub one_poly_more : (ps : List Poly) (p : Poly) → polynomials (ps ++ p ∷ []) ≡ polynomials ps ++ p.terms ∷ []
one_poly_more [] p = refl
one_poly_more (q ∷ ps) p = ap (λ (ls : List (List Term)). q.terms ∷ ls) (one_poly_more ps p)

module _ (problem : Problem) (c : Certificate) where
  -- before all rows there is the first line alone
  pub making_begins : (m : Making) → IsLineBefore problem c 0 m.line → m.steps ≡ [] → m.lines ≡ [] → IsMaking problem c 0 m
  making_begins m line none nothing = record {
    line = line;
    steps = none;
    lines = ap (λ (ps : List Poly). polynomials ps ++ m.line.poly.terms ∷ []) nothing ∙ ap (λ (l : List Term). l ∷ []) line.terms;
  }

  -- a row that is no step leaves the line as it is
  pub line_stays : (i : ℕ) (row : CertRow) → slice_get c.rows i ≡ Some row → is_step problem c.claim row ≡ false → (line : Line) → IsLineBefore problem c i line → IsLineBefore problem c (i + 1) line
  line_stays i row there is line before =
      let same = none_before problem c i row there is in
      record {
        terms = before.terms ∙ ap (line_less problem c) (sym same);
        letters = before.letters ∙ ap (λ (steps : List CertRow). letters_of (lines_by problem c steps)) (sym same);
      }

  -- and the chain
  pub making_stays : (i : ℕ) (row : CertRow) → slice_get c.rows i ≡ Some row → is_step problem c.claim row ≡ false → (m : Making) → IsMaking problem c i m → IsMaking problem c (i + 1) m
  making_stays i row there is m making =
      let same = none_before problem c i row there is in
      record {
        line = line_stays i row there is m.line making.line;
        steps = making.steps ∙ sym same;
        lines = making.lines ∙ ap (lines_by problem c) (sym same);
      }

  -- a step
  pub making_goes_on : (i : ℕ) (row : CertRow) → slice_get c.rows i ≡ Some row → is_step problem c.claim row ≡ true → (m : Making) → IsMaking problem c i m
      → (next : Making) → IsLineBefore problem c (i + 1) next.line → next.steps ≡ m.steps ++ row ∷ [] → next.lines ≡ m.lines ++ m.line.poly ∷ [] → IsMaking problem c (i + 1) next
  making_goes_on i row there is m making next line steps lines =
      let more = some_before problem c i row there is in
      record {
        line = line;
        steps = steps ∙ ap (λ (ss : List CertRow). ss ++ row ∷ []) making.steps ∙ sym more;
        lines =
            ap (λ (ps : List Poly). polynomials ps ++ next.line.poly.terms ∷ []) lines
            ∙ ap₂ (λ (ls : List (List Term)) (l : List Term). ls ++ l ∷ []) (one_poly_more m.lines m.line.poly ∙ making.lines) (line.terms ∙ ap (line_less problem c) more)
            ∙ sym (lines_more problem c (steps_before problem c i) row)
            ∙ ap (lines_by problem c) (sym more);
      }

  whole : (i : ℕ) → length c.rows ≤ i → steps_before problem c i ≡ steps_of problem c
  whole i past = ap (λ (rows : List CertRow). steps_of problem (record { claim = c.claim; denominator = c.denominator; rows = rows })) (take_all i c.rows past)

  -- after all rows
  pub made_steps : (i : ℕ) → length c.rows ≤ i → (m : Making) → IsMaking problem c i m → m.steps ≡ steps_of problem c
  made_steps i past m making = making.steps ∙ whole i past

  pub made_lines : (i : ℕ) → length c.rows ≤ i → (m : Making) → IsMaking problem c i m → polynomials (m.lines ++ m.line.poly ∷ []) ≡ lines_of problem c
  made_lines i past m making = one_poly_more m.lines m.line.poly ∙ making.lines ∙ ap (lines_by problem c) (whole i past)

-- where more rows pass, fewer do
pub fewer : (problem : Problem) (c : Certificate) (m n : ℕ) → m ≤ n → StepsPass problem c n → StepsPass problem c m
fewer problem c m n few passed = record { at = λ i row below got step. passed.at i row (omega (arith, below, few)) got step }

pub explained_part : (problem : Problem) (c : Certificate) (r : Result Chain ChainFault) → IsAccepted problem c → OnOk r (StepsPass problem c (length c.rows)) → OnOk r (IsExplained problem c)
explained_part problem c (Ok chain) accepted passed = record { accepted = accepted; steps = passed }
explained_part problem c (Err f) accepted passed = tt

pub complete_part : (problem : Problem) (c : Certificate) (r : Result Chain ChainFault) → IfErr r (IsFirstFault problem c) → IsExplained problem c → IfErr r IsMemory
complete_part problem c (Ok chain) is explained = tt
complete_part problem c (Err f) is explained = explained_has_no_fault problem c f explained is
