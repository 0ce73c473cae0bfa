-- From the line before a row to the line after it.
use Rattle.equation_chain.proofs.Prelude.{◌≡◌, ℕ, zero, suc, ◌+◌, ◌<◌, ◌≤◌, ℤ, pos, neg_ℤ, Bool, true, false, cond, List, [], ◌∷◌, ◌++◌, take, length, get_or, slice_get, Some, Result, Ok, MatchResult, sym, refl, ap, ap₂, subst, ◌∙◌, arith, All, append-nil, take_more, take_all, length-append, filter-append, get_or_from_slice_get, slice_get_within, sum_by-cons, sum_by-append, Term, Poly, PolyFault, Explains, combined, moved_result, and_then, CertRow, Certificate, Problem, ChainFault, Line, letter_limit, generator_of, is_step, steps_in, line_less, lines_by, letters_in, letters_of, less_step, IsAccepted, steps_before, line_before, letters_before, result_at, StepPasses, StepsPass, IsFirstFault, IsLineBefore, IsLineBehind, StopsLine, Tells}
use Rattle.nc_polynomial.specs.declared.fault.PolyFault.TheVariants as poly
use Rattle.equation_chain.specs.declared.fault.ChainFault.TheVariants as fault
use Rattle.equation_chain.proofs.Lines.{next_is, letters_more}
use Rattle.equation_chain.proofs.Outcomes.{one_more}

-- letters
pub letters_step : (p : List Term) (i : ℕ) (t : Term) → i < length p → t ≡ get_or p i t → letters_in (take (i + 1) p) ≡ letters_in (take i p) + length t.1
letters_step p i t within is =
    let both = sum_by-append (λ (x : Term). length x.1) (take i p) (t ∷ []) in
    let one = sum_by-cons (λ (x : Term). length x.1) t [] in
    ap letters_in (take_more p i t within ∙ ap (λ (x : Term). take i p ++ x ∷ []) (sym is)) ∙ omega (arith, both, one)

-- of one line alone
pub one_line : (problem : Problem) (c : Certificate) → letters_in (line_less problem c []) ≡ letters_before problem c 0
one_line problem c = let one = sum_by-cons letters_in (line_less problem c []) [] in omega (arith, one)

-- how many steps
pub count_step : (problem : Problem) (claim : ℕ) (rows : List CertRow) (i : ℕ) (row : CertRow) (before : ℕ) (step : Bool) (after : ℕ) → i < length rows → row ≡ get_or rows i row
    → before ≡ length (steps_in problem claim (take i rows)) → step ≡ is_step problem claim row → after ≡ cond step (before + 1) before
    → after ≡ length (steps_in problem claim (take (i + 1) rows))
count_step problem claim rows i row before step after within is so_far tested counted =
    let kept : List CertRow = steps_in problem claim (take i rows) in
    let split : steps_in problem claim (take (i + 1) rows) ≡ kept ++ cond step (row ∷ []) [] =
    ap (steps_in problem claim) (take_more rows i row within ∙ ap (λ (x : CertRow). take i rows ++ x ∷ []) (sym is))
    ∙ filter-append (is_step problem claim) (take i rows) (row ∷ [])
    ∙ ap (λ b. kept ++ cond b (row ∷ []) []) (sym tested) in
    counted ∙ go step ∙ sym (ap length split)
  where
    go : (b : Bool) → cond b (before + 1) before ≡ length (steps_in problem claim (take i rows) ++ cond b (row ∷ []) [])
    go true = let long = length-append (steps_in problem claim (take i rows)) (row ∷ []) in omega (arith, long, so_far)
    go false = so_far ∙ sym (ap length (append-nil (steps_in problem claim (take i rows))))

pub count_few : (step : Bool) (before after i : ℕ) → before ≤ i → after ≡ cond step (before + 1) before → after ≤ i + 1
count_few true before after i few is = omega (arith, few, is)
count_few false before after i few is = omega (arith, few, is)

pub count_all : (problem : Problem) (c : Certificate) (rows : List CertRow) (i count : ℕ) → rows ≡ c.rows → length rows ≤ i → count ≡ length (steps_in problem c.claim (take i rows)) → count ≡ length (steps_in problem c.claim c.rows)
count_all problem c rows i count same past is = is ∙ ap (λ (rs : List CertRow). length (steps_in problem c.claim rs)) (take_all i rows past ∙ same)

-- a fault of moving is that of the step
pub explains_then : (r : Result (List Term) PolyFault) (next : List Term → Result (List Term) PolyFault) (e : PolyFault) → Explains r e → Explains (and_then r next) e
explains_then r next (poly.Overflow o) is = ap (λ (x : Result (List Term) PolyFault). and_then x next) is
explains_then r next (poly.Size s) is = ap (λ (x : Result (List Term) PolyFault). and_then x next) is
explains_then r next (poly.Memory e) is = tt

-- after a generator that is moved the step is the combination
pub step_from : (line g m : List Term) (step : CertRow) (b : ℤ) (result : Result Poly PolyFault) → moved_result step.left g step.right ≡ Ok m → b ≡ neg_ℤ step.coef
    → MatchResult result (λ r. combined (pos 1) line b m ≡ Ok r.terms) (Explains (combined (pos 1) line b m))
    → MatchResult result (λ r. less_step line g step ≡ Ok r.terms) (Explains (less_step line g step))
step_from line g m step b result moved negative is =
    let same : combined (pos 1) line b m ≡ less_step line g step =
    ap (λ k. combined (pos 1) line k m) negative ∙ sym (ap (λ (x : Result (List Term) PolyFault). and_then x (λ n. combined (pos 1) line (neg_ℤ step.coef) n)) moved) in
    subst (λ (x : Result (List Term) PolyFault). MatchResult result (λ r. x ≡ Ok r.terms) (Explains x)) same is

-- a fault of polynomials stops the line
pub told_stops : (line : Line) (g : List Term) (step : CertRow) (number : ℕ) (e : PolyFault) (f : ChainFault) → Explains (less_step line.poly.terms g step) e → Tells number e f → StopsLine line g step number f
told_stops line g step number (poly.Overflow o) f is tells = subst (StopsLine line g step number) (sym tells) (refl, is)
told_stops line g step number (poly.Size s) f is tells = subst (StopsLine line g step number) (sym tells) (refl, (s, is))
told_stops line g step number (poly.Memory e) f is tells = subst (StopsLine line g step number) (sym tells) tt

-- the row at a place
pub for_row : (P : CertRow → Type 0) (rows : List CertRow) (i : ℕ) (x : CertRow) → slice_get rows i ≡ Some x → P x → (row : CertRow) → slice_get rows i ≡ Some row → P row
for_row P rows i x there holds row got = let both : Some x ≡ Some row = sym there ∙ got in let same : x ≡ row = cc in subst P same holds

pub all_there : (P : CertRow → Type 0) (rows : List CertRow) (i : ℕ) (x : CertRow) → All P rows → slice_get rows i ≡ Some x → P x
all_there P rows i x all there = subst P (get_or_from_slice_get rows i x x there) (all i x (slice_get_within rows i x there))

module _ (problem : Problem) (c : Certificate) (i : ℕ) (row : CertRow) (there : slice_get c.rows i ≡ Some row) where
  taken : (rows : List CertRow) (n : ℕ) → slice_get rows n ≡ Some row → take (n + 1) rows ≡ take n rows ++ row ∷ []
  taken [] n is = absurd cc
  taken (r ∷ rows) zero is = let same : r ≡ row = cc in ap (λ (x : CertRow). x ∷ []) same
  taken (r ∷ rows) (suc n) is = ap (λ k. take k (r ∷ rows)) (later n) ∙ ap (λ (xs : List CertRow). r ∷ xs) (taken rows n is)
    where
      later : (k : ℕ) → suc k + 1 ≡ suc (k + 1)
      later k = omega arith

  one : steps_before problem c (i + 1) ≡ steps_before problem c i ++ steps_in problem c.claim (row ∷ [])
  one = ap (steps_in problem c.claim) (taken c.rows i there) ∙ filter-append (is_step problem c.claim) (take i c.rows) (row ∷ [])

  pub none_before : is_step problem c.claim row ≡ false → steps_before problem c (i + 1) ≡ steps_before problem c i
  none_before is = one ∙ ap (λ b. steps_before problem c i ++ cond b (row ∷ []) []) is ∙ append-nil (steps_before problem c i)

  pub some_before : is_step problem c.claim row ≡ true → steps_before problem c (i + 1) ≡ steps_before problem c i ++ row ∷ []
  some_before is = one ∙ ap (λ b. steps_before problem c i ++ cond b (row ∷ []) []) is

  same_row : (other : CertRow) → slice_get c.rows i ≡ Some other → row ≡ other
  same_row other got = let both : Some row ≡ Some other = sym there ∙ got in cc

  -- a row that is no step passes
  pub none_passes : StepsPass problem c i → is_step problem c.claim row ≡ false → StepsPass problem c (i + 1)
  none_passes passed is =
      one_more problem c i passed (λ other got yes. absurd (let same = same_row other got in let both : (let b : Bool = false in b) ≡ true = sym is ∙ ap (is_step problem c.claim) same ∙ yes in cc))

  module _ (is : is_step problem c.claim row ≡ true) (line : Line) (stands : IsLineBefore problem c i line) (g : List Term) (named : g ≡ generator_of problem row) where
    result_is : less_step line.poly.terms g row ≡ result_at problem c i row
    result_is = ap₂ (λ (l p : List Term). less_step l p row) stands.terms named

    made_is : (p : List Term) → less_step line.poly.terms g row ≡ Ok p → p ≡ line_before problem c (i + 1)
    made_is p made = next_is problem c (steps_before problem c i) row p (sym result_is ∙ made) ∙ ap (line_less problem c) (sym (some_before is))

    letters_are : letters_before problem c (i + 1) ≡ letters_before problem c i + letters_in (line_before problem c (i + 1))
    letters_are =
        ap (λ steps. letters_of (lines_by problem c steps)) (some_before is)
        ∙ letters_more problem c (steps_before problem c i) row
        ∙ ap (λ steps. letters_before problem c i + letters_in (line_less problem c steps)) (sym (some_before is))

    counted : (p : List Term) → less_step line.poly.terms g row ≡ Ok p → line.letters + letters_in p ≡ letters_before problem c (i + 1)
    counted p made = ap₂ (λ m n. m + n) stands.letters (ap letters_in (made_is p made)) ∙ sym letters_are

    -- the next line follows it,
    pub line_stands : (next : Line) → IsLineBehind line g row next → IsLineBefore problem c (i + 1) next
    line_stands next behind = record { terms = made_is next.poly.terms behind.made; letters = behind.letters ∙ counted next.poly.terms behind.made }

    -- and it passes,
    pub some_passes : (next : Line) → IsLineBehind line g row next → StepsPass problem c i → StepsPass problem c (i + 1)
    some_passes next behind passed =
        let all = behind.letters ∙ counted next.poly.terms behind.made in
        let short = behind.short in
        let passes : StepPasses problem c i row = record { line = next.poly.terms; made = sym result_is ∙ behind.made; letters = subst (λ n. n ≤ letter_limit) all short } in
        one_more problem c i passed (λ other got _. subst (StepPasses problem c i) (same_row other got) passes)

    -- or it stops the chain
    pub stops : IsAccepted problem c → StepsPass problem c i → (number : ℕ) → number ≡ i + 1 → (f : ChainFault) → StopsLine line g row number f → IsFirstFault problem c f
    stops accepted passed number at (fault.Refused r) stop = absurd stop
    stops accepted passed number at (fault.Overflow r o) stop = record {
      before = i;
      row = row;
      reached = record { accepted = accepted; numbered = stop.0 ∙ at; there = there; step = is; earlier = passed };
      operation = sym result_is ∙ stop.1;
    }
    stops accepted passed number at (fault.Size r) stop = record {
      before = i;
      row = row;
      reached = record { accepted = accepted; numbered = stop.0 ∙ at; there = there; step = is; earlier = passed };
      size = stop.1.0;
      outsized = sym result_is ∙ stop.1.1;
    }
    stops accepted passed number at (fault.Long r) stop = record {
      before = i;
      row = row;
      reached = record { accepted = accepted; numbered = stop.0 ∙ at; there = there; step = is; earlier = passed };
      line = stop.1.0;
      made = sym result_is ∙ stop.1.1;
      letters = subst (λ n. letter_limit < n) (counted stop.1.0 stop.1.1) stop.1.2;
    }
    stops accepted passed number at (fault.Memory e) stop = tt
