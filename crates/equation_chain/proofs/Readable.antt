-- The chain of an explained certificate is one whose text is read back.
use Rattle.equation_chain.proofs.Prelude.{◌≡◌, ◌≢◌, ◌<◌, ◌≤◌, ◌+◌, ℕ, zero, suc, ℤ, pos, negsuc, ◌≤ℤ◌, neg_ℤ, true, List, [], ◌∷◌, ◌++◌, Option, Some, None, Ok, arith, refl, sym, subst, ◌∙◌, length, take, get_or, All, range_with_len, ints, All-nil, All-cons, All-map, All-filter, Overflow, first_overflow, IsCoefficient, Term, poly_between, Quiver, is_path, IsTyped, generator_at, IsOver, Poly, unless_overflow, sized, finished, IsShaped, IsCanonical, scaled, products, added, sums, shaped-between, or_first, first-append, sized-value, distinct-descending, words_listed, canonical_sized, IsDescending-from_recursion, recursion_from_IsDescending, descending-scaled, descending-added, nonzero-added, in_range-added, shaped-scaled, all-scaled, Declaration, letter_count, quiver_of, CertRow, Certificate, Problem, polynomials, length-polynomials, IsWritableInteger, IsCheckable, IsRowOver, IsReadableStep, IsReadableLine, ExplainedIsReadable, less_step, LeadsToZero, IsChain, IsExplained, claim_in, line_less, lines_of, claim_ends, generator_of, is_step, steps_of, IsTypedStep}
use Rattle.equation_chain.proofs.Chains.{lines_are_a_chain}
use Rattle.equation_chain.proofs.Generators.{generator_shaped}
use Rattle.equation_chain.proofs.Letters.{lines_over}
use Rattle.equation_chain.proofs.Lines.{after_moved, line_descends, line_nonzero, lines_long}
use Rattle.equation_chain.proofs.Typed.{each_typed}
use Rattle.equation_chain.proofs.Vanishing.{typed_line}

-- of operations of which none overflows none of the last ones does
last_fit : (os more : List Overflow) → first_overflow (os ++ more) ≡ None → first_overflow more ≡ None
last_fit os more fit = go (first_overflow os) (sym (first-append os more) ∙ fit)
  where
    go : (o : Option Overflow) → or_first o (first_overflow more) ≡ None → first_overflow more ≡ None
    go None rest = rest
    go (Some o) rest = absurd (cc)

record IsFinished (os : List Overflow) (p next : List Term) : Type 0 where
  fit : first_overflow os ≡ None
  within : sized p ≡ Ok next

finished_is : (os : List Overflow) (p next : List Term) → finished os p ≡ Ok next → IsFinished os p next
finished_is os p next made = go (first_overflow os) refl made
  where
    go : (o : Option Overflow) → first_overflow os ≡ o → unless_overflow o (sized p) ≡ Ok next → IsFinished os p next
    go None fit within = record { fit = fit; within = within }
    go (Some o) fit within = absurd (cc)

-- a line less a step is canonical
next_canonical : (line g : List Term) (step : CertRow) (next : List Term) → IsShaped line → IsShaped g → less_step line g step ≡ Ok next → IsCanonical next
next_canonical line g step next shaped shaped_g made =
    let m : List Term = poly_between step.left g step.right in
    let left : List Term = scaled (pos 1) line in
    let right : List Term = scaled (neg_ℤ step.coef) m in
    let total : List Term = added left right in
    let done = finished_is (products (pos 1) line ++ (products (neg_ℤ step.coef) m ++ sums left right)) total next
    (after_moved step.left g step.right _ next made) in
    let between = shaped-between step.left step.right g shaped_g in
    let later = last_fit (products (pos 1) line) (products (neg_ℤ step.coef) m ++ sums left right) done.fit in
    let whole : IsShaped total = record {
      descending = IsDescending-from_recursion total (descending-added left right (descending-scaled (pos 1) line (recursion_from_IsDescending line shaped.descending))
          (descending-scaled (neg_ℤ step.coef) m (recursion_from_IsDescending m between.descending)));
      nonzero = nonzero-added left right;
      in_range = in_range-added left right (last_fit (products (neg_ℤ step.coef) m) (sums left right) later);
    } in
    subst IsCanonical (sized-value total next done.within) (canonical_sized total next whole done.within)

-- so is a multiple in range
few_scaled : (k : ℤ) (p : List Term) → length (scaled k p) ≤ length p
few_scaled k [] = omega arith
few_scaled k (t ∷ p) = grind (arith, few_scaled k p)

multiple_canonical : (k : ℤ) (p : List Term) → IsCanonical p → first_overflow (products k p) ≡ None → IsCanonical (scaled k p)
multiple_canonical k p canonical fit = record {
  shaped = shaped-scaled k p fit canonical.shaped;
  short = all-scaled (λ w. length w ≤ 500) k p canonical.short;
  few = (let few = few_scaled k p in let most = canonical.few in omega (arith, few, most));
}

-- a polynomial of a list, or zero
canonical_at : (ps : List Poly) (n : ℕ) → IsCanonical (get_or (polynomials ps) n [])
canonical_at [] n = zero_canonical
  where
    zero_canonical : IsCanonical []
    zero_canonical = record { shaped = generator_shaped [] 0; short = All-nil (λ (t : Term). length t.1 ≤ 500); few = omega arith }
canonical_at (p ∷ ps) zero = p.canonical
canonical_at (p ∷ ps) (suc n) = canonical_at ps n

named_canonical : (ps : List Poly) (n : ℕ) → IsCanonical (generator_at (polynomials ps) n)
named_canonical ps zero = canonical_at [] 0
named_canonical ps (suc n) = canonical_at ps n

-- the number of a generator that isn't zero
inside_of : (gs : List (List Term)) (n : ℕ) → get_or gs n [] ≢ [] → n < length gs
inside_of [] n some = absurd (some refl)
inside_of (g ∷ gs) zero some = omega arith
inside_of (g ∷ gs) (suc n) some = let rest = inside_of gs n some in omega (arith, rest)

number_of : (gs : List (List Term)) (n : ℕ) → generator_at gs n ≢ [] → n ≤ length gs
number_of gs zero some = omega arith
number_of gs (suc n) some = let inside = inside_of gs n some in omega (arith, inside)

-- an integer above zero
above_zero : (d : ℤ) → pos 1 ≤ℤ d → IsCoefficient d → IsWritableInteger d
above_zero (pos n) least within = record { size = n; is = refl; in_range = within }
above_zero (negsuc n) least within = absurd (omega (arith, ints, least))

path_has_letters : (q : Quiver) (u v : ℕ) (w : List ℕ) → is_path q u v w ≡ true → 0 < length w
path_has_letters q u v [] path = absurd (cc)
path_has_letters q u v (a ∷ w) path = omega arith

-- three facts of each item of a list are one
all_of : {X : Type 0} (P Q R S : X → Type 0) → ((x : X) → P x → Q x → R x → S x) → (xs : List X) → All P xs → All Q xs → All R xs → All S xs
all_of P Q R S joins xs one two three = λ k d below. joins (get_or xs k d) (one k d below) (two k d below) (three k d below)

module _ (problem : Problem) (c : Certificate) (checkable : IsCheckable problem.parts.quiver c) (explained : IsExplained problem c) where
  abbrev ds : List Declaration
  ds = problem.parts.quiver

  -- steps
  step_readable : (step : CertRow) → IsCoefficient step.coef → IsRowOver ds step → IsTypedStep problem c.claim step → IsReadableStep ds step
  step_readable step within over typed = record {
    coefficient = within;
    generator =
        (let number = number_of (polynomials problem.generators) step.generator typed.generator in let count = length-polynomials problem.generators in let few = problem.few in omega (arith, number, count, few));
    letters = over;
  }

  steps_readable : All (IsReadableStep ds) (steps_of problem c)
  steps_readable =
      all_of (λ (r : CertRow). IsCoefficient r.coef) (IsRowOver ds) (IsTypedStep problem c.claim) (IsReadableStep ds) step_readable (steps_of problem c)
      (All-filter (is_step problem c.claim) (λ (r : CertRow). IsCoefficient r.coef) c.rows checkable.coefficients)
      (All-filter (is_step problem c.claim) (IsRowOver ds) c.rows checkable.letters)
      (each_typed problem c)

  -- lines
  later_canonical : (line : List Term) (steps : List CertRow) (lines : List (List Term)) → IsCanonical line → LeadsToZero (polynomials problem.generators) line steps lines → All IsCanonical lines
  later_canonical line [] [] canonical leads = All-nil IsCanonical
  later_canonical line [] (next ∷ lines) canonical leads = absurd leads
  later_canonical line (step ∷ steps) [] canonical leads = All-nil IsCanonical
  later_canonical line (step ∷ steps) (next ∷ lines) canonical leads =
      let here = next_canonical line (generator_of problem step) step next canonical.shaped (generator_shaped problem.generators step.generator) leads.0.exact in
      All-cons IsCanonical next lines here (later_canonical next steps lines here leads.1)

  lines_canonical : (lines : List (List Term)) → IsChain problem c lines → All IsCanonical lines
  lines_canonical [] chain = absurd chain
  lines_canonical (line ∷ lines) chain =
      let first = subst IsCanonical (sym chain.0) (multiple_canonical c.denominator (claim_in problem c) (named_canonical problem.parts.claims c.claim) explained.accepted.adds_up.begins.products) in
      All-cons IsCanonical line lines first (later_canonical line (steps_of problem c) lines first chain.1)

  line_nonempty : (k : ℕ) → All (λ (t : Term). 0 < length t.1) (line_less problem c (take k (steps_of problem c)))
  line_nonempty k =
      let line : List Term = line_less problem c (take k (steps_of problem c)) in
      let typed : IsTyped (quiver_of ds) (claim_ends problem c.claim).0 (claim_ends problem c.claim).1 line = typed_line problem c k in
      words_listed (λ w. 0 < length w) line (distinct-descending line (line_descends problem c (take k (steps_of problem c)))) (line_nonzero problem c (take k (steps_of problem c)))
      (λ w there. path_has_letters (quiver_of ds) (claim_ends problem c.claim).0 (claim_ends problem c.claim).1 w (typed.at w there))

  lines_readable : All (IsReadableLine ds) (lines_of problem c)
  lines_readable =
      all_of IsCanonical (λ (p : List Term). All (λ (t : Term). IsOver (letter_count ds) t.1) p) (λ (p : List Term). All (λ (t : Term). 0 < length t.1) p) (IsReadableLine ds)
      (λ p canonical over nonempty. record { canonical = canonical; letters = over; nonempty = nonempty }) (lines_of problem c)
      (lines_canonical (lines_of problem c) (lines_are_a_chain problem c explained))
      (lines_over problem c)
      (All-map (λ (p : List Term). All (λ (t : Term). 0 < length t.1) p) (λ k. line_less problem c (take k (steps_of problem c))) (range_with_len 0 (length (steps_of problem c) + 1)) (λ i d below. line_nonempty _))

pub explained_is_readable : ExplainedIsReadable
explained_is_readable problem c checkable explained =
    let posed = explained.accepted.adds_up.begins.posed in
    let most = posed.claim.most in
    let count = length-polynomials problem.parts.claims in
    let few = problem.posed.few_claims in
    record {
      claim = omega (arith, most, count, few);
      denominator = above_zero c.denominator posed.denominator checkable.denominator;
      steps = steps_readable problem c checkable explained;
      lines = lines_readable problem c checkable explained;
      long = lines_long problem c (steps_of problem c);
    }
