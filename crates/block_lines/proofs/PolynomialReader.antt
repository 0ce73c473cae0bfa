-- The line of a polynomial after a word is read.
use Rattle.block_lines.proofs.Prelude.{arith, ◌≡◌, ◌⊎◌, ◌∷◌, [], ℕ, true, false, List, Option, Some, None, Result, Ok, Err, IfSome, refl, sym, ap, ap₂, ◌∙◌, subst, map, inl, inr, codes, All, All-nil, All-cons, All-map, All-push, All-weaker, All-replicate, IsDescending, Declaration, Flaw, BadLine, Line, is, IsPolynomialLine, Fits, IsPolynomialFlaw, PolynomialTokens, polynomial_line, IsPolynomialTokens, terms_in, IsPolynomialOf, polynomial_of, before, is_word, Meets, reads, passes, begins_no_end, is_same, tokens_unique, polynomial_is, flaw_is, poly_unique, by_test, PolynomialBound, names, writing, numbers, terms, words, polynomial_before, polynomial_flaw, KeepsPolynomial, polynomial_behind, polynomial_read}
use Rattle.definitions.specs.Poly.{Poly}
use Rattle.block_text.specs.PolynomialFlaws as wrong
use Rattle.block_text.specs.PolynomialLines as tokens
use Rattle.block_lines.proofs.SectionReaders.{IsLineReader, IsLineRead, IsLinePassed}

module _ (ds : List Declaration) where
  -- the polynomial 0 keeps all bounds
  nothing_descends : (p : Poly) → IsPolynomialOf ds (tokens.zero []) p → IsDescending p
  nothing_descends [] says = λ i j d less within. absurd (omega (arith, within))
  nothing_descends (t ∷ p) says = absurd says

  zero_keeps : (digits : List ℕ) (bound : PolynomialBound) → KeepsPolynomial ds bound (tokens.zero digits)
  zero_keeps digits names = record { known = All-nil _ }
  zero_keeps digits writing = record { letters = All-nil _; descends = nothing_descends }
  zero_keeps digits numbers = record { within = All-nil _ }
  zero_keeps digits terms = record { few = omega arith }
  zero_keeps digits words = record { short = All-nil _ }

  -- what a line spells keeps all bounds
  pub line_keeps : (line : Line) (p : Poly) (spelled : IsPolynomialLine ds line p) (bound : PolynomialBound) → KeepsPolynomial ds bound spelled.tokens
  line_keeps line p spelled names = spelled.known
  line_keeps line p spelled writing = spelled.written
  line_keeps line p spelled numbers = spelled.numbers
  line_keeps line p spelled terms = spelled.few
  line_keeps line p spelled words = spelled.short

  -- the first bound that a line passes
  record IsPassed (line : Line) (flaw : Flaw) : Type 0 where
    from : PolynomialTokens
    fits : Fits line from
    bound : PolynomialBound
    told : flaw ≡ polynomial_flaw bound
    keeps : All (λ b. KeepsPolynomial ds b from) (polynomial_before bound)
    passed : KeepsPolynomial ds bound from → ⊥

  abbrev Kept : PolynomialTokens → PolynomialBound → Type 0
  Kept t bound = KeepsPolynomial ds bound t

  kept_two : (t : PolynomialTokens) → Kept t names → Kept t writing → All (Kept t) (names ∷ writing ∷ [])
  kept_two t known written = All-cons (Kept t) names (writing ∷ []) known (All-replicate (Kept t) 1 writing written)

  passed_by : (line : Line) (flaw : Flaw) → IsPolynomialFlaw ds line flaw → ((flaw ≡ BadLine) × ((t : PolynomialTokens) → Fits line t → ⊥)) ⊎ IsPassed line flaw
  passed_by line flaw (wrong.misfit bad none) = inl (bad, none)
  passed_by line flaw (wrong.unknown t told fits passed) = inr (record { from = t; fits = fits; bound = names; told = told; keeps = All-nil (Kept t); passed = passed })
  passed_by line flaw (wrong.unwritten t told fits known passed) =
      inr (record { from = t; fits = fits; bound = writing; told = told; keeps = All-replicate (Kept t) 1 names known; passed = passed })
  passed_by line flaw (wrong.large t told fits known written passed) =
      inr (record { from = t; fits = fits; bound = numbers; told = told; keeps = kept_two t known written; passed = passed })
  passed_by line flaw (wrong.many t told fits known written within passed) =
      inr (record { from = t; fits = fits; bound = terms; told = told; keeps = All-push (Kept t) (names ∷ writing ∷ []) numbers (kept_two t known written) within; passed = passed })
  passed_by line flaw (wrong.long t told fits known written within few passed) =
      inr (record { from = t; fits = fits; bound = words; told = told; keeps = All-push (Kept t) (names ∷ writing ∷ numbers ∷ []) terms (All-push (Kept t) (names ∷ writing ∷ []) numbers (kept_two t known written) within) few; passed = passed })

  -- by the bounds of a kind, of which those on polynomials are tested before the others
  module _ {Bound : Type 0} (flaw_of : Bound → Flaw) (bounds : List Bound) (part : Bound → Option PolynomialBound) (bound : PolynomialBound → Bound) (part_of : (b : PolynomialBound) → part (bound b) ≡ Some b)
      (told : (b : PolynomialBound) → flaw_of (bound b) ≡ polynomial_flaw b) (order : (b : PolynomialBound) → before flaw_of bounds (bound b) ≡ map bound (polynomial_before b)) (word : List ℕ) where
    abbrev Keeps : PolynomialTokens → Bound → Type 0
    Keeps t b = IfSome (part b) (λ c. KeepsPolynomial ds c t)

    pub kept_by : (t : PolynomialTokens) (o : Option PolynomialBound) → ((b : PolynomialBound) → KeepsPolynomial ds b t) → IfSome o (λ c. KeepsPolynomial ds c t)
    kept_by t None keeps = tt
    kept_by t (Some b) keeps = keeps b

    is_read : (l : Line) (p : Poly) → polynomial_read ds word l ≡ Ok p → IsLineRead flaw_of bounds (polynomial_behind ds part word) l p
    is_read [] p read = absurd (cc)
    is_read (token ∷ tokens) p read =
        by_test (is word token) _ _ (Ok p) read
        (λ same read_on.
        let spelled = polynomial_is ds tokens p read_on in
        record {
          tokens = spelled.tokens;
          are = ap₂ (λ t ts. t ∷ ts) (is_word word token same) (sym spelled.are);
          is = spelled.fit;
          keeps = λ b. kept_by spelled.tokens (part b) (line_keeps tokens p spelled);
          says = spelled.says;
        })
        (λ other none. absurd (cc))

    stops : (l : Line) (f : Flaw) → polynomial_read ds word l ≡ Err f → (f ≡ BadLine) ⊎ IsLinePassed flaw_of bounds (polynomial_behind ds part word) l f
    stops [] f read = inl (cc)
    stops (token ∷ tokens) f read = by_test (is word token) _ _ (Err f) read (λ same read_on. by_cases same (passed_by tokens f (flaw_is ds tokens f read_on))) (λ other none. inl (cc))
      where
        by_cases : is word token ≡ true → ((f ≡ BadLine) × ((t : PolynomialTokens) → Fits tokens t → ⊥)) ⊎ IsPassed tokens f → (f ≡ BadLine) ⊎ IsLinePassed flaw_of bounds (polynomial_behind ds part word) (token ∷ tokens) f
        by_cases same (inl bad) = inl bad.0
        by_cases same (inr passed) =
            inr (record {
              tokens = passed.from;
              are = ap₂ (λ t ts. t ∷ ts) (is_word word token same) (sym passed.fits.are);
              is = passed.fits.fit;
              bound = bound passed.bound;
              told = passed.told ∙ sym (told passed.bound);
              keeps = subst (All (Keeps passed.from)) (sym (order passed.bound))
                  (All-map (Keeps passed.from) bound (polynomial_before passed.bound)
                  (All-weaker (λ b. KeepsPolynomial ds b passed.from) (λ b. Keeps passed.from (bound b)) (λ b kept. subst (λ o. IfSome o (λ c. KeepsPolynomial ds c passed.from)) (sym (part_of b)) kept) (polynomial_before passed.bound) passed.keeps));
            })

    reads_by : (K : Bound → Type 0) (t : PolynomialTokens) (r : Result Poly Flaw) → polynomial_of ds (polynomial_line t) ≡ r → IsPolynomialTokens t → ((b : Bound) → K b → Keeps t b) → Meets flaw_of K (IsPolynomialOf ds t) r
    reads_by K t (Ok p) read fit keeps =
        let spelled = polynomial_is ds (polynomial_line t) p read in
        reads p refl (subst (λ u. IsPolynomialOf ds u p) (tokens_unique ds spelled.tokens t spelled.fit fit spelled.are) spelled.says)
    reads_by K t (Err f) read fit keeps = by_cases (passed_by (polynomial_line t) f (flaw_is ds (polynomial_line t) f read))
      where
        by_cases : ((f ≡ BadLine) × ((u : PolynomialTokens) → Fits (polynomial_line t) u → ⊥)) ⊎ IsPassed (polynomial_line t) f → Meets flaw_of K (IsPolynomialOf ds t) (Err f)
        by_cases (inl bad) = absurd (bad.1 t (record { are = refl; fit = fit }))
        by_cases (inr passed) =
            let same = tokens_unique ds passed.from t passed.fits.fit fit passed.fits.are in
            passes (bound passed.bound) (ap Err (passed.told ∙ sym (told passed.bound))) (λ kept.
            passed.passed (subst (λ u. KeepsPolynomial ds passed.bound u) (sym same) (subst (λ o. IfSome o (λ c. KeepsPolynomial ds c t)) (part_of passed.bound) (keeps (bound passed.bound) kept))))

    pub polynomial_reader : is (codes "end") word ≡ false → IsLineReader flaw_of bounds (polynomial_behind ds part word) (polynomial_read ds word)
    polynomial_reader other = record {
      example = tokens.zero (codes "0");
      is_example = (refl, refl);
      example_keeps = λ b. kept_by (tokens.zero (codes "0")) (part b) (zero_keeps (codes "0"));
      unended = λ t fit. begins_no_end word (polynomial_line t) other;
      unique = λ t p q one two. poly_unique ds (terms_in t) p q one two;
      is_read = is_read;
      stops = stops;
      reads = λ K t fit keeps. rw (is_same word) (reads_by K t (polynomial_of ds (polynomial_line t)) refl fit keeps);
    }
