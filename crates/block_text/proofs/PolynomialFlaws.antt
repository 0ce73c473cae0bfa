-- The tokens of a line are those of one polynomial, and a line is refused for its first flaw.
use Rattle.block_text.proofs.Prelude.{◌≡◌, ◌≤◌, ℕ, true, false, ◌&&◌, List, [], ◌∷◌, Option, Some, None, arith, Err, refl, sym, ap, ◌∙◌, subst, All, list_all, and_parts, false_from_ne_true, All-nil, All-head, All-tail, Poly, word_limit, term_limit, IsDescending, IsDescending-from_recursion, recursion_from_IsDescending, Declaration, Flaw, BadLine, UnknownName, NotAsWritten, NumberTooLarge, TooMany, Form, Known, Written, Within, asked, Line, integer_limit, IsPolynomialLine, Fits, IsPolynomialFlaw, unknown, unwritten, large, many, long, PolynomialLinesAreRead, PolynomialFlawsAreTold, TermTokens, PolynomialTokens, zero_line, terms, polynomial_line, IsTerm, IsPolynomialTokens, factor_value, IsWrittenLetter, HasKnownLetters, IsAsWritten, HasNumbersWithin, HasFewTerms, HasShortWords, terms_of, is_zero, poly_behind, passes, descend, at_most, first_flaw, polynomial_of}
use Rattle.block_text.specs.PolynomialFlaws.{misfit}
use Rattle.block_text.proofs.PolynomialBounds.{all_from, all_to, all_with}
use Rattle.block_text.proofs.PolynomialLaws.{IsKnown, form_is, form_there, known_is, known_there, writing_is, writing_there, within_is, within_there, at_most_is, at_most_there, all_terms, nought_is, nought_read, nought_there, poly_said, no_poly, polynomial_is, polynomial_there, flaw_is}
use Rattle.block_text.proofs.PolynomialTokens.{terms_back, terms_no_zero, has_terms}
use Rattle.block_text.proofs.PolynomialWords.{descends_is, descends_there}

-- the tokens of a line
abbrev tokens_of_list : List TermTokens → PolynomialTokens
tokens_of_list [] = zero_line []
tokens_of_list (t ∷ ts) = terms t ts

abbrev digits_of_line : Line → List ℕ
digits_of_line [] = []
digits_of_line (digits ∷ tokens) = digits

module _ (ds : List Declaration) where
  not_both : (digits : List ℕ) (first : TermTokens) (later : List TermTokens) → IsPolynomialTokens (zero_line digits) → IsPolynomialTokens (terms first later) → digits ∷ [] ≡ polynomial_line (terms first later) → ⊥
  not_both digits first later nought fit same =
      let is : is_zero (digits ∷ []) ≡ true = nought_there ds digits nought.0 nought.1 in
      let other : is_zero (digits ∷ []) ≡ false = subst (λ line. is_zero line ≡ false) (sym same) (terms_no_zero first later fit.0 fit.1) in cc

  -- tokens that fit the same line are the same
  pub tokens_unique : (s t : PolynomialTokens) → IsPolynomialTokens s → IsPolynomialTokens t → polynomial_line s ≡ polynomial_line t → s ≡ t
  tokens_unique (zero_line x) (zero_line y) one other same = ap (λ line. zero_line (digits_of_line line)) same
  tokens_unique (zero_line x) (terms first later) one other same = absurd (not_both x first later one other same)
  tokens_unique (terms first later) (zero_line y) one other same = absurd (not_both y first later other one (sym same))
  tokens_unique (terms first later) (terms next others) one other same =
      ap tokens_of_list (sym (terms_back first later one.0 one.1) ∙ ap terms_of same ∙ terms_back next others other.0 other.1)

  fits_unique : (line : Line) (s t : PolynomialTokens) → Fits line s → Fits line t → s ≡ t
  fits_unique line s t one other = tokens_unique s t one.fit other.fit (one.are ∙ sym other.are)

  -- flaws
  told_for : (line : Line) (flaw : Flaw) → is_zero line ≡ false → first_flaw ds (terms_of line) ≡ flaw → ((p : Poly) → IsPolynomialLine ds line p → ⊥) → polynomial_of ds line ≡ Err flaw
  told_for line flaw some told none = by_option (poly_behind ds [] (terms_of line)) refl
    where
      read : polynomial_of ds line ≡ asked (first_flaw ds (terms_of line)) (poly_behind ds [] (terms_of line))
      read = rw some refl

      by_option : (o : Option Poly) → poly_behind ds [] (terms_of line) ≡ o → polynomial_of ds line ≡ Err flaw
      by_option (Some p) is = absurd (none p (polynomial_is ds line p (read ∙ ap (asked (first_flaw ds (terms_of line))) is)))
      by_option None is = read ∙ ap (asked (first_flaw ds (terms_of line))) is ∙ ap Err told

  misfit_told : (line : Line) → ((tokens : PolynomialTokens) → Fits line tokens → ⊥) → polynomial_of ds line ≡ Err BadLine
  misfit_told line none =
      let there = has_terms line in
      let some : is_zero line ≡ false = false_from_ne_true (is_zero line) (λ nought.
      let is = nought_read ds line (nought_is ds line nought) in none is.tokens (record { are = is.are; fit = is.fit })) in
      let form : list_all (passes ds Form) (there.first ∷ there.later) ≡ false = false_from_ne_true (list_all (passes ds Form) (there.first ∷ there.later)) (λ passed.
      let fit = all_from (passes ds Form) IsTerm (form_is ds) (there.first ∷ there.later) passed in
      none (terms there.first there.later) (record { are = there.spelled; fit = (All-head IsTerm there.first there.later fit, All-tail IsTerm there.first there.later fit) })) in
      told_for line BadLine some (rw (there.are, form) refl) (λ p is. none is.tokens (record { are = is.are; fit = is.fit }))

  module _ (line : Line) (first : TermTokens) (later : List TermTokens) (fits : Fits line (terms first later)) where
    are : terms_of line ≡ first ∷ later
    are = subst (λ l. terms_of l ≡ first ∷ later) fits.are (terms_back first later fits.fit.0 fits.fit.1)

    some : is_zero line ≡ false
    some = subst (λ l. is_zero l ≡ false) fits.are (terms_no_zero first later fits.fit.0 fits.fit.1)

    fit : All IsTerm (first ∷ later)
    fit = all_terms ds (terms first later) fits.fit

    -- a line that is read has these tokens
    read_by : (P : PolynomialTokens → Type 0) → ((p : Poly) (is : IsPolynomialLine ds line p) → P is.tokens) → (P (terms first later) → ⊥) → (p : Poly) → IsPolynomialLine ds line p → ⊥
    read_by P each none p is = none (subst P (fits_unique line is.tokens (terms first later) (record { are = is.are; fit = is.fit }) fits) (each p is))

    form : list_all (passes ds Form) (first ∷ later) ≡ true
    form = all_to (passes ds Form) IsTerm (form_there ds) (first ∷ later) fit

    known_passed : HasKnownLetters ds (terms first later) → list_all (passes ds Known) (first ∷ later) ≡ true
    known_passed known =
        all_to (passes ds Known) (λ t. IsTerm t × All (IsKnown ds) t.letters) (λ t h. known_there ds t h.0 h.1) (first ∷ later)
        (all_with IsTerm (λ t. All (IsKnown ds) t.letters) (λ t. IsTerm t × All (IsKnown ds) t.letters) (λ t i k. (i, k)) (first ∷ later) fit known.known)

    known_kept : list_all (passes ds Known) (first ∷ later) ≡ true → HasKnownLetters ds (terms first later)
    known_kept passed = record { known = all_from (passes ds Known) (λ t. All (IsKnown ds) t.letters) (known_is ds) (first ∷ later) passed }

    written_passed : HasKnownLetters ds (terms first later) → IsAsWritten ds (terms first later) → (list_all (passes ds Written) (first ∷ later) && descend ds (first ∷ later)) ≡ true
    written_passed known written =
        let both = all_with IsTerm (λ t. All (IsWrittenLetter ds) t.letters) (λ t. IsTerm t × All (IsWrittenLetter ds) t.letters) (λ t i w. (i, w)) (first ∷ later) fit written.letters in
        let letters : list_all (passes ds Written) (first ∷ later) ≡ true = all_to (passes ds Written) (λ t. IsTerm t × All (IsWrittenLetter ds) t.letters) (λ t h. writing_there ds t h.0 h.1) (first ∷ later) both in
        let said = poly_said ds (first ∷ later) known.known in
        let falls : descend ds (first ∷ later) ≡ true = descends_there ds (first ∷ later) said.0 said.1 (recursion_from_IsDescending said.0 (written.descends said.0 said.1)) in
        rw (letters, falls) refl

    written_kept : (list_all (passes ds Written) (first ∷ later) && descend ds (first ∷ later)) ≡ true → IsAsWritten ds (terms first later)
    written_kept passed =
        let parts : (list_all (passes ds Written) (first ∷ later) ≡ true) × (descend ds (first ∷ later) ≡ true) = and_parts _ _ passed in
        record {
          letters = all_from (passes ds Written) (λ t. All (IsWrittenLetter ds) t.letters) (writing_is ds) (first ∷ later) parts.0;
          descends = λ p says. IsDescending-from_recursion p (descends_is ds (first ∷ later) p says parts.1);
        }

    within_passed : HasNumbersWithin (terms first later) → list_all (passes ds Within) (first ∷ later) ≡ true
    within_passed numbers =
        all_to (passes ds Within) (λ t. IsTerm t × (factor_value t.factor ≤ integer_limit)) (λ t h. within_there ds t h.0 h.1) (first ∷ later)
        (all_with IsTerm (λ t. factor_value t.factor ≤ integer_limit) (λ t. IsTerm t × (factor_value t.factor ≤ integer_limit)) (λ t i w. (i, w)) (first ∷ later) fit numbers.within)

    within_kept : list_all (passes ds Within) (first ∷ later) ≡ true → HasNumbersWithin (terms first later)
    within_kept passed = record { within = all_from (passes ds Within) (λ t. factor_value t.factor ≤ integer_limit) (within_is ds) (first ∷ later) passed }

    unknown_told : (HasKnownLetters ds (terms first later) → ⊥) → polynomial_of ds line ≡ Err UnknownName
    unknown_told none =
        let known : list_all (passes ds Known) (first ∷ later) ≡ false = false_from_ne_true (list_all (passes ds Known) (first ∷ later)) (λ passed. none (known_kept passed)) in
        told_for line UnknownName some (rw (are, form, known) refl) (read_by (HasKnownLetters ds) (λ p is. is.known) none)

    unwritten_told : HasKnownLetters ds (terms first later) → (IsAsWritten ds (terms first later) → ⊥) → polynomial_of ds line ≡ Err NotAsWritten
    unwritten_told known none =
        let written : (list_all (passes ds Written) (first ∷ later) && descend ds (first ∷ later)) ≡ false =
        false_from_ne_true (list_all (passes ds Written) (first ∷ later) && descend ds (first ∷ later)) (λ passed. none (written_kept passed)) in
        told_for line NotAsWritten some (rw (are, form, known_passed known, written) refl) (read_by (IsAsWritten ds) (λ p is. is.written) none)

    large_told : HasKnownLetters ds (terms first later) → IsAsWritten ds (terms first later) → (HasNumbersWithin (terms first later) → ⊥) → polynomial_of ds line ≡ Err NumberTooLarge
    large_told known written none =
        let numbers : list_all (passes ds Within) (first ∷ later) ≡ false = false_from_ne_true (list_all (passes ds Within) (first ∷ later)) (λ passed. none (within_kept passed)) in
        told_for line NumberTooLarge some (rw (are, form, known_passed known, written_passed known written, numbers) refl) (read_by HasNumbersWithin (λ p is. is.numbers) none)

    many_told : HasKnownLetters ds (terms first later) → IsAsWritten ds (terms first later) → HasNumbersWithin (terms first later) → (HasFewTerms (terms first later) → ⊥) → polynomial_of ds line ≡ Err (TooMany term_limit)
    many_told known written numbers none =
        let few : at_most term_limit (first ∷ later) ≡ false = false_from_ne_true (at_most term_limit (first ∷ later)) (λ passed. none (record { few = at_most_is term_limit (first ∷ later) passed })) in
        told_for line (TooMany term_limit) some (rw (are, form, known_passed known, written_passed known written, within_passed numbers, few) refl) (read_by HasFewTerms (λ p is. is.few) none)

    long_told : HasKnownLetters ds (terms first later) → IsAsWritten ds (terms first later) → HasNumbersWithin (terms first later) → HasFewTerms (terms first later) → (HasShortWords (terms first later) → ⊥)
        → polynomial_of ds line ≡ Err (TooMany word_limit)
    long_told known written numbers few none =
        told_for line (TooMany word_limit) some (rw (are, form, known_passed known, written_passed known written, within_passed numbers, at_most_there term_limit (first ∷ later) few.few) refl)
        (read_by HasShortWords (λ p is. is.short) none)

  -- a line that a number of value 0 fits keeps all bounds
  no_letters : (digits : List ℕ) → HasKnownLetters ds (zero_line digits)
  no_letters digits = record { known = All-nil _ }

  -- a line is refused for its first flaw
  pub flaw_there : (line : Line) (flaw : Flaw) → IsPolynomialFlaw ds line flaw → polynomial_of ds line ≡ Err flaw
  flaw_there line flaw (misfit told none) = misfit_told line none ∙ ap Err (sym told)
  flaw_there line flaw (unknown (zero_line digits) told fits none) = absurd (none (no_letters digits))
  flaw_there line flaw (unknown (terms first later) told fits none) = unknown_told line first later fits none ∙ ap Err (sym told)
  flaw_there line flaw (unwritten (zero_line digits) told fits known none) =
      absurd (none (record { letters = All-nil _; descends = λ q says. subst IsDescending (no_poly ds q says) (IsDescending-from_recursion [] tt) }))
  flaw_there line flaw (unwritten (terms first later) told fits known none) = unwritten_told line first later fits known none ∙ ap Err (sym told)
  flaw_there line flaw (large (zero_line digits) told fits known written none) = absurd (none (record { within = All-nil _ }))
  flaw_there line flaw (large (terms first later) told fits known written none) = large_told line first later fits known written none ∙ ap Err (sym told)
  flaw_there line flaw (many (zero_line digits) told fits known written numbers none) = absurd (none (record { few = omega arith }))
  flaw_there line flaw (many (terms first later) told fits known written numbers none) = many_told line first later fits known written numbers none ∙ ap Err (sym told)
  flaw_there line flaw (long (zero_line digits) told fits known written numbers few none) = absurd (none (record { short = All-nil _ }))
  flaw_there line flaw (long (terms first later) told fits known written numbers few none) = long_told line first later fits known written numbers few none ∙ ap Err (sym told)

pub polynomial_lines_are_read : PolynomialLinesAreRead
polynomial_lines_are_read ds line p = (polynomial_is ds line p, polynomial_there ds line p)

pub polynomial_flaws_are_told : PolynomialFlawsAreTold
polynomial_flaws_are_told ds line flaw = (flaw_is ds line flaw, flaw_there ds line flaw)
