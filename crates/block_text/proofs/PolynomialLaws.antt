-- A line is read as the polynomial that it spells within all bounds, or by the first that is wrong with it.
use Rattle.block_text.proofs.Prelude.{◌≡◌, ◌<◌, ◌≤◌, ◌-◌, ◌≢◌, ◌==◌, ℕ, zero, suc, ℤ, pos, Bool, true, false, not, cond, ◌&&◌, List, [], ◌∷◌, Option, Some, None, Result, Ok, Err, arith, refl, sym, ap, ap₂, ◌∙◌, subst, length, IsTrue, is_some, unsigned_abs, All, AllZip, list_all, digits_value, and_parts, le-leb, ne_eqb, All-nil, All-cons, All-head, All-tail, IsOver, IsCoefficient, Poly, Term, word_limit, term_limit, IsCanonical, IsDescending, IsDescending-from_recursion, recursion_from_IsDescending, Declaration, letter_count, Flaw, BadLine, UnknownName, NotAsWritten, NumberTooLarge, TooMany, Asked, Form, Known, Written, Within, asked, is_number, number_within, letter_of, word_of, signed, Line, integer_limit, IsPolynomialLine, Fits, IsPolynomialFlaw, unknown, unwritten, large, many, long, TermTokens, PolynomialTokens, zero_line, terms, polynomial_line, is_term_letter, IsFactor, IsTerm, IsPolynomialTokens, terms_in, factor_value, coefficient_value, IsTermOf, IsPolynomialOf, IsWrittenLetter, HasKnownLetters, IsAsWritten, HasNumbersWithin, HasFewTerms, HasShortWords, terms_of, is_zero, poly_behind, passes_letter, passes_number, is_some_token, pass_letters, passes, descend, at_most, first_flaw, polynomial_of, written_letter, AllZip-unique, AllZip-weaker, zip_left, zip_right, zip_length}
use Rattle.block_text.specs.PolynomialFlaws.{misfit}
use Rattle.block_text.proofs.PolynomialBounds.{all_from, all_to, all_with, some_of, above_one, above_one_from, within_by, written_is, written_there}
use Rattle.block_text.proofs.LetterRange.{word_is_over}
use Rattle.block_text.proofs.PolynomialTerms.{some_same, word_count, MakesTerm, MakesPoly, poly_is, poly_there}
use Rattle.block_text.proofs.PolynomialTokens.{terms_back, terms_no_zero, has_terms}
use Rattle.block_text.proofs.PolynomialWords.{descends_is, descends_there}
use Rattle.block_text.proofs.Results.{by_test, asked_ok}

-- the tests of a term
tokens_there : (tokens : Line) → 0 < length tokens → is_some_token tokens ≡ true
tokens_there [] some = absurd (omega (arith, some))
tokens_there (token ∷ tokens) some = refl

tokens_some : (tokens : Line) → is_some_token tokens ≡ true → 0 < length tokens
tokens_some [] some = absurd (cc)
tokens_some (token ∷ tokens) some = omega arith

module _ (ds : List Declaration) where
  record Passes (q : Asked) (t : TermTokens) : Type 0 where
    number : passes_number q t.factor ≡ true
    letters : list_all (passes_letter ds q) t.letters ≡ true
    some : 0 < length t.letters

  passes_is : (q : Asked) (t : TermTokens) → passes ds q t ≡ true → Passes q t
  passes_is q t known =
      let parts = and_parts (passes_number q t.factor) (pass_letters ds q t.letters) known in
      let inner = and_parts (list_all (passes_letter ds q) t.letters) (is_some_token t.letters) parts.1 in
      record { number = parts.0; letters = inner.0; some = tokens_some t.letters inner.1 }

  passes_there : (q : Asked) (t : TermTokens) → Passes q t → passes ds q t ≡ true
  passes_there q t known = rw (known.number, known.letters, tokens_there t.letters known.some) refl

  form_number : (factor : Option (List ℕ)) → passes_number Form factor ≡ true → IsFactor factor
  form_number None known = tt
  form_number (Some digits) known = above_one digits known

  number_form : (factor : Option (List ℕ)) → IsFactor factor → passes_number Form factor ≡ true
  number_form None is = refl
  number_form (Some digits) is = above_one_from digits is.0 is.1

  pub form_is : (t : TermTokens) → passes ds Form t ≡ true → IsTerm t
  form_is t known =
      let all = passes_is Form t known in
      record { factor = form_number t.factor all.number; some = all.some; letters = all_from (passes_letter ds Form) (λ token. IsTrue (is_term_letter token)) (λ token e. e) t.letters all.letters }

  pub form_there : (t : TermTokens) → IsTerm t → passes ds Form t ≡ true
  form_there t is =
      passes_there Form t (record { number = number_form t.factor is.factor; letters = all_to (passes_letter ds Form) (λ token. IsTrue (is_term_letter token)) (λ token e. e) t.letters is.letters; some = is.some })

  abbrev pub IsKnown : List ℕ → Type 0
  IsKnown token = (a : ℕ) × (letter_of ds token ≡ Some a)

  any_number : (q : Asked) (factor : Option (List ℕ)) → ((digits : List ℕ) → passes_number q (Some digits) ≡ true) → passes_number q factor ≡ true
  any_number q None each = refl
  any_number q (Some digits) each = each digits

  known_by : (o : Option ℕ) → ((a : ℕ) × (o ≡ Some a)) → is_some o ≡ true
  known_by o there = rw (there.1) refl

  pub known_is : (t : TermTokens) → passes ds Known t ≡ true → All IsKnown t.letters
  known_is t known = all_from (passes_letter ds Known) IsKnown (λ token e. some_of (letter_of ds token) e) t.letters (passes_is Known t known).letters

  pub known_there : (t : TermTokens) → IsTerm t → All IsKnown t.letters → passes ds Known t ≡ true
  known_there t is all =
      passes_there Known t (record { number = any_number Known t.factor (λ digits. refl); letters = all_to (passes_letter ds Known) IsKnown (λ token there. known_by (letter_of ds token) there) t.letters all; some = is.some })

  one_written : (token : List ℕ) → is_some (written_letter ds token) ≡ true → IsWrittenLetter ds token
  one_written token some =
      let there = some_of (written_letter ds token) some in
      let is = written_is ds token there.0 there.1 in (there.0, is.found, is.written)

  pub writing_is : (t : TermTokens) → passes ds Written t ≡ true → All (IsWrittenLetter ds) t.letters
  writing_is t known = all_from (passes_letter ds Written) (IsWrittenLetter ds) one_written t.letters (passes_is Written t known).letters

  abbrev BothWritten : List ℕ → Type 0
  BothWritten token = IsTrue (is_term_letter token) × IsWrittenLetter ds token

  both_written : (token : List ℕ) → BothWritten token → is_some (written_letter ds token) ≡ true
  both_written token both = known_by (written_letter ds token) (both.1.0, written_there ds token both.1.0 both.0 both.1.1 both.1.2)

  pub writing_there : (t : TermTokens) → IsTerm t → All (IsWrittenLetter ds) t.letters → passes ds Written t ≡ true
  writing_there t is all =
      let both = all_with (λ token. IsTrue (is_term_letter token)) (IsWrittenLetter ds) BothWritten (λ token l w. (l, w)) t.letters is.letters all in
      passes_there Written t (record { number = any_number Written t.factor (λ digits. refl); letters = all_to (passes_letter ds Written) BothWritten both_written t.letters both; some = is.some })

  number_within_is : (factor : Option (List ℕ)) → passes_number Within factor ≡ true → factor_value factor ≤ integer_limit
  number_within_is None known = omega arith
  number_within_is (Some digits) known =
      let parts = and_parts (is_number digits) (is_some (number_within integer_limit digits)) known in within_by (digits_value 10 digits) integer_limit _ refl parts.1

  number_within_there : (factor : Option (List ℕ)) → IsFactor factor → factor_value factor ≤ integer_limit → passes_number Within factor ≡ true
  number_within_there None is within = refl
  number_within_there (Some digits) is within = let number : is_number digits ≡ true = is.0 in rw (number, le-leb (digits_value 10 digits) integer_limit within) refl

  always : (tokens : Line) → list_all (passes_letter ds Within) tokens ≡ true
  always [] = refl
  always (token ∷ tokens) = always tokens

  pub within_is : (t : TermTokens) → passes ds Within t ≡ true → factor_value t.factor ≤ integer_limit
  within_is t known = number_within_is t.factor (passes_is Within t known).number

  pub within_there : (t : TermTokens) → IsTerm t → factor_value t.factor ≤ integer_limit → passes ds Within t ≡ true
  within_there t is within = passes_there Within t (record { number = number_within_there t.factor is.factor within; letters = always t.letters; some = is.some })

-- the number of terms
pub at_most_is : {X : Type 0} (n : ℕ) (xs : List X) → at_most n xs ≡ true → length xs ≤ n
at_most_is n [] known = omega arith
at_most_is n (x ∷ xs) known = by_test (n == 0) _ _ true known (λ none e. absurd (cc)) (λ some e. let rest = at_most_is (n - 1) xs e in omega (arith, rest, not_zero n some))
  where
    not_zero : (n : ℕ) → (n == 0) ≡ false → 0 < n
    not_zero zero some = absurd (cc)
    not_zero (suc n) some = omega arith

pub at_most_there : {X : Type 0} (n : ℕ) (xs : List X) → length xs ≤ n → at_most n xs ≡ true
at_most_there n [] few = refl
at_most_there n (x ∷ xs) few = rw (ne_eqb n 0 (λ e. omega (arith, e, few))) (at_most_there (n - 1) xs (omega (arith, few)))

-- what terms say
module _ {X Y : Type 0} (R : X → Y → Type 0) where
  zip_with : (P S : X → Type 0) (Q : X → Y → Type 0) → ((x : X) (y : Y) → R x y → P x → S x → Q x y) → (xs : List X) (ys : List Y) → AllZip R xs ys → All P xs → All S xs → AllZip Q xs ys
  zip_with P S Q each [] [] zipped ps ss = tt
  zip_with P S Q each [] (y ∷ ys) zipped ps ss = absurd zipped
  zip_with P S Q each (x ∷ xs) [] zipped ps ss = absurd zipped
  zip_with P S Q each (x ∷ xs) (y ∷ ys) zipped ps ss =
      (each x y zipped.0 (All-head P x xs ps) (All-head S x xs ss), zip_with P S Q each xs ys zipped.1 (All-tail P x xs ps) (All-tail S x xs ss))

module _ (ds : List Declaration) where
  term_unique : (t : TermTokens) (x y : Term) → IsTermOf ds t x → IsTermOf ds t y → x ≡ y
  term_unique t x y one other = ap₂ (λ (z : ℤ) (w : List ℕ). (z, w)) (one.coefficient ∙ sym other.coefficient) (some_same x.1 y.1 (sym one.letters ∙ other.letters))

  pub poly_unique : (ts : List TermTokens) (p q : Poly) → AllZip (IsTermOf ds) ts p → AllZip (IsTermOf ds) ts q → p ≡ q
  poly_unique ts p q one other = AllZip-unique (IsTermOf ds) term_unique ts p q one other

  word_said : (letters : Line) → All (IsKnown ds) letters → (w : List ℕ) × (word_of ds letters ≡ Some w)
  word_said [] all = ([], refl)
  word_said (token ∷ letters) all =
      let here = All-head (IsKnown ds) token letters all in
      let rest = word_said letters (All-tail (IsKnown ds) token letters all) in
      (here.0 ∷ rest.0, rw (here.1, rest.1) refl)

  -- terms with known letters say a polynomial
  pub poly_said : (ts : List TermTokens) → All (λ t. All (IsKnown ds) t.letters) ts → (p : Poly) × AllZip (IsTermOf ds) ts p
  poly_said [] all = ([], tt)
  poly_said (t ∷ ts) all =
      let word = word_said t.letters (All-head (λ u. All (IsKnown ds) u.letters) t ts all) in
      let rest = poly_said ts (All-tail (λ u. All (IsKnown ds) u.letters) t ts all) in
      ((coefficient_value t, word.0) ∷ rest.0, (record { coefficient = refl; letters = word.1 }, rest.1))

  -- all bounds on terms but that on their number
  record Bounds (t : TermTokens) : Type 0 where
    written : All (IsWrittenLetter ds) t.letters
    within : factor_value t.factor ≤ integer_limit
    short : length t.letters ≤ word_limit

  bounds_are : (ts : List TermTokens) → All (λ t. All (IsWrittenLetter ds) t.letters) ts → All (λ t. factor_value t.factor ≤ integer_limit) ts → All (λ t. length t.letters ≤ word_limit) ts → All Bounds ts
  bounds_are [] written within short = All-nil Bounds
  bounds_are (t ∷ ts) written within short =
      All-cons Bounds t ts (record {
        written = All-head (λ u. All (IsWrittenLetter ds) u.letters) t ts written;
        within = All-head (λ u. factor_value u.factor ≤ integer_limit) t ts within;
        short = All-head (λ u. length u.letters ≤ word_limit) t ts short;
      }) (bounds_are ts (All-tail (λ u. All (IsWrittenLetter ds) u.letters) t ts written) (All-tail (λ u. factor_value u.factor ≤ integer_limit) t ts within) (All-tail (λ u. length u.letters ≤ word_limit) t ts short))

  -- terms that keep all bounds are read
  made_there : (ts : List TermTokens) (p : Poly) → All IsTerm ts → All Bounds ts → AllZip (IsTermOf ds) ts p → IsDescending p → length ts ≤ term_limit → poly_behind ds [] ts ≡ Some p
  made_there ts p fit bounds says descends few =
      poly_there ds [] ts p
      (zip_with (IsTermOf ds) IsTerm Bounds (MakesTerm ds) (λ t x says is bound. record { is_term = is; written = bound.written; within = bound.within; short = bound.short; says = says }) ts p says fit bounds)
      (recursion_from_IsDescending p descends) (subst (λ n. n ≤ term_limit) (zip_length (IsTermOf ds) ts p says) few)

  -- a line that is read
  pub record IsNought (line : Line) : Type 0 where
    pub digits : List ℕ
    pub is : digits ∷ [] ≡ line
    pub number : is_number digits ≡ true
    pub value : digits_value 10 digits ≡ 0

  pub nought_is : (line : Line) → is_zero line ≡ true → IsNought line
  nought_is [] nought = absurd (cc)
  nought_is (digits ∷ []) nought =
      let parts = and_parts (is_number digits) (is_some (number_within 0 digits)) nought in
      let small : digits_value 10 digits ≤ 0 = within_by (digits_value 10 digits) 0 _ refl parts.1 in
      record { digits = digits; is = refl; number = parts.0; value = omega (arith, small) }
  nought_is (a ∷ b ∷ tokens) nought = absurd (cc)

  pub no_poly : (p : Poly) → AllZip (IsTermOf ds) [] p → [] ≡ p
  no_poly [] says = refl
  no_poly (x ∷ p) says = absurd says

  pub nought_read : (line : Line) → IsNought line → IsPolynomialLine ds line []
  nought_read line nought = record {
    tokens = zero_line nought.digits;
    are = nought.is;
    fit = (nought.number, nought.value);
    known = record { known = All-nil _ };
    written = record { letters = All-nil _; descends = λ q says. subst IsDescending (no_poly q says) (IsDescending-from_recursion [] tt) };
    numbers = record { within = All-nil _ };
    few = record { few = omega arith };
    short = record { short = All-nil _ };
    says = tt;
  }

  written_known : (token : List ℕ) → IsWrittenLetter ds token → IsKnown ds token
  written_known token written = (written.0, written.1)

  terms_read : (line : Line) (first : TermTokens) (later : List TermTokens) (p : Poly) → polynomial_line (terms first later) ≡ line → MakesPoly ds [] (first ∷ later) p → IsPolynomialLine ds line p
  terms_read line first later p spelled made =
      let ts = first ∷ later in
      let each : AllZip (MakesTerm ds) ts p = subst (AllZip (MakesTerm ds) ts) (sym made.is) made.each in
      let fit = zip_left (MakesTerm ds) IsTerm (λ t x makes. makes.is_term) ts p each in
      let says = AllZip-weaker (MakesTerm ds) (IsTermOf ds) (λ t x makes. makes.says) ts p each in
      let descends = IsDescending-from_recursion p made.descends in
      record {
        tokens = terms first later;
        are = spelled;
        fit = (All-head IsTerm first later fit, All-tail IsTerm first later fit);
        known = record { known = zip_left (MakesTerm ds) (λ t. All (IsKnown ds) t.letters) (λ t x makes. All-known t.letters makes.written) ts p each };
        written = record {
          letters = zip_left (MakesTerm ds) (λ t. All (IsWrittenLetter ds) t.letters) (λ t x makes. makes.written) ts p each;
          descends = λ q other. subst IsDescending (poly_unique ts p q says other) descends;
        };
        numbers = record { within = zip_left (MakesTerm ds) (λ t. factor_value t.factor ≤ integer_limit) (λ t x makes. makes.within) ts p each };
        few = record { few = subst (λ n. n ≤ term_limit) (sym (zip_length (IsTermOf ds) ts p says)) made.few };
        short = record { short = zip_left (MakesTerm ds) (λ t. length t.letters ≤ word_limit) (λ t x makes. makes.short) ts p each };
        says = says;
      }
    where
      All-known : (letters : Line) → All (IsWrittenLetter ds) letters → All (IsKnown ds) letters
      All-known letters all = all_with (IsWrittenLetter ds) (IsWrittenLetter ds) (IsKnown ds) (λ token w v. written_known token w) letters all all

  made_of : (line : Line) (p : Poly) → poly_behind ds [] (terms_of line) ≡ Some p → IsPolynomialLine ds line p
  made_of line p read =
      let there = has_terms line in
      let made = poly_is ds [] (there.first ∷ there.later) p tt (omega arith) (subst (λ ts. poly_behind ds [] ts ≡ Some p) there.are read) in
      terms_read line there.first there.later p there.spelled made

  -- a line that is read spells the polynomial, within all bounds
  pub polynomial_is : (line : Line) (p : Poly) → polynomial_of ds line ≡ Ok p → IsPolynomialLine ds line p
  polynomial_is line p read =
      by_test (is_zero line) _ _ (Ok p) read
      (λ nought same. subst (IsPolynomialLine ds line) (ok_same [] p same) (nought_read line (nought_is line nought)))
      (λ some made. made_of line p (asked_ok (first_flaw ds (terms_of line)) (poly_behind ds [] (terms_of line)) p made))
    where
      ok_same : (x y : Poly) → ◌≡◌ {A = Result Poly Flaw} (Ok x) (Ok y) → x ≡ y
      ok_same x y same = cc

  pub nought_there : (digits : List ℕ) → IsTrue (is_number digits) → digits_value 10 digits ≡ 0 → is_zero (digits ∷ []) ≡ true
  nought_there digits number value = let known : is_number digits ≡ true = number in rw (known, le-leb (digits_value 10 digits) 0 (omega (arith, value))) refl

  spelled_there : (tokens : PolynomialTokens) (p : Poly) → IsPolynomialTokens tokens → IsAsWritten ds tokens → HasNumbersWithin tokens → HasFewTerms tokens → HasShortWords tokens → IsPolynomialOf ds tokens p
      → polynomial_of ds (polynomial_line tokens) ≡ Ok p
  spelled_there (zero_line digits) p fit written numbers few short says = rw (nought_there digits fit.0 fit.1) (ap Ok (no_poly p says))
  spelled_there (terms first later) p fit written numbers few short says =
      let ts = first ∷ later in
      let made = made_there ts p (All-cons IsTerm first later fit.0 fit.1) (bounds_are ts written.letters numbers.within short.short) says (written.descends p says) few.few in
      rw (terms_no_zero first later fit.0 fit.1, terms_back first later fit.0 fit.1, made) refl

  -- a line that spells a polynomial within all bounds is read
  pub polynomial_there : (line : Line) (p : Poly) → IsPolynomialLine ds line p → polynomial_of ds line ≡ Ok p
  polynomial_there line p is = subst (λ l. polynomial_of ds l ≡ Ok p) is.are (spelled_there is.tokens p is.fit is.written is.numbers is.few is.short is.says)

  -- a line that isn't read
  none_is : (o : Option Poly) (f g : Flaw) → asked f o ≡ Err g → (o ≡ None) × (f ≡ g)
  none_is (Some p) f g read = absurd (cc)
  none_is None f g read = (refl, cc)

  pub all_terms : (tokens : PolynomialTokens) → IsPolynomialTokens tokens → All IsTerm (terms_in tokens)
  all_terms (zero_line digits) fit = All-nil IsTerm
  all_terms (terms first later) fit = All-cons IsTerm first later fit.0 fit.1

  -- tokens that fit a line that isn't a number of value 0 are its terms
  terms_fit : (line : Line) (tokens : PolynomialTokens) → is_zero line ≡ false → Fits line tokens → (terms_of line ≡ terms_in tokens) × All IsTerm (terms_of line)
  terms_fit line (zero_line digits) some fits =
      let nought : is_zero line ≡ true = subst (λ l. is_zero l ≡ true) fits.are (nought_there digits fits.fit.0 fits.fit.1) in absurd (cc)
  terms_fit line (terms first later) some fits =
      let are : terms_of line ≡ first ∷ later = subst (λ l. terms_of l ≡ first ∷ later) fits.are (terms_back first later fits.fit.0 fits.fit.1) in
      (are, subst (All IsTerm) (sym are) (All-cons IsTerm first later fits.fit.0 fits.fit.1))

  -- by the tests in turn, of terms that are not read
  flaw_by : (line : Line) (first : TermTokens) (later : List TermTokens) (flaw : Flaw) (a b c d e : Bool)
      → is_zero line ≡ false → terms_of line ≡ first ∷ later → polynomial_line (terms first later) ≡ line → poly_behind ds [] (first ∷ later) ≡ None
      → list_all (passes ds Form) (first ∷ later) ≡ a → list_all (passes ds Known) (first ∷ later) ≡ b → (list_all (passes ds Written) (first ∷ later) && descend ds (first ∷ later)) ≡ c
      → list_all (passes ds Within) (first ∷ later) ≡ d → at_most term_limit (first ∷ later) ≡ e
      → cond (not a) BadLine (cond (not b) UnknownName (cond (not c) NotAsWritten (cond (not d) NumberTooLarge (cond (not e) (TooMany term_limit) (TooMany word_limit))))) ≡ flaw
      → IsPolynomialFlaw ds line flaw
  flaw_by line first later flaw false b c d e some are spelled none form known written within few told = misfit (sym told) (λ tokens fits.
      let fit : All IsTerm (first ∷ later) = subst (All IsTerm) are (terms_fit line tokens some fits).1 in
      let passed : list_all (passes ds Form) (first ∷ later) ≡ true = all_to (passes ds Form) IsTerm (form_there ds) (first ∷ later) fit in
      cc)
  flaw_by line first later flaw true false c d e some are spelled none form known written within few told =
      let fit = all_from (passes ds Form) IsTerm (form_is ds) (first ∷ later) form in
      unknown (terms first later) (sym told) (record { are = spelled; fit = (All-head IsTerm first later fit, All-tail IsTerm first later fit) }) (λ kept.
      let both = all_with IsTerm (λ t. All (IsKnown ds) t.letters) (λ t. IsTerm t × All (IsKnown ds) t.letters) (λ t i k. (i, k)) (first ∷ later) fit kept.known in
      let passed : list_all (passes ds Known) (first ∷ later) ≡ true = all_to (passes ds Known) (λ t. IsTerm t × All (IsKnown ds) t.letters) (λ t h. known_there ds t h.0 h.1) (first ∷ later) both in
      cc)
  flaw_by line first later flaw true true false d e some are spelled none form known written within few told =
      let ts = first ∷ later in
      let fit = all_from (passes ds Form) IsTerm (form_is ds) ts form in
      let knows = all_from (passes ds Known) (λ t. All (IsKnown ds) t.letters) (known_is ds) ts known in
      unwritten (terms first later) (sym told) (record { are = spelled; fit = (All-head IsTerm first later fit, All-tail IsTerm first later fit) }) (record { known = knows }) (λ kept.
      let both = all_with IsTerm (λ t. All (IsWrittenLetter ds) t.letters) (λ t. IsTerm t × All (IsWrittenLetter ds) t.letters) (λ t i w. (i, w)) ts fit kept.letters in
      let letters : list_all (passes ds Written) ts ≡ true = all_to (passes ds Written) (λ t. IsTerm t × All (IsWrittenLetter ds) t.letters) (λ t h. writing_there ds t h.0 h.1) ts both in
      let said = poly_said ts knows in
      let falls : descend ds ts ≡ true = descends_there ds ts said.0 said.1 (recursion_from_IsDescending said.0 (kept.descends said.0 said.1)) in
      let passed : (list_all (passes ds Written) ts && descend ds ts) ≡ true = rw (letters, falls) refl in
      cc)
  flaw_by line first later flaw true true true d e some are spelled none form known written within few told =
      let ts = first ∷ later in
      let fit = all_from (passes ds Form) IsTerm (form_is ds) ts form in
      let knows = all_from (passes ds Known) (λ t. All (IsKnown ds) t.letters) (known_is ds) ts known in
      let parts : (list_all (passes ds Written) ts ≡ true) × (descend ds ts ≡ true) = and_parts _ _ written in
      let letters = all_from (passes ds Written) (λ t. All (IsWrittenLetter ds) t.letters) (writing_is ds) ts parts.0 in
      let descends : (p : Poly) → IsPolynomialOf ds (terms first later) p → IsDescending p = λ p says. IsDescending-from_recursion p (descends_is ds ts p says parts.1) in
      later_flaw line first later flaw d e (record { are = spelled; fit = (All-head IsTerm first later fit, All-tail IsTerm first later fit) }) (record { known = knows }) (record { letters = letters; descends = descends }) none within few told
    where
      later_flaw : (line : Line) (first : TermTokens) (later : List TermTokens) (flaw : Flaw) (d e : Bool) → Fits line (terms first later) → HasKnownLetters ds (terms first later) → IsAsWritten ds (terms first later)
          → poly_behind ds [] (first ∷ later) ≡ None → list_all (passes ds Within) (first ∷ later) ≡ d → at_most term_limit (first ∷ later) ≡ e
          → cond (not d) NumberTooLarge (cond (not e) (TooMany term_limit) (TooMany word_limit)) ≡ flaw → IsPolynomialFlaw ds line flaw
      later_flaw line first later flaw false e fits known written none within few told =
          large (terms first later) (sym told) fits known written (λ kept.
          let ts = first ∷ later in
          let both = all_with IsTerm (λ t. factor_value t.factor ≤ integer_limit) (λ t. IsTerm t × (factor_value t.factor ≤ integer_limit)) (λ t i w. (i, w)) ts (all_terms (terms first later) fits.fit) kept.within in
          let passed : list_all (passes ds Within) ts ≡ true = all_to (passes ds Within) (λ t. IsTerm t × (factor_value t.factor ≤ integer_limit)) (λ t h. within_there ds t h.0 h.1) ts both in
          cc)
      later_flaw line first later flaw true false fits known written none within few told =
          many (terms first later) (sym told) fits known written (record { within = all_from (passes ds Within) (λ t. factor_value t.factor ≤ integer_limit) (within_is ds) (first ∷ later) within }) (λ kept.
          let passed : at_most term_limit (first ∷ later) ≡ true = at_most_there term_limit (first ∷ later) kept.few in cc)
      later_flaw line first later flaw true true fits known written none within few told =
          let ts = first ∷ later in
          let numbers = all_from (passes ds Within) (λ t. factor_value t.factor ≤ integer_limit) (within_is ds) ts within in
          let count = at_most_is term_limit ts few in
          long (terms first later) (sym told) fits known written (record { within = numbers }) (record { few = count }) (λ kept.
          let said = poly_said ts known.known in
          let made : poly_behind ds [] ts ≡ Some said.0 = made_there ts said.0 (all_terms (terms first later) fits.fit) (bounds_are ts written.letters numbers kept.short) said.1 (written.descends said.0 said.1) count in
          cc)

  -- a line that isn't read has this as the first that is wrong with it
  pub flaw_is : (line : Line) (flaw : Flaw) → polynomial_of ds line ≡ Err flaw → IsPolynomialFlaw ds line flaw
  flaw_is line flaw read =
      by_test (is_zero line) _ _ (Err flaw) read (λ nought same. absurd (cc)) (λ some made.
      let there = has_terms line in
      let refused = none_is (poly_behind ds [] (terms_of line)) (first_flaw ds (terms_of line)) flaw made in
      let none : poly_behind ds [] (there.first ∷ there.later) ≡ None = subst (λ ts. poly_behind ds [] ts ≡ None) there.are refused.0 in
      let told : first_flaw ds (there.first ∷ there.later) ≡ flaw = subst (λ ts. first_flaw ds ts ≡ flaw) there.are refused.1 in
      flaw_by line there.first there.later flaw _ _ _ _ _ some there.are there.spelled none refl refl refl refl refl told)

  -- the polynomial of a line
  signed_nonzero : (negative : Bool) (n : ℕ) → 0 < n → signed negative n ≢ pos 0
  signed_nonzero negative zero some = absurd (omega (arith, some))
  signed_nonzero true (suc n) some = λ e. let same : suc n ≡ 0 = ap unsigned_abs e in omega (arith, same)
  signed_nonzero false (suc n) some = λ e. let same : suc n ≡ 0 = ap unsigned_abs e in omega (arith, same)

  signed_in_range : (negative : Bool) (n : ℕ) → n ≤ integer_limit → IsCoefficient (signed negative n)
  signed_in_range true zero small = omega (arith, small)
  signed_in_range true (suc n) small = omega (arith, small)
  signed_in_range false n small = omega (arith, small)

  factor_some : (factor : Option (List ℕ)) → IsFactor factor → 0 < factor_value factor
  factor_some None is = omega arith
  factor_some (Some digits) is = omega (arith, is.1)

  record GoodTerm (t : TermTokens) (x : Term) : Type 0 where
    nonzero : x.0 ≢ pos 0
    in_range : IsCoefficient x.0
    short : length x.1 ≤ word_limit
    over : IsOver (letter_count ds) x.1
    some : 0 < length x.1

  good_term : (t : TermTokens) (x : Term) → IsTermOf ds t x → IsTerm t → Bounds t → GoodTerm t x
  good_term t x says is bound =
      let count = word_count ds t.letters x.1 says.letters in
      record {
        nonzero = subst (λ (z : ℤ). z ≢ pos 0) (sym says.coefficient) (signed_nonzero t.negative (factor_value t.factor) (factor_some t.factor is.factor));
        in_range = subst IsCoefficient (sym says.coefficient) (signed_in_range t.negative (factor_value t.factor) bound.within);
        short = omega (arith, count, bound.short);
        over = word_is_over ds t.letters x.1 says.letters;
        some = omega (arith, count, is.some);
      }

  good_terms : (line : Line) (p : Poly) (is : IsPolynomialLine ds line p) → AllZip GoodTerm (terms_in is.tokens) p
  good_terms line p is =
      zip_with (IsTermOf ds) IsTerm Bounds GoodTerm good_term (terms_in is.tokens) p is.says (all_terms is.tokens is.fit)
      (bounds_are (terms_in is.tokens) is.written.letters is.numbers.within is.short.short)

  -- it is canonical, in the letters of the quiver, and without the empty word
  pub is_canonical : (line : Line) (p : Poly) → IsPolynomialLine ds line p → IsCanonical p
  is_canonical line p is =
      let each = good_terms line p is in
      record {
        shaped = record {
          descending = is.written.descends p is.says;
          nonzero = zip_right GoodTerm (λ x. x.0 ≢ pos 0) (λ t x good. good.nonzero) (terms_in is.tokens) p each;
          in_range = zip_right GoodTerm (λ x. IsCoefficient x.0) (λ t x good. good.in_range) (terms_in is.tokens) p each;
        };
        short = zip_right GoodTerm (λ x. length x.1 ≤ word_limit) (λ t x good. good.short) (terms_in is.tokens) p each;
        few = subst (λ n. n ≤ term_limit) (zip_length GoodTerm (terms_in is.tokens) p each) is.few.few;
      }

  pub is_over : (line : Line) (p : Poly) → IsPolynomialLine ds line p → All (λ x. IsOver (letter_count ds) x.1) p
  is_over line p is = zip_right GoodTerm (λ x. IsOver (letter_count ds) x.1) (λ t x good. good.over) (terms_in is.tokens) p (good_terms line p is)

  -- the same of terms that are read
  pub made_canonical : (line : Line) (p : Poly) → ◌≡◌ {A = Option Poly} (Some p) (poly_behind ds [] (terms_of line)) → IsCanonical p
  made_canonical line p made = is_canonical line p (made_of line p (sym made))

  pub made_over : (line : Line) (p : Poly) → ◌≡◌ {A = Option Poly} (Some p) (poly_behind ds [] (terms_of line)) → All (λ x. IsOver (letter_count ds) x.1) p
  made_over line p made = is_over line p (made_of line p (sym made))
