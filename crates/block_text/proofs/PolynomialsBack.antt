-- A polynomial that is written is what its line spells.
use Rattle.block_text.proofs.Prelude.{◌≡◌, ◌≢◌, ◌<◌, ◌≤◌, ◌^◌, ◌==◌, ℕ, zero, suc, ℤ, pos, negsuc, Bool, true, false, cond, List, [], ◌∷◌, ◌++◌, Option, Some, None, arith, refl, sym, ap, ◌∙◌, subst, length, map, codes, IsTrue, nat_eq, nat_lt, eqb-true, ltb-true, decimal, is_negative, unsigned_abs, All, AllZip, AllByRecursion, list_all, flat_map, digits_value, false_from_ne_true, decimal_is_IsNumeral_wide, append_assoc, append-nil, length-map, All-nil, All-cons, All-head, All-tail, IsCoefficient, Poly, Term, IsOver, word_limit, term_limit, IsCanonical, IsDescending, Named, Object, Map, Declaration, letter_count, letter_name, named_in, IsDeclared, is_named, is_name, letter_of, signed, Line, integer_limit, IsPolynomialLine, PolynomialsAreReadBack, TermTokens, PolynomialTokens, zero_line, terms, factor_line, term_line, first_line, later_line, polynomial_line, is_term_letter, IsFactor, IsTerm, IsPolynomialTokens, terms_in, factor_value, IsTermOf, IsPolynomialOf, IsWrittenLetter, tokens_of, goes_on, spelled_as, letter_text, word_text, factor_text, term_text, later_text, poly_text}
use Rattle.block_text.proofs.LettersBack.{Comes, spelled_map, spelled_adjoint, spelled_identity}
use Rattle.block_text.proofs.LetterNames.{letter_is_spelled}
use Rattle.block_text.proofs.NumbersBack.{decimal_number, decimal_text}
use Rattle.block_text.proofs.PolynomialLaws.{poly_unique}
use Rattle.block_text.proofs.TextsBack.{letters_written, word_written}
use Rattle.block_text.proofs.TokensBack.{token_read, tokens_read, name_token, plain_token}

-- the tokens of a polynomial that is written
abbrev factor_by : Bool → ℕ → Option (List ℕ)
factor_by one n = cond one None (Some (decimal n))

abbrev factor_of : ℕ → Option (List ℕ)
factor_of n = factor_by (n == 1) n

module _ (ds : List Declaration) where
  abbrev pub written_term : Term → TermTokens
  written_term t = record { negative = is_negative t.0; factor = factor_of (unsigned_abs t.0); letters = map (letter_text ds) t.1 }

  abbrev pub written_tokens : Poly → PolynomialTokens
  written_tokens [] = zero_line (codes "0")
  written_tokens (t ∷ p) = terms (written_term t) (map written_term p)

-- numbers
value_by : (one : Bool) (n : ℕ) → (n == 1) ≡ one → n < 10 ^ 64 → factor_value (factor_by one n) ≡ n
value_by true n is below = sym (eqb-true n 1 is)
value_by false n is below = (decimal_is_IsNumeral_wide n below).1

factor_by_is : (one : Bool) (n : ℕ) → (n == 1) ≡ one → 0 < n → n < 10 ^ 64 → IsFactor (factor_by one n)
factor_by_is true n is some below = tt
factor_by_is false n is some below =
    let value : digits_value 10 (decimal n) ≡ n = (decimal_is_IsNumeral_wide n below).1 in
    let other : n ≢ 1 = λ e. absurd (let same : (1 == 1) ≡ false = subst (λ (k : ℕ). (k == 1) ≡ false) e is in cc) in
    (decimal_number n below, omega (arith, value, some, not_one n other some))
  where
    not_one : (n : ℕ) → n ≢ 1 → 0 < n → 1 < n
    not_one zero other some = absurd (omega (arith, some))
    not_one (suc zero) other some = absurd (other refl)
    not_one (suc (suc n)) other some = omega arith

sign_back : (z : ℤ) → signed (is_negative z) (unsigned_abs z) ≡ z
sign_back (pos n) =
    let no_less : nat_lt n 0 ≡ false = false_from_ne_true (nat_lt n 0) (λ less. omega (arith, ltb-true n 0 less)) in
    rw no_less refl
sign_back (negsuc n) = refl

abs_some : (z : ℤ) → z ≢ pos 0 → 0 < unsigned_abs z
abs_some (pos zero) nonzero = absurd (nonzero refl)
abs_some (pos (suc n)) nonzero = omega arith
abs_some (negsuc n) nonzero = omega arith

-- the tokens of the text
factor_tokens : (one : Bool) (n : ℕ) (rest : List ℕ) → n < 10 ^ 64 → tokens_of (cond one [] (decimal n ++ codes " ") ++ rest) ≡ factor_line (factor_by one n) ++ tokens_of rest
factor_tokens true n rest below = refl
factor_tokens false n rest below =
    rw (append_assoc (decimal n) (codes " ") rest) (token_read (decimal n) (32 ∷ rest) (name_token (decimal n) (decimal_text n below)) refl)

first_sign : (negative : Bool) (rest : List ℕ) → tokens_of (cond negative (codes "- ") [] ++ rest) ≡ cond negative (codes "-" ∷ tokens_of rest) (tokens_of rest)
first_sign true rest = refl
first_sign false rest = refl

later_sign : (negative : Bool) (rest : List ℕ) → tokens_of (cond negative (codes " - ") (codes " + ") ++ rest) ≡ cond negative (codes "-") (codes "+") ∷ tokens_of rest
later_sign true rest = refl
later_sign false rest = refl

stops_by : (negative : Bool) (rest : List ℕ) → goes_on (cond negative (codes " - ") (codes " + ") ++ rest) ≡ false
stops_by true rest = refl
stops_by false rest = refl

push_line : (negative : Bool) (xs ys : Line) → cond negative (codes "-" ∷ (xs ++ ys)) (xs ++ ys) ≡ cond negative (codes "-" ∷ xs) xs ++ ys
push_line true xs ys = refl
push_line false xs ys = refl

-- the letters of a quiver as a polynomial has them
map_plain : (name : List ℕ) (same : Bool) → is_name name ≡ true → is_term_letter (cond same name (name ++ codes "'")) ≡ true
map_plain name true known = rw (spelled_map name known) refl
map_plain name false known = rw (spelled_adjoint name known) refl

plain_by : (ds : List Declaration) (a : ℕ) (name : List ℕ) (found : Option Named) → is_name name ≡ true → Comes ds a found → is_term_letter (spelled_as name a found) ≡ true
plain_by ds a name None known comes = absurd comes
plain_by ds a name (Some (Object v)) known comes = rw (spelled_identity name known) refl
plain_by ds a name (Some (Map b)) known comes = map_plain name (nat_eq a b.0) known

module _ (ds : List Declaration) (declared : IsDeclared ds) (known : IsTrue (list_all is_named ds)) where
  record IsGood (t : Term) : Type 0 where
    nonzero : t.0 ≢ pos 0
    coefficient : IsCoefficient t.0
    over : IsOver (letter_count ds) t.1
    some : 0 < length t.1
    short : length t.1 ≤ word_limit

  goods : (p : Poly) → All (λ t. t.0 ≢ pos 0) p → All (λ t. IsCoefficient t.0) p → All (λ t. IsOver (letter_count ds) t.1) p → All (λ t. 0 < length t.1) p → All (λ t. length t.1 ≤ word_limit) p → AllByRecursion IsGood p
  goods [] nonzero coefficient over some short = tt
  goods (t ∷ p) nonzero coefficient over some short = (
    record {
      nonzero = All-head (λ t. t.0 ≢ pos 0) t p nonzero;
      coefficient = All-head (λ t. IsCoefficient t.0) t p coefficient;
      over = All-head (λ t. IsOver (letter_count ds) t.1) t p over;
      some = All-head (λ t. 0 < length t.1) t p some;
      short = All-head (λ t. length t.1 ≤ word_limit) t p short;
    },
    goods p (All-tail (λ t. t.0 ≢ pos 0) t p nonzero) (All-tail (λ t. IsCoefficient t.0) t p coefficient) (All-tail (λ t. IsOver (letter_count ds) t.1) t p over)
        (All-tail (λ t. 0 < length t.1) t p some) (All-tail (λ t. length t.1 ≤ word_limit) t p short),
  )

  below_of : (t : Term) → IsGood t → unsigned_abs t.0 < 10 ^ 64
  below_of t good = let within : unsigned_abs t.0 < 2 ^ 127 = good.coefficient in omega (arith, within)

  -- what the tokens are
  letters_plain : (w : List ℕ) → IsOver (letter_count ds) w → All (λ token. IsTrue (is_term_letter token)) (map (letter_text ds) w)
  letters_plain [] over = All-nil (λ token. IsTrue (is_term_letter token))
  letters_plain (a ∷ w) over =
      let spelled = letter_is_spelled ds a declared known (All-head (λ b. b < letter_count ds) a w over) in
      All-cons (λ token. IsTrue (is_term_letter token)) (letter_text ds a) (map (letter_text ds) w)
      (plain_by ds a (letter_name ds a) (named_in ds (letter_name ds a)) spelled.name spelled.comes) (letters_plain w (All-tail (λ b. b < letter_count ds) a w over))

  letters_as_written : (w : List ℕ) → IsOver (letter_count ds) w → All (IsWrittenLetter ds) (map (letter_text ds) w)
  letters_as_written [] over = All-nil (IsWrittenLetter ds)
  letters_as_written (a ∷ w) over =
      let here = (letters_written ds declared known (a ∷ w) over).0 in
      All-cons (IsWrittenLetter ds) (letter_text ds a) (map (letter_text ds) w) (a, here.read, refl) (letters_as_written w (All-tail (λ b. b < letter_count ds) a w over))

  term_fits : (t : Term) → IsGood t → IsTerm (written_term ds t)
  term_fits t good = record {
    factor = factor_by_is _ (unsigned_abs t.0) refl (abs_some t.0 good.nonzero) (below_of t good);
    some = omega (arith, length-map t.1 (letter_text ds), good.some);
    letters = letters_plain t.1 good.over;
  }

  term_says : (t : Term) → IsGood t → IsTermOf ds (written_term ds t) t
  term_says t good = record {
    coefficient = sym (ap (signed (is_negative t.0)) (value_by _ (unsigned_abs t.0) refl (below_of t good)) ∙ sign_back t.0);
    letters = (word_written ds t.1 (letters_written ds declared known t.1 good.over)).read;
  }

  term_within : (t : Term) → IsGood t → factor_value (factor_of (unsigned_abs t.0)) ≤ integer_limit
  term_within t good =
      let within : unsigned_abs t.0 < 2 ^ 127 = good.coefficient in
      let value : factor_value (factor_of (unsigned_abs t.0)) ≡ unsigned_abs t.0 = value_by _ (unsigned_abs t.0) refl (below_of t good) in
      omega (arith, within, value)

  each_term : (P : TermTokens → Type 0) → ((t : Term) → IsGood t → P (written_term ds t)) → (p : Poly) → AllByRecursion IsGood p → All P (map (written_term ds) p)
  each_term P each [] good = All-nil P
  each_term P each (t ∷ p) good = All-cons P (written_term ds t) (map (written_term ds) p) (each t good.0) (each_term P each p good.1)

  each_says : (p : Poly) → AllByRecursion IsGood p → AllZip (IsTermOf ds) (map (written_term ds) p) p
  each_says [] good = tt
  each_says (t ∷ p) good = (term_says t good.0, each_says p good.1)

  terms_are : (p : Poly) → terms_in (written_tokens ds p) ≡ map (written_term ds) p
  terms_are [] = refl
  terms_are (t ∷ p) = refl

  fits : (p : Poly) → AllByRecursion IsGood p → IsPolynomialTokens (written_tokens ds p)
  fits [] good = (refl, refl)
  fits (t ∷ p) good = (term_fits t good.0, each_term IsTerm term_fits p good.1)

  -- the tokens of the text
  term_tokens : (t : Term) (rest : List ℕ) → IsGood t → goes_on rest ≡ false → tokens_of (term_text ds t ++ rest) ≡ term_line (written_term ds t) ++ tokens_of rest
  term_tokens t rest good stops =
      let word = word_written ds t.1 (letters_written ds declared known t.1 good.over) in
      let letters : tokens_of (word_text ds t.1 ++ rest) ≡ map (letter_text ds) t.1 ++ tokens_of rest = tokens_read (map (letter_text ds) t.1) rest word.tokens stops in
      ap tokens_of (append_assoc (factor_text (unsigned_abs t.0)) (word_text ds t.1) rest)
      ∙ factor_tokens _ (unsigned_abs t.0) (word_text ds t.1 ++ rest) (below_of t good)
      ∙ ap (λ ts. factor_line (factor_of (unsigned_abs t.0)) ++ ts) letters
      ∙ sym (append_assoc (factor_line (factor_of (unsigned_abs t.0))) (map (letter_text ds) t.1) (tokens_of rest))

  later_stops : (p : Poly) (rest : List ℕ) → goes_on rest ≡ false → goes_on (flat_map (later_text ds) p ++ rest) ≡ false
  later_stops [] rest stops = stops
  later_stops (t ∷ p) rest stops =
      let sign = cond (is_negative t.0) (codes " - ") (codes " + ") in
      ap goes_on (append_assoc (sign ++ term_text ds t) (flat_map (later_text ds) p) rest ∙ append_assoc sign (term_text ds t) (flat_map (later_text ds) p ++ rest))
      ∙ stops_by (is_negative t.0) (term_text ds t ++ (flat_map (later_text ds) p ++ rest))

  later_tokens : (p : Poly) (rest : List ℕ) → AllByRecursion IsGood p → goes_on rest ≡ false → tokens_of (flat_map (later_text ds) p ++ rest) ≡ flat_map later_line (map (written_term ds) p) ++ tokens_of rest
  later_tokens [] rest good stops = refl
  later_tokens (t ∷ p) rest good stops =
      let sign = cond (is_negative t.0) (codes " - ") (codes " + ") in
      let more = flat_map (later_text ds) p ++ rest in
      let line = flat_map later_line (map (written_term ds) p) in
      ap tokens_of (append_assoc (sign ++ term_text ds t) (flat_map (later_text ds) p) rest ∙ append_assoc sign (term_text ds t) more)
      ∙ later_sign (is_negative t.0) (term_text ds t ++ more)
      ∙ ap (λ ts. cond (is_negative t.0) (codes "-") (codes "+") ∷ ts) (term_tokens t more good.0 (later_stops p rest stops) ∙ ap (λ ts. term_line (written_term ds t) ++ ts) (later_tokens p rest good.1 stops)
      ∙ sym (append_assoc (term_line (written_term ds t)) line (tokens_of rest)))

  -- the tokens of a polynomial that is written before a character that continues no token
  poly_tokens : (p : Poly) (rest : List ℕ) → AllByRecursion IsGood p → goes_on rest ≡ false → tokens_of (poly_text ds p ++ rest) ≡ polynomial_line (written_tokens ds p) ++ tokens_of rest
  poly_tokens [] rest good stops = token_read (codes "0") rest (plain_token (codes "0") refl (omega arith)) stops
  poly_tokens (t ∷ p) rest good stops =
      let sign = cond (is_negative t.0) (codes "- ") [] in
      let more = flat_map (later_text ds) p ++ rest in
      let line = flat_map later_line (map (written_term ds) p) in
      let whole : tokens_of (term_text ds t ++ more) ≡ (term_line (written_term ds t) ++ line) ++ tokens_of rest =
      term_tokens t more good.0 (later_stops p rest stops) ∙ ap (λ ts. term_line (written_term ds t) ++ ts) (later_tokens p rest good.1 stops) ∙ sym (append_assoc (term_line (written_term ds t)) line (tokens_of rest)) in
      ap tokens_of (append_assoc (sign ++ term_text ds t) (flat_map (later_text ds) p) rest ∙ append_assoc sign (term_text ds t) more)
      ∙ first_sign (is_negative t.0) (term_text ds t ++ more)
      ∙ ap (λ ts. cond (is_negative t.0) (codes "-" ∷ ts) ts) (whole ∙ append_assoc (term_line (written_term ds t)) line (tokens_of rest))
      ∙ push_line (is_negative t.0) (term_line (written_term ds t)) (line ++ tokens_of rest)
      ∙ sym (append_assoc (first_line (written_term ds t)) line (tokens_of rest))

  tokens_are : (p : Poly) → AllByRecursion IsGood p → tokens_of (poly_text ds p) ≡ polynomial_line (written_tokens ds p)
  tokens_are p good = ap tokens_of (sym (append-nil (poly_text ds p))) ∙ poly_tokens p [] good refl ∙ append-nil (polynomial_line (written_tokens ds p))

  -- the polynomials that can be written and read
  pub record IsWritable (p : Poly) : Type 0 where
    pub canonical : IsCanonical p
    pub over : All (λ t. IsOver (letter_count ds) t.1) p
    pub some : All (λ t. 0 < length t.1) p

  good_of : (p : Poly) → IsWritable p → AllByRecursion IsGood p
  good_of p writable = goods p writable.canonical.shaped.nonzero writable.canonical.shaped.in_range writable.over writable.some writable.canonical.short

  each_in : (P : TermTokens → Type 0) → ((t : Term) → IsGood t → P (written_term ds t)) → (p : Poly) → AllByRecursion IsGood p → All P (terms_in (written_tokens ds p))
  each_in P each p good = subst (All P) (sym (terms_are p)) (each_term P each p good)

  is_line : (p : Poly) → IsWritable p → IsPolynomialLine ds (polynomial_line (written_tokens ds p)) p
  is_line p writable =
      let good = good_of p writable in
      let says : IsPolynomialOf ds (written_tokens ds p) p = subst (λ ts. AllZip (IsTermOf ds) ts p) (sym (terms_are p)) (each_says p good) in
      record {
        tokens = written_tokens ds p;
        are = refl;
        fit = fits p good;
        known = record { known = each_in (λ t. All (λ token. (a : ℕ) × (letter_of ds token ≡ Some a)) t.letters) (λ t g. known_of (map (letter_text ds) t.1) (letters_as_written t.1 g.over)) p good };
        written = record {
          letters = each_in (λ t. All (IsWrittenLetter ds) t.letters) (λ t g. letters_as_written t.1 g.over) p good;
          descends = λ q other. subst IsDescending (poly_unique ds (terms_in (written_tokens ds p)) p q says other) writable.canonical.shaped.descending;
        };
        numbers = record { within = each_in (λ t. factor_value t.factor ≤ integer_limit) term_within p good };
        few = record { few = subst (λ ts. length ts ≤ term_limit) (sym (terms_are p)) (omega (arith, length-map p (written_term ds), writable.canonical.few)) };
        short = record { short = each_in (λ t. length t.letters ≤ word_limit) (λ t g. omega (arith, length-map t.1 (letter_text ds), g.short)) p good };
        says = says;
      }
    where
      known_of : (tokens : Line) → All (IsWrittenLetter ds) tokens → All (λ token. (a : ℕ) × (letter_of ds token ≡ Some a)) tokens
      known_of [] all = All-nil (λ token. (a : ℕ) × (letter_of ds token ≡ Some a))
      known_of (token ∷ tokens) all =
          let here = All-head (IsWrittenLetter ds) token tokens all in
          All-cons (λ token. (a : ℕ) × (letter_of ds token ≡ Some a)) token tokens (here.0, here.1) (known_of tokens (All-tail (IsWrittenLetter ds) token tokens all))

  -- the tokens of a polynomial that is written are its line
  pub is_written_line : (p : Poly) → IsWritable p → IsPolynomialLine ds (tokens_of (poly_text ds p)) p
  is_written_line p writable = subst (λ line. IsPolynomialLine ds line p) (sym (tokens_are p (good_of p writable))) (is_line p writable)

pub polynomials_are_read_back : PolynomialsAreReadBack
polynomials_are_read_back ds p declared known canonical over some = is_written_line ds declared known p (record { canonical = canonical; over = over; some = some })
