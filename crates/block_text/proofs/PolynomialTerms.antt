-- The polynomial that the terms of a line make.
use Rattle.block_text.proofs.Prelude.{◌≡◌, ◌<◌, ◌≤◌, ◌+◌, ℕ, suc, Bool, true, false, not, cond, ◌||◌, List, [], ◌∷◌, ◌++◌, Option, Some, None, arith, refl, sym, ap, ◌∙◌, subst, length, IsTrue, nat_le, All, AllZip, option_map, option_and_then, Ordering, Less, Equal, Greater, digits_value, leb-true, leb-false, le-leb, lt-leb, append_assoc, append-nil, length-append, All-nil, All-cons, All-head, All-tail, All-push, option_and_then_some, cond_some, Poly, Term, word_cmp, word_cmp-trans, word_limit, term_limit, Descends, IsBelow, descends_one, Declaration, number_within, letter_of, word_of, signed, Line, integer_limit, TermTokens, is_term_letter, IsFactor, IsTerm, factor_value, IsTermOf, IsWrittenLetter, written_letter, word_behind, is_above_one, value_within, some_word, term_value, is_greater, may_follow, poly_behind, letter_text}
use Rattle.block_text.proofs.PolynomialBounds.{above_one, above_one_from, IsWritten, written_is, written_there}
use Rattle.block_text.proofs.Results.{by_test, option_map_some, cond_option}

pub some_same : {X : Type 0} (x y : X) → ◌≡◌ {A = Option X} (Some x) (Some y) → x ≡ y
some_same x y same = cc

-- words
module _ (ds : List Declaration) where
  pub word_count : (letters : Line) (w : List ℕ) → word_of ds letters ≡ Some w → length w ≡ length letters
  word_count [] w says = let same : [] ≡ w = some_same [] w says in ap length (sym same)
  word_count (token ∷ letters) w says =
      option_and_then_some (λ a. option_map_word a (word_of ds letters)) (letter_of ds token) w says (λ a found rest.
      option_map_some (λ v. a ∷ v) (word_of ds letters) w rest (λ v there same. ap length (sym same) ∙ ap suc (word_count letters v there)))
    where
      option_map_word : ℕ → Option (List ℕ) → Option (List ℕ)
      option_map_word a o = option_map (λ v. a ∷ v) o

  -- letters as they are written, and their word
  pub record MakesWord (tokens : Line) (w : List ℕ) : Type 0 where
    pub letters : All (λ token. IsTrue (is_term_letter token)) tokens
    pub written : All (IsWrittenLetter ds) tokens
    pub says : word_of ds tokens ≡ Some w

  more_word : (token : List ℕ) (tokens : Line) (a : ℕ) (w : List ℕ) → IsWritten ds token a → MakesWord tokens w → MakesWord (token ∷ tokens) (a ∷ w)
  more_word token tokens a w here rest = record {
    letters = All-cons (λ t. IsTrue (is_term_letter t)) token tokens here.letter rest.letters;
    written = All-cons (IsWrittenLetter ds) token tokens (a, here.found, here.written) rest.written;
    says = rw (here.found, rest.says) refl;
  }

  record Grows (done : List ℕ) (tokens : Line) (w : List ℕ) : Type 0 where
    more : List ℕ
    is : w ≡ done ++ more
    makes : MakesWord tokens more
    short : length done + length tokens ≤ word_limit

  grows : (done : List ℕ) (tokens : Line) (w : List ℕ) → length done ≤ word_limit → word_behind ds done tokens ≡ Some w → Grows done tokens w
  grows done [] w within read = record {
    more = [];
    is = sym (some_same done w read) ∙ sym (append-nil done);
    makes = record { letters = All-nil (λ t. IsTrue (is_term_letter t)); written = All-nil (IsWrittenLetter ds); says = refl };
    short = omega (arith, within);
  }
  grows done (token ∷ tokens) w within read =
      by_test (nat_le word_limit (length done)) _ _ (Some w) read (λ full e. absurd (cc)) (λ room read_on.
      option_and_then_some (λ a. word_behind ds (done ++ a ∷ []) tokens) (written_letter ds token) w read_on (λ a here rest.
      let one : length (done ++ a ∷ []) ≡ length done + 1 = length-append done (a ∷ []) in
      let below : length done < word_limit = leb-false word_limit (length done) room in
      let g = grows (done ++ a ∷ []) tokens w (omega (arith, one, below)) rest in
      record {
        more = a ∷ g.more;
        is = g.is ∙ append_assoc done (a ∷ []) g.more;
        makes = more_word token tokens a g.more (written_is ds token a here) g.makes;
        short = omega (arith, one, g.short);
      }))

  word_there : (done : List ℕ) (tokens : Line) (w : List ℕ) → MakesWord tokens w → length done + length tokens ≤ word_limit → word_behind ds done tokens ≡ Some (done ++ w)
  word_there done [] w makes short = let same : [] ≡ w = some_same [] w makes.says in ap Some (sym (append-nil done) ∙ ap (λ v. done ++ v) same)
  word_there done (token ∷ tokens) w makes short =
      option_and_then_some (λ a. option_map_word a (word_of ds tokens)) (letter_of ds token) w makes.says (λ a found rest.
      option_map_some (λ v. a ∷ v) (word_of ds tokens) w rest (λ v there same.
      let letter = All-head (λ t. IsTrue (is_term_letter t)) token tokens makes.letters in
      let written = All-head (IsWrittenLetter ds) token tokens makes.written in
      let one_letter : written.0 ≡ a = some_same written.0 a (sym written.1 ∙ found) in
      let text : letter_text ds a ≡ token = ap (letter_text ds) (sym one_letter) ∙ written.2 in
      let room : nat_le word_limit (length done) ≡ false = lt-leb word_limit (length done) (omega (arith, short)) in
      let one : length (done ++ a ∷ []) ≡ length done + 1 = length-append done (a ∷ []) in
      let rest_makes : MakesWord tokens v = record {
        letters = All-tail (λ t. IsTrue (is_term_letter t)) token tokens makes.letters;
        written = All-tail (IsWrittenLetter ds) token tokens makes.written;
        says = there;
      } in
      rw (room, written_there ds token a letter found text)
      (word_there (done ++ a ∷ []) tokens v rest_makes (omega (arith, one, short)) ∙ ap Some (append_assoc done (a ∷ []) v ∙ ap (λ u. done ++ u) same))))
    where
      option_map_word : ℕ → Option (List ℕ) → Option (List ℕ)
      option_map_word a o = option_map (λ v. a ∷ v) o

-- numbers
record HasValue (number : Option (List ℕ)) (n : ℕ) : Type 0 where
  factor : IsFactor number
  is : n ≡ factor_value number
  within : factor_value number ≤ integer_limit

value_is : (factor : Option (List ℕ)) (n : ℕ) → value_within factor ≡ Some n → HasValue factor n
value_is None n read = record { factor = tt; is = sym (some_same 1 n read); within = omega arith }
value_is (Some digits) n read =
    let known = cond_option (is_above_one digits) (number_within integer_limit digits) n read in
    let value = cond_some (nat_le (digits_value 10 digits) integer_limit) (digits_value 10 digits) n known.1 in
    record { factor = above_one digits known.0; is = sym value.1; within = leb-true (digits_value 10 digits) integer_limit value.0 }

value_there : (factor : Option (List ℕ)) → IsFactor factor → factor_value factor ≤ integer_limit → value_within factor ≡ Some (factor_value factor)
value_there None is within = refl
value_there (Some digits) is within = rw (above_one_from digits is.0 is.1, le-leb (digits_value 10 digits) integer_limit within) refl

-- terms
some_word_is : (w word : List ℕ) → some_word w ≡ Some word → (w ≡ word) × (0 < length w)
some_word_is [] word some = absurd (cc)
some_word_is (a ∷ w) word some = (some_same (a ∷ w) word some, omega arith)

some_word_there : (w : List ℕ) → 0 < length w → some_word w ≡ Some w
some_word_there [] some = absurd (omega (arith, some))
some_word_there (a ∷ w) some = refl

module _ (ds : List Declaration) where
  -- the tokens of a term within all bounds, and what it says
  pub record MakesTerm (t : TermTokens) (term : Term) : Type 0 where
    pub is_term : IsTerm t
    pub written : All (IsWrittenLetter ds) t.letters
    pub within : factor_value t.factor ≤ integer_limit
    pub short : length t.letters ≤ word_limit
    pub says : IsTermOf ds t term

  pub term_is : (t : TermTokens) (term : Term) → term_value ds t ≡ Some term → MakesTerm t term
  term_is t term read =
      option_and_then_some (λ n. option_map (λ word. (signed t.negative n, word)) (option_and_then some_word (word_behind ds [] t.letters))) (value_within t.factor) term read (λ n value rest.
      option_map_some (λ word. (signed t.negative n, word)) (option_and_then some_word (word_behind ds [] t.letters)) term rest (λ word there same.
      option_and_then_some some_word (word_behind ds [] t.letters) word there (λ w made some.
      let g = grows ds [] t.letters w (omega arith) made in
      let v = value_is t.factor n value in
      let word_is = some_word_is w word some in
      let says : word_of ds t.letters ≡ Some w = g.makes.says ∙ ap Some (sym g.is) in
      record {
        is_term = record { factor = v.factor; some = omega (arith, word_count ds t.letters w says, word_is.1); letters = g.makes.letters };
        written = g.makes.written;
        within = v.within;
        short = omega (arith, g.short);
        says = subst (IsTermOf ds t) same (record { coefficient = ap (signed t.negative) v.is; letters = says ∙ ap Some word_is.0 });
      })))

  pub term_there : (t : TermTokens) (term : Term) → MakesTerm t term → term_value ds t ≡ Some term
  term_there t term makes =
      let made : word_behind ds [] t.letters ≡ Some term.1 = word_there ds [] t.letters term.1 (record { letters = makes.is_term.letters; written = makes.written; says = makes.says.letters }) (omega (arith, makes.short)) in
      let some = some_word_there term.1 (omega (arith, word_count ds t.letters term.1 makes.says.letters, makes.is_term.some)) in
      rw (value_there t.factor makes.is_term.factor makes.within, made, some) (ap (λ z. Some (z, term.1)) (sym makes.says.coefficient))

-- descending terms
pub greater_from : (o : Ordering) → is_greater o ≡ true → o ≡ Greater
greater_from Less known = absurd (cc)
greater_from Equal known = absurd (cc)
greater_from Greater known = refl

last_above : (x : Term) (p : Poly) (w : List ℕ) → Descends (x ∷ p) → may_follow (x ∷ p) w ≡ true → word_cmp x.1 w ≡ Greater
last_above x [] w descends follows = greater_from (word_cmp x.1 w) follows
last_above x (y ∷ p) w descends follows = word_cmp-trans x.1 y.1 w (All-head (IsBelow x.1) y p descends.0) (last_above y p w descends.1 follows)

rest_follows : (x : Term) (p : Poly) (w : List ℕ) → may_follow (x ∷ p) w ≡ true → may_follow p w ≡ true
rest_follows x [] w follows = refl
rest_follows x (y ∷ p) w follows = follows

descends_push : (p : Poly) (t : Term) → Descends p → may_follow p t.1 ≡ true → Descends (p ++ t ∷ [])
descends_push [] t descends follows = descends_one t
descends_push (x ∷ p) t descends follows = (
  All-push (IsBelow x.1) p t descends.0 (last_above x p t.1 descends follows),
  descends_push p t descends.1 (rest_follows x p t.1 follows),
)

follows_there : (p : Poly) (t : Term) (more : Poly) → Descends (p ++ t ∷ more) → may_follow p t.1 ≡ true
follows_there [] t more descends = refl
follows_there (x ∷ []) t more descends = let above : word_cmp x.1 t.1 ≡ Greater = All-head (IsBelow x.1) t more descends.0 in rw above refl
follows_there (x ∷ y ∷ p) t more descends = follows_there (y ∷ p) t more descends.1

-- polynomials
neither : (a b : Bool) → (a || b) ≡ false → (a ≡ false) × (b ≡ false)
neither true b none = absurd (cc)
neither false b none = (refl, none)

not_not : (b : Bool) → not b ≡ false → b ≡ true
not_not true none = refl
not_not false none = absurd (cc)

module _ (ds : List Declaration) where
  pub record MakesPoly (p : Poly) (ts : List TermTokens) (q : Poly) : Type 0 where
    pub more : Poly
    pub is : q ≡ p ++ more
    pub each : AllZip (MakesTerm ds) ts more
    pub descends : Descends q
    pub few : length q ≤ term_limit

  pub poly_is : (p : Poly) (ts : List TermTokens) (q : Poly) → Descends p → length p ≤ term_limit → poly_behind ds p ts ≡ Some q → MakesPoly p ts q
  poly_is p [] q descends few read =
      let same = some_same p q read in
      record { more = []; is = sym same ∙ sym (append-nil p); each = tt; descends = subst Descends same descends; few = subst (λ (r : Poly). length r ≤ term_limit) same few }
  poly_is p (t ∷ ts) q descends few read =
      option_and_then_some (λ term. cond (nat_le term_limit (length p) || not (may_follow p term.1)) None (poly_behind ds (p ++ term ∷ []) ts)) (term_value ds t) q read (λ term here rest.
      by_test (nat_le term_limit (length p) || not (may_follow p term.1)) _ _ (Some q) rest (λ refused e. absurd (cc)) (λ fits read_on.
      let parts = neither (nat_le term_limit (length p)) (not (may_follow p term.1)) fits in
      let below : length p < term_limit = leb-false term_limit (length p) parts.0 in
      let one : length (p ++ term ∷ []) ≡ length p + 1 = length-append p (term ∷ []) in
      let made = poly_is (p ++ term ∷ []) ts q (descends_push p term descends (not_not (may_follow p term.1) parts.1)) (omega (arith, one, below)) read_on in
      record {
        more = term ∷ made.more;
        is = made.is ∙ append_assoc p (term ∷ []) made.more;
        each = (term_is ds t term here, made.each);
        descends = made.descends;
        few = made.few;
      }))

  pub poly_there : (p : Poly) (ts : List TermTokens) (more : Poly) → AllZip (MakesTerm ds) ts more → Descends (p ++ more) → length (p ++ more) ≤ term_limit → poly_behind ds p ts ≡ Some (p ++ more)
  poly_there p [] [] each descends few = ap Some (sym (append-nil p))
  poly_there p [] (u ∷ more) each descends few = absurd each
  poly_there p (t ∷ ts) [] each descends few = absurd each
  poly_there p (t ∷ ts) (u ∷ more) each descends few =
      let whole : (p ++ u ∷ []) ++ more ≡ p ++ u ∷ more = append_assoc p (u ∷ []) more in
      let room : nat_le term_limit (length p) ≡ false = lt-leb term_limit (length p) (omega (arith, length-append p (u ∷ more), few)) in
      rw (term_there ds t u each.0, room, follows_there p u more descends)
      (poly_there (p ++ u ∷ []) ts more each.1 (subst Descends (sym whole) descends) (subst (λ (r : Poly). length r ≤ term_limit) (sym whole) few) ∙ ap Some whole)
