-- The rows of an open block: what their tokens say, the bounds that they are within, and how they grow.
use Rattle.certificate_text.proofs.Prelude.{◌≡◌, ◌<◌, ◌≤◌, ◌+◌, ℕ, ℤ, pos, suc, Bool, true, false, ◌||◌, List, [], ◌∷◌, ◌++◌, Option, Some, None, Result, Ok, Err, arith, refl, sym, ap, ◌∙◌, subst, length, nat_lt, nat_le, ltb-false, leb-false, All, option_map, or_parts, or_from, le-ltb, lt-leb, length-append, All-nil, All-cons, All-push, All-replicate, option_and_then_some, Declaration, CertRow, Flaw, UnknownName, NumberTooLarge, TooMany, Size, letter_of, number_within, integer_within, word_of, number_limit, integer_limit, integer_of, RowTokens, word_limit, row_limit, letter_limit, row_values, no_rows, grown, Bound, names, numbers, words, rows, letters, bounds, letters_in, IsWithin, HasNames, HasNumbers, HasShortWords, flaw_of, asked_ok, option_map_some}
use Rattle.block_text.proofs.Bounds as listed

-- the bounds that are tested before it
abbrev pub before : Bound → List Bound
before bound = listed.before flaw_of bounds bound

-- the value of a number that may not be negative
pub integer_is_within : (digits : List ℕ) (z : ℤ) → integer_of digits ≡ Ok z → IsWithin integer_limit digits
integer_is_within digits z read =
    option_map_some pos (number_within integer_limit digits) z (asked_ok NumberTooLarge (option_map pos (number_within integer_limit digits)) z read)
    (λ n within same. (n, within))

pub word_of-length : (ds : List Declaration) (tokens : List (List ℕ)) (w : List ℕ) → word_of ds tokens ≡ Some w → length w ≡ length tokens
word_of-length ds [] w read = let same : [] ≡ w = cc in sym (ap length same)
word_of-length ds (token ∷ tokens) w read =
    option_and_then_some (λ a. option_map (λ v. a ∷ v) (word_of ds tokens)) (letter_of ds token) w read (λ a here rest.
    option_map_some (λ v. a ∷ v) (word_of ds tokens) w rest (λ v there same.
    sym (ap length same) ∙ ap suc (word_of-length ds tokens v there)))

-- what is made of the tokens of a row: values with words of these lengths, or the first flaw, of the names and then of the numbers
pub data IsValued (ds : List Declaration) (r : RowTokens) (v : Result CertRow Flaw) : Type 0 where
  valued : (row : CertRow) → v ≡ Ok row → HasNames ds r → HasNumbers r → length row.left ≡ length r.left → length row.right ≡ length r.right → IsValued ds r v
  unknown : v ≡ Err UnknownName → (HasNames ds r → ⊥) → IsValued ds r v
  large : v ≡ Err NumberTooLarge → HasNames ds r → (HasNumbers r → ⊥) → IsValued ds r v

pub is_valued : (ds : List Declaration) (r : RowTokens) → IsValued ds r (row_values ds r)
is_valued ds r = by_values (word_of ds r.left) (word_of ds r.right) (integer_within integer_limit r.coefficient) (number_within number_limit r.number) refl refl refl refl
  where
    by_values : (left right : Option (List ℕ)) (coefficient : Option ℤ) (number : Option ℕ) → word_of ds r.left ≡ left → word_of ds r.right ≡ right → integer_within integer_limit r.coefficient ≡ coefficient
        → number_within number_limit r.number ≡ number → IsValued ds r (row_values ds r)
    by_values None right coefficient number a b c d = unknown (rw a refl) (λ known. let there = known.left.1 in absurd (cc))
    by_values (Some v) None coefficient number a b c d = unknown (rw (a, b) refl) (λ known. let there = known.right.1 in absurd (cc))
    by_values (Some v) (Some w) None number a b c d = large (rw (a, b, c) refl) (record { left = (v, a); right = (w, b) }) (λ within. let there = within.coefficient.1 in absurd (cc))
    by_values (Some v) (Some w) (Some z) None a b c d = large (rw (a, b, c, d) refl) (record { left = (v, a); right = (w, b) }) (λ within. let there = within.number.1 in absurd (cc))
    by_values (Some v) (Some w) (Some z) (Some n) a b c d =
        valued (record { coef = z; left = v; generator = n; right = w }) (rw (a, b, c, d) refl) (record { left = (v, a); right = (w, b) }) (record { coefficient = (z, c); number = (n, d) })
        (word_of-length ds r.left v a) (word_of-length ds r.right w b)

-- the size with one more row, of words of these lengths, or the first bound that it passes
pub record IsShort (left right : ℕ) : Type 0 where
  pub short_left : left ≤ word_limit
  pub short_right : right ≤ word_limit

pub data IsSized (size : Size) (left right : ℕ) (v : Result Size Flaw) : Type 0 where
  fits : v ≡ Ok (record { rows = size.rows + 1; letters = size.letters + (left + right) }) → IsShort left right → size.rows < row_limit → size.letters + (left + right) ≤ letter_limit → IsSized size left right v
  long : v ≡ Err (TooMany word_limit) → (IsShort left right → ⊥) → IsSized size left right v
  many : v ≡ Err (TooMany row_limit) → IsShort left right → (size.rows < row_limit → ⊥) → IsSized size left right v
  crowded : v ≡ Err (TooMany letter_limit) → IsShort left right → size.rows < row_limit → (size.letters + (left + right) ≤ letter_limit → ⊥) → IsSized size left right v

pub is_sized : (size : Size) (left right : List ℕ) → IsSized size (length left) (length right) (grown size left right)
is_sized size left right = by_tests _ _ _ refl refl refl
  where
    short : (nat_lt word_limit (length left) || nat_lt word_limit (length right)) ≡ false → IsShort (length left) (length right)
    short is = let parts = or_parts _ _ is in record { short_left = ltb-false word_limit (length left) parts.0; short_right = ltb-false word_limit (length right) parts.1 }

    by_tests : (a b c : Bool) → (nat_lt word_limit (length left) || nat_lt word_limit (length right)) ≡ a → nat_le row_limit size.rows ≡ b → nat_lt letter_limit (size.letters + (length left + length right)) ≡ c
        → IsSized size (length left) (length right) (grown size left right)
    by_tests true b c a_is b_is c_is = long (rw a_is refl) (λ are. let none = or_from _ _ (le-ltb word_limit (length left) are.short_left) (le-ltb word_limit (length right) are.short_right) in absurd (cc))
    by_tests false true c a_is b_is c_is = many (rw (a_is, b_is) refl) (short a_is) (λ few. let none = lt-leb row_limit size.rows few in absurd (cc))
    by_tests false false true a_is b_is c_is = crowded (rw (a_is, b_is, c_is) refl) (short a_is) (leb-false row_limit size.rows b_is) (λ fit. let none = le-ltb letter_limit _ fit in absurd (cc))
    by_tests false false false a_is b_is c_is = fits (rw (a_is, b_is, c_is) refl) (short a_is) (leb-false row_limit size.rows b_is) (ltb-false letter_limit _ c_is)

-- the rows keep the bound
abbrev pub RowsWithin : List Declaration → List RowTokens → Bound → Type 0
RowsWithin ds rs names = All (HasNames ds) rs
RowsWithin ds rs numbers = All HasNumbers rs
RowsWithin ds rs words = All HasShortWords rs
RowsWithin ds rs rows = length rs ≤ row_limit
RowsWithin ds rs letters = letters_in rs ≤ letter_limit

-- the rows keep all bounds, and this is their size
pub record HaveSize (ds : List Declaration) (size : Size) (rs : List RowTokens) : Type 0 where
  pub keep : (bound : Bound) → RowsWithin ds rs bound
  pub count : size.rows ≡ length rs
  pub count_letters : size.letters ≡ letters_in rs

-- the rows keep the bounds before the one that the last of them passes
pub record Pass (ds : List Declaration) (flaw : Flaw) (rs : List RowTokens) : Type 0 where
  pub bound : Bound
  pub flaw_is : flaw ≡ flaw_of bound
  pub keep : All (RowsWithin ds rs) (before bound)

pub no_rows_keep : (ds : List Declaration) (bound : Bound) → RowsWithin ds [] bound
no_rows_keep ds names = All-nil (HasNames ds)
no_rows_keep ds numbers = All-nil HasNumbers
no_rows_keep ds words = All-nil HasShortWords
no_rows_keep ds rows = omega arith
no_rows_keep ds letters = omega arith

pub no_rows_size : (ds : List Declaration) → HaveSize ds no_rows []
no_rows_size ds = record { keep = no_rows_keep ds; count = refl; count_letters = refl }

pub letters_in-append : (rs more : List RowTokens) → letters_in (rs ++ more) ≡ letters_in rs + letters_in more
letters_in-append [] more = omega arith
letters_in-append (r ∷ rs) more = omega (arith, letters_in-append rs more)

module _ (ds : List Declaration) (size : Size) (rs : List RowTokens) (have : HaveSize ds size rs) (r : RowTokens) where
  -- one more row: the size with it, or the first bound that it passes
  pub data IsAdded (v : Result CertRow Flaw) (next : CertRow → Result Size Flaw) : Type 0 where
    added : (row : CertRow) (larger : Size) → v ≡ Ok row → next row ≡ Ok larger → HaveSize ds larger (rs ++ r ∷ []) → IsAdded v next
    unvalued : (flaw : Flaw) → v ≡ Err flaw → Pass ds flaw (rs ++ r ∷ []) → IsAdded v next
    full : (row : CertRow) (flaw : Flaw) → v ≡ Ok row → next row ≡ Err flaw → Pass ds flaw (rs ++ r ∷ []) → IsAdded v next

  abbrev Keeps : Bound → Type 0
  Keeps = RowsWithin ds (rs ++ r ∷ [])

  longer : length (rs ++ r ∷ []) ≡ length rs + 1
  longer = length-append rs (r ∷ [])

  names_push : HasNames ds r → All (HasNames ds) (rs ++ r ∷ [])
  names_push known = All-push (HasNames ds) rs r (have.keep names) known

  pub is_added : IsAdded (row_values ds r) (λ row. grown size row.left row.right)
  is_added = by_values (is_valued ds r)
    where
      by_values : IsValued ds r (row_values ds r) → IsAdded (row_values ds r) (λ row. grown size row.left row.right)
      by_values (unknown is none) = unvalued UnknownName is (record { bound = names; flaw_is = refl; keep = All-nil Keeps })
      by_values (large is known none) = unvalued NumberTooLarge is (record { bound = numbers; flaw_is = refl; keep = All-replicate Keeps 1 names (names_push known) })
      by_values (valued row is known within left right) = by_size (is_sized size row.left row.right)
        where
          before_words : All Keeps (before words)
          before_words = All-cons Keeps names (numbers ∷ []) (names_push known) (All-replicate Keeps 1 numbers (All-push HasNumbers rs r (have.keep numbers) within))

          with_words : IsShort (length row.left) (length row.right) → All HasShortWords (rs ++ r ∷ [])
          with_words short = All-push HasShortWords rs r (have.keep words) (record { left = subst (λ n. n ≤ word_limit) left short.short_left; right = subst (λ n. n ≤ word_limit) right short.short_right })

          before_rows : IsShort (length row.left) (length row.right) → All Keeps (before rows)
          before_rows short = All-push Keeps (before words) words before_words (with_words short)

          by_size : IsSized size (length row.left) (length row.right) (grown size row.left row.right) → IsAdded (row_values ds r) (λ row. grown size row.left row.right)
          by_size (long e none) = full row (TooMany word_limit) is e (record { bound = words; flaw_is = refl; keep = before_words })
          by_size (many e short none) = full row (TooMany row_limit) is e (record { bound = rows; flaw_is = refl; keep = before_rows short })
          by_size (crowded e short few none) =
              full row (TooMany letter_limit) is e (record { bound = letters; flaw_is = refl; keep = All-push Keeps (before rows) rows (before_rows short) (omega (arith, longer, have.count, few)) })
          by_size (fits e short few fit) = added row _ is e (record {
            keep = each;
            count = omega (arith, have.count, longer);
            count_letters = omega (arith, have.count_letters, left, right, letters_in-append rs (r ∷ []));
          })
            where
              each : (bound : Bound) → Keeps bound
              each names = names_push known
              each numbers = All-push HasNumbers rs r (have.keep numbers) within
              each words = with_words short
              each rows = omega (arith, longer, have.count, few)
              each letters = omega (arith, fit, have.count_letters, left, right, letters_in-append rs (r ∷ []))
