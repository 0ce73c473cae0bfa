-- Rows that keep bounds are read, one after another.
use Rattle.certificate_text.proofs.Prelude.{◌≡◌, ◌<◌, ◌≤◌, ◌+◌, ℕ, suc, List, [], ◌∷◌, ◌++◌, Result, Ok, arith, refl, ◌∙◌, length, map, add-zero, All, AllZip, append_assoc, append-nil, All-nil, All-cons, All-head, All-tail, Declaration, CertRow, Size, Flaw, ◌>>=◌, Line, RowTokens, row_limit, letter_limit, row_values, grown, row_line, Bound, flaw_of, HasNames, HasNumbers, HasShortWords, letters_in, run, Meets, reads, then_meets, meets-weaker}
use Rattle.std.proofs.Common.{length-append}
use Rattle.certificate_text.specs.Bounds as bound
use Rattle.certificate_text.proofs.OpenBlocks.{IsMadeBy}
use Rattle.certificate_text.proofs.RowTrees.{IsValued, valued, unknown, large, is_valued, IsSized, fits, long, many, crowded, is_sized, letters_in-append}
use Rattle.block_text.proofs.Meets.{passes}

-- after a row of so many letters
abbrev pub with_letters : Size → ℕ → Size
with_letters size n = record { rows = size.rows + 1; letters = size.letters + n }

-- where K says that a bound is met, these rows are within it after rows of this size
pub record RowsFit (K : Bound → Type 0) (ds : List Declaration) (size : Size) (rs : List RowTokens) : Type 0 where
  pub names : K bound.names → All (HasNames ds) rs
  pub numbers : K bound.numbers → All HasNumbers rs
  pub words : K bound.words → All HasShortWords rs
  pub rows : K bound.rows → size.rows + length rs ≤ row_limit
  pub letters : K bound.letters → size.letters + letters_in rs ≤ letter_limit

abbrev letters_of : RowTokens → ℕ
letters_of r = length r.left + length r.right

-- after these rows
abbrev pub with_rows : Size → List RowTokens → Size
with_rows size rs = record { rows = size.rows + length rs; letters = size.letters + letters_in rs }

rows_fit_on : (K : Bound → Type 0) (ds : List Declaration) (size : Size) (r : RowTokens) (rs : List RowTokens) → RowsFit K ds size (r ∷ rs) → RowsFit K ds (with_letters size (letters_of r)) rs
rows_fit_on K ds size r rs keep = record {
  names = λ kept. All-tail (HasNames ds) r rs (keep.names kept);
  numbers = λ kept. All-tail HasNumbers r rs (keep.numbers kept);
  words = λ kept. All-tail HasShortWords r rs (keep.words kept);
  rows = λ kept. omega (arith, keep.rows kept);
  letters = λ kept. omega (arith, keep.letters kept);
}

-- rows and the rows after them
All-parts : {X : Type 0} (P : X → Type 0) (xs ys : List X) → All P (xs ++ ys) → All P xs × All P ys
All-parts P [] ys all = (All-nil P, all)
All-parts P (x ∷ xs) ys all =
    let rest = All-parts P xs ys (All-tail P x (xs ++ ys) all) in
    (All-cons P x xs (All-head P x (xs ++ ys) all) rest.0, rest.1)

pub with_rows-append : (size : Size) (rs more : List RowTokens) → with_rows (with_rows size rs) more ≡ with_rows size (rs ++ more)
with_rows-append size rs more =
    let rows : size.rows + length rs + length more ≡ size.rows + length (rs ++ more) = omega (arith, length-append rs more) in
    let letters : size.letters + letters_in rs + letters_in more ≡ size.letters + letters_in (rs ++ more) = omega (arith, letters_in-append rs more) in
    rw (rows, letters) refl

pub rows_fit_parts : (K : Bound → Type 0) (ds : List Declaration) (size : Size) (rs more : List RowTokens) → RowsFit K ds size (rs ++ more) → RowsFit K ds size rs × RowsFit K ds (with_rows size rs) more
rows_fit_parts K ds size rs more keep = (
  record {
    names = λ kept. (All-parts (HasNames ds) rs more (keep.names kept)).0;
    numbers = λ kept. (All-parts HasNumbers rs more (keep.numbers kept)).0;
    words = λ kept. (All-parts HasShortWords rs more (keep.words kept)).0;
    rows = λ kept. omega (arith, length-append rs more, keep.rows kept);
    letters = λ kept. omega (arith, letters_in-append rs more, keep.letters kept);
  },
  record {
    names = λ kept. (All-parts (HasNames ds) rs more (keep.names kept)).1;
    numbers = λ kept. (All-parts HasNumbers rs more (keep.numbers kept)).1;
    words = λ kept. (All-parts HasShortWords rs more (keep.words kept)).1;
    rows = λ kept. omega (arith, length-append rs more, keep.rows kept);
    letters = λ kept. omega (arith, letters_in-append rs more, keep.letters kept);
  },
)

-- by what a line makes of a place, and the places in the rows
module _ {Stage : Type 0} (step : Stage → Line → Result Stage Flaw) (K : Bound → Type 0) (ds : List Declaration) {C : Type 0} (here : Size → List C → Stage) (made : RowTokens → CertRow → C) where
  -- at these places the line of a row is read as the row
  abbrev pub TakesRow : RowTokens → Type 0
  TakesRow r = (size : Size) (front : List C) → step (here size front) (row_line r)
      ≡ (row_values ds r >>= λ row. (grown size row.left row.right >>= λ next. Ok (here next (front ++ made r row ∷ []))))

  record RowIsRead (size : Size) (front : List C) (r : RowTokens) (q : Stage) : Type 0 where
    row : C
    is_made : IsMadeBy ds made r row
    is : q ≡ here (with_letters size (letters_of r)) (front ++ row ∷ [])

  -- what is read of rows
  pub record RowsAreRead (size : Size) (front : List C) (rs : List RowTokens) (q : Stage) : Type 0 where
    pub rows : List C
    pub are_made : AllZip (IsMadeBy ds made) rs rows
    pub is : q ≡ here (with_rows size rs) (front ++ rows)

  row_meets : (size : Size) (front : List C) (r : RowTokens) → TakesRow r → (K bound.names → HasNames ds r) → (K bound.numbers → HasNumbers r) → (K bound.words → HasShortWords r) → (K bound.rows → size.rows < row_limit)
      → (K bound.letters → size.letters + letters_of r ≤ letter_limit) → Meets flaw_of K (RowIsRead size front r) (step (here size front) (row_line r))
  row_meets size front r takes names numbers words rows letters = rw (takes size front) (by_values (is_valued ds r))
    where
      by_values : IsValued ds r (row_values ds r) → Meets flaw_of K (RowIsRead size front r) (row_values ds r >>= λ row. (grown size row.left row.right >>= λ next. Ok (here next (front ++ made r row ∷ []))))
      by_values (unknown is none) = passes bound.names (rw is refl) (λ kept. none (names kept))
      by_values (large is known none) = passes bound.numbers (rw is refl) (λ kept. none (numbers kept))
      by_values (valued row is known within left right) = rw is (by_size (is_sized size row.left row.right))
        where
          by_size : IsSized size (length row.left) (length row.right) (grown size row.left row.right) → Meets flaw_of K (RowIsRead size front r) (grown size row.left row.right >>= λ next. Ok (here next (front ++ made r row ∷ [])))
          by_size (long e none) = passes bound.words (rw e refl) (λ kept. let short = words kept in none (record { short_left = rw left short.left; short_right = rw right short.right }))
          by_size (many e short none) = passes bound.rows (rw e refl) (λ kept. none (rows kept))
          by_size (crowded e short few none) = passes bound.letters (rw e refl) (λ kept. none (rw (left, right) (letters kept)))
          by_size (fits e short few fit) = reads (here (with_letters size (length row.left + length row.right)) (front ++ made r row ∷ [])) (rw e refl) (record { row = made r row; is_made = (row, is, refl); is = rw (left, right) refl })

  pub rows_meet : (size : Size) (front : List C) (rs : List RowTokens) → All TakesRow rs → RowsFit K ds size rs → Meets flaw_of K (RowsAreRead size front rs) (run step (here size front) (map row_line rs))
  rows_meet size front [] takes keep = reads _ refl (record { rows = []; are_made = tt; is = rw (append-nil front, add-zero size.rows, add-zero size.letters) refl })
  rows_meet size front (r ∷ rs) takes keep =
      then_meets _
      (row_meets size front r (All-head TakesRow r rs takes) (λ kept. All-head (HasNames ds) r rs (keep.names kept)) (λ kept. All-head HasNumbers r rs (keep.numbers kept)) (λ kept. All-head HasShortWords r rs (keep.words kept))
      (λ kept. omega (arith, keep.rows kept)) (λ kept. omega (arith, keep.letters kept)))
      (λ q _ one. rw one.is (meets-weaker (rows_meet (with_letters size (letters_of r)) (front ++ one.row ∷ []) rs (All-tail TakesRow r rs takes) (rows_fit_on K ds size r rs keep)) (λ p _ read.
      let count : size.rows + 1 + length rs ≡ size.rows + suc (length rs) = omega arith in
      let letters : size.letters + letters_of r + letters_in rs ≡ size.letters + (letters_of r + letters_in rs) = omega arith in
      record { rows = one.row ∷ read.rows; are_made = (one.is_made, read.are_made); is = read.is ∙ rw (count, letters, append_assoc) refl })))
