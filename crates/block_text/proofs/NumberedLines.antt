-- The lines of a text with their numbers, of which those are read one after another that are neither blank nor comments.
use Rattle.block_text.proofs.Prelude.{◌≡◌, ◌+◌, ℕ, suc, Bool, true, false, List, [], ◌∷◌, ◌++◌, Result, Ok, Err, if◌then◌else◌, arith, refl, ap, ◌∙◌, length, zero-add, Flaw, Fault, ◌>>=◌, in_line, at_line, tokens_of, is_skipped, Line, content}
use Rattle.block_text.proofs.Results.{bind_assoc}
use Rattle.block_text.proofs.ContentBack.{content-append}

-- lines one after another; step says what a line makes of what was read
abbrev pub run : {P : Type 0} → (P → Line → Result P Flaw) → P → List Line → Result P Flaw
run step p [] = Ok p
run step p (line ∷ lines) = step p line >>= λ q. run step q lines

pub run-append : {P : Type 0} (step : P → Line → Result P Flaw) (p : P) (xs ys : List Line) → run step p (xs ++ ys) ≡ (run step p xs >>= λ q. run step q ys)
run-append step p [] ys = refl
run-append step p (x ∷ xs) ys = bind_assoc (step p x) (λ q. run step q xs) (λ q. run step q ys) _ (λ q. run-append step q xs ys)

-- the lines from this number on
abbrev pub lines_by : {P : Type 0} → (P → Line → Result P Flaw) → ℕ → P → List (List ℕ) → Result P Fault
lines_by step number p [] = Ok p
lines_by step number p (line ∷ rest) = at_line number (if is_skipped (tokens_of line) then Ok p else step p (tokens_of line)) >>= λ q. lines_by step (number + 1) q rest

-- a line that is read is before the content of the lines after it
content-stands : (line : List ℕ) (ls : List (List ℕ)) → is_skipped (tokens_of line) ≡ false → content (line ∷ ls) ≡ tokens_of line ∷ content ls
content-stands line ls stands = rw stands refl

-- a line that is refused, and what was made of the lines before it
pub record IsRefused {P : Type 0} (step : P → Line → Result P Flaw) (p : P) (ls : List (List ℕ)) (number : ℕ) (fault : Fault) : Type 0 where
  pub front : List (List ℕ)
  pub line : List ℕ
  pub behind : List (List ℕ)
  pub splits : ls ≡ front ++ line ∷ behind
  pub stands : is_skipped (tokens_of line) ≡ false
  pub before : P
  pub before_is : run step p (content front) ≡ Ok before
  pub flaw : Flaw
  pub refused : step before (tokens_of line) ≡ Err flaw
  pub told : fault ≡ in_line (length front + number) flaw

-- what is read of lines, or the first one that isn't read
pub data AreLinesRead {P : Type 0} (step : P → Line → Result P Flaw) (p : P) (ls : List (List ℕ)) (number : ℕ) (r : Result P Fault) : Type 0 where
  all : (q : P) → r ≡ Ok q → run step p (content ls) ≡ Ok q → AreLinesRead step p ls number r
  some : (fault : Fault) → r ≡ Err fault → IsRefused step p ls number fault → AreLinesRead step p ls number r

module _ {P : Type 0} (step : P → Line → Result P Flaw) where
  -- one more line before it, which is skipped or read
  behind_line : (p q : P) (line : List ℕ) (ls : List (List ℕ)) (number : ℕ) (r : Result P Fault) → ((front : List (List ℕ)) → run step p (content (line ∷ front)) ≡ run step q (content front))
      → AreLinesRead step q ls (number + 1) r → AreLinesRead step p (line ∷ ls) number r
  behind_line p q line ls number r same (all end is run_is) = all end is (same ls ∙ run_is)
  behind_line p q line ls number r same (some fault is refused) =
      let count : length refused.front + (number + 1) ≡ suc (length refused.front) + number = omega arith in
      some fault is (record {
        front = line ∷ refused.front;
        line = refused.line;
        behind = refused.behind;
        splits = ap (λ rest. line ∷ rest) refused.splits;
        stands = refused.stands;
        before = refused.before;
        before_is = same refused.front ∙ refused.before_is;
        flaw = refused.flaw;
        refused = refused.refused;
        told = refused.told ∙ rw count refl;
      })

  read_on : (p : P) (line : List ℕ) (ls : List (List ℕ)) (number : ℕ) (skipped : Bool) (r : Result P Flaw) → is_skipped (tokens_of line) ≡ skipped → step p (tokens_of line) ≡ r
      → ((q : P) → AreLinesRead step q ls (number + 1) (lines_by step (number + 1) q ls)) → AreLinesRead step p (line ∷ ls) number (lines_by step number p (line ∷ ls))
  read_on p line ls number true r skip r_is rest = rw skip (behind_line p p line ls number _ (λ front. rw skip refl) (rest p))
  read_on p line ls number false (Ok q) skip r_is rest = rw (skip, r_is) (behind_line p q line ls number _ (λ front. rw (skip, r_is) refl) (rest q))
  read_on p line ls number false (Err f) skip r_is rest =
      some (in_line number f) (rw (skip, r_is) refl) (record {
        front = [];
        line = line;
        behind = ls;
        splits = refl;
        stands = skip;
        before = p;
        before_is = refl;
        flaw = f;
        refused = r_is;
        told = rw (zero-add number) refl;
      })

  pub lines_are_read : (p : P) (ls : List (List ℕ)) (number : ℕ) → AreLinesRead step p ls number (lines_by step number p ls)
  lines_are_read p [] number = all p refl refl
  lines_are_read p (line ∷ ls) number = read_on p line ls number (is_skipped (tokens_of line)) (step p (tokens_of line)) refl refl (λ q. lines_are_read q ls (number + 1))

  -- lines that are read, and a line after them that isn't
  pub run_past : (p q : P) (xs : List Line) (line : Line) (ys : List Line) (flaw : Flaw) → run step p xs ≡ Ok q → step q line ≡ Err flaw → run step p (xs ++ line ∷ ys) ≡ Err flaw
  run_past p q xs line ys flaw front refused = rw (run-append step p xs (line ∷ ys), front, refused) refl

  -- lines that are read
  pub all_are_read : (p q : P) (ls : List (List ℕ)) (number : ℕ) → run step p (content ls) ≡ Ok q → lines_by step number p ls ≡ Ok q
  all_are_read p q ls number run_is = by_cases (lines_are_read p ls number)
    where
      by_cases : {r : Result P Fault} → AreLinesRead step p ls number r → r ≡ Ok q
      by_cases (all end is end_is) = is ∙ (let same : end ≡ q = cc in rw same refl)
      by_cases (some fault is refused) =
          let split : content ls ≡ content refused.front ++ tokens_of refused.line ∷ content refused.behind =
          ap content refused.splits ∙ content-append refused.front (refused.line ∷ refused.behind) ∙ ap (λ rest. content refused.front ++ rest) (content-stands refused.line refused.behind refused.stands) in
          let stops : run step p (content ls) ≡ Err refused.flaw = rw split (run_past p refused.before (content refused.front) (tokens_of refused.line) (content refused.behind) refused.flaw refused.before_is refused.refused) in
          absurd (cc)

  -- the first line that is refused
  pub refused_at : (p q : P) (front : List (List ℕ)) (line : List ℕ) (behind : List (List ℕ)) (number : ℕ) (flaw : Flaw) → run step p (content front) ≡ Ok q → is_skipped (tokens_of line) ≡ false
      → step q (tokens_of line) ≡ Err flaw → lines_by step number p (front ++ line ∷ behind) ≡ Err (in_line (length front + number) flaw)
  refused_at p q [] line behind number flaw front_is stands refused =
      let same : p ≡ q = cc in
      rw (same, stands, refused, zero-add number) refl
  refused_at p q (first ∷ front) line behind number flaw front_is stands refused =
      let count : length front + (number + 1) ≡ suc (length front) + number = omega arith in
      by_step (is_skipped (tokens_of first)) (step p (tokens_of first)) refl refl
      (λ next next_is. refused_at next q front line behind (number + 1) flaw next_is stands refused ∙ rw count refl)
    where
      by_step : (skipped : Bool) (r : Result P Flaw) → is_skipped (tokens_of first) ≡ skipped → step p (tokens_of first) ≡ r
          → ((next : P) → run step next (content front) ≡ Ok q → lines_by step (number + 1) next (front ++ line ∷ behind) ≡ Err (in_line (suc (length front) + number) flaw))
          → lines_by step number p ((first ∷ front) ++ line ∷ behind) ≡ Err (in_line (length (first ∷ front) + number) flaw)
      by_step true r skip r_is rest = rw skip (rest p (rw skip at front_is))
      by_step false (Ok next) skip r_is rest = rw (skip, r_is) (rest next (rw (skip, r_is) at front_is))
      by_step false (Err f) skip r_is rest = let none : ◌≡◌ {A = Result P Flaw} (Err f) (Ok q) = rw (skip, r_is) at front_is in absurd (cc)
