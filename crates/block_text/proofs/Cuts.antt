-- The first line of a text, and the first token of a line.
use Rattle.block_text.proofs.Prelude.{◌≡◌, ◌<◌, ◌≤◌, ◌+◌, ◌-◌, ℕ, suc, Bool, true, false, not, ◌||◌, List, [], ◌∷◌, Some, None, arith, refl, ap, length, take, drop, get_or, nat_lt, cond, ne_eqb, cond_some, nat_tests, take_rest, slice_split_first, position, position_or_len, prefix_len, onto_first, slice_split, lines, lines_of_parts, strip_carriage_return, is_line_end, is_gap, is_sign, is_plain, goes_on, token_len, tokens_of}

-- there is a first part
pub record FirstPart (parts : List (List ℕ)) : Type 0 where
  pub part : List ℕ
  pub more : List (List ℕ)
  pub is : parts ≡ part ∷ more

first_part_by : (b : Bool) (x : ℕ) (parts : List (List ℕ)) → FirstPart parts → FirstPart (cond b ([] ∷ parts) (onto_first x parts))
first_part_by true x parts rest = record { part = []; more = parts; is = refl }
first_part_by false x parts rest = record { part = x ∷ rest.part; more = rest.more; is = ap (onto_first x) rest.is }

pub first_part : (p : ℕ → Bool) (xs : List ℕ) → FirstPart (slice_split p xs)
first_part p [] = record { part = []; more = []; is = refl }
first_part p (x ∷ xs) = first_part_by (p x) x (slice_split p xs) (first_part p xs)

-- a part before an LF is a line
pub part_is_line : (part rest : List ℕ) → lines_of_parts (part ∷ slice_split is_line_end rest) ≡ strip_carriage_return part ∷ lines rest
part_is_line part rest = let more = first_part is_line_end rest in rw more.is refl

pub line_before : (text : List ℕ) (end : ℕ) → position is_line_end text ≡ Some end → end < length text
    → lines text ≡ strip_carriage_return (take end text) ∷ lines (take (length text - (end + 1)) (drop (end + 1) text))
line_before text end found within =
    let parts : (nat_lt (position_or_len is_line_end text) (length text) ≡ true) × (position_or_len is_line_end text ≡ end) = cond_some _ _ _ found in
    let split : slice_split is_line_end text ≡ take end text ∷ slice_split is_line_end (drop (end + 1) text) =
    rw parts.1 at (slice_split_first is_line_end text 0 (omega (arith, parts.1, within))) in
    rw (take_rest, split) (part_is_line (take end text) (drop (end + 1) text))

none_by : (p : ℕ → Bool) (x : ℕ) (xs : List ℕ) (b : Bool) → p x ≡ b → (length xs ≤ position_or_len p xs → slice_split p xs ≡ xs ∷ [])
    → length (x ∷ xs) ≤ position_or_len p (x ∷ xs) → slice_split p (x ∷ xs) ≡ (x ∷ xs) ∷ []
none_by p x xs true is rest past = let none : position_or_len p (x ∷ xs) ≡ 0 = rw is refl in absurd (omega (arith, none, past))
none_by p x xs false is rest past =
    let more : position_or_len p (x ∷ xs) ≡ suc (position_or_len p xs) = rw is (omega arith) in
    rw (is, rest (omega (arith, more, past))) refl

none_passes : (p : ℕ → Bool) (xs : List ℕ) → length xs ≤ position_or_len p xs → slice_split p xs ≡ xs ∷ []
none_passes p [] past = refl
none_passes p (x ∷ xs) past = none_by p x xs (p x) refl (none_passes p xs) past

pub last_line : (text : List ℕ) → position is_line_end text ≡ None → 0 < length text → lines text ≡ text ∷ []
last_line [] none some = absurd (omega (arith, some))
last_line (c ∷ cs) none some = rw (none_passes is_line_end (c ∷ cs) (grind (arith, nat_tests, none)), ne_eqb (length (c ∷ cs)) 0 (λ e. omega (arith, e))) refl

-- tokens
pub tokens-gap : (c : ℕ) (cs : List ℕ) → is_gap c ≡ true → tokens_of (c ∷ cs) ≡ tokens_of cs
tokens-gap c cs gap = rw gap refl

pub tokens-alone : (c : ℕ) (cs : List ℕ) → is_gap c ≡ false → (is_sign c || not (goes_on cs)) ≡ true → tokens_of (c ∷ cs) ≡ (c ∷ []) ∷ tokens_of cs
tokens-alone c cs gap alone = rw (gap, alone) refl

pub tokens-joined : (c : ℕ) (cs : List ℕ) → is_gap c ≡ false → (is_sign c || not (goes_on cs)) ≡ false → tokens_of (c ∷ cs) ≡ onto_first c (tokens_of cs)
tokens-joined c cs gap alone = rw (gap, alone) refl

plain_by : (c : ℕ) (g s : Bool) → is_gap c ≡ g → is_sign c ≡ s → is_plain c ≡ not (g || s)
plain_by c g s gap sign = rw (gap, sign) refl

prefix_more : (c : ℕ) (cs : List ℕ) → is_plain c ≡ true → prefix_len is_plain (c ∷ cs) ≡ suc (prefix_len is_plain cs)
prefix_more c cs plain = rw plain (omega arith)

-- the rest is a run of so many characters and what follows it
abbrev pub IsRun : List ℕ → Type 0
IsRun text = tokens_of text ≡ take (prefix_len is_plain text) text ∷ tokens_of (drop (prefix_len is_plain text) text)

run_ends : (c : ℕ) (cs : List ℕ) → is_gap c ≡ false → is_plain c ≡ true → (is_sign c || not (goes_on cs)) ≡ true → prefix_len is_plain cs ≡ 0 → IsRun (c ∷ cs)
run_ends c cs gap plain alone none = rw (tokens-alone c cs gap alone, prefix_more c cs plain, none) refl

run_goes_on : (c : ℕ) (cs : List ℕ) → is_gap c ≡ false → is_plain c ≡ true → (is_sign c || not (goes_on cs)) ≡ false → IsRun cs → IsRun (c ∷ cs)
run_goes_on c cs gap plain joined rest = rw (tokens-joined c cs gap joined, prefix_more c cs plain, rest) refl

run_more : (c d : ℕ) (ds : List ℕ) (g s : Bool) → is_gap d ≡ g → is_sign d ≡ s → is_gap c ≡ false → is_sign c ≡ false
    → (is_gap d ≡ false → is_sign d ≡ false → IsRun (d ∷ ds)) → IsRun (c ∷ d ∷ ds)
run_more c d ds true s gap_next sign_next gap sign rest =
    run_ends c (d ∷ ds) gap (plain_by c false false gap sign) (rw (sign, plain_by d true s gap_next sign_next) refl) (rw (plain_by d true s gap_next sign_next) refl)
run_more c d ds false true gap_next sign_next gap sign rest =
    run_ends c (d ∷ ds) gap (plain_by c false false gap sign) (rw (sign, plain_by d false true gap_next sign_next) refl) (rw (plain_by d false true gap_next sign_next) refl)
run_more c d ds false false gap_next sign_next gap sign rest =
    run_goes_on c (d ∷ ds) gap (plain_by c false false gap sign) (rw (sign, plain_by d false false gap_next sign_next) refl) (rest gap_next sign_next)

pub run_taken : (c : ℕ) (cs : List ℕ) → is_gap c ≡ false → is_sign c ≡ false → IsRun (c ∷ cs)
run_taken c [] gap sign = run_ends c [] gap (plain_by c false false gap sign) (rw sign refl) refl
run_taken c (d ∷ ds) gap sign = run_more c d ds (is_gap d) (is_sign d) refl refl gap sign (run_taken d ds)

token_by : (c : ℕ) (cs : List ℕ) (s : Bool) → is_sign c ≡ s → is_gap c ≡ false
    → tokens_of (c ∷ cs) ≡ take (token_len (c ∷ cs)) (c ∷ cs) ∷ tokens_of (drop (token_len (c ∷ cs)) (c ∷ cs))
token_by c cs true sign gap =
    let len : token_len (c ∷ cs) ≡ 1 = rw sign refl in
    rw (tokens-alone c cs gap (rw sign refl), len) refl
token_by c cs false sign gap =
    let len : token_len (c ∷ cs) ≡ prefix_len is_plain (c ∷ cs) = rw sign refl in
    rw len (run_taken c cs gap sign)

length_by : (c : ℕ) (cs : List ℕ) (s : Bool) → is_sign c ≡ s → is_gap c ≡ false → 0 < token_len (c ∷ cs)
length_by c cs true sign gap = rw sign (omega arith)
length_by c cs false sign gap =
    let len : token_len (c ∷ cs) ≡ prefix_len is_plain (c ∷ cs) = rw sign refl in
    omega (arith, len, prefix_more c cs (plain_by c false false gap sign))

pub token_is_some : (text : List ℕ) → 0 < length text → is_gap (get_or text 0 0) ≡ false → 0 < token_len text
token_is_some [] some gap = absurd (omega (arith, some))
token_is_some (c ∷ cs) some gap = length_by c cs (is_sign c) refl gap

pub token_taken : (text : List ℕ) (n : ℕ) → n ≡ token_len text → 0 < length text → is_gap (get_or text 0 0) ≡ false
    → tokens_of text ≡ take n text ∷ tokens_of (take (length text - n) (drop n text))
token_taken [] n len some gap = absurd (omega (arith, some))
token_taken (c ∷ cs) n len some gap = rw (take_rest, len) (token_by c cs (is_sign c) refl gap)
