-- The first closing bracket of a line.
use Rattle.block_text.proofs.Prelude.{◌≡◌, ◌<◌, ◌≤◌, ◌+◌, ◌-◌, ◌==◌, ◌∙◌, ◌||◌, ℕ, suc, Bool, true, false, not, List, [], ◌∷◌, ◌++◌, Some, None, arith, refl, sym, ap, codes, length, take, drop, nat_lt, false_from_ne_true, and_parts, nat_tests, take_rest, cond_some, bytes_eq-Decides, AllByRecursion, list_all, onto_first, position, position_or_len, is, is_close, closed, is_gap, is_sign, is_plain, is_closing, goes_on, tokens_of}
use Rattle.block_text.proofs.Cuts.{IsRun, run_taken, tokens-gap, tokens-alone, tokens-joined}

-- a token of its own, and no gap
pub record IsSign (s : ℕ) : Type 0 where
  pub sign : is_sign s ≡ true
  pub gap : is_gap s ≡ false

onto_front : (c : ℕ) (ts us : List (List ℕ)) (t : List ℕ) (more : List (List ℕ)) → ts ≡ t ∷ more → onto_first c (ts ++ us) ≡ onto_first c ts ++ us
onto_front c ts us t more is = rw is refl

-- the characters before keep their tokens
abbrev Between : ℕ → List ℕ → List ℕ → Type 0
Between s rest front = tokens_of (front ++ s ∷ rest) ≡ tokens_of front ++ (s ∷ []) ∷ tokens_of rest

sign_alone : (s : ℕ) (rest : List ℕ) → IsSign s → tokens_of (s ∷ rest) ≡ (s ∷ []) ∷ tokens_of rest
sign_alone s rest is = let sign = is.sign in tokens-alone s rest is.gap (rw sign refl)

no_run : (s : ℕ) (rest : List ℕ) → IsSign s → goes_on (s ∷ rest) ≡ false
no_run s rest is = let sign = is.sign in let gap = is.gap in rw (gap, sign) refl

last_in_front : (c s : ℕ) (rest : List ℕ) (g b : Bool) → IsSign s → is_gap c ≡ g → is_sign c ≡ b → Between s rest (c ∷ [])
last_in_front c s rest true b is gap sign = tokens-gap c (s ∷ rest) gap ∙ sign_alone s rest is ∙ ap (λ ts. ts ++ (s ∷ []) ∷ tokens_of rest) (sym (tokens-gap c [] gap))
last_in_front c s rest false true is gap sign =
    tokens-alone c (s ∷ rest) gap (rw sign refl) ∙ ap (λ ts. (c ∷ []) ∷ ts) (sign_alone s rest is) ∙ ap (λ ts. ts ++ (s ∷ []) ∷ tokens_of rest) (sym (tokens-alone c [] gap (rw sign refl)))
last_in_front c s rest false false is gap sign =
    tokens-alone c (s ∷ rest) gap (rw (sign, no_run s rest is) refl) ∙ ap (λ ts. (c ∷ []) ∷ ts) (sign_alone s rest is) ∙ ap (λ ts. ts ++ (s ∷ []) ∷ tokens_of rest) (sym (tokens-alone c [] gap (rw sign refl)))

-- a run has a token
run_by : (d : ℕ) (ds : List ℕ) (g b : Bool) → is_gap d ≡ g → is_sign d ≡ b → is_plain d ≡ true → IsRun (d ∷ ds)
run_by d ds true b gap sign plain = let none : is_plain d ≡ false = rw gap refl in absurd (cc)
run_by d ds false true gap sign plain = let none : is_plain d ≡ false = rw (gap, sign) refl in absurd (cc)
run_by d ds false false gap sign plain = run_taken d ds gap sign

joined_in_front : (c d s : ℕ) (ds rest : List ℕ) → is_gap c ≡ false → (is_sign c || not (is_plain d)) ≡ false → is_plain d ≡ true → Between s rest (d ∷ ds) → Between s rest (c ∷ d ∷ ds)
joined_in_front c d s ds rest gap joined plain more =
    tokens-joined c ((d ∷ ds) ++ s ∷ rest) gap joined ∙ ap (onto_first c) more
    ∙ onto_front c (tokens_of (d ∷ ds)) ((s ∷ []) ∷ tokens_of rest) _ _ (run_by d ds (is_gap d) (is_sign d) refl refl plain)
    ∙ ap (λ ts. ts ++ (s ∷ []) ∷ tokens_of rest) (sym (tokens-joined c (d ∷ ds) gap joined))

alone_in_front : (c d s : ℕ) (ds rest : List ℕ) → is_gap c ≡ false → (is_sign c || not (is_plain d)) ≡ true → Between s rest (d ∷ ds) → Between s rest (c ∷ d ∷ ds)
alone_in_front c d s ds rest gap alone more =
    tokens-alone c ((d ∷ ds) ++ s ∷ rest) gap alone ∙ ap (λ ts. (c ∷ []) ∷ ts) more ∙ ap (λ ts. ts ++ (s ∷ []) ∷ tokens_of rest) (sym (tokens-alone c (d ∷ ds) gap alone))

more_in_front : (c d s : ℕ) (ds rest : List ℕ) (g b p : Bool) → is_gap c ≡ g → is_sign c ≡ b → is_plain d ≡ p → Between s rest (d ∷ ds) → Between s rest (c ∷ d ∷ ds)
more_in_front c d s ds rest true b p gap sign plain more =
    tokens-gap c ((d ∷ ds) ++ s ∷ rest) gap ∙ more ∙ ap (λ ts. ts ++ (s ∷ []) ∷ tokens_of rest) (sym (tokens-gap c (d ∷ ds) gap))
more_in_front c d s ds rest false true p gap sign plain more = alone_in_front c d s ds rest gap (rw sign refl) more
more_in_front c d s ds rest false false false gap sign plain more = alone_in_front c d s ds rest gap (rw (sign, plain) refl) more
more_in_front c d s ds rest false false true gap sign plain more = joined_in_front c d s ds rest gap (rw (sign, plain) refl) plain more

pub tokens_around : (s : ℕ) (front rest : List ℕ) → IsSign s → Between s rest front
tokens_around s [] rest is = sign_alone s rest is
tokens_around s (c ∷ []) rest is = last_in_front c s rest (is_gap c) (is_sign c) is refl refl
tokens_around s (c ∷ d ∷ ds) rest is = more_in_front c d s ds rest (is_gap c) (is_sign c) (is_plain d) refl refl refl (tokens_around s (d ∷ ds) rest is)

-- it isn't this sign alone
abbrev IsOther : ℕ → List ℕ → Type 0
IsOther s token = is (s ∷ []) token ≡ false

-- its first character differs
other_token : (c s : ℕ) (cs : List ℕ) → (c == s) ≡ false → IsOther s (c ∷ cs)
other_token c s cs differs = false_from_ne_true (is (s ∷ []) (c ∷ cs)) (λ same.
    let equal : c ∷ cs ≡ s ∷ [] = (bytes_eq-Decides (c ∷ cs) (s ∷ [])).0 same in
    let first : c ≡ s = cc in
    grind (arith, nat_tests, first, differs))

others_onto : (c s : ℕ) (ts : List (List ℕ)) → (c == s) ≡ false → AllByRecursion (IsOther s) ts → AllByRecursion (IsOther s) (onto_first c ts)
others_onto c s [] differs each = (other_token c s [] differs, tt)
others_onto c s (t ∷ ts) differs each = (other_token c s t differs, each.1)

abbrev Others : ℕ → List ℕ → Type 0
Others s cs = AllByRecursion (IsOther s) (tokens_of cs)

others_by : (c s : ℕ) (cs : List ℕ) (g b : Bool) → is_gap c ≡ g → (is_sign c || not (goes_on cs)) ≡ b → (c == s) ≡ false → Others s cs → Others s (c ∷ cs)
others_by c s cs true b gap alone differs more = rw (tokens-gap c cs gap) more
others_by c s cs false true gap alone differs more = rw (tokens-alone c cs gap alone) (other_token c s [] differs, more)
others_by c s cs false false gap alone differs more = rw (tokens-joined c cs gap alone) (others_onto c s (tokens_of cs) differs more)

-- no character is the sign
pub others : (s : ℕ) (cs : List ℕ) → list_all (λ c. not (c == s)) cs ≡ true → Others s cs
others s [] all = tt
others s (c ∷ cs) all =
    let parts : (not (c == s) ≡ true) × (list_all (λ c. not (c == s)) cs ≡ true) = and_parts _ _ all in
    others_by c s cs (is_gap c) (is_sign c || not (goes_on cs)) refl refl (not_true (c == s) parts.0) (others s cs parts.1)
  where
    not_true : (b : Bool) → not b ≡ true → b ≡ false
    not_true true none = absurd (cc)
    not_true false none = refl

-- the first place of a sign
abbrev place_of : ℕ → List ℕ → ℕ
place_of s text = position_or_len (λ c. c == s) text

front_by : (x s : ℕ) (xs : List ℕ) (b : Bool) → (x == s) ≡ b → list_all (λ c. not (c == s)) (take (place_of s xs) xs) ≡ true
    → list_all (λ c. not (c == s)) (take (place_of s (x ∷ xs)) (x ∷ xs)) ≡ true
front_by x s xs true is rest = rw is refl
front_by x s xs false is rest =
    let more : place_of s (x ∷ xs) ≡ suc (place_of s xs) = rw is (omega arith) in
    rw (more, is, rest) refl

pub front_without : (s : ℕ) (xs : List ℕ) → list_all (λ c. not (c == s)) (take (place_of s xs) xs) ≡ true
front_without s [] = refl
front_without s (x ∷ xs) = front_by x s xs (x == s) refl (front_without s xs)

split_by : (x s : ℕ) (xs : List ℕ) (b : Bool) → (x == s) ≡ b → (place_of s xs < length xs → xs ≡ take (place_of s xs) xs ++ s ∷ drop (suc (place_of s xs)) xs)
    → place_of s (x ∷ xs) < length (x ∷ xs) → x ∷ xs ≡ take (place_of s (x ∷ xs)) (x ∷ xs) ++ s ∷ drop (suc (place_of s (x ∷ xs))) (x ∷ xs)
split_by x s xs true is rest within = let same : x ≡ s = grind (arith, nat_tests, is) in rw is (ap (λ c. c ∷ xs) same)
split_by x s xs false is rest within =
    let more : place_of s (x ∷ xs) ≡ suc (place_of s xs) = rw is (omega arith) in
    let inside : place_of s xs < length xs = omega (arith, more, within) in
    rw more (ap (λ cs. x ∷ cs) (rest inside))

pub split_at_sign : (s : ℕ) (xs : List ℕ) → place_of s xs < length xs → xs ≡ take (place_of s xs) xs ++ s ∷ drop (suc (place_of s xs)) xs
split_at_sign s [] within = absurd (omega (arith, within))
split_at_sign s (x ∷ xs) within = split_by x s xs (x == s) refl (split_at_sign s xs) within

none_by : (x s : ℕ) (xs : List ℕ) (b : Bool) → (x == s) ≡ b → (length xs ≤ place_of s xs → list_all (λ c. not (c == s)) xs ≡ true)
    → length (x ∷ xs) ≤ place_of s (x ∷ xs) → list_all (λ c. not (c == s)) (x ∷ xs) ≡ true
none_by x s xs true is rest past = let none : place_of s (x ∷ xs) ≡ 0 = rw is refl in absurd (omega (arith, none, past))
none_by x s xs false is rest past =
    let more : place_of s (x ∷ xs) ≡ suc (place_of s xs) = rw is (omega arith) in
    rw (is, rest (omega (arith, more, past))) refl

pub all_without : (s : ℕ) (xs : List ℕ) → length xs ≤ place_of s xs → list_all (λ c. not (c == s)) xs ≡ true
all_without s [] past = refl
all_without s (x ∷ xs) past = none_by x s xs (x == s) refl (all_without s xs) past

-- brackets
pub closed_behind : (tokens rest : List (List ℕ)) → AllByRecursion (λ t. is_close t ≡ false) tokens → closed (tokens ++ codes ")" ∷ rest) ≡ Some (tokens, rest)
closed_behind [] rest each = refl
closed_behind (token ∷ tokens) rest each = rw (each.0, closed_behind tokens rest each.1) refl

closed_never : (tokens : List (List ℕ)) → AllByRecursion (λ t. is_close t ≡ false) tokens → closed tokens ≡ None
closed_never [] each = refl
closed_never (token ∷ tokens) each = rw (each.0, closed_never tokens each.1) refl

closing_sign : IsSign 41
closing_sign = record { sign = refl; gap = refl }

closed_there : (text : List ℕ) → place_of 41 text < length text → closed (tokens_of text) ≡ Some (tokens_of (take (place_of 41 text) text), tokens_of (drop (suc (place_of 41 text)) text))
closed_there text within =
    let front : List ℕ = take (place_of 41 text) text in
    let rest : List ℕ = drop (suc (place_of 41 text)) text in
    ap (λ cs. closed (tokens_of cs)) (split_at_sign 41 text within) ∙ ap closed (tokens_around 41 front rest closing_sign)
    ∙ closed_behind (tokens_of front) (tokens_of rest) (others 41 front (front_without 41 text))

pub closed_at : (text : List ℕ) (place : ℕ) → position is_closing text ≡ Some place → place < length text
    → closed (tokens_of text) ≡ Some (tokens_of (take place text), tokens_of (take (length text - (place + 1)) (drop (place + 1) text)))
closed_at text place found within =
    let parts : (nat_lt (place_of 41 text) (length text) ≡ true) × (place_of 41 text ≡ place) = cond_some _ _ _ found in
    let next : suc place ≡ place + 1 = omega arith in
    let there : closed (tokens_of text) ≡ Some (tokens_of (take place text), tokens_of (drop (suc place) text)) = rw parts.1 at (closed_there text (omega (arith, parts.1, within))) in
    rw (take_rest, ← next) there

pub never_closed : (text : List ℕ) → position is_closing text ≡ None → closed (tokens_of text) ≡ None
never_closed text none = closed_never (tokens_of text) (others 41 text (all_without 41 text (grind (arith, nat_tests, none))))
