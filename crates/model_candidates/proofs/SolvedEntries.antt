-- Values of the entries that are solved for, among the values of all entries.
use Rattle.model_candidates.proofs.Prelude.{◌≡◌, ℕ, zero, suc, ◌+◌, ◌<◌, ◌≤◌, Bool, true, false, cond, List, [], ◌∷◌, ◌++◌, length, get_or, take, drop, refl, sym, ap, ◌∙◌, arith, All, false≢true, take_all, take_more, All-nil, All-cons, All-head, All-tail, set_count, filled, picked}

-- lists
pub length-picked : (flags : List Bool) (values : List ℕ) → length values ≡ length flags → length (picked flags values) ≡ set_count flags
length-picked [] values same = refl
length-picked (flag ∷ flags) [] same = absurd (omega (arith, same))
length-picked (false ∷ flags) (x ∷ values) same = length-picked flags values (omega (arith, same))
length-picked (true ∷ flags) (x ∷ values) same = ap suc (length-picked flags values (omega (arith, same)))

pub All-picked : (P : ℕ → Type 0) (flags : List Bool) (values : List ℕ) → All P values → All P (picked flags values)
All-picked P [] values all = All-nil P
All-picked P (flag ∷ flags) [] all = All-nil P
All-picked P (false ∷ flags) (x ∷ values) all = All-picked P flags values (All-tail P x values all)
All-picked P (true ∷ flags) (x ∷ values) all = All-cons P x (picked flags values) (All-head P x values all)
    (All-picked P flags values (All-tail P x values all))

-- how many entries are solved for before a place
abbrev pub before : List Bool → ℕ → ℕ
before flags place = set_count (take place flags)

-- values that are as drawn where the flag isn't set
abbrev pub IsAsDrawn : List Bool → List ℕ → List ℕ → Type 0
IsAsDrawn flags drawn values = (place : ℕ) → place < length flags → get_or flags place false ≡ false
    → get_or values place 0 ≡ get_or drawn place 0

-- and where it is set, these in their order
abbrev pub AreChosen : List Bool → List ℕ → List ℕ → Type 0
AreChosen flags chosen values = (place : ℕ) → place < length flags → get_or flags place false ≡ true
    → get_or values place 0 ≡ get_or chosen (before flags place) 0

-- values that are filled in
pub filled_as_drawn : (flags : List Bool) (drawn values : List ℕ) → IsAsDrawn flags drawn (filled flags drawn values)
filled_as_drawn [] drawn values place inside unset = absurd (omega (arith, inside))
filled_as_drawn (flag ∷ flags) [] values place inside unset = refl
filled_as_drawn (false ∷ flags) (d ∷ drawn) values zero inside unset = refl
filled_as_drawn (false ∷ flags) (d ∷ drawn) values (suc place) inside unset = filled_as_drawn flags drawn values place
    (omega (arith, inside)) unset
filled_as_drawn (true ∷ flags) (d ∷ drawn) values zero inside unset = absurd (false≢true (sym unset))
filled_as_drawn (true ∷ flags) (d ∷ drawn) [] (suc place) inside unset = filled_as_drawn flags drawn [] place (omega (arith, inside)) unset
filled_as_drawn (true ∷ flags) (d ∷ drawn) (x ∷ values) (suc place) inside unset = filled_as_drawn flags drawn values place
    (omega (arith, inside)) unset

pub before_within : (flags : List Bool) (place : ℕ) → place < length flags → get_or flags place false ≡ true
    → before flags place < set_count flags
before_within [] place inside set = absurd (omega (arith, inside))
before_within (false ∷ flags) zero inside set = absurd (false≢true set)
before_within (false ∷ flags) (suc place) inside set = before_within flags place (omega (arith, inside)) set
before_within (true ∷ flags) zero inside set = omega arith
before_within (true ∷ flags) (suc place) inside set = let rest = before_within flags place (omega (arith, inside)) set in omega
    (arith, rest)

-- its own value stands there
pub filled_set : (flags : List Bool) (drawn values : List ℕ) (place : ℕ) → length drawn ≡ length flags → length values ≡ set_count flags
    → place < length flags
    → get_or flags place false ≡ true → get_or (filled flags drawn values) place 0 ≡ get_or values (before flags place) 0
filled_set [] drawn values place same_drawn same inside set = absurd (omega (arith, inside))
filled_set (flag ∷ flags) [] values place same_drawn same inside set = absurd (omega (arith, same_drawn))
filled_set (false ∷ flags) (d ∷ drawn) values zero same_drawn same inside set = absurd (false≢true set)
filled_set (false ∷ flags) (d ∷ drawn) values (suc place) same_drawn same inside set = filled_set flags drawn values place
    (omega (arith, same_drawn)) same (omega (arith, inside)) set
filled_set (true ∷ flags) (d ∷ drawn) [] place same_drawn same inside set = absurd (omega (arith, same))
filled_set (true ∷ flags) (d ∷ drawn) (x ∷ values) zero same_drawn same inside set = refl
filled_set (true ∷ flags) (d ∷ drawn) (x ∷ values) (suc place) same_drawn same inside set =
    filled_set flags drawn values place (omega (arith, same_drawn)) (omega (arith, same)) (omega (arith, inside)) set

pub picked_set : (flags : List Bool) (values : List ℕ) (place : ℕ) → length values ≡ length flags → place < length flags
    → get_or flags place false ≡ true → get_or (picked flags values) (before flags place) 0 ≡ get_or values place 0
picked_set [] values place same inside set = absurd (omega (arith, inside))
picked_set (flag ∷ flags) [] place same inside set = absurd (omega (arith, same))
picked_set (false ∷ flags) (x ∷ values) zero same inside set = absurd (false≢true set)
picked_set (false ∷ flags) (x ∷ values) (suc place) same inside set = picked_set flags values place (omega (arith, same))
    (omega (arith, inside)) set
picked_set (true ∷ flags) (x ∷ values) zero same inside set = refl
picked_set (true ∷ flags) (x ∷ values) (suc place) same inside set = picked_set flags values place (omega (arith, same))
    (omega (arith, inside)) set

-- values that go on with others from such an entry, filled in
pub filled-take : (flags : List Bool) (drawn values : List ℕ) (place : ℕ) → length drawn ≡ length flags
    → length values ≡ set_count flags → place < length flags
    → get_or flags place false ≡ true → (x : ℕ) (rest : List ℕ)
    → filled flags drawn (take (before flags place) values ++ x ∷ rest) ≡ take place (filled flags drawn values) ++ x ∷ filled
    (drop (suc place) flags) (drop (suc place) drawn) rest
filled-take [] drawn values place same_drawn same inside set x rest = absurd (omega (arith, inside))
filled-take (flag ∷ flags) [] values place same_drawn same inside set x rest = absurd (omega (arith, same_drawn))
filled-take (false ∷ flags) (d ∷ drawn) values zero same_drawn same inside set x rest = absurd (false≢true set)
filled-take (false ∷ flags) (d ∷ drawn) values (suc place) same_drawn same inside set x rest =
    ap (λ ys. d ∷ ys) (filled-take flags drawn values place (omega (arith, same_drawn)) same (omega (arith, inside)) set x rest)
filled-take (true ∷ flags) (d ∷ drawn) [] place same_drawn same inside set x rest = absurd (omega (arith, same))
filled-take (true ∷ flags) (d ∷ drawn) (y ∷ values) zero same_drawn same inside set x rest = refl
filled-take (true ∷ flags) (d ∷ drawn) (y ∷ values) (suc place) same_drawn same inside set x rest =
    ap (λ ys. y ∷ ys) (filled-take flags drawn values place (omega (arith, same_drawn)) (omega (arith, same)) (omega (arith, inside))
    set x rest)

-- all values that go on with others from such an entry, picked
pub picked-take : (flags : List Bool) (drawn values : List ℕ) (place : ℕ) → length drawn ≡ length flags
    → length values ≡ set_count flags → place < length flags
    → get_or flags place false ≡ true → (x : ℕ) (rest : List ℕ)
    → picked flags (take place (filled flags drawn values) ++ x ∷ rest) ≡ take (before flags place) values ++ x ∷ picked
    (drop (suc place) flags) rest
picked-take [] drawn values place same_drawn same inside set x rest = absurd (omega (arith, inside))
picked-take (flag ∷ flags) [] values place same_drawn same inside set x rest = absurd (omega (arith, same_drawn))
picked-take (false ∷ flags) (d ∷ drawn) values zero same_drawn same inside set x rest = absurd (false≢true set)
picked-take (false ∷ flags) (d ∷ drawn) values (suc place) same_drawn same inside set x rest =
    picked-take flags drawn values place (omega (arith, same_drawn)) same (omega (arith, inside)) set x rest
picked-take (true ∷ flags) (d ∷ drawn) [] place same_drawn same inside set x rest = absurd (omega (arith, same))
picked-take (true ∷ flags) (d ∷ drawn) (y ∷ values) zero same_drawn same inside set x rest = refl
picked-take (true ∷ flags) (d ∷ drawn) (y ∷ values) (suc place) same_drawn same inside set x rest =
    ap (λ ys. y ∷ ys) (picked-take flags drawn values place (omega (arith, same_drawn)) (omega (arith, same)) (omega (arith, inside))
    set x rest)

-- one flag more
set_count-append : (flags more : List Bool) → set_count (flags ++ more) ≡ set_count flags + set_count more
set_count-append [] more = omega arith
set_count-append (false ∷ flags) more = set_count-append flags more
set_count-append (true ∷ flags) more = let rest = set_count-append flags more in omega (arith, rest)

pub before_more : (flags : List Bool) {place : ℕ} (flag : Bool) → place < length flags → get_or flags place false ≡ flag
    → before flags (place + 1) ≡ before flags place + set_count (flag ∷ [])
before_more flags {place} flag inside is =
    ap set_count (take_more flags place false inside) ∙ set_count-append (take place flags) (get_or flags place false ∷ [])
    ∙ ap (λ b. before flags place + set_count (b ∷ [])) is

-- the number that a flag counts for
pub count_of : (flag : Bool) → cond flag 1 0 ≡ set_count (flag ∷ [])
count_of true = refl
count_of false = refl

pub set_count_within : (flags : List Bool) → set_count flags ≤ length flags
set_count_within [] = omega arith
set_count_within (false ∷ flags) = let rest = set_count_within flags in omega (arith, rest)
set_count_within (true ∷ flags) = let rest = set_count_within flags in omega (arith, rest)

pub before_all : (flags : List Bool) (place : ℕ) → place ≡ length flags → before flags place ≡ set_count flags
before_all flags place all = ap (before flags) all ∙ ap set_count (take_all (length flags) flags (omega arith))
