-- an accepted list of a command with a first word and options is taken, and what its rows give
use Rattle.command_shape.proofs.Prelude.{◌≡◌, ◌∙◌, inl, inr, ap, sym, subst, refl, ℕ, Bool, true, false, List, [], ◌∷◌, ◌<◌, ◌^◌, arith, Option, Some, None, codes, cond, map, decimal, not, ◌||◌, fold, flat_map, ⊤, option_map, option_and_then, slice_get, AllByRecursion, bytes_eq, digits_value, without_leading_plus, bytes_eq-Decides, long_of, Row, Rule, Text, walked, has_row, row_text, with_default, arg_by_id, arg_by_long, Shape, filled, walk_fault, check_fault, value_kinds, ValueParser, number_option, flag_option, Given, number, flag, given_id, given_words, IsFileWord, Span, IsAllowed, AreOptions, option_of, number_or, is_flag, number_of, flag_of}
use Rattle.command_shape.proofs.Found.{found}
use Rattle.command_shape.proofs.Steps.{between, given_row, IsOptionOf, plain_word}
use Rattle.command_shape.proofs.Options.{Goes, IsKnown, AreKnown, row_given, or_nothing, goes}
use Rattle.command_shape.proofs.Ends.{IsPlaceOf, Level, AreClean, level, first_placed, first_placed_well, place_settles, place_settles_well, row_at, default_list, row_kept, row_defaulted, given_at}
use Rattle.command_shape.proofs.Numbers.{decimal_word, decimal_value, decimal_passes}

-- the option x, of another name than the first word's
pub record IsSpanOf (c : List Rule) (first : Text) (x : Span) : Type 0 where
  pub default : Text
  pub option : IsOptionOf c x.id (filled (number_option x.id x.least x.most default))
  pub below : x.most < 2 ^ 64
  pub other : bytes_eq first x.id ≡ false

pub record IsFlagOf (c : List Rule) (first id : Text) : Type 0 where
  pub option : IsOptionOf c id (filled (flag_option id))
  pub other : bytes_eq first id ≡ false

-- a command of a first word and options
pub record IsOptionCommand (s : Shape) (first : Text) (q : ValueParser) (spans : List Span) (flags : List Text) : Type 0 where
  pub never : s.args_override_self ≡ false
  pub place : IsPlaceOf s.rules first 1 q
  pub each_span : AllByRecursion (IsSpanOf s.rules first) spans
  pub each_flag : AllByRecursion (IsFlagOf s.rules first) flags
  pub clean : AreClean s.rules
  pub check : (rows : List Row) (v : Text) → row_at first rows ≡ Some (given_row first v) → check_fault s rows false ≡ []

abbrev looks : List Rule → Text → Bool × Option (Text × Option Text) × Option Rule × Option Rule
looks c id = (bytes_eq (45 ∷ 45 ∷ id) (45 ∷ 45 ∷ []), long_of (45 ∷ 45 ∷ id), arg_by_long c id, arg_by_id c id)

pub option_known : {c : List Rule} {id : Text} {a : Rule} → looks c id ≡ (false, Some (id, None), Some a, Some a) → IsOptionOf c id a
option_known {c} {id} e = record { dashes = ap (λ t. t.0) e; long = ap (λ t. t.1) e; by_long = ap (λ t. t.2) e; by_id = ap (λ t. t.3) e; same = (bytes_eq-Decides id id).1 refl }

pub span_known : {c : List Rule} {first : Text} {x : Span} (default : Text)
    → looks c x.id ≡ (false, Some (x.id, None), Some (filled (number_option x.id x.least x.most default)), Some (filled (number_option x.id x.least x.most default)))
    → x.most < 2 ^ 64 → bytes_eq first x.id ≡ false → IsSpanOf c first x
span_known default e below other = record { default = default; option = option_known e; below = below; other = other }

-- the walk
known_option : (s : Shape) (first v : Text) (spans : List Span) (flags : List Text) (g : Given) → AllByRecursion (IsSpanOf s.rules first) spans → AllByRecursion (IsFlagOf s.rules first) flags
    → IsAllowed spans flags g → IsKnown s g × (has_row (given_id g) (given_row first v ∷ []) ≡ false)
known_option s first v [] [] g k f h = absurd h
known_option s first v [] (id ∷ flags) g k f (inl e) = subst (λ x. IsKnown s x × (has_row (given_id x) (given_row first v ∷ []) ≡ false)) (sym e) (f.0.option, rw f.0.other refl)
known_option s first v [] (id ∷ flags) g k f (inr h) = known_option s first v [] flags g tt f.1 h
known_option s first v (x ∷ spans) flags g k f (inl h) =
    let n = h.0 in
    let o = k.0 in
    let fits : n < 2 ^ 64 = omega (arith, o.below, h.3) in
    let passes = decimal_passes x.least x.most n fits h.2 h.3 in
    subst (λ y. IsKnown s y × (has_row (given_id y) (given_row first v ∷ []) ≡ false)) (sym h.1)
    ((x.least, x.most, o.default, o.option, passes, plain_word (decimal n) (decimal_word n fits)), rw o.other refl)
known_option s first v (x ∷ spans) flags g k f (inr h) = known_option s first v spans flags g k.1 f h

known_options : (s : Shape) (first v : Text) (spans : List Span) (flags : List Text) (given : List Given) → AllByRecursion (IsSpanOf s.rules first) spans
    → AllByRecursion (IsFlagOf s.rules first) flags → AreOptions spans flags given → AreKnown s (given_row first v ∷ []) given
known_options s first v spans flags [] k f h = tt
known_options s first v spans flags (g ∷ given) k f h =
    let known = known_option s first v spans flags g k f h.0 in
    (known.0, known.1, h.1, known_options s first v spans flags given k f h.2)

-- what the rows give
pub not_there : (id : Text) (rows : List Row) → row_at id rows ≡ None → has_row id rows ≡ false
not_there id [] e = refl
not_there id (r ∷ rows) e = go (bytes_eq r.id id) (not_there id rows) e
  where
    go : (b : Bool) → (row_at id rows ≡ None → has_row id rows ≡ false) → cond b (Some r) (row_at id rows) ≡ None → (b || has_row id rows) ≡ false
    go true below e = cc
    go false below e = below e

all_allowed : (spans : List Span) (flags : List Text) (given : List Given) → AreOptions spans flags given → AllByRecursion (IsAllowed spans flags) given
all_allowed spans flags [] h = tt
all_allowed spans flags (g ∷ given) h = (h.0, all_allowed spans flags given h.2)

abbrev IsNoFlag : Text → List Text → Type 0
IsNoFlag id [] = ⊤
IsNoFlag id (x ∷ flags) = (bytes_eq x id ≡ false) × IsNoFlag id flags

abbrev IsNoSpan : Text → List Span → Type 0
IsNoSpan id [] = ⊤
IsNoSpan id (x ∷ spans) = (bytes_eq x.id id ≡ false) × IsNoSpan id spans

number_fits : (c : List Rule) (first : Text) (spans : List Span) (flags : List Text) (id : Text) (n : ℕ) → AllByRecursion (IsSpanOf c first) spans
    → IsAllowed spans flags (number id n) → n < 2 ^ 64
number_fits c first [] [] id n k h = absurd h
number_fits c first [] (x ∷ flags) id n k (inl e) = absurd cc
number_fits c first [] (x ∷ flags) id n k (inr h) = number_fits c first [] flags id n tt h
number_fits c first (x ∷ spans) flags id n k (inl h) =
    let same : n ≡ h.0 = cc in
    omega (arith, same, h.3, k.0.below)
number_fits c first (x ∷ spans) flags id n k (inr h) = number_fits c first spans flags id n k.1 h

no_flag : (spans : List Span) (flags : List Text) (id x : Text) → IsNoFlag id flags → IsAllowed spans flags (flag x) → bytes_eq x id ≡ true → ⊥
no_flag [] [] id x none h e = absurd h
no_flag [] (y ∷ flags) id x none (inl h) e =
    let same : x ≡ y = cc in
    let other = none.0 in
    cc
no_flag [] (y ∷ flags) id x none (inr h) e = no_flag [] flags id x none.1 h e
no_flag (s ∷ spans) flags id x none (inl h) e =
    let bad = h.1 in
    cc
no_flag (s ∷ spans) flags id x none (inr h) e = no_flag spans flags id x none h e

no_number : (spans : List Span) (flags : List Text) (id x : Text) (n : ℕ) → IsNoSpan id spans → IsAllowed spans flags (number x n) → bytes_eq x id ≡ true → ⊥
no_number [] [] id x n none h e = absurd h
no_number [] (y ∷ flags) id x n none (inl h) e = cc
no_number [] (y ∷ flags) id x n none (inr h) e = no_number [] flags id x n none h e
no_number (s ∷ spans) flags id x n none (inl h) e =
    let same : x ≡ s.id = cc in
    let other = none.0 in
    cc
no_number (s ∷ spans) flags id x n none (inr h) e = no_number spans flags id x n none.1 h e

flipped : (a b : Bool) → a ≡ not b → b ≡ not a
flipped a true e = rw e refl
flipped a false e = rw e refl

-- the text, the number and the flag of a row
abbrev pub text_in : Option Row → Option Text
text_in = option_and_then (λ (r : Row). slice_get r.values 0)

abbrev pub number_in : Option Row → Option ℕ
number_in o = option_map (λ text. digits_value 10 (without_leading_plus text)) (option_and_then row_text o)

abbrev flag_in : Option Row → Option Bool
flag_in o = option_map (λ text. bytes_eq text (codes "true")) (option_and_then row_text o)

-- the rows of the first word v and the options, and the defaults
abbrev pub rows_of : List Rule → Text → Text → List Given → List Row
rows_of c first v given = fold with_default (given_row first v ∷ map row_given given) c

module _ {s : Shape} {first : Text} {q : ValueParser} {spans : List Span} {flags : List Text} (k : IsOptionCommand s first q spans flags) (v : Text) (given : List Given) (h : AreOptions spans flags given) where
  pub first_kept : row_at first (rows_of s.rules first v given) ≡ Some (given_row first v)
  first_kept = row_kept s.rules first (given_row first v) (given_row first v ∷ map row_given given) (rw ((bytes_eq-Decides first first).1 refl) refl)

  pub option_level : IsFileWord v → value_kinds false q v ≡ [] → Level s (v ∷ flat_map given_words given) (rows_of s.rules first v given)
  unfolding walk_fault
  option_level word passes =
      let plain = plain_word v word in
      let placed = first_placed s.rules first q k.place v plain in
      let g = goes s k.never given (given_row first v ∷ []) [] (Some (first, v ∷ [])) 2 (known_options s first v spans flags given k.each_span k.each_flag h)
      (place_settles s.rules first 1 q k.place [] v refl) (rw k.never (place_settles_well s.rules first 1 q k.place [] v refl passes)) in
      let all : Goes s (between [] None 1) (v ∷ flat_map given_words given) (given_row first v ∷ map row_given given) 2 = record {
        rows = g.rows;
        pending = g.pending;
        walk = ap (λ w. fold (walked s.rules []) w (flat_map given_words given)) placed ∙ g.walk;
        well = or_nothing _ _ (first_placed_well s first q k.place v plain) (ap (λ w. walk_fault s [] w (flat_map given_words given)) placed ∙ g.well);
        settled = g.settled;
        last = g.last;
      } in
      level s (v ∷ flat_map given_words given) (given_row first v ∷ map row_given given) 2 all k.clean (k.check (rows_of s.rules first v given) v first_kept)

module _ {s : Shape} {first : Text} {q : ValueParser} {spans : List Span} {flags : List Text} (k : IsOptionCommand s first q spans flags) (v : Text) (given : List Given) (h : AreOptions spans flags given) (id : Text) (other : bytes_eq first id ≡ false) where
  option_row : (o : Option Given) → option_of id given ≡ o → row_at id (given_row first v ∷ map row_given given) ≡ option_map row_given o
  option_row o e = rw other (given_at id given ∙ ap (option_map row_given) e)

  given_kept : (r : Row) → row_at id (given_row first v ∷ map row_given given) ≡ Some r → row_at id (rows_of s.rules first v given) ≡ Some r
  given_kept = λ r. row_kept s.rules id r (given_row first v ∷ map row_given given)

  not_given : row_at id (given_row first v ∷ map row_given given) ≡ None → row_at id (rows_of s.rules first v given) ≡ row_at id (default_list s.rules)
  not_given e = row_defaulted s.rules id (given_row first v ∷ map row_given given) (not_there id (given_row first v ∷ map row_given given) e)

  allowed : (g : Given) → option_of id given ≡ Some g → IsAllowed spans flags g × (bytes_eq (given_id g) id ≡ true)
  allowed g e = found (IsAllowed spans flags) (λ y. bytes_eq (given_id y) id) given g (all_allowed spans flags given h) e

  pub reads_number : (default : ℕ) → number_in (row_at id (default_list s.rules)) ≡ Some default → IsNoFlag id flags
      → (n : ℕ) → n ≡ number_or default (option_of id given) → number_of id (rows_of s.rules first v given) ≡ Some n
  reads_number default is none n same = go (option_of id given) refl ∙ ap Some (sym same)
    where
      go : (o : Option Given) → option_of id given ≡ o → number_of id (rows_of s.rules first v given) ≡ Some (number_or default o)
      go None e = ap number_in (not_given (option_row None e)) ∙ is
      go (Some (number x n)) e =
          ap number_in (given_kept (given_row x (decimal n)) (option_row (Some (number x n)) e))
          ∙ ap Some (decimal_value n (number_fits s.rules first spans flags x n k.each_span (allowed (number x n) e).0))
      go (Some (flag x)) e =
          let a = allowed (flag x) e in
          absurd (no_flag spans flags id x none a.0 a.1)

  pub reads_flag : flag_in (row_at id (default_list s.rules)) ≡ Some false → IsNoSpan id spans
      → (b : Bool) → b ≡ not (is_flag (option_of id given)) → flag_of id (rows_of s.rules first v given) ≡ Some (not b)
  reads_flag is none b same = go (option_of id given) refl ∙ ap Some (flipped b (is_flag (option_of id given)) same)
    where
      go : (o : Option Given) → option_of id given ≡ o → flag_of id (rows_of s.rules first v given) ≡ Some (is_flag o)
      go None e = ap flag_in (not_given (option_row None e)) ∙ is
      go (Some (number x n)) e =
          let a = allowed (number x n) e in
          absurd (no_number spans flags id x n none a.0 a.1)
      go (Some (flag x)) e = ap flag_in (given_kept (given_row x (codes "true")) (option_row (Some (flag x)) e))
