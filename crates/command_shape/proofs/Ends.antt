-- the first words of a command, its defaults, and what its rows give
use Rattle.command_shape.proofs.Prelude.{◌≡◌, ◌∙◌, ap, sym, refl, ℕ, Bool, true, false, List, [], ◌∷◌, ◌++◌, Option, Some, None, cond, map, ◌||◌, fold, ⊤, find, option_map, bytes_eq, append-nil, bytes_eq-Decides, reading_of, Row, Rule, Text, Walk, Held, walked, settled_rows, settled, has_row, arg_by_id, arg_by_index, with_default, default_rows, rows_after, nothing_held, reading_by, more_values, is_empty, whole_walk, Shape, filled, with_index, turn_fault, settle_fault, level_fault, defaults_fault, given_default_fault, check_fault, value_kinds, ValueParser, AsWritten, DefaultValue, required_word, Given, given_id, option_of}
use Rattle.command_shape.proofs.Steps.{held, between, IsPlainWord, given_row, no_such_row, row_added}
use Rattle.command_shape.proofs.Options.{Goes, row_given, or_nothing, has_row_end}

-- the word at place k
abbrev pub place : Text → ℕ → ValueParser → Rule
place id k q = record (with_index k (filled (required_word id))) { parser = Some q }

pub record IsPlaceOf (c : List Rule) (id : Text) (k : ℕ) (q : ValueParser) : Type 0 where
  pub by_index : arg_by_index c k ≡ Some (place id k q)
  pub by_id : arg_by_id c id ≡ Some (place id k q)
  pub reading : reading_of q ≡ AsWritten

pub first_placed : (c : List Rule) (id : Text) (q : ValueParser) → IsPlaceOf c id 1 q → (v : Text) → IsPlainWord v
    → walked c [] (between [] None 1) v ≡ between [] (Some (id, v ∷ [])) 2
unfolding walked
first_placed c id q o v w = rw (w.dashes, w.long, w.short, o.by_index) refl

pub first_placed_well : (s : Shape) (id : Text) (q : ValueParser) → IsPlaceOf s.rules id 1 q → (v : Text) → IsPlainWord v
    → turn_fault s [] (between [] None 1) v ≡ []
first_placed_well s id q o v w = rw (w.dashes, w.long, w.short, o.by_index) refl

pub next_placed : (c : List Rule) (id : Text) (q : ValueParser) → IsPlaceOf c id 2 q → (rows : List Row) (before x : Text) → bytes_eq before id ≡ false
    → (v : Text) → IsPlainWord v
    → walked c [] (between rows (Some (before, x ∷ [])) 2) v ≡ between (settled_rows c (Some (before, x ∷ [])) rows) (Some (id, v ∷ [])) 3
unfolding walked
next_placed c id q o rows before x other v w = rw (w.dashes, w.long, w.short, o.by_index, other) refl

pub next_placed_well : (s : Shape) (id : Text) (q : ValueParser) → IsPlaceOf s.rules id 2 q → (rows : List Row) (before x : Text) → bytes_eq before id ≡ false
    → settle_fault s.rules s.args_override_self (held rows (Some (before, x ∷ []))) ≡ []
    → (v : Text) → IsPlainWord v → turn_fault s [] (between rows (Some (before, x ∷ [])) 2) v ≡ []
next_placed_well s id q o rows before x other well v w = rw (w.dashes, w.long, w.short, o.by_index, other, well) refl

pub place_settles : (c : List Rule) (id : Text) (k : ℕ) (q : ValueParser) → IsPlaceOf c id k q
    → (rows : List Row) (v : Text) → has_row id rows ≡ false → settled_rows c (Some (id, v ∷ [])) rows ≡ rows ++ given_row id v ∷ []
place_settles c id k q o rows v none = rw (o.by_id, o.reading) (row_added id v rows none)

pub place_settles_well : (c : List Rule) (id : Text) (k : ℕ) (q : ValueParser) → IsPlaceOf c id k q
    → (rows : List Row) (v : Text) → has_row id rows ≡ false → value_kinds false q v ≡ []
    → settle_fault c false (held rows (Some (id, v ∷ []))) ≡ []
place_settles_well c id k q o rows v none passes = rw (o.by_id, none, passes) refl

-- defaults
abbrev pub row_at : Text → List Row → Option Row
row_at id rows = find (λ r. bytes_eq r.id id) rows

abbrev pub default_row : Rule → List Text → List Row
default_row a [] = []
default_row a (v ∷ vs) = record { id = a.id; values = v ∷ vs; count = None; source = Some DefaultValue; reading = reading_by a } ∷ []

-- the rows of the arguments that have a default
abbrev pub default_list : List Rule → List Row
default_list [] = []
default_list (a ∷ c) = default_row a a.defaults ++ default_list c

row_at_end : (id : Text) (rows more : List Row) (r : Row) → row_at id rows ≡ Some r → row_at id (rows ++ more) ≡ Some r
row_at_end id [] more r e = cc
row_at_end id (x ∷ rows) more r e = go (bytes_eq x.id id) (row_at_end id rows more r) e
  where
    go : (b : Bool) → (row_at id rows ≡ Some r → row_at id (rows ++ more) ≡ Some r) → cond b (Some x) (row_at id rows) ≡ Some r → cond b (Some x) (row_at id (rows ++ more)) ≡ Some r
    go true below e = e
    go false below e = below e

row_at_past : (id : Text) (rows more : List Row) → has_row id rows ≡ false → row_at id (rows ++ more) ≡ row_at id more
row_at_past id [] more e = refl
row_at_past id (x ∷ rows) more e = go (bytes_eq x.id id) (row_at_past id rows more) e
  where
    go : (b : Bool) → (has_row id rows ≡ false → row_at id (rows ++ more) ≡ row_at id more) → (b || has_row id rows) ≡ false → cond b (Some x) (row_at id (rows ++ more)) ≡ row_at id more
    go true below e = cc
    go false below e = below e

-- an argument without a row gets its default at the end
default_added : (rows : List Row) (a : Rule) → has_row a.id rows ≡ false → with_default rows a ≡ rows ++ default_row a a.defaults
default_added rows a none = rw none (go a.defaults)
  where
    go : (ds : List Text) → default_rows a.id (reading_by a) ds rows ≡ rows ++ default_row a ds
    go [] = sym (append-nil rows)
    go (v ∷ vs) = no_such_row a.id (more_values DefaultValue (v ∷ vs)) (default_row a (v ∷ vs)) rows none

default_given : (rows : List Row) (a : Rule) → has_row a.id rows ≡ true → with_default rows a ≡ rows
default_given rows a some = rw some refl

by_case : (b : Bool) (P : Type 0) → (b ≡ true → P) → (b ≡ false → P) → P
by_case true P on_true on_false = on_true refl
by_case false P on_true on_false = on_false refl

pub row_kept : (c : List Rule) (id : Text) (r : Row) (rows : List Row) → row_at id rows ≡ Some r → row_at id (fold with_default rows c) ≡ Some r
row_kept [] id r rows e = e
row_kept (a ∷ c) id r rows e = row_kept c id r (with_default rows a) (by_case (has_row a.id rows) (row_at id (with_default rows a) ≡ Some r)
    (λ some. ap (row_at id) (default_given rows a some) ∙ e)
    (λ none. ap (row_at id) (default_added rows a none) ∙ row_at_end id rows (default_row a a.defaults) r e))

-- an argument that wasn't given has its default
pub row_defaulted : (c : List Rule) (id : Text) (rows : List Row) → has_row id rows ≡ false → row_at id (fold with_default rows c) ≡ row_at id (default_list c)
row_defaulted [] id rows none = ap (row_at id) (sym (append-nil rows)) ∙ row_at_past id rows [] none
row_defaulted (a ∷ c) id rows none = by_case (bytes_eq a.id id) (row_at id (fold with_default (with_default rows a) c) ≡ row_at id (default_row a a.defaults ++ default_list c))
    (λ same.
    let here : has_row a.id rows ≡ false = ap (λ t. has_row t rows) ((bytes_eq-Decides a.id id).0 same) ∙ none in
    ap (λ l. row_at id (fold with_default l c)) (default_added rows a here) ∙ hit a.defaults same (row_defaulted c id rows none))
    (λ other. ap (λ l. l) (by_case (has_row a.id rows) (row_at id (fold with_default (with_default rows a) c) ≡ row_at id (default_list c))
    (λ some. ap (λ l. row_at id (fold with_default l c)) (default_given rows a some) ∙ row_defaulted c id rows none)
    (λ here. ap (λ l. row_at id (fold with_default l c)) (default_added rows a here)
    ∙ row_defaulted c id (rows ++ default_row a a.defaults) (still a.defaults other))) ∙ sym (miss a.defaults other))
  where
    hit : (ds : List Text) → bytes_eq a.id id ≡ true → row_at id (fold with_default rows c) ≡ row_at id (default_list c)
        → row_at id (fold with_default (rows ++ default_row a ds) c) ≡ row_at id (default_row a ds ++ default_list c)
    hit [] same below = ap (λ l. row_at id (fold with_default l c)) (append-nil rows) ∙ below
    hit (v ∷ vs) same below =
        let d : Row = record { id = a.id; values = v ∷ vs; count = None; source = Some DefaultValue; reading = reading_by a } in
        let found : row_at id (d ∷ []) ≡ Some d = rw same refl in
        let found_before : row_at id (d ∷ default_list c) ≡ Some d = rw same refl in
        row_kept c id d (rows ++ d ∷ []) (row_at_past id rows (d ∷ []) none ∙ found) ∙ sym found_before

    miss : (ds : List Text) → bytes_eq a.id id ≡ false → row_at id (default_row a ds ++ default_list c) ≡ row_at id (default_list c)
    miss [] other = refl
    miss (v ∷ vs) other = rw other refl

    still : (ds : List Text) → bytes_eq a.id id ≡ false → has_row id (rows ++ default_row a ds) ≡ false
    still [] other = ap (has_row id) (append-nil rows) ∙ none
    still (v ∷ vs) other = has_row_end id rows (record { id = a.id; values = v ∷ vs; count = None; source = Some DefaultValue; reading = reading_by a }) none other

-- each default passes its parser
abbrev pub AreClean : List Rule → Type 0
AreClean [] = ⊤
AreClean (a ∷ c) = (given_default_fault a a.defaults ≡ []) × AreClean c

pub clean_defaults : (c : List Rule) (rows : List Row) → AreClean c → defaults_fault rows c ≡ []
unfolding defaults_fault
clean_defaults [] rows clean = refl
clean_defaults (a ∷ c) rows clean = or_nothing _ _ (go (has_row a.id rows || is_empty a.defaults) clean.0) (clean_defaults c (with_default rows a) clean.1)
  where
    go : (b : Bool) → given_default_fault a a.defaults ≡ [] → cond b [] (given_default_fault a a.defaults) ≡ []
    go true e = refl
    go false e = e

-- a whole level
pub record Level (s : Shape) (words : List Text) (rows : List Row) : Type 0 where
  pub well : level_fault s [] nothing_held words false [] ≡ []
  pub is : rows_after s.rules [] words ≡ rows

pub level : (s : Shape) (words : List Text) (all : List Row) (k : ℕ) → Goes s (between [] None 1) words all k → AreClean s.rules
    → check_fault s (fold with_default all s.rules) false ≡ [] → Level s words (fold with_default all s.rules)
level s words all k g clean check =
    let end : (whole_walk s.rules [] nothing_held words).held ≡ held g.rows g.pending = ap (λ (w : Walk). w.held) g.walk in
    let rows : (settled s.rules (whole_walk s.rules [] nothing_held words).held).rows ≡ all = ap (λ (h : Held). (settled s.rules h).rows) end ∙ g.settled in
    record {
      well = or_nothing _ _ g.well (or_nothing _ _ (ap (settle_fault s.rules s.args_override_self) end ∙ g.last)
          (or_nothing _ _ (clean_defaults s.rules _ clean) (ap (λ l. check_fault s (fold with_default l s.rules) false) rows ∙ check)));
      is = ap (λ l. fold with_default l s.rules) rows;
    }

-- what is given
pub given_at : (id : Text) (given : List Given) → row_at id (map row_given given) ≡ option_map row_given (option_of id given)
given_at id [] = refl
given_at id (g ∷ given) = go (bytes_eq (given_id g) id) (given_at id given)
  where
    go : (b : Bool) → row_at id (map row_given given) ≡ option_map row_given (option_of id given)
        → cond b (Some (row_given g)) (row_at id (map row_given given)) ≡ option_map row_given (cond b (Some g) (option_of id given))
    go true e = refl
    go false e = e
