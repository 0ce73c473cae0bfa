-- The entries of a shape are distinct, where each of them stands, and how many there are.
use Rattle.model_candidates.proofs.Prelude.{◌≡◌, ℕ, zero, suc, ◌+◌, ◌*◌, ◌-◌, ◌/◌, ◌<◌, ◌≤◌, Bool, true, false, cond, ◌&&◌, nat_le, nat_lt, nat_eq, List, [], ◌∷◌, ◌++◌, length, filter, get_or, Some, inl, inr, refl, sym, ap, ap₂, subst, ◌∙◌, eq-eqb, ne_eqb, eqb-true, arith, AllByRecursion, flat_map, range_with_len, position, and-false, and_parts, cases_eq, false_from_ne_true, leb-true, leb-false, lt-leb, append-nil, length-append, get_or_append_left, get_or-append-add, flat_map_single, All-get_or, All-from_recursion, Quiver, IsQuiver, letters, source, target, star, all-append, all-flat_map, Shape, flat_map-range_more, Entry, entry, is_same_entry, is_self, side_in, is_declared_map, row_entries, map_entries, entries_of, value_at, value_of_entry, entry_shown, entries_before, is_kept, piece, row_pieces, pieces, place_within}
use Rattle.std.proofs.Common.{lt-ltb}
use Rattle.model_candidates.proofs.SolvedPlaces.{first_place}

abbrev pub no_entry : Entry
no_entry = entry 0 0 0

-- what a function gives on the items that are kept
pub flat_map-filter : {X Y : Type 0} (f : X → List Y) (keep : X → Bool) (xs : List X) → flat_map f (filter keep xs) ≡ flat_map (λ x. cond (keep x) (f x) []) xs
flat_map-filter f keep [] = refl
flat_map-filter f keep (x ∷ xs) = go (keep x) refl (flat_map-filter f keep xs)
  where
    go : (b : Bool) → keep x ≡ b → flat_map f (filter keep xs) ≡ flat_map (λ y. cond (keep y) (f y) []) xs
        → flat_map f (cond b (x ∷ filter keep xs) (filter keep xs)) ≡ cond b (f x) [] ++ flat_map (λ y. cond (keep y) (f y) []) xs
    go true kept rest = ap (λ ys. f x ++ ys) rest
    go false kept rest = rest

-- groups of a range, one behind another
flat_map_next : {X : Type 0} (g : ℕ → List X) (n : ℕ) → flat_map g (range_with_len 0 (suc n)) ≡ flat_map g (range_with_len 0 n) ++ g n
flat_map_next g n =
    let all : n - 0 ≡ n = omega arith in
    let more : n + 1 - 0 ≡ suc n = omega arith in
    ap (λ k. flat_map g (range_with_len 0 k)) (sym more)
    ∙ sym (flat_map-range_more g [] 0 n (omega arith))
    ∙ ap (λ k. flat_map g (range_with_len 0 k) ++ g n) all

count_suc : (g : ℕ → List Entry) (n : ℕ) → length (flat_map g (range_with_len 0 (suc n))) ≡ length (flat_map g (range_with_len 0 n)) + length (g n)
count_suc g n = ap length (flat_map_next g n) ∙ length-append (flat_map g (range_with_len 0 n)) (g n)

-- an item of a group stands behind the groups before it
at_group : (g : ℕ → List Entry) (n k i : ℕ) → k < n → i < length (g k)
    → (length (flat_map g (range_with_len 0 k)) + i < length (flat_map g (range_with_len 0 n)))
    × (get_or (flat_map g (range_with_len 0 n)) (length (flat_map g (range_with_len 0 k)) + i) no_entry ≡ get_or (g k) i no_entry)
at_group g zero k i below inside = absurd (omega (arith, below))
at_group g (suc n) k i below inside =
    let all : ℕ → List Entry = λ l. flat_map g (range_with_len 0 l) in
    subst (λ xs. (length (all k) + i < length xs) × (get_or xs (length (all k) + i) no_entry ≡ get_or (g k) i no_entry))
    (sym (flat_map_next g n))
    (elim (cases_eq k n) [
      | inl same ↦ (
        omega (arith, length-append (all n) (g n), ap (λ l. length (all l)) same, ap (λ l. length (g l)) same, inside),
        ap (λ l. get_or (all n ++ g n) (length (all l) + i) no_entry) same ∙ get_or-append-add (all n) (g n) i no_entry
            ∙ ap (λ l. get_or (g l) i no_entry) (sym same),
      )
      | inr other ↦
          let rest = at_group g n k i (omega (arith, below, other)) inside in
          (omega (arith, rest.0, length-append (all n) (g n)), get_or_append_left (all n) (g n) no_entry _ rest.0 ∙ rest.1)
    ])

-- entries that are the same
same_parts : (x y : Entry) → is_same_entry x y ≡ true → (x.map ≡ y.map) × (x.row ≡ y.row) × (x.column ≡ y.column)
same_parts x y same =
    let outer = and_parts (nat_eq x.map y.map) (nat_eq x.row y.row && nat_eq x.column y.column) same in
    let inner = and_parts (nat_eq x.row y.row) (nat_eq x.column y.column) outer.1 in
    (eqb-true x.map y.map outer.0, eqb-true x.row y.row inner.0, eqb-true x.column y.column inner.1)

pub same_entry : (x y : Entry) → is_same_entry x y ≡ true → x.map ≡ y.map
same_entry x y same = (same_parts x y same).0

own_entry : (x : Entry) → is_same_entry x x ≡ true
own_entry x = ap₂ ◌&&◌ (eq-eqb x.map x.map refl) (ap₂ ◌&&◌ (eq-eqb x.row x.row refl) (eq-eqb x.column x.column refl))

-- none is the same as one before it
abbrev AreDistinct : List Entry → Type 0
AreDistinct [] = Unit {0}
AreDistinct (x ∷ xs) = AllByRecursion (λ y. is_same_entry y x ≡ false) xs × AreDistinct xs

each : {P Q : Entry → Type 0} → ((x : Entry) → P x → Q x) → (xs : List Entry) → AllByRecursion P xs → AllByRecursion Q xs
each step [] all = tt
each step (x ∷ xs) all = (step x all.0, each step xs all.1)

distinct-append : (xs ys : List Entry) → AreDistinct xs → AreDistinct ys
    → AllByRecursion (λ x. AllByRecursion (λ y. is_same_entry y x ≡ false) ys) xs
    → AreDistinct (xs ++ ys)
distinct-append [] ys of_xs of_ys apart = of_ys
distinct-append (x ∷ xs) ys of_xs of_ys apart =
    (all-append (λ y. is_same_entry y x ≡ false) xs ys of_xs.0 apart.0, distinct-append xs ys of_xs.1 of_ys apart.1)

-- groups by a number that the same entries share
module _ (label : Entry → ℕ) (shared : (x y : Entry) → is_same_entry x y ≡ true → label x ≡ label y) (g : ℕ → List Entry)
    (labelled : (k : ℕ) → AllByRecursion (λ x. label x ≡ k) (g k)) (of_each : (k : ℕ) → AreDistinct (g k)) where
  labels_from : (from n : ℕ) → AllByRecursion (λ x. from ≤ label x) (flat_map g (range_with_len from n))
  labels_from from zero = tt
  labels_from from (suc n) =
      all-append (λ x. from ≤ label x) (g from) (flat_map g (range_with_len (from + 1) n))
      (each {P = λ x. label x ≡ from} (λ x is. omega (arith, is)) (g from) (labelled from))
      (each {P = λ x. from + 1 ≤ label x} (λ x least. omega (arith, least)) (flat_map g (range_with_len (from + 1) n))
      (labels_from (from + 1) n))

  distinct_groups : (from n : ℕ) → AreDistinct (flat_map g (range_with_len from n))
  distinct_groups from zero = tt
  distinct_groups from (suc n) =
      let rest = flat_map g (range_with_len (from + 1) n) in
      distinct-append (g from) rest (of_each from) (distinct_groups (from + 1) n)
      (each {P = λ x. label x ≡ from}
      (λ x is. each {P = λ y. from + 1 ≤ label y} (λ y least. false_from_ne_true (is_same_entry y x) (λ same.
      absurd (omega (arith, shared y x same, is, least)))) rest (labels_from (from + 1) n)) (g from) (labelled from))

-- the pieces of a map
of_piece : (P : Entry → Type 0) (a : ℕ) (self : Bool) (row column : ℕ) → P (entry a row column) → AllByRecursion P (piece a self row column)
of_piece P a self row column here = elim (is_kept self row column) as (λ b. AllByRecursion P (cond b (entry a row column ∷ []) [])) [
  | true ↦ (here, tt)
  | false ↦ tt
]

module _ (a : ℕ) (self : Bool) (columns : ℕ) where
  distinct_piece : (row column : ℕ) → AreDistinct (piece a self row column)
  distinct_piece row column = elim (is_kept self row column) as (λ b. AreDistinct (cond b (entry a row column ∷ []) [])) [
    | true ↦ (tt, tt)
    | false ↦ tt
  ]

  distinct_row : (row : ℕ) → AreDistinct (row_pieces a self columns row)
  distinct_row row = distinct_groups (λ x. x.column) (λ x y same. (same_parts x y same).2) (piece a self row)
      (λ column. of_piece (λ x. x.column ≡ column) a self row column refl) (distinct_piece row) 0 columns

  distinct_map : (rows : ℕ) → AreDistinct (pieces a self columns rows)
  distinct_map rows = distinct_groups (λ x. x.row) (λ x y same. (same_parts x y same).1) (row_pieces a self columns)
      (λ row. all-flat_map (λ x. x.row ≡ row) (piece a self row) (λ column. of_piece (λ x. x.row ≡ row) a self row column refl)
      (range_with_len 0 columns)) distinct_row 0 rows

  of_map : (rows : ℕ) → AllByRecursion (λ x. x.map ≡ a) (pieces a self columns rows)
  of_map rows = all-flat_map (λ x. x.map ≡ a) (row_pieces a self columns) (λ row. all-flat_map (λ x. x.map ≡ a) (piece a self row)
      (λ column. of_piece (λ x. x.map ≡ a) a self row column refl) (range_with_len 0 columns)) (range_with_len 0 rows)

  -- where a piece stands
  piece_there : {rows row column : ℕ} → row < rows → column < columns → is_kept self row column ≡ true
      → (place_within a self columns row column < length (pieces a self columns rows))
      × (get_or (pieces a self columns rows) (place_within a self columns row column) no_entry ≡ entry a row column)
  piece_there {rows} {row} {column} in_rows in_columns kept =
      let before = length (row_pieces a self column row) in
      let none : before + 0 ≡ before = omega arith in
      let piece_is : piece a self row column ≡ entry a row column ∷ [] = ap (λ b. cond b (entry a row column ∷ []) []) kept in
      let in_row = at_group (piece a self row) columns column 0 in_columns (subst (λ xs. 0 < length xs) (sym piece_is) (omega arith)) in
      let in_map = at_group (row_pieces a self columns) rows row before in_rows (omega (arith, in_row.0)) in (
        in_map.0,
        in_map.1 ∙ ap (λ k. get_or (row_pieces a self columns row) k no_entry) (sym none) ∙ in_row.1
            ∙ ap (λ xs. get_or xs 0 no_entry) piece_is,
      )

-- in a list of distinct entries each is the first that is the same
earlier : (xs : List Entry) (j k : ℕ) → j < k → k < length xs → AreDistinct xs
    → is_same_entry (get_or xs k no_entry) (get_or xs j no_entry) ≡ false
earlier [] j k less inside are = absurd (omega (arith, inside))
earlier (x ∷ xs) j zero less inside are = absurd (omega (arith, less))
earlier (x ∷ xs) zero (suc k) less inside are =
    All-get_or (λ y. is_same_entry y x ≡ false) xs k no_entry (omega (arith, inside))
    (All-from_recursion (λ y. is_same_entry y x ≡ false) xs are.0)
earlier (x ∷ xs) (suc j) (suc k) less inside are = earlier xs j k (omega (arith, less)) (omega (arith, inside)) are.1

module _ (q : Quiver) (s : Shape) where
  abbrev rows : ℕ → ℕ
  rows a = side_in s (target q a)

  abbrev columns : ℕ → ℕ
  columns a = side_in s (source q a)

  row_entries-pieces : (a row : ℕ) → row_entries q s a row ≡ row_pieces a (is_self q a) (columns a) row
  row_entries-pieces a row = sym (flat_map_single (entry a row) _)
      ∙ flat_map-filter (λ column. entry a row column ∷ []) (is_kept (is_self q a) row) (range_with_len 0 (columns a))

  map_entries-pieces : (a : ℕ) → map_entries q s a ≡ pieces a (is_self q a) (columns a) (rows a)
  map_entries-pieces a = λ i. flat_map (λ row. row_entries-pieces a row i) (range_with_len 0 (rows a))

  pub entries_of_map : (a : ℕ) → AllByRecursion (λ x. x.map ≡ a) (map_entries q s a)
  entries_of_map a = subst (AllByRecursion (λ x. x.map ≡ a)) (sym (map_entries-pieces a)) (of_map a (is_self q a) (columns a) (rows a))

  -- of the declared maps
  abbrev declared_entries : ℕ → List Entry
  declared_entries a = cond (is_declared_map q a) (map_entries q s a) []

  by_declared : (n : ℕ) → entries_before q s n ≡ flat_map declared_entries (range_with_len 0 n)
  by_declared n = flat_map-filter (map_entries q s) (is_declared_map q) (range_with_len 0 n)

  distinct_entries : AreDistinct (entries_of q s)
  distinct_entries =
      subst AreDistinct (sym (by_declared (letters q))) (distinct_groups (λ x. x.map) same_entry declared_entries
      (λ a. elim (is_declared_map q a) as (λ b. AllByRecursion (λ x. x.map ≡ a) (cond b (map_entries q s a) [])) [
        | true ↦ entries_of_map a
        | false ↦ tt
      ])
      (λ a. elim (is_declared_map q a) as (λ b. AreDistinct (cond b (map_entries q s a) [])) [
        | true ↦ subst AreDistinct (sym (map_entries-pieces a)) (distinct_map a (is_self q a) (columns a) (rows a))
        | false ↦ tt
      ]) 0 (letters q))

  -- the first place of the entry at a place is this place
  pub place_of_own : {place : ℕ} → place < length (entries_of q s)
      → position (is_same_entry (get_or (entries_of q s) place no_entry)) (entries_of q s) ≡ Some place
  place_of_own {place} inside =
      let x = get_or (entries_of q s) place no_entry in
      first_place (is_same_entry x) (entries_of q s) no_entry inside
      (λ k before. earlier (entries_of q s) k place before inside distinct_entries) (own_entry x)

  -- one map more
  entries_next : (n : ℕ) {b : Bool} → is_declared_map q n ≡ b
      → entries_before q s (n + 1) ≡ entries_before q s n ++ cond b (map_entries q s n) []
  entries_next n is =
      let next : n + 1 ≡ suc n = omega arith in
      ap (entries_before q s) next ∙ by_declared (suc n) ∙ flat_map_next declared_entries n
      ∙ ap₂ (λ xs b. xs ++ cond b (map_entries q s n) []) (sym (by_declared n)) is

  pub entries_with : (n : ℕ) → is_declared_map q n ≡ true → entries_before q s (n + 1) ≡ entries_before q s n ++ map_entries q s n
  entries_with n declared = entries_next n declared

  pub entries_without : (n : ℕ) → is_declared_map q n ≡ false → entries_before q s (n + 1) ≡ entries_before q s n
  entries_without n other = entries_next n other ∙ append-nil (entries_before q s n)

  -- the place of an entry
  module _ {a row column : ℕ} (letter : a < letters q) (declared : is_declared_map q a ≡ true) (in_rows : row < rows a)
      (in_columns : column < columns a)
      (kept : is_kept (is_self q a) row column ≡ true) where
    abbrev place : ℕ
    place = length (entries_before q s a) + place_within a (is_self q a) (columns a) row column

    entry_there : (place < length (entries_of q s)) × (get_or (entries_of q s) place no_entry ≡ entry a row column)
    entry_there =
        let within = place_within a (is_self q a) (columns a) row column in
        let in_map = piece_there a (is_self q a) (columns a) in_rows in_columns kept in
        let is : declared_entries a ≡ pieces a (is_self q a) (columns a) (rows a) =
        ap (λ b. cond b (map_entries q s a) []) declared ∙ map_entries-pieces a in
        let in_all = at_group declared_entries (letters q) a within letter (subst (λ xs. within < length xs) (sym is) in_map.0) in
        subst (λ xs. (place < length xs) × (get_or xs place no_entry ≡ entry a row column)) (sym (by_declared (letters q)))
        (subst (λ xs. (length xs + within < length (flat_map declared_entries (range_with_len 0 (letters q))))
        × (get_or (flat_map declared_entries (range_with_len 0 (letters q))) (length xs + within) no_entry ≡ entry a row column))
        (sym (by_declared a))
        (in_all.0, in_all.1 ∙ ap (λ xs. get_or xs within no_entry) is ∙ in_map.1))

    pub kept_inside : place < length (entries_of q s)
    kept_inside = entry_there.0

    pub place_of_entry : position (is_same_entry (entry a row column)) (entries_of q s) ≡ Some place
    place_of_entry = subst (λ x. position (is_same_entry x) (entries_of q s) ≡ Some place) entry_there.1 (place_of_own kept_inside)

    pub kept_value : (values : List ℕ) → value_of_entry q s values (entry a row column) ≡ get_or values place 0
    kept_value values = ap (value_at values) place_of_entry

-- what is shown
pub shown_mirrored : (q : Quiver) (a : ℕ) {row column : ℕ} → is_self q a ≡ true → column < row → entry_shown q a row column ≡ entry a column row
shown_mirrored q a {row} {column} self less = ap (λ b. cond b (entry a column row) (entry a row column)) (ap₂ ◌&&◌ self (lt-ltb column row less))

pub shown_itself : (q : Quiver) (a row column : ℕ) → is_self q a ≡ false → entry_shown q a row column ≡ entry a row column
shown_itself q a row column self = ap (λ b. cond (b && nat_lt column row) (entry a column row) (entry a row column)) self

pub shown_behind : (q : Quiver) (a row column : ℕ) → row ≤ column → entry_shown q a row column ≡ entry a row column
shown_behind q a row column le =
    ap (λ b. cond (is_self q a && b) (entry a column row) (entry a row column)) (lt-leb (suc column) row (omega arith))
    ∙ ap (λ b. cond b (entry a column row) (entry a row column)) (and-false (is_self q a))

-- how many pieces there are
row_of_all : (a row c : ℕ) → length (row_pieces a false c row) ≡ c
row_of_all a row zero = refl
row_of_all a row (suc n) = omega (arith, count_suc (piece a false row) n, row_of_all a row n)

piece_length : (a row n : ℕ) → (n - row) + length (piece a true row n) ≡ suc n - row
piece_length a row n = go (nat_le row n) refl
  where
    go : (b : Bool) → nat_le row n ≡ b → (n - row) + length (cond b (entry a row n ∷ []) []) ≡ suc n - row
    go true le = let small : row ≤ n = leb-true row n le in omega arith
    go false le = let large : n < row = leb-false row n le in omega arith

row_behind : (a row c : ℕ) → length (row_pieces a true c row) ≡ c - row
row_behind a row zero = omega arith
row_behind a row (suc n) = count_suc (piece a true row) n ∙ ap (λ k. k + length (piece a true row n)) (row_behind a row n) ∙ piece_length a row n

rows_of_all : (a columns r : ℕ) → length (pieces a false columns r) ≡ r * columns
rows_of_all a columns zero = omega arith
rows_of_all a columns (suc n) =
    let sum : n * columns + columns ≡ suc n * columns = grind arith in
    count_suc (row_pieces a false columns) n ∙ ap₂ ◌+◌ (rows_of_all a columns n) (row_of_all a n columns) ∙ sum

pub triangle : (a side r : ℕ) → r ≤ side → 2 * length (pieces a true side r) + r * r ≡ r * (2 * side + 1)
triangle a side zero h = omega arith
triangle a side (suc n) h =
    let square : suc n * suc n ≡ n * n + 2 * n + 1 = grind arith in
    let more : suc n * (2 * side + 1) ≡ n * (2 * side + 1) + 2 * side + 1 = grind arith in
    omega (arith, square, more, triangle a side n (omega arith), count_suc (row_pieces a true side) n, row_behind a n side)

pub place_of_all : (a columns row column : ℕ) → row * columns + column ≡ place_within a false columns row column
place_of_all a columns row column = sym (ap₂ ◌+◌ (rows_of_all a columns row) (row_of_all a row column))

pub place_behind : (a side : ℕ) {row column : ℕ} → row ≤ side → row ≤ column → (row * (2 * side + 1) - row * row) / 2 + column - row ≡ place_within a true side row column
place_behind a side {row} {column} h k = omega (arith, triangle a side row h, row_behind a row column)

-- how many entries a map has
pub few : (rows columns : ℕ) → rows ≤ 6 → columns ≤ 6 → rows * columns ≤ 36
few rows columns h k = grind arith

pub few_self : {side : ℕ} → side ≤ 6 → side * (side + 1) ≤ 42
few_self {side} h = let square = few side side h h in grind arith

pub self_map_count : {q : Quiver} (s : Shape) {a side : ℕ} → IsQuiver q → a < letters q → star q a ≡ a → side ≡ side_in s (target q a)
    → side * (side + 1) / 2 ≡ length (map_entries q s a)
self_map_count {q} s {a} {side} is letter self is_side =
    let ends : source q a ≡ target q a = ap (source q) (sym self) ∙ is.star_source a letter in
    let square : side * (side + 1) ≡ side * side + side = grind arith in
    let wide : side * (2 * side + 1) ≡ 2 * (side * side) + side = grind arith in
    let entries_are = ap length (map_entries-pieces q s a)
    ∙ ap₂ (λ b v. length (pieces a b (side_in s v) (side_in s (target q a)))) (eq-eqb (star q a) a self) ends
    ∙ ap (λ n. length (pieces a true n n)) (sym is_side) in
    omega (arith, square, wide, entries_are, triangle a side side (omega arith))

pub other_map_count : (q : Quiver) (s : Shape) (a : ℕ) {rows columns : ℕ} → (star q a ≡ a → ⊥) → rows ≡ side_in s (target q a) → columns ≡ side_in s (source q a)
    → rows * columns ≡ length (map_entries q s a)
other_map_count q s a other is_rows is_columns =
    ap₂ ◌*◌ is_rows is_columns ∙ sym (ap length (map_entries-pieces q s a)
    ∙ ap (λ b. length (pieces a b (side_in s (source q a)) (side_in s (target q a)))) (ne_eqb (star q a) a other)
    ∙ rows_of_all a (side_in s (source q a)) (side_in s (target q a)))
