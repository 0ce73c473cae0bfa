-- A model that is written is read back, whatever texts are before and after it.
use Rattle.model_text.proofs.Prelude.{◌≡◌, ◌<◌, ◌≤◌, ◌+◌, ◌*◌, ◌^◌, ℕ, zero, suc, Bool, true, false, List, [], ◌∷◌, ◌++◌, Option, Some, None, arith, refl, sym, ap, ◌∙◌, subst, length, map, get_or, nat_eq, nat_lt, nat_le, drop, codes, IsTrue, eq-eqb, decimal, All, flat_map, list_all, range_with_len, le-leb, lt-ltb, ne_eqb, nat_tests, append_assoc, map-append, All-nil, All-cons, All-head, All-tail, All-append, All-weaker, fill_by_all, Declaration, object_count, letter_count, object_name, letter_name, IsDeclared, Matrix, entry_at, IsSide, IsMatrix, Model, number_limit, claim_line, end_line, number_found, modulus_limit, is_number, tokens_of, is_whole, is_named, IsTextOf, no_text, text-append, text_of_tokens, name_text, decimal_text, decimal_number, text_of_number, end_is_text, line_text-append, literal, plain_name, token_read, name_token, EntryTokens, side, matrix, modulus_line, entry_line, name_of, is_row, is_row_of, is_entry, Bound, names, numbers, sizes, value_of, side_of, matrix_of, ModelTokens, model_value, HasName, IsBelow, IsSmall, KeepsEntry, model_kind, HasModels, HasMap, IsPlaced, rows_text, side_text, sides_text, map_text, maps_text, head_text, model_text, IsWritableModel, ModelsAreReadBack, IsWritten, text_of_block, are_read_back}
use Rattle.model_text.proofs.MatricesBack.{value_back, row_tokens, later_rows, matrix_read, matrix_line, rows_count, columns_count, matrix_back}
use Rattle.model_text.proofs.Reader.{reader}
use Rattle.model_text.proofs.NamesApart.{Ascend, ascend_lower, ascending_apart}
use Rattle.model_text.proofs.ObjectNames.{IsObjectName, object_is_named, IsMapName, map_is_named}

-- numbers within their limits
sides_at : (sides : List ℕ) (v : ℕ) → All IsSide sides → IsSide (get_or sides v 1)
sides_at [] v each = record { positive = omega arith; at_most = omega arith }
sides_at (n ∷ sides) zero each = All-head IsSide n sides each
sides_at (n ∷ sides) (suc v) each = sides_at sides v (All-tail IsSide n sides each)

entries_at : (m : ℕ) (entries : List ℕ) (place : ℕ) → 0 < m → All (λ entry. entry < m) entries → get_or entries place 0 < m
entries_at m [] place some each = some
entries_at m (n ∷ entries) zero some each = All-head (λ entry. entry < m) n entries each
entries_at m (n ∷ entries) (suc place) some each = entries_at m entries place some (All-tail (λ entry. entry < m) n entries each)

-- what is known of an entry that is written
record IsWrittenEntry (ds : List Declaration) (modulus : ℕ) (e : EntryTokens) : Type 0 where
  entry : IsTrue (is_entry e)
  name : HasName ds e
  below : IsBelow modulus e
  small : IsSmall e

-- what a model is written as
abbrev side_tree : List Declaration → List ℕ → ℕ → EntryTokens
side_tree ds sides v = side (object_name ds v) (decimal (get_or sides v 1))

abbrev map_trees : List Declaration → ℕ → Option Matrix → List EntryTokens
map_trees ds a None = []
map_trees ds a (Some x) = matrix (letter_name ds a) (row_tokens x 0) (later_rows x) ∷ []

abbrev trees_at : List Declaration → List (Option Matrix) → ℕ → List EntryTokens
trees_at ds maps a = map_trees ds a (get_or maps a None)

abbrev model_tree : List Declaration → Model → ModelTokens
model_tree ds m = (decimal m.claim, (decimal m.modulus, map (side_tree ds m.sides) (range_with_len 0 (object_count ds)) ++ flat_map (trees_at ds m.maps) (range_with_len 0 (letter_count ds))))

-- a matrix
module _ (modulus : ℕ) (x : Matrix) (is : IsMatrix modulus x) where
  entry_below : (row column : ℕ) → entry_at x row column < modulus
  entry_below row column = entries_at modulus x.entries (row * x.columns + column) (omega (arith, is.is_modulus.at_least)) is.entries_below

  entry_small : (row column : ℕ) → entry_at x row column < 10 ^ 64
  entry_small row column = omega (arith, entry_below row column, is.is_modulus.at_most)

  wide : 0 < x.columns
  wide = omega (arith, is.shape.columns_side.positive)

  high : 0 < x.rows
  high = omega (arith, is.shape.rows_side.positive)

  row_numbers : (row : ℕ) (columns : List ℕ) → list_all is_number (map (λ column. decimal (entry_at x row column)) columns) ≡ true
  row_numbers row [] = refl
  row_numbers row (column ∷ columns) = rw (decimal_number (entry_at x row column) (entry_small row column), row_numbers row columns) refl

  row_is_row : (row : ℕ) → is_row (row_tokens x row) ≡ true
  row_is_row row = rw (lt-ltb 0 (length (row_tokens x row)) (omega (arith, columns_count x row, wide)), row_numbers row (range_with_len 0 x.columns)) refl

  rows_are_rows : (rows : List ℕ) → list_all (is_row_of (length (row_tokens x 0))) (map (row_tokens x) rows) ≡ true
  rows_are_rows [] = refl
  rows_are_rows (row ∷ rows) =
      let count : nat_eq (length (row_tokens x row)) (length (row_tokens x 0)) ≡ true = eq-eqb _ _ (columns_count x row ∙ sym (columns_count x 0)) in
      rw (row_is_row row, count, rows_are_rows rows) refl

  all_columns : (row : ℕ) (columns : List ℕ) → All (λ number. value_of number < modulus) (map (λ column. decimal (entry_at x row column)) columns)
  all_columns row [] = All-nil (λ number. value_of number < modulus)
  all_columns row (column ∷ columns) =
      let value = value_back (entry_at x row column) (entry_small row column) in
      All-cons (λ number. value_of number < modulus) (decimal (entry_at x row column)) (map (λ c. decimal (entry_at x row c)) columns)
      (subst (λ (n : ℕ). n < modulus) (sym value) (entry_below row column)) (all_columns row columns)

  all_rows : (rows : List ℕ) → All (λ row. All (λ number. value_of number < modulus) row) (map (row_tokens x) rows)
  all_rows [] = All-nil (λ row. All (λ number. value_of number < modulus) row)
  all_rows (row ∷ rows) =
      All-cons (λ r. All (λ number. value_of number < modulus) r) (row_tokens x row) (map (row_tokens x) rows) (all_columns row (range_with_len 0 x.columns)) (all_rows rows)

  matrix_written : (ds : List Declaration) (a : ℕ) → IsMapName ds a → IsWrittenEntry ds modulus (matrix (letter_name ds a) (row_tokens x 0) (later_rows x))
  matrix_written ds a here = record {
    entry = rw (here.name, row_is_row 0, rows_are_rows (drop 1 (range_with_len 0 x.rows))) refl;
    name = (record { 0 = a }, here.named);
    below = all_rows (0 ∷ drop 1 (range_with_len 0 x.rows));
    small = (omega (arith, rows_count x high, is.shape.rows_side.at_most), omega (arith, columns_count x 0, is.shape.columns_side.at_most));
  }

  -- its line
  matrix_is_text : (ds : List Declaration) (a : ℕ) → IsMapName ds a → IsTextOf (map_text ds a (Some x)) (entry_line (matrix (letter_name ds a) (row_tokens x 0) (later_rows x)) ∷ [])
  matrix_is_text ds a here =
      let name = letter_name ds a in
      let text = name_text name here.name in
      let front = line_text-append (codes "map ") name (literal (codes "map ") refl refl) (plain_name name text).line in
      let sign = line_text-append (codes "map " ++ name) (codes " = ") front (literal (codes " = ") refl refl) in
      let line = line_text-append (codes "map " ++ name ++ codes " = ") (rows_text x) sign (matrix_line x entry_small) in
      let tokens : tokens_of (codes "map " ++ name ++ codes " = " ++ rows_text x) ≡ entry_line (matrix name (row_tokens x 0) (later_rows x)) =
      ap (λ ts. codes "map" ∷ ts) (ap tokens_of (append_assoc name (codes " = ") (rows_text x)) ∙ token_read name (codes " = " ++ rows_text x) (name_token name text) refl
      ∙ ap (λ ts. name ∷ codes "=" ∷ ts) (matrix_read x entry_small wide high)) in
      rw (here.named, eq-eqb a a refl) (text_of_tokens (codes "map " ++ name ++ codes " = " ++ rows_text x) (entry_line (matrix name (row_tokens x 0) (later_rows x))) line tokens refl)

-- the model
module _ (ds : List Declaration) (declared : IsDeclared ds) (known : IsTrue (list_all is_named ds)) (m : Model) (writable : IsWritableModel ds m) where
  abbrev Written : EntryTokens → Type 0
  Written e = IsWrittenEntry ds m.modulus e

  named_map : (a : ℕ) → HasMap ds a → IsMapName ds a
  named_map a has = map_is_named ds a declared known has

  side_here : (v : ℕ) → IsSide (get_or m.sides v 1)
  side_here v = sides_at m.sides v writable.model.sides

  side_small : (v : ℕ) → get_or m.sides v 1 < 10 ^ 64
  side_small v = omega (arith, (side_here v).at_most)

  side_written : (v : ℕ) → IsObjectName ds v → Written (side_tree ds m.sides v)
  side_written v here =
      let value = value_back (get_or m.sides v 1) (side_small v) in
      let some : nat_lt 0 (value_of (decimal (get_or m.sides v 1))) ≡ true = lt-ltb 0 (value_of (decimal (get_or m.sides v 1))) (omega (arith, value, (side_here v).positive)) in
      record {
        entry = rw (here.name, decimal_number (get_or m.sides v 1) (side_small v), some) refl;
        name = (record { 0 = v }, here.named);
        below = tt;
        small = omega (arith, value, (side_here v).at_most);
      }

  side_is_text : (v : ℕ) → IsObjectName ds v → IsTextOf (side_text ds v (get_or m.sides v 1)) (entry_line (side_tree ds m.sides v) ∷ [])
  side_is_text v here =
      let name = object_name ds v in
      let number = decimal (get_or m.sides v 1) in
      let text = name_text name here.name in
      let front = line_text-append (codes "side ") name (literal (codes "side ") refl refl) (plain_name name text).line in
      let line = line_text-append (codes "side " ++ name) (codes " ") front (literal (codes " ") refl refl) in
      let split : tokens_of ((codes "side " ++ name ++ codes " ") ++ number) ≡ (codes "side" ∷ name ∷ []) ++ tokens_of number =
      ap (λ ts. codes "side" ∷ ts) (ap tokens_of (append_assoc name (codes " ") number) ∙ token_read name (codes " " ++ number) (name_token name text) refl) in
      text_of_number (codes "side " ++ name ++ codes " ") (codes "side" ∷ name ∷ []) number line (decimal_text (get_or m.sides v 1) (side_small v)) split refl

  -- the lines of the sides
  object_at : (a n : ℕ) → a + suc n ≤ object_count ds → IsObjectName ds a
  object_at a n within = object_is_named ds a declared known (omega (arith, within))

  -- entries that are written
  record AreEntries (text : List ℕ) (es : List EntryTokens) : Type 0 where
    text_is : IsTextOf text (map entry_line es)
    each : All Written es

  no_entries : AreEntries [] []
  no_entries = record { text_is = no_text; each = All-nil Written }

  one_entry : (text : List ℕ) (e : EntryTokens) → IsTextOf text (entry_line e ∷ []) → Written e → AreEntries text (e ∷ [])
  one_entry text e text_is written = record { text_is = text_is; each = All-cons Written e [] written (All-nil Written) }

  entries-append : (one other : List ℕ) (es fs : List EntryTokens) → AreEntries one es → AreEntries other fs → AreEntries (one ++ other) (es ++ fs)
  entries-append one other es fs left right = record {
    text_is = rw (map-append entry_line es fs) (text-append one other (map entry_line es) (map entry_line fs) left.text_is right.text_is);
    each = All-append Written es fs left.each right.each;
  }

  abbrev sides_from : ℕ → ℕ → List EntryTokens
  sides_from a n = map (side_tree ds m.sides) (range_with_len a n)

  sides_written : (a n : ℕ) → a + n ≤ object_count ds → AreEntries (flat_map (λ v. side_text ds v (get_or m.sides v 1)) (range_with_len a n)) (sides_from a n)
  sides_written a zero within = no_entries
  sides_written a (suc n) within =
      let here = object_at a n within in
      entries-append _ _ (side_tree ds m.sides a ∷ []) (sides_from (a + 1) n) (one_entry _ (side_tree ds m.sides a) (side_is_text a here) (side_written a here)) (sides_written (a + 1) n (omega (arith, within)))

  -- the lines of the maps
  abbrev maps_from : ℕ → ℕ → List EntryTokens
  maps_from a n = flat_map (trees_at ds m.maps) (range_with_len a n)

  map_written : (a : ℕ) (o : Option Matrix) → IsPlaced ds m.modulus a o → AreEntries (map_text ds a o) (map_trees ds a o)
  map_written a None placed = no_entries
  map_written a (Some x) placed = one_entry _ _ (matrix_is_text m.modulus x placed.1 ds a (named_map a placed.0)) (matrix_written m.modulus x placed.1 ds a (named_map a placed.0))

  placed_at : (a n : ℕ) → a + suc n ≤ letter_count ds → IsPlaced ds m.modulus a (get_or m.maps a None)
  placed_at a n within = writable.model.maps a (omega (arith, within))

  maps_written : (a n : ℕ) → a + n ≤ letter_count ds → AreEntries (flat_map (λ b. map_text ds b (get_or m.maps b None)) (range_with_len a n)) (maps_from a n)
  maps_written a zero within = no_entries
  maps_written a (suc n) within =
      entries-append _ _ (trees_at ds m.maps a) (maps_from (a + 1) n) (map_written a (get_or m.maps a None) (placed_at a n within)) (maps_written (a + 1) n (omega (arith, within)))

  entries_written : AreEntries (sides_text ds m.sides ++ maps_text ds m.maps) (model_tree ds m).1.1
  entries_written = entries-append _ _ (sides_from 0 (object_count ds)) (maps_from 0 (letter_count ds)) (sides_written 0 (object_count ds) (omega arith)) (maps_written 0 (letter_count ds) (omega arith))

  -- the names
  tree_names_ascend : (a : ℕ) (o : Option Matrix) (more_names : List (List ℕ)) → IsPlaced ds m.modulus a o → Ascend ds (object_count ds + (a + 1)) more_names → Ascend ds (object_count ds + a) (map name_of (map_trees ds a o) ++ more_names)
  tree_names_ascend a None more_names placed each = ascend_lower ds (object_count ds + a) (object_count ds + (a + 1)) more_names (omega arith) each
  tree_names_ascend a (Some x) more_names placed each =
      let next : object_count ds + (a + 1) ≡ object_count ds + a + 1 = omega arith in
      rw (named_map a placed.0).named (omega arith, subst (λ (least : ℕ). Ascend ds least more_names) next each)

  map_names_ascend : (a n : ℕ) → a + n ≤ letter_count ds → Ascend ds (object_count ds + a) (map name_of (flat_map (trees_at ds m.maps) (range_with_len a n)))
  map_names_ascend a zero within = tt
  map_names_ascend a (suc n) within =
      let more = maps_from (a + 1) n in
      subst (Ascend ds (object_count ds + a)) (sym (map-append name_of (trees_at ds m.maps a) more))
      (tree_names_ascend a (get_or m.maps a None) (map name_of more) (placed_at a n within) (map_names_ascend (a + 1) n (omega (arith, within))))

  side_names_ascend : (a n : ℕ) (more_names : List (List ℕ)) → a + n ≡ object_count ds → Ascend ds (object_count ds) more_names → Ascend ds a (map name_of (map (side_tree ds m.sides) (range_with_len a n)) ++ more_names)
  side_names_ascend a zero more_names all each = ascend_lower ds a (object_count ds) more_names (omega (arith, all)) each
  side_names_ascend a (suc n) more_names all each =
      rw (object_at a n (omega (arith, all))).named (omega arith, side_names_ascend (a + 1) n more_names (omega (arith, all)) each)

  -- what is read of the sides
  side_by : (v a : ℕ) (es : List EntryTokens) (here : Bool) → nat_eq a v ≡ here → IsObjectName ds a → a ≤ v → (a + 1 ≤ v → side_of ds es v ≡ get_or m.sides v 1)
      → side_of ds (side_tree ds m.sides a ∷ es) v ≡ get_or m.sides v 1
  side_by v a es true is name low rest =
      let same : a ≡ v = grind (arith, nat_tests, is) in
      rw (name.named, is) (value_back (get_or m.sides a 1) (side_small a) ∙ ap (λ k. get_or m.sides k 1) same)
  side_by v a es false is name low rest =
      let behind : a + 1 ≤ v = grind (arith, nat_tests, is, low) in
      rw (name.named, is) (rest behind)

  sides_back : (v a n : ℕ) (rest : List EntryTokens) → a ≤ v → v < a + n → a + n ≤ object_count ds → side_of ds (sides_from a n ++ rest) v ≡ get_or m.sides v 1
  sides_back v a zero rest low high within = absurd (omega (arith, low, high))
  sides_back v a (suc n) rest low high within =
      side_by v a (sides_from (a + 1) n ++ rest) (nat_eq a v) refl (object_at a n within) low (λ behind. sides_back v (a + 1) n rest behind (omega (arith, high)) (omega (arith, within)))

  -- what is read of the maps
  no_sides : (a : ℕ) (vs : List ℕ) (rest : List EntryTokens) → matrix_of ds m.modulus (map (side_tree ds m.sides) vs ++ rest) a ≡ matrix_of ds m.modulus rest a
  no_sides a [] rest = refl
  no_sides a (v ∷ vs) rest = no_sides a vs rest

  -- another letter
  other_tree : (a b : ℕ) (o : Option Matrix) (rest : List EntryTokens) → nat_eq b a ≡ false → IsPlaced ds m.modulus b o → matrix_of ds m.modulus (map_trees ds b o ++ rest) a ≡ matrix_of ds m.modulus rest a
  other_tree a b None rest other placed = refl
  other_tree a b (Some x) rest other placed = rw ((named_map b placed.0).named, other) refl

  -- the letter itself
  own_tree : (a : ℕ) (o : Option Matrix) (rest : List EntryTokens) → IsPlaced ds m.modulus a o → matrix_of ds m.modulus rest a ≡ None → matrix_of ds m.modulus (map_trees ds a o ++ rest) a ≡ o
  own_tree a None rest placed none = none
  own_tree a (Some x) rest placed none =
      rw ((named_map a placed.0).named, eq-eqb a a refl) (ap Some (matrix_back m.modulus x (entry_small m.modulus x placed.1) placed.1))

  none_behind : (a b n : ℕ) → a < b → b + n ≤ letter_count ds → matrix_of ds m.modulus (maps_from b n) a ≡ None
  none_behind a b zero low within = refl
  none_behind a b (suc n) low within =
      other_tree a b (get_or m.maps b None) (maps_from (b + 1) n) (ne_eqb b a (λ e. omega (arith, e, low))) (placed_at b n within) ∙ none_behind a (b + 1) n (omega (arith, low)) (omega (arith, within))

  map_by : (a b n : ℕ) (here : Bool) → nat_eq b a ≡ here → b ≤ a → b + suc n ≤ letter_count ds → (b + 1 ≤ a → matrix_of ds m.modulus (maps_from (b + 1) n) a ≡ get_or m.maps a None)
      → matrix_of ds m.modulus (maps_from b (suc n)) a ≡ get_or m.maps a None
  map_by a b n true is low within rest =
      let same : b ≡ a = grind (arith, nat_tests, is) in
      subst (λ (k : ℕ). matrix_of ds m.modulus (maps_from b (suc n)) k ≡ get_or m.maps k None) same
      (own_tree b (get_or m.maps b None) (maps_from (b + 1) n) (placed_at b n within) (none_behind b (b + 1) n (omega arith) (omega (arith, within))))
  map_by a b n false is low within rest =
      let behind : b + 1 ≤ a = grind (arith, nat_tests, is, low) in
      other_tree a b (get_or m.maps b None) (maps_from (b + 1) n) is (placed_at b n within) ∙ rest behind

  maps_back : (a b n : ℕ) → b ≤ a → a < b + n → b + n ≤ letter_count ds → matrix_of ds m.modulus (maps_from b n) a ≡ get_or m.maps a None
  maps_back a b zero low high within = absurd (omega (arith, low, high))
  maps_back a b (suc n) low high within =
      map_by a b n (nat_eq b a) refl low within (λ behind. maps_back a (b + 1) n behind (omega (arith, high)) (omega (arith, within)))

  -- the block
  claim_small : m.claim < 10 ^ 64
  claim_small = omega (arith, writable.claim)

  modulus_small : m.modulus < 10 ^ 64
  modulus_small = omega (arith, writable.model.modulus.at_most)

  model_back : model_value ds (model_tree ds m) ≡ m
  model_back =
      let claim : value_of (decimal m.claim) ≡ m.claim = value_back m.claim claim_small in
      let modulus : value_of (decimal m.modulus) ≡ m.modulus = value_back m.modulus modulus_small in
      let objects = object_count ds in
      let letters = letter_count ds in
      let entries = sides_from 0 objects ++ maps_from 0 letters in
      let sides : m.sides ≡ map (side_of ds entries) (range_with_len 0 objects) =
      fill_by_all (side_of ds entries) m.sides objects 1 writable.model.objects (λ v below. sym (sides_back v 0 objects (maps_from 0 letters) (omega arith) (omega (arith, below)) (omega arith))) in
      let maps : m.maps ≡ map (matrix_of ds m.modulus entries) (range_with_len 0 letters) =
      fill_by_all (matrix_of ds m.modulus entries) m.maps letters None writable.model.letters
      (λ a below. sym (no_sides a (range_with_len 0 objects) (maps_from 0 letters) ∙ maps_back a 0 letters (omega arith) (omega (arith, below)) (omega arith))) in
      let read : map (matrix_of ds (value_of (decimal m.modulus)) entries) (range_with_len 0 letters) ≡ m.maps = ap (λ n. map (matrix_of ds n entries) (range_with_len 0 letters)) modulus ∙ sym maps in
      λ j. record { claim = claim j; modulus = modulus j; sides = sym sides j; maps = read j }

  is_block : (model_kind ds).IsTree (model_tree ds m)
  is_block =
      let count : nat_le 2 (value_of (decimal m.modulus)) ≡ true = le-leb 2 (value_of (decimal m.modulus)) (omega (arith, value_back m.modulus modulus_small, writable.model.modulus.at_least)) in
      let start : object_count ds + 0 ≡ object_count ds = omega arith in
      let behind = subst (λ (least : ℕ). Ascend ds least (map name_of (maps_from 0 (letter_count ds)))) start (map_names_ascend 0 (letter_count ds) (omega arith)) in
      let ascend = side_names_ascend 0 (object_count ds) (map name_of (maps_from 0 (letter_count ds))) (omega arith) behind in (
        decimal_number m.claim claim_small,
        (
          rw (decimal_number m.modulus modulus_small, count) refl,
          (
            All-weaker Written (λ e. IsTrue (is_entry e)) (λ e written. written.entry) (model_tree ds m).1.1 entries_written.each,
            rw (map-append name_of (sides_from 0 (object_count ds)) (maps_from 0 (letter_count ds))) (ascending_apart ds 0 _ ascend),
          ),
        ),
      )

  keeps_each : (bound : Bound) (e : EntryTokens) → Written e → KeepsEntry ds m.modulus bound e
  keeps_each names e written = written.name
  keeps_each numbers e written = written.below
  keeps_each sizes e written = written.small

  keeps : (bound : Bound) → (model_kind ds).Keeps bound (model_tree ds m)
  keeps bound =
      let modulus = value_back m.modulus modulus_small in (
        λ same. number_found number_limit (decimal m.claim) (omega (arith, value_back m.claim claim_small, writable.claim)),
        (
          λ same. number_found modulus_limit (decimal m.modulus) (omega (arith, modulus, writable.model.modulus.at_most)),
          subst (λ (n : ℕ). All (KeepsEntry ds n bound) (model_tree ds m).1.1) (sym modulus) (All-weaker Written (KeepsEntry ds m.modulus bound) (keeps_each bound) (model_tree ds m).1.1 entries_written.each),
        ),
      )

  -- the text
  head_is_text : IsTextOf (head_text m) ((codes "model" ∷ codes "1" ∷ []) ∷ claim_line (decimal m.claim) ∷ modulus_line (decimal m.modulus) ∷ [])
  head_is_text =
      let first = text_of_tokens (codes "model 1") (codes "model" ∷ codes "1" ∷ []) (literal (codes "model 1") refl refl) refl refl in
      let claim = text_of_number (codes "claim ") (codes "claim" ∷ []) (decimal m.claim) (literal (codes "claim ") refl refl) (decimal_text m.claim claim_small) refl refl in
      let modulus = text_of_number (codes "modulus ") (codes "modulus" ∷ []) (decimal m.modulus) (literal (codes "modulus ") refl refl) (decimal_text m.modulus modulus_small) refl refl in
      text-append _ _ _ _ (text-append _ _ _ _ first claim) modulus

  model_is_text : IsTextOf (model_text ds m) ((model_kind ds).lines_of (model_tree ds m) ++ end_line ∷ [])
  model_is_text =
      subst (λ text. IsTextOf (text ++ codes "end\n") ((model_kind ds).lines_of (model_tree ds m) ++ end_line ∷ [])) (sym (append_assoc (head_text m) (sides_text ds m.sides) (maps_text ds m.maps)))
      (text-append _ _ _ _ (text-append _ _ _ _ head_is_text entries_written.text_is) end_is_text)

  pub model_written : IsWritten (model_kind ds) (model_text ds m) m
  model_written = record { tree = model_tree ds m; text_is = model_is_text; is_tree = is_block; keeps = keeps; says = sym model_back }

  pub model_is_whole : is_whole (model_text ds m) ≡ true
  model_is_whole = model_is_text.whole

  pub model_has : HasModels ds (model_text ds m) (m ∷ [])
  model_has = text_of_block (model_kind ds) (model_text ds m) m model_written

-- between other lines
pub models_are_read_back : ModelsAreReadBack
models_are_read_back ds declared known =
    (are_read_back (model_kind ds) (model_text ds) (IsWritableModel ds) (reader ds).words (λ m writable. model_written ds declared known m writable)).between
