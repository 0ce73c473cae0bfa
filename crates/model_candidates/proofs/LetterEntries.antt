-- Which entry of a shape stands in a row and a column of a letter's matrix, and which letters are solved for.
use Rattle.model_candidates.proofs.Prelude.{◌≡◌, ℕ, ◌+◌, ◌<◌, ◌≤◌, ◌||◌, Bool, true, false, cond, not, nat_le, List, [], ◌∷◌, length, replicate, get_or, Some, ◌⊎◌, inl, inr, refl, sym, ap, subst, ◌∙◌, arith, eqb-true, ne_eqb, AllByRecursion, position, range_with_len, cases_eq, cases_lt, le-leb, lt-leb, or_cases, length-replicate, get_or-range_with_len, length-range_with_len, position-Some, Quiver, IsQuiver, letters, source, target, star, Letter, Shape, IsShape, entry_at, transpose, entry_at-matrix_of, IsMap, arrow_of, matrix_or_zero, arrow_of-map, arrow_of-adjoint, adjoint_is_map, Entry, entry, is_same_entry, is_self, is_declared_map, side_in, entries_of, value_at, value_of_entry, entry_shown, matrix_by, model_by, is_solved, is_solved_map, is_kept, letter_value, map_behind, solved_flags, set_count, unknown_numbers}
use Rattle.model_candidates.proofs.CandidateModels.{is_declared, map_at-model_by, model_by_is_model}
use Rattle.model_candidates.proofs.DrawnEntries.{flag_of_each, flag_at}
use Rattle.model_candidates.proofs.EntryPlaces.{place_of_entry, same_entry, shown_mirrored, shown_itself, shown_behind}
use Rattle.model_candidates.proofs.SolvedEntries.{before, before_within, filled_set}
use Rattle.model_candidates.proofs.SolvedLetters.{solved_by_maps}

-- an entry that stands among those of the shape
pub record IsAmong (q : Quiver) (s : Shape) (x : Entry) : Type 0 where
  pub place : ℕ
  pub there : position (is_same_entry x) (entries_of q s) ≡ Some place

among : (q : Quiver) (s : Shape) (a row column : ℕ) → a < letters q → is_declared_map q a ≡ true → row < side_in s (target q a)
    → column < side_in s (source q a) → is_kept (is_self q a) row column ≡ true → IsAmong q s (entry a row column)
among q s a row column letter declared in_rows in_columns kept = record {
  place = _;
  there = place_of_entry q s letter declared in_rows in_columns kept;
}

shown_among : {q : Quiver} (s : Shape) → IsQuiver q → {a row column : ℕ} → IsMap q a
    → row < side_in s (target q a) → column < side_in s (source q a) → IsAmong q s (entry_shown q a row column)
shown_among {q} s quiver {a} {row} {column} is in_rows in_columns = go (is_self q a) refl (cases_lt column row)
  where
    go : (b : Bool) → is_self q a ≡ b → (column < row) ⊎ (row ≤ column) → IsAmong q s (entry_shown q a row column)
    go true self (inl less) =
        let square : side_in s (source q a) ≡ side_in s (target q a) =
        ap (side_in s) (ap (source q) (sym (eqb-true (star q a) a self)) ∙ quiver.star_source a is.letter) in
        subst (IsAmong q s) (sym (shown_mirrored q a self less))
        (among q s a column row is.letter (is_declared is) (omega (arith, less, in_rows)) (subst (λ n. row < n) (sym square) in_rows)
        (ap (λ b. not b || nat_le column row) self ∙ le-leb column row (omega (arith, less))))
    go true self (inr behind) =
        subst (IsAmong q s) (sym (shown_behind q a row column behind))
        (among q s a row column is.letter (is_declared is) in_rows in_columns
        (ap (λ b. not b || nat_le row column) self ∙ le-leb row column behind))
    go false self order =
        subst (IsAmong q s) (sym (shown_itself q a row column self))
        (among q s a row column is.letter (is_declared is) in_rows in_columns (ap (λ b. not b || nat_le row column) self))

map-entry_shown : (q : Quiver) (a row column : ℕ) → (entry_shown q a row column).map ≡ a
map-entry_shown q a row column = go _
  where
    go : (b : Bool) → (cond b (entry a column row) (entry a row column)).map ≡ a
    go true = refl
    go false = refl

-- the map behind a letter
module _ (q : Quiver) (a : ℕ) where
  pub itself : a ≤ star q a → map_behind q a ≡ a
  itself le = ap (λ b. cond b a (star q a)) (le-leb a (star q a) le)

  pub adjoint : star q a < a → map_behind q a ≡ star q a
  adjoint less = ap (λ b. cond b a (star q a)) (lt-leb a (star q a) less)

-- The value of the entry at this place stands in row i and column j of the letter's matrix, whatever the values are.
pub record StandsAt (q : Quiver) (s : Shape) (a i j : ℕ) : Type 0 where
  pub place : ℕ
  pub inside : place < length (entries_of q s)
  pub map_is : (get_or (entries_of q s) place (entry 0 0 0)).map ≡ map_behind q a
  pub value : (values : List ℕ) → letter_value q s values a i j ≡ get_or values place 0
  pub entry_is : (values : List ℕ) → entry_at (arrow_of q (model_by q s 0 values) a) i j ≡ get_or values place 0

stands_by : {q : Quiver} {s : Shape} {a i j b row column : ℕ} → IsQuiver q → IsMap q b → map_behind q a ≡ b → row < side_in s (target q b)
    → column < side_in s (source q b)
    → ((values : List ℕ) → letter_value q s values a i j ≡ value_of_entry q s values (entry_shown q b row column))
    → ((values : List ℕ) → entry_at (arrow_of q (model_by q s 0 values) a) i j ≡ value_of_entry q s values (entry_shown q b row column))
    → StandsAt q s a i j
stands_by {q} {s} {b = b} {row = row} {column = column} quiver is behind in_rows in_columns value entry_is =
    let x = entry_shown q b row column in
    let here = shown_among s quiver is in_rows in_columns in
    let found = position-Some (is_same_entry x) (entries_of q s) here.place (entry 0 0 0) here.there in
    record {
      place = here.place;
      inside = found.0;
      map_is = sym (same_entry x _ found.1) ∙ map-entry_shown q b row column ∙ sym behind;
      value = λ values. value values ∙ ap (value_at values) here.there;
      entry_is = λ values. entry_is values ∙ ap (value_at values) here.there;
    }

-- in the matrix of a letter that is no identity
pub stands : {q : Quiver} {s : Shape} → IsQuiver q → IsShape q.objects s → {a : ℕ} → a < letters q → q.objects ≤ a → {i j : ℕ}
    → i < side_in s (target q a) → j < side_in s (source q a) → StandsAt q s a i j
stands {q} {s} quiver shape {a} letter map {i} {j} in_rows in_columns = elim (cases_lt (star q a) a) [
  | inl less ↦
      let b = star q a in
      let is = adjoint_is_map q quiver (model_by q s 0 []) (model_by_is_model q s quiver shape 0 []) a map letter less in
      let row : i < side_in s (source q b) = subst (λ v. i < side_in s v) (sym (quiver.star_source a letter)) in_rows in
      let column : j < side_in s (target q b) = subst (λ v. j < side_in s v) (sym (quiver.star_target a letter)) in_columns in
      stands_by quiver is (adjoint q a less) column row
      (λ values. ap (λ c. cond c (value_of_entry q s values (entry_shown q a i j)) (value_of_entry q s values (entry_shown q b j i)))
      (lt-leb a b less))
      (λ values.
      let x = matrix_by q s values b in
      ap (λ y. entry_at y i j) (arrow_of-adjoint q (model_by q s 0 values) a map less
      ∙ ap (λ y. transpose s.modulus (matrix_or_zero s.modulus y)) (map_at-model_by s 0 values is))
      ∙ entry_at-matrix_of s.modulus x.columns x.rows (λ r c. entry_at x c r) i j row column
      ∙ entry_at-matrix_of s.modulus x.rows x.columns (λ r c. value_of_entry q s values (entry_shown q b r c)) j i column row)
  | inr least ↦
      let is : IsMap q a = record { map = map; letter = letter; declared = least } in
      stands_by quiver is (itself q a least) in_rows in_columns
      (λ values. ap (λ c. cond c (value_of_entry q s values (entry_shown q a i j))
      (value_of_entry q s values (entry_shown q (star q a) j i)))
      (le-leb a (star q a) least))
      (λ values.
      let x = matrix_by q s values a in
      ap (λ y. entry_at y i j) (arrow_of-map q (model_by q s 0 values) a map least
      ∙ ap (matrix_or_zero s.modulus) (map_at-model_by s 0 values is))
      ∙ entry_at-matrix_of s.modulus x.rows x.columns (λ r c. value_of_entry q s values (entry_shown q a r c)) i j in_rows in_columns)
]

-- A letter that is a solved map or the adjoint of one is no identity, and the map behind it is solved.
pub record HasSolvedMap (q : Quiver) (solved : List Letter) (a : ℕ) : Type 0 where
  pub map : q.objects ≤ a
  pub is_solved : is_solved_map solved (map_behind q a) ≡ true

pub solved_map : {q : Quiver} {a : ℕ} (solved : List Letter) → AllByRecursion (λ l. IsMap q l.0) solved → is_solved_map solved a ≡ true
    → IsMap q a
solved_map [] are is = absurd (cc)
solved_map {q} {a} (l ∷ solved) are is = elim (cases_eq a l.0) [
  | inl same ↦ subst (IsMap q) (sym same) are.0
  | inr other ↦ solved_map solved are.1 (sym (ap (λ b. b || is_solved_map solved a) (ne_eqb a l.0 other)) ∙ is)
]

are_letters : (q : Quiver) (solved : List Letter) → AllByRecursion (λ l. IsMap q l.0) solved → AllByRecursion (λ l. l.0 < letters q) solved
are_letters q [] are = tt
are_letters q (l ∷ solved) are = (are.0.letter, are_letters q solved are.1)

or_none : (b c : Bool) → (b || c) ≡ false → (b ≡ false) × (c ≡ false)
or_none true c none = absurd (cc)
or_none false c none = (refl, none)

module _ {q : Quiver} (quiver : IsQuiver q) (solved : List Letter) (maps : AllByRecursion (λ l. IsMap q l.0) solved) {a : ℕ}
    (letter : a < letters q) where
  abbrev IsSolvedMap : ℕ → Bool
  IsSolvedMap b = is_solved_map solved b

  by_maps : (IsSolvedMap a || IsSolvedMap (star q a)) ≡ is_solved q solved a
  by_maps = solved_by_maps solved a quiver letter (are_letters q solved maps)

  pub has_solved_map : is_solved q solved a ≡ true → HasSolvedMap q solved a
  has_solved_map is = elim (or_cases (IsSolvedMap a) (IsSolvedMap (star q a)) (by_maps ∙ is)) [
    | inl here ↦
        let map : IsMap q a = solved_map solved maps here in
        record { map = map.map; is_solved = ap IsSolvedMap (itself q a map.declared) ∙ here }
    | inr there ↦
        let map : IsMap q (star q a) = solved_map solved maps there in
        let least : star q a ≤ a = omega (arith, map.declared, quiver.star_star a letter) in
        record {
          map = omega (arith, map.map, least);
          is_solved = elim (cases_lt (star q a) a) [
            | inl less ↦ ap IsSolvedMap (adjoint q a less) ∙ there
            | inr le ↦ let same : a ≡ star q a = omega (arith, le, least) in ap IsSolvedMap (itself q a le ∙ same) ∙ there
          ];
        }
  ]

  pub no_solved_map : is_solved q solved a ≡ false → IsSolvedMap (map_behind q a) ≡ false
  no_solved_map is =
      let none = or_none (IsSolvedMap a) (IsSolvedMap (star q a)) (by_maps ∙ is) in elim (cases_lt (star q a) a) [
        | inl less ↦ ap IsSolvedMap (adjoint q a less) ∙ none.1
        | inr le ↦ ap IsSolvedMap (itself q a le) ∙ none.0
      ]

-- the flag of the entry, and the number of its unknown
module _ {q : Quiver} {s : Shape} {a i j : ℕ} (solved : List Letter) (at : StandsAt q s a i j) where
  abbrev flags : List Bool
  flags = solved_flags q s solved

  pub flag_inside : at.place < length flags
  flag_inside = subst (λ n. at.place < n) (sym (flag_of_each q s solved)) at.inside

  pub flag_is : {b : Bool} → is_solved_map solved (map_behind q a) ≡ b → get_or flags at.place false ≡ b
  flag_is is = flag_at q s solved flag_inside ∙ ap (is_solved_map solved) at.map_is ∙ is

  module _ (set : get_or flags at.place false ≡ true) where
    pub number_is : letter_value q s (unknown_numbers flags) a i j ≡ before flags at.place
    number_is =
        let n = set_count flags in
        let none : 0 + before flags at.place ≡ before flags at.place = omega arith in
        at.value (unknown_numbers flags)
        ∙ filled_set flags (replicate (length flags) n) (range_with_len 0 n) at.place (length-replicate (length flags) n)
        (length-range_with_len 0 n)
        flag_inside set
        ∙ get_or-range_with_len 0 n (before flags at.place) 0 (before_within flags at.place flag_inside set) ∙ none

    pub number_below : letter_value q s (unknown_numbers flags) a i j < set_count flags
    number_below = subst (λ n. n < set_count flags) (sym number_is) (before_within flags at.place flag_inside set)
