-- The tables of letters: the value in a table is the entry of the letter's matrix in the model by the values.
use Rattle.model_candidates.proofs.Prelude.{◌≡◌, ℕ, ◌+◌, ◌*◌, ◌/◌, ◌%◌, ◌<◌, ◌≤◌, cond, List, length, get_or, Option, Some, None, inl, inr, sym, ap, ap₂, subst, ◌∙◌, arith, div-lt_iff_lt-mul, mod-lt, All, cases_lt, le-ltb, lt-ltb, get_or-map-range_with_len, length-map-range_with_len, get_or-range_with_len, All-get_or, Quiver, IsQuiver, letters, source, target, shape_side_limit, Shape, IsShape, IsSide, entry_at, entry_at-matrix_of, arrow_of, LetterTable, entries_of, model_by, side_in, letter_value, letter_values, IsTable, entry_numbers, letter_table, letter_tables, value_in_table}
use Rattle.model_candidates.proofs.CandidateModels.{side_is_object}
use Rattle.model_candidates.proofs.LetterEntries.{StandsAt, stands}
use Rattle.model_candidates.proofs.Ranges.{all_of_range}

-- the table of a letter that is no identity
abbrev pub table_of : Quiver → Shape → ℕ → LetterTable
table_of q s a = record { rows = side_in s (target q a); columns = side_in s (source q a); places = letter_values q s (entry_numbers q s) a }

-- a letter of this quiver that is no identity has this table
pub record HasTable (q : Quiver) (s : Shape) (a : ℕ) (t : LetterTable) : Type 0 where
  pub map : q.objects ≤ a
  pub same : t ≡ table_of q s a

module _ (q : Quiver) (s : Shape) (a : ℕ) where
  no_table : a < q.objects → letter_table q s a ≡ None
  no_table identity = ap (λ b. cond b None (Some (table_of q s a))) (lt-ltb a q.objects identity)

  own_table : q.objects ≤ a → letter_table q s a ≡ Some (table_of q s a)
  own_table map = ap (λ b. cond b None (Some (table_of q s a))) (le-ltb a q.objects map)

  pub has_table : {t : LetterTable} → letter_table q s a ≡ Some t → HasTable q s a t
  has_table is = elim (cases_lt a q.objects) [
    | inl identity ↦ absurd (cc (sym (no_table identity) ∙ is))
    | inr map ↦ record { map = map; same = sym (cc (sym (own_table map) ∙ is)) }
  ]

  pub has_none : letter_table q s a ≡ None → a < q.objects
  has_none is = elim (cases_lt a q.objects) [ inl identity ↦ identity | inr map ↦ absurd (cc (sym (own_table map) ∙ is)) ]

pub table_there : (q : Quiver) (s : Shape) {tables : List (Option LetterTable)} {a place : ℕ} (d : Option LetterTable)
    → tables ≡ letter_tables q s → place ≡ a → a < letters q → get_or tables place d ≡ letter_table q s a
table_there q s {a} d are same letter =
    ap₂ (λ xs n. get_or xs n d) are same ∙ get_or-map-range_with_len (letter_table q s) 0 (letters q) a a d letter (omega arith)

-- a letter that is no identity
module _ (q : Quiver) (quiver : IsQuiver q) (s : Shape) (shape : IsShape q.objects s) (a : ℕ) (letter : a < letters q) (map : q.objects ≤ a) where
  abbrev rows : ℕ
  rows = side_in s (target q a)

  abbrev columns : ℕ
  columns = side_in s (source q a)

  number_is : {i j : ℕ} (at : StandsAt q s a i j) → letter_value q s (entry_numbers q s) a i j ≡ at.place
  number_is at =
      let none : 0 + at.place ≡ at.place = omega arith in
      at.value (entry_numbers q s) ∙ get_or-range_with_len 0 (length (entries_of q s)) at.place 0 at.inside ∙ none

  -- the entry of its matrix is the value in its table
  pub entry_in_table : (i j : ℕ) → i < rows → j < columns → (values : List ℕ)
      → entry_at (arrow_of q (model_by q s 0 values) a) i j ≡ value_in_table values (table_of q s a) i j
  entry_in_table i j in_rows in_columns values =
      let at = stands quiver shape letter map in_rows in_columns in
      at.entry_is values ∙ ap (λ n. get_or values n 0) (sym (number_is at)
      ∙ sym (entry_at-matrix_of s.modulus rows columns (letter_value q s (entry_numbers q s) a) i j in_rows in_columns))

  few : (v : ℕ) → v < q.objects → side_in s v ≤ shape_side_limit
  few v inside = (All-get_or IsSide s.sides v 1 (subst (λ n. v < n) (sym shape.side_of_each) inside) shape.sides).most

  pub is_table : {count : ℕ} → count ≡ length (entries_of q s) → IsTable count (table_of q s a)
  is_table count_is =
      let f : ℕ → ℕ = λ place. letter_value q s (entry_numbers q s) a (place / columns) (place % columns) in
      let size = rows * columns in
      let positive = (side_is_object q s quiver shape (quiver.source_is_object a letter)).is_side.positive in
      record {
        few_rows = few (target q a) (quiver.target_is_object a letter);
        few_columns = few (source q a) (quiver.source_is_object a letter);
        one_each = length-map-range_with_len f 0 size;
        below = subst (λ n. All (λ place. place < n) (letter_values q s (entry_numbers q s) a)) (sym count_is)
            (all_of_range (λ number. number < length (entries_of q s)) f size (λ place inside.
            let at = stands quiver shape letter map ((div-lt_iff_lt-mul positive).1 inside) (mod-lt place positive) in
            subst (λ number. number < length (entries_of q s)) (sym (number_is at)) at.inside));
      }
