-- The block of a refuted claim is a block of another kind.
use Rattle.report_readback.proofs.Prelude.{◌≡◌, ◌<◌, ◌==◌, ℕ, Bool, true, false, List, [], ◌∷◌, ◌++◌, Option, Some, None, arith, refl, sym, ap, ap₂, ◌∙◌, map, get_or, codes, IsTrue, if◌then◌else◌, decimal, All, list_all, flat_map, range_with_len, flat_map-append, append-nil, append_assoc, All-nil, All-cons, All-head, All-tail, All-append, All-map, All-weaker, flat_map-map, length-range_with_len, get_or-range_with_len, Declaration, IsDeclared, object_count, letter_count, object_name, letter_name, Lemmas, Matrix, entry_at, Model, is_name, tokens_of, other, is_named, IsLineText, ended, IsBodyLine, part_text, IsPart, letter_is_spelled, name_text, begins_no_end, nothing_is_line, literal, line_text-append, plain_name, between, entry_text, row_text, row_part, rows_text, sides_text, is_map, map_text, maps_text, model_text, object_is_named}
use Rattle.report_readback.proofs.Bases.{claim_body, claim_is_body}
use Rattle.report_readback.proofs.Numerals.{either, decimal_is_line}

-- its lines
abbrev pub model_head : List ℕ
model_head = codes "model 1"

-- `modulus M`
abbrev modulus_body : ℕ → List ℕ
modulus_body n = codes "modulus " ++ decimal n

-- `side NAME S`
abbrev side_body : List Declaration → List ℕ → ℕ → List ℕ
side_body ds sides v = codes "side " ++ object_name ds v ++ codes " " ++ decimal (get_or sides v 1)

-- `map NAME = X .. ; X ..`
abbrev map_body : List Declaration → ℕ → Matrix → List ℕ
map_body ds a x = codes "map " ++ letter_name ds a ++ codes " = " ++ rows_text x

-- where the letter is a declared map and has a matrix
abbrev map_bodies : List Declaration → ℕ → Option Matrix → List (List ℕ)
map_bodies ds a None = []
map_bodies ds a (Some x) = if is_map ds a then map_body ds a x ∷ [] else []

abbrev bodies_at : List Declaration → List (Option Matrix) → ℕ → List (List ℕ)
bodies_at ds maps a = map_bodies ds a (get_or maps a None)

abbrev side_bodies : List Declaration → Model → List (List ℕ)
side_bodies ds m = map (side_body ds m.sides) (range_with_len 0 (object_count ds))

abbrev all_map_bodies : List Declaration → Model → List (List ℕ)
all_map_bodies ds m = flat_map (bodies_at ds m.maps) (range_with_len 0 (letter_count ds))

abbrev pub model_lines : List Declaration → Model → List (List ℕ)
model_lines ds m = claim_body m.claim ∷ modulus_body m.modulus ∷ (side_bodies ds m ++ all_map_bodies ds m)

-- the text is that of the part
one_map : (ds : List Declaration) (a : ℕ) (x : Matrix) (known : Bool)
    → flat_map ended (if known then map_body ds a x ∷ [] else []) ≡ (if known then ended (map_body ds a x) else [])
one_map ds a x true = append-nil (ended (map_body ds a x))
one_map ds a x false = refl

map_is : (ds : List Declaration) (a : ℕ) (x : Option Matrix) → flat_map ended (map_bodies ds a x) ≡ map_text ds a x
map_is ds a None = refl
map_is ds a (Some x) = one_map ds a x (is_map ds a)

maps_are : (ds : List Declaration) (maps : List (Option Matrix)) (letters : List ℕ)
    → flat_map ended (flat_map (bodies_at ds maps) letters) ≡ flat_map (λ a. map_text ds a (get_or maps a None)) letters
maps_are ds maps [] = refl
maps_are ds maps (a ∷ letters) =
    flat_map-append ended (bodies_at ds maps a) (flat_map (bodies_at ds maps) letters) ∙ ap₂ ◌++◌ (map_is ds a (get_or maps a None)) (maps_are ds maps letters)

entries_are : (ds : List Declaration) (m : Model) → flat_map ended (side_bodies ds m ++ all_map_bodies ds m) ≡ sides_text ds m.sides ++ maps_text ds m.maps
entries_are ds m =
    flat_map-append ended (side_bodies ds m) (all_map_bodies ds m)
    ∙ ap₂ ◌++◌ (flat_map-map ended (side_body ds m.sides) (range_with_len 0 (object_count ds))) (maps_are ds m.maps (range_with_len 0 (letter_count ds)))

-- texts one after another, however they are put together
texts_are : (head claim modulus sides maps : List ℕ) → head ++ (claim ++ (modulus ++ (sides ++ maps))) ≡ head ++ claim ++ modulus ++ sides ++ maps
texts_are head claim modulus sides maps =
    sym (append_assoc (head ++ claim ++ modulus) sides maps ∙ append_assoc (head ++ claim) modulus (sides ++ maps) ∙ append_assoc head claim (modulus ++ (sides ++ maps)))

pub model_is_part : (ds : List Declaration) (m : Model) → model_text ds m ≡ part_text ds (other model_head (model_lines ds m))
model_is_part ds m =
    sym (ap (λ body. ended model_head ++ (ended (claim_body m.claim) ++ (ended (modulus_body m.modulus) ++ body)) ++ codes "end\n") (entries_are ds m)
    ∙ ap (λ text. text ++ codes "end\n") (texts_are (ended model_head) (ended (claim_body m.claim)) (ended (modulus_body m.modulus)) (sides_text ds m.sides) (maps_text ds m.maps)))

-- it is a part
modulus_is_body : (n : ℕ) → IsBodyLine (modulus_body n)
modulus_is_body n = record {
  text = line_text-append (codes "modulus ") (decimal n) (literal (codes "modulus ") refl refl) (decimal_is_line n);
  goes_on = begins_no_end (codes "modulus") (tokens_of (decimal n)) refl;
}

-- texts without line ends one after another
each_is_line : (text : ℕ → List ℕ) → ((n : ℕ) → IsLineText (text n)) → (ns : List ℕ) → IsLineText (flat_map text ns)
each_is_line text each [] = nothing_is_line
each_is_line text each (n ∷ ns) = line_text-append (text n) (flat_map text ns) (each n) (each_is_line text each ns)

between_is_line : (sign : List ℕ) (place : ℕ) → IsLineText sign → IsLineText (between sign place)
between_is_line sign place is = either IsLineText (place == 0) [] sign nothing_is_line is

row_is_line : (x : Matrix) (row : ℕ) → IsLineText (row_text x row)
row_is_line x row =
    each_is_line (entry_text x row) (λ column.
    line_text-append (between (codes " ") column) (decimal (entry_at x row column)) (between_is_line (codes " ") column (literal (codes " ") refl refl)) (decimal_is_line (entry_at x row column)))
    (range_with_len 0 x.columns)

rows_are_line : (x : Matrix) → IsLineText (rows_text x)
rows_are_line x =
    each_is_line (row_part x) (λ row. line_text-append (between (codes " ; ") row) (row_text x row) (between_is_line (codes " ; ") row (literal (codes " ; ") refl refl)) (row_is_line x row))
    (range_with_len 0 x.rows)

-- the numbers from 0 on are below their count
below : (n : ℕ) → All (λ v. v < n) (range_with_len 0 n)
below n = λ k d inside.
    let count = length-range_with_len 0 n in
    let within : k < n = omega (arith, inside, count) in
    omega (arith, within, get_or-range_with_len 0 n k d within)

module _ (ds : List Declaration) (declared : IsDeclared ds) (known : IsTrue (list_all is_named ds)) where
  name_is_line : (name : List ℕ) → is_name name ≡ true → IsLineText name
  name_is_line name is = (plain_name name (name_text name is)).line

  side_is_body : (sides : List ℕ) (v : ℕ) → v < object_count ds → IsBodyLine (side_body ds sides v)
  side_is_body sides v there =
      let name = name_is_line (object_name ds v) (object_is_named ds v declared known there).name in
      record {
        text =
            line_text-append _ (decimal (get_or sides v 1))
            (line_text-append _ (codes " ") (line_text-append (codes "side ") (object_name ds v) (literal (codes "side ") refl refl) name) (literal (codes " ") refl refl))
            (decimal_is_line (get_or sides v 1));
        goes_on = begins_no_end (codes "side") (tokens_of (object_name ds v ++ codes " " ++ decimal (get_or sides v 1))) refl;
      }

  map_is_body : (a : ℕ) (x : Matrix) → a < letter_count ds → IsBodyLine (map_body ds a x)
  map_is_body a x there =
      let name = name_is_line (letter_name ds a) (letter_is_spelled ds a declared known there).name in
      record {
        text =
            line_text-append _ (rows_text x)
            (line_text-append _ (codes " = ") (line_text-append (codes "map ") (letter_name ds a) (literal (codes "map ") refl refl) name) (literal (codes " = ") refl refl))
            (rows_are_line x);
        goes_on = begins_no_end (codes "map") (tokens_of (letter_name ds a ++ codes " = " ++ rows_text x)) refl;
      }

  map_bodies_are : (a : ℕ) (x : Option Matrix) → a < letter_count ds → All IsBodyLine (map_bodies ds a x)
  map_bodies_are a None there = All-nil IsBodyLine
  map_bodies_are a (Some x) there = by_name (is_map ds a)
    where
      by_name : (is : Bool) → All IsBodyLine (if is then map_body ds a x ∷ [] else [])
      by_name true = All-cons IsBodyLine (map_body ds a x) [] (map_is_body a x there) (All-nil IsBodyLine)
      by_name false = All-nil IsBodyLine

  all_map_bodies_are : (maps : List (Option Matrix)) (letters : List ℕ) → All (λ a. a < letter_count ds) letters → All IsBodyLine (flat_map (bodies_at ds maps) letters)
  all_map_bodies_are maps [] there = All-nil IsBodyLine
  all_map_bodies_are maps (a ∷ letters) there =
      All-append IsBodyLine (bodies_at ds maps a) (flat_map (bodies_at ds maps) letters) (map_bodies_are a (get_or maps a None) (All-head (λ a. a < letter_count ds) a letters there))
      (all_map_bodies_are maps letters (All-tail (λ a. a < letter_count ds) a letters there))

  pub model_is : (m : Model) → IsPart Lemmas ds (other model_head (model_lines ds m))
  model_is m = (
    literal model_head refl refl,
    refl,
    All-cons IsBodyLine (claim_body m.claim) (modulus_body m.modulus ∷ (side_bodies ds m ++ all_map_bodies ds m)) (claim_is_body m.claim)
        (All-cons IsBodyLine (modulus_body m.modulus) (side_bodies ds m ++ all_map_bodies ds m) (modulus_is_body m.modulus)
        (All-append IsBodyLine (side_bodies ds m) (all_map_bodies ds m)
        (All-map IsBodyLine (side_body ds m.sides) (range_with_len 0 (object_count ds))
        (All-weaker (λ v. v < object_count ds) (λ v. IsBodyLine (side_body ds m.sides v)) (side_is_body m.sides) (range_with_len 0 (object_count ds)) (below (object_count ds))))
        (all_map_bodies_are m.maps (range_with_len 0 (letter_count ds)) (below (letter_count ds))))),
  )
