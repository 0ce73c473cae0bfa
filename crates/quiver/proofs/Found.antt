-- What a name stands for is an object or a letter of the quiver, with this name.
use Rattle.quiver.proofs.Prelude.{◌≡◌, ℕ, zero, suc, ◌+◌, ◌<◌, Bool, true, false, cond, List, [], ◌∷◌, ◌++◌, length, map, get_or, Option, Some, sym, refl, ap, ◌∙◌, arith, subst, lookup, bytes_eq, map-append, length-map, get_or-append-add, bytes_eq-Decides, get_or-append_seam, Named, Declaration, object, arrow, name_of, objects_of, letters_of, object_count, letter_count, named_by, object_table, letter_table, no_object, no_letter, object_at, letter_at, name_at, object_name, letter_name, named_in, IsNamed}
use Rattle.quiver.proofs.Counts.{object_count-append, letter_count-append, length-object_table, length-letter_table}
use Rattle.quiver.proofs.Growth.{turn, names_from, objects_from, letters_from, object_table-append, letter_table-append}

-- a declaration between others
module _ (before : List Declaration) (d : Declaration) (after : List Declaration) where
  pub name_at-split : name_at (before ++ d ∷ after) (length before) ≡ name_of d
  name_at-split =
      ap (λ names. get_or names (length before) []) (map-append name_of before (d ∷ after))
      ∙ ap (λ n. get_or (map name_of before ++ name_of d ∷ map name_of after) n []) (sym (length-map before name_of))
      ∙ get_or-append_seam (map name_of before) (name_of d) (map name_of after) []

  pub object_at-split : (k : ℕ) → object_at (before ++ d ∷ after) (object_count before + k) ≡ get_or (objects_from (length before) (object_count before) (letter_count before) (d ∷ after)) k no_object
  object_at-split k =
      ap (λ table. get_or table (object_count before + k) no_object) (object_table-append before (d ∷ after))
      ∙ ap (λ n. get_or (object_table before ++ objects_from (length before) (object_count before) (letter_count before) (d ∷ after)) (n + k) no_object) (sym (length-object_table before))
      ∙ get_or-append-add (object_table before) (objects_from (length before) (object_count before) (letter_count before) (d ∷ after)) k no_object

  pub letter_at-split : (k : ℕ) → letter_at (before ++ d ∷ after) (letter_count before + k) ≡ get_or (letters_from (length before) (object_count before) (letter_count before) (d ∷ after)) k no_letter
  letter_at-split k =
      ap (λ table. get_or table (letter_count before + k) no_letter) (letter_table-append before (d ∷ after))
      ∙ ap (λ n. get_or (letter_table before ++ letters_from (length before) (object_count before) (letter_count before) (d ∷ after)) (n + k) no_letter) (sym (length-letter_table before))
      ∙ get_or-append-add (letter_table before) (letters_from (length before) (object_count before) (letter_count before) (d ∷ after)) k no_letter

-- an object has the name of its declaration
pub object_name-split : (before : List Declaration) (name : List ℕ) (after : List Declaration) → object_name (before ++ object name ∷ after) (object_count before + 0) ≡ name
object_name-split before name after =
    ap (λ e. name_at (before ++ object name ∷ after) e.declaration) (object_at-split before (object name) after 0) ∙ name_at-split before (object name) after

-- a letter has the name of its declaration
letter_declaration : (before : List Declaration) (d : Declaration) (after : List Declaration) (k : ℕ) → k < letters_of d → (letter_at (before ++ d ∷ after) (letter_count before + k)).declaration ≡ length before
letter_declaration before (object name) after zero below = ap (λ e. e.declaration) (letter_at-split before (object name) after 0)
letter_declaration before (object name) after (suc k) below = absurd (omega arith)
letter_declaration before (arrow name x y true) after zero below = ap (λ e. e.declaration) (letter_at-split before (arrow name x y true) after 0)
letter_declaration before (arrow name x y true) after (suc k) below = absurd (omega arith)
letter_declaration before (arrow name x y false) after zero below = ap (λ e. e.declaration) (letter_at-split before (arrow name x y false) after 0)
letter_declaration before (arrow name x y false) after (suc zero) below = ap (λ e. e.declaration) (letter_at-split before (arrow name x y false) after 1)
letter_declaration before (arrow name x y false) after (suc (suc k)) below = absurd (omega arith)

pub letter_name-split : (before : List Declaration) (d : Declaration) (after : List Declaration) (k : ℕ) → k < letters_of d → letter_name (before ++ d ∷ after) (letter_count before + k) ≡ name_of d
letter_name-split before d after k below = ap (name_at (before ++ d ∷ after)) (letter_declaration before d after k below) ∙ name_at-split before d after

-- the declaration that a look-up finds
pub plus_zero : (n : ℕ) → n ≡ n + 0
plus_zero n = omega arith

plus_turned : (n : ℕ) → 0 + n ≡ n + 0
plus_turned n = omega arith

plus_assoc : (n m k : ℕ) → n + m + k ≡ n + (m + k)
plus_assoc n m k = omega arith

some_is : (x y : Named) → ◌≡◌ {A = Option Named} (Some x) (Some y) → x ≡ y
some_is x y e = cc

pub record FoundAt (test : List ℕ → Bool) (p v a : ℕ) (ds : List Declaration) (named : Named) : Type 0 where
  pub before : List Declaration
  pub found : Declaration
  pub after : List Declaration
  pub whole : ds ≡ before ++ found ∷ after
  pub passes : test (name_of found) ≡ true
  pub named_is : named ≡ named_by found (turn found (p + length before) (v + object_count before) (a + letter_count before))

found_at : (test : List ℕ → Bool) (p v a : ℕ) (ds : List Declaration) (named : Named) → lookup test (names_from p v a ds) ≡ Some named → FoundAt test p v a ds named
found_at test p v a [] named h = absurd (cc)
found_at test p v a (d ∷ ds) named h = go (test (name_of d)) refl h (found_at test (p + 1) (v + objects_of d) (a + letters_of d) ds named)
  where
    go : (b : Bool) → test (name_of d) ≡ b → cond b (Some (named_by d (turn d p v a))) (lookup test (names_from (p + 1) (v + objects_of d) (a + letters_of d) ds)) ≡ Some named
        → (lookup test (names_from (p + 1) (v + objects_of d) (a + letters_of d) ds) ≡ Some named → FoundAt test (p + 1) (v + objects_of d) (a + letters_of d) ds named) → FoundAt test p v a (d ∷ ds) named
    go true passes k rest = record {
      before = [];
      found = d;
      after = ds;
      whole = refl;
      passes = passes;
      named_is = some_is named _ (sym k) ∙ (λ j. named_by d (turn d (plus_zero p j) (plus_zero v j) (plus_zero a j)));
    }
    go false fails k rest =
        let later = rest k in
        let place : p + 1 + length later.before ≡ p + length (d ∷ later.before) = omega arith in
        record {
          before = d ∷ later.before;
          found = later.found;
          after = later.after;
          whole = ap (λ es. d ∷ es) later.whole;
          passes = later.passes;
          named_is = later.named_is ∙ (λ j. named_by later.found (turn later.found (place j)
              (plus_assoc v (objects_of d) (object_count later.before) j) (plus_assoc a (letters_of d) (letter_count later.before) j)));
        }

-- what the name of the declaration stands for
abbrev standing : List Declaration → Declaration → Named
standing before d = named_by d (turn d (0 + length before) (0 + object_count before) (0 + letter_count before))

stands : (before : List Declaration) (d : Declaration) (after : List Declaration) → IsNamed (before ++ d ∷ after) (name_of d) (standing before d)
stands before (object name) after =
    let whole = before ++ object name ∷ after in (
      omega (arith, object_count-append before (object name ∷ after)),
      ap (object_name whole) (plus_turned (object_count before)) ∙ object_name-split before name after,
    )
stands before (arrow name x y selfmade) after =
    let whole = before ++ arrow name x y selfmade ∷ after in (
      omega (arith, letter_count-append before (arrow name x y selfmade ∷ after), some_letter selfmade),
      ap (letter_name whole) (plus_turned (letter_count before)) ∙ letter_name-split before (arrow name x y selfmade) after 0 (some_letter selfmade),
    )
  where
    some_letter : (own : Bool) → 0 < letters_of (arrow name x y own)
    some_letter true = omega arith
    some_letter false = omega arith

pub is_named : (ds : List Declaration) (name : List ℕ) (named : Named) → named_in ds name ≡ Some named → IsNamed ds name named
is_named ds name named h =
    let at = found_at (bytes_eq name) 0 0 0 ds named h in
    let name_is : name ≡ name_of at.found = (bytes_eq-Decides name (name_of at.found)).0 at.passes in
    subst (λ n. IsNamed ds name n) (sym at.named_is)
    (subst (λ n. IsNamed ds n (standing at.before at.found)) (sym name_is)
    (subst (λ es. IsNamed es (name_of at.found) (standing at.before at.found)) (sym at.whole) (stands at.before at.found at.after)))
