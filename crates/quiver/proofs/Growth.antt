-- The tables after one declaration more, and the declarations that the tables give back.
use Rattle.std.proofs.Common.{◌≡◌, ℕ, ◌+◌, true, false, nat_eq, List, [], ◌∷◌, ◌++◌, length, map, sym, refl, ap, ap₂, ◌∙◌, arith, eq-eqb, Bool, rules}
use Rattle.std.proofs.Math.Seq.{get_or-append_seam}
use Rattle.std.proofs.lemmas.Grind.{flat_map-append}
use Rattle.std.proofs.lemmas.List.{map-append, append-nil, append_assoc, length-append}
use Rattle.std.specs.List.{flat_map}
use Rattle.quiver.specs.Declarations.{Declaration, object, arrow, name_of, objects_of, letters_of, object_count, letter_count, Turn, turns_from, turns, named_by, objects_made, letters_made, ObjectEntry, LetterEntry, object_table, letter_table, naming_table}
use Rattle.quiver.specs.Tables.{letter_in, declarations_by}
use Rattle.quiver.specs.declared.named.Named.{Named}

-- the turn of a declaration at these numbers
abbrev pub turn : Declaration → ℕ → ℕ → ℕ → Turn
turn d p v a = record { declared = d; place = p; object = v; letter = a }

-- the turn of the declaration after these
abbrev pub next_turn : List Declaration → Declaration → Turn
next_turn ds d = turn d (length ds) (object_count ds) (letter_count ds)

-- the tables from these numbers on
abbrev pub objects_from : ℕ → ℕ → ℕ → List Declaration → List ObjectEntry
objects_from p v a ds = flat_map (λ t. objects_made t.declared t) (turns_from p v a ds)

abbrev pub letters_from : ℕ → ℕ → ℕ → List Declaration → List LetterEntry
letters_from p v a ds = flat_map (λ t. letters_made t.declared t) (turns_from p v a ds)

abbrev pub names_from : ℕ → ℕ → ℕ → List Declaration → List (List ℕ × Named)
names_from p v a ds = map (λ t. (name_of t.declared, named_by t.declared t)) (turns_from p v a ds)

turns_from-append : (p v a : ℕ) (xs ys : List Declaration)
    → turns_from p v a (xs ++ ys) ≡ turns_from p v a xs ++ turns_from (p + length xs) (v + object_count xs) (a + letter_count xs) ys
turns_from-append p v a [] ys =
    let place : p ≡ p + 0 = omega arith in
    let object_is : v ≡ v + 0 = omega arith in
    let letter : a ≡ a + 0 = omega arith in
    λ j. turns_from (place j) (object_is j) (letter j) ys
turns_from-append p v a (d ∷ xs) ys =
    let place : p + 1 + length xs ≡ p + length (d ∷ xs) = omega arith in
    let object_is : v + objects_of d + object_count xs ≡ v + object_count (d ∷ xs) = omega arith in
    let letter : a + letters_of d + letter_count xs ≡ a + letter_count (d ∷ xs) = omega arith in
    ap (λ ts. turn d p v a ∷ ts)
    (turns_from-append (p + 1) (v + objects_of d) (a + letters_of d) xs ys
    ∙ (λ j. turns_from (p + 1) (v + objects_of d) (a + letters_of d) xs ++ turns_from (place j) (object_is j) (letter j) ys))

-- declarations after others
module _ (xs ys : List Declaration) where
  turns-append : turns (xs ++ ys) ≡ turns xs ++ turns_from (length xs) (object_count xs) (letter_count xs) ys
  turns-append =
      let place : 0 + length xs ≡ length xs = omega arith in
      let object_is : 0 + object_count xs ≡ object_count xs = omega arith in
      let letter : 0 + letter_count xs ≡ letter_count xs = omega arith in
      turns_from-append 0 0 0 xs ys ∙ (λ j. turns xs ++ turns_from (place j) (object_is j) (letter j) ys)

  pub object_table-append : object_table (xs ++ ys) ≡ object_table xs ++ objects_from (length xs) (object_count xs) (letter_count xs) ys
  object_table-append = ap (flat_map (λ t. objects_made t.declared t)) turns-append ∙ flat_map-append (λ t. objects_made t.declared t) (turns xs) _

  pub letter_table-append : letter_table (xs ++ ys) ≡ letter_table xs ++ letters_from (length xs) (object_count xs) (letter_count xs) ys
  letter_table-append = ap (flat_map (λ t. letters_made t.declared t)) turns-append ∙ flat_map-append (λ t. letters_made t.declared t) (turns xs) _

  pub naming_table-append : naming_table (xs ++ ys) ≡ naming_table xs ++ names_from (length xs) (object_count xs) (letter_count xs) ys
  naming_table-append =
      ap (map (λ t. (name_of t.declared, named_by t.declared t))) turns-append
      ∙ map-append (λ t. (name_of t.declared, named_by t.declared t)) (turns xs) _

-- one declaration more
module _ (ds : List Declaration) (d : Declaration) where
  pub object_table-more : object_table (ds ++ d ∷ []) ≡ object_table ds ++ objects_made d (next_turn ds d)
  object_table-more = object_table-append ds (d ∷ []) ∙ ap (λ more. object_table ds ++ more) (append-nil _)

  pub letter_table-more : letter_table (ds ++ d ∷ []) ≡ letter_table ds ++ letters_made d (next_turn ds d)
  letter_table-more = letter_table-append ds (d ∷ []) ∙ ap (λ more. letter_table ds ++ more) (append-nil _)

-- the entry at its number, after those before it
pub letter_in_seam : (before after : List LetterEntry) (a : ℕ) (e : LetterEntry) → length before ≡ a → letter_in (before ++ e ∷ after) a ≡ e
letter_in_seam before after a e at = ap (letter_in (before ++ e ∷ after)) (sym at) ∙ get_or-append_seam before e after _

-- a letter is its own adjoint where its number is that of its entry
own_adjoint : (a : ℕ) → nat_eq a a ≡ true
own_adjoint a = eq-eqb a a refl

other_adjoint : (a : ℕ) → nat_eq (a + 1) a ≡ false
other_adjoint a = search (arith, rules)

-- a map is given back by its entry
arrow_is : (e f : LetterEntry) (name : List ℕ) (a : ℕ) (selfmade : Bool) → e ≡ f → nat_eq f.star a ≡ selfmade
    → arrow name e.source e.target (nat_eq e.star a) ≡ arrow name f.source f.target selfmade
arrow_is e f name a selfmade entry own = ap (λ x. arrow name x.source x.target (nat_eq x.star a)) entry ∙ ap (arrow name f.source f.target) own

-- the entries of the first declaration go before those of the rest
regroup : (before block rest : List LetterEntry) (names : List (List ℕ × Named)) (ds : List Declaration)
    → declarations_by ((before ++ block) ++ rest) names ≡ ds → declarations_by (before ++ (block ++ rest)) names ≡ ds
regroup before block rest names ds given_back = ap (λ letters. declarations_by letters names) (sym (append_assoc before block rest)) ∙ given_back

pub longer : (before block : List LetterEntry) (a : ℕ) → length before ≡ a → length (before ++ block) ≡ a + length block
longer before block a at = length-append before block ∙ ap (λ n. n + length block) at

recovered : (p v a : ℕ) (before : List LetterEntry) (ds : List Declaration) → length before ≡ a
    → declarations_by (before ++ letters_from p v a ds) (names_from p v a ds) ≡ ds
recovered p v a before [] at = refl
recovered p v a before (object name ∷ ds) at =
    let block : List LetterEntry = record { source = v; target = v; star = a; declaration = p } ∷ [] in
    ap (λ rest. object name ∷ rest)
    (regroup before block (letters_from (p + 1) (v + 1) (a + 1) ds) (names_from (p + 1) (v + 1) (a + 1) ds) ds
    (recovered (p + 1) (v + 1) (a + 1) (before ++ block) ds (longer before block a at)))
recovered p v a before (arrow name x y true ∷ ds) at =
    let e : LetterEntry = record { source = x; target = y; star = a; declaration = p } in
    let rest = letters_from (p + 1) (v + 0) (a + 1) ds in
    ap₂ (λ d others. d ∷ others)
    (arrow_is _ e name a true (letter_in_seam before rest a e at) (own_adjoint a))
    (regroup before (e ∷ []) rest (names_from (p + 1) (v + 0) (a + 1) ds) ds
    (recovered (p + 1) (v + 0) (a + 1) (before ++ e ∷ []) ds (longer before (e ∷ []) a at)))
recovered p v a before (arrow name x y false ∷ ds) at =
    let e : LetterEntry = record { source = x; target = y; star = a + 1; declaration = p } in
    let adjoint : LetterEntry = record { source = y; target = x; star = a; declaration = p } in
    let rest = letters_from (p + 1) (v + 0) (a + 2) ds in
    ap₂ (λ d others. d ∷ others)
    (arrow_is _ e name a false (letter_in_seam before (adjoint ∷ rest) a e at) (other_adjoint a))
    (regroup before (e ∷ adjoint ∷ []) rest (names_from (p + 1) (v + 0) (a + 2) ds) ds
    (recovered (p + 1) (v + 0) (a + 2) (before ++ e ∷ adjoint ∷ []) ds (longer before (e ∷ adjoint ∷ []) a at)))

pub declarations_by-tables : (ds : List Declaration) → declarations_by (letter_table ds) (naming_table ds) ≡ ds
declarations_by-tables ds = recovered 0 0 0 [] ds refl
