-- The declarations that names stand for.
use Rattle.statement_names.proofs.Prelude.{◌≡◌, ℕ, zero, suc, ◌+◌, ◌<◌, ◌≤◌, Bool, true, false, cond, if◌then◌else◌, nat_eq, List, [], ◌∷◌, ◌++◌, length, Option, Some, refl, ap, sym, subst, ◌∙◌, arith, lookup, option_or, bytes_eq, nat_tests, Decides-eqb, Letter, Named, named, star, Declaration, object, arrow, letters_of, object_count, letter_count, named_in, naming_table, letter_at, object_name, letter_name, quiver_of, letter_count-append, plus_zero, letter_at-split, object_name-split, letter_name-split, names_from, naming_table-append, star-quiver_of, letter_number, letter, with_star}
use Rattle.statement_names.proofs.Apart.{Apart, own_bytes}
use Rattle.statement_names.proofs.Each.{Each}
use Rattle.statement_names.proofs.Fresh.{fresh_name}
use Rattle.statement_names.proofs.KindsFound.{same_bytes, lookup-append}
use Rattle.statement_names.proofs.NamedKinds.{kinds}

-- an object by its number
pub record ObjectAt (ds : List Declaration) (v : ℕ) : Type 0 where
  pub before : List Declaration
  pub name : List ℕ
  pub after : List Declaration
  pub whole : ds ≡ before ++ object name ∷ after
  pub number : v ≡ object_count before

pub object_split : (ds : List Declaration) (v : ℕ) → v < object_count ds → ObjectAt ds v
object_split [] v below = absurd (omega arith)
object_split (object name ∷ ds) zero below = record { before = []; name = name; after = ds; whole = refl; number = refl }
object_split (object name ∷ ds) (suc v) below =
    let shorter : v < object_count ds = omega arith in
    let later = object_split ds v shorter in
    let next : suc v ≡ 1 + object_count later.before = omega (arith, later.number) in
    record { before = object name ∷ later.before; name = later.name; after = later.after; whole = ap (λ es. object name ∷ es) later.whole; number = next }
object_split (arrow name x y selfmade ∷ ds) v below =
    let shorter : v < object_count ds = omega arith in
    let later = object_split ds v shorter in
    let next : v ≡ 0 + object_count later.before = omega (arith, later.number) in
    record { before = arrow name x y selfmade ∷ later.before; name = later.name; after = later.after; whole = ap (λ es. arrow name x y selfmade ∷ es) later.whole; number = next }

-- its name stands for it
named_in-split : (before : List Declaration) (name : List ℕ) (after : List Declaration) → Apart (kinds (before ++ object name ∷ after))
    → named_in (before ++ object name ∷ after) name ≡ Some (named.Object (record { 0 = object_count before }))
named_in-split before name after apart =
    ap (lookup (bytes_eq name)) (naming_table-append before (object name ∷ after))
    ∙ lookup-append (bytes_eq name) (naming_table before) _
    ∙ ap (λ found. option_or found (lookup (bytes_eq name) (names_from (length before) (object_count before) (letter_count before) (object name ∷ after)))) (fresh_name before (object name) after apart)
    ∙ ap (λ b. cond b (Some (named.Object (record { 0 = object_count before }))) (lookup (bytes_eq name) (names_from (length before + 1) (object_count before + 1) (letter_count before + 1) after))) (own_bytes name)

pub named_object : (ds : List Declaration) → Apart (kinds ds) → (v : ℕ) → v < object_count ds → named_in ds (object_name ds v) ≡ Some (named.Object (record { 0 = v }))
named_object ds apart v below =
    let at = object_split ds v below in
    let split = at.before ++ object at.name ∷ at.after in
    subst (λ es. named_in es (object_name es v) ≡ Some (named.Object (record { 0 = v }))) (sym at.whole)
    (subst (λ n. named_in split (object_name split n) ≡ Some (named.Object (record { 0 = n }))) (sym at.number)
    (ap (named_in split) (ap (object_name split) (plus_zero (object_count at.before)) ∙ object_name-split at.before at.name at.after)
    ∙ named_in-split at.before at.name at.after (subst (λ es. Apart (kinds es)) at.whole apart)))

-- a map by its name, where letters are numbered from this on
pub record MapAt (l : ℕ) (ds : List Declaration) (q : List ℕ) (a : ℕ) : Type 0 where
  pub before : List Declaration
  pub source : ℕ
  pub target : ℕ
  pub selfmade : Bool
  pub after : List Declaration
  pub whole : ds ≡ before ++ arrow q source target selfmade ∷ after
  pub number : a ≡ l + letter_count before

map_behind : (d : Declaration) (l : ℕ) (ds : List Declaration) (q : List ℕ) (a : ℕ) → MapAt (l + letters_of d) ds q a → MapAt l (d ∷ ds) q a
map_behind d l ds q a m =
    let next : a ≡ l + (letters_of d + letter_count m.before) = omega (arith, m.number) in
    record { before = d ∷ m.before; source = m.source; target = m.target; selfmade = m.selfmade; after = m.after; whole = ap (λ es. d ∷ es) m.whole; number = next }

same_letter : (l a : ℕ) → ◌≡◌ {A = Option Named} (Some (named.Map (record { 0 = l }))) (Some (named.Map (record { 0 = a }))) → a ≡ l
same_letter l a e = sym (ap letter_number e)

map_found : (p v l : ℕ) (ds : List Declaration) (q : List ℕ) (a : ℕ) → lookup (bytes_eq q) (names_from p v l ds) ≡ Some (named.Map (record { 0 = a })) → MapAt l ds q a
map_found p v l [] q a h = absurd (cc)
map_found p v l (object name ∷ ds) q a h = go (bytes_eq q name) h (map_found (p + 1) (v + 1) (l + 1) ds q a)
  where
    go : (b : Bool) → cond b (Some (named.Object (record { 0 = v }))) (lookup (bytes_eq q) (names_from (p + 1) (v + 1) (l + 1) ds)) ≡ Some (named.Map (record { 0 = a }))
        → (lookup (bytes_eq q) (names_from (p + 1) (v + 1) (l + 1) ds) ≡ Some (named.Map (record { 0 = a })) → MapAt (l + 1) ds q a) → MapAt l (object name ∷ ds) q a
    go true e rest = absurd (cc)
    go false e rest = map_behind (object name) l ds q a (rest e)
map_found p v l (arrow name x y own ∷ ds) q a h = go (bytes_eq q name) refl h (map_found (p + 1) (v + 0) (l + letters_of (arrow name x y own)) ds q a)
  where
    go : (b : Bool) → bytes_eq q name ≡ b → cond b (Some (named.Map (record { 0 = l }))) (lookup (bytes_eq q) (names_from (p + 1) (v + 0) (l + letters_of (arrow name x y own)) ds)) ≡ Some (named.Map (record { 0 = a }))
        → (lookup (bytes_eq q) (names_from (p + 1) (v + 0) (l + letters_of (arrow name x y own)) ds) ≡ Some (named.Map (record { 0 = a })) → MapAt (l + letters_of (arrow name x y own)) ds q a)
        → MapAt l (arrow name x y own ∷ ds) q a
    go true is e rest =
        let first : a ≡ l + 0 = same_letter l a e ∙ plus_zero l in
        record { before = []; source = x; target = y; selfmade = own; after = ds; whole = ap (λ n. arrow n x y own ∷ ds) (sym (same_bytes q name is)); number = first }
    go false is e rest = map_behind (arrow name x y own) l ds q a (rest e)

pub map_split : (ds : List Declaration) (q : List ℕ) (a : ℕ) → named_in ds q ≡ Some (named.Map (record { 0 = a })) → MapAt 0 ds q a
map_split ds q a h = map_found 0 0 0 ds q a h

-- a map that is its own adjoint has one letter, and else two
abbrev pub letters_from_number : Bool → ℕ → List Letter
letters_from_number true a = letter a ∷ []
letters_from_number false a = letter a ∷ letter (a + 1) ∷ []

some_letter : (q : List ℕ) (u v : ℕ) (own : Bool) → 1 ≤ letters_of (arrow q u v own)
some_letter q u v true = omega arith
some_letter q u v false = omega arith

module _ (before : List Declaration) (q : List ℕ) (u v : ℕ) (after : List Declaration) where
  letter_in_range : (own : Bool) (k : ℕ) → k < letters_of (arrow q u v own) → letter_count before + k < letter_count (before ++ arrow q u v own ∷ after)
  letter_in_range own k below = omega (arith, letter_count-append before (arrow q u v own ∷ after))

  star-split : (own : Bool) → star (quiver_of (before ++ arrow q u v own ∷ after)) (letter_count before) ≡ (if own then letter_count before else letter_count before + 1)
  star-split own =
      let ds = before ++ arrow q u v own ∷ after in
      let below : letter_count before < letter_count ds = subst (λ n. n < letter_count ds) (sym (plus_zero (letter_count before))) (letter_in_range own 0 (some_letter q u v own)) in
      star-quiver_of ds (letter_count before) below ∙ ap (λ n. (letter_at ds n).star) (plus_zero (letter_count before)) ∙ entry own
    where
      entry : (own : Bool) → (letter_at (before ++ arrow q u v own ∷ after) (letter_count before + 0)).star ≡ (if own then letter_count before else letter_count before + 1)
      entry true = ap (λ e. e.star) (letter_at-split before (arrow q u v true) after 0)
      entry false = ap (λ e. e.star) (letter_at-split before (arrow q u v false) after 0)

  with_star-split : (own : Bool) → with_star (before ++ arrow q u v own ∷ after) (letter_count before) ≡ letters_from_number own (letter_count before)
  with_star-split true =
      ap (λ s. if nat_eq s (letter_count before) then letter (letter_count before) ∷ [] else letter (letter_count before) ∷ letter s ∷ []) (star-split true)
      ∙ ap (λ b. if b then letter (letter_count before) ∷ [] else letter (letter_count before) ∷ letter (letter_count before) ∷ []) ((Decides-eqb (letter_count before) (letter_count before)).1 refl)
  with_star-split false =
      let other : nat_eq (letter_count before + 1) (letter_count before) ≡ false = grind (arith, nat_tests) in
      ap (λ s. if nat_eq s (letter_count before) then letter (letter_count before) ∷ [] else letter (letter_count before) ∷ letter s ∷ []) (star-split false)
      ∙ ap (λ b. if b then letter (letter_count before) ∷ [] else letter (letter_count before) ∷ letter (letter_count before + 1) ∷ []) other

-- a letter of the map with this name
pub record IsLetterOf (ds : List Declaration) (q : List ℕ) (a : ℕ) : Type 0 where
  pub in_range : a < letter_count ds
  pub named : letter_name ds a ≡ q

first_letters : (before : List Declaration) (q : List ℕ) (u v : ℕ) (own : Bool) (after : List Declaration) → Each (λ l. IsLetterOf (before ++ arrow q u v own ∷ after) q l.0) (letters_from_number own (letter_count before))
first_letters before q u v true after =
    let ds = before ++ arrow q u v true ∷ after in (
      subst (IsLetterOf ds q) (sym (plus_zero (letter_count before)))
          (record { in_range = letter_in_range before q u v after true 0 (omega arith); named = letter_name-split before (arrow q u v true) after 0 (omega arith) }),
      tt,
    )
first_letters before q u v false after =
    let ds = before ++ arrow q u v false ∷ after in (
      subst (IsLetterOf ds q) (sym (plus_zero (letter_count before)))
          (record { in_range = letter_in_range before q u v after false 0 (omega arith); named = letter_name-split before (arrow q u v false) after 0 (omega arith) }),
      (record { in_range = letter_in_range before q u v after false 1 (omega arith); named = letter_name-split before (arrow q u v false) after 1 (omega arith) }, tt),
    )

-- what the letter is that the name of a map stands for
pub record HasLetters (ds : List Declaration) (q : List ℕ) (a : ℕ) : Type 0 where
  pub selfmade : Bool
  pub letters_are : with_star ds a ≡ letters_from_number selfmade a
  pub each_letter : Each (λ l. IsLetterOf ds q l.0) (letters_from_number selfmade a)
  pub star_is : star (quiver_of ds) a ≡ (if selfmade then a else a + 1)

pub map_letters : (ds : List Declaration) (q : List ℕ) (a : ℕ) → named_in ds q ≡ Some (named.Map (record { 0 = a })) → HasLetters ds q a
map_letters ds q a h =
    let m = map_split ds q a h in
    let number : a ≡ letter_count m.before = omega (arith, m.number) in
    subst (HasLetters ds q) (sym number)
    (subst (λ es. HasLetters es q (letter_count m.before)) (sym m.whole)
    (record {
      selfmade = m.selfmade;
      letters_are = with_star-split m.before q m.source m.target m.after m.selfmade;
      each_letter = first_letters m.before q m.source m.target m.selfmade m.after;
      star_is = star-split m.before q m.source m.target m.after m.selfmade;
    }))
