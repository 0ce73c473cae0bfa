-- What the name of a letter stands for.
use Rattle.block_text.proofs.Prelude.{◌≡◌, ◌≢◌, ◌<◌, ◌≤◌, ◌+◌, ◌-◌, ℕ, zero, suc, Bool, true, false, nat_eq, nat_lt, List, [], ◌∷◌, ◌++◌, Some, arith, refl, sym, ap, ◌∙◌, subst, length, map, eq-eqb, ltb-true, IsTrue, AllPairs, AllByRecursion, list_all, lookup, bytes_eq, and_parts, ne_eqb, false_from_ne_true, ltb-false, length-map, length-append, bytes_eq-Decides, star, Named, Declaration, object, arrow, name_of, objects_of, letters_of, object_count, letter_count, named_by, letter_at, object_name, letter_name, identity_in, quiver_of, named_in, IsDeclared, letter_count-append, name_at-split, object_at-split, letter_at-split, object_name-split, letter_name-split, plus_zero, turn, names_from, star-quiver_of, is_name, is_named}
use Rattle.block_text.proofs.LettersBack.{Comes}

-- the declaration of a letter
record IsPlaced (ds : List Declaration) (a : ℕ) : Type 0 where
  before : List Declaration
  declared : Declaration
  after : List Declaration
  place : ℕ
  whole : ds ≡ before ++ declared ∷ after
  letter : a ≡ letter_count before + place
  below : place < letters_of declared

placed_by : (d : Declaration) (ds : List Declaration) (a : ℕ) (here : Bool) → nat_lt a (letters_of d) ≡ here → (letters_of d ≤ a → IsPlaced ds (a - letters_of d)) → IsPlaced (d ∷ ds) a
placed_by d ds a true is rest = record {
  before = [];
  declared = d;
  after = ds;
  place = a;
  whole = refl;
  letter = omega arith;
  below = ltb-true a (letters_of d) is;
}
placed_by d ds a false is rest =
    let behind : letters_of d ≤ a = ltb-false a (letters_of d) is in
    let there = rest behind in
    record {
      before = d ∷ there.before;
      declared = there.declared;
      after = there.after;
      place = there.place;
      whole = ap (λ es. d ∷ es) there.whole;
      letter = omega (arith, there.letter, behind);
      below = there.below;
    }

placed : (ds : List Declaration) (a : ℕ) → a < letter_count ds → IsPlaced ds a
placed [] a within = absurd (omega (arith, within))
placed (d ∷ ds) a within = placed_by d ds a _ refl (λ behind. placed ds (a - letters_of d) (omega (arith, within, behind)))

-- what the entry of a letter says of its adjoint
star_by : (before : List Declaration) (d : Declaration) (after : List Declaration) (k : ℕ) → k < letters_of d → (i : ℕ) × (i < letters_of d) × ((letter_at (before ++ d ∷ after) (letter_count before + k)).star ≡ letter_count before + i)
star_by before (object name) after zero below = (0, below, ap (λ e. e.star) (letter_at-split before (object name) after 0) ∙ plus_zero (letter_count before))
star_by before (object name) after (suc k) below = absurd (omega (arith, below))
star_by before (arrow name x y true) after zero below = (0, below, ap (λ e. e.star) (letter_at-split before (arrow name x y true) after 0) ∙ plus_zero (letter_count before))
star_by before (arrow name x y true) after (suc k) below = absurd (omega (arith, below))
star_by before (arrow name x y false) after zero below = (1, omega arith, ap (λ e. e.star) (letter_at-split before (arrow name x y false) after 0))
star_by before (arrow name x y false) after (suc zero) below = (0, omega arith, ap (λ e. e.star) (letter_at-split before (arrow name x y false) after 1) ∙ plus_zero (letter_count before))
star_by before (arrow name x y false) after (suc (suc k)) below = absurd (omega (arith, below))

-- a letter and its adjoint have one name
pub star_name : (ds : List Declaration) (a : ℕ) → a < letter_count ds → letter_name ds (star (quiver_of ds) a) ≡ letter_name ds a
star_name ds a within =
    let there = placed ds a within in
    let whole = there.before ++ there.declared ∷ there.after in
    let other = star_by there.before there.declared there.after there.place there.below in
    let star_is : star (quiver_of ds) a ≡ letter_count there.before + other.0 =
    star-quiver_of ds a within ∙ (λ j. (letter_at (there.whole j) (there.letter j)).star) ∙ other.2 in
    ap (letter_name ds) star_is ∙ ap (λ es. letter_name es (letter_count there.before + other.0)) there.whole
    ∙ letter_name-split there.before there.declared there.after other.0 other.1
    ∙ sym (letter_name-split there.before there.declared there.after there.place there.below)
    ∙ (λ j. letter_name (sym there.whole j) (sym there.letter j))

pub record IsObject (ds : List Declaration) (v : ℕ) : Type 0 where
  pub before : List Declaration
  pub name : List ℕ
  pub after : List Declaration
  pub whole : ds ≡ before ++ object name ∷ after
  pub number : v ≡ object_count before

pub object_placed : (ds : List Declaration) (v : ℕ) → v < object_count ds → IsObject ds v
object_placed [] v within = absurd (omega (arith, within))
object_placed (object name ∷ ds) zero within = record { before = []; name = name; after = ds; whole = refl; number = refl }
object_placed (object name ∷ ds) (suc v) within =
    let there = object_placed ds v (omega (arith, within)) in
    record { before = object name ∷ there.before; name = there.name; after = there.after; whole = ap (λ es. object name ∷ es) there.whole; number = omega (arith, there.number) }
object_placed (arrow name x y selfmade ∷ ds) v within =
    let there = object_placed ds v (omega (arith, within)) in
    record {
      before = arrow name x y selfmade ∷ there.before;
      name = there.name;
      after = there.after;
      whole = ap (λ es. arrow name x y selfmade ∷ es) there.whole;
      number = omega (arith, there.number);
    }

-- an object and its identity have one name
pub identity_name : (ds : List Declaration) (v : ℕ) → v < object_count ds → letter_name ds (identity_in ds v) ≡ object_name ds v
identity_name ds v within =
    let there = object_placed ds v within in
    let whole = there.before ++ object there.name ∷ there.after in
    let identity_is : identity_in whole (object_count there.before + 0) ≡ letter_count there.before + 0 =
    ap (λ e. e.identity) (object_at-split there.before (object there.name) there.after 0) ∙ plus_zero (letter_count there.before) in
    let number : v ≡ object_count there.before + 0 = there.number ∙ plus_zero (object_count there.before) in
    (λ j. letter_name (there.whole j) (identity_in (there.whole j) (number j)))
    ∙ ap (letter_name whole) identity_is ∙ letter_name-split there.before (object there.name) there.after 0 (omega arith)
    ∙ sym (object_name-split there.before there.name there.after)
    ∙ (λ j. object_name (sym there.whole j) (sym number j))

-- the look-up of a name
plus_assoc : (n m k : ℕ) → n + m + k ≡ n + (m + k)
plus_assoc n m k = omega arith

next : (x : List ℕ) (xs : List (List ℕ)) → AllPairs (λ y z. y ≢ z) (x ∷ xs) → AllPairs (λ y z. y ≢ z) xs
next x xs pairs = λ i j d lower within. pairs (suc i) (suc j) d (omega (arith, lower)) (omega (arith, within))

pub apart : (before : List Declaration) (d : Declaration) (after : List Declaration) → AllPairs (λ x y. x ≢ y) (map name_of (before ++ d ∷ after)) → AllByRecursion (λ e. name_of e ≢ name_of d) before
apart [] d after pairs = tt
apart (e ∷ before) d after pairs =
    let within : suc (length before) < length (name_of e ∷ map name_of (before ++ d ∷ after)) = grind (arith, length-map (before ++ d ∷ after) name_of, length-append before (d ∷ after)) in
    (λ same. pairs 0 (suc (length before)) [] (omega arith) within (same ∙ sym (name_at-split before d after)), apart before d after (next (name_of e) (map name_of (before ++ d ∷ after)) pairs))

pub found : (p v a : ℕ) (before : List Declaration) (d : Declaration) (after : List Declaration) → AllByRecursion (λ e. name_of e ≢ name_of d) before
    → lookup (bytes_eq (name_of d)) (names_from p v a (before ++ d ∷ after)) ≡ Some (named_by d (turn d (p + length before) (v + object_count before) (a + letter_count before)))
found p v a [] d after others =
    let same : bytes_eq (name_of d) (name_of d) ≡ true = (bytes_eq-Decides (name_of d) (name_of d)).1 refl in
    rw same (λ j. Some (named_by d (turn d (plus_zero p j) (plus_zero v j) (plus_zero a j))))
found p v a (e ∷ before) d after others =
    let other : bytes_eq (name_of d) (name_of e) ≡ false = false_from_ne_true _ (λ yes. others.0 (sym ((bytes_eq-Decides (name_of d) (name_of e)).0 yes))) in
    let place : p + 1 + length before ≡ p + length (e ∷ before) = omega arith in
    rw other (found (p + 1) (v + objects_of e) (a + letters_of e) before d after others.1
    ∙ (λ j. Some (named_by d (turn d (place j) (plus_assoc v (objects_of e) (object_count before) j) (plus_assoc a (letters_of e) (letter_count before) j)))))

-- what a letter comes from
abbrev standing : List Declaration → Declaration → Named
standing before d = named_by d (turn d (0 + length before) (0 + object_count before) (0 + letter_count before))

own : (n : ℕ) {P : Type 0} → nat_eq (n + 0) (0 + n) ≡ false → P
own n other = absurd (let same : nat_eq (n + 0) (0 + n) ≡ true = eq-eqb (n + 0) (0 + n) (omega arith) in cc)

comes_by : (before : List Declaration) (d : Declaration) (after : List Declaration) (k : ℕ) → k < letters_of d → Comes (before ++ d ∷ after) (letter_count before + k) (Some (standing before d))
comes_by before (object name) after zero below =
    let turned : 0 + object_count before ≡ object_count before + 0 = omega arith in
    ap (identity_in (before ++ object name ∷ after)) turned ∙ ap (λ e. e.identity) (object_at-split before (object name) after 0) ∙ plus_zero (letter_count before)
comes_by before (object name) after (suc k) below = absurd (omega (arith, below))
comes_by before (arrow name x y true) after zero below = (λ same. omega arith, λ other. own (letter_count before) other)
comes_by before (arrow name x y true) after (suc k) below = absurd (omega (arith, below))
comes_by before (arrow name x y false) after zero below = (λ same. omega arith, λ other. own (letter_count before) other)
comes_by before (arrow name x y false) after (suc zero) below =
    let whole = before ++ arrow name x y false ∷ after in
    let turned : 0 + letter_count before ≡ letter_count before + 0 = omega arith in
    let within : letter_count before + 0 < letter_count whole = omega (arith, letter_count-append before (arrow name x y false ∷ after)) in (
      λ same. absurd (let other : nat_eq (letter_count before + 1) (0 + letter_count before) ≡ false = ne_eqb (letter_count before + 1) (0 + letter_count before) (λ e. omega (arith, e)) in cc),
      λ other. ap (star (quiver_of whole)) turned ∙ star-quiver_of whole (letter_count before + 0) within ∙ ap (λ e. e.star) (letter_at-split before (arrow name x y false) after 0),
    )
comes_by before (arrow name x y false) after (suc (suc k)) below = absurd (omega (arith, below))

-- the name of a letter is a name, and the letter comes from what it stands for
pub record IsSpelled (ds : List Declaration) (a : ℕ) : Type 0 where
  pub name : is_name (letter_name ds a) ≡ true
  pub comes : Comes ds a (named_in ds (letter_name ds a))

pub named_between : (before : List Declaration) (d : Declaration) (after : List Declaration) → IsTrue (list_all is_named (before ++ d ∷ after)) → is_name (name_of d) ≡ true
named_between [] d after names = (and_parts (is_named d) (list_all is_named after) names).0
named_between (e ∷ before) d after names = named_between before d after (and_parts (is_named e) (list_all is_named (before ++ d ∷ after)) names).1

spelled_by_place : (before : List Declaration) (d : Declaration) (after : List Declaration) (k : ℕ) → k < letters_of d → AllPairs (λ x y. x ≢ y) (map name_of (before ++ d ∷ after))
    → IsTrue (list_all is_named (before ++ d ∷ after)) → IsSpelled (before ++ d ∷ after) (letter_count before + k)
spelled_by_place before d after k below pairs names =
    let name = letter_name-split before d after k below in
    record {
      name = rw name (named_between before d after names);
      comes = rw (name, found 0 0 0 before d after (apart before d after pairs)) (comes_by before d after k below);
    }

pub letter_is_spelled : (ds : List Declaration) (a : ℕ) → IsDeclared ds → IsTrue (list_all is_named ds) → a < letter_count ds → IsSpelled ds a
letter_is_spelled ds a declared names within =
    let there = placed ds a within in
    subst (IsSpelled ds) (sym there.letter)
    (subst (λ (es : List Declaration). IsSpelled es (letter_count there.before + there.place)) (sym there.whole)
    (spelled_by_place there.before there.declared there.after there.place there.below
    (subst (λ (es : List Declaration). AllPairs (λ x y. x ≢ y) (map name_of es)) there.whole declared.distinct)
    (subst (λ (es : List Declaration). IsTrue (list_all is_named es)) there.whole names)))
