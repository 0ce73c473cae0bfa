-- The identities of the objects, and the quiver that is declared where the objects come first.
use Rattle.std.proofs.Common.{◌≡◌, ℕ, zero, suc, ◌+◌, ◌<◌, true, List, [], ◌∷◌, ◌++◌, length, get_or, sym, refl, ap, subst, ◌∙◌, arith}
use Rattle.std.proofs.lemmas.List.{append_assoc, length-map}
use Rattle.std.specs.List.{list_all}
use Rattle.definitions.specs.Quiver.{IsQuiver, letters, star}
use Rattle.quiver.specs.Declarations.{Declaration, object, arrow, letters_of, object_count, letter_count, ObjectEntry, LetterEntry, letter_table, no_object, letter_at, quiver_of, is_arrow, objects_first, ObjectsFirst, identity_in, IsDeclared}
use Rattle.quiver.specs.Tables.{letter_in}
use Rattle.quiver.proofs.Counts.{letters-quiver_of}
use Rattle.quiver.proofs.Growth.{objects_from, letters_from, letter_in_seam, longer}
use Rattle.quiver.proofs.Letters.{IsLetter, letter_is, in_range_from_table, source-quiver_of, target-quiver_of, star-quiver_of}

-- each identity is one of the letters
identity_below : (p v a : ℕ) (ds : List Declaration) (k : ℕ) → k < object_count ds → (get_or (objects_from p v a ds) k no_object).identity < a + letter_count ds
identity_below p v a [] k below = absurd (omega arith)
identity_below p v a (object name ∷ ds) zero below = omega arith
identity_below p v a (object name ∷ ds) (suc k) below = omega (arith, identity_below (p + 1) (v + 1) (a + 1) ds k (omega arith))
identity_below p v a (arrow name x y selfmade ∷ ds) k below =
    let n = letters_of (arrow name x y selfmade) in omega (arith, identity_below (p + 1) (v + 0) (a + n) ds k (omega arith))

no_objects : (ds : List Declaration) → list_all is_arrow ds ≡ true → object_count ds ≡ 0
no_objects [] maps = refl
no_objects (object name ∷ ds) maps = absurd (cc)
no_objects (arrow name x y selfmade ∷ ds) maps = omega (arith, no_objects ds maps)

-- the entries of an identity and of its object
abbrev identity_entry : ℕ → ℕ → ℕ → LetterEntry
identity_entry v a p = record { source = v; target = v; star = a; declaration = p }

abbrev entry_of_object : ℕ → ℕ → ObjectEntry
entry_of_object a p = record { identity = a; declaration = p }

plus_zero : (n : ℕ) → n ≡ n + 0
plus_zero n = omega arith

zero_plus : (n : ℕ) → 0 + n ≡ n
zero_plus n = omega arith

plus_suc : (n k : ℕ) → n + 1 + k ≡ n + suc k
plus_suc n k = omega arith

-- objects that are declared before all maps are numbered one after another, and so are their identities
identities_are : (p v a : ℕ) (table before : List LetterEntry) (ds : List Declaration)
    → length before ≡ a → table ≡ before ++ letters_from p v a ds → objects_first ds ≡ true
    → (k : ℕ) → k < object_count ds → letter_in table (a + k) ≡ identity_entry (v + k) (a + k) (p + k)
identities_are p v a table before [] at table_is first k below = absurd (omega arith)
identities_are p v a table before (object name ∷ ds) at table_is first zero below =
    ap (letter_in table) (sym (plus_zero a))
    ∙ ap (λ t. letter_in t a) table_is
    ∙ letter_in_seam before (letters_from (p + 1) (v + 1) (a + 1) ds) a (identity_entry v a p) at
    ∙ (λ j. identity_entry (plus_zero v j) (plus_zero a j) (plus_zero p j))
identities_are p v a table before (object name ∷ ds) at table_is first (suc k) below =
    let e = identity_entry v a p in
    ap (letter_in table) (sym (plus_suc a k))
    ∙ identities_are (p + 1) (v + 1) (a + 1) table (before ++ e ∷ []) ds (longer before (e ∷ []) a at)
    (table_is ∙ sym (append_assoc before (e ∷ []) (letters_from (p + 1) (v + 1) (a + 1) ds))) first k (omega arith)
    ∙ (λ j. identity_entry (plus_suc v k j) (plus_suc a k j) (plus_suc p k j))
identities_are p v a table before (arrow name x y selfmade ∷ ds) at table_is first k below =
    let none = no_objects ds first in absurd (omega arith)

objects_are : (p v a : ℕ) (ds : List Declaration) → objects_first ds ≡ true
    → (k : ℕ) → k < object_count ds → get_or (objects_from p v a ds) k no_object ≡ entry_of_object (a + k) (p + k)
objects_are p v a [] first k below = absurd (omega arith)
objects_are p v a (object name ∷ ds) first zero below = λ j. entry_of_object (plus_zero a j) (plus_zero p j)
objects_are p v a (object name ∷ ds) first (suc k) below =
    objects_are (p + 1) (v + 1) (a + 1) ds first k (omega arith) ∙ (λ j. entry_of_object (plus_suc a k j) (plus_suc p k j))
objects_are p v a (arrow name x y selfmade ∷ ds) first k below =
    let none = no_objects ds first in absurd (omega arith)

module _ (ds : List Declaration) where
  pub identity_in_range : (v : ℕ) → v < object_count ds → identity_in ds v < letter_count ds
  identity_in_range v below = omega (arith, identity_below 0 0 0 ds v below)

  module _ (first : ObjectsFirst ds) (v : ℕ) (below : v < object_count ds) where
    -- the identity of the object v is the letter v
    pub identity_is : identity_in ds v ≡ v
    identity_is = ap (λ e. e.identity) (objects_are 0 0 0 ds first v below) ∙ zero_plus v

    identity_letter : letter_at ds v ≡ identity_entry v v v
    identity_letter =
        ap (letter_in (letter_table ds)) (sym (zero_plus v))
        ∙ identities_are 0 0 0 (letter_table ds) [] ds refl refl first v below
        ∙ ap (λ n. identity_entry n n n) (zero_plus v)

  -- Declarations with the objects first declare a quiver.
  module _ (declared : IsDeclared ds) (first : ObjectsFirst ds) where
    in_table : (a : ℕ) → a < letters (quiver_of ds) → a < letter_count ds
    in_table a h = subst (λ n. a < n) (letters-quiver_of ds) h

    letter : (a : ℕ) → a < letters (quiver_of ds) → IsLetter (object_count ds) (letter_table ds) a
    letter a h = letter_is ds declared a (in_table a h)

    identity : (v : ℕ) → v < object_count ds → v < letter_count ds
    identity v below = subst (λ a. a < letter_count ds) (identity_is first v below) (identity_in_range v below)

    star_entry : (a : ℕ) → a < letters (quiver_of ds) → star (quiver_of ds) a ≡ (letter_at ds a).star
    star_entry a h = star-quiver_of ds a (in_table a h)

    star_in_range : (a : ℕ) → a < letters (quiver_of ds) → star (quiver_of ds) a < letters (quiver_of ds)
    star_in_range a h =
        let below = in_range_from_table ds (letter_at ds a).star (letter a h).star_is_letter in
        subst (λ n. star (quiver_of ds) a < n) (sym (letters-quiver_of ds)) (subst (λ b. b < letter_count ds) (sym (star_entry a h)) below)

    pub is_quiver : IsQuiver (quiver_of ds)
    is_quiver = record {
      source_is_object = λ a h. subst (λ x. x < object_count ds) (sym (source-quiver_of ds a)) (letter a h).source_is_object;
      target_is_object = λ a h. subst (λ x. x < object_count ds) (sym (target-quiver_of ds a)) (letter a h).target_is_object;
      identity_is_letter = λ v below. subst (λ n. v < n) (sym (letters-quiver_of ds)) (identity v below);
      identity_source = λ v below. source-quiver_of ds v ∙ ap (λ e. e.source) (identity_letter first v below);
      identity_target = λ v below. target-quiver_of ds v ∙ ap (λ e. e.target) (identity_letter first v below);
      identity_star = λ v below. star-quiver_of ds v (identity v below) ∙ ap (λ e. e.star) (identity_letter first v below);
      star_of_each = length-map _ _ ∙ sym (length-map _ _);
      star_is_letter = star_in_range;
      star_star = λ a h. star_entry (star (quiver_of ds) a) (star_in_range a h) ∙ ap (λ b. (letter_at ds b).star) (star_entry a h) ∙ (letter a h).star_star;
      star_source = λ a h. source-quiver_of ds (star (quiver_of ds) a) ∙ ap (λ b. (letter_at ds b).source) (star_entry a h) ∙ (letter a h).star_source ∙ sym (target-quiver_of ds a);
      star_target = λ a h. target-quiver_of ds (star (quiver_of ds) a) ∙ ap (λ b. (letter_at ds b).target) (star_entry a h) ∙ (letter a h).star_target ∙ sym (source-quiver_of ds a);
    }
