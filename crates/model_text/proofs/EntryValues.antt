-- What a line `side` or `map` says, and the bounds that it keeps.
use Rattle.model_text.proofs.Prelude.{◌≡◌, ◌<◌, ◌≤◌, ◌-◌, ℕ, Bool, true, false, ◌&&◌, List, [], ◌∷◌, ◌++◌, Option, Some, None, Result, arith, refl, sym, ap, ap₂, ◌∙◌, length, map, nat_le, All, AllZip, flat_map, range_with_len, and_parts, nat_tests, All-nil, All-cons, All-head, All-tail, All-append, All-replicate, Named, Object, Map, Declaration, named_in, object_count, letter_count, Flaw, Line, Entry, EntryTokens, side, matrix, side_limit, Bound, names, numbers, sizes, bounds, flaw_of, value_of, matrix_value, side_of, matrix_of, ModelTokens, model_value, HasName, IsBelow, IsSmall, KeepsEntry, SaysEntry, entry_kind, values_below, entry_value, side_in, matrix_in, sides_in, maps_in, model_of, IsJudged, fine, fails}
use Rattle.model_text.specs.declared.place.Entry.TheVariants as entry
use Rattle.block_text.proofs.Bounds as listed
use Rattle.model_text.proofs.Values.{are_values}

-- the bounds that are tested before it
abbrev pub before : Bound → List Bound
before bound = listed.before flaw_of bounds bound

-- the line says this, where all bounds are kept; or one is the first that is passed
abbrev pub IsJudgedIn : List Declaration → ℕ → EntryTokens → Result Entry Flaw → Type 0
IsJudgedIn ds m e r = IsJudged flaw_of bounds (entry_kind ds m) e r

-- the numbers of a matrix
values_there : (m : ℕ) (ts : Line) → 1 ≤ m → All (λ t. value_of t < m) ts → values_below m ts ≡ Some (map value_of ts)
values_there m [] some below = refl
values_there m (t ∷ ts) some below =
    let within : value_of t < m = All-head (λ k. value_of k < m) t ts below in
    let here : nat_le (value_of t) (m - 1) ≡ true = grind (arith, nat_tests, within, some) in
    rw (here, values_there m ts some (All-tail (λ k. value_of k < m) t ts below)) refl

all_parts : {X : Type 0} (P : X → Type 0) (xs ys : List X) → All P (xs ++ ys) → All P xs × All P ys
all_parts P [] ys each = (All-nil P, each)
all_parts P (x ∷ xs) ys each =
    let rest = all_parts P xs ys (All-tail P x (xs ++ ys) each) in
    (All-cons P x xs (All-head P x (xs ++ ys) each) rest.0, rest.1)

module _ (P : List ℕ → Type 0) where
  pub flat_from : (rows : List Line) → All (λ row. All P row) rows → All P (flat_map (λ row. row) rows)
  flat_from [] each = All-nil P
  flat_from (row ∷ rows) each = All-append P row (flat_map (λ r. r) rows) (All-head (λ r. All P r) row rows each) (flat_from rows (All-tail (λ r. All P r) row rows each))

  pub flat_to : (rows : List Line) → All P (flat_map (λ row. row) rows) → All (λ row. All P row) rows
  flat_to [] each = All-nil (λ row. All P row)
  flat_to (row ∷ rows) each =
      let parts = all_parts P row (flat_map (λ r. r) rows) each in
      All-cons (λ r. All P r) row rows parts.0 (flat_to rows parts.1)

-- the bounds
module _ (ds : List Declaration) (m : ℕ) where
  keeps_all : (e : EntryTokens) → HasName ds e → IsBelow m e → IsSmall e → (bound : Bound) → KeepsEntry ds m bound e
  keeps_all e name below small names = name
  keeps_all e name below small numbers = below
  keeps_all e name below small sizes = small

  side_judged : (name number : List ℕ) (named : Option Named) (small : Bool) → named_in ds name ≡ named → nat_le (value_of number) side_limit ≡ small → IsJudgedIn ds m (side name number) (entry_value ds m (side name number))
  side_judged name number None small named_is small_is = fails names (rw named_is refl) (All-nil (λ k. KeepsEntry ds m k (side name number))) (λ known. let is = known.1 in absurd (cc))
  side_judged name number (Some (Map a)) small named_is small_is = fails names (rw named_is refl) (All-nil (λ k. KeepsEntry ds m k (side name number))) (λ known. let is = known.1 in absurd (cc))
  side_judged name number (Some (Object v)) true named_is small_is =
      fine (entry.Side v (value_of number)) (rw (named_is, small_is) refl) (keeps_all (side name number) (v, named_is) tt (grind (arith, nat_tests, small_is))) (v, named_is, refl)
  side_judged name number (Some (Object v)) false named_is small_is =
      fails sizes (rw (named_is, small_is) refl) (All-cons (λ k. KeepsEntry ds m k (side name number)) names (numbers ∷ []) (v, named_is) (All-replicate (λ k. KeepsEntry ds m k (side name number)) 1 numbers tt))
      (λ within. grind (arith, nat_tests, small_is, within))

  module _ (some : 1 ≤ m) (name : List ℕ) (first : Line) (rest : List Line) where
    abbrev flat : Line
    flat = flat_map (λ row. row) (first ∷ rest)

    abbrev Kept : Bound → Type 0
    Kept bound = KeepsEntry ds m bound (matrix name first rest)

    abbrev is_small : Bool
    is_small = nat_le (length (first ∷ rest)) side_limit && nat_le (length first) side_limit

    map_judged : (named : Option Named) (values : Option (List ℕ)) (small : Bool) → named_in ds name ≡ named → values_below m flat ≡ values → is_small ≡ small
        → IsJudgedIn ds m (matrix name first rest) (entry_value ds m (matrix name first rest))
    map_judged None values small named_is values_is small_is = fails names (rw named_is refl) (All-nil (λ k. KeepsEntry ds m k (matrix name first rest))) (λ known. let is = known.1 in absurd (cc))
    map_judged (Some (Object v)) values small named_is values_is small_is =
        fails names (rw named_is refl) (All-nil (λ k. KeepsEntry ds m k (matrix name first rest))) (λ known. let is = known.1 in absurd (cc))
    map_judged (Some (Map a)) None small named_is values_is small_is =
        fails numbers (rw (named_is, values_is) refl) (All-replicate Kept 1 names (a, named_is))
        (λ below. let there = values_there m flat some (flat_from (λ t. value_of t < m) (first ∷ rest) below) in absurd (cc))
    map_judged (Some (Map a)) (Some vs) true named_is values_is small_is =
        let found = are_values m flat vs some values_is in
        let below : IsBelow m (matrix name first rest) = flat_to (λ t. value_of t < m) (first ∷ rest) found.numbers_below in
        let parts = and_parts (nat_le (length (first ∷ rest)) side_limit) (nat_le (length first) side_limit) small_is in
        fine (entry.Map a (record { modulus = m; rows = length (first ∷ rest); columns = length first; entries = vs })) (rw (named_is, values_is, small_is) refl)
        (keeps_all (matrix name first rest) (a, named_is) below (grind (arith, nat_tests, parts.0), grind (arith, nat_tests, parts.1)))
        (a, named_is, ap (λ ns. entry.Map a (record { modulus = m; rows = length (first ∷ rest); columns = length first; entries = ns })) (sym found.are))
    map_judged (Some (Map a)) (Some vs) false named_is values_is small_is =
        let found = are_values m flat vs some values_is in
        let below : IsBelow m (matrix name first rest) = flat_to (λ t. value_of t < m) (first ∷ rest) found.numbers_below in
        fails sizes (rw (named_is, values_is, small_is) refl) (All-cons Kept names (numbers ∷ []) (a, named_is) (All-replicate Kept 1 numbers below))
        (λ small.
        let tall : nat_le (length (first ∷ rest)) side_limit ≡ true = grind (arith, nat_tests, small.0) in
        let wide : nat_le (length first) side_limit ≡ true = grind (arith, nat_tests, small.1) in
        let both : is_small ≡ true = rw (tall, wide) refl in absurd (cc))

  pub entry_judged : (e : EntryTokens) → 1 ≤ m → IsJudgedIn ds m e (entry_value ds m e)
  entry_judged (side name number) some = side_judged name number (named_in ds name) (nat_le (value_of number) side_limit) refl refl
  entry_judged (matrix name first rest) some = map_judged some name first rest (named_in ds name) (values_below m (flat_map (λ row. row) (first ∷ rest))) (is_small some name first rest) refl refl refl

  -- it says one thing
  pub says_once : (e : EntryTokens) (v w : Entry) → SaysEntry ds m e v → SaysEntry ds m e w → v ≡ w
  says_once (side name number) v w one two =
      let named = sym one.1 ∙ two.1 in
      let same : one.0 ≡ two.0 = cc in one.2 ∙ ap (λ o. entry.Side o (value_of number)) same ∙ sym two.2
  says_once (matrix name first rest) v w one two =
      let named = sym one.1 ∙ two.1 in
      let same : one.0 ≡ two.0 = cc in one.2 ∙ ap (λ a. entry.Map a (matrix_value m first rest)) same ∙ sym two.2

  side_in-values : (es : List EntryTokens) (values : List Entry) (v : ℕ) → AllZip (SaysEntry ds m) es values → side_in values v ≡ side_of ds es v
  side_in-values [] [] v each = refl
  side_in-values [] (value ∷ values) v each = absurd each
  side_in-values (e ∷ es) [] v each = absurd each
  side_in-values (side name number ∷ es) (value ∷ values) v each = let one = each.0 in rw (one.2, one.1, side_in-values es values v each.1) refl
  side_in-values (matrix name first rest ∷ es) (value ∷ values) v each = let one = each.0 in rw one.2 (side_in-values es values v each.1)

  matrix_in-values : (es : List EntryTokens) (values : List Entry) (a : ℕ) → AllZip (SaysEntry ds m) es values → matrix_in values a ≡ matrix_of ds m es a
  matrix_in-values [] [] a each = refl
  matrix_in-values [] (value ∷ values) a each = absurd each
  matrix_in-values (e ∷ es) [] a each = absurd each
  matrix_in-values (side name number ∷ es) (value ∷ values) a each = let one = each.0 in rw one.2 (matrix_in-values es values a each.1)
  matrix_in-values (matrix name first rest ∷ es) (value ∷ values) a each = let one = each.0 in rw (one.2, one.1, matrix_in-values es values a each.1) refl

map_agree : {A B : Type 0} (f g : A → B) → ((x : A) → f x ≡ g x) → (xs : List A) → map f xs ≡ map g xs
map_agree f g same [] = refl
map_agree f g same (x ∷ xs) = ap₂ (λ y ys. y ∷ ys) (same x) (map_agree f g same xs)

-- the values of the lines make the model that the tokens say
pub model_is : (ds : List Declaration) (b : ModelTokens) (v : ℕ × (ℕ × List Entry)) → value_of b.0 ≡ v.0 → value_of b.1.0 ≡ v.1.0 → AllZip (SaysEntry ds (value_of b.1.0)) b.1.1 v.1.1 → model_of ds v ≡ model_value ds b
model_is ds b v claim modulus each =
    let sides : sides_in ds v.1.1 ≡ map (side_of ds b.1.1) (range_with_len 0 (object_count ds)) =
    map_agree (side_in v.1.1) (side_of ds b.1.1) (λ k. side_in-values ds (value_of b.1.0) b.1.1 v.1.1 k each) (range_with_len 0 (object_count ds)) in
    let maps : maps_in ds v.1.1 ≡ map (matrix_of ds (value_of b.1.0) b.1.1) (range_with_len 0 (letter_count ds)) =
    map_agree (matrix_in v.1.1) (matrix_of ds (value_of b.1.0) b.1.1) (λ a. matrix_in-values ds (value_of b.1.0) b.1.1 v.1.1 a each) (range_with_len 0 (letter_count ds)) in
    λ j. record { claim = sym claim j; modulus = sym modulus j; sides = sides j; maps = maps j }
