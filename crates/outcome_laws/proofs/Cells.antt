-- Each ambiguity has a place in the square over its overlap word, and no two ambiguities of rules with distinct leading words have the same.
use Rattle.outcome_laws.proofs.Prelude.{◌≡◌, ◌≢◌, true, ℕ, ◌+◌, ◌-◌, ◌≤◌, ◌<◌, suc, refl, arith, subst, sym, ap, ◌∙◌, List, ◌∷◌, ◌++◌, map, length, take, drop, Some, append_assoc, length-append, length-map, take_at, drop_at, Word, word_eq, OccursAt, OverlapsAt, Rule, rule_at, Kind, Overlap, Inclusion, Ambiguity, MeetsAs, IsAmbiguity, lead_at, joined_word, overlap_word_of, lead_at-is, overlap_word-is, short_ambiguities, AllPairs, Contains, length-le_from_is_member, IsDistinct-from_AllPairs, list_any-from_Contains, Contains-from_any, word_eq-same, word_eq-true, word_eq_equivalence, pairs-map}
use Rattle.outcome_laws.proofs.Listed.{value_of}
use Rattle.outcome_laws.proofs.Squares.{AllIn, places, length_places, contains_places}

-- An overlap is above the diagonal: its row is the length of the first word, its column the place. An inclusion is not: its
-- row is the place, its column that of the last letter of the second word.
abbrev row_of : Kind → Word → ℕ → ℕ
row_of Overlap p place = length p
row_of Inclusion p place = place

abbrev column_of : Kind → Word → ℕ → ℕ
column_of Overlap q place = place
column_of Inclusion q place = (place + length q) - 1

-- row, column and overlap word determine the kind, the words and the place
data Cell (kind : Kind) (p q : Word) (place : ℕ) (w : Word) (x y : ℕ) : Type 0 where
  of_overlap : kind ≡ Overlap → p ≡ take x w → q ≡ drop y w → place ≡ y → y < x → x < length w → Cell kind p q place w x y
  of_inclusion : kind ≡ Inclusion → p ≡ w → q ≡ take (suc y - x) (drop x w) → place ≡ x → x ≤ y → y < length w → Cell kind p q place w x y

overlap_cell : (p q : Word) (place : ℕ) (w : Word) → OverlapsAt p q place → w ≡ take place p ++ q → Cell Overlap p q place w (length p) place
overlap_cell p q place w o is = of_overlap refl first second refl (omega (arith, left_length, o.at_place, o.shared_letters)) (omega (arith, left_length, whole_length, o.after_letters))
  where
    front : w ≡ o.before ++ q
    front = is ∙ ap (λ u. u ++ q) (ap (take place) o.left_splits ∙ take_at o.before o.shared place o.at_place)

    whole : w ≡ p ++ o.after
    whole = front ∙ ap (λ u. o.before ++ u) o.right_splits ∙ sym (append_assoc o.before o.shared o.after) ∙ ap (λ u. u ++ o.after) (sym o.left_splits)

    first : p ≡ take (length p) w
    first = sym (ap (take (length p)) whole ∙ take_at p o.after (length p) refl)

    second : q ≡ drop place w
    second = sym (ap (drop place) front ∙ drop_at o.before q place o.at_place)

    left_length : length p ≡ length o.before + length o.shared
    left_length = ap length o.left_splits ∙ length-append o.before o.shared

    whole_length : length w ≡ length p + length o.after
    whole_length = ap length whole ∙ length-append p o.after

inclusion_cell : (p q : Word) (place : ℕ) (w : Word) → 0 < length q → OccursAt p q place → w ≡ p → Cell Inclusion p q place w place ((place + length q) - 1)
inclusion_cell p q place w some o is = of_inclusion refl (sym is) second refl (omega (arith, some)) (omega (arith, some, whole_length, o.at_place))
  where
    whole : w ≡ o.before ++ (q ++ o.after)
    whole = is ∙ o.splits

    count : suc ((place + length q) - 1) - place ≡ length q
    count = omega (arith, some)

    second : q ≡ take (suc ((place + length q) - 1) - place) (drop place w)
    second = sym (ap (λ n. take n (drop place w)) count ∙ ap (take (length q)) (ap (drop place) whole ∙ drop_at o.before (q ++ o.after) place o.at_place) ∙ take_at q o.after (length q) refl)

    whole_length : length w ≡ length o.before + (length q + length o.after)
    whole_length = ap length whole ∙ length-append o.before (q ++ o.after) ∙ ap (λ n. length o.before + n) (length-append q o.after)

cell_of : (kind : Kind) (i j : ℕ) (p q : Word) (place : ℕ) (w : Word) → 0 < length q → MeetsAs kind i j p q place → w ≡ joined_word kind p q place → Cell kind p q place w (row_of kind p place) (column_of kind q place)
cell_of Overlap i j p q place w some meets is = overlap_cell p q place w meets is
cell_of Inclusion i j p q place w some meets is = inclusion_cell p q place w some meets.1 is

in_square : (kind : Kind) (p q : Word) (place : ℕ) (w : Word) (x y : ℕ) → Cell kind p q place w x y → (x < length w) × (y < length w)
in_square kind p q place w x y (of_overlap k e1 e2 e3 above inside) = (inside, omega arith)
in_square kind p q place w x y (of_inclusion k e1 e2 e3 above inside) = (omega arith, inside)

record AreSame (k k' : Kind) (p p' q q' : Word) (n n' : ℕ) : Type 0 where
  kind : k ≡ k'
  first : p ≡ p'
  second : q ≡ q'
  place : n ≡ n'

same_from_cell : (k k' : Kind) (p p' q q' : Word) (n n' : ℕ) (w : Word) (x y : ℕ) → Cell k p q n w x y → Cell k' p' q' n' w x y → AreSame k k' p p' q q' n n'
same_from_cell k k' p p' q q' n n' w x y (of_overlap e1 e2 e3 e4 above inside) (of_overlap f1 f2 f3 f4 above' inside') = record { kind = e1 ∙ sym f1; first = e2 ∙ sym f2; second = e3 ∙ sym f3; place = e4 ∙ sym f4 }
same_from_cell k k' p p' q q' n n' w x y (of_overlap e1 e2 e3 e4 above inside) (of_inclusion f1 f2 f3 f4 below inside') = absurd (omega arith)
same_from_cell k k' p p' q q' n n' w x y (of_inclusion e1 e2 e3 e4 below inside) (of_overlap f1 f2 f3 f4 above inside') = absurd (omega arith)
same_from_cell k k' p p' q q' n n' w x y (of_inclusion e1 e2 e3 e4 below inside) (of_inclusion f1 f2 f3 f4 below' inside') = record { kind = e1 ∙ sym f1; first = e2 ∙ sym f2; second = e3 ∙ sym f3; place = e4 ∙ sym f4 }

-- Distinct words of a list are no more than its places.
pigeonhole : (xs ys : List Word) → AllPairs (λ v w. v ≢ w) xs → ((w : Word) → Contains xs w → Contains ys w) → length xs ≤ length ys
pigeonhole xs ys distinct inside =
    length-le_from_is_member word_eq_equivalence xs ys
    (IsDistinct-from_AllPairs (λ v w. (word_eq-true v w, λ same. subst (λ u. word_eq v u ≡ true) same (word_eq-same v))) xs distinct)
    (λ w found. list_any-from_Contains word_eq_equivalence w ys (inside w (Contains-from_any word_eq-true w xs found)))

-- No leading word is empty, and no two are the same.
pub record HaveDistinctLeads (rules : List Rule) : Type 0 where
  pub nonempty : (n : ℕ) (g : Rule) → rule_at rules n ≡ Some g → 0 < length g.lead
  pub distinct : (i j : ℕ) (g h : Rule) → rule_at rules i ≡ Some g → rule_at rules j ≡ Some h → g.lead ≡ h.lead → i ≡ j

-- an ambiguity whose overlap word has letters from the list and at most a number of them
pub record IsShort (rules : List Rule) (letters : List ℕ) (most : ℕ) (a : Ambiguity) : Type 0 where
  pub is : IsAmbiguity rules a
  pub in_letters : AllIn letters (overlap_word_of rules a)
  pub short : length (overlap_word_of rules a) ≤ most

module _ (rules : List Rule) (leads : HaveDistinctLeads rules) where
  abbrev row : Ambiguity → ℕ
  row a = row_of a.kind (lead_at rules a.i) a.place

  abbrev column : Ambiguity → ℕ
  column a = column_of a.kind (lead_at rules a.j) a.place

  abbrev place_of : Ambiguity → Word
  place_of a = row a ∷ column a ∷ overlap_word_of rules a

  cell : (a : Ambiguity) (is : IsAmbiguity rules a) → Cell a.kind is.first.lead is.second.lead a.place (overlap_word_of rules a) (row a) (column a)
  cell a is =
      subst (λ x. Cell a.kind is.first.lead is.second.lead a.place (overlap_word_of rules a) x (column a)) (ap (λ p. row_of a.kind p a.place) (sym (lead_at-is rules a.i is.first is.first_numbered)))
      (subst (λ y. Cell a.kind is.first.lead is.second.lead a.place (overlap_word_of rules a) (row_of a.kind is.first.lead a.place) y) (ap (λ q. column_of a.kind q a.place) (sym (lead_at-is rules a.j is.second is.second_numbered)))
      (cell_of a.kind a.i a.j is.first.lead is.second.lead a.place (overlap_word_of rules a) (leads.nonempty a.j is.second is.second_numbered) is.meets (overlap_word-is rules a is)))

  same_place : (a b : Ambiguity) → IsAmbiguity rules a → IsAmbiguity rules b → place_of a ≡ place_of b → a ≡ b
  same_place a b is other e =
      let there : Cell b.kind other.first.lead other.second.lead b.place (overlap_word_of rules a) (row a) (column a) = moved (cell b other) in
      let same = same_from_cell a.kind b.kind is.first.lead other.first.lead is.second.lead other.second.lead a.place b.place (overlap_word_of rules a) (row a) (column a) (cell a is) there in
      let first = leads.distinct a.i b.i is.first other.first is.first_numbered other.first_numbered same.first in
      let second = leads.distinct a.j b.j is.second other.second is.second_numbered other.second_numbered same.second in
      (λ n. record { i = first n; j = second n; kind = same.kind n; place = same.place n })
    where
      rows : row a ≡ row b
      rows = cc

      columns : column a ≡ column b
      columns = cc

      words : overlap_word_of rules a ≡ overlap_word_of rules b
      words = cc

      moved : Cell b.kind other.first.lead other.second.lead b.place (overlap_word_of rules b) (row b) (column b) → Cell b.kind other.first.lead other.second.lead b.place (overlap_word_of rules a) (row a) (column a)
      moved c =
          subst (λ x. Cell b.kind other.first.lead other.second.lead b.place (overlap_word_of rules a) x (column a)) (sym rows)
          (subst (λ y. Cell b.kind other.first.lead other.second.lead b.place (overlap_word_of rules a) (row b) y) (sym columns)
          (subst (λ w. Cell b.kind other.first.lead other.second.lead b.place w (row b) (column b)) (sym words) c))

  module _ (letters : List ℕ) (most : ℕ) where
    place_among : (a : Ambiguity) → IsShort rules letters most a → Contains (places letters most) (place_of a)
    place_among a s =
        let inside = in_square a.kind s.is.first.lead s.is.second.lead a.place (overlap_word_of rules a) (row a) (column a) (cell a s.is) in
        contains_places letters most (overlap_word_of rules a) (row a) (column a) s.in_letters s.short inside.0 inside.1

    -- pairwise distinct ambiguities with short overlap words are no more than the places
    pub short_are_few : (xs : List Ambiguity) → AllPairs (λ a b. a ≢ b) xs → ((a : Ambiguity) → Contains xs a → IsShort rules letters most a)
        → length xs ≤ short_ambiguities (length letters) most
    short_are_few xs distinct short =
        omega (
          arith,
          length-map xs place_of,
          length_places letters most,
          pigeonhole (map place_of xs) (places letters most)
              (pairs-map place_of (λ w. record { i = 0; j = 0; kind = Overlap; place = 0 }) (λ a b. a ≢ b) (λ v w. v ≢ w) xs
              (λ a b m n apart e. apart (same_place a b (short a m).is (short b n).is e)) distinct)
              (λ w m. let v = value_of place_of xs w m in subst (Contains (places letters most)) (sym v.is) (place_among v.argument (short v.argument v.listed))),
        )
