-- What the declarations of a quiver say of each letter, and that they declare a quiver.
use Rattle.std.proofs.Common.{◌≡◌, ℕ, ◌+◌, ◌<◌, ◌≤◌, Bool, true, false, nat_eq, nat_lt, ◌&&◌, ◌||◌, not, List, [], ◌∷◌, ◌++◌, length, sym, refl, ap, subst, ◌∙◌, arith, ltb-true, eqb-true, ⊎_elim}
use Rattle.std.proofs.Math.ListN.{get_or-map as get_or-map_default}
use Rattle.std.proofs.Math.Nat.{eq-or-lt_of_le}
use Rattle.std.proofs.lemmas.Bool.{and_parts}
use Rattle.std.proofs.lemmas.List.{append_assoc, get_or-map}
use Rattle.std.specs.List.{list_all}
use Rattle.definitions.specs.Quiver.{source, target, star}
use Rattle.quiver.specs.Declarations.{Declaration, object, arrow, object_count, letter_count, LetterEntry, letter_table, no_letter, letter_at, quiver_of, has_ends, IsDeclared}
use Rattle.quiver.specs.Tables.{letter_in}
use Rattle.quiver.proofs.Counts.{length-letter_table}
use Rattle.quiver.proofs.Growth.{letters_from, letter_in_seam, longer}

-- The ends of the letter k are among the first n objects, and its adjoint is a letter with the ends exchanged.
pub record IsLetter (n : ℕ) (table : List LetterEntry) (k : ℕ) : Type 0 where
  pub source_is_object : (letter_in table k).source < n
  pub target_is_object : (letter_in table k).target < n
  pub star_is_letter : (letter_in table k).star < length table
  pub star_star : (letter_in table (letter_in table k).star).star ≡ k
  pub star_source : (letter_in table (letter_in table k).star).source ≡ (letter_in table k).target
  pub star_target : (letter_in table (letter_in table k).star).target ≡ (letter_in table k).source

-- two letters that are adjoint to one another: they may be the same
letter_of_pair : (n : ℕ) (table : List LetterEntry) (k m : ℕ) (e f : LetterEntry)
    → letter_in table k ≡ e → letter_in table m ≡ f → e.star ≡ m → f.star ≡ k → f.source ≡ e.target → f.target ≡ e.source
    → e.source < n → e.target < n → m < length table → IsLetter n table k
letter_of_pair n table k m e f at_k at_m star_k star_m source target source_in target_in m_in =
    let adjoint : letter_in table (letter_in table k).star ≡ f = ap (λ x. letter_in table x.star) at_k ∙ ap (letter_in table) star_k ∙ at_m in
    record {
      source_is_object = rw at_k source_in;
      target_is_object = rw at_k target_in;
      star_is_letter = rw (at_k, star_k) m_in;
      star_star = ap (λ x. x.star) adjoint ∙ star_m;
      star_source = ap (λ x. x.source) adjoint ∙ source ∙ ap (λ x. x.target) (sym at_k);
      star_target = ap (λ x. x.target) adjoint ∙ target ∙ ap (λ x. x.source) (sym at_k);
    }

-- the ends of a map
pub record HasEnds (n u v : ℕ) (selfmade : Bool) : Type 0 where
  pub source : u < n
  pub target : v < n
  pub square : (not selfmade || nat_eq u v) ≡ true

pub ends_of : (n : ℕ) (name : List ℕ) (u v : ℕ) (selfmade : Bool) → has_ends n (arrow name u v selfmade) ≡ true → HasEnds n u v selfmade
ends_of n name u v selfmade h =
    let first = and_parts (nat_lt u n) (nat_lt v n && (not selfmade || nat_eq u v)) h in
    let second = and_parts (nat_lt v n) (not selfmade || nat_eq u v) first.1 in
    record { source = ltb-true u n first.0; target = ltb-true v n second.0; square = second.1 }

-- the letters of the declarations ds, whose entries follow others in the table
letters_are : (n p v a : ℕ) (table before : List LetterEntry) (ds : List Declaration)
    → length before ≡ a → table ≡ before ++ letters_from p v a ds → a + letter_count ds ≡ length table → v + object_count ds ≤ n → list_all (has_ends n) ds ≡ true
    → (k : ℕ) → a ≤ k → k < length table → IsLetter n table k
letters_are n p v a table before [] at table_is whole few ends k from to = absurd (omega arith)
letters_are n p v a table before (object name ∷ ds) at table_is whole few ends k from to =
    let e : LetterEntry = record { source = v; target = v; star = a; declaration = p } in
    let at_a : letter_in table a ≡ e = ap (λ t. letter_in t a) table_is ∙ letter_in_seam before (letters_from (p + 1) (v + 1) (a + 1) ds) a e at in
    ⊎_elim
    (λ first. subst (IsLetter n table) first (letter_of_pair n table a a e e at_a at_a refl refl refl refl (omega arith) (omega arith) (omega arith)))
    (λ later. letters_are n (p + 1) (v + 1) (a + 1) table (before ++ e ∷ []) ds (longer before (e ∷ []) a at)
    (table_is ∙ sym (append_assoc before (e ∷ []) (letters_from (p + 1) (v + 1) (a + 1) ds))) (omega arith) (omega arith) ends k (omega arith) to)
    (eq-or-lt_of_le from)
letters_are n p v a table before (arrow name x y true ∷ ds) at table_is whole few ends k from to =
    let e : LetterEntry = record { source = x; target = y; star = a; declaration = p } in
    let rest = letters_from (p + 1) (v + 0) (a + 1) ds in
    let at_a : letter_in table a ≡ e = ap (λ t. letter_in t a) table_is ∙ letter_in_seam before rest a e at in
    let both = and_parts (has_ends n (arrow name x y true)) (list_all (has_ends n) ds) ends in
    let own = ends_of n name x y true both.0 in
    let square = eqb-true x y own.square in
    ⊎_elim
    (λ first. subst (IsLetter n table) first (letter_of_pair n table a a e e at_a at_a refl refl square (sym square) own.source own.target (omega arith)))
    (λ later. letters_are n (p + 1) (v + 0) (a + 1) table (before ++ e ∷ []) ds (longer before (e ∷ []) a at)
    (table_is ∙ sym (append_assoc before (e ∷ []) rest)) (omega arith) (omega arith) both.1 k (omega arith) to)
    (eq-or-lt_of_le from)
letters_are n p v a table before (arrow name x y false ∷ ds) at table_is whole few ends k from to =
    let e : LetterEntry = record { source = x; target = y; star = a + 1; declaration = p } in
    let adjoint : LetterEntry = record { source = y; target = x; star = a; declaration = p } in
    let rest = letters_from (p + 1) (v + 0) (a + 2) ds in
    let at_a : letter_in table a ≡ e = ap (λ t. letter_in t a) table_is ∙ letter_in_seam before (adjoint ∷ rest) a e at in
    let next_is : table ≡ (before ++ e ∷ []) ++ adjoint ∷ rest = table_is ∙ sym (append_assoc before (e ∷ []) (adjoint ∷ rest)) in
    let at_next : letter_in table (a + 1) ≡ adjoint = ap (λ t. letter_in t (a + 1)) next_is ∙ letter_in_seam (before ++ e ∷ []) rest (a + 1) adjoint (longer before (e ∷ []) a at) in
    let both = and_parts (has_ends n (arrow name x y false)) (list_all (has_ends n) ds) ends in
    let own = ends_of n name x y false both.0 in
    ⊎_elim
    (λ first. subst (IsLetter n table) first (letter_of_pair n table a (a + 1) e adjoint at_a at_next refl refl refl refl own.source own.target (omega arith)))
    (λ later. ⊎_elim
    (λ second. subst (IsLetter n table) second (letter_of_pair n table (a + 1) a adjoint e at_next at_a refl refl refl refl own.target own.source (omega arith)))
    (λ last. letters_are n (p + 1) (v + 0) (a + 2) table (before ++ e ∷ adjoint ∷ []) ds (longer before (e ∷ adjoint ∷ []) a at)
    (table_is ∙ sym (append_assoc before (e ∷ adjoint ∷ []) rest)) (omega arith) (omega arith) both.1 k (omega arith) to)
    (eq-or-lt_of_le (next_le a k later)))
    (eq-or-lt_of_le from)
  where
    next_le : (a k : ℕ) → a < k → a + 1 ≤ k
    next_le a k h = omega arith

module _ (ds : List Declaration) where
  -- the entries are the ends and the adjoint in the quiver
  pub source-quiver_of : (a : ℕ) → source (quiver_of ds) a ≡ (letter_at ds a).source
  source-quiver_of a = ap (λ (x : ℕ × ℕ). x.0) (get_or-map_default (λ (e : LetterEntry). (e.source, e.target)) (letter_table ds) a no_letter)

  pub target-quiver_of : (a : ℕ) → target (quiver_of ds) a ≡ (letter_at ds a).target
  target-quiver_of a = ap (λ (x : ℕ × ℕ). x.1) (get_or-map_default (λ (e : LetterEntry). (e.source, e.target)) (letter_table ds) a no_letter)

  pub star-quiver_of : (a : ℕ) → a < letter_count ds → star (quiver_of ds) a ≡ (letter_at ds a).star
  star-quiver_of a in_range = get_or-map (λ (e : LetterEntry). e.star) (letter_table ds) a no_letter a (rw (length-letter_table ds) in_range)

  pub in_range_from_table : (a : ℕ) → a < length (letter_table ds) → a < letter_count ds
  in_range_from_table a h = subst (λ n. a < n) (length-letter_table ds) h

  pub letter_is : IsDeclared ds → (a : ℕ) → a < letter_count ds → IsLetter (object_count ds) (letter_table ds) a
  letter_is declared a in_range =
      letters_are (object_count ds) 0 0 0 (letter_table ds) [] ds refl refl (omega (arith, length-letter_table ds)) (omega arith) declared.ends a (omega arith) (omega (arith, length-letter_table ds, in_range))
