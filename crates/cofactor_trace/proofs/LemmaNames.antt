-- Lemmas name earlier lemmas, and the generators that the records name.
use Rattle.cofactor_trace.proofs.Prelude.{◌≡◌, ℕ, suc, ◌+◌, ◌-◌, ◌≤◌, List, [], ◌∷◌, ◌++◌, map, length, Some, sym, refl, subst, ◌∙◌, append_assoc, arith, append-nil, length-append, length-map, All-nil, All-cons, All-head, All-tail, slice_get_within, get_or_from_slice_get, All, AllByRecursion, slice_get, Row, Made, LemmaRow, LemmaCertificate, Replacement, IsUpTo, NamesUpTo, IsRecord, AreRecords, Numbered, naming_of, direct_of, lemma_rules, lemma_records, lemma_row, lemma_of, IsWithin, NamesWithin, NameEarlier, LemmasAreNamed}
use Rattle.cofactor_trace.proofs.LemmaLaws.{target_names}
use Rattle.cofactor_trace.proofs.LemmaSources.{direct_is, number_positive, number_within, IsKnown, by_source, lemma_knows, target_knows, IsEntry, lemma_entries}
use Rattle.cofactor_trace.proofs.GatheredParts.{parts}

all_at : {X : Type 0} (P : X → Type 0) (xs : List X) (k : ℕ) (x : X) → slice_get xs k ≡ Some x → All P xs → P x
all_at P xs k x e all = subst P (get_or_from_slice_get xs k x x e) (all k x (slice_get_within xs k x e))

module _ (count : ℕ) (made : List Made) (target : Made) (records : AreRecords made) (is_record : IsRecord (length made) target) (rules : All (NamesUpTo count) made) where
  -- a direct rule is one of the generators that the records name
  direct_within : (before : ℕ) (m : Made) (x : Replacement) → direct_of m ≡ Some x → NamesUpTo count m → IsWithin count before x.from
  direct_within before m x e named =
      let d = direct_is m x e in
      let first : (1 ≤ d.generator) × (d.generator ≤ count) = All-head (λ (r : Row). IsUpTo count r.from) _ [] (subst (All (λ (r : Row). IsUpTo count r.from)) d.rows_are named) in
      subst (IsWithin count before) (sym d.from_is) first

  rows_within : (done rest : List Numbered) → done ++ rest ≡ lemma_rules made target → (rows : List Row) → AllByRecursion (λ r. IsKnown made target records is_record done r.from) rows
      → All (λ r. IsUpTo count r.from) rows → All (λ r. IsWithin count (length done) r.from) (map (lemma_row (naming_of made target)) rows)
  rows_within done rest all [] known up_to = All-nil (λ (r : LemmaRow). IsWithin count (length done) r.from)
  rows_within done rest all (r ∷ rows) known up_to =
      All-cons (λ (l : LemmaRow). IsWithin count (length done) l.from) (lemma_row (naming_of made target) r) (map (lemma_row (naming_of made target)) rows)
      (by_source made target records is_record (λ o x. IsUpTo count o → IsWithin count (length done) x.from) done rest all
      (λ n h. h)
      (λ n m x positive item e h. direct_within (length done) m x e (all_at (NamesUpTo count) made (n - 1) m item rules))
      (λ n listed h. (number_positive n (done ++ rest), number_within n done rest listed))
      r.from known.0 (All-head (λ (s : Row). IsUpTo count s.from) r rows up_to))
      (rows_within done rest all rows known.1 (All-tail (λ (s : Row). IsUpTo count s.from) r rows up_to))

  name_earlier : (done rest : List Numbered) → done ++ rest ≡ lemma_rules made target → AllByRecursion (IsEntry made target records is_record) rest
      → NameEarlier count (length done) (map (lemma_of (naming_of made target)) (map (λ e. e.1) rest))
  name_earlier done [] all entries = tt
  name_earlier done (e ∷ rest) all entries =
      let known = lemma_knows made target records is_record done e rest all (records.at (e.0 - 1) e.1 entries.0.1) entries.0.0 entries.0.2 in
      let more : length (done ++ e ∷ []) ≡ suc (length done) = length-append done (e ∷ []) ∙ next (length done) in
      let later = name_earlier (done ++ e ∷ []) rest (append_assoc done (e ∷ []) rest ∙ all) entries.1 in (
        rows_within done (e ∷ rest) all e.1.rows known (all_at (NamesUpTo count) made (e.0 - 1) e.1 entries.0.1 rules),
        subst (λ n. NameEarlier count n (map (lemma_of (naming_of made target)) (map (λ (k : Numbered). k.1) rest))) more later,
      )
    where
      next : (n : ℕ) → n + 1 ≡ suc n
      next n = omega arith

-- the law
pub lemmas_are_named : LemmasAreNamed
lemmas_are_named count claim made target c records is_record rules at_target ends =
    let g = parts claim made target c ends in
    let f = lemma_of (naming_of made target) in
    let sized : length (lemma_rules made target) ≡ length (map f (lemma_records made target)) =
    sym (length-map (lemma_records made target) f ∙ length-map (lemma_rules made target) (λ (e : Numbered). e.1)) in
    let goal_within : NamesWithin count (length (map f (lemma_records made target))) (f target) =
    subst (λ n. NamesWithin count n (f target)) sized
    (rows_within count made target records is_record rules (lemma_rules made target) [] (append-nil (lemma_rules made target)) target.rows
    (target_knows made target records is_record (target_names made target records is_record)) at_target) in
    subst (λ (x : LemmaCertificate). NameEarlier count 0 x.lemmas × NamesWithin count (length x.lemmas) x.goal) g.is
    (name_earlier count made target records is_record rules [] (lemma_rules made target) refl (lemma_entries made target records is_record), goal_within)
