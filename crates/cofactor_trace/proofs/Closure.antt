-- Each rule that the target or a needed rule names is needed, and comes before what names it.
use Rattle.cofactor_trace.proofs.Prelude.{cond_both, eqb_tells, nat_tests, ◌≡◌, ℕ, suc, ◌+◌, ◌<◌, ◌≤◌, Bool, true, false, cond, List, [], ◌∷◌, length, nat_eq, eqb-true, Some, sym, refl, subst, arith, All-head, All-tail, All, list_any, slice_get, Origin, Row, Made, IsAmongFirst, IsRecord, AreRecords, is_rule, is_named, Numbered, needed_from, needed_rules}
use Rattle.traced_rows.specs.declared.Origin.TheVariants as origin
use Rattle.cofactor_trace.proofs.NeededLaws.{records_of}

-- what rows name
abbrev pub names : ℕ → List Row → Bool
names n rows = list_any (λ r. is_rule n r.from) rows

in_first : (count n : ℕ) (o : Origin) → IsAmongFirst count o → is_rule n o ≡ true → (1 ≤ n) × (n ≤ count)
in_first count n (origin.Generator k) h e = absurd (cc)
in_first count n (origin.Rule k) h e = subst (λ j. (1 ≤ j) × (j ≤ count)) (sym (eqb-true n k e)) h

named_first : (count n : ℕ) (rows : List Row) → All (λ r. IsAmongFirst count r.from) rows → names n rows ≡ true → (1 ≤ n) × (n ≤ count)
named_first count n [] h e = absurd (cc)
named_first count n (r ∷ rows) h e =
    let here = in_first count n r.from (All-head (λ (s : Row). IsAmongFirst count s.from) r rows h) in
    let later = named_first count n rows (All-tail (λ (s : Row). IsAmongFirst count s.from) r rows h) in
    grind arith

pub record_names : (count n : ℕ) (m : Made) → IsRecord count m → names n m.rows ≡ true → (1 ≤ n) × (n ≤ count)
record_names count n m h e = named_first count n m.rows h.earlier e

-- records one after another
abbrev RecordsFrom : ℕ → List Made → Type 0
RecordsFrom place [] = Unit {0}
RecordsFrom place (m ∷ made) = IsRecord place m × RecordsFrom (suc place) made

records_from : (made : List Made) → AreRecords made → (place : ℕ) (xs : List Made) → ((k : ℕ) (m : Made) → slice_get xs k ≡ Some m → slice_get made (place + k) ≡ Some m) → RecordsFrom place xs
records_from made records place [] h = tt
records_from made records place (m ∷ xs) h =
    let here : place + 0 ≡ place = omega arith in (
      records.at place m (subst (λ n. slice_get made n ≡ Some m) here (h 0 m refl)),
      records_from made records (suc place) xs (λ k x e. let next : place + suc k ≡ suc place + k = omega arith in subst (λ n. slice_get made n ≡ Some x) next (h (suc k) x e)),
    )

-- whether the rule is one of them
abbrev pub is_numbered : ℕ → List Numbered → Bool
is_numbered n rest = list_any (λ e. nat_eq n e.0) rest

module _ (target : Made) where
  abbrev later : ℕ → List Made → List Numbered
  later place xs = needed_from target (suc (suc place)) xs

  -- a rule that is named after the first one is needed
  needed_if_named : (place : ℕ) (xs : List Made) → RecordsFrom place xs → (n : ℕ) → suc place ≤ n → n ≤ place + length xs
      → is_named n (target ∷ records_of (needed_from target (suc place) xs)) ≡ true → is_numbered n (needed_from target (suc place) xs) ≡ true
  needed_if_named place [] records n above below named = absurd (omega arith)
  needed_if_named place (m ∷ xs) records n above below named =
      let rest = λ (higher : suc (suc place) ≤ n). needed_if_named (suc place) xs records.1 n higher (omega arith) in
      let range = record_names place n m records.0 in
      let apart = eqb_tells n (suc place) in
      (elim (is_named (suc place) (target ∷ records_of (later place xs))) as (λ b. is_named (suc place) (target ∷ records_of (later place xs)) ≡ b
      → is_named n (target ∷ records_of (cond b ((suc place, m) ∷ later place xs) (later place xs))) ≡ true → is_numbered n (cond b ((suc place, m) ∷ later place xs) (later place xs)) ≡ true)
      [ true ↦ λ e named. grind (arith, nat_tests) | false ↦ λ e named. grind (arith, nat_tests) ]) refl named

  -- needed rules name rules of the list
  named_in_range : (place : ℕ) (xs : List Made) → RecordsFrom place xs → (n : ℕ) → is_named n (records_of (needed_from target (suc place) xs)) ≡ true → (1 ≤ n) × (n ≤ place + length xs)
  named_in_range place [] records n named = absurd (cc)
  named_in_range place (m ∷ xs) records n named =
      let rest = named_in_range (suc place) xs records.1 n in
      let range = record_names place n m records.0 in
      grind arith

  -- what the target or a needed rule names is needed
  pub named_is_needed : (made : List Made) → AreRecords made → IsRecord (length made) target → (n : ℕ)
      → is_named n (target ∷ records_of (needed_rules made target)) ≡ true → is_numbered n (needed_rules made target) ≡ true
  named_is_needed made records is_record n named =
      let from_first = records_from made records 0 made (λ k m h. let same : k ≡ 0 + k = omega arith in subst (λ j. slice_get made j ≡ Some m) same h) in
      let own = record_names (length made) n target is_record in
      let others = named_in_range 0 made from_first n in
      let range : (1 ≤ n) × (n ≤ length made) = grind arith in
      needed_if_named 0 made from_first n range.0 (omega (arith, range.1)) named

  -- in ascending order
  abbrev pub Above : ℕ → List Numbered → Type 0
  Above place [] = Unit {0}
  Above place (e ∷ rest) = (place < e.0) × Above e.0 rest

  pub above_lower : (low high : ℕ) (rest : List Numbered) → low ≤ high → Above high rest → Above low rest
  above_lower low high [] h above = tt
  above_lower low high (e ∷ rest) h above = (omega (arith, above.0), above.1)

  pub needed_ascend : (place : ℕ) (xs : List Made) → Above place (needed_from target (suc place) xs)
  needed_ascend place [] = tt
  needed_ascend place (m ∷ xs) =
      let rest = needed_ascend (suc place) xs in
      cond_both (is_named (suc place) (target ∷ records_of (later place xs))) _ _ (Above place) (λ e. (omega arith, rest)) (λ e. above_lower place (suc place) (later place xs) (omega arith) rest)

  pub numbered_above : (n place : ℕ) (rest : List Numbered) → Above place rest → is_numbered n rest ≡ true → place < n
  numbered_above n place [] above h = absurd (cc)
  numbered_above n place (e ∷ rest) above h = let later = numbered_above n e.0 rest above.1 in grind (arith, nat_tests)
