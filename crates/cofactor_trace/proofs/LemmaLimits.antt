-- Counts that stop at the greatest number say which limit a certificate with lemmas exceeds.
use Rattle.cofactor_trace.proofs.Prelude.{◌≡◌, ℕ, ◌+◌, ◌-◌, ◌^◌, ◌≤◌, min, Bool, true, false, List, [], ◌∷◌, length, map, nat_lt, Option, Some, None, ap, ◌∙◌, arith, if◌then◌else◌, fold, sum_by, length-map, sum_by-cons, Row, Made, LemmaRow, Lemma, GatherFault, Extent, Naming, lemma_row, lemma_of, row_count, letter_count, letters_with, extended, extended_all, no_extent, limit_of}
use Rattle.cofactor_trace.specs.declared.fault.GatherFault.TheVariants as fault
use Rattle.cofactor_trace.specs.Lemmas.{limit_fault}
use Rattle.cofactor_trace.proofs.SizeLaws.{below_cap}

module _ (naming : Naming) where
  abbrev lemmas_of : List Made → List Lemma
  lemmas_of ms = map (lemma_of naming) ms

  abbrev letters_in : List LemmaRow → ℕ
  letters_in rows = sum_by (λ r. length r.left + length r.right) rows

  letters_folded : (letters : ℕ) (rows : List Row) → letters ≤ 2 ^ 64 - 1 → fold letters_with letters rows ≡ min (letters + letters_in (map (lemma_row naming) rows)) (2 ^ 64 - 1)
  letters_folded letters [] h = omega arith
  letters_folded letters (r ∷ rows) h =
      let rest = letters_folded (letters_with letters r) rows (omega arith) in
      let more : letters_in (map (lemma_row naming) (r ∷ rows)) ≡ (length r.left + length r.right) + letters_in (map (lemma_row naming) rows) =
      sum_by-cons (λ (x : LemmaRow). length x.left + length x.right) (lemma_row naming r) (map (lemma_row naming) rows) in
      omega (arith, rest, more)

  rows_are : (extent : Extent) (ms : List Made) → extent.rows ≤ 2 ^ 64 - 1 → (extended_all extent ms).rows ≡ min (extent.rows + row_count (lemmas_of ms)) (2 ^ 64 - 1)
  rows_are extent [] h = omega arith
  rows_are extent (m ∷ ms) h =
      let rest = rows_are (extended extent m) ms (omega arith) in
      let more = sum_by-cons (λ (l : Lemma). length l.rows) (lemma_of naming m) (lemmas_of ms) in
      let same = length-map m.rows (lemma_row naming) in
      omega (arith, rest, more, same)

  letters_are : (extent : Extent) (ms : List Made) → extent.letters ≤ 2 ^ 64 - 1 → (extended_all extent ms).letters ≡ min (extent.letters + letter_count (lemmas_of ms)) (2 ^ 64 - 1)
  letters_are extent [] h = omega arith
  letters_are extent (m ∷ ms) h =
      let here = letters_folded extent.letters m.rows h in
      let rest = letters_are (extended extent m) ms (omega (arith, here)) in
      let more = sum_by-cons (λ (l : Lemma). letters_in l.rows) (lemma_of naming m) (lemmas_of ms) in
      omega (arith, here, rest, more)

  -- the limits
  limits : Bool → Bool → Option GatherFault
  limits rows letters = if rows then Some (fault.Rows false) else (if letters then Some (fault.Rows true) else None)

  pub limit_of-extended : (ms : List Made) → limit_of (extended_all no_extent ms) ≡ limit_fault (map (lemma_of naming) ms)
  unfolding limits
  limit_of-extended ms =
      let a = ap (nat_lt 200000) (rows_are no_extent ms (omega arith)) ∙ below_cap 200000 (row_count (lemmas_of ms)) (omega arith) in
      let b = ap (nat_lt 1000000) (letters_are no_extent ms (omega arith)) ∙ below_cap 1000000 (letter_count (lemmas_of ms)) (omega arith) in
      λ i. limits (a i) (b i)
