-- the running sum behind some rows
use Rattle.cofactor_checker.proofs.Prelude.{◌≡◌, ℕ, zero, suc, ◌+◌, ◌-◌, ◌<◌, ◌≤◌, ℤ, pos, ◌+ℤ◌, List, [], ◌∷◌, ◌++◌, length, map, take, slice_get, Some, None, ◌⊎◌, inl, inr, sym, refl, ap, ◌∙◌, subst, arith, BTreeMap, hash_map_len, IsUnique, take_all, take_more, length-map, cases_eq, option_map, slice_get_within, get_or_from_slice_get, slice_get-map, +ℤ_comm, +ℤ_assoc, Overflow, first_overflow, word_eq, coefficient_of, Row, generator_at, row_poly, row_sum, coefficient_of-append, Poly, polynomials, coefficient_in, IsSumOf, adding_operations, row_operations, term_count, IsNumberUpTo, RowPasses, RowsPass, Reaches, StopsAt, lacks, overflows, outgrows, Refusal, Table, coefficient_at, IsTable, Adds}
use Rattle.cofactor_checker.specs.declared.refusal.Refusal.TheVariants as refusal
use Rattle.cofactor_checker.proofs.Counts.{len-term_count}

-- one row more at the end
row_sum-push : (generators : List (List (ℤ × List ℕ))) (rows : List Row) (r : Row) (w : List ℕ)
    → coefficient_of (row_sum generators (rows ++ r ∷ [])) w ≡ coefficient_of (row_sum generators rows) w +ℤ coefficient_of (row_poly generators r) w
row_sum-push generators [] r w = coefficient_of-append (row_poly generators r) [] w ∙ +ℤ_comm (coefficient_of (row_poly generators r) w) (pos 0)
row_sum-push generators (s ∷ rows) r w =
    coefficient_of-append (row_poly generators s) (row_sum generators (rows ++ r ∷ [])) w
    ∙ ap (λ k. coefficient_of (row_poly generators s) w +ℤ k) (row_sum-push generators rows r w)
    ∙ sym (+ℤ_assoc (coefficient_of (row_poly generators s) w) (coefficient_of (row_sum generators rows) w) (coefficient_of (row_poly generators r) w))
    ∙ sym (ap (λ k. k +ℤ coefficient_of (row_poly generators r) w) (coefficient_of-append (row_poly generators s) (row_sum generators rows) w))

-- The table is the sum of the first i rows, and each of them passes.
pub record SumsUpTo (generators : List (List (ℤ × List ℕ))) (rows : List Row) (m : Table) (i : ℕ) : Type 0 where
  pub kept : IsTable m
  pub sum : (w : List ℕ) → coefficient_at m w ≡ coefficient_of (row_sum generators (take i rows)) w
  pub passed : RowsPass generators rows i

-- The turn of the row with this number, where so many stand before the list: it stands behind the first i rows, whose sum is the table.
pub record IsNext (generators : List (List (ℤ × List ℕ))) {X : Type 0} (as_row : X → Row) (items : List X) (m : Table) (before number i : ℕ) (x : X) : Type 0 where
  pub counted : number ≡ before + (i + 1)
  pub there : slice_get items i ≡ Some x
  pub so_far : SumsUpTo generators (map as_row items) m i

-- The row is over a generator, and is added to one table, which gives the other.
pub record IsAdded (generators : List (List (ℤ × List ℕ))) (m n : Table) (r : Row) : Type 0 where
  pub generator : IsNumberUpTo (length generators) r.generator
  pub operations : first_overflow (adding_operations (coefficient_at m) r.coefficient r.left (generator_at generators r.generator) r.right) ≡ None
  pub kept : IsTable n
  pub adds : Adds m n (row_poly generators r)
  pub unique : IsUnique word_eq n

module _ {generators : List (List (ℤ × List ℕ))} {X : Type 0} {as_row : X → Row} {items : List X} {m : Table} {before number i : ℕ} {x : X} (tell : ℕ → X → Refusal) (next : IsNext generators as_row items m before number i x) where
  abbrev rows : List Row
  rows = map as_row items

  abbrev r : Row
  r = as_row x

  row_there : slice_get rows i ≡ Some r
  row_there = slice_get-map as_row items i ∙ ap (option_map as_row) next.there

  reached : Reaches generators rows (i + 1) i r
  reached = record { numbered = refl; row = row_there; earlier = next.so_far.passed }

  -- the operations by what the table has
  operations_are : adding_operations (coefficient_at m) r.coefficient r.left (generator_at generators r.generator) r.right ≡ row_operations generators rows i r
  operations_are = ap (λ (f : List ℕ → ℤ). adding_operations f r.coefficient r.left (generator_at generators r.generator) r.right) (λ k w. next.so_far.sum w k)

  pub stops_lacking : (IsNumberUpTo (length generators) r.generator → ⊥) → StopsAt generators as_row tell (λ n. before + n) items (tell number x)
  stops_lacking none = lacks (i + 1) x (ap (λ n. tell n x) next.counted) (record { before = i; row = r; reached = reached; generator = none }) next.there

  pub stops_overflowing : {o : Overflow} → IsNumberUpTo (length generators) r.generator
      → first_overflow (adding_operations (coefficient_at m) r.coefficient r.left (generator_at generators r.generator) r.right) ≡ Some o
      → StopsAt generators as_row tell (λ n. before + n) items (refusal.Overflow number o)
  stops_overflowing {o = o} generator first =
      overflows (i + 1) o (ap (λ n. refusal.Overflow n o) next.counted) (record { before = i; row = r; reached = reached; generator = generator; operations = sym (ap first_overflow operations_are) ∙ first })

  module _ {n : Table} (added : IsAdded generators m n r) where
    operations_pass : first_overflow (row_operations generators rows i r) ≡ None
    operations_pass = sym (ap first_overflow operations_are) ∙ added.operations

    -- the table with the row
    sum_more : (w : List ℕ) → coefficient_at n w ≡ coefficient_of (row_sum generators (take (i + 1) rows)) w
    sum_more w =
        added.adds.at w ∙ ap (λ k. k +ℤ coefficient_of (row_poly generators r) w) (next.so_far.sum w) ∙ sym (row_sum-push generators (take i rows) r w)
        ∙ ap (λ rs. coefficient_of (row_sum generators rs) w) (sym (take_more rows i r (slice_get_within rows i r row_there) ∙ ap (λ x. take i rows ++ x ∷ []) (get_or_from_slice_get rows i r r row_there)))

    size_is : hash_map_len n ≡ term_count (row_sum generators (take (i + 1) rows))
    size_is = len-term_count n (row_sum generators (take (i + 1) rows)) added.unique added.kept sum_more

    pub stops_outgrown : 200000 < hash_map_len n → StopsAt generators as_row tell (λ n. before + n) items (refusal.Size number)
    stops_outgrown large =
        outgrows (i + 1) (ap refusal.Size next.counted) (record { before = i; row = r; reached = reached; generator = added.generator; operations = operations_pass; size = subst (λ k. 200000 < k) size_is large })

    pub passes : hash_map_len n ≤ 200000 → SumsUpTo generators rows n (i + 1)
    passes small = record { kept = added.kept; sum = sum_more; passed = record { at = each } }
      where
        here : RowPasses generators rows i r
        here = record { generator = added.generator; operations = operations_pass; size = subst (λ k. k ≤ 200000) size_is small }

        each : (j : ℕ) (s : Row) → j < i + 1 → slice_get rows j ≡ Some s → RowPasses generators rows j s
        each j s below at = by (cases_eq j i)
          where
            by : (j ≡ i) ⊎ (j ≡ i → ⊥) → RowPasses generators rows j s
            by (inl last) = let there = row_there in let same : s ≡ r = cc in subst (λ k. RowPasses generators rows k s) (sym last) (subst (RowPasses generators rows i) (sym same) here)
            by (inr earlier) = next.so_far.passed.at j s (omega arith) at

module _ {generators : List (List (ℤ × List ℕ))} {rows : List Row} {m : Table} {i : ℕ} (so_far : SumsUpTo generators rows m i) (all : length rows ≤ i) where
  pub whole_sum : (sum : BTreeMap (List ℕ) ℤ) → ((w : List ℕ) → coefficient_in sum w ≡ coefficient_at m w) → IsSumOf sum (row_sum generators rows)
  whole_sum sum same = record { at = λ w. same w ∙ so_far.sum w ∙ ap (λ rs. coefficient_of (row_sum generators rs) w) (take_all i rows all) }

  pub all_pass : RowsPass generators rows (length rows)
  all_pass = record { at = λ j r below there. so_far.passed.at j r (omega arith) there }

-- the item with a number
pub generator_at_numbered : (ps : List Poly) (n : ℕ) (p : Poly) → IsNumberUpTo (length ps) n → slice_get ps (n - 1) ≡ Some p → generator_at (polynomials ps) n ≡ p.terms
generator_at_numbered ps zero p numbered there = absurd (omega arith)
generator_at_numbered ps (suc k) p numbered there =
    let place : suc k - 1 ≡ k = omega arith in
    get_or_from_slice_get (polynomials ps) k p.terms [] (slice_get-map (λ (q : Poly). q.terms) ps k ∙ ap (λ j. option_map (λ (q : Poly). q.terms) (slice_get ps j)) (sym place) ∙ ap (option_map (λ (q : Poly). q.terms)) there)

pub length-polynomials : (ps : List Poly) → length (polynomials ps) ≡ length ps
length-polynomials ps = length-map ps (λ (q : Poly). q.terms)

-- The number names the polynomial.
pub record Names (ps : List Poly) (n : ℕ) (p : Poly) : Type 0 where
  pub number : IsNumberUpTo (length (polynomials ps)) n
  pub terms : p.terms ≡ generator_at (polynomials ps) n

pub named : (ps : List Poly) (n : ℕ) (p : Poly) → IsNumberUpTo (length ps) n → slice_get ps (n - 1) ≡ Some p → Names ps n p
named ps n p number there = record {
  number = subst (λ k. IsNumberUpTo k n) (sym (length-polynomials ps)) number;
  terms = sym (generator_at_numbered ps n p number there);
}
