-- Where the expansion of a record ends.
use Rattle.cofactor_trace.proofs.Prelude.{◌≡◌, ℤ, pos, ◌*ℤ◌, List, [], ◌∷◌, ◌++◌, Option, Some, None, Ok, refl, sym, ap, subst, ◌∙◌, option_map, Overflow, IsCoefficient, product_of, first_overflow, first-fits, first-fails, Row, Made, CertRow, Cofactors, ExpandFault, gathered, sums_of_gathering, Known, multiple_products, denominators, common_denominator, denominator_products, joined, joined_products, limit_fault, primitive, overflow_in, record_expansion, Explains, IsFirst, IsOverflowOf, Entries, with_rows, rows_in}
use Rattle.cofactor_trace.specs.declared.fault.ExpandFault.TheVariants as fault
use Rattle.cofactor_trace.proofs.Operations.{first-behind}
use Rattle.cofactor_trace.proofs.Halts.{explains-first, explains-later, ok-later, is_first-append, unless_ok, unmapped-none}
use Rattle.cofactor_trace.proofs.TableLaws.{unless_overflow, rows_in-with_rows}

module _ (known : Known) (m : Made) where
  -- L is found
  pub record IsCommon (rows : List Row) (common : ℤ) : Type 0 where
    pub same_rows : rows ≡ m.rows
    pub products : overflow_in (multiple_products (pos 1) (denominators known rows)) ≡ None
    pub value : common ≡ common_denominator known rows

  -- and the denominator fits
  pub record Begins (rows : List Row) (common : ℤ) : Type 0 where
    pub found : IsCommon rows common
    pub fits : IsCoefficient (m.scale *ℤ common)

  abbrev first_products : List Overflow
  first_products = multiple_products (pos 1) (denominators known m.rows)

  abbrev whole : ℤ
  whole = common_denominator known m.rows

  common_is : (rows : List Row) (common : ℤ) → IsCommon rows common → common ≡ whole
  common_is rows common h = h.value ∙ ap (common_denominator known) h.same_rows

  none_before : (rows : List Row) (common : ℤ) → IsCommon rows common → first_overflow first_products ≡ None
  none_before rows common h = unmapped-none fault.Overflow (first_overflow first_products) (ap (λ l. overflow_in (multiple_products (pos 1) (denominators known l))) (sym h.same_rows) ∙ h.products)

  -- the denominator
  pub at_common : (rows : List Row) (e : ExpandFault) → rows ≡ m.rows → IsFirst (overflow_in (multiple_products (pos 1) (denominators known rows))) e → Explains (record_expansion known m) e
  at_common rows e same h =
      explains-first (overflow_in (denominator_products known m)) _ e
      (is_first-append first_products (product_of m.scale whole ∷ []) e (subst (λ l. IsFirst (overflow_in (multiple_products (pos 1) (denominators known l))) e) same h))

  pub at_denominator : (rows : List Row) (common : ℤ) → IsCommon rows common → ¬ IsCoefficient (m.scale *ℤ common) → Explains (record_expansion known m) (fault.Overflow (product_of m.scale common))
  at_denominator rows common h fails =
      let is = common_is rows common h in
      let last : first_overflow (product_of m.scale whole ∷ []) ≡ Some (product_of m.scale whole) =
      first-fails (product_of m.scale whole) [] (subst (λ z. ¬ IsCoefficient (m.scale *ℤ z)) is fails) in
      subst (λ z. Explains (record_expansion known m) (fault.Overflow (product_of m.scale z))) (sym is)
      (explains-first (overflow_in (denominator_products known m)) _ (fault.Overflow (product_of m.scale whole))
      (ap (option_map fault.Overflow) (first-behind first_products (product_of m.scale whole ∷ []) (none_before rows common h) ∙ last)))

  denominator_fits : (rows : List Row) (common : ℤ) → Begins rows common → overflow_in (denominator_products known m) ≡ None
  denominator_fits rows common h =
      let fits : IsCoefficient (m.scale *ℤ whole) = subst (λ z. IsCoefficient (m.scale *ℤ z)) (common_is rows common h.found) h.fits in
      ap (option_map fault.Overflow) (first-behind first_products (product_of m.scale whole ∷ []) (none_before rows common h.found) ∙ first-fits (product_of m.scale whole) [] fits)

  -- what is said of the rows that are found is said of the record
  here : (rows : List Row) (common : ℤ) → Begins rows common → (P : ℤ → List Row → Type 0) → P common rows → P whole m.rows
  here rows common h P p = subst (λ l. P whole l) h.found.same_rows (subst (λ z. P z rows) (common_is rows common h.found) p)

  pub at_limits : (rows : List Row) (common : ℤ) (e : ExpandFault) → Begins rows common → IsFirst (limit_fault (joined known common rows)) e → Explains (record_expansion known m) e
  at_limits rows common e h stopped =
      explains-later (overflow_in (denominator_products known m)) _ e (denominator_fits rows common h)
      (explains-first (limit_fault (joined known whole m.rows)) _ e (here rows common h (λ z l. IsFirst (limit_fault (joined known z l)) e) stopped))

  -- what follows the limits
  abbrev operations : List Overflow
  operations = joined_products known whole m.rows ++ sums_of_gathering (joined known whole m.rows)

  behind_limits : (rows : List Row) (common : ℤ) (e : ExpandFault) → Begins rows common → limit_fault (joined known common rows) ≡ None → IsFirst (overflow_in operations) e → Explains (record_expansion known m) e
  behind_limits rows common e h short stopped =
      explains-later (overflow_in (denominator_products known m)) _ e (denominator_fits rows common h)
      (explains-later (limit_fault (joined known whole m.rows)) _ e (here rows common h (λ z l. limit_fault (joined known z l) ≡ None) short)
      (explains-first (overflow_in operations) _ e stopped))

  pub at_rows : (rows : List Row) (common : ℤ) (e : ExpandFault) → Begins rows common → limit_fault (joined known common rows) ≡ None
      → IsFirst (overflow_in (joined_products known common rows)) e → Explains (record_expansion known m) e
  at_rows rows common e h short stopped =
      behind_limits rows common e h short
      (is_first-append (joined_products known whole m.rows) (sums_of_gathering (joined known whole m.rows)) e
      (here rows common h (λ z l. IsFirst (overflow_in (joined_products known z l)) e) stopped))

  -- the end
  pub record AddsUp (rows : List Row) (common : ℤ) (entries : Entries) : Type 0 where
    pub begins : Begins rows common
    pub short : limit_fault (joined known common rows) ≡ None
    pub products : overflow_in (joined_products known common rows) ≡ None
    pub entries_are : entries ≡ with_rows [] (joined known common rows)

  rows_are : (rows : List Row) (common : ℤ) (entries : Entries) → AddsUp rows common entries
      → rows_in entries ≡ unless_overflow (first_overflow (sums_of_gathering (joined known whole m.rows))) (gathered (joined known whole m.rows))
  rows_are rows common entries h =
      ap rows_in (here rows common h.begins (λ z l. entries ≡ with_rows [] (joined known z l)) h.entries_are) ∙ rows_in-with_rows (joined known whole m.rows)

  no_product : (rows : List Row) (common : ℤ) (entries : Entries) → AddsUp rows common entries → first_overflow operations ≡ first_overflow (sums_of_gathering (joined known whole m.rows))
  no_product rows common entries h =
      first-behind (joined_products known whole m.rows) (sums_of_gathering (joined known whole m.rows))
      (unmapped-none fault.Overflow (first_overflow (joined_products known whole m.rows)) (here rows common h.begins (λ z l. overflow_in (joined_products known z l) ≡ None) h.products))

  first_of : (f : Option Overflow) (rows : List CertRow) (e : ExpandFault) → IsOverflowOf (unless_overflow f rows) e → IsFirst (option_map fault.Overflow f) e
  first_of None rows (fault.Overflow o) h = absurd (cc)
  first_of (Some p) rows (fault.Overflow o) h = ap (λ (o : Overflow). Some (fault.Overflow o)) (cc)
  first_of f rows (fault.Memory e) h = tt
  first_of f rows _ h = absurd h

  pub at_gathering : (rows : List Row) (common : ℤ) (entries : Entries) (e : ExpandFault) → AddsUp rows common entries → IsOverflowOf (rows_in entries) e → Explains (record_expansion known m) e
  at_gathering rows common entries e h stopped =
      let sums = first_overflow (sums_of_gathering (joined known whole m.rows)) in
      behind_limits rows common e h.begins h.short
      (subst (λ f. IsFirst (option_map fault.Overflow f) e) (sym (no_product rows common entries h))
      (first_of sums (gathered (joined known whole m.rows)) e (subst (λ r. IsOverflowOf r e) (rows_are rows common entries h) stopped)))

  none_and_same : (f : Option Overflow) (xs ys : List CertRow) → unless_overflow f xs ≡ Ok ys → (f ≡ None) × (xs ≡ ys)
  none_and_same None xs ys h = (refl, cc)
  none_and_same (Some o) xs ys h = absurd (cc)

  pub at_end : (rows : List Row) (common : ℤ) (entries : Entries) (out : List CertRow) → AddsUp rows common entries → rows_in entries ≡ Ok out → record_expansion known m ≡ Ok (primitive (m.scale *ℤ common) out)
  at_end rows common entries out h ends =
      let parts = none_and_same (first_overflow (sums_of_gathering (joined known whole m.rows))) (gathered (joined known whole m.rows)) out (sym (rows_are rows common entries h) ∙ ends) in
      ok-later (overflow_in (denominator_products known m)) _ _ (denominator_fits rows common h.begins)
      (ok-later (limit_fault (joined known whole m.rows)) _ _ (here rows common h.begins (λ z l. limit_fault (joined known z l) ≡ None) h.short)
      (ok-later (overflow_in operations) _ _ (ap (option_map fault.Overflow) (no_product rows common entries h ∙ parts.0)) refl))
      ∙ ap (λ l. Ok (primitive (m.scale *ℤ whole) l)) parts.1 ∙ ap (λ z. Ok (primitive (m.scale *ℤ z) out)) (sym (common_is rows common h.begins.found))

  -- a result has no fault before it
  pub primitive_is : (c : Cofactors) → record_expansion known m ≡ Ok c → (limit_fault (joined known whole m.rows) ≡ None) × (primitive (m.scale *ℤ whole) (gathered (joined known whole m.rows)) ≡ c)
  primitive_is c ends =
      let out = primitive (m.scale *ℤ whole) (gathered (joined known whole m.rows)) in
      let limits = unless_ok (limit_fault (joined known whole m.rows)) _ c (unless_ok (overflow_in (denominator_products known m)) _ c ends).1 in
      let last : Ok out ≡ Ok c = (unless_ok (overflow_in operations) (Ok out) c limits.1).1 in
      (limits.0, cc)
