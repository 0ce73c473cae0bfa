-- An expansion is within the limits, and names the generators that the records name.
use Rattle.cofactor_trace.proofs.Prelude.{◌≡◌, ◌+◌, ◌≤◌, ◌*ℤ◌, false, ◌||◌, List, [], ◌∷◌, length, nat_lt, None, Ok, Err, refl, subst, arith, ltb-false, or_parts, nat_tests, sum_by-cons, All-from_recursion, sum_by, insert_entry, nat_cmp, Made, CertRow, Cofactors, Multiple, gathered, Known, common_denominator, joined, has_long_word, limit_fault, primitive, record_expansion, Numbered, Expansions, known_from, and_then, expansion_from, needed_rules, IsWithinLimits, ExpansionsFit}
use Rattle.cofactor_trace.specs.Expansion.{letter_count}
use Rattle.cofactor_trace.proofs.RecordLaws.{primitive_is}
use Rattle.cofactor_trace.proofs.Kept.{Each, each_primitive, sum-primitive}

-- the limits
abbrev IsShort : Multiple → Type 0
IsShort m = (length m.left ≤ 500) × (length m.right ≤ 500)

none_long : (rows : List CertRow) → has_long_word rows ≡ false → Each IsShort rows
none_long [] h = tt
none_long (r ∷ rows) h =
    let parts = or_parts (nat_lt 500 (length r.left) || nat_lt 500 (length r.right)) (has_long_word rows) h in
    let words = or_parts (nat_lt 500 (length r.left)) (nat_lt 500 (length r.right)) parts.0 in
    ((ltb-false 500 (length r.left) words.0, ltb-false 500 (length r.right) words.1), none_long rows parts.1)

-- a list that exceeds no limit
record Passes (rows : List CertRow) : Type 0 where
  short : has_long_word rows ≡ false
  few : length rows ≤ 200000
  letters : letter_count rows ≤ 1000000

passes : (rows : List CertRow) → limit_fault rows ≡ None → Passes rows
passes rows h = record { short = grind (arith, nat_tests); few = grind (arith, nat_tests); letters = grind (arith, nat_tests) }

ones : (rows : List CertRow) → sum_by (λ (r : CertRow). 1) rows ≡ length rows
ones [] = refl
ones (r ∷ rows) =
    let rest = ones rows in
    let more = sum_by-cons (λ (r : CertRow). 1) r rows in
    omega arith

record_fits : (known : Known) (m : Made) (c : Cofactors) → record_expansion known m ≡ Ok c → IsWithinLimits c.rows
record_fits known m c ends =
    let rows = joined known (common_denominator known m.rows) m.rows in
    let d = m.scale *ℤ common_denominator known m.rows in
    let parts = primitive_is known m c ends in
    let fits = passes rows parts.0 in
    let out = (primitive d (gathered rows)).rows in
    let many : length out ≤ 200000 = omega (arith, ones out, ones rows, sum-primitive (λ m. 1) d rows, fits.few) in
    let letters : letter_count out ≤ 1000000 = omega (arith, sum-primitive (λ m. length m.left + length m.right) d rows, fits.letters) in
    subst (λ (x : Cofactors). IsWithinLimits x.rows) parts.1
    (record {
      short = All-from_recursion (λ (r : CertRow). (length r.left ≤ 500) × (length r.right ≤ 500)) out (each_primitive IsShort d rows (none_long rows fits.short));
      few = many;
      letters = letters;
    })

fits_from : (expansions : Expansions) (rest : List Numbered) (target : Made) (c : Cofactors) → expansion_from expansions rest target ≡ Ok c → IsWithinLimits c.rows
fits_from expansions [] target c ends = record_fits (known_from expansions) target c ends
fits_from expansions (e ∷ rest) target c ends =
    (elim (record_expansion (known_from expansions) e.1) as (λ r. and_then r (λ x. expansion_from (insert_entry nat_cmp expansions e.0 x) rest target) ≡ Ok c → IsWithinLimits c.rows)
    [ Ok x ↦ λ ends. fits_from (insert_entry nat_cmp expansions e.0 x) rest target c ends | Err f ↦ λ ends. absurd (cc) ]) ends

-- the law
pub expansions_fit : ExpansionsFit
expansions_fit made target c ends = fits_from [] (needed_rules made target) target c ends
