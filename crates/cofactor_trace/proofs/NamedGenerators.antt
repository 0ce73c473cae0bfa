-- An expansion is over the generators that the records name.
use Rattle.cofactor_trace.proofs.Prelude.{refl, Option, ◌≡◌, ℕ, ◌≤◌, ℤ, ◌*ℤ◌, List, [], ◌∷◌, map, Ok, Err, unwrap_or, subst, cond_both, All-head, All-tail, All-from_recursion, All, AllByRecursion, lookup, insert_entry, is_at, nat_cmp, is_eq, Origin, Row, Made, CertRow, Cofactors, Multiple, Known, common_denominator, joined, joined_rows, joined_row, share, record_expansion, IsUpTo, NamesUpTo, GeneratorsAreNamed, Numbered, Expansions, none, known_from, and_then, expansion_from, needed_rules}
use Rattle.traced_rows.specs.declared.Origin.TheVariants as origin
use Rattle.cofactor_trace.proofs.GatheredParts.{needed_each}
use Rattle.cofactor_trace.proofs.Kept.{Each, each_append, each_primitive}
use Rattle.cofactor_trace.proofs.Passes.{each_with}
use Rattle.cofactor_trace.proofs.RecordLaws.{primitive_is}

module _ (count : ℕ) where
  -- its generator is one of the first
  abbrev IsOver : Multiple → Type 0
  IsOver m = (1 ≤ m.generator) × (m.generator ≤ count)

  abbrev AreOver : List CertRow → Type 0
  AreOver rows = Each IsOver rows

  joined_over : (k : ℤ) (outer : Row) (inner : List CertRow) → AreOver inner → AreOver (map (joined_row k outer) inner)
  joined_over k outer [] h = tt
  joined_over k outer (s ∷ inner) h = (h.0, joined_over k outer inner h.1)

  all_over : (known : Known) (common : ℤ) (rows : List Row) → AllByRecursion (λ r. AreOver (known r.from).rows) rows → AreOver (joined known common rows)
  all_over known common [] h = tt
  all_over known common (r ∷ rows) h =
      each_append IsOver (joined_rows known common r) (joined known common rows)
      (joined_over (r.coef *ℤ share known common r) r (known r.from).rows h.0) (all_over known common rows h.1)

  -- the list of expansions
  abbrev EachOver : Expansions → Type 0
  EachOver expansions = AllByRecursion (λ e. AreOver e.1.rows) expansions

  found_over : (expansions : Expansions) (n : ℕ) → EachOver expansions → AreOver (unwrap_or (lookup (is_at (nat_cmp n)) expansions) none).rows
  found_over [] n h = tt
  found_over (e ∷ expansions) n h =
      let rest = found_over expansions n h.1 in
      cond_both (is_eq (nat_cmp n e.0)) _ _ (λ (o : Option Cofactors). AreOver (unwrap_or o none).rows) (λ _. h.0) (λ _. rest)

  known_over : (expansions : Expansions) → EachOver expansions → (rows : List Row) → All (λ r. IsUpTo count r.from) rows → AllByRecursion (λ r. AreOver (known_from expansions r.from).rows) rows
  known_over expansions each [] h = tt
  known_over expansions each (r ∷ rows) h = (go r.from (All-head (λ (s : Row). IsUpTo count s.from) r rows h), known_over expansions each rows (All-tail (λ (s : Row). IsUpTo count s.from) r rows h))
    where
      go : (o : Origin) → IsUpTo count o → AreOver (known_from expansions o).rows
      go (origin.Generator n) up_to = (up_to, tt)
      go (origin.Rule n) up_to = found_over expansions n each

  record_over : (expansions : Expansions) (m : Made) (c : Cofactors) → EachOver expansions → NamesUpTo count m → record_expansion (known_from expansions) m ≡ Ok c → AreOver c.rows
  record_over expansions m c each names ends =
      let known = known_from expansions in
      let common = common_denominator known m.rows in
      let rows = joined known common m.rows in
      subst (λ (x : Cofactors). AreOver x.rows) (primitive_is known m c ends).1
      (each_primitive IsOver (m.scale *ℤ common) rows (all_over known common m.rows (known_over expansions each m.rows names)))

  over_from : (expansions : Expansions) (rest : List Numbered) (target : Made) (c : Cofactors) → EachOver expansions → All (λ e. NamesUpTo count e.1) rest → NamesUpTo count target
      → expansion_from expansions rest target ≡ Ok c → AreOver c.rows
  over_from expansions [] target c each rules names ends = record_over expansions target c each names ends
  over_from expansions (e ∷ rest) target c each rules names ends =
      (elim (record_expansion (known_from expansions) e.1) as (λ r. record_expansion (known_from expansions) e.1 ≡ r → and_then r (λ x. expansion_from (insert_entry nat_cmp expansions e.0 x) rest target) ≡ Ok c → AreOver c.rows) [
        | Ok x ↦ λ is ends.
            let here = record_over expansions e.1 x each (All-head (λ (d : Numbered). NamesUpTo count d.1) e rest rules) is in
            over_from (insert_entry nat_cmp expansions e.0 x) rest target c (each_with (λ d. AreOver d.1.rows) expansions e.0 x each here) (All-tail (λ (d : Numbered). NamesUpTo count d.1) e rest rules) names ends
        | Err f ↦ λ is ends. absurd (cc)
      ]) refl ends

-- the law
pub generators_are_named : GeneratorsAreNamed
generators_are_named count made target c rules names ends =
    All-from_recursion (λ (r : CertRow). (1 ≤ r.generator) × (r.generator ≤ count)) c.rows
    (over_from count [] (needed_rules made target) target c tt (needed_each 0 made target (NamesUpTo count) 1 made rules) names ends)
