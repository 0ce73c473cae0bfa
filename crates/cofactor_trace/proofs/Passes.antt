-- Expansions one after another balance, since each stands on balanced ones.
use Rattle.cofactor_trace.proofs.Prelude.{◌≡◌, ℕ, suc, ◌-◌, ℤ, pos, ◌<ℤ◌, Bool, true, ◌||◌, List, [], ◌∷◌, nat_eq, eqb-true, eq-eqb, Result, Ok, Err, unwrap_or, sym, refl, ap, subst, ◌∙◌, arith, cond_both, or_left, or_right, nat_tests, ints, ranked, append-nil, AllByRecursion, list_any, lookup, insert_entry, is_at, nat_cmp, is_eq, match_ordering, Ordering, Less, Equal, Greater, Term, coefficient_of, poly_multiple, generator_at, IsCombination, Origin, Row, Made, Cofactors, ExpandFault, rows_of, record_expansion, Traces, ExpansionsBalance, IsRecord, is_rule, is_named, Numbered, needed_rules, Expansions, none, known_from, and_then, expansion_from, between-nothing}
use Rattle.traced_rows.specs.declared.Origin.TheVariants as origin
use Rattle.cofactor_trace.proofs.Balance.{IsKnown, record_balances}
use Rattle.cofactor_trace.proofs.Closure.{names, record_names, is_numbered, named_is_needed, Above, needed_ascend, numbered_above}
use Rattle.cofactor_trace.proofs.NeededLaws.{records_of, AreNumbered, all_numbered}

-- whether the rule is listed
abbrev is_key : ℕ → Expansions → Bool
is_key n entries = list_any (λ e. is_eq (nat_cmp n e.0)) entries

key_new : (entries : Expansions) (k : ℕ) (c : Cofactors) → is_key k (insert_entry nat_cmp entries k c) ≡ true
key_new [] k c = grind (arith, nat_tests)
key_new (e ∷ entries) k c = let rest = key_new entries k c in grind (arith, nat_tests)

key_kept : (entries : Expansions) (k n : ℕ) (c : Cofactors) → is_key n entries ≡ true → is_key n (insert_entry nat_cmp entries k c) ≡ true
key_kept [] k n c h = absurd (cc)
key_kept (e ∷ entries) k n c h = let rest = key_kept entries k n c in grind (arith, nat_tests)

module _ (P : ℕ × Cofactors → Type 0) where
  pub each_with : (entries : Expansions) (k : ℕ) (c : Cofactors) → AllByRecursion P entries → P (k, c) → AllByRecursion P (insert_entry nat_cmp entries k c)
  each_with [] k c h p = (p, tt)
  each_with (e ∷ entries) k c h p = go (nat_cmp k e.0) refl (each_with entries k c h.1 p)
    where
      go : (o : Ordering) → nat_cmp k e.0 ≡ o → AllByRecursion P (insert_entry nat_cmp entries k c) → AllByRecursion P (match_ordering o ((k, c) ∷ (e ∷ entries)) ((e.0, c) ∷ entries) (e ∷ insert_entry nat_cmp entries k c))
      go Less same rest = (p, h)
      go Equal same rest = let number : k ≡ e.0 = ranked k e.0 Equal (sym same) in (subst (λ n. P (n, c)) number p, h.1)
      go Greater same rest = (h.0, rest)

  found : (entries : Expansions) (n : ℕ) → is_key n entries ≡ true → AllByRecursion P entries → P (n, unwrap_or (lookup (is_at (nat_cmp n)) entries) none)
  found [] n h each = absurd (cc)
  found (e ∷ entries) n h each =
      cond_both (is_eq (nat_cmp n e.0)) _ _ (λ o. P (n, unwrap_or o none))
      (λ same. let number : e.0 ≡ n = grind (arith, nat_tests) in subst (λ k. P (k, e.1)) number each.0)
      (λ other. found entries n (grind (arith, nat_tests)) each.1)

-- one expansion after another
module _ (generators rules : List (List (ℤ × List ℕ))) (target : Made) (p : List Term) where
  -- an expansion of the rule with the number
  abbrev IsExpansion : ℕ × Cofactors → Type 0
  IsExpansion e = IsCombination generators (rows_of e.1.rows) e.1.denominator (generator_at rules e.0)

  -- a record of the rule with the number
  abbrev IsTrace : Numbered → Type 0
  IsTrace e = IsRecord (e.0 - 1) e.1 × Traces generators rules e.1 (generator_at rules e.0)

  itself_known : (expansions : Expansions) (n : ℕ) → IsKnown generators rules (known_from expansions) (origin.Generator n)
  itself_known expansions n = record {
    positive = omega (arith, ints);
    sum = record { at = λ w. ap (λ q. coefficient_of q w) (append-nil _ ∙ ap (poly_multiple (pos 1)) (between-nothing (generator_at generators n))) };
  }

  rows_known : (expansions : Expansions) (rows : List Row) → AllByRecursion IsExpansion expansions → ((n : ℕ) → names n rows ≡ true → is_key n expansions ≡ true)
      → AllByRecursion (λ r. IsKnown generators rules (known_from expansions) r.from) rows
  rows_known expansions [] each h = tt
  rows_known expansions (r ∷ rows) each h = (go r.from (λ n e. h n (or_left (is_rule n r.from) (names n rows) e)), rows_known expansions rows each (λ n e. h n (or_right (is_rule n r.from) (names n rows) e)))
    where
      go : (o : Origin) → ((n : ℕ) → is_rule n o ≡ true → is_key n expansions ≡ true) → IsKnown generators rules (known_from expansions) o
      go (origin.Generator n) k = itself_known expansions n
      go (origin.Rule n) k = found IsExpansion expansions n (k n (eq-eqb n n refl)) each

  pub passes : (expansions : Expansions) (place : ℕ) (rest : List Numbered) (c : Cofactors)
      → AllByRecursion IsExpansion expansions → ((n : ℕ) → is_named n (target ∷ records_of rest) ≡ true → is_key n expansions || is_numbered n rest ≡ true)
      → Above target place rest → AllByRecursion IsTrace rest → pos 0 <ℤ target.scale → Traces generators rules target p
      → expansion_from expansions rest target ≡ Ok c → IsCombination generators (rows_of c.rows) c.denominator p
  passes expansions place [] c each covered above traces scale_in traced ends =
      record_balances generators rules (known_from expansions) target p c scale_in
      (rows_known expansions target.rows each (λ n e. let here = covered n (or_left _ _ e) in grind arith)) traced ends
  passes expansions place (e ∷ rest) c each covered above traces scale_in traced ends =
      go (record_expansion (known_from expansions) e.1) refl ends
      (λ c1 known. passes (insert_entry nat_cmp expansions e.0 c1) e.0 rest c (each_with IsExpansion expansions e.0 c1 each known) (covered_then c1) above.1 traces.1 scale_in traced)
    where
      -- the rule's own rows name rules that are listed
      own : (n : ℕ) → names n e.1.rows ≡ true → is_key n expansions ≡ true
      own n named =
          let range = record_names (e.0 - 1) n e.1 traces.0.0 named in
          let past = numbered_above target n e.0 rest above.1 in
          let listed = covered n (or_right _ _ (or_left _ _ named)) in
          grind (arith, nat_tests)

      covered_then : (c1 : Cofactors) (n : ℕ) → is_named n (target ∷ records_of rest) ≡ true → is_key n (insert_entry nat_cmp expansions e.0 c1) || is_numbered n rest ≡ true
      covered_then c1 n named =
          let new = λ (same : nat_eq n e.0 ≡ true). subst (λ k. is_key k (insert_entry nat_cmp expansions e.0 c1) ≡ true) (sym (eqb-true n e.0 same)) (key_new expansions e.0 c1) in
          let kept = key_kept expansions e.0 n c1 in
          let covers : is_named n (target ∷ (e.1 ∷ records_of rest)) ≡ true = grind arith in
          let listed = covered n covers in
          grind arith

      go : (r : Result Cofactors ExpandFault) → record_expansion (known_from expansions) e.1 ≡ r → and_then r (λ c. expansion_from (insert_entry nat_cmp expansions e.0 c) rest target) ≡ Ok c
          → ((c1 : Cofactors) → IsExpansion (e.0, c1) → expansion_from (insert_entry nat_cmp expansions e.0 c1) rest target ≡ Ok c → IsCombination generators (rows_of c.rows) c.denominator p)
          → IsCombination generators (rows_of c.rows) c.denominator p
      go (Ok c1) is ends next = next c1 (record_balances generators rules (known_from expansions) e.1 (generator_at rules e.0) c1 traces.0.0.positive (rows_known expansions e.1.rows each own) traces.0.1 is) ends
      go (Err f) is ends next = absurd (cc)

-- the law
pub expansions_balance : ExpansionsBalance
expansions_balance generators rules made target p c records is_record traces traced ends =
    passes generators rules target p [] 0 (needed_rules made target) c tt
    (λ n named. named_is_needed target made records is_record n named)
    (needed_ascend target 0 made) (each (needed_rules made target) (all_numbered made target)) is_record.positive traced ends
  where
    each : (rest : List Numbered) → AreNumbered made rest → AllByRecursion (λ e. IsRecord (e.0 - 1) e.1 × Traces generators rules e.1 (generator_at rules e.0)) rest
    each [] h = tt
    each (e ∷ rest) h =
        let number : suc (e.0 - 1) ≡ e.0 = omega (arith, h.0.0) in
        ((records.at (e.0 - 1) e.1 h.0.1, subst (λ n. Traces generators rules e.1 (generator_at rules n)) number (traces.at (e.0 - 1) e.1 h.0.1)), each rest h.1)
